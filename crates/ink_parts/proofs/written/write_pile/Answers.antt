use Rattle.std.proofs.Common.{◌≡◌, ◌∙◌, IfOk, subst}
use Rattle.ink_parts.proofs.Common.{view, story_tree}
use Rattle.ink_parts.proofs.Arrays.{piled}
use Rattle.ink_parts.proofs.written.write_pile.Goals as goal

pub returns : goal.returns
returns g c last same = subst (λ q. IfOk c.with_last.result (λ json. view json ≡ q))
    (piled (g.T.Written.spelling (story_tree c.args.tree.now)) _ last _ _ c.in_ok-made.ensures (c.in_ok-last.ensures ∙ same)) c.with_last.ensures
