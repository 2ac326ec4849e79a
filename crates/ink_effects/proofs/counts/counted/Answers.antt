use Rattle.std.proofs.Common.{◌≡◌, None, rules, subst}
use Rattle.ink_effects.proofs.Common.{at, place_of}
use Rattle.ink_effects.proofs.Landings.{uncounted}
use Rattle.ink_effects.proofs.counts.counted.Goals as goal

pub returns-in_err-node : goal.returns-in_err-node
returns-in_err-node c =
    let is : c.from_residual.result ≡ None = search rules in
    rw is (uncounted _ _ (subst (λ s. at s (place_of s c.args.here) ≡ None) c.tree.ensures.tree c.in_err-node.ensures))
