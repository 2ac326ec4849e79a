use Rattle.std.proofs.Common.{◌≡◌, ◌∙◌, ◌&&◌, None, Option, Some, ap, is_none, is_some, not, refl, sym}
use Rattle.ink_restore.proofs.Common.{rows_of, at}
use Rattle.ink_host.proofs.Entries.{found}
use Rattle.ink_restore.proofs.flowing.may_join.Goals as goal

not_there : {A : Type 0} (o : Option A) → not (is_some o) ≡ is_none o
not_there None = refl
not_there (Some x) = refl

pub returns-then-is_flow_name : goal.returns-then-is_flow_name
returns-then-is_flow_name c =
    let name = c.args.name.now in
    let rows = rows_of c.args.rows.now.entries in
    ap not (c.contains_key.ensures ∙ ap is_some (found name c.args.rows.now.entries)) ∙ not_there (at name rows)
    ∙ ap (λ b. b && is_none (at name rows)) (sym (sym c.is_flow_name.ensures ∙ c.if-is_flow_name.true))
