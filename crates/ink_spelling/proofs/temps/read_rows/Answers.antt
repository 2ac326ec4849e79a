use Rattle.std.proofs.Common.{◌≡◌, ◌∙◌, ◌∷◌, ◌++◌, [], ap, inr, subst, sym}
use Rattle.ink_model.specs.Save.Unspelled.{rows_of}
use Rattle.ink_spelling.proofs.Asking.{or_else, row_kept}
use Rattle.ink_spelling.proofs.Lists.{fewer_members, rows_left, rows_more}
use Rattle.ink_spelling.proofs.temps.read_rows.Goals as goal

pub loop-name-smaller : goal.loop-name-smaller
loop-name-smaller g c = fewer_members (g.J.Json.members c.loop-name.rest) (g.J.Json.named c.in-Some.name) (g.J.Json.spells c.in-Some.json) (g.J.Json.members c.next_member.new.left) c.in-Some.ensures

pub loop-name-preserved : goal.loop-name-preserved
loop-name-preserved g c =
    let rows = c.loop-name.rows.items in
    let left = g.J.Json.members c.loop-name.rest in
    let name = g.J.Json.named c.in-Some.name in
    let json = g.J.Json.spells c.in-Some.json in
    let rest = g.J.Json.members c.next_member.new.left in
    let value = c.in-Some-2.value in
    let whole = rows_of (g.J.Json.members c.args.members) in
    let read = sym (sym c.in_ok-value.ensures.found ∙ c.in-Some-2.is) in
    record {
      all = subst (λ rs. rows_left rs rest ≡ whole) (sym (c.in_ok-add_row-in-Some-2.ensures ∙ ap (λ n. rows ++ (n, value) ∷ []) c.name_text.ensures))
          (rows_more rows whole left name json rest c.in-Some.ensures value read c.loop-name.invariant.all);
      asked = inr (row_kept (g.J.Json.members c.args.members) left name json rest c.in-Some.ensures value read c.loop-name.invariant.asked);
    }

pub returns-in_err-add_row-in-Some-2-clause-memory : goal.returns-in_err-add_row-in-Some-2-clause-memory
returns-in_err-add_row-in-Some-2-clause-memory g c = or_else c.from_residual-in_err-add_row-in-Some-2.result
    (row_kept (g.J.Json.members c.args.members) (g.J.Json.members c.loop-name.rest) (g.J.Json.named c.in-Some.name) (g.J.Json.spells c.in-Some.json) (g.J.Json.members c.next_member.new.left)
    c.in-Some.ensures c.in-Some-2.value (sym (sym c.in_ok-value.ensures.found ∙ c.in-Some-2.is)) c.loop-name.invariant.asked)
