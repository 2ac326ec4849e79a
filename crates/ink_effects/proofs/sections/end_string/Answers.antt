use Rattle.std.proofs.Common.{◌≡◌, ◌∙◌, inl, refl, rules, sym, Err}
use Rattle.ink_effects.specs.Performs.{fields}
use Rattle.ink_effects.proofs.Closing.{full_string, no_string}
use Rattle.ink_effects.proofs.sections.end_string.Goals as goal

pub returns-then-not-is_string-clause-effect : goal.returns-then-not-is_string-clause-effect
returns-then-not-is_string-clause-effect c fresh globals s = rw (no_string c.args.output.now.page (sym c.is_string.ensures ∙ c.if-not-is_string.true)) (inl refl)

pub returns-in_err-check_room-clause-effect : goal.returns-in_err-check_room-clause-effect
returns-in_err-check_room-clause-effect c fresh globals s =
    let is : c.from_residual.result ≡ Err c.in_err-check_room.field-0.0 = search rules in
    rw (is, c.in_err-check_room.ensures.full.0)
    (full_string s _ (fields c.args.evaluating.now fresh c.args.stack.now.items c.args.output.now.page globals) _ c.in_err-check_room.ensures.full.1 (sym c.is_string.ensures ∙ c.if-not-is_string.false))
