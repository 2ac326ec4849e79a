use Rattle.std.proofs.Common.{◌≡◌, rules, Err}
use Rattle.ink_effects.specs.Performs.{fields}
use Rattle.ink_effects.proofs.Closing.{full_whole_tag}
use Rattle.ink_effects.proofs.sections.write_tag.Goals as goal

pub returns-in_err-check_string_room-clause-effect : goal.returns-in_err-check_string_room-clause-effect
returns-in_err-check_string_room-clause-effect c = λ evaluating fresh globals s.
    let is : c.from_residual.result ≡ Err c.in_err-check_string_room.field-0.0 = search rules in
    rw (is, c.in_err-check_string_room.ensures.full.0)
    (full_whole_tag s _ c.args.text.now (fields evaluating fresh c.args.stack.now.items c.args.output.now.page globals) _ c.in_err-check_string_room.ensures.full.1)
