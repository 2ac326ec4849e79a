use Rattle.std.proofs.Common.{◌≡◌, inr, rules, Err}
use Rattle.ink_effects.proofs.Closing.{full_tag}
use Rattle.ink_effects.proofs.sections.close_tag.Goals as goal

pub returns-in_err-check_tag_room-clause-closed : goal.returns-in_err-check_tag_room-clause-closed
returns-in_err-check_tag_room-clause-closed c =
    let full = c.in_err-check_tag_room.ensures.full in
    let is : c.from_residual.result ≡ Err c.in_err-check_tag_room.field-0.0 = search rules in
    rw (is, full.0) (inr (full_tag c.args.output.now.page c.args.stack.now.items full.1 full.2))
