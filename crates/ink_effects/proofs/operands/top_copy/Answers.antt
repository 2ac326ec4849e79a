use Rattle.std.proofs.Common.{◌≡◌, Err, rules}
use Rattle.ink_model.specs.declared.fault.Fault.TheVariants.{OutOfMemory}
use Rattle.ink_effects.proofs.Tops.{copied, full_below, not_copied}
use Rattle.ink_effects.proofs.operands.top_copy.Goals as goal

pub returns : goal.returns
returns c = copied c.args.stack.now.items c.in_ok-value.value.now c.in_ok-value.ensures _ c.in_ok-clone_in.field-0 c.in_ok-check_room.ensures.room c.in_ok-clone_in.ensures.copy

pub returns-in_err-clone_in : goal.returns-in_err-clone_in
returns-in_err-clone_in c =
    let is : c.from_residual-in_err-clone_in.result ≡ Err OutOfMemory = search rules in
    rw is (not_copied c.args.stack.now.items c.in_ok-value.value.now c.in_ok-value.ensures _ c.in_ok-check_room.ensures.room)

pub returns-in_err-check_room : goal.returns-in_err-check_room
returns-in_err-check_room c =
    let is : c.from_residual-in_err-check_room.result ≡ Err c.in_err-check_room.field-0.0 = search rules in
    rw is (full_below c.args.stack.now.items c.in_ok-value.value.now c.in_ok-value.ensures _ c.in_err-check_room.field-0.0 c.in_err-check_room.ensures.full.0 c.in_err-check_room.ensures.full.1)
