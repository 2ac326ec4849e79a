use Rattle.std.proofs.Common.{[], refl, append_assoc}
use Rattle.json_tape.specs.Value.{json_data}
use Rattle.ink_model.specs.Story.Leaves.{jump_readings, value_readings, store_readings}
use Rattle.ink_json.proofs.heads.heads.Goals as goal

pub returns : goal.returns
returns c =
    let d = json_data c.args.object.now in
    let counted = c.add_stores.ensures _ (c.add_values-found.ensures _ (c.add_jumps-found.ensures [] refl)) in
    rw (append_assoc (jump_readings d) (value_readings d) (store_readings d)) at counted
