use Rattle.std.proofs.Common.{subst}
use Rattle.json_tape.specs.Value.{json_data}
use Rattle.ink_model.specs.Story.Leaves.{jump_readings}
use Rattle.ink_json.specs.Heads.{Counts}
use Rattle.ink_json.proofs.Adding.{one_by_one}
use Rattle.ink_json.proofs.heads.add_jumps.Goals as goal

pub returns : goal.returns
unfolding jump_readings
returns c = λ rs h.
    let counted = c.add.ensures _ (c.add-found-4.ensures _ (c.add-found-3.ensures _ (c.add-found-2.ensures _ (c.add-found.ensures rs h)))) in
    subst (Counts c.add.result (json_data c.args.object.now)) (one_by_one rs _ _ _ _ _) counted
