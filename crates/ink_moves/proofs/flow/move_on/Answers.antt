use Rattle.std.proofs.Common.{Ok, refl, sym}
use Rattle.ink_model.specs.Flow.Frames.{map_threads}
use Rattle.ink_model.specs.Memory.Moves.{moved_asks}
use Rattle.ink_model.specs.Run.Place.{next_place}
use Rattle.ink_moves.proofs.Turns.{reached}
use Rattle.ink_moves.proofs.flow.move_on.Goals as goal
use Rattle.ink_moves.specs.Reaches.{written}
use Rattle.ink_tree.specs.Nodes.{place_of, story_tree}

pub returns-in-Some-clause-flow : goal.returns-in-Some-clause-flow
returns-in-Some-clause-flow c =
    let s = story_tree c.args.tree.now in
    let w = written c.args.stack.now c.args.output.now in
    let ts = map_threads (place_of s) c.args.threads.now.threads in
    reached (place_of s) (next_place s) ts w w c.args.threads.now.threads (record { same = refl; asks = λ h. h }) (moved_asks (next_place s) ts w) (place_of s c.in-Some.place) (sym c.in-Some.ensures) _ (Ok c.land.result) (c.land.ensures.flow s w)
