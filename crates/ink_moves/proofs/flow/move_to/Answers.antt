use Rattle.std.proofs.Common.{Ok, ap, refl}
use Rattle.ink_model.specs.Flow.Frames.{map_threads}
use Rattle.ink_model.specs.Memory.Moves.{moved_asks}
use Rattle.ink_model.specs.Run.Place.{next_place}
use Rattle.ink_moves.specs.declared.flow.StepEnd.TheVariants.{Went}
use Rattle.ink_moves.proofs.Turns.{reached}
use Rattle.ink_moves.proofs.flow.move_to.Goals as goal
use Rattle.ink_tree.specs.Nodes.{place_of, story_tree}

pub returns-clause-flow : goal.returns-clause-flow
returns-clause-flow c w =
    let s = story_tree c.args.tree.now in
    let ts = map_threads (place_of s) c.args.threads.now.threads in
    reached (place_of s) (next_place s) ts w w c.args.threads.now.threads (record { same = refl; asks = λ h. h }) (moved_asks (next_place s) ts w) (place_of s c.args.next) c.requires.next _ (Ok Went)
    (ap (map_threads (place_of s)) c.go.ensures.threads, refl)
