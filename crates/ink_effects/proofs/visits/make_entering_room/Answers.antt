use Rattle.std.proofs.Common.{◌≡◌, ◌≤◌, ◌<◌, ◌*◌, ◌^◌, arith, length, option_map}
use Rattle.ink_effects.proofs.Rooms.{counts_room, lacks_few}
use Rattle.ink_effects.proofs.visits.make_entering_room.Goals as goal
use Rattle.ink_tree.specs.Nodes.{place_of, story_tree}
use Rattle.ink_effects.proofs.Common.{still_entered, counts_spare, counts_stood}

-- no machine has so much room
pub returns-in-None-clause-memory : goal.returns-in-None-clause-memory
returns-in-None-clause-memory c =
    let s = story_tree c.args.tree.now in
    let counts = c.args.counts.now in
    let wanted = 4 * length (still_entered s (option_map (place_of s) c.args.previous) c.args.rest) in
    let all : counts_spare counts ≡ counts.trail.room = counts_room counts c.requires.marked in
    let room : c.room-room.result ≡ counts.trail.room = c.room-room.ensures in
    let most : c.room-room.result < 2 ^ 64 = omega arith in
    let many : 2 ^ 64 ≤ wanted = c.in-None.ensures in
    lacks_few (counts_stood counts) (counts_spare counts) wanted c.requires.marked (omega arith)
