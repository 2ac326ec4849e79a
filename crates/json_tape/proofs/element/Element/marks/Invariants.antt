use Rattle.std.proofs.Common.{◌≡◌, ℕ, List, get_or, length}
use Rattle.json.specs.Json.{Json, Members}
use Rattle.json_tape.proofs.Common.{BeginsWith, InMembers, get_member, get, slot}
use Rattle.json_tape.proofs.element.Element.marks.Given as goal

-- a name without a mark is looked for among those that are left
abbrev pub invariant-loop-name : goal.invariant-loop-name
invariant-loop-name l =
    (j : Json) → BeginsWith l.self j → (left : Members) × InMembers l.members left
    × ((name : List ℕ) → get_or l.marks.slots (slot name) 0 ≡ 0 → get name j ≡ get_member name left)

abbrev pub decreases-loop-name : goal.decreases-loop-name
decreases-loop-name l = length l.members
