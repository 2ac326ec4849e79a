use Rattle.std.proofs.Common.{◌≡◌, length, Option}
use Rattle.json.specs.Json.{Json, Members}
use Rattle.json_tape.proofs.Common.{BeginsWith, InMembers, Finds, later_or, get_member, get}
use Rattle.json_tape.proofs.element.Element.get.Given as goal

-- what is found among those that are left, or before them
abbrev pub invariant-loop-key : goal.invariant-loop-key
invariant-loop-key l =
    (j : Json) → BeginsWith l.self j → (left : Members) × (before : Option Json) × InMembers l.members left × Finds l.last before × (get l.name j ≡ later_or (get_member l.name left) before)

abbrev pub decreases-loop-key : goal.decreases-loop-key
decreases-loop-key l = length l.members
