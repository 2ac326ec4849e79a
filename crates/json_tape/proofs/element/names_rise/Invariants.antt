use Rattle.std.proofs.Common.{◌≡◌, length, None, option_map}
use Rattle.json.specs.Json.{Members}
use Rattle.json_tape.proofs.Common.{InMembers, names_rise}
use Rattle.json_tape.proofs.element.names_rise.Given as goal

-- all rise where those that are left do, behind the one before them
abbrev pub invariant-loop-name : goal.invariant-loop-name
invariant-loop-name l =
    (ms : Members) → InMembers l.fn.members ms → (left : Members) × InMembers l.members left × (names_rise None ms ≡ names_rise (option_map (λ s. s.now) l.before) left)

abbrev pub decreases-loop-name : goal.decreases-loop-name
decreases-loop-name l = length l.members
