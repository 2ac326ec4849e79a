use Rattle.std.proofs.Common.{◌≡◌, drop}
use Rattle.json_tape.proofs.Common.{objects_rise}
use Rattle.json_tape.proofs.element.Element.objects_rise.Given as goal

-- the names rise in all objects where they do in those that are left
abbrev pub invariant-loop-at : goal.invariant-loop-at
invariant-loop-at l = objects_rise l.self ≡ objects_rise (drop l.at l.tape)
