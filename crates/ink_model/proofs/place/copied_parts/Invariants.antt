use Rattle.std.proofs.Common.{◌≡◌, take}
use Rattle.ink_model.proofs.place.copied_parts.Given as goal

abbrev pub invariant-loop-part : goal.invariant-loop-part
invariant-loop-part l = l.copies.items ≡ take l.part-index l.parts
