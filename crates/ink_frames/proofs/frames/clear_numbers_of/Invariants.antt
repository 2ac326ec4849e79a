use Rattle.std.proofs.Common.{◌≡◌, ◌++◌, drop, map, take}
use Rattle.ink_frames.specs.Frames.{unnumbered}
use Rattle.ink_frames.proofs.frames.clear_numbers_of.Given as goal

abbrev pub invariant-loop-header : goal.invariant-loop-header
invariant-loop-header g l =
    take l.header-index l.header-items ++ map unnumbered (drop l.header-index l.header-items) ≡ map unnumbered l.initial.header-items
