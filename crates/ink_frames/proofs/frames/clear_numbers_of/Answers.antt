use Rattle.std.proofs.Common.{◌∙◌, ◌<◌, arith, get_or, length, refl}
use borrow.Author.Rules.{scaled_Fits}
use Rattle.ink_frames.specs.Frames.{unnumbered}
use Rattle.ink_frames.proofs.Mapping.{map_step, map_done}
use Rattle.ink_frames.proofs.frames.clear_numbers_of.Goals as goal

pub loop-header-preserved : goal.loop-header-preserved
loop-header-preserved g c =
    let items = c.loop-header.header-items in
    let i = c.loop-header.header-index in
    let inside : i < length items = omega arith in
    map_step unnumbered items i c.header-item.result (unnumbered (get_or items i c.header-item.result)) inside refl ∙ c.loop-header.invariant

pub loop-header-init : goal.loop-header-init
loop-header-init g c = refl

pub returns : goal.returns
returns g c = map_done unnumbered c.loop-header.header-items _ c.loop-header.header-index (omega arith) c.loop-header.invariant

pub offset_bounds-header-items-header-index : goal.offset_bounds-header-items-header-index
offset_bounds-header-items-header-index g c = scaled_Fits _ _ _ c.loop-header-test.true c.well_formed.0.1
