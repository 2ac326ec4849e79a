use Rattle.std.proofs.Common.{◌∙◌, ◌<◌, arith, length, refl}
use borrow.Author.Rules.{scaled_Fits}
use Rattle.ink_model.specs.Flow.Frames.{unnumbered_thread}
use Rattle.ink_frames.proofs.Mapping.{map_step, map_done}
use Rattle.ink_stack.proofs.threads.clear_numbers_of.Goals as goal

pub loop-thread-preserved : goal.loop-thread-preserved
loop-thread-preserved g c =
    let inside : c.loop-thread.thread-index < length c.loop-thread.thread-items = omega arith in
    map_step unnumbered_thread c.loop-thread.thread-items _ c.thread-item.result _ inside c.clear_numbers.ensures ∙ c.loop-thread.invariant

pub loop-thread-init : goal.loop-thread-init
loop-thread-init g c = refl

pub returns : goal.returns
returns g c = map_done unnumbered_thread c.loop-thread.thread-items _ c.loop-thread.thread-index (omega arith) c.loop-thread.invariant

pub offset_bounds-thread-items-thread-index : goal.offset_bounds-thread-items-thread-index
offset_bounds-thread-items-thread-index g c = scaled_Fits _ _ _ c.loop-thread-test.true c.well_formed.0.1
