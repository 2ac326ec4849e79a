-- Names that several files of proofs here use.
pub use Rattle.std.proofs.lemmas.Bool.{OnTrue_at}
pub use Rattle.std.proofs.lemmas.Bool.Decides.{nat_tests}
pub use Rattle.std.proofs.lemmas.List.{length-append, length-reverse, reverse-append, reverse-reverse}
pub use Rattle.std.proofs.lemmas.Result.{on_err_weaker, on_ok_weaker, IfOk-weaker, err_from_is_err_and}
pub use Rattle.ink_model.specs.Flow.Bases.{BaseFirst}
pub use Rattle.ink_model.specs.Flow.Frames.{FrameOf, ThreadOf, ThreadsOf, gone, mode_in, on_top, is_function, unnumbered_frame}
pub use Rattle.ink_model.specs.Flow.Threads.{doubled, frame_count, frame_popped, frame_pushed, same_kind, stale, stale_run, top_result}
pub use Rattle.ink_model.specs.Variables.Rows.{name_order, with_row, row}
pub use Rattle.ink_model.specs.Variables.Store.{Values}
pub use Rattle.ink_model.specs.declared.fault.Fault.{Fault}
pub use Rattle.ink_model.specs.declared.fault.Fault.TheVariants.{OutOfMemory}
pub use Rattle.ink_model.specs.declared.frame.FrameKind.{FrameKind}
pub use Rattle.ink_model.specs.declared.limits.TheConstants.{MAX_FRAMES, MAX_THREADS}
pub use Rattle.ink_model.specs.declared.value.Value.{Value}
pub use Rattle.ink_stack.specs.Calls.{frame_kind}
pub use Rattle.ink_frames.specs.Cells.{temp_back, with_fresh}
pub use Rattle.ink_stack.specs.Cells.{unpopped, with_frame}
pub use Rattle.ink_stack.specs.Outcomes.{Changes, Grows}
pub use Rattle.ink_frames.specs.Quiet.{Covers, IsQuiet, Settled}
pub use Rattle.ink_stack.specs.Running.{RunningView, threads_in}
pub use Rattle.ink_frames.specs.Temps.{text_of}
pub use Rattle.ink_stack.specs.Undo.{HasGone, HasMode, threads_back, StaysHeld}
unfoldable pub use Rattle.ink_stack.specs.Undo.{threads_spare, threads_stood}
pub use Rattle.ink_stack.specs.declared.undo.ThreadsPair.{ThreadsPair}
pub use Rattle.ink_trail.proofs.Undoing.{trails-one, notes-trails}
pub use Rattle.ink_trail.specs.Undo.{trail_of}
