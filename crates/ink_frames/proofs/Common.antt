-- Names that several files of proofs here use.
pub use Rattle.std.proofs.lemmas.Bool.Decides.{nat_tests}
pub use Rattle.std.proofs.lemmas.List.{length-append}
pub use Rattle.std.proofs.lemmas.Map.Lookups.{exact_bytes}
pub use Rattle.std.proofs.lemmas.Result.{on_err_weaker, on_ok_weaker, IfOk-weaker, err_from_is_err_and}
pub use Rattle.ink_model.specs.Flow.Frames.{FrameOf, unnumbered_frame}
pub use Rattle.ink_model.specs.Flow.Threads.{stale}
pub use Rattle.ink_model.specs.Variables.Rows.{name_order, with_row, is_before, rows_rise, row}
pub use Rattle.ink_model.specs.Variables.Store.{Values}
pub use Rattle.ink_model.specs.declared.value.Value.{Value}
pub use Rattle.ink_frames.specs.Cells.{temp_back, temps_back, with_fresh}
pub use Rattle.ink_frames.specs.Frames.{frame_with, framed}
pub use Rattle.ink_frames.specs.Quiet.{Covers, Settled}
pub use Rattle.ink_frames.specs.Rows.{FindsName}
pub use Rattle.ink_frames.specs.Temps.{text_of}
