-- Names that several files of proofs here use.
pub use Rattle.std.proofs.lemmas.List.{append-nil, length-reverse, nil_from_length}
pub use Rattle.std.proofs.lemmas.List.Sorted.{list_any-IsPermutation, IsPermutation-reverse}
pub use Rattle.std.specs.List.{list_any, prefix_len, suffix_len}
pub use Rattle.ink_model.specs.Memory.Refusals.{Gives}
pub use Rattle.ink_model.specs.Run.Configuration.{Page, Section}
pub use Rattle.ink_model.specs.Text.Bytes.{is_blank, is_white}
unfoldable pub use Rattle.ink_model.specs.Text.Clean.{clean}
pub use Rattle.ink_model.specs.Text.Mark.{piece}
unfoldable pub use Rattle.ink_model.specs.Text.Mark.{cut}
pub use Rattle.ink_model.specs.Text.Output.{is_string, is_text, let_through}
pub use Rattle.ink_model.specs.Text.Shown.{shown_text, text_before}
pub use Rattle.ink_model.specs.declared.fault.Fault.{Fault}
pub use Rattle.ink_model.specs.declared.fault.Fault.TheVariants.{OutOfMemory}
pub use Rattle.ink_model.specs.declared.limits.TheConstants.{MAX_MARKS}
pub use Rattle.ink_model.specs.declared.mark.Mark.{Mark}
pub use Rattle.ink_model.specs.declared.mark.Mark.TheVariants.{Text, Blank, Newline, Enter, Tag, Leave}
pub use Rattle.ink_out.specs.Cleaning.{shown_as, Holds}
pub use Rattle.ink_out.specs.Cutting.{piece_mark, is_space}
pub use Rattle.ink_out.specs.Joined.{texts_of}
pub use Rattle.ink_out.specs.Kept.{mark_of}
pub use Rattle.ink_out.specs.Stands.{Knows, Sees, IsStateOf}
pub use Rattle.ink_out.specs.Undo.{output_back, GoesBack, Held, with_open}
unfoldable pub use Rattle.ink_out.specs.Undo.{output_spare, output_stood}
pub use Rattle.ink_out.specs.Walks.{pile_now}
pub use Rattle.ink_out.specs.Writing.{page_of, closed}
pub use Rattle.ink_out.specs.declared.enters.Enters.{Enters}
pub use Rattle.ink_out.specs.declared.enters.Start.{Start}
pub use Rattle.ink_out.specs.declared.state.State.{State}
pub use Rattle.ink_out.specs.declared.tracker.Hides.{Hides}
pub use Rattle.ink_out.specs.declared.tracker.Tracker.{Tracker}
pub use Rattle.ink_out.specs.declared.tracker.Waiting.{Waiting}
pub use Rattle.ink_out.specs.declared.undo.OutputPair.TheVariants.{Wrote, Closed}
pub use Rattle.ink_out.specs.declared.walk.Walk.{Walk}
pub use Rattle.ink_trail.proofs.Undoing.{trails-one, trails-trails, trails-after}
pub use Rattle.ink_trail.specs.Undo.{but_last, trail_of, Trails}
unfoldable pub use Rattle.ink_trail.specs.Undo.{spare}
