-- Names that several files of proofs here use.
pub use Rattle.std.proofs.lemmas.Bool.{cases_lt, cases_Bool, eq-eqb, eqb-true}
pub use Rattle.std.proofs.lemmas.Bool.Decides.{nat_tests}
pub use Rattle.std.proofs.lemmas.List.{with_items_is}
pub use Rattle.std.proofs.lemmas.Slice.Eq.{bytes_eq-Decides}
pub use Rattle.std.specs.Option.{option_or}
pub use Rattle.std.specs.Ordering.{nat_cmp}
pub use Rattle.ink_model.specs.Variables.Rows.{row, with_row}
pub use Rattle.ink_model.specs.Variables.Store.{Values, stored, store}
pub use Rattle.ink_model.specs.declared.limits.TheConstants.{MAX_COUNT}
pub use Rattle.ink_model.specs.declared.value.Value.{Value}
pub use Rattle.ink_trail.proofs.Undoing.{none-stood}
pub use Rattle.ink_trail.specs.Undo.{Undo, but_last, trail_of}
pub use Rattle.ink_vars.specs.Changes.{Tracks, as_they_were, noted_at, global_index, with_noted}
pub use Rattle.ink_vars.specs.Globals.{DifferInName, set_value_at, rows_of}
pub use Rattle.ink_vars.specs.Slots.{AreCounts, rows_from, with_slot}
pub use Rattle.ink_vars.specs.Undo.{Covers, global_back}
unfoldable pub use Rattle.ink_vars.specs.Undo.{globals_stood}
pub use Rattle.ink_vars.specs.declared.changes.Before.{Before}
pub use Rattle.ink_vars.specs.declared.undo.CountPair.{CountPair}
