-- Names that several files of proofs here use.
pub use Rattle.std.proofs.lemmas.List.{drop_more, reverse-append, append_assoc, append-nil, drop_all, length-map}
pub use Rattle.std.specs.List.{AllByRecursion, list_all}
pub use Rattle.std.specs.declared.alloc.Global.{Global}
pub use Rattle.std.specs.declared.vec.Vec.{Vec}
pub use Rattle.ink_flows.specs.Standing.{flow_of, rows_of}
pub use Rattle.ink_model.specs.Run.Configuration.{ChoiceOf, FlowOf, map_choice}
pub use Rattle.ink_model.specs.Save.Sound.{ChoiceFits, FlowSound, ThreadStands, ThreadsFit, ValueFits, SharedSound}
pub use Rattle.ink_model.specs.Save.Unspelled.{aside_but}
pub use Rattle.ink_model.specs.Story.Tree.{StoryTree}
pub use Rattle.ink_model.specs.Text.Bytes.{fits_text}
pub use Rattle.ink_model.specs.Variables.Named.{Rows, at, once}
pub use Rattle.ink_model.specs.declared.limits.TheConstants.{MAX_COUNT}
pub use Rattle.ink_model.specs.declared.place.Part.{Part}
pub use Rattle.ink_model.specs.declared.value.Value.{Value}
pub use Rattle.ink_restore.specs.Asks.{FlowsAsk}
pub use Rattle.ink_restore.specs.Building.{FirstAsks, Builds}
pub use Rattle.ink_restore.specs.Parts.{shared_as}
pub use Rattle.ink_spelling.proofs.Asking.{or_else}
pub use Rattle.ink_tree.specs.Nodes.{place_of, story_tree}
pub use Rattle.ink_tree.specs.declared.spot.Spot.{Spot}
