-- Names that several files of proofs here use.
pub use Rattle.std.proofs.lemmas.List.{take_all}
pub use Rattle.ink_flows.specs.Standing.{flow_of}
pub use Rattle.ink_model.specs.Flow.Frames.{map_frame}
pub use Rattle.ink_model.specs.Protocol.ValueJson.{value_data}
pub use Rattle.ink_model.specs.Save.Spelling.{row_data, frame_data, part_data, global_data}
pub use Rattle.ink_parts.specs.Counted.{rows_at}
pub use Rattle.ink_parts.specs.Parts.{row_in}
pub use Rattle.ink_tokens.proofs.Adding.{finally, list_whole}
pub use Rattle.ink_tokens.specs.Tokens.{Added, data_tokens}
pub use Rattle.ink_tree.specs.Nodes.{story_tree, place_of, node_place}
pub use Rattle.ink_vars.specs.Slots.{rows_from}
pub use Rattle.serde_json.proofs.Views.{view-Array}
pub use Rattle.serde_json.specs.Data.{Data, array, item, no_items, object, put, string}
pub use Rattle.serde_json.specs.View.{view, members_view}
