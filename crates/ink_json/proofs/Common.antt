-- Names that several files of proofs here use.
pub use Rattle.std.proofs.lemmas.Bool.Decides.{nat_tests}
pub use Rattle.std.proofs.lemmas.List.{append-nil, length-append, length-map}
pub use Rattle.std.specs.Cmp.Lexicographic.{slice_cmp}
pub use Rattle.std.specs.Ordering.{match_ordering}
pub use Rattle.ink_json.specs.Kept.{node_of, nodes_kept}
pub use Rattle.ink_json.specs.Listing.{container_node}
pub use Rattle.ink_json.specs.Node.{Node}
pub use Rattle.ink_model.specs.Story.Grammar.{is_own, tree_of, content_of, keyed_in, keyed_last, keyed_by}
unfoldable pub use Rattle.ink_model.specs.Story.Grammar.{story}
pub use Rattle.ink_model.specs.Story.Tree.{StoryTree, count}
pub use Rattle.ink_model.specs.Story.View.{count_keys}
pub use Rattle.ink_model.specs.declared.content.Leaf.{Leaf}
pub use Rattle.ink_model.specs.declared.fault.ReadRefusal.{ReadRefusal}
pub use Rattle.ink_model.specs.declared.place.Part.{Part}
pub use Rattle.ink_model.specs.declared.place.Part.TheVariants.{Index, Name}
pub use Rattle.ink_model.specs.declared.version.InkVersion.{InkVersion}
pub use Rattle.json_tape.proofs.Counts.{size_positive}
pub use Rattle.json_tape.specs.Size.{size, members_size, items_size}
pub use Rattle.serde_json.specs.Data.{Data, null, boolean, number, string, array, object, no_members, member, Members, Items, no_items, item}
pub use Rattle.serde_json.specs.Read.{read}
