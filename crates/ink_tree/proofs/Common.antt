-- The names that most proofs here use.
pub use Rattle.std.proofs.lemmas.Bool.{cases_lt, and_parts, cases_Bool, cond-true, cond-false, false_from_ne_true}
pub use Rattle.std.proofs.lemmas.Bool.Decides.{nat_tests}
pub use Rattle.std.proofs.lemmas.Cmp.{nat_cmp_total, nat_list_cmp_total, lists_total, tied_itself, ranked}
pub use Rattle.std.proofs.lemmas.List.{append-nil, reverse-append, reverse-reverse, length-append, length-reverse, map-append, take_more, take-append-drop, length-map}
pub use Rattle.std.proofs.lemmas.Option.{none-some, same_Some, cond_some, slice_get_past, slice_get_read, slice_get-get_or, unwrap_or-slice_get, slice_get_within}
pub use Rattle.std.specs.Cmp.Lexicographic.{slice_cmp}
pub use Rattle.std.specs.Ordering.{MatchOrdering, is_lt, ordering_reverse, match_ordering}
pub use Rattle.ink_json.specs.Node.{Node}
pub use Rattle.ink_json.specs.Order.{keys_rise, part_order, place_order, keys_rise_in, keys_rise_by_key, is_below, key_part}
pub use Rattle.ink_model.specs.Run.Entered.{entered_above, entered_around, flags_at, is_first, listed_if, starts_only, was_inside, is_around, passed_at}
unfoldable pub use Rattle.ink_model.specs.Run.Entered.{entered_places, passed_places}
pub use Rattle.ink_model.specs.Story.Path.{component, components, ends_in_index, read_path, stepped, walked, is_container, ends_at, by_name, is_up, listed_index}
unfoldable pub use Rattle.ink_model.specs.Story.Path.{target, is_place}
pub use Rattle.ink_model.specs.Run.Place.{first_content_at, next_upwards, is_named, named_index, start_place}
unfoldable pub use Rattle.ink_model.specs.Run.Place.{content_place, landed, next_place, knot}
pub use Rattle.ink_model.specs.Story.Places.{places, places_from, places_by_key}
pub use Rattle.ink_model.specs.Story.Tree.{StoryTree, leaf, container, at, width, count, no_trees, tree, down, Trees, Keyed, no_keys, key, nth, by_key}
pub use Rattle.ink_model.specs.declared.place.Part.{Part}
pub use Rattle.ink_model.specs.declared.place.Part.TheVariants.{Index, Name}
pub use Rattle.ink_tree.specs.Contents.{reaches_in, name_in}
pub use Rattle.ink_tree.specs.Gaps.{LeadsTo, NoneBefore, NoneFrom}
pub use Rattle.ink_tree.specs.Kept.{flagged_above, AreLinked, KeepsContent, KeepsAll, KeepsAt, Spans, first_inside, way_to, kept_flags, kept_keys, kept_leaf, kept_name, kept_reaches, kept_width, leaf_in, IsLinked}
pub use Rattle.ink_tree.specs.Names.{first_of, given, AreNamed, named_at, MayKeepNames, KeepsNames}
pub use Rattle.ink_tree.specs.Nodes.{place_of, node_place, Finds, index_part, IsNode, MayBeNode, NumbersInOrder, AreNodes, story_tree}
pub use Rattle.ink_tree.specs.Walks.{GoesIn, still_entered}
pub use Rattle.ink_tree.specs.declared.spot.NodeId.{NodeId}
