-- Names that several files of proofs here use.
pub use Rattle.std.proofs.lemmas.Bool.{and_parts, and_from}
pub use Rattle.std.proofs.lemmas.List.{length-append}
pub use Rattle.std.proofs.lemmas.Slice.Eq.{bytes_eq-Decides}
pub use Rattle.std.specs.Borrow.{Bor}
pub use Rattle.std.specs.Cmp.Lexicographic.{slice_cmp}
pub use Rattle.std.specs.Ordering.{match_ordering}
pub use Rattle.json.proofs.Printed.Trees.{value-json_tokens}
pub use Rattle.json.proofs.Unique.Spelling.{value-json_tokens_back}
pub use Rattle.json.specs.Find.{BeginsWith, HasValue, InItems, InMembers, later_or, get, get_member, NextItem, NextMember, Finds}
pub use Rattle.json.specs.Lex.{tokens}
pub use Rattle.json.specs.Reads.{skip_items, skip_members, token_of}
pub use Rattle.json.specs.Tape.{node_token, Passes, LinkAt}
pub use Rattle.json.specs.Token.{Token}
pub use Rattle.json.specs.Tree.{json_tokens, members_tokens, depth, items_tokens}
pub use Rattle.json.specs.declared.tape.Node.{Node}
pub use Rattle.json.specs.declared.tape.Node.TheVariants.{Null}
pub use Rattle.json_tape.specs.Marks.{slot}
pub use Rattle.json_tape.specs.Number.{num}
pub use Rattle.json_tape.specs.Rise.{names_rise, objects_rise}
pub use Rattle.json_tape.specs.Spelled.{Spells, is_readable, are_sound}
unfoldable pub use Rattle.json_tape.specs.Spelled.{data_of}
pub use Rattle.json_tape.specs.Tape.{Moves}
pub use Rattle.json_tape.specs.Value.{items_of, items_count, members_of, json_data, members_data, items_left}
pub use Rattle.serde_json.specs.Data.{Data, null, boolean, number, string, array, object, Items, no_items, item, Members, no_members, member, put, Num}
pub use Rattle.serde_json.specs.Read.{number_from, of_json, of_members, max_depth, of_items, read}
unfoldable pub use Rattle.serde_json.specs.Read.{number_of}
