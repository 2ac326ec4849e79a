use Rattle.std.proofs.Common.{◌∙◌, ap, is_some, option_map, string_bytes, sym}
use Rattle.serde_json.specs.View.{view}
use Rattle.ink_page.proofs.Pieces.{from_nothing, piece_spelled}
use Rattle.ink_page.proofs.piece.piece_at.Goals as goal

pub returns-in_default-clause-found : goal.returns-in_default-clause-found
returns-in_default-clause-found c = ap is_some (from_nothing c.args.story.now c.args.parts.now (sym (ap (option_map view) c.in_default.is) ∙ c.in_ok-json.ensures.read))

pub returns-clause-text : goal.returns-clause-text
returns-clause-text c =
    piece_spelled c.args.story.now c.args.parts.now c.in_ok-json.field-0 c.in-Some.json (view c.in-Some-piece_in.piece.now) (string_bytes c.in_ok-to_string.field-0) c.in-Some.is c.in_ok-json.ensures.read
    c.in_ok-json.ensures.nests c.in-Some-piece_in.ensures c.in_ok-to_string.ensures.reads_back c.in_ok-to_string.ensures.compact c.in_ok-to_string.ensures.text
