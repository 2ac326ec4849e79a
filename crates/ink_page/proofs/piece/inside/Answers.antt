use Rattle.std.proofs.Common.{◌∙◌, Some, ap, sym}
use Rattle.serde_json.specs.View.{items_view, view}
use Rattle.ink_model.specs.Story.Grammar.{member_of, own_of}
use Rattle.ink_page.proofs.Pieces.{named_piece}
use Rattle.ink_page.specs.Piece.{inside}
use Rattle.ink_page.proofs.piece.inside.Goals as goal

pub returns-in_ok-last-in-Name : goal.returns-in_ok-last-in-Name
returns-in_ok-last-in-Name c =
    let piece = view c.args.piece.now in
    c.get-in-Name.ensures
    ∙ named_piece c.as_str.result.now piece c.deref.result.now c.in_ok-last-in-Name.field-0.now (ap (λ vs. Some (items_view vs)) c.deref.ensures.value ∙ c.in_ok-as_array-in-Name.ensures) c.in_ok-last-in-Name.ensures.value
    ∙ ap (λ name. member_of name (own_of piece)) c.as_str.ensures ∙ ap (λ part. inside part piece) (sym c.in-Name.is)
