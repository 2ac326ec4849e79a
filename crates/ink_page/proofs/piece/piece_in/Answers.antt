use Rattle.std.proofs.Common.{◌∙◌, ap, sym, option_map}
use Rattle.serde_json.specs.View.{view}
use Rattle.ink_page.specs.Piece.{down}
use Rattle.ink_page.proofs.Pieces.{down_none, no_part}
use Rattle.ink_page.proofs.piece.piece_in.Goals as goal

pub returns-in_err-piece : goal.returns-in_err-piece
returns-in_err-piece c =
    ap (option_map (λ v. view v.now)) c.from_residual.ensures ∙ sym (down_none c.args.parts.now) ∙ ap (down c.args.parts.now) c.in_err-piece.ensures

pub returns-in_err-piece-2 : goal.returns-in_err-piece-2
returns-in_err-piece-2 c =
    ap (option_map (λ v. view v.now)) c.from_residual-in_err-piece-2.ensures
    ∙ no_part c.loop-part.part-index c.args.parts.now c.part-item.result (view c.loop-part.piece.now) _ c.loop-part-test.true c.part-item.is c.in_err-piece-2.ensures c.loop-part.invariant
