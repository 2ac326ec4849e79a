use Rattle.std.proofs.Common.{◌≡◌, codes, drop, Some}
use Rattle.serde_json.specs.Find.{get}
use Rattle.serde_json.specs.View.{view}
use Rattle.ink_page.specs.Piece.{down}
use Rattle.ink_page.proofs.piece.piece_in.Given as goal

-- the rest of the way leads from here to what is looked for
abbrev pub invariant-loop-part : goal.invariant-loop-part
invariant-loop-part l = down (drop l.part-index l.parts) (Some (view l.piece)) ≡ down l.parts (get (codes "root") (view l.fn.story))
