use Rattle.std.proofs.Common.{rules}
use Rattle.std.proofs.lemmas.Fn.{always_returns_same}
use Rattle.ink_model.specs.Variables.Rows.{name_order}
use Rattle.ink_frames.proofs.Searching.{found}
use Rattle.ink_frames.proofs.temps.find_by_halves.Goals as goal

pub returns : goal.returns
returns c =
    let name = c.args.name.now in
    found name c.args.rows.now c.binary_search_by.result c.requires c.binary_search_by.ensures.bound
    (c.binary_search_by.ensures.position (λ row. name_order row.0 name) (always_returns_same _ _ _ (λ row o f k. search rules)))
