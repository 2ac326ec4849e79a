use Rattle.std.proofs.Common.{◌∙◌, ◌<◌, ap, length, set}
use Rattle.ink_frames.proofs.Cells.{value_is}
use Rattle.ink_frames.proofs.temp_rows.Rows.replace.Goals as goal

pub returns-in-Many-clause-rows : goal.returns-in-Many-clause-rows
returns-in-Many-clause-rows c =
    let rows = c.in-Many.rows.items in
    let there : c.args.index < length rows = rw c.in-Many.is at c.requires in
    rw c.in-Many.is
    (ap (λ v. set rows c.args.index (c.index_mut.result.now.0, v)) c.replace-in-Many.ensures.after
    ∙ ap (λ r. set rows c.args.index (r.0, c.args.value)) c.index_mut.ensures.value
    ∙ value_is c.args.index c.args.value rows c.index_mut.result.now there)
