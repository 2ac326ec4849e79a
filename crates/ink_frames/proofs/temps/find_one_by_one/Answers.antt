use Rattle.std.proofs.Common.{◌≡◌, get_or}
use Rattle.ink_frames.proofs.Rows.{found_here}
use Rattle.ink_frames.proofs.temps.find_one_by_one.Goals as goal

pub returns-in-Equal : goal.returns-in-Equal
returns-in-Equal c =
    let key : (get_or c.args.rows.now c.loop-index.index c.index-rows-index.result).0 ≡ c.as_str.result.now = cc in
    found_here c.args.name.now c.loop-index.index c.args.rows.now c.index-rows-index.result c.loop-index-test.true c.loop-index.invariant
    (rw key (cc))
