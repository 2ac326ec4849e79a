use Rattle.std.proofs.Common.{◌≡◌, ◌++◌, map, take, vec_capacity}
use Rattle.ink_frames.specs.Frames.{as_seen}
use Rattle.ink_frames.proofs.lowest.push_all.Given as goal

abbrev pub invariant-loop-header : goal.invariant-loop-header
invariant-loop-header g l = record {
  items : l.headers.items ≡ l.initial.headers.items ++ map (as_seen l.unnumbered) (take l.header-index l.more);
  room : vec_capacity l.headers ≡ vec_capacity l.initial.headers;
}
