use Rattle.std.proofs.Common.{◌∙◌, [], ◌++◌, refl}
use Rattle.ink_reader.proofs.Common.{err_from_is_err_and, places_of}
use Rattle.ink_reader.specs.Session.{IsReading}
use Rattle.ink_reader.proofs.Playing.{played-lost, played-none, played-off, played-played, played-well}
use Rattle.ink_reader.proofs.Sessions.{continues-more, continues-so-far, continues-to, next-append, read-part, read-whole}
use Rattle.ink_reader.proofs.reader.Reader.read_lines.Goals as goal

pub lines-init : goal.lines-init
lines-init g c = record { look = refl; saves = refl; write_cause = refl; sink_name = refl; read_cause = refl; reads = ([], [], refl, (λ others rest end h. h), played-none) }

pub returns-in_err-read_line-clause-reads : goal.returns-in_err-read_line-clause-reads
returns-in_err-read_line-clause-reads g c =
    let old = c.args.self.now in
    let now = c.lines.self in
    let so_far = c.lines.invariant.reads in
    let line = rw (c.lines.invariant.look, c.lines.invariant.saves) at c.read_line.ensures.reads in
    let next = next-append so_far.0 line.0 (g.L.Lines.coming c.args.lines.now) (g.L.Lines.coming c.lines.lines) (g.L.Lines.coming c.read_line.new.lines) so_far.2 line.2 in
    let lost = (err_from_is_err_and c.from_residual.result c.from_residual.ensures.1).1 in
    let off = rw c.in_err-read_line.was at line.3 in (
      so_far.0 ++ line.0,
      so_far.1 ++ line.1,
      next,
      continues-to (IsReading old.saves (places_of old.past)) old.saves (places_of now.past) so_far.0 line.0 so_far.1 line.1 so_far.3 (places_of c.read_line.new.self.past) (read-part (IsReading old.saves (places_of now.past)) line.0 line.1 (places_of c.read_line.new.self.past) lost off),
      played-lost lost (played-played so_far.4 line.4),
    )

pub returns-then-not-branch-clause-reads : goal.returns-then-not-branch-clause-reads
returns-then-not-branch-clause-reads g c =
    let old = c.args.self.now in
    let now = c.lines.self in
    let so_far = c.lines.invariant.reads in
    let line = rw (c.lines.invariant.look, c.lines.invariant.saves) at c.read_line.ensures.reads in
    let next = next-append so_far.0 line.0 (g.L.Lines.coming c.args.lines.now) (g.L.Lines.coming c.lines.lines) (g.L.Lines.coming c.read_line.new.lines) so_far.2 line.2 in
    let by = rw c.in_ok-read_line.was at line.3 in
    let last = rw c.if-not-branch.true at by in (
      so_far.0 ++ line.0,
      so_far.1 ++ line.1,
      next,
      continues-to (IsReading old.saves (places_of old.past)) old.saves (places_of now.past) so_far.0 line.0 so_far.1 line.1 so_far.3 (places_of c.read_line.new.self.past) (read-whole (IsReading old.saves (places_of now.past)) line.0 line.1 (places_of c.read_line.new.self.past) last),
      played-played so_far.4 (played-well c.in_ok-read_line.was line.4),
    )

pub lines-preserved : goal.lines-preserved
lines-preserved g c =
    let old = c.args.self.now in
    let now = c.lines.self in
    let so_far = c.lines.invariant.reads in
    let line = rw (c.lines.invariant.look, c.lines.invariant.saves) at c.read_line.ensures.reads in
    let next = next-append so_far.0 line.0 (g.L.Lines.coming c.args.lines.now) (g.L.Lines.coming c.lines.lines) (g.L.Lines.coming c.read_line.new.lines) so_far.2 line.2 in
    let by = rw c.in_ok-read_line.was at line.3 in
    let after = rw c.if-not-branch.false at by in
    record {
      look = c.read_line.ensures.settings.0 ∙ c.lines.invariant.look;
      saves = c.read_line.ensures.settings.1 ∙ c.lines.invariant.saves;
      write_cause = c.in_ok-read_line.ensures.sink.0 ∙ c.lines.invariant.write_cause;
      sink_name = c.in_ok-read_line.ensures.sink.1 ∙ c.lines.invariant.sink_name;
      read_cause = c.in_ok-read_line.ensures.lines ∙ c.lines.invariant.read_cause;
      reads = (
        so_far.0 ++ line.0,
        so_far.1 ++ line.1,
        next,
        continues-more (IsReading old.saves (places_of old.past)) old.saves (places_of now.past) so_far.0 line.0 so_far.1 line.1 so_far.3 (places_of c.read_line.new.self.past) after,
        played-played so_far.4 (played-well c.in_ok-read_line.was line.4),
      );
    }

pub returns-clause-reads : goal.returns-clause-reads
returns-clause-reads g c =
    let old = c.args.self.now in
    let now = c.lines.self in
    let so_far = c.lines.invariant.reads in
    (so_far.0, so_far.1, so_far.2, continues-so-far (IsReading old.saves (places_of old.past)) old.saves (places_of now.past) (places_of now.past) so_far.0 so_far.1 so_far.3, played-off so_far.4)
