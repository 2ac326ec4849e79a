use Rattle.std.proofs.Common.{◌≡◌, ◌-◌, ◌≤◌, Err, rules, [], ◌∷◌, ◌++◌, max, length, ◌∙◌, inr, ap, arith}
use Rattle.std.proofs.lemmas.List.{length-append}
use Rattle.ink_protocol.proofs.Reading.{stays, goes_whole, goes_further, not_cut}
use Rattle.ink_protocol.proofs.lines.next_line.Goals as goal

pub returns-in_default-clause-gives : goal.returns-in_default-clause-gives
returns-in_default-clause-gives g c =
    let room : length c.next.new.self.unread ≤ max (length c.pieces.ahead.unread) (max (c.args.limit - length c.pieces.line.items) 1) = omega (arith, c.in_default.ensures.room) in
    let gives = c.in_default.ensures.gives in (
      record { part = c.pieces.line.items; takes = stays _ _ _ _ _ _ _ _ c.pieces.invariant.takes c.pieces.invariant.within gives.0 room },
      c.pieces.invariant.within,
      gives.1,
    )

pub returns-in-TooMany-clause-gives : goal.returns-in-TooMany-clause-gives
returns-in-TooMany-clause-gives g c =
    let room : length c.next.new.self.unread ≤ max (length c.pieces.ahead.unread) (max (c.args.limit - length c.pieces.line.items) 1) = omega (arith, c.in-Ok.ensures.room) in
    let gives = rw c.in-TooMany.is at c.in-Ok.ensures.gives in (
      record { part = c.pieces.line.items; takes = stays _ _ _ _ _ _ _ _ c.pieces.invariant.takes c.pieces.invariant.within gives.0 room },
      inr (c.pieces.invariant.within, gives.1, gives.2),
    )

pub returns-in-Newline-clause-gives : goal.returns-in-Newline-clause-gives
returns-in-Newline-clause-gives g c =
    let room : length c.next.new.self.unread ≤ max (length c.pieces.ahead.unread) (max (c.args.limit - length c.pieces.line.items) 1) = omega (arith, c.in-Ok.ensures.room) in
    let gives = rw c.in-Bytes.is at c.in-Ok.ensures.gives in
    let cut = rw c.in-Newline.is at c.in_ok-cut.ensures in
    goes_whole _ _ _ _ _ _ _ _ c.pieces.invariant.takes c.pieces.invariant.within gives.0 room _ cut.0 _ cut.1 cut.2

pub pieces-preserved : goal.pieces-preserved
pieces-preserved g c =
    let room : length c.next.new.self.unread ≤ max (length c.pieces.ahead.unread) (max (c.args.limit - length c.pieces.line.items) 1) = omega (arith, c.in-Ok.ensures.room) in
    let gives = rw c.in-Bytes.is at c.in-Ok.ensures.gives in
    let cut = rw c.in-More.is at c.in_ok-cut.ensures in
    let further = goes_further _ _ _ _ _ _ _ _ c.pieces.invariant.takes c.pieces.invariant.within gives.0 room _ cut.0 _ cut.1 cut.2 cut.3 in
    record {
      takes = further.0;
      within = further.1;
      cause = c.in-Ok.ensures.cause ∙ c.pieces.invariant.cause;
      ends = rw c.in-Bytes.is at c.in-Ok.ensures.ends ∙ c.pieces.invariant.ends;
      name = c.in-Ok.ensures.name ∙ c.pieces.invariant.name;
    }

pub returns-in_err-cut-clause-gives : goal.returns-in_err-cut-clause-gives
returns-in_err-cut-clause-gives g c =
    let room : length c.next.new.self.unread ≤ max (length c.pieces.ahead.unread) (max (c.args.limit - length c.pieces.line.items) 1) = omega (arith, c.in-Ok.ensures.room) in
    let gives = rw c.in-Bytes.is at c.in-Ok.ensures.gives in
    let cut = c.in_err-cut.ensures in
    let is : c.from_residual.result ≡ Err c.in_err-cut.field-0.0 = search rules in
    rw is (not_cut _ _ _ _ _ _ _ _ c.pieces.invariant.takes c.pieces.invariant.within gives.0 room _ cut.0 c.cut.new.line.items c.in_err-cut.field-0.0 gives.2 cut.1 cut.2)

pub returns-in-End-clause-bound : goal.returns-in-End-clause-bound
returns-in-End-clause-bound g c = omega (arith, c.in-Ok.ensures.bound)

pub returns-in-TooMany-clause-bound : goal.returns-in-TooMany-clause-bound
returns-in-TooMany-clause-bound g c = omega (arith, c.in-Ok.ensures.bound)

pub returns-in-Newline-clause-bound : goal.returns-in-Newline-clause-bound
returns-in-Newline-clause-bound g c =
    let gives = rw c.in-Bytes.is at c.in-Ok.ensures.gives in
    let cut = rw c.in-Newline.is at c.in_ok-cut.ensures in
    omega (arith, gives.2, cut.1.count, ap length cut.1.bytes, length-append (cut.0 ++ 10 ∷ []) c.cut.new.self.unread)

pub returns-in_err-cut-clause-bound : goal.returns-in_err-cut-clause-bound
returns-in_err-cut-clause-bound g c =
    let gives = rw c.in-Bytes.is at c.in-Ok.ensures.gives in
    let cut = c.in_err-cut.ensures in
    omega (arith, gives.2, cut.1.count, ap length cut.1.bytes, length-append cut.0 c.cut.new.self.unread)

pub pieces-smaller : goal.pieces-smaller
pieces-smaller g c =
    let gives = rw c.in-Bytes.is at c.in-Ok.ensures.gives in
    let cut = rw c.in-More.is at c.in_ok-cut.ensures in
    omega (arith, gives.0.count, cut.1.count, cut.2)

pub returns-in-End-clause-gives : goal.returns-in-End-clause-gives
returns-in-End-clause-gives g c =
    let room : length c.next.new.self.unread ≤ max (length c.pieces.ahead.unread) (max (c.args.limit - length c.pieces.line.items) 1) = omega (arith, c.in-Ok.ensures.room) in
    let gives = rw c.in-End.is at c.in-Ok.ensures.gives in
    (stays _ _ _ _ _ _ _ _ c.pieces.invariant.takes c.pieces.invariant.within gives.0 room, c.pieces.invariant.within, gives.1, gives.2)
