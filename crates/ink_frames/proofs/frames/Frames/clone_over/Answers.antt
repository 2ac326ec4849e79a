use Rattle.std.proofs.Common.{◌≡◌, ◌∙◌, ◌++◌, ap, arith, length}
use Rattle.ink_frames.proofs.Common.{length-append, framed}
use Rattle.ink_frames.proofs.Lengths.{no_longer, none_counted, some_on_err}
use Rattle.ink_frames.proofs.Sharing.{all_counted, both_are}
use Rattle.ink_frames.proofs.frames.Frames.clone_over.Goals as goal

pub invariant_of-result : goal.invariant_of-result
invariant_of-result g c =
    let ls = c.self.inside.lowest in
    let own = c.self.inside.headers.items in
    let ts = c.self.inside.temps.items in
    let none : c.in_ok-headers.headers.items ++ c.as_slice.result.now ≡ c.as_slice.result.now = ap (λ hs. hs ++ c.as_slice.result.now) c.in_ok-headers.ensures.none in
    let headers : c.extend.new.headers.items ≡ own = c.in_ok-extend.ensures.items ∙ none ∙ c.as_slice.ensures.value in
    let all = both_are c.in_ok-lowest.lowest ls c.extend.new.headers.items own c.in_ok-lowest.ensures headers in
    let count = all_counted ls own ts _ c.len-2.result (ap (λ v. v.items) c.self.view_is) c.len-2.ensures in (
      no_longer ts c.in_ok-temps.temps.items (ls ++ own) (c.in_ok-lowest.lowest ++ c.extend.new.headers.items) (c.in_ok-temps.ensures.copy ∙ c.as_slice-2.ensures.value) all c.self.invariant.0,
      omega (arith, ap length all, length-append ls own, count, c.in_ok-headers.ensures.room, c.extend.ensures.room),
    )

pub returns-clause-copy : goal.returns-clause-copy
returns-clause-copy g c =
    let ls = c.self.inside.lowest in
    let own = c.self.inside.headers.items in
    let none : c.in_ok-headers.headers.items ++ c.as_slice.result.now ≡ c.as_slice.result.now = ap (λ hs. hs ++ c.as_slice.result.now) c.in_ok-headers.ensures.none in
    let headers : c.extend.new.headers.items ≡ own = c.in_ok-extend.ensures.items ∙ none ∙ c.as_slice.ensures.value in
    let all = both_are c.in_ok-lowest.lowest ls c.extend.new.headers.items own c.in_ok-lowest.ensures headers in
    rw (← c.self.view_is) (ap (λ hs. framed hs c.in_ok-temps.temps.items) all ∙ ap (framed (ls ++ own)) (c.in_ok-temps.ensures.copy ∙ c.as_slice-2.ensures.value))

pub returns-in_err-headers-clause-memory : goal.returns-in_err-headers-clause-memory
returns-in_err-headers-clause-memory g c = some_on_err _ c.from_residual.result c.len.result c.len.ensures c.if-len-eq0.false

pub returns-in_err-extend-clause-memory : goal.returns-in_err-extend-clause-memory
returns-in_err-extend-clause-memory g c = some_on_err _ _ c.len.result c.len.ensures c.if-len-eq0.false

pub returns-in_err-lowest-clause-memory : goal.returns-in_err-lowest-clause-memory
returns-in_err-lowest-clause-memory g c = some_on_err _ _ c.len.result c.len.ensures c.if-len-eq0.false

pub returns-in_err-temps-clause-memory : goal.returns-in_err-temps-clause-memory
returns-in_err-temps-clause-memory g c = some_on_err _ _ c.len.result c.len.ensures c.if-len-eq0.false

pub returns-then-len-eq0-clause-copy : goal.returns-then-len-eq0-clause-copy
returns-then-len-eq0-clause-copy g c = c.new.ensures ∙ none_counted c.args.self.now.items _ c.len.ensures c.if-len-eq0.true
