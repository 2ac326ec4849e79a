use Rattle.std.proofs.Common.{◌≡◌, ◌∙◌, ◌<◌, ◌+◌, ◌++◌, [], ◌∷◌, ap, arith, length, vec_capacity}
use Rattle.ink_frames.proofs.Common.{length-append, framed}
use Rattle.ink_frames.proofs.Bounding.{both_counted, left_few, left_most, left_within, none_within}
use Rattle.ink_frames.proofs.Flat.{last_taken}
use Rattle.ink_frames.proofs.frames.Frames.pop.Goals as goal

pub returns-clause-items : goal.returns-clause-items
returns-clause-items g c =
    let ls = c.pop_header.new.lowest in
    let own = c.pop_header.new.headers.items in
    let hs = ls ++ own in
    let ts = c.self.inside.temps.items in
    let few = ap length c.in_ok-header.ensures.all in
    let index : c.len.result + c.len-2.result ≡ length hs = omega (arith, length-append ls own, c.len.ensures, c.len-2.ensures, c.pop_header.new.headers.ok.0) in
    rw (← c.self.view_is) (ap (λ xs. framed xs ts) c.in_ok-header.ensures.all ∙ last_taken hs c.in_ok-header.header ts c.take_last-temps.new.temps.items c.take_last-temps.result
    (omega (arith, few, length-append hs (c.in_ok-header.header ∷ []), c.self.invariant.0)) (λ is. c.take_last-temps.ensures.taken (omega (arith, is, index))) (λ is. c.take_last-temps.ensures.none (omega (arith, is, index))))

pub overflow_add-index : goal.overflow_add-index
overflow_add-index g c =
    let ls = c.pop_header.new.lowest in
    let own = c.pop_header.new.headers in
    let few : c.len.result + c.len-2.result < vec_capacity c.self.inside.headers = left_few (c.self.inside.lowest ++ c.self.inside.headers.items) (ls ++ own.items) c.in_ok-header.header _ _ c.in_ok-header.ensures.all
    (both_counted ls own c.len.result c.len-2.result c.len.ensures c.len-2.ensures) c.self.invariant.1 in
    omega (arith, few, c.self.inside.headers.small)

pub take_last-temps-requires : goal.take_last-temps-requires
take_last-temps-requires g c =
    let ls = c.pop_header.new.lowest in
    let own = c.pop_header.new.headers in
    left_most (c.self.inside.lowest ++ c.self.inside.headers.items) (ls ++ own.items) c.in_ok-header.header _ _ c.in_ok-header.ensures.all (both_counted ls own c.len.result c.len-2.result c.len.ensures c.len-2.ensures) c.self.invariant.0

pub invariant_of-self-2 : goal.invariant_of-self-2
invariant_of-self-2 g c =
    let ls = c.pop_header.new.lowest in
    let own = c.pop_header.new.headers in
    left_within (c.self.inside.lowest ++ c.self.inside.headers.items) (ls ++ own.items) c.in_ok-header.header _ _ _ _ c.in_ok-header.ensures.all (both_counted ls own c.len.result c.len-2.result c.len.ensures c.len-2.ensures)
    c.take_last-temps.ensures.few c.self.invariant.1 c.pop_header.ensures.room

pub invariant_of-self : goal.invariant_of-self
invariant_of-self g c =
    none_within (c.self.inside.lowest ++ c.self.inside.headers.items) (c.pop_header.new.lowest ++ c.pop_header.new.headers.items) _ _ _ c.in_err-header.ensures.all.0 c.in_err-header.ensures.all.1 c.pop_header.ensures.room c.self.invariant
