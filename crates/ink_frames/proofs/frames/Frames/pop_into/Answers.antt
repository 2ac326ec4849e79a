use Rattle.std.proofs.Common.{◌≡◌, ◌∙◌, ◌<◌, ◌+◌, ◌++◌, [], ◌∷◌, ap, arith, length, vec_capacity}
use Rattle.ink_frames.proofs.Common.{length-append, framed}
use Rattle.ink_frames.proofs.Bounding.{both_counted, left_few, left_most, left_within}
use Rattle.ink_frames.proofs.Flat.{last_taken, none_framed}
use Rattle.ink_frames.proofs.frames.Frames.pop_into.Goals as goal

pub returns-in-Some-clause-items : goal.returns-in-Some-clause-items
returns-in-Some-clause-items g c =
    let ls = c.pop_header.new.lowest in
    let own = c.pop_header.new.headers.items in
    let hs = ls ++ own in
    let ts = c.self.inside.temps.items in
    let few = ap length c.in-Some.ensures.all in
    let index : c.len.result + c.len-in-Some.result ≡ length hs = omega (arith, length-append ls own, c.len.ensures, c.len-in-Some.ensures, c.pop_header.new.headers.ok.0) in
    rw (← c.self.view_is) (ap (λ xs. framed xs ts) c.in-Some.ensures.all ∙ last_taken hs c.in-Some.header ts c.take_last_into.new.temps.items c.take_last_into.new.own
    (omega (arith, few, length-append hs (c.in-Some.header ∷ []), c.self.invariant.0)) (λ is. c.take_last_into.ensures.taken (omega (arith, is, index))) (λ is. c.take_last_into.ensures.none (omega (arith, is, index))))

pub overflow_add-index : goal.overflow_add-index
overflow_add-index g c =
    let ls = c.pop_header.new.lowest in
    let own = c.pop_header.new.headers in
    let few : c.len.result + c.len-in-Some.result < vec_capacity c.self.inside.headers = left_few (c.self.inside.lowest ++ c.self.inside.headers.items) (ls ++ own.items) c.in-Some.header _ _ c.in-Some.ensures.all
    (both_counted ls own c.len.result c.len-in-Some.result c.len.ensures c.len-in-Some.ensures) c.self.invariant.1 in
    omega (arith, few, c.self.inside.headers.small)

pub take_last_into-requires : goal.take_last_into-requires
take_last_into-requires g c =
    let ls = c.pop_header.new.lowest in
    let own = c.pop_header.new.headers in
    left_most (c.self.inside.lowest ++ c.self.inside.headers.items) (ls ++ own.items) c.in-Some.header _ _ c.in-Some.ensures.all (both_counted ls own c.len.result c.len-in-Some.result c.len.ensures c.len-in-Some.ensures) c.self.invariant.0

pub invariant_of-self : goal.invariant_of-self
invariant_of-self g c =
    let ls = c.pop_header.new.lowest in
    let own = c.pop_header.new.headers in
    left_within (c.self.inside.lowest ++ c.self.inside.headers.items) (ls ++ own.items) c.in-Some.header _ _ _ _ c.in-Some.ensures.all (both_counted ls own c.len.result c.len-in-Some.result c.len.ensures c.len-in-Some.ensures)
    c.take_last_into.ensures.few c.self.invariant.1 c.pop_header.ensures.room

pub invariant_of-self-in_default : goal.invariant_of-self-in_default
invariant_of-self-in_default g c = absurd (c.requires (none_framed _ c.self.inside.temps.items _ (ap (λ v. v.items) c.self.view_is) c.in_default.ensures.all.0))

pub returns-in_default-clause-items : goal.returns-in_default-clause-items
returns-in_default-clause-items g c = absurd (c.requires (none_framed _ c.self.inside.temps.items _ (ap (λ v. v.items) c.self.view_is) c.in_default.ensures.all.0))
