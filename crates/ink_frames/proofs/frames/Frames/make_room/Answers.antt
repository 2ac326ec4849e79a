use Rattle.std.proofs.Common.{rules, ◌≡◌, ◌≤◌, ◌+◌, ◌++◌, arith, true, false, vec_capacity, ap, refl}
use Rattle.std.proofs.lemmas.List.{length-append}
use Rattle.ink_frames.specs.Frames.{is_bare}
use Rattle.std.proofs.Math.Nat.{le_refl}
use Rattle.ink_frames.proofs.Bounding.{below_all, within_more}
use Rattle.ink_frames.proofs.Flat.{fits_bare, fits_more}
use Rattle.ink_frames.proofs.Sharing.{all_counted}
use Rattle.ink_frames.proofs.frames.Frames.make_room.Goals as goal

pub overflow_sub-count : goal.overflow_sub-count
overflow_sub-count g c =
    let count = all_counted c.self.inside.lowest c.self.inside.headers.items c.self.inside.temps.items _ c.len-count.result (ap (λ v. v.items) c.self.view_is) c.len-count.ensures in
    omega (arith, count, c.self.invariant.0, length-append c.self.inside.lowest c.self.inside.headers.items, c.len-then-not-is_bare.ensures, c.self.inside.temps.ok.0)

pub overflow_add-count : goal.overflow_add-count
overflow_add-count g c =
    let count = all_counted c.self.inside.lowest c.self.inside.headers.items c.self.inside.temps.items _ c.len-count.result (ap (λ v. v.items) c.self.view_is) c.len-count.ensures in
    let few : c.len-count.result + 1 ≤ vec_capacity c.reserve.new.self = omega (arith, count, c.len.ensures, c.in_ok-reserve.ensures.ok, c.in_ok-reserve.ensures.len, c.self.inside.headers.ok.0) in
    search rules

pub returns-in_ok-reserve-2-clause-ok : goal.returns-in_ok-reserve-2-clause-ok
returns-in_ok-reserve-2-clause-ok g c =
    let ls = c.self.inside.lowest in
    let own = c.self.inside.headers.items in
    let ts = c.self.inside.temps.items in
    let count = all_counted ls own ts _ c.len-count.result (ap (λ v. v.items) c.self.view_is) c.len-count.ensures in
    let some : is_bare c.args.frame.now ≡ false = cc in
    rw (← c.self.view_is)
    (fits_more _ (ls ++ own) ts c.args.frame.now some (omega (arith, length-append ls own, c.len.ensures, c.in_ok-reserve.ensures.ok, c.in_ok-reserve.ensures.len, c.self.inside.headers.ok.0))
    (omega (arith, length-append ls own, count, c.len-then-not-is_bare.ensures, c.in_ok-reserve-2.ensures.ok, c.in_ok-reserve-2.ensures.len, c.self.inside.temps.ok.0, c.self.invariant.0)))

pub returns-else-not-is_bare-clause-ok : goal.returns-else-not-is_bare-clause-ok
returns-else-not-is_bare-clause-ok g c =
    let ls = c.self.inside.lowest in
    let own = c.self.inside.headers.items in
    let ts = c.self.inside.temps.items in
    let none : is_bare c.args.frame.now ≡ true = cc in
    rw (← c.self.view_is)
    (fits_bare _ (ls ++ own) ts c.args.frame.now none (omega (arith, length-append ls own, c.len.ensures, c.in_ok-reserve.ensures.ok, c.in_ok-reserve.ensures.len, c.self.inside.headers.ok.0))
    (omega (arith, c.self.inside.temps.ok.0, c.self.inside.temps.ok.1)))

pub invariant_of-self : goal.invariant_of-self
invariant_of-self g c = within_more c.self.inside.lowest c.self.inside.headers.items _ _ _ _ _ c.reserve.ensures.items refl c.reserve.ensures.capacity c.self.invariant

pub invariant_of-self-in-Continue-branch-2 : goal.invariant_of-self-in-Continue-branch-2
invariant_of-self-in-Continue-branch-2 g c =
    within_more c.self.inside.lowest c.self.inside.headers.items _ _ _ _ _ c.reserve.ensures.items c.reserve-then-not-is_bare.ensures.items c.reserve.ensures.capacity c.self.invariant

pub invariant_of-self-in_err-reserve-2 : goal.invariant_of-self-in_err-reserve-2
invariant_of-self-in_err-reserve-2 g c =
    within_more c.self.inside.lowest c.self.inside.headers.items _ _ _ _ _ c.reserve.ensures.items c.reserve-then-not-is_bare.ensures.items c.reserve.ensures.capacity c.self.invariant

pub invariant_of-self-else-not-is_bare : goal.invariant_of-self-else-not-is_bare
invariant_of-self-else-not-is_bare g c = within_more c.self.inside.lowest c.self.inside.headers.items _ _ _ _ _ c.reserve.ensures.items refl c.reserve.ensures.capacity c.self.invariant

pub overflow_add-len : goal.overflow_add-len
overflow_add-len g c = omega (arith, below_all c.self.inside.lowest c.self.inside.headers.items _ _ c.len.ensures c.self.invariant.1, c.self.inside.headers.small)

pub returns-in_err-reserve-clause-more : goal.returns-in_err-reserve-clause-more
returns-in_err-reserve-clause-more g c = rw (← c.self.view_is) (record { frames = c.reserve.ensures.capacity; temps = le_refl (vec_capacity c.self.inside.temps) })

pub returns-in_err-reserve-2-clause-more : goal.returns-in_err-reserve-2-clause-more
returns-in_err-reserve-2-clause-more g c = rw (← c.self.view_is) (record { frames = c.reserve.ensures.capacity; temps = c.reserve-then-not-is_bare.ensures.capacity })

pub returns-in_ok-reserve-2-clause-more : goal.returns-in_ok-reserve-2-clause-more
returns-in_ok-reserve-2-clause-more g c = rw (← c.self.view_is) (record { frames = c.reserve.ensures.capacity; temps = c.reserve-then-not-is_bare.ensures.capacity })

pub returns-else-not-is_bare-clause-more : goal.returns-else-not-is_bare-clause-more
returns-else-not-is_bare-clause-more g c = rw (← c.self.view_is) (record { frames = c.reserve.ensures.capacity; temps = le_refl (vec_capacity c.self.inside.temps) })
