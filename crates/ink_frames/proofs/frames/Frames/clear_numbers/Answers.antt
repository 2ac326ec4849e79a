use Rattle.std.proofs.Common.{◌≡◌, ◌∙◌, ◌++◌, ◌-◌, ap, arith, drop, length, map, sym, refl, take, vec_len}
use Rattle.std.proofs.lemmas.List.{length-append, length-map, map-append, with_items_is}
use Rattle.ink_frames.proofs.Bounding.{within_again}
use Rattle.ink_frames.proofs.Common.{framed, Settled}
use Rattle.ink_frames.specs.Frames.{unnumbered}
use Rattle.ink_frames.proofs.Flat.{framed_length, unnumbered_all}
use Rattle.ink_frames.proofs.Settling.{settled_within, unnumbered_own}
use Rattle.ink_frames.proofs.frames.Frames.clear_numbers.Goals as goal

pub returns-then-settled-shared-clause-items : goal.returns-then-settled-shared-clause-items
returns-then-settled-shared-clause-items g c =
    let ls = c.self.inside.lowest in
    let own = c.self.inside.headers in
    let ts = c.self.inside.temps.items in
    let items : c.clear_numbers_of.new.headers ≡ map unnumbered own.items = c.clear_numbers_of.ensures ∙ ap (map unnumbered) c.as_mut_slice.ensures.value in
    let kept : length c.clear_numbers_of.new.headers ≡ vec_len own = c.clear_numbers_of.auto.headers ∙ c.as_mut_slice.ensures.len in
    let all = ap (λ xs. c.clear_numbers.new.self ++ xs) items ∙ ap (λ xs. xs ++ map unnumbered own.items) c.clear_numbers.ensures ∙ sym (map-append unnumbered ls own.items) in
    rw (← c.self.view_is) (rw (with_items_is own c.clear_numbers_of.new.headers kept) (ap (λ xs. framed xs ts) all ∙ unnumbered_all (ls ++ own.items) ts))

pub returns-else-settled-shared-clause-items : goal.returns-else-settled-shared-clause-items
returns-else-settled-shared-clause-items g c =
    let ls = c.self.inside.lowest in
    let own = c.self.inside.headers in
    let ts = c.self.inside.temps.items in
    let n = c.args.settled in
    let new = c.clear_numbers_from.new.headers in
    let settled : Settled n (framed (ls ++ own.items) ts) = rw (← c.self.view_is) at c.requires in
    let items = c.clear_numbers_from.ensures ∙ ap (λ xs. take (n - c.len-shared.result) xs ++ map unnumbered (drop (n - c.len-shared.result) xs)) c.as_mut_slice-else-settled-shared.ensures.value in
    let kept : length new ≡ vec_len own = c.clear_numbers_from.auto.headers ∙ c.as_mut_slice-else-settled-shared.ensures.len in
    let all : ls ++ new ≡ map unnumbered (ls ++ own.items) =
    ap (λ xs. ls ++ xs) items ∙ ap (λ m. ls ++ (take (n - m) own.items ++ map unnumbered (drop (n - m) own.items))) c.len-shared.ensures ∙ unnumbered_own ls own.items ts n (omega (arith, c.len-shared.ensures)) settled in
    rw (← c.self.view_is) (rw (with_items_is own new kept) (ap (λ xs. framed xs ts) all ∙ unnumbered_all (ls ++ own.items) ts))

pub clear_numbers_from-requires : goal.clear_numbers_from-requires
clear_numbers_from-requires g c =
    let ls = c.self.inside.lowest in
    let own = c.self.inside.headers.items in
    let ts = c.self.inside.temps.items in
    let settled : Settled c.args.settled (framed (ls ++ own) ts) = rw (← c.self.view_is) at c.requires in
    omega (arith, settled_within c.args.settled (framed (ls ++ own) ts) settled, framed_length (ls ++ own) ts, length-append ls own, c.len-shared.ensures, ap length c.as_mut_slice-else-settled-shared.ensures.value)

pub invariant_of-self : goal.invariant_of-self
invariant_of-self g c =
    let ls = c.self.inside.lowest in
    let own = c.self.inside.headers in
    let new = c.clear_numbers_of.new.headers in
    let kept : length new ≡ vec_len own = c.clear_numbers_of.auto.headers ∙ c.as_mut_slice.ensures.len in
    rw (with_items_is own new kept) (within_again ls own.items c.clear_numbers.new.self new _ _ (ap length c.clear_numbers.ensures ∙ length-map ls unnumbered) (kept ∙ own.ok.0) c.self.invariant)

pub invariant_of-self-else-settled-shared : goal.invariant_of-self-else-settled-shared
invariant_of-self-else-settled-shared g c =
    let ls = c.self.inside.lowest in
    let own = c.self.inside.headers in
    let new = c.clear_numbers_from.new.headers in
    let kept : length new ≡ vec_len own = c.clear_numbers_from.auto.headers ∙ c.as_mut_slice-else-settled-shared.ensures.len in
    rw (with_items_is own new kept) (within_again ls own.items ls new _ _ refl (kept ∙ own.ok.0) c.self.invariant)
