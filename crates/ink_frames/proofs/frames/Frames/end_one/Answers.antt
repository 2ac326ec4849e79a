use Rattle.std.proofs.Common.{◌≡◌, ◌∙◌, ◌<◌, ◌++◌, ap, arith, get_or, length, set, subst, sym}
use Rattle.std.proofs.lemmas.List.{set-get_or}
use Rattle.ink_frames.proofs.Bounding.{within_put}
use Rattle.ink_frames.proofs.Common.{stale, frame_with, framed}
use Rattle.ink_frames.proofs.Sharing.{header_put, inside_all, own_inside, own_set, stale_ended, stale_kept}
use Rattle.ink_frames.proofs.frames.Frames.end_one.Goals as goal

pub index_mut-requires : goal.index_mut-requires
index_mut-requires g c =
    let hs = c.self.inside.lowest ++ c.self.inside.headers.items in
    let inside : c.args.index < length hs = inside_all hs c.self.inside.temps.items _ c.args.index (ap (λ v. v.items) c.self.view_is) c.requires in
    omega (arith, own_inside c.own_index-own.new.lowest c.own_index-own.new.headers.items hs c.args.index c.own_index-own.result c.own_index-own.ensures.all c.own_index-own.ensures.index inside, c.own_index-own.new.headers.ok.0)

pub returns-clause-items : goal.returns-clause-items
returns-clause-items g c = λ d.
    let hs = c.self.inside.lowest ++ c.self.inside.headers.items in
    let ts = c.self.inside.temps.items in
    let i = c.args.index in
    let h = c.header_at-header.result in
    let inside : i < length hs = inside_all hs ts _ i (ap (λ v. v.items) c.self.view_is) c.requires in
    let there = subst (λ v. get_or v.items i d ≡ frame_with h (get_or v.items i d).temps) (sym c.self.view_is) (c.header_at-header.ensures d) in
    rw (← c.self.view_is)
    (ap (λ all. framed all ts) (own_set c.own_index-own.new.lowest c.own_index-own.new.headers.items hs i c.own_index-own.result c.end_one.new.self c.own_index-own.ensures.all c.own_index-own.ensures.index)
    ∙ header_put (stale c.args.depth) hs ts i c.end_one.new.self h d inside c.end_one.ensures.frame there)

pub invariant_of-self : goal.invariant_of-self
invariant_of-self g c =
    within_put c.own_index-own.new.lowest c.own_index-own.new.headers.items (c.self.inside.lowest ++ c.self.inside.headers.items) c.own_index-own.result _ _ _ _ c.own_index-own.ensures.all c.own_index-own.ensures.room c.self.invariant

pub returns-then-not-end_one-clause-kept : goal.returns-then-not-end_one-clause-kept
returns-then-not-end_one-clause-kept g c = λ d.
    stale_kept c.args.depth c.header_at-header.result (get_or c.args.self.now.items c.args.index d) c.end_one.result (c.header_at-header.ensures d) c.if-not-end_one.true c.end_one.ensures.kept

pub returns-then-not-end_one-clause-items : goal.returns-then-not-end_one-clause-items
returns-then-not-end_one-clause-items g c = λ d.
    let items = c.args.self.now.items in
    let i = c.args.index in
    sym (ap (λ f. set items i f) (returns-then-not-end_one-clause-kept g c d) ∙ set-get_or items i d)

pub returns-clause-ended : goal.returns-clause-ended
returns-clause-ended g c = λ d.
    stale_ended c.args.depth c.header_at-header.result (get_or c.args.self.now.items c.args.index d) c.end_one.result (c.header_at-header.ensures d) c.if-not-end_one.false c.end_one.ensures.ended
