use Rattle.std.proofs.Common.{◌∙◌, ◌<◌, ◌++◌, true, ap, arith, length}
use Rattle.ink_frames.proofs.Common.{with_fresh, frame_with, framed}
use Rattle.ink_frames.proofs.Flat.{header_changed}
use Rattle.ink_frames.proofs.Sharing.{inside_all, own_got, own_inside, own_set}
use Rattle.ink_frames.proofs.Bounding.{within_put}
use Rattle.ink_frames.proofs.frames.Frames.freshen.Goals as goal

pub index_mut-requires : goal.index_mut-requires
index_mut-requires g c =
    let hs = c.self.inside.lowest ++ c.self.inside.headers.items in
    let inside : c.args.index < length hs = inside_all hs c.self.inside.temps.items _ c.args.index (ap (λ v. v.items) c.self.view_is) c.requires in
    omega (arith, own_inside c.own_index-own.new.lowest c.own_index-own.new.headers.items hs c.args.index c.own_index-own.result c.own_index-own.ensures.all c.own_index-own.ensures.index inside, c.own_index-own.new.headers.ok.0)

pub returns-clause-items : goal.returns-clause-items
returns-clause-items g c = λ d.
    let hs = c.self.inside.lowest ++ c.self.inside.headers.items in
    let ts = c.self.inside.temps.items in
    let i = c.args.index in
    let ls = c.own_index-own.new.lowest in
    let own = c.own_index-own.new.headers.items in
    let k = c.own_index-own.result in
    let e = c.index_mut.result.now in
    let all = c.own_index-own.ensures.all in
    let at = c.own_index-own.ensures.index in
    let inside : i < length hs = inside_all hs ts _ i (ap (λ v. v.items) c.self.view_is) c.requires in
    let was = c.index_mut.ensures.value ∙ own_got ls own hs i k e all at in
    rw (← c.self.view_is)
    (ap (λ gs. framed gs ts) (own_set ls own hs i k (record e { fresh = true }) all at)
    ∙ header_changed (with_fresh true) hs ts i (record e { fresh = true }) e d inside (λ rows. ap (λ h. with_fresh true (frame_with h rows)) was))

pub invariant_of-self : goal.invariant_of-self
invariant_of-self g c =
    within_put c.own_index-own.new.lowest c.own_index-own.new.headers.items (c.self.inside.lowest ++ c.self.inside.headers.items) c.own_index-own.result _ _ _ _ c.own_index-own.ensures.all c.own_index-own.ensures.room c.self.invariant
