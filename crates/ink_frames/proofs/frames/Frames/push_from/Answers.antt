use Rattle.std.proofs.Common.{◌≡◌, ◌+◌, ◌<◌, ◌∙◌, ◌++◌, [], ◌∷◌, ap, arith, length, reverse, subst, sym}
use Rattle.ink_frames.proofs.Common.{length-append, FrameOf, frame_with, framed}
use Rattle.ink_frames.specs.Frames.{FitsIn}
use Rattle.ink_frames.proofs.Flat.{bare_none, framed_bare, framed_put, bare_same, room_more, room_temps, put_within}
use Rattle.ink_frames.proofs.Sharing.{all_counted, own_more}
use Rattle.ink_frames.proofs.frames.Frames.push_from.Goals as goal

pub push_reserved-requires : goal.push_reserved-requires
push_reserved-requires g c =
    let ls = c.self.inside.lowest in
    let own = c.self.inside.headers.items in
    let fits = subst (λ v. FitsIn v.room (c.args.frame.now ∷ reverse v.items)) (sym c.self.view_is) c.requires in
    omega (arith, room_more _ (ls ++ own) c.self.inside.temps.items c.args.frame.now fits, length-append ls own, c.self.inside.headers.ok.0)

pub invariant_of-self : goal.invariant_of-self
invariant_of-self g c =
    let ls = c.self.inside.lowest in
    let own = c.self.inside.headers.items in
    let header = c.frame.inside.header in
    let fits = subst (λ v. FitsIn v.room (c.args.frame.now ∷ reverse v.items)) (sym c.self.view_is) c.requires in
    let more = ap length (own_more ls own c.push_reserved.new.self.items header c.push_reserved.ensures.items) ∙ length-append (ls ++ own) (header ∷ []) in (
      omega (arith, more, c.self.invariant.0),
      omega (arith, more, room_more _ (ls ++ own) c.self.inside.temps.items c.args.frame.now fits, c.push_reserved.ensures.capacity),
    )

pub returns-then-is_bare-clause-items : goal.returns-then-is_bare-clause-items
returns-then-is_bare-clause-items g c =
    let ls = c.self.inside.lowest in
    let own = c.self.inside.headers.items in
    let hs = ls ++ own in
    let ts = c.self.inside.temps.items in
    let header = c.frame.inside.header in
    let none : c.frame.inside.temps ≡ [] = ap (λ f. f.temps) c.frame.view_is ∙ bare_none c.args.frame.now (sym c.is_bare.ensures ∙ c.if-is_bare.true) in
    rw (← c.self.view_is)
    (ap (λ xs. framed xs ts) (own_more ls own c.push_reserved.new.self.items header c.push_reserved.ensures.items) ∙ framed_bare hs ts header c.self.invariant.0
    ∙ ap (λ f. framed hs ts ++ f ∷ []) (ap (λ rows. frame_with header rows) (sym none) ∙ c.frame.view_is))

pub put_last-requires-clause-below : goal.put_last-requires-clause-below
put_last-requires-clause-below g c =
    let ls = c.self.inside.lowest in
    let own = c.self.inside.headers.items in
    let count = all_counted ls own c.self.inside.temps.items _ c.len-index.result (ap (λ v. v.items) c.self.view_is) c.len-index.ensures in
    omega (arith, count, length-append ls own, c.self.invariant.0)

pub push_reserved-requires-2 : goal.push_reserved-requires-2
push_reserved-requires-2 g c =
    let ls = c.self.inside.lowest in
    let own = c.self.inside.headers.items in
    let fits = subst (λ v. FitsIn v.room (c.args.frame.now ∷ reverse v.items)) (sym c.self.view_is) c.requires in
    omega (arith, room_more _ (ls ++ own) c.self.inside.temps.items c.args.frame.now fits, length-append ls own, c.self.inside.headers.ok.0)

pub invariant_of-self-2 : goal.invariant_of-self-2
invariant_of-self-2 g c =
    let ls = c.self.inside.lowest in
    let own = c.self.inside.headers.items in
    let ts = c.self.inside.temps.items in
    let header = c.frame.inside.header in
    let more = own_more ls own c.push_reserved-2.new.self.items header c.push_reserved-2.ensures.items in
    let count = all_counted ls own ts _ c.len-index.result (ap (λ v. v.items) c.self.view_is) c.len-index.ensures in
    let fits = subst (λ v. FitsIn v.room (c.args.frame.now ∷ reverse v.items)) (sym c.self.view_is) c.requires in (
      put_within (ls ++ own) (ls ++ c.push_reserved-2.new.self.items) ts c.put_last.new.temps.items c.len-index.result header c.frame.inside.temps more c.put_last.ensures.items
          (omega (arith, count, length-append ls own)) c.self.invariant.0,
      omega (arith, ap length more, length-append (ls ++ own) (header ∷ []), room_more _ (ls ++ own) ts c.args.frame.now fits, c.push_reserved-2.ensures.capacity),
    )

pub returns-clause-items : goal.returns-clause-items
returns-clause-items g c =
    let ls = c.self.inside.lowest in
    let own = c.self.inside.headers.items in
    let hs = ls ++ own in
    let ts = c.self.inside.temps.items in
    let header = c.frame.inside.header in
    let rows = c.frame.inside.temps in
    let count = all_counted ls own ts _ c.len-index.result (ap (λ v. v.items) c.self.view_is) c.len-index.ensures in
    let index : c.len-index.result ≡ length hs = omega (arith, count, length-append ls own) in
    rw (← c.self.view_is)
    (ap (λ xs. framed xs c.put_last.new.temps.items) (own_more ls own c.push_reserved-2.new.self.items header c.push_reserved-2.ensures.items) ∙ ap (λ ys. framed (hs ++ header ∷ []) ys) c.put_last.ensures.items
    ∙ framed_put hs ts c.len-index.result header rows index (omega (arith, c.self.invariant.0, index))
    ∙ ap (λ f. framed hs ts ++ f ∷ []) c.frame.view_is)

pub put_last-requires-clause-room : goal.put_last-requires-clause-room
put_last-requires-clause-room g c =
    subst (λ r. c.len-index.result < r.temps) (sym (ap (λ v. v.room) c.self.view_is))
    (room_temps _ c.args.self.now.items c.args.frame.now _ (sym c.is_bare.ensures ∙ c.if-is_bare.false) c.requires c.len-index.ensures)

pub returns-then-is_bare-clause-frame : goal.returns-then-is_bare-clause-frame
returns-then-is_bare-clause-frame g c = bare_same c.args.frame.now (sym c.is_bare.ensures ∙ c.if-is_bare.true)

pub returns-clause-frame : goal.returns-clause-frame
returns-clause-frame g c = ap (λ rows. frame_with c.frame.inside.header rows) c.put_last.ensures.own ∙ ap (λ (f : FrameOf g.row.P.Denot). record f { temps = [] }) c.frame.view_is
