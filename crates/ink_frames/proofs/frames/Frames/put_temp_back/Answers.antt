use Rattle.std.proofs.Common.{◌++◌, ◌≡◌, ◌∙◌, ◌<◌, [], ap, arith, get_or, length, set, sym, false, nat_lt, ◌≤◌, length-set, subst}
use Rattle.ink_frames.proofs.Common.{nat_tests, temps_back, framed}
use Rattle.std.proofs.lemmas.List.{get_or_default}
use Rattle.ink_frames.proofs.Flat.{bare_back, framed_length, rows_past, temps_at, temps_set}
use Rattle.ink_frames.proofs.frames.Frames.put_temp_back.Goals as goal

pub returns-then-index-len-clause-items : goal.returns-then-index-len-clause-items
returns-then-index-len-clause-items g c = λ d.
    let hs = c.self.inside.lowest ++ c.self.inside.headers.items in
    let ts = c.self.inside.temps.items in
    let i = c.args.index in
    let inside : c.args.index < length hs = omega (arith, c.requires, ap (λ v. length v.items) c.self.view_is, framed_length hs ts) in
    let few : c.args.index < length ts = omega (arith, c.if-index-len.true, c.self.inside.temps.ok.0) in
    let rows = c.put_back.ensures ∙ ap (temps_back c.args.row c.args.was) (c.index_mut.ensures.value ∙ sym (get_or_default ts i [] c.index_mut.result.now few) ∙ sym (temps_at hs ts i d inside)) in
    rw (← c.self.view_is) (temps_set hs ts i c.put_back.new.self d few c.self.invariant.0 ∙ ap (λ r. set (framed hs ts) i (record (get_or (framed hs ts) i d) { temps = r })) rows)

pub returns-else-index-len-clause-items : goal.returns-else-index-len-clause-items
returns-else-index-len-clause-items g c = λ d.
    let hs = c.self.inside.lowest ++ c.self.inside.headers.items in
    let ts = c.self.inside.temps.items in
    let i = c.args.index in
    let inside : c.args.index < length hs = omega (arith, c.requires, ap (λ v. length v.items) c.self.view_is, framed_length hs ts) in
    let past : false ≡ nat_lt i (length ts) = grind (arith, nat_tests, c.if-index-len.false, c.self.inside.temps.ok.0) in
    rw (← c.self.view_is) (bare_back (framed hs ts) i c.args.row c.args.was d (temps_at hs ts i d inside ∙ rows_past ts i past))

pub invariant_of-self : goal.invariant_of-self
invariant_of-self g c = (
  subst (λ n. n ≤ length (c.self.inside.lowest ++ c.self.inside.headers.items)) (sym (length-set c.self.inside.temps.items c.args.index c.put_back.new.self)) c.self.invariant.0,
  c.self.invariant.1,
)
