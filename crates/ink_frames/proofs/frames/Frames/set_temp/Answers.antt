use Rattle.std.proofs.Common.{◌++◌, rules, ◌≡◌, ◌∙◌, ◌<◌, ◌+◌, ◌-◌, ap, arith, false, get_or, length, length-set, nat_lt, set, sym, subst, ◌≤◌, vec_capacity}
use Rattle.ink_frames.proofs.Common.{nat_tests, IfOk-weaker, err_from_is_err_and, on_err_weaker, on_ok_weaker, name_order, row, with_row, framed, text_of}
use Rattle.std.proofs.lemmas.List.{length-append, length-replicate, set-get_or}
use Rattle.ink_frames.proofs.Flat.{framed_length, rows_past, temps_at, temps_filled, temps_put, temps_restored, temps_were, filled_past}
use Rattle.std.proofs.Math.Nat.{le_refl}
use Rattle.ink_frames.proofs.frames.Frames.set_temp.Goals as goal

pub overflow_add-index : goal.overflow_add-index
overflow_add-index g c =
    let hs = c.self.inside.lowest ++ c.self.inside.headers.items in
    let inside : c.args.index < length hs = omega (arith, c.requires, ap (λ v. length v.items) c.self.view_is, framed_length hs c.self.inside.temps.items) in
    let most = c.self.invariant.1 in
    search rules

pub returns-in_err-fill_up-clause-memory : goal.returns-in_err-fill_up-clause-memory
returns-in_err-fill_up-clause-memory g c = λ d.
    let hs = c.self.inside.lowest ++ c.self.inside.headers.items in
    let ts = c.self.inside.temps.items in
    let i = c.args.index in
    let inside : i < length hs = omega (arith, c.requires, ap (λ v. length v.items) c.self.view_is, framed_length hs ts) in
    let past : false ≡ nat_lt i (length ts) = grind (arith, nat_tests, c.in_err-fill_up.ensures.memory) in
    let p = err_from_is_err_and c.from_residual.result c.from_residual.ensures.1 in
    rw p.1 (rw (← c.self.view_is) (ap (row name_order (text_of c.args.name)) (temps_at hs ts i d inside ∙ rows_past ts i past)))

pub invariant_of-self-2 : goal.invariant_of-self-2
invariant_of-self-2 g c =
    let hs = c.self.inside.lowest ++ c.self.inside.headers.items in
    let ts = c.self.inside.temps.items in
    let i = c.args.index in
    let inside : i < length hs = omega (arith, c.requires, ap (λ v. length v.items) c.self.view_is, framed_length hs ts) in
    let more : length c.fill_up.new.temps.items ≡ length ts + (i + 1 - length ts) = ap length c.in_ok-fill_up.ensures.ok ∙ length-append ts _ ∙ ap (λ k. length ts + k) (length-replicate (i + 1 - length ts) _) in
    (omega (arith, more, inside, c.self.invariant.0, length-set c.fill_up.new.temps.items i c.set.new.self), c.self.invariant.1)

pub returns-clause-ok : goal.returns-clause-ok
returns-clause-ok g c = λ d.
    let hs = c.self.inside.lowest ++ c.self.inside.headers.items in
    let ts = c.self.inside.temps.items in
    let filled = c.fill_up.new.temps.items in
    let i = c.args.index in
    let n = i + 1 - length ts in
    let inside : i < length hs = omega (arith, c.requires, ap (λ v. length v.items) c.self.view_is, framed_length hs ts) in
    let more : length filled ≡ length ts + n = ap length c.in_ok-fill_up.ensures.ok ∙ length-append ts _ ∙ ap (λ k. length ts + k) (length-replicate n _) in
    let were = temps_were hs ts filled n i c.index_mut.result.now d c.in_ok-fill_up.ensures.ok (omega arith) (omega (arith, c.self.invariant.0)) in
    rw (← c.self.view_is)
    (on_ok_weaker c.set.result
    (λ made. temps_put hs ts filled n i c.set.new.self d c.in_ok-fill_up.ensures.ok (omega arith) (omega (arith, c.self.invariant.0))
    ∙ ap (λ rows. set (framed hs ts) i (record (get_or (framed hs ts) i d) { temps = rows })) (made ∙ ap (with_row name_order (text_of c.args.name) c.args.value) (c.index_mut.ensures.value ∙ were)))
    c.set.ensures.ok)

pub returns-clause-err : goal.returns-clause-err
returns-clause-err g c =
    let hs = c.self.inside.lowest ++ c.self.inside.headers.items in
    let ts = c.self.inside.temps.items in
    let filled = c.fill_up.new.temps.items in
    let i = c.args.index in
    rw (← c.self.view_is)
    (on_err_weaker c.set.result
    (λ kept. ap (framed hs) (ap (λ rows. set filled i rows) (kept ∙ c.index_mut.ensures.value) ∙ set-get_or filled i c.index_mut.result.now ∙ c.in_ok-fill_up.ensures.ok)
    ∙ temps_filled hs ts (i + 1 - length ts))
    c.set.ensures.err)

pub returns-clause-memory : goal.returns-clause-memory
returns-clause-memory g c = λ d.
    let hs = c.self.inside.lowest ++ c.self.inside.headers.items in
    let ts = c.self.inside.temps.items in
    let filled = c.fill_up.new.temps.items in
    let i = c.args.index in
    let n = i + 1 - length ts in
    let inside : i < length hs = omega (arith, c.requires, ap (λ v. length v.items) c.self.view_is, framed_length hs ts) in
    let more : length filled ≡ length ts + n = ap length c.in_ok-fill_up.ensures.ok ∙ length-append ts _ ∙ ap (λ k. length ts + k) (length-replicate n _) in
    let were = temps_were hs ts filled n i c.index_mut.result.now d c.in_ok-fill_up.ensures.ok (omega arith) (omega (arith, c.self.invariant.0)) in
    rw (← c.self.view_is)
    (on_err_weaker c.set.result (λ absent. ap (row name_order (text_of c.args.name)) (sym (c.index_mut.ensures.value ∙ were)) ∙ absent) c.set.ensures.memory)

pub returns-clause-back : goal.returns-clause-back
returns-clause-back g c = λ d.
    let hs = c.self.inside.lowest ++ c.self.inside.headers.items in
    let ts = c.self.inside.temps.items in
    let filled = c.fill_up.new.temps.items in
    let i = c.args.index in
    let n = i + 1 - length ts in
    let inside : i < length hs = omega (arith, c.requires, ap (λ v. length v.items) c.self.view_is, framed_length hs ts) in
    let more : length filled ≡ length ts + n = ap length c.in_ok-fill_up.ensures.ok ∙ length-append ts _ ∙ ap (λ k. length ts + k) (length-replicate n _) in
    let were = temps_were hs ts filled n i c.index_mut.result.now d c.in_ok-fill_up.ensures.ok (omega arith) (omega (arith, c.self.invariant.0)) in
    rw (← c.self.view_is)
    (IfOk-weaker c.set.result _ _
    (λ was back. temps_restored hs ts filled n i was.0 c.set.new.self was.1 d c.in_ok-fill_up.ensures.ok (omega arith) (omega (arith, c.self.invariant.0)) (back ∙ c.index_mut.ensures.value ∙ were))
    c.set.ensures.back)

pub index_mut-requires : goal.index_mut-requires
index_mut-requires g c = subst (λ n. c.args.index < n) (sym c.fill_up.new.temps.ok.0) (filled_past c.self.inside.temps.items c.fill_up.new.temps.items c.args.index c.in_ok-fill_up.ensures.ok)

pub invariant_of-self : goal.invariant_of-self
invariant_of-self g c = (
  subst (λ ts. length ts ≤ length (c.self.inside.lowest ++ c.self.inside.headers.items)) (sym c.in_err-fill_up.ensures.err) c.self.invariant.0,
  c.self.invariant.1,
)

pub returns-clause-room : goal.returns-clause-room
returns-clause-room g c = rw (← c.self.view_is) (record { frames = le_refl (vec_capacity c.self.inside.headers); temps = c.fill_up.ensures.room })
