use Rattle.std.proofs.Common.{◌≡◌, ◌-◌, [], ◌∷◌, Some, ap, arith, length, refl, reverse, slice_get, subst, sym, vec_len, ◌∙◌}
use Rattle.ink_stack.proofs.Common.{length-append}
use Rattle.ink_stack.proofs.Plain.{last_popped, some_got}
use Rattle.ink_stack.proofs.Tops.{dropped_is}
use Rattle.ink_stack.proofs.threads.drop_top.Goals as goal

pub returns : goal.returns
returns g c =
    let below = c.args.below.now in
    let items = below.items in
    let rest = c.pop-last.new.self.items in
    let next = c.in-Some.next.now in
    let last : slice_get items (length items - 1) ≡ Some next = subst (λ xs. slice_get xs (length xs - 1) ≡ Some next) c.deref.ensures.value (sym c.in-Some.ensures.value) in
    let at : slice_get items (vec_len below - 1) ≡ Some next = subst (λ n. slice_get items (n - 1) ≡ Some next) (sym below.ok.0) last in
    let some = some_got items (length items - 1) next last in
    let whole = last_popped items rest c.pop-last.result (vec_len below - 1) next at c.pop-last.ensures.items (c.pop-last.ensures.value next (omega (arith, some, below.ok.0))) in
    let dropped = dropped_is c.args.running.now.thread next rest items whole in
    record {
      dropped = rw dropped refl;
      new = rw dropped (ap (λ t. record { thread = t; below = reverse rest }) (c.copy_plain.ensures.thread ∙ c.next.view_is));
      within = c.within.ensures;
      fewer = omega (arith, ap length whole, length-append rest (next ∷ []));
      room = c.pop-last.ensures.capacity;
    }
