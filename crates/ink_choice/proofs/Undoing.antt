-- What is put back of choices, and that there is room for it.
use Rattle.std.proofs.Common.{◌≡◌, ◌∙◌, ◌≤◌, ◌<◌, ◌+◌, ℕ, zero, suc, List, [], ◌∷◌, ◌++◌, Option, Some, None, false, is_some, ap, arith, drop, get_or, Global, Vec, vec_capacity, length, refl, subst, sym, take}
use Rattle.std.proofs.lemmas.List.{drop_all, length-append, take-append-drop, take_all}
use Rattle.std.specs.List.{insert, remove}
use Rattle.ink_model.specs.Run.Configuration.{ChoiceOf}
use Rattle.ink_model.specs.declared.limits.TheConstants.{MAX_CHOICES}
use Rattle.ink_trail.proofs.Ending.{but_last-snoc}
use Rattle.ink_trail.proofs.Staying.{stays-more, stays-now, stays-with}
use Rattle.ink_trail.specs.Undo.{Undo, but_last, trail_of, with_pair}
use Rattle.ink_choice.proofs.Settling.{settled-added}
use Rattle.ink_choice.specs.Choices.{Settled}
use Rattle.ink_choice.specs.Undo.{Held, StaysHeld, choices_back, room_of}
use Rattle.ink_choice.specs.declared.undo.ChoicePair.{ChoicePair}
use Rattle.ink_choice.specs.declared.undo.ChoicePair.TheVariants.{Added, Taken, Cleared}

module _ {P : Type 0} where
  more_of : (e : ChoicePair P) (r s : ℕ) → r ≤ s → room_of e r ≤ room_of e s
  more_of Added r s h = h
  more_of (Taken i c) r s h = h
  more_of (Cleared list) r s h = omega arith

  pub held-more : (r s : ℕ) (es : List (ChoicePair P)) (cs : List (ChoiceOf P)) → r ≤ s → StaysHeld r es cs → StaysHeld s es cs
  held-more r s es cs more h =
      stays-more choices_back room_of Held (λ a b. a ≤ b) (λ a b d m k. (k.0, omega (arith, m, k.1))) more_of r s es cs more h

  pub held-now : (r : ℕ) (es : List (ChoicePair P)) (cs : List (ChoiceOf P)) → StaysHeld r es cs → Held r cs
  held-now r es cs h = stays-now choices_back room_of Held r es cs h

  -- with a pair more
  pub held-with : (e : ChoicePair P) (n : ℕ) (was is : List (ChoiceOf P)) (u : Option (Undo (ChoicePair P))) (r s : ℕ) → choices_back e is ≡ was → Held s is → r ≤ room_of e s
      → StaysHeld r (trail_of u) was → StaysHeld s (trail_of (with_pair e n u)) is
  held-with e n was is u r s same held more h =
      stays-with choices_back room_of Held e n was is u s same held (held-more r (room_of e s) (trail_of u) was more h)

  -- what becomes of the list and of the trail
  pub held-as : (r s : ℕ) (u v : Option (Undo (ChoicePair P))) (cs ds : List (ChoiceOf P)) → v ≡ u → ds ≡ cs → r ≤ s → StaysHeld r (trail_of u) cs → StaysHeld s (trail_of v) ds
  held-as r s u v cs ds undo same more h =
      subst (λ d. StaysHeld s (trail_of v) d) (sym same) (subst (λ (w : Option (Undo (ChoicePair P))). StaysHeld s (trail_of w) cs) (sym undo) (held-more r s (trail_of u) cs more h))

  -- no choices
  pub held-empty : (r : ℕ) (cs : List (ChoiceOf P)) → cs ≡ [] → Held r cs
  held-empty r cs is = rw is (omega arith, omega arith)

  -- while no mark stands
  pub held-unmarked : (r : ℕ) (u : Option (Undo (ChoicePair P))) (cs : List (ChoiceOf P)) → is_some u ≡ false → Held r cs → StaysHeld r (trail_of u) cs
  held-unmarked r None cs none h = h
  held-unmarked r (Some u) cs none h = absurd (cc)

  pub cleared_room : (e : ChoicePair P) (list : Vec (ChoiceOf P) Global) (r : ℕ) → e ≡ Cleared list → room_of e r ≤ vec_capacity list
  cleared_room e list r is = rw is (omega arith)

-- ---- one change

-- what was taken out at an index
pub taken_back : {A : Type 0} → (xs : List A) (i : ℕ) (x : A) → i < length xs → x ≡ get_or xs i x → insert (remove xs i) i x ≡ xs
taken_back [] i x h is = absurd (omega (arith, h))
taken_back (y ∷ xs) zero x h is = ap (λ z. z ∷ xs) is
taken_back (y ∷ xs) (suc i) x h is = ap (λ zs. y ∷ zs) (taken_back xs i x (omega (arith, h)) is)

-- behind the end
pub put_at_end : {A : Type 0} → (xs : List A) (i : ℕ) (x : A) → length xs ≤ i → xs ++ x ∷ [] ≡ insert xs i x
put_at_end xs i x h = rw (take_all i xs h, drop_all i xs h) refl

pub one_longer : {A : Type 0} → (xs : List A) (i : ℕ) (x : A) → length (insert xs i x) ≡ length xs + 1
one_longer xs i x =
    omega (arith, length-append (take i xs) (x ∷ drop i xs), length-append (take i xs) (drop i xs), ap length (take-append-drop i xs))

pub added_back : {P : Type 0} → (cs ds : List (ChoiceOf P)) (c : ChoiceOf P) → ds ≡ cs ++ c ∷ [] → choices_back Added ds ≡ cs
added_back cs ds c is = ap but_last is ∙ but_last-snoc cs c

-- ---- what is kept of a list, and with one more

module _ {P : Type 0} where
  -- few choices, of which so many are settled, with room for so many and for what is put back
  abbrev pub Whole : ℕ → ℕ → Option (Undo (ChoicePair P)) → List (ChoiceOf P) → Type 0
  Whole n r u cs = (length cs ≤ MAX_CHOICES) × StaysHeld r (trail_of u) cs × Settled n cs

  module _ (n r s : ℕ) (u v : Option (Undo (ChoicePair P))) (cs ds : List (ChoiceOf P)) (more : r ≤ s) (whole : Whole n r u cs) where
    pub whole-as : v ≡ u → ds ≡ cs → Whole n s v ds
    whole-as undo same = (omega (arith, ap length same, whole.0), held-as r s u v cs ds undo same more whole.1, rw same whole.2)

    pub whole-with : (c : ChoiceOf P) → v ≡ with_pair Added 1 u → ds ≡ cs ++ c ∷ [] → length cs < MAX_CHOICES → length cs < s → Whole n s v ds
    whole-with c undo one few fits =
        let long : length ds ≡ length cs + 1 = ap length one ∙ length-append cs (c ∷ []) in
        let held : Held s ds = (omega (arith, long, few), omega (arith, long, fits)) in
        rw undo (held.0, held-with Added 1 cs ds u r s (added_back cs ds c one) held more whole.1, rw one (settled-added n cs (c ∷ []) whole.2))
