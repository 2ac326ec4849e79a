-- Frames alone without temporaries.
use Rattle.std.proofs.Common.{◌≡◌, ◌∙◌, ◌<◌, ◌++◌, ℕ, zero, suc, List, [], ◌∷◌, Option, Some, true, ap, arith, length, refl, reverse, sym, option_to_list, slice_get, slice_index_or}
use Rattle.std.proofs.lemmas.List.{reverse-reverse}
use Rattle.std.specs.Prelude.{unwrap_or}
use Rattle.ink_stack.proofs.Common.{FrameOf, ThreadOf}
use Rattle.ink_frames.proofs.Flat.{bare_none}
use Rattle.ink_frames.specs.Frames.{is_bare}
use Rattle.ink_stack.specs.Running.{IsPlain, fork_of}

module _ {P : Type 0} where
  pub plain_is : (f : FrameOf P) (items : List (FrameOf P)) (p : Option P) (n : ℕ) → n ≡ length items → n ≡ 0 → is_bare f ≡ true → IsPlain (record { frame = f; below = reverse items; previous = p })
  plain_is f [] p n many none bare = record { temps = bare_none f bare; below = refl }
  plain_is f (x ∷ xs) p n many none bare = absurd (omega arith)

  pub plain_of : (f : FrameOf P) (items : List (FrameOf P)) (p : Option P) → f.temps ≡ [] → items ≡ [] → IsPlain (record { frame = f; below = reverse items; previous = p })
  plain_of f items p bare none = record { temps = bare; below = ap reverse none }

  -- a copy of it asks for no memory
  pub plain_fork : (t : ThreadOf P) → IsPlain t → ([], []) ≡ fork_of t
  plain_fork t plain = ap (λ rows. (rows, [])) (sym plain.temps) ∙ ap (λ fs. (t.frame.temps, reverse fs)) (sym plain.below)

  -- two of them differ in what is copied
  pub plain_same : (t u : ThreadOf P) → IsPlain t → IsPlain u → record { frame = record u.frame { temps = t.frame.temps }; below = t.below; previous = u.previous } ≡ u
  plain_same t u one other =
      ap (λ rows. record { frame = record u.frame { temps = rows }; below = t.below; previous = u.previous }) (one.temps ∙ sym other.temps)
      ∙ ap (λ fs. record u { below = fs }) (one.below ∙ sym other.below)

  pub none_same : (xs ys : List (FrameOf P)) → reverse xs ≡ [] → reverse ys ≡ [] → ys ≡ xs
  none_same xs ys none nor = sym (reverse-reverse ys) ∙ ap reverse (nor ∙ sym none) ∙ reverse-reverse xs

-- the last one, by its index, is the one that is popped
pub last_got : {A : Type 0} (xs : List A) (i : ℕ) (x : A) → slice_get xs i ≡ Some x → slice_index_or xs i x ≡ x
last_got [] i x is = absurd (cc)
last_got (y ∷ ys) zero x is = ap (λ o. unwrap_or o x) is
last_got (y ∷ ys) (suc i) x is = last_got ys i x is

pub some_got : {A : Type 0} (xs : List A) (i : ℕ) (x : A) → slice_get xs i ≡ Some x → 0 < length xs
some_got [] i x is = absurd (cc)
some_got (y ∷ ys) i x is = omega arith

pub last_popped : {A : Type 0} (xs rest : List A) (o : Option A) (i : ℕ) (x : A) → slice_get xs i ≡ Some x → xs ≡ rest ++ option_to_list o → o ≡ Some (slice_index_or xs i x) → xs ≡ rest ++ x ∷ []
last_popped xs rest o i x is whole value = whole ∙ ap (λ p. rest ++ option_to_list p) (value ∙ ap Some (last_got xs i x is))
