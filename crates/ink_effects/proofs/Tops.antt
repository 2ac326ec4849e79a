-- The top of a stack, and operators on it.
use Rattle.std.proofs.Common.{◌≡◌, ◌∙◌, ap, sym, subst, refl, inl, List, [], ◌∷◌, ◌++◌, reverse, slice_get, Bool, true, false, Some, option_map, Ok, Err}
use Rattle.std.proofs.lemmas.List.{reverse-reverse}
use Rattle.std.proofs.lemmas.Grind.{reverse_onto}
use Rattle.ink_effects.proofs.Common.{popped, Fault, OutOfMemory, TooDeep, Value}
use Rattle.ink_effects.specs.Stacks.{CopiesTop}

-- one value on top
pub top_of : (vs : List Value) (v : Value) → popped (vs ++ v ∷ []) ≡ Some (v, vs)
top_of [] v = refl
top_of (w ∷ []) v = refl
top_of (w ∷ x ∷ vs) v = ap (option_map (λ r. (r.0, w ∷ r.1))) (top_of (x ∷ vs) v)

pub top_taken : (old new : List Value) (v : Value) → old ≡ new ++ v ∷ [] → popped old ≡ Some (v, new)
top_taken old new v e = ap popped e ∙ top_of new v

-- the nearest of a list turned round
top_turned : (us : List Value) (v : Value) → slice_get us 0 ≡ Some v → (rest : List Value) × (popped (reverse us) ≡ Some (v, rest))
top_turned [] v h = absurd (cc)
top_turned (u ∷ us) v h = (reverse us, ap popped (reverse_onto us u []) ∙ top_of (reverse us) u ∙ ap (λ x. Some (x, reverse us)) (some_same h))
  where
    some_same : Some u ≡ Some v → u ≡ v
    some_same e = cc

pub top_seen : (vs : List Value) (v : Value) → slice_get (reverse vs) 0 ≡ Some v → (rest : List Value) × (popped vs ≡ Some (v, rest))
top_seen vs v h = let t = top_turned (reverse vs) v h in (t.0, ap popped (sym (reverse-reverse vs)) ∙ t.1)

-- the value on top, as it is looked at
pub lent_top : (vs : List Value) (v : Value) → slice_get (reverse vs) 0 ≡ Some v → Some v ≡ option_map (λ r. r.0) (popped vs)
lent_top vs v h = sym (ap (option_map (λ r. r.0)) (top_seen vs v h).1)

module _ (vs : List Value) (v : Value) (seen : slice_get (reverse vs) 0 ≡ Some v) where
  pub copied : (room : Bool) (copy : Value) → room ≡ true → copy ≡ v → CopiesTop room (popped vs) (Ok copy)
  copied room copy is same = rw is (subst (λ o. CopiesTop true o (Ok copy)) (sym (top_seen vs v seen).1) (ap Ok (sym same)))

  pub not_copied : (room : Bool) → room ≡ true → CopiesTop room (popped vs) (Err OutOfMemory)
  not_copied room is = rw is (subst (λ o. CopiesTop true o (Err OutOfMemory)) (sym (top_seen vs v seen).1) (inl (refl, refl)))

  pub full_below : (room : Bool) (f : Fault) → f ≡ TooDeep → room ≡ false → CopiesTop room (popped vs) (Err f)
  full_below room f is full = rw (is, full) (subst (λ o. CopiesTop false o (Err TooDeep)) (sym (top_seen vs v seen).1) refl)
