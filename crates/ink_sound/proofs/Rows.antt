-- Rows that rise, names that stand once, and facts of each row, when a value is put.
use Rattle.std.proofs.Common.{◌≡◌, ◌∙◌, ap, refl, rules, ℕ, List, [], ◌∷◌, Bool, true, false, not, bytes_eq, cond, Option, Some, is_some}
use Rattle.ink_sound.proofs.Common.{and_from, and_parts, cond_both, bytes_eq-Decides, Values, store, stored, Value, Finds, Each, is_before, row, rows_rise, with_row}
use Rattle.std.specs.Cmp.{IsTotalOrder}
use Rattle.std.specs.Ordering.{is_lt, match_ordering, ordering_reverse}
use Rattle.std.specs.declared.cmp.Ordering.{Ordering}
use Rattle.std.specs.declared.cmp.Ordering.TheVariants.{Less, Equal, Greater}
use Rattle.ink_model.specs.Save.Sound.{names_once}

-- ---- tests and orders

pub less_of : (o : Ordering) → is_lt o ≡ true → o ≡ Less
less_of Less h = refl
less_of o h = absurd cc

-- by how two are ordered
pub in_order : {A : Type 0} (P : A → Type 0) (o : Ordering) (x y z : A) → (o ≡ Less → P x) → (o ≡ Equal → P y) → (o ≡ Greater → P z) → P (match_ordering o x y z)
in_order P Less x y z f g h = f refl
in_order P Equal x y z f g h = g refl
in_order P Greater x y z f g h = h refl

-- ---- rows that rise by their key

module _ {K V : Type 0} (compare : K → K → Ordering) (total : IsTotalOrder compare) where
  -- k is before all that j is before
  before_too : (j k : K) (rs : List (K × V)) → ((q : K) → is_lt (compare j q) ≡ true → is_lt (compare k q) ≡ true) → is_before compare j rs ≡ true → is_before compare k rs ≡ true
  before_too j k [] on h = refl
  before_too j k (r ∷ rs) on h =
      let parts = and_parts (is_lt (compare j r.0)) (is_before compare j rs) h in
      and_from (is_lt (compare k r.0)) (is_before compare k rs) (on r.0 parts.0) (before_too j k rs on parts.1)

  before_put : (j k : K) (v : V) (rs : List (K × V)) → compare j k ≡ Less → is_before compare j rs ≡ true → is_before compare j (with_row compare k v rs) ≡ true
  before_put j k v [] e h = rw e refl
  before_put j k v (r ∷ rs) e h =
      let parts = and_parts (is_lt (compare j r.0)) (is_before compare j rs) h in
      in_order (λ l. is_before compare j l ≡ true) (compare k r.0) _ _ _ (λ _. rw e h) (λ _. rw e parts.1)
      (λ _. and_from (is_lt (compare j r.0)) (is_before compare j (with_row compare k v rs)) parts.0 (before_put j k v rs e parts.1))

  pub rise_put : (k : K) (v : V) (rs : List (K × V)) → rows_rise compare rs ≡ true → rows_rise compare (with_row compare k v rs) ≡ true
  rise_put k v [] h = refl
  rise_put k v (r ∷ rs) h =
      let parts = and_parts (is_before compare r.0 rs) (rows_rise compare rs) h in
      in_order (λ l. rows_rise compare l ≡ true) (compare k r.0) _ _ _
      (λ e. rw e (and_from (is_before compare k rs) (rows_rise compare (r ∷ rs)) (before_too r.0 k rs (λ q f. ap is_lt (total.trans k r.0 q e (less_of (compare r.0 q) f))) parts.0) h))
      (λ e. and_from (is_before compare k rs) (rows_rise compare rs) (before_too r.0 k rs (λ q f. ap is_lt (total.congr k r.0 q e) ∙ f) parts.0) parts.1)
      (λ e. and_from (is_before compare r.0 (with_row compare k v rs)) (rows_rise compare (with_row compare k v rs))
      (before_put r.0 k v rs (total.antisymm r.0 k ∙ ap ordering_reverse e) parts.0) (rise_put k v rs parts.1))

module _ {K V : Type 0} (compare : K → K → Ordering) (P : K × V → Type 0) where
  pub each_put : (k : K) (v : V) (rs : List (K × V)) → P (k, v) → Each P rs → Each P (with_row compare k v rs)
  each_put k v [] p h = (p, tt)
  each_put k v (r ∷ rs) p h = in_order (Each P) (compare k r.0) _ _ _ (λ _. (p, h)) (λ _. (p, h.1)) (λ _. (h.0, each_put k v rs p h.1))

module _ {K V : Type 0} (compare : K → K → Ordering) (P : V → Type 0) where
  pub row_finds : (k : K) (rs : List (K × V)) → Each (λ r. P r.1) rs → Finds P (row compare k rs)
  row_finds k [] h = tt
  row_finds k (r ∷ rs) h = in_order (Finds P) (compare k r.0) _ _ _ (λ _. tt) (λ _. h.0) (λ _. row_finds k rs h.1)

-- ---- names that stand once

pub turned : (a b : List ℕ) → bytes_eq a b ≡ false → bytes_eq b a ≡ false
turned a b e = search (rules, bytes_eq-Decides, e)

-- something is found in one where something is found in the other
pub some_alike : {X : Type 0} (b : Bool) (x y : X) (o p : Option X) → is_some o ≡ is_some p → is_some (cond b (Some x) o) ≡ is_some (cond b (Some y) p)
some_alike true x y o p h = refl
some_alike false x y o p h = h

stored_other : (k name : List ℕ) (v : Value) (vs : Values) → bytes_eq k name ≡ false → is_some (stored k (store name v vs)) ≡ is_some (stored k vs)
stored_other k name v [] e = rw e refl
stored_other k name v (w ∷ vs) e = cond_both (bytes_eq name w.0) _ _ (λ ws. is_some (stored k ws) ≡ is_some (stored k (w ∷ vs)))
    (λ _. some_alike (bytes_eq k w.0) v w.1 (stored k vs) (stored k vs) refl) (λ _. some_alike (bytes_eq k w.0) w.1 w.1 (stored k (store name v vs)) (stored k vs) (stored_other k name v vs e))

pub once_put : (name : List ℕ) (v : Value) (vs : Values) → names_once vs ≡ true → names_once (store name v vs) ≡ true
once_put name v [] h = refl
once_put name v (w ∷ vs) h =
    let parts = and_parts (not (is_some (stored w.0 vs))) (names_once vs) h in
    cond_both (bytes_eq name w.0) _ _ (λ ws. names_once ws ≡ true) (λ _. h) (λ e. and_from (not (is_some (stored w.0 (store name v vs)))) (names_once (store name v vs))
    (ap not (stored_other w.0 name v vs (turned name w.0 e)) ∙ parts.0) (once_put name v vs parts.1))

module _ (P : Value → Type 0) where
  pub each_stored : (name : List ℕ) (v : Value) (vs : Values) → P v → Each (λ r. P r.1) vs → Each (λ r. P r.1) (store name v vs)
  each_stored name v [] p h = (p, tt)
  each_stored name v (w ∷ vs) p h = cond_both (bytes_eq name w.0) _ _ (Each (λ r. P r.1)) (λ _. (p, h.1)) (λ _. (h.0, each_stored name v vs p h.1))

  pub stored_finds : (name : List ℕ) (vs : Values) → Each (λ r. P r.1) vs → Finds P (stored name vs)
  stored_finds name [] h = tt
  stored_finds name (w ∷ vs) h = cond_both (bytes_eq name w.0) _ _ (Finds P) (λ _. h.0) (λ _. stored_finds name vs h.1)
