-- Rows that rise by name still do where one is put.
use Rattle.std.proofs.Common.{◌≡◌, ◌∙◌, ◌&&◌, ℕ, List, [], ◌∷◌, Bool, true, false, Ordering, Less, Equal, Greater, is_lt, ap, refl}
use Rattle.std.proofs.lemmas.Bool.{and_from}
use Rattle.std.proofs.lemmas.Cmp.{nat_list_cmp_total}
use Rattle.ink_frames.proofs.Common.{exact_bytes, is_before, name_order, rows_rise, with_row, Values, Value}
use Rattle.std.specs.Ordering.{match_ordering, ordering_reverse}

pub both : (x y : Bool) → (x && y) ≡ true → (x ≡ true) × (y ≡ true)
both true y h = (refl, h)
both false y h = absurd cc

pub is_less : (o : Ordering) → is_lt o ≡ true → o ≡ Less
is_less Less h = refl
is_less Equal h = absurd cc
is_less Greater h = absurd cc

-- what holds whichever of two names comes first
either_way : {A : Type 0} (P : A → Type 0) (o : Ordering) (a b c : A) → (o ≡ Less → P a) → (o ≡ Equal → P b) → (o ≡ Greater → P c) → P (match_ordering o a b c)
either_way P Less a b c p q r = p refl
either_way P Equal a b c p q r = q refl
either_way P Greater a b c p q r = r refl

after : (k l : List ℕ) → name_order k l ≡ Greater → name_order l k ≡ Less
after k l e = nat_list_cmp_total.antisymm l k ∙ ap ordering_reverse e

-- what comes before a name comes before those after it
pub before_more : (k l : List ℕ) (rs : Values) → name_order k l ≡ Less → is_before name_order l rs ≡ true → is_before name_order k rs ≡ true
before_more k l [] e h = refl
before_more k l (r ∷ rs) e h =
    let p = both (is_lt (name_order l r.0)) (is_before name_order l rs) h in
    and_from _ _ (ap is_lt (nat_list_cmp_total.trans k l r.0 e (is_less _ p.0))) (before_more k l rs e p.1)

-- a name comes before rows of which one is put, if it comes before that one
before_row : (k l : List ℕ) (v : Value) (rs : Values) → name_order k l ≡ Less → is_before name_order k rs ≡ true → is_before name_order k (with_row name_order l v rs) ≡ true
before_row k l v [] e h = and_from _ true (ap is_lt e) refl
before_row k l v (r ∷ rs) e h =
    let p = both (is_lt (name_order k r.0)) (is_before name_order k rs) h in
    either_way (λ x. is_before name_order k x ≡ true) (name_order l r.0) ((l, v) ∷ r ∷ rs) ((l, v) ∷ rs) (r ∷ with_row name_order l v rs)
    (λ o. and_from _ _ (ap is_lt e) h) (λ o. and_from _ _ (ap is_lt e) p.1) (λ o. and_from _ _ p.0 (before_row k l v rs e p.1))

pub put_rises : (k : List ℕ) (v : Value) (rs : Values) → rows_rise name_order rs ≡ true → rows_rise name_order (with_row name_order k v rs) ≡ true
put_rises k v [] h = refl
put_rises k v (r ∷ rs) h =
    let p = both (is_before name_order r.0 rs) (rows_rise name_order rs) h in
    either_way (λ x. rows_rise name_order x ≡ true) (name_order k r.0) ((k, v) ∷ r ∷ rs) ((k, v) ∷ rs) (r ∷ with_row name_order k v rs)
    (λ o. and_from _ _ (and_from _ _ (ap is_lt o) (before_more k r.0 rs o p.0)) h)
    (λ o. rw (exact_bytes k r.0 o) h)
    (λ o. and_from _ _ (before_row r.0 k v rs (after k r.0 o) p.0) (put_rises k v rs p.1))
