-- The tokens of what is written.
use Rattle.std.proofs.Common.{◌≡◌, ◌∙◌, sym, ap, refl, subst, ℕ, ◌≤◌, ◌<◌, ◌+◌, List, [], ◌∷◌, ◌++◌, append_assoc, flat_map, map, reverse, take, slice_get, get_or, length, Option, Some, None, inl, inr, Result, OnOk}
use Rattle.std.proofs.lemmas.Grind.{flat_map-append}
use Rattle.std.proofs.lemmas.List.{append-nil, reverse-append, reverse-reverse, take_all, take_more}
use Rattle.std.proofs.lemmas.Option.{get_or_from_slice_get, slice_get_cases, slice_get_within}
use Rattle.json.specs.Token.{Token}
use Rattle.json.specs.Token as token
use Rattle.json.specs.Tree.{members_tokens}
use Rattle.json.specs.Written.{Written}
use Rattle.ink_parts.proofs.Common.{Data, object, value_data, Added, data_tokens}
use Rattle.serde_json.specs.Written.{members_outline}
use Rattle.ink_model.specs.Save.Spelling.{list_data, temps_members}
use Rattle.ink_model.specs.Variables.Store.{Values}
use Rattle.ink_model.specs.declared.value.Value.{Value}
use Rattle.ink_tokens.proofs.Adding.{after, finally, list_whole, more_items}

-- ---- the same tokens

pub value_as : {E : Type 0} (r : Result (Unit {0}) E) (a b : Written) (d e : Data) → d ≡ e → OnOk r (Added a b (data_tokens d)) → OnOk r (Added a b (data_tokens e))
value_as r a b d e same h = subst (λ x. OnOk r (Added a b (data_tokens x))) same h

pub added_as : (a b : Written) (d e : Data) → d ≡ e → Added a b (data_tokens d) → Added a b (data_tokens e)
added_as a b d e same h = subst (λ x. Added a b (data_tokens x)) same h

pub member_as : (a b : Written) (name : List ℕ) (d e : Data) → d ≡ e → Added a b (token.key name ∷ data_tokens d) → Added a b (token.key name ∷ data_tokens e)
member_as a b name d e same h = subst (λ x. Added a b (token.key name ∷ data_tokens x)) same h

-- ---- lists

-- the tokens of these, with no brackets
abbrev pub all_tokens : {A : Type 0} → (A → Data) → List A → List Token
all_tokens f xs = flat_map data_tokens (map f xs)

module _ {A : Type 0} (f : A → Data) where
  -- the bottom one first
  pub pile_whole : {E : Type 0} (below : List A) (top : A) (r : Result (Unit {0}) E) (a b c d e : Written) → Added a b (token.begin_array ∷ []) → Added b c (all_tokens f below)
      → Added c d (data_tokens (f top)) → OnOk r (Added d e (token.end_array ∷ [])) → OnOk r (Added a e (data_tokens (list_data f (reverse (top ∷ reverse below)))))
  pile_whole below top r a b c d e opened all last closed =
      let same : reverse (top ∷ reverse below) ≡ below ++ top ∷ [] = reverse-append (top ∷ []) (reverse below) ∙ ap (λ xs. xs ++ top ∷ []) (reverse-reverse below) in
      let items : Added b d (all_tokens f (below ++ top ∷ [])) = subst (Added b d) (sym (more_items f below top)) (after all last) in
      subst (λ xs. OnOk r (Added a e (data_tokens (list_data f xs)))) (sym same) (list_whole f (below ++ top ∷ []) r a b d e opened items closed)

  -- one element more
  pub item_more : (xs : List A) (i : ℕ) (e : A) (a b c : Written) → i < length xs → Added a b (all_tokens f (take i xs)) → Added b c (data_tokens (f (get_or xs i e)))
      → Added a c (all_tokens f (take (i + 1) xs))
  item_more xs i e a b c lt before last =
      subst (λ ys. Added a c (all_tokens f ys)) (sym (take_more xs i e lt)) (subst (Added a c) (sym (more_items f (take i xs) (get_or xs i e))) (after before last))

  -- one row more
  pub row_more : (xs : List A) (i : ℕ) (x : A) (a b c : Written) → slice_get xs i ≡ Some x → Added a b (all_tokens f (take i xs)) → Added b c (data_tokens (f x))
      → Added a c (all_tokens f (take (i + 1) xs))
  row_more xs i x a b c there before last =
      item_more xs i x a b c (slice_get_within xs i x there) before (subst (λ y. Added b c (data_tokens (f y))) (sym (get_or_from_slice_get xs i x x there)) last)

  -- past the last row
  pub row_last : (xs : List A) (i : ℕ) (a b : Written) → slice_get xs i ≡ None → Added a b (all_tokens f (take i xs)) → Added a b (all_tokens f xs)
  row_last xs i a b none h = elim (slice_get_cases xs i).1 [
    | inl c ↦ absurd (differ (slice_get xs i) c.0 none c.2)
    | inr c ↦ subst (λ ys. Added a b (all_tokens f ys)) (take_all i xs c.0) h
  ]
    where
      differ : {B : Type 0} (o : Option B) (b : B) → o ≡ None → o ≡ Some b → ⊥
      differ o b e k = cc

-- ---- temporaries

abbrev pub row_tokens : List ℕ × Value → List Token
row_tokens r = token.key r.0 ∷ data_tokens (value_data r.1)

pub temps_are : (rs : Values) → members_tokens (members_outline (temps_members rs)) ≡ flat_map row_tokens rs ++ token.end_object ∷ []
temps_are [] = refl
temps_are (r ∷ rs) = ap (λ l. row_tokens r ++ l) (temps_are rs) ∙ sym (append_assoc (row_tokens r) (flat_map row_tokens rs) (token.end_object ∷ []))

-- the front of the member, as it is written
abbrev pub temps_front : List ℕ → Values → List Token
temps_front name rs = token.key name ∷ token.begin_object ∷ flat_map row_tokens rs

-- a row more is written
pub temps_more : (name : List ℕ) (rs : Values) (i : ℕ) (r : List ℕ × Value) (a b c : Written) → i < length rs → Added a b (temps_front name (take i rs))
    → Added b c (row_tokens (get_or rs i r)) → Added a c (temps_front name (take (i + 1) rs))
temps_more name rs i r a b c lt before last =
    let all : flat_map row_tokens (take (i + 1) rs) ≡ flat_map row_tokens (take i rs) ++ row_tokens (get_or rs i r) =
    ap (flat_map row_tokens) (take_more rs i r lt) ∙ flat_map-append row_tokens (take i rs) (get_or rs i r ∷ [])
    ∙ ap (λ l. flat_map row_tokens (take i rs) ++ l) (append-nil (row_tokens (get_or rs i r))) in
    subst (λ ts. Added a c (token.key name ∷ token.begin_object ∷ ts)) (sym all) (after before last)

pub temps_end : {E : Type 0} (name : List ℕ) (rs : Values) (i : ℕ) (r : Result (Unit {0}) E) (a b c : Written) → length rs ≤ i → Added a b (temps_front name (take i rs))
    → OnOk r (Added b c (token.end_object ∷ [])) → OnOk r (Added a c (token.key name ∷ data_tokens (object (temps_members rs))))
temps_end name rs i r a b c h before now =
    subst (λ ts. OnOk r (Added a c ts)) (ap (λ vs. token.key name ∷ token.begin_object ∷ (flat_map row_tokens vs ++ token.end_object ∷ [])) (take_all i rs h)
    ∙ ap (λ l. token.key name ∷ token.begin_object ∷ l) (sym (temps_are rs)))
    (finally r a b c (temps_front name (take i rs)) (token.end_object ∷ []) before now)
