-- A list that is read element by element.
use Rattle.std.proofs.Common.{◌≡◌, ◌∙◌, sym, ap, refl, subst, ℕ, suc, ◌<◌, List, [], ◌∷◌, ◌++◌, Option, Some, None, option_map, option_and_then, unwrap_or, arith}
use Rattle.serde_json.specs.Data.{Data, array, Items, no_items, item, Members, no_members, member}
use Rattle.ink_model.specs.declared.value.Value.{Value}
use Rattle.json_tape.specs.Shape.{first_item, first_member}
use Rattle.ink_spelling.specs.Readings.{pair_by, two_in}
use Rattle.ink_model.specs.Save.Unspelled.{all_of, pair_of, rows_of, value_of}

pub count : Items → ℕ
count no_items = 0
count (item d ds) = suc (count ds)

pub members_count : Members → ℕ
members_count no_members = 0
members_count (member k d ms) = suc (members_count ms)

some_is : {A : Type 0} → (x y : A) → Some x ≡ Some y → x ≡ y
some_is x y h = ap (λ o. unwrap_or o x) h

pub first_is : (ds : Items) (d : Data) (es : Items) → Some (d, es) ≡ first_item ds → ds ≡ item d es
first_is no_items d es h = absurd cc
first_is (item e fs) d es h = ap (λ p. item p.0 p.1) (sym (some_is (d, es) (e, fs) h))

pub member_is : (ms : Members) (k : List ℕ) (d : Data) (ns : Members) → Some (k, (d, ns)) ≡ first_member ms → ms ≡ member k d ns
member_is no_members k d ns h = absurd cc
member_is (member l c os) k d ns h = ap (λ p. member p.0 p.1.0 p.1.1) (sym (some_is (k, (d, ns)) (l, (c, os)) h))

one_less : (n : ℕ) → n < suc n
one_less n = omega arith

pub fewer : (ds : Items) (d : Data) (es : Items) → Some (d, es) ≡ first_item ds → count es < count ds
unfolding count
fewer ds d es h = subst (λ l. count es < count l) (sym (first_is ds d es h)) (one_less (count es))

pub fewer_members : (ms : Members) (k : List ℕ) (d : Data) (ns : Members) → Some (k, (d, ns)) ≡ first_member ms → members_count ns < members_count ms
unfolding members_count
fewer_members ms k d ns h = subst (λ l. members_count ns < members_count l) (sym (member_is ms k d ns h)) (one_less (members_count ns))

placed : {A : Type 0} → (made : List A) (x : A) (rest : List A) → made ++ (x ∷ rest) ≡ (made ++ (x ∷ [])) ++ rest
placed [] x rest = refl
placed (y ∷ ys) x rest = ap (λ zs. y ∷ zs) (placed ys x rest)

joined : {A : Type 0} → (made : List A) (x : A) (o : Option (List A)) → option_map (λ rest. made ++ rest) (option_map (λ xs. x ∷ xs) o) ≡ option_map (λ rest. (made ++ (x ∷ [])) ++ rest) o
joined made x None = refl
joined made x (Some rest) = ap Some (placed made x rest)

ended : {A : Type 0} → (made : List A) → made ++ [] ≡ made
ended [] = refl
ended (y ∷ ys) = ap (λ zs. y ∷ zs) (ended ys)

-- ---- elements

-- what is read in the end, of what is made and of the elements that are left
abbrev pub left : {A : Type 0} → (Data → Option A) → List A → Items → Option (List A)
left f made ds = option_map (λ rest. made ++ rest) (all_of f ds)

module _ {A : Type 0} (f : Data → Option A) (made : List A) (whole : Option (List A)) (ds : Items) (d : Data) (es : Items) (h : Some (d, es) ≡ first_item ds) where
  abbrev after : Option A → Option (List A)
  after o = option_map (λ rest. made ++ rest) (option_and_then (λ y. option_map (λ ys. y ∷ ys) (all_of f es)) o)

  pub left_more : (x : A) → Some x ≡ f d → left f made ds ≡ whole → left f (made ++ (x ∷ [])) es ≡ whole
  left_more x e all = sym (joined made x (all_of f es)) ∙ ap after e ∙ sym (ap (left f made) (first_is ds d es h)) ∙ all

  pub left_none : None ≡ f d → left f made ds ≡ whole → None ≡ whole
  left_none e all = ap after e ∙ sym (ap (left f made) (first_is ds d es h)) ∙ all

-- ---- rows of members

-- what is read in the end, of the rows that are made and of the members that are left
abbrev pub rows_left : List (List ℕ × Value) → Members → Option (List (List ℕ × Value))
rows_left made ms = option_map (λ rest. made ++ rest) (rows_of ms)

module _ (made : List (List ℕ × Value)) (whole : Option (List (List ℕ × Value))) (ms : Members) (k : List ℕ) (d : Data) (ns : Members) (h : Some (k, (d, ns)) ≡ first_member ms) where
  abbrev behind : Option Value → Option (List (List ℕ × Value))
  behind o = option_map (λ rest. made ++ rest) (option_and_then (λ y. option_map (λ ys. (k, y) ∷ ys) (rows_of ns)) o)

  pub rows_more : (v : Value) → Some v ≡ value_of d → rows_left made ms ≡ whole → rows_left (made ++ ((k, v) ∷ [])) ns ≡ whole
  rows_more v e all = sym (joined made (k, v) (rows_of ns)) ∙ ap behind e ∙ sym (ap (rows_left made) (member_is ms k d ns h)) ∙ all

-- ---- pairs

pub pair_is : {A B : Type 0} → (f : Data → Option A) (g : Data → Option B) (ds : Items) → pair_of f g (array ds) ≡ pair_by f g (two_in ds)
pair_is f g no_items = refl
pair_is f g (item d no_items) = refl
pair_is f g (item d (item e no_items)) = refl
pair_is f g (item d (item e (item h ds))) = refl
