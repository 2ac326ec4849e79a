-- A list of what is made, element by element.
use Rattle.std.proofs.Common.{◌≡◌, ◌∙◌, ◌⊎◌, inl, sym, ap, ℕ, ◌+◌, ◌<◌, ◌≤◌, length, List, [], ◌∷◌, ◌++◌, drop, get_or, map, subst, Option, Some, None}
use Rattle.ink_restore.proofs.Common.{append-nil, drop_all, drop_more, AllByRecursion, Builds, FirstAsks}

-- nothing is made of what does not fit
pub never : {A B : Type 0} → (in_story : A → B) (fits : B → Type 0) (b c : B) (o : Option A) → b ≡ c → o ≡ None → Builds in_story fits b o → fits c → ⊥
never in_story fits b c None same is h = λ f. h (subst fits (sym same) f)
never in_story fits b c (Some a) same is h = absurd cc

pub built : {A B : Type 0} → (in_story : A → B) (fits : B → Type 0) (b c : B) (o : Option A) (a : A) → b ≡ c → o ≡ Some a → Builds in_story fits b o
    → (in_story a ≡ c) × fits c
built in_story fits b c o a same is h = by (subst (λ p. Builds in_story fits b p) is h)
  where
    by : Builds in_story fits b (Some a) → (in_story a ≡ c) × fits c
    by k = (k.0 ∙ same, subst fits same k.1)

-- the first of these fits
abbrev pub FirstFits : {B : Type 0} → (B → Type 0) → List B → Type 0
FirstFits fits [] = ⊥
FirstFits fits (b ∷ bs) = fits b

-- it does once something was made
abbrev pub Begun : {A B : Type 0} → (B → Type 0) → List B → List A → Type 0
Begun fits whole [] = Unit {0}
Begun fits whole (o ∷ os) = FirstFits fits whole

first_fits : {B : Type 0} → (fits asks : B → Type 0) (whole : List B) → FirstFits fits whole → FirstAsks fits asks whole
first_fits fits asks [] h = h
first_fits fits asks (b ∷ bs) h = inl h

module _ {A B : Type 0} (f : A → B) (fits : B → Type 0) where
  -- of a whole these were made, and that is left: it fits whole if the rest does
  pub record Making (whole : List B) (made : List A) (rest : List B) : Type 0 where
    pub joined : map f made ++ rest ≡ whole
    pub enough : AllByRecursion fits rest → AllByRecursion fits whole
    pub needed : AllByRecursion fits whole → AllByRecursion fits rest
    pub begun : Begun fits whole made

  cut : (made : List A) (a : A) (x : B) (rest : List B) → f a ≡ x → map f (made ++ a ∷ []) ++ rest ≡ map f made ++ x ∷ rest
  cut [] a x rest e = ap (λ y. y ∷ rest) e
  cut (m ∷ ms) a x rest e = ap (λ ys. f m ∷ ys) (cut ms a x rest e)

  begun_more : (whole : List B) (made : List A) (a : A) (x : B) (rest : List B) → fits x → Making whole made (x ∷ rest) → Begun fits whole (made ++ a ∷ [])
  begun_more whole [] a x rest h m = subst (FirstFits fits) m.joined h
  begun_more whole (o ∷ os) a x rest h m = m.begun

  one_more : (whole : List B) (made : List A) (a : A) (x : B) (rest : List B) → f a ≡ x → fits x → Making whole made (x ∷ rest) → Making whole (made ++ a ∷ []) rest
  one_more whole made a x rest is h m = record {
    joined = cut made a x rest is ∙ m.joined;
    enough = λ e. m.enough (h, e);
    needed = λ e. (m.needed e).1;
    begun = begun_more whole made a x rest h m;
  }

  refused : (whole : List B) (made : List A) (x : B) (rest : List B) → (fits x → ⊥) → Making whole made (x ∷ rest) → AllByRecursion fits whole → ⊥
  refused whole made x rest never m e = never (m.needed e).0

  done : (whole : List B) (made : List A) → Making whole made [] → (map f made ≡ whole) × AllByRecursion fits whole
  done whole made m = (sym (append-nil (map f made)) ∙ m.joined, m.enough tt)

  first_asks : (asks : B → Type 0) (whole : List B) (made : List A) (x : B) (rest : List B) → fits x ⊎ asks x → Making whole made (x ∷ rest) → FirstAsks fits asks whole
  first_asks asks whole [] x rest h m = subst (FirstAsks fits asks) m.joined h
  first_asks asks whole (o ∷ os) x rest h m = first_fits fits asks whole m.begun

  -- by the index of the first that is left
  module _ (whole : List B) (made : List A) (i : ℕ) (d : B) where
    at_first : i < length whole → Making whole made (drop i whole) → Making whole made (get_or whole i d ∷ drop (i + 1) whole)
    at_first lt m = subst (Making whole made) (drop_more whole i d lt) m

    pub making_more : i < length whole → (a : A) → f a ≡ get_or whole i d → fits (get_or whole i d) → Making whole made (drop i whole) → Making whole (made ++ a ∷ []) (drop (i + 1) whole)
    making_more lt a is h m = one_more whole made a (get_or whole i d) (drop (i + 1) whole) is h (at_first lt m)

    pub making_refused : i < length whole → (fits (get_or whole i d) → ⊥) → Making whole made (drop i whole) → AllByRecursion fits whole → ⊥
    making_refused lt never m = refused whole made (get_or whole i d) (drop (i + 1) whole) never (at_first lt m)

    pub making_asks : i < length whole → (asks : B → Type 0) → fits (get_or whole i d) ⊎ asks (get_or whole i d) → Making whole made (drop i whole) → FirstAsks fits asks whole
    making_asks lt asks h m = first_asks asks whole made (get_or whole i d) (drop (i + 1) whole) h (at_first lt m)

  pub making_done : (whole : List B) (made : List A) (i : ℕ) → length whole ≤ i → Making whole made (drop i whole) → (map f made ≡ whole) × AllByRecursion fits whole
  making_done whole made i le m = done whole made (subst (Making whole made) (drop_all i whole le) m)
