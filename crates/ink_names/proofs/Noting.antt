-- Where names are found, where one is noted or goes.
use Rattle.std.proofs.Common.{◌≡◌, ◌∙◌, ◌-◌, ◌*◌, ◌<◌, ◌≤◌, ◌⊎◌, ℕ, Bool, true, false, BTreeMap, bytes_eq, cond, List, [], ◌∷◌, ◌++◌, Option, None, Some, String, Global, ap, arith, get_or, inl, inr, length, refl, slice_set, subst, sym}
use Rattle.std.specs.BTreeMap.{get_by_text}
use Rattle.std.proofs.lemmas.Bool.{cases_Bool, cases_eq}
use Rattle.std.proofs.lemmas.List.{get_or-set_other, get_or-set_same, get_or_read, length-set}
use Rattle.std.proofs.lemmas.Slice.Eq.{bytes_eq-Decides}
use Rattle.ink_names.specs.Hints.{Finds, KeepsNumbers, Leads, Right, behind, slot}
use Rattle.ink_names.specs.Names.{Differ, names_of, number_of}
use Rattle.ink_names.proofs.Numbers.{last, number_pushed, other, still}

-- slots and others that keep what they have lead where they led
pub leads_on : (slots new : List ℕ) (m n : BTreeMap (String Global) ℕ) → length new ≡ length slots → ((at : ℕ) → 0 < get_or slots at 0 → get_or new at 0 ≡ get_or slots at 0) → KeepsNumbers m n
    → (name : List ℕ) (number : ℕ) → Leads slots m name number → Leads new n name number
leads_on slots new m n same stays keeps name number leads =
    let kept : 0 < behind slots name → behind new name ≡ behind slots name = λ taken. ap (λ many. get_or new (slot name many) 0) same ∙ stays (slot name (length slots)) taken in
    elim leads [
      | inl here ↦ inl (kept (omega (arith, here)) ∙ here)
      | inr found ↦ inr (omega (arith, kept found.0, found.0), keeps name number found.1)
    ]

-- no name is to be found yet
pub finds_none : (slots : List ℕ) (m : BTreeMap (String Global) ℕ) → Finds slots m []
finds_none slots m q i its = absurd (cc)

-- one name more is found
pub finds_on : (slots new : List ℕ) (m n : BTreeMap (String Global) ℕ) (names : List (List ℕ)) (name : List ℕ) (number : ℕ) → number ≡ length names
    → ((q : List ℕ) (i : ℕ) → Leads slots m q i → Leads new n q i) → Leads new n name number → Finds slots m names → Finds new n (names ++ name ∷ [])
finds_on slots new m n names name number many on there finds q i its = by (bytes_eq q name) (number_of names q) refl refl (sym (number_pushed names name q) ∙ its)
  where
    by : (b : Bool) (o : Option ℕ) → bytes_eq q name ≡ b → number_of names q ≡ o → last b (length names) o ≡ Some i → Leads new n q i
    by b (Some j) e was h = on q i (finds q i (was ∙ h))
    by true None e was h = subst (λ r. Leads new n r i) (sym ((bytes_eq-Decides q name).0 e)) (subst (Leads new n name) (cc) there)
    by false None e was h = absurd (cc)

-- a name comes to the others, or leaves them
module _ (m n : BTreeMap (String Global) ℕ) (name : List ℕ) (w : Option ℕ) (is : (q : List ℕ) → get_by_text n q ≡ cond (bytes_eq name q) w (get_by_text m q)) where
  changed : (q : List ℕ) → ((name ≡ q) × (get_by_text n q ≡ w)) ⊎ ((bytes_eq q name ≡ false) × (get_by_text n q ≡ get_by_text m q))
  changed q = elim (cases_Bool (bytes_eq name q)) [
    | inl e ↦ inl ((bytes_eq-Decides name q).0 e, is q ∙ ap (λ b. cond b w (get_by_text m q)) e)
    | inr e ↦ inr (other name q e, is q ∙ ap (λ b. cond b w (get_by_text m q)) e)
  ]

  pub put_there : get_by_text n name ≡ w
  put_there = is name ∙ ap (λ b. cond b w (get_by_text m name)) ((bytes_eq-Decides name name).1 refl)

  pub put_keeps : get_by_text m name ≡ None → KeepsNumbers m n
  put_keeps none q i has = elim (changed q) [
    | inl here ↦ let wrong : None ≡ Some i = sym none ∙ ap (get_by_text m) here.0 ∙ has in absurd (cc)
    | inr same ↦ same.1 ∙ has
  ]

  pub put_right : (names : List (List ℕ)) → number_of names name ≡ w → Right m names → Right n names
  put_right names its right q i has = elim (changed q) [
    | inl here ↦ ap (number_of names) (sym here.0) ∙ its ∙ sym here.1 ∙ has
    | inr same ↦ right q i (sym same.1 ∙ has)
  ]

  pub right_popped : (names : List (List ℕ)) → w ≡ None → Right m (names ++ name ∷ []) → Right n names
  right_popped names gone right q i has = elim (changed q) [
    | inl here ↦ let wrong : None ≡ Some i = sym gone ∙ sym here.1 ∙ has in absurd (cc)
    | inr same ↦ before (number_of names q) (sym (number_pushed names name q ∙ ap (λ b. last b (length names) (number_of names q)) same.0) ∙ right q i (sym same.1 ∙ has))
  ]
    where
      before : (o : Option ℕ) → last false (length names) o ≡ Some i → o ≡ Some i
      before (Some j) h = h
      before None h = absurd (cc)

  pub finds_popped : (slots : List ℕ) (names : List (List ℕ)) → number_of names name ≡ None → Finds slots m (names ++ name ∷ []) → Finds slots n names
  finds_popped slots names absent finds q i its = elim (changed q) [
    | inl here ↦ let wrong : None ≡ Some i = sym absent ∙ ap (number_of names) here.0 ∙ its in absurd (cc)
    | inr same ↦ elim (finds q i (still names name q i its)) [ inl at ↦ inl at | inr found ↦ inr (found.0, same.1 ∙ found.1) ]
  ]

-- what the others have is right of one name more
pub right_pushed : (m : BTreeMap (String Global) ℕ) (names : List (List ℕ)) (name : List ℕ) → Right m names → Right m (names ++ name ∷ [])
right_pushed m names name right q i has = still names name q i (right q i has)

-- a name that its slot does not lead to has the number that the others have for it
pub among_others : (slots : List ℕ) (m : BTreeMap (String Global) ℕ) (names : List (List ℕ)) (name : List ℕ) → Right m names → Finds slots m names → (number_of names name ≡ Some (behind slots name - 1) → ⊥)
    → get_by_text m name ≡ number_of names name
among_others slots m names name right finds elsewhere = by (get_by_text m name) (number_of names name) refl refl
  where
    by : (w o : Option ℕ) → get_by_text m name ≡ w → number_of names name ≡ o → w ≡ o
    by (Some j) o has was = sym (right name j has) ∙ was
    by None None has was = refl
    by None (Some i) has was = elim (finds name i was) [
      | inl here ↦ let there : i ≡ behind slots name - 1 = omega (arith, here) in absurd (elsewhere (was ∙ ap (λ n. Some n) there))
      | inr found ↦ let wrong : None ≡ Some i = sym has ∙ found.1 in absurd (cc)
    ]

-- what holds of names holds of them in a list that has room for one more
pub settled : (old new : List (String Global)) (slots : List ℕ) (m : BTreeMap (String Global) ℕ) → new ≡ old → Differ (names_of old) → Right m (names_of old) → Finds slots m (names_of old)
    → 2 * length old ≤ length slots → Differ (names_of new) × Right m (names_of new) × Finds slots m (names_of new) × (2 * length new ≤ length slots)
settled old new slots m same differ right finds enough =
    subst (λ list. Differ (names_of list) × Right m (names_of list) × Finds slots m (names_of list) × (2 * length list ≤ length slots)) (sym same) (differ, right, finds, enough)

-- ---- one slot

-- where there are no slots a name is no one's
pub no_slots : (slots name : List ℕ) → length slots ≡ 0 → 0 ≡ behind slots name
no_slots [] name none = refl
no_slots (n ∷ ns) name none = absurd (cc)

module _ (slots name : List ℕ) (at held n : ℕ) (is : at ≡ slot name n) (many : n ≡ length slots) (within : at < length slots) where
  pub holds : behind (slice_set slots at held) name ≡ held
  holds = ap (λ i. get_or (slice_set slots at held) i 0) (ap (slot name) (length-set slots at held ∙ sym many) ∙ sym is) ∙ get_or-set_same slots at held 0 within

  pub keeps_others : (x : ℕ) → x ≡ get_or slots at x → x ≤ 0 → (i : ℕ) → 0 < get_or slots i 0 → get_or (slice_set slots at held) i 0 ≡ get_or slots i 0
  keeps_others x has free i taken = elim (cases_eq i at) [
    | inl same ↦ absurd (omega (arith, free, taken, get_or_read slots at x within has 0, ap (λ j. get_or slots j 0) same))
    | inr other ↦ get_or-set_other slots at i held 0 other
  ]
