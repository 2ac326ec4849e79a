-- Lists of choices, seen one after another.
use Rattle.std.proofs.Common.{◌≡◌, ◌≢◌, ◌⊎◌, ◌∙◌, ℕ, zero, suc, ◌+◌, ◌<◌, ◌≤◌, Bool, true, false, not, ◌||◌, if◌then◌else◌, List, [], ◌∷◌, ◌++◌, length, map, get_or, slice_get, take, drop, Option, Some, None, Result, Ok, Err, Vec, vec_len, nat_le, ◌==◌, option_map, ap, sym, refl, append_assoc, add-one, subst, arith, inl, inr}
use Rattle.std.specs.List.{remove}
use Rattle.std.specs.Result.{OnErr}
use Rattle.std.proofs.lemmas.Bool.{cases_Bool, le-leb, le-ltb, lt-leb, lt-ltb, not-false, not-true}
use Rattle.std.proofs.lemmas.List.{append-nil, drop_all, drop_more, take_more}
use Rattle.std.proofs.lemmas.Option.{slice_get-get_or}
use Rattle.ink_choice.specs.Outcomes.{FindsIndex, Takes}
use Rattle.ink_stack.specs.Outcomes.{Grows}
use Rattle.ink_model.specs.Choices.Making.{added, behind, none_visible, only_invisible, shown, shown_choice, choice_gone, taken_of, visible}
use Rattle.ink_model.specs.Run.Configuration.{ChoiceOf}
use Rattle.ink_model.specs.declared.fault.Fault.{Fault}
use Rattle.ink_model.specs.declared.fault.Fault.TheVariants.{OutOfMemory, TooDeep}
use Rattle.ink_model.specs.declared.limits.TheConstants.{MAX_CHOICES}
use Rattle.ink_model.specs.declared.passage.Shown.{Shown}

-- an index within a list is within its length
pub in_list : {A L : Type 0} (v : Vec A L) (xs : List A) (i : ℕ) → v.items ≡ xs → i < length xs → i < vec_len v
in_list v xs i same h = omega (arith, v.ok.0, ap length same, h)

pub on_err : {T E X : Type 0} (r : Result T E) → X → OnErr r X
on_err (Ok t) x = tt
on_err (Err e) x = x

module _ {P : Type 0} where
  -- ---- the first of the rest

  module _ (cs : List (ChoiceOf P)) (i : ℕ) (d : ChoiceOf P) (inside : i < length cs) where
    pub hidden_here : (get_or cs i d).hidden ≡ true → visible (drop i cs) ≡ visible (drop (i + 1) cs)
    hidden_here h = ap visible (drop_more cs i d inside) ∙ rw h refl

    pub visible_here : (get_or cs i d).hidden ≡ false → visible (drop i cs) ≡ get_or cs i d ∷ visible (drop (i + 1) cs)
    visible_here h = ap visible (drop_more cs i d inside) ∙ rw h refl

  -- ---- the one that is to be taken

  -- in front of what is left
  abbrev pub after : List (ChoiceOf P) → ChoiceOf P × List (ChoiceOf P) → ChoiceOf P × List (ChoiceOf P)
  after cs r = (r.0, cs ++ r.1)

  -- after these the rest decides
  pub record Passed (test : ChoiceOf P → Bool) (n left i : ℕ) (cs : List (ChoiceOf P)) : Type 0 where
    pub is : taken_of test n cs ≡ option_map (after (take i cs)) (taken_of test left (drop i cs))

  after_none : (r : Option (ChoiceOf P × List (ChoiceOf P))) → r ≡ option_map (after []) r
  after_none None = refl
  after_none (Some r) = refl

  pub passed_none : (test : ChoiceOf P → Bool) (n : ℕ) (cs : List (ChoiceOf P)) → Passed test n n 0 cs
  passed_none test n cs = record { is = after_none (taken_of test n cs) }

  after_more : (cs : List (ChoiceOf P)) (c : ChoiceOf P) (r : Option (ChoiceOf P × List (ChoiceOf P)))
      → option_map (after cs) (option_map (behind c) r) ≡ option_map (after (cs ++ c ∷ [])) r
  after_more cs c None = refl
  after_more cs c (Some r) = ap (λ xs. Some (r.0, xs)) (sym (append_assoc cs (c ∷ []) r.1))

  module _ (test : ChoiceOf P → Bool) where
    over : (n : ℕ) (c : ChoiceOf P) (cs : List (ChoiceOf P)) → test c ≡ false → taken_of test n (c ∷ cs) ≡ option_map (behind c) (taken_of test n cs)
    over zero c cs h = rw h refl
    over (suc n) c cs h = rw h refl

    one : (n : ℕ) (c : ChoiceOf P) (cs : List (ChoiceOf P)) → test c ≡ true → taken_of test (suc n) (c ∷ cs) ≡ option_map (behind c) (taken_of test n cs)
    one n c cs h = rw h refl

    here : (c : ChoiceOf P) (cs : List (ChoiceOf P)) → test c ≡ true → taken_of test 0 (c ∷ cs) ≡ Some (c, cs)
    here c cs h = rw h refl

    module _ (n i : ℕ) (cs : List (ChoiceOf P)) (d : ChoiceOf P) (inside : i < length cs) where
      pub passed_over : (left : ℕ) → test (get_or cs i d) ≡ false → Passed test n left i cs → Passed test n left (i + 1) cs
      passed_over left h p = record {
        is = p.is
            ∙ ap (λ xs. option_map (after (take i cs)) (taken_of test left xs)) (drop_more cs i d inside)
            ∙ ap (option_map (after (take i cs))) (over left (get_or cs i d) (drop (i + 1) cs) h)
            ∙ after_more (take i cs) (get_or cs i d) (taken_of test left (drop (i + 1) cs))
            ∙ ap (λ xs. option_map (after xs) (taken_of test left (drop (i + 1) cs))) (sym (take_more cs i d inside));
      }

      pub passed_one : (left less : ℕ) → left ≡ suc less → test (get_or cs i d) ≡ true → Passed test n left i cs → Passed test n less (i + 1) cs
      passed_one left less e h p = record {
        is = p.is
            ∙ ap (λ m. option_map (after (take i cs)) (taken_of test m (drop i cs))) e
            ∙ ap (λ xs. option_map (after (take i cs)) (taken_of test (suc less) xs)) (drop_more cs i d inside)
            ∙ ap (option_map (after (take i cs))) (one less (get_or cs i d) (drop (i + 1) cs) h)
            ∙ after_more (take i cs) (get_or cs i d) (taken_of test less (drop (i + 1) cs))
            ∙ ap (λ xs. option_map (after xs) (taken_of test less (drop (i + 1) cs))) (sym (take_more cs i d inside));
      }

      pub found_here : (left : ℕ) → left ≡ 0 → test (get_or cs i d) ≡ true → Passed test n left i cs → taken_of test n cs ≡ Some (get_or cs i d, remove cs i)
      found_here left e h p =
          p.is
          ∙ ap (λ m. option_map (after (take i cs)) (taken_of test m (drop i cs))) e
          ∙ ap (λ xs. option_map (after (take i cs)) (taken_of test 0 xs)) (drop_more cs i d inside)
          ∙ ap (option_map (after (take i cs))) (here (get_or cs i d) (drop (i + 1) cs) h)
          ∙ ap (λ k. Some (get_or cs i d, take i cs ++ drop k cs)) (add-one i)

  pub passed_all : (test : ChoiceOf P → Bool) (n left i : ℕ) (cs : List (ChoiceOf P)) → length cs ≤ i → Passed test n left i cs → taken_of test n cs ≡ None
  passed_all test n left i cs all p = p.is ∙ ap (λ xs. option_map (after (take i cs)) (taken_of test left xs)) (drop_all i cs all)

  pub took : (n i : ℕ) (cs new : List (ChoiceOf P)) (x : ChoiceOf P) (any : Bool) → any ≡ none_visible cs → FindsIndex (λ c. any || not c.hidden) n cs (Some i)
      → x ≡ get_or cs i x → new ≡ remove cs i → Takes (choice_gone n cs) cs new (Ok (Some x))
  took n i cs new x any same found is left =
      let taken_is : choice_gone n cs ≡ Some (get_or cs i x, remove cs i) = ap (λ b. taken_of (λ c. b || not c.hidden) n cs) (sym same) ∙ found.1 x in
      rw taken_is (ap Some is, left)

  pub took_none : (n : ℕ) (cs : List (ChoiceOf P)) (any : Bool) → any ≡ none_visible cs → FindsIndex (λ c. any || not c.hidden) n cs None
      → Takes (choice_gone n cs) cs cs (Ok None)
  took_none n cs any same found =
      let taken_is : choice_gone n cs ≡ None = ap (λ b. taken_of (λ c. b || not c.hidden) n cs) (sym same) ∙ found in
      rw taken_is (refl, refl)

  -- ---- where there is one

  pub any_visible : (cs : List (ChoiceOf P)) (i : ℕ) (d : ChoiceOf P) → i < length cs → (get_or cs i d).hidden ≡ false → visible cs ≢ []
  any_visible [] i d h e = absurd (omega arith)
  any_visible (c ∷ cs) zero d h e = rw e (λ none. absurd (cc))
  any_visible (c ∷ cs) (suc i) d h e = elim (cases_Bool c.hidden) [
    | inl hides ↦ rw hides (any_visible cs i d (omega arith) e)
    | inr shows ↦ rw shows (λ none. absurd (cc))
  ]

  -- ---- one more

  module _ (cs : List (ChoiceOf P)) (i : ℕ) (x : ChoiceOf P) (inside : i < length cs) (is : x ≡ get_or cs i x) where
    pub shows_one : (done all : List Shown) (y : Shown) → not x.hidden ≡ true → y ≡ shown_choice x → done ++ shown (drop i cs) ≡ all → (done ++ y ∷ []) ++ shown (drop (i + 1) cs) ≡ all
    shows_one done all y h made e =
        append_assoc done (y ∷ []) (shown (drop (i + 1) cs))
        ∙ ap (λ z. done ++ z ∷ shown (drop (i + 1) cs)) (made ∙ ap shown_choice is)
        ∙ ap (λ xs. done ++ map shown_choice xs) (sym (visible_here cs i x inside (ap (λ c. c.hidden) (sym is) ∙ not-true x.hidden h)))
        ∙ e

    pub shows_none : (done all : List Shown) → not x.hidden ≡ false → done ++ shown (drop i cs) ≡ all → done ++ shown (drop (i + 1) cs) ≡ all
    shows_none done all h e = ap (λ xs. done ++ map shown_choice xs) (sym (hidden_here cs i x inside (ap (λ c. c.hidden) (sym is) ∙ not-false x.hidden h))) ∙ e

    pub some_shown : not x.hidden ≡ true → visible cs ≢ []
    some_shown h = any_visible cs i x inside (ap (λ c. c.hidden) (sym is) ∙ not-true x.hidden h)

  -- all were seen
  pub all_shown : (done : List Shown) (seen cs : List (ChoiceOf P)) (i : ℕ) → done ++ shown (drop i seen) ≡ shown seen → length seen ≤ i → seen ≡ cs → done ≡ shown cs
  all_shown done seen cs i is all same = sym (append-nil done) ∙ ap (λ xs. done ++ shown xs) (sym (drop_all i seen all)) ∙ is ∙ ap shown same

  pub only_hidden : (cs : List (ChoiceOf P)) (n : ℕ) (b : Bool) → (n == 0) ≡ false → n ≡ length cs → b ≡ none_visible cs → b ≡ only_invisible cs
  only_hidden [] n b some count is = absurd (let no : (0 == 0) ≡ false = subst (λ m. (m == 0) ≡ false) count some in cc)
  only_hidden (c ∷ cs) n b some count is = is

  -- a list is within the limit
  pub not_too_many : (cs : List (ChoiceOf P)) → length cs ≤ MAX_CHOICES → Some cs ≡ (if nat_le (length cs) MAX_CHOICES then Some cs else None)
  not_too_many cs h = rw (le-leb (length cs) MAX_CHOICES h) refl

  pub too_many : (cs : List (ChoiceOf P)) → MAX_CHOICES < length cs → None ≡ (if nat_le (length cs) MAX_CHOICES then Some cs else None)
  too_many cs h = rw (lt-leb (length cs) MAX_CHOICES h) refl

  -- there is room for one more, and it is added, or memory is refused
  pub one_more : (c : ChoiceOf P) (cs new : List (ChoiceOf P)) (u : Unit) → length cs < MAX_CHOICES → new ≡ cs ++ c ∷ [] → Grows {U = Unit} (added c cs) cs new (Ok u)
  one_more c cs new u h is = rw (lt-ltb (length cs) MAX_CHOICES h) is

  -- a choice that is not added
  pub refused : (c : ChoiceOf P) (cs : List (ChoiceOf P)) (f : Fault) → ((f ≡ TooDeep) × (MAX_CHOICES ≤ length cs)) ⊎ ((f ≡ OutOfMemory) × (length cs < MAX_CHOICES)) → Grows {U = Unit} (added c cs) cs cs (Err f)
  refused c cs f (inl h) = rw (le-ltb (length cs) MAX_CHOICES h.1) (inl h.0, refl)
  refused c cs f (inr h) = rw (lt-ltb (length cs) MAX_CHOICES h.1) ((h.0, refl), refl)

  -- a call that is refused memory for the one that is to be taken
  pub took_nothing : (n i : ℕ) (cs new : List (ChoiceOf P)) (any : Bool) → any ≡ none_visible cs → FindsIndex (λ c. any || not c.hidden) n cs (Some i)
      → new ≡ cs → Takes (choice_gone n cs) cs new (Err OutOfMemory)
  took_nothing n i [] new any same found h = absurd (omega (arith, found.0))
  took_nothing n i (c ∷ cs) new any same found h =
      let taken_is : choice_gone n (c ∷ cs) ≡ Some (get_or (c ∷ cs) i c, remove (c ∷ cs) i) = ap (λ b. taken_of (λ c. b || not c.hidden) n (c ∷ cs)) (sym same) ∙ found.1 c in
      rw taken_is ((refl, refl), h)

  -- the one at the index is taken
  pub taken_at : (n i : ℕ) (cs : List (ChoiceOf P)) (any : Bool) → any ≡ none_visible cs → FindsIndex (λ c. any || not c.hidden) n cs (Some i)
      → option_map (λ r. r.0) (choice_gone n cs) ≡ slice_get cs i
  taken_at n i [] any same found = absurd (omega (arith, found.0))
  taken_at n i (c ∷ cs) any same found =
      ap (λ b. option_map (λ r. r.0) (taken_of (λ c. b || not c.hidden) n (c ∷ cs))) (sym same) ∙ ap (option_map (λ r. r.0)) (found.1 c)
      ∙ sym (slice_get-get_or (c ∷ cs) i c found.0)
