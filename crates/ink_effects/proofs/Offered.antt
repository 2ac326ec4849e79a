-- Choice points: what is made of spots and of places, and what it comes to.
use Rattle.std.proofs.Common.{◌≡◌, ◌∙◌, ℕ, List, length, map, nat_lt, Bool, true, false, Option, Some, None, ◌||◌, Result, Ok, Err, OnOk, ap, sym, subst, refl, inl}
use Rattle.std.proofs.lemmas.List.{length-map}
use Rattle.ink_choice.specs.Outcomes.{AddsMade, beside}
use Rattle.ink_model.specs.Story.Acceptance.{content_counted, counted_container, lands, leaf_counted, written_target}
use Rattle.ink_model.specs.Choices.Making.{added, choice_asks, make}
use Rattle.ink_model.specs.Run.Configuration.{ChoiceOf, map_choice}
use Rattle.ink_model.specs.Run.Effect.{Context, Effect, Fields, Offers, or_else, or_fault}
use Rattle.ink_effects.proofs.Common.{ThreadsOf, Page, Values, StoryTree, at, leaf, Fault, BadTarget, Part, Value, visits_in, Rest, counts_in, seen_by, Transfer, place_of, Spot}
use Rattle.ink_model.specs.Memory.Asks.{makes_choice, offer_asks}
use Rattle.ink_model.specs.Memory.Refusals.{ByRule, LacksMemory}
use Rattle.ink_model.specs.Run.Step.Choices.{is_visited, offer, offering, visited_at, was_visited}
use Rattle.ink_model.specs.declared.content.Leaf.TheVariants.{Choice}
use Rattle.ink_model.specs.declared.limits.TheConstants.{MAX_CHOICES}
use Rattle.ink_model.proofs.Maps.{added_map, choice_asks_map, made_at, make_map, offered_at}
use Rattle.ink_effects.proofs.Landings.{leaf_landing}
use Rattle.ink_effects.specs.Performs.{KeepsChoices, Performs, fields, moving}

-- ---- a choice point

module _ (s : StoryTree) (p : List Part) (rest : Rest) (ts : ThreadsOf Spot) (text : List ℕ) (flags : ℕ) (stands : at s p ≡ Some (leaf (Choice text flags)))
    (evaluating : Bool) (fresh : Option ℕ) (page : Page) (globals : Values) (old : List Value) where
  abbrev seen : Context
  seen = seen_by s ts rest

  abbrev with : List Value → Fields
  with vs = fields evaluating fresh vs page globals

  abbrev offers : Effect
  offers = offer s p seen text flags (with old)

  abbrev asking : Bool
  asking = offer_asks s p seen text flags (with old) (lands s p text)

  -- it leads nowhere
  pub offers_nowhere : None ≡ written_target s p → (new : List Value) (t : StoryTree) → Performs t asking offers (with new) (Err BadTarget)
  offers_nowhere h new t =
      subst (λ o. Performs t (offer_asks s p seen text flags (with old) o)
      (or_else BadTarget o (λ q. or_fault (make flags q (was_visited s p seen text flags) seen.thread old) (λ r. offering s p seen r.0 (with r.1)))) (with new) (Err BadTarget))
      (h ∙ leaf_landing s p _ stands) (inl refl)

  module _ (spot : Spot) (there : Some (place_of s spot) ≡ written_target s p) (visited : Bool) (is : visited ≡ is_visited (visits_in s (counts_in s rest.counts) (counted_container s p))) (few : Bool) where
    -- of what is made of spots
    abbrev made : Result (Option (ChoiceOf Spot) × List Value) Fault
    made = make flags spot visited ts.thread old

    abbrev others : ℕ
    others = length seen.choices

    abbrev so : Option (ChoiceOf (List Part)) × List Value → Effect
    so r = offering s p seen r.0 (with r.1)

    abbrev comes_to : Result (Option (ChoiceOf Spot) × List Value) Fault → Effect
    comes_to m = or_fault (made_at (place_of s) m) so

    visited_in : (o : Option (List Part)) → is_visited (visits_in s seen.counts o) ≡ visited_at s p seen o
    visited_in None = refl
    visited_in (Some q) = refl

    counts_there : counted_container s p ≡ leaf_counted s p (Choice text flags)
    unfolding counted_container
    counts_there = ap (content_counted s p) stands

    was : was_visited s p seen text flags ≡ visited
    was = sym (is ∙ ap (λ o. is_visited (visits_in s seen.counts o)) counts_there ∙ visited_in (leaf_counted s p (Choice text flags)))

    makes : make flags (place_of s spot) (was_visited s p seen text flags) seen.thread old ≡ made_at (place_of s) made
    makes = ap (λ b. make flags (place_of s spot) b seen.thread old) was ∙ make_map (place_of s) flags spot visited ts.thread old

    leads_there : lands s p text ≡ Some (place_of s spot)
    leads_there = sym (there ∙ leaf_landing s p _ stands)

    offers_is : offers ≡ comes_to made
    offers_is =
        ap (λ o. or_else BadTarget o (λ q. or_fault (make flags q (was_visited s p seen text flags) seen.thread old) so)) leads_there
        ∙ ap (λ m. or_fault m so) makes

    asking_is : asking ≡ makes_choice others (made_at (place_of s) made)
    asking_is = ap (offer_asks s p seen text flags (with old)) leads_there ∙ ap (makes_choice others) makes

    module _ (t : StoryTree) (new : List Value) where
      abbrev Comes : Result (Option (ChoiceOf Spot) × List Value) Fault → Result Transfer Fault → Type 0
      Comes m result = Performs t (makes_choice others (made_at (place_of s) m)) (comes_to m) (with new) result

      offers_so : (result : Result Transfer Fault) → Comes made result → Performs t asking offers (with new) result
      offers_so result h =
          subst (λ b. Performs t b offers (with new) result) (sym asking_is) (subst (λ e. Performs t (makes_choice others (made_at (place_of s) made)) e (with new) result) (sym offers_is) h)

      -- a choice is added, or there is no room for it
      one_added : (asks : Bool) (left : List Value) (r : Result (List (ChoiceOf Spot)) Fault) (after : List (ChoiceOf Spot)) (x : Result (Unit {0}) Fault)
          → ByRule (LacksMemory asks) (λ q u. (new ≡ q.0) × (after ≡ q.1)) (λ why. why × (new ≡ old) × (after ≡ rest.choices)) (beside left r) x
          → Performs t asks (or_fault (offered_at (place_of s) r) (λ choices. Offers choices (with left))) (with new) (moving x)
      one_added asks left (Ok ds) after (Ok u) h = ap with h.0
      one_added asks left (Ok ds) after (Err f) h = h.0
      one_added asks left (Err g) after (Ok u) h = absurd h
      one_added asks left (Err g) after (Err f) h = h.0

      -- a choice that is made asks as one of places does
      asks_so : (never : few ≡ false) (c : ChoiceOf Spot) → few || (choice_asks c || nat_lt (length rest.choices) MAX_CHOICES) ≡ choice_asks (map_choice (place_of s) c) || nat_lt others MAX_CHOICES
      asks_so never c = rw (never, choice_asks_map (place_of s) c, length-map rest.choices (map_choice (place_of s))) refl

      made_by : (never : few ≡ false) (m : Result (Option (ChoiceOf Spot) × List Value) Fault) (after : List (ChoiceOf Spot)) (x : Result (Unit {0}) Fault)
          → AddsMade few m old new rest.choices after x → Comes m (moving x)
      made_by never (Ok (None, left)) after (Ok u) h = ap with h.0
      made_by never (Ok (None, left)) after (Err f) h = absurd (let no : false ≡ true = rw never at h.0.1 in cc)
      made_by never (Ok (Some c, left)) after x h =
          let asks : Bool = choice_asks (map_choice (place_of s) c) || nat_lt others MAX_CHOICES in
          subst (λ r. Performs t asks (or_fault r (λ choices. Offers choices (with left))) (with new) (moving x)) (sym (added_map (place_of s) c rest.choices))
          (one_added asks left (added c rest.choices) after x
          (subst (λ b. ByRule (LacksMemory b) (λ q u. (new ≡ q.0) × (after ≡ q.1)) (λ why. why × (new ≡ old) × (after ≡ rest.choices)) (beside left (added c rest.choices)) x) (asks_so never c) h))
      made_by never (Err g) after (Ok u) h = absurd h
      made_by never (Err g) after (Err f) h = h.0

      pub offers_made : (never : few ≡ false) (after : List (ChoiceOf Spot)) (x : Result (Unit {0}) Fault) → AddsMade few made old new rest.choices after x → Performs t asking offers (with new) (moving x)
      offers_made never after x h = offers_so _ (made_by never made after x h)

    -- ---- the choices after it

    module _ (new : List Value) (after : List (ChoiceOf Spot)) where
      keeps_added : (asks : Bool) (left : List Value) (r : Result (List (ChoiceOf Spot)) Fault) (x : Result (Unit {0}) Fault)
          → ByRule (LacksMemory asks) (λ q u. (new ≡ q.0) × (after ≡ q.1)) (λ why. why × (new ≡ old) × (after ≡ rest.choices)) (beside left r) x
          → OnOk x (KeepsChoices s (or_fault (offered_at (place_of s) r) (λ choices. Offers choices (with left))) rest.choices after)
      keeps_added asks left (Ok ds) (Ok u) h = ap (map (map_choice (place_of s))) h.1
      keeps_added asks left (Err g) (Ok u) h = absurd h
      keeps_added asks left r (Err f) h = tt

      keeps_by : (m : Result (Option (ChoiceOf Spot) × List Value) Fault) (x : Result (Unit {0}) Fault) → AddsMade few m old new rest.choices after x
          → OnOk x (KeepsChoices s (comes_to m) rest.choices after)
      keeps_by (Ok (None, left)) (Ok u) h = ap (map (map_choice (place_of s))) h.1
      keeps_by (Ok (Some c, left)) x h =
          subst (λ r. OnOk x (KeepsChoices s (or_fault r (λ choices. Offers choices (with left))) rest.choices after)) (sym (added_map (place_of s) c rest.choices))
          (keeps_added _ left (added c rest.choices) x h)
      keeps_by (Err g) (Ok u) h = absurd h
      keeps_by m (Err f) h = tt

      pub keeps_made : (x : Result (Unit {0}) Fault) → AddsMade few made old new rest.choices after x → OnOk x (KeepsChoices s offers rest.choices after)
      keeps_made x h = subst (λ e. OnOk x (KeepsChoices s e rest.choices after)) (sym offers_is) (keeps_by made x h)
