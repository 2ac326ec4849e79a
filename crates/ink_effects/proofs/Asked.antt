-- Questions for visits and turns.
use Rattle.std.proofs.Common.{◌≡◌, ◌∙◌, ◌&&◌, ap, sym, subst, refl, inl, arith, ℕ, ◌≤◌, ℤ, List, [], ◌∷◌, ◌++◌, length, reverse, slice_get, nat_lt, if◌then◌else◌, Bool, true, false, Option, Some, None, option_map, ok_or, Result, Ok, Err, is_ok}
use Rattle.std.proofs.lemmas.List.{length-append}
use Rattle.ink_model.specs.Run.Effect.{Context, Effect, Fields, Landing as Goal, Moves, or_else, or_fault, pushing}
use Rattle.ink_effects.proofs.Common.{has_room, Page, popped, pushed, landing_by, Values, StoryTree, Fault, MAX_STACK, Part, Value, Changes, Performs, fields, landing_of, moving, Landing, place_of}
use Rattle.ink_model.specs.Memory.Refusals.{Leaves, visit_asks}
use Rattle.ink_model.specs.Run.Step.Counts.{asking, pushing_count, visits_at}
use Rattle.ink_model.specs.declared.fault.Fault.TheVariants.{BadTarget, NotCounted, OutOfMemory, StackEmpty, TooDeep}
use Rattle.ink_model.specs.declared.value.Value.TheVariants as value
use Rattle.ink_effects.proofs.Effects.{operated}
use Rattle.ink_effects.proofs.Tops.{top_seen}
use Rattle.ink_effects.specs.Asked.{Answers, asked_place, visits_in}

ok_same : {A : Type 0} (a b : A) → ◌≡◌ {A = Result A Fault} (Ok a) (Ok b) → a ≡ b
ok_same a b h = cc

err_same : {A : Type 0} (f g : Fault) → ◌≡◌ {A = Result A Fault} (Err f) (Err g) → f ≡ g
err_same f g h = cc

some_none : {A : Type 0} (a : A) → ◌≡◌ {A = Option A} (Some a) None → ⊥
some_none a h = cc

-- ---- a target on top

module _ (s : StoryTree) (vs : List Value) (v : Value) (seen : slice_get (reverse vs) 0 ≡ Some v) where
  pub asked_there : (to : Landing) → Some (landing_of s to) ≡ landing_by s v → Ok (place_of s to.place) ≡ asked_place s (popped vs)
  asked_there to h = ap (λ o. ok_or (option_map (λ l. l.place) o) BadTarget) h ∙ sym (ap (asked_place s) (top_seen vs v seen).1)

  pub asked_nowhere : None ≡ landing_by s v → Err BadTarget ≡ asked_place s (popped vs)
  asked_nowhere h = ap (λ o. ok_or (option_map (λ l. l.place) o) BadTarget) h ∙ sym (ap (asked_place s) (top_seen vs v seen).1)

-- ---- a number in its place

module _ (s : StoryTree) (seen : Context) (so : List Part → Result ℤ Fault) (evaluating : Bool) (fresh : Option ℕ) (page : Page) (globals : Values) (new : List Value) where
  abbrev with : List Value → Fields
  with vs = fields evaluating fresh vs page globals

  -- what is done about what was popped, and where that leads
  abbrev at_landing : Value × List Value → Option Goal → Effect
  at_landing r o = or_else BadTarget o (λ to. pushing_count s seen (so to.place) (with r.1))

  abbrev on_popped : Option (Value × List Value) → Effect
  on_popped o = or_else StackEmpty o (λ r. at_landing r (landing_by s r.0))

  module _ (t : StoryTree) where
    refused_at : (r : Value × List Value) (o : Option Goal) (q : List Part) (f : Fault) → Ok q ≡ ok_or (option_map (λ l. l.place) o) BadTarget → Err f ≡ so q
        → Performs t false (at_landing r o) (with new) (Err f)
    refused_at r None q f h is = absurd (cc)
    refused_at r (Some to) q f h is = subst (λ x. Performs t false (pushing_count s seen x (with r.1)) (with new) (Err f)) (is ∙ ap so (ok_same q to.place h)) (inl refl)

    refused_on : (o : Option (Value × List Value)) (q : List Part) (f : Fault) → Ok q ≡ asked_place s o → Err f ≡ so q → Performs t false (on_popped o) (with new) (Err f)
    refused_on None q f h is = absurd (cc)
    refused_on (Some r) q f h is = refused_at r (landing_by s r.0) q f h is

    pub asks_in_vain : (old : List Value) (q : List Part) (f : Fault) → Ok q ≡ asked_place s (popped old) → Err f ≡ so q → Performs t false (asking s seen so (with old)) (with new) (Err f)
    asks_in_vain old q f h is = refused_on (popped old) q f h is

    -- there is room where a value was
    in_its_place : (z : ℤ) (below : List Value) → Some new ≡ Some (below ++ value.Int z ∷ []) → length new ≤ MAX_STACK
        → Performs t false (pushing (value.Int z) (with below)) (with new) (moving (Ok tt))
    in_its_place z below h within = by (nat_lt (length below) MAX_STACK) room
      where
        same : new ≡ below ++ value.Int z ∷ []
        same = cc

        room : nat_lt (length below) MAX_STACK ≡ true
        room = grind (arith, same, within, length-append below (value.Int z ∷ []))

        by : (b : Bool) → b ≡ true
            → Performs t false (or_fault (if b then Ok (below ++ value.Int z ∷ []) else Err TooDeep) (λ vs. Moves (with vs))) (with new) (moving (Ok tt))
        by true h = ap with same
        by false h = absurd (cc)

    answered_at : (r : Value × List Value) (o : Option Goal) (q : List Part) (z : ℤ) → Ok q ≡ ok_or (option_map (λ l. l.place) o) BadTarget → Ok z ≡ so q
        → (result : Result (Unit {0}) Fault) → Answers z (Some r) new result → Performs t false (at_landing r o) (with new) (moving result)
    answered_at r None q z h is result a = absurd (cc)
    answered_at r (Some to) q z h is (Ok u) a = subst (λ x. Performs t false (pushing_count s seen x (with r.1)) (with new) (moving (Ok u))) (is ∙ ap so (ok_same q to.place h)) (in_its_place z r.1 a.0 a.1)
    answered_at r (Some to) q z h is (Err f) a = absurd (some_none r a.1)

    answered_on : (o : Option (Value × List Value)) (q : List Part) (z : ℤ) → Ok q ≡ asked_place s o → Ok z ≡ so q
        → (result : Result (Unit {0}) Fault) → Answers z o new result → Performs t false (on_popped o) (with new) (moving result)
    answered_on None q z h is result a = absurd (cc)
    answered_on (Some r) q z h is result a = answered_at r (landing_by s r.0) q z h is result a

    pub asks_there : (old : List Value) (q : List Part) (z : ℤ) → Ok q ≡ asked_place s (popped old) → Ok z ≡ so q
        → (result : Result (Unit {0}) Fault) → Answers z (popped old) new result → Performs t false (asking s seen so (with old)) (with new) (moving result)
    asks_there old q z h is result a = answered_on (popped old) q z h is result a

-- ---- visits that are pushed

module _ (s : StoryTree) (seen : Context) (change : Result ℤ Fault → Result ℤ Fault) (keeps : (f : Fault) → change (Err f) ≡ Err f)
    (evaluating : Bool) (fresh : Option ℕ) (page : Page) (globals : Values) (old new : List Value) where
  abbrev counted_in : Option (List Part) → Effect
  counted_in o = or_else NotCounted o (λ q. pushing_count s seen (change (visits_at s seen q)) (fields evaluating fresh old page globals))

  pub visits_fail : (o : Option (List Part)) (f : Fault) → Err f ≡ visits_in s seen.counts o → Changes (visit_asks s seen o && has_room old) (counted_in o) (fields evaluating fresh new page globals) (Err f)
  visits_fail None f h t = inl (err_same f NotCounted h)
  visits_fail (Some q) f h t =
      subst (λ x. Performs t (visit_asks s seen (Some q) && has_room old) (pushing_count s seen x (fields evaluating fresh old page globals)) (fields evaluating fresh new page globals) (Err f))
      (sym (keeps f) ∙ ap change h) (inl refl)

  pub visits_pushed : (o : Option (List Part)) (z w : ℤ) → Ok z ≡ visits_in s seen.counts o → change (Ok z) ≡ Ok w
      → (result : Result (Unit {0}) Fault) → Leaves (pushed (value.Int w) old) old new result → (result ≡ Err OutOfMemory → has_room old ≡ true)
      → Changes (visit_asks s seen o && has_room old) (counted_in o) (fields evaluating fresh new page globals) result
  visits_pushed None z w h is result leaves memory t = absurd (cc)
  visits_pushed (Some q) z w h is result leaves memory t =
      subst (λ x. Performs t (is_ok (visits_at s seen q) && has_room old) (pushing_count s seen (change x) (fields evaluating fresh old page globals)) (fields evaluating fresh new page globals) (moving result)) h
      (subst (λ x. Performs t (is_ok (visits_at s seen q) && has_room old) (pushing_count s seen x (fields evaluating fresh old page globals)) (fields evaluating fresh new page globals) (moving result)) (sym is)
      (operated (is_ok (visits_at s seen q) && has_room old) (pushed (value.Int w) old) (λ vs. fields evaluating fresh vs page globals) old new result leaves
      (λ short. subst (λ b. b && has_room old ≡ true) (ap is_ok h) (memory short)) t))
