-- The effect of a choice point.
use Rattle.std.proofs.Common.{◌≡◌, sym, refl, subst, arith, ℕ, List, [], ◌∷◌, length, length-append, reverse, Bool, true, false, nat_lt, Option, Some, None, Result, Ok, Err, IsTrue}
use Rattle.ink_sound.proofs.Common.{cond_both, nat_tests, lands, fits_text, ChoiceOf, ThreadOf, StoryTree, Fault, Part, Value, ContextFits, EffectFits, FieldsFit, Finds, Gives, Each, is_true, ChoiceFits, ChoicesFit, PlaceFits, StackFits, ThreadStands, ValueFits}
use Rattle.std.proofs.lemmas.List.{length-reverse, reverse-append}
use Rattle.ink_model.specs.Choices.Making.{Operands, Words, added, after_tags, choice_of, choice_text, is_offered, make, operands, pop_any_words, pop_condition, pop_words, tags_first, then_pop}
use Rattle.ink_model.specs.Run.Effect.{Context, Fields, Offers}
use Rattle.ink_model.specs.Story.Flags.{has_choice_only_text, has_start_text, is_conditional}
use Rattle.ink_model.specs.Run.Step.Choices.{offer, offering, was_visited}
use Rattle.ink_model.specs.declared.fault.Fault.TheVariants.{BadTarget}
use Rattle.ink_model.specs.declared.limits.TheConstants.{MAX_CHOICES}
use Rattle.ink_model.specs.declared.value.Value.TheVariants.{Tag, Text}
use Rattle.ink_sound.proofs.Places.{Stands, lands_fits}
use Rattle.ink_sound.proofs.Values.{each_append, each_one, or_else_fits, or_fault_fits}

pub each_reverse : {X : Type 0} (P : X → Type 0) (xs : List X) → Each P xs → Each P (reverse xs)
each_reverse P [] h = tt
each_reverse P (x ∷ xs) h = subst (Each P) (sym (reverse-append (x ∷ []) xs)) (each_one P (reverse xs) x (each_reverse P xs h.1) h.0)

module _ (s : StoryTree) where
  abbrev TagsFit : List (List ℕ) → Type 0
  TagsFit ts = Each (λ t. IsTrue (fits_text t)) ts

  -- a text with tags that fit, and what is left
  record PopsWords (r : Words × List Value) : Type 0 where
    tags : TagsFit r.0.tags
    left : StackFits s r.1

  record PopsAll (o : Operands) : Type 0 where
    start : TagsFit o.start.tags
    only : TagsFit o.choice_only.tags
    left : StackFits s o.left

  so_pops : {A B : Type 0} (P : A → Type 0) (Q : B → Type 0) (r : Result A Fault) (so : A → Result B Fault) → Gives P r → ((a : A) → P a → Gives Q (so a)) → Gives Q (then_pop r so)
  so_pops P Q (Ok a) so h k = k a h
  so_pops P Q (Err f) so h k = tt

  -- ---- what is popped

  tags_fit : (vs : List Value) → Each (ValueFits s) vs → TagsFit (tags_first vs)
  tags_fit (Tag t ∷ vs) h = (h.0, tags_fit vs h.1)
  tags_fit vs h = tt

  below_fits : (v : Value) (vs : List Value) → StackFits s (v ∷ vs) → StackFits s vs
  below_fits v vs h = record { each = h.each.1; few = omega (arith, h.few) }

  after_fits : (vs : List Value) → StackFits s vs → StackFits s (after_tags vs)
  after_fits (Tag t ∷ vs) h = after_fits vs (below_fits (Tag t) vs h)
  after_fits vs h = h

  words_fit : (vs : List Value) → StackFits s vs → Gives PopsWords (pop_words vs)
  words_fit (Text t ∷ vs) h = record { tags = each_reverse _ (tags_first vs) (tags_fit vs h.each.1); left = after_fits vs (below_fits (Text t) vs h) }
  words_fit vs h = tt

  any_words_fit : (b : Bool) (vs : List Value) → StackFits s vs → Gives PopsWords (pop_any_words b vs)
  any_words_fit true vs h = words_fit vs h
  any_words_fit false vs h = record { tags = tt; left = h }

  condition_fits : (b : Bool) (vs : List Value) → StackFits s vs → Gives (λ (r : Bool × List Value). StackFits s r.1) (pop_condition b vs)
  condition_fits false vs h = h
  condition_fits true [] h = tt
  condition_fits true (v ∷ vs) h = by (is_true v) refl
    where
      by : (r : Result Bool Fault) → is_true v ≡ r → Gives (λ (r : Bool × List Value). StackFits s r.1) (pop_condition true (v ∷ vs))
      by (Ok b) e = rw e (below_fits v vs h)
      by (Err f) e = rw e tt

  operands_fit : (flags : ℕ) (vs : List Value) → StackFits s vs → Gives PopsAll (operands flags vs)
  operands_fit flags vs h =
      so_pops (λ (r : Bool × List Value). StackFits s r.1) PopsAll (pop_condition (is_conditional flags) vs) _ (condition_fits (is_conditional flags) vs h) (λ c x.
      so_pops PopsWords PopsAll (pop_any_words (has_choice_only_text flags) c.1) _ (any_words_fit (has_choice_only_text flags) c.1 x) (λ only y.
      so_pops PopsWords PopsAll (pop_any_words (has_start_text flags) only.1) _ (any_words_fit (has_start_text flags) only.1 y.left) (λ start z.
      record { start = z.tags; only = y.tags; left = z.left })))

  -- ---- what is made

  abbrev MadeFits : Option (ChoiceOf (List Part)) × List Value → Type 0
  MadeFits r = Finds (ChoiceFits s) r.0 × StackFits s r.1

  reverse_fits : (vs : List Value) → StackFits s vs → StackFits s (reverse vs)
  reverse_fits vs h = record { each = each_reverse (ValueFits s) vs h.each; few = omega (arith, length-reverse vs, h.few) }

  choice_fits : (flags : ℕ) (q : List Part) (visited : Bool) (t : ThreadOf (List Part)) (o : Operands) → PlaceFits s q → ThreadStands s t → PopsAll o → Gives MadeFits (choice_of flags q visited t o)
  choice_fits flags q visited t o p h k = cond_both (is_offered flags visited o.condition) _ _ (Gives MadeFits) (λ _. cond_both (fits_text (choice_text o)) _ _ (Gives MadeFits)
      (λ e. (record { text = e; tags = each_append _ o.start.tags o.choice_only.tags k.start k.only; target = p; thread = h }, reverse_fits o.left k.left)) (λ _. tt)) (λ _. (tt, reverse_fits o.left k.left))

  make_fits : (flags : ℕ) (q : List Part) (visited : Bool) (t : ThreadOf (List Part)) (vs : List Value) → PlaceFits s q → ThreadStands s t → StackFits s vs → Gives MadeFits (make flags q visited t vs)
  make_fits flags q visited t vs p h k =
      so_pops PopsAll MadeFits (operands flags (reverse vs)) (choice_of flags q visited t) (operands_fit flags (reverse vs) (reverse_fits vs k)) (λ o x. choice_fits flags q visited t o p h x)

  added_fits : (c : ChoiceOf (List Part)) (cs : List (ChoiceOf (List Part))) → ChoiceFits s c → ChoicesFit s cs → Gives (ChoicesFit s) (added c cs)
  added_fits c cs h k = cond_both (nat_lt (length cs) MAX_CHOICES) _ _ (Gives (ChoicesFit s))
      (λ e. record { each = each_one (ChoiceFits s) cs c k.each h; few = rw (length-append cs (c ∷ [])) (grind (arith, nat_tests, e)) }) (λ _. tt)

  -- ---- the effect

  module _ (p : List Part) (stand : Stands s p) (seen : Context) (context : ContextFits s seen) where
    offering_fits : (o : Option (ChoiceOf (List Part))) (f : Fields) → Finds (ChoiceFits s) o → FieldsFit s f → EffectFits s (offering s p seen o f)
    offering_fits None f h k = k
    offering_fits (Some c) f h k = or_fault_fits s (ChoicesFit s) (added c seen.choices) (λ choices. Offers choices f) (added_fits c seen.choices h context.choices) (λ choices x. (x, k))

    pub offer_fits : (text : List ℕ) (flags : ℕ) (f : Fields) → FieldsFit s f → EffectFits s (offer s p seen text flags f)
    offer_fits text flags f h = or_else_fits s (PlaceFits s) BadTarget (lands s p text) _ (lands_fits s p text stand)
        (λ q x. or_fault_fits s MadeFits (make flags q (was_visited s p seen text flags) seen.thread f.stack) _ (make_fits flags q (was_visited s p seen text flags) seen.thread f.stack x context.thread h.stack)
        (λ r y. offering_fits r.0 (record f { stack = r.1 }) y.0 (record { stack = y.1; globals = h.globals; page = h.page })))
