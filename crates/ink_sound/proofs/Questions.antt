-- The effects of questions for counts.
use Rattle.std.proofs.Common.{refl, ℕ, ◌≤◌, ℤ, pos, negsuc, IsTrue, List, reverse, Option, Some, None, Result, Ok, Err}
use Rattle.ink_sound.proofs.Common.{cond_both, flags_at, counts_visits, notes_turns, is_small, MAX_COUNT, landing_by, StoryTree, at, Fault, Part, ContextFits, EffectFits, FieldsFit, Finds, Gives, place_order, row}
use Rattle.ink_model.specs.Story.Acceptance.{leads}
use Rattle.ink_model.specs.Variables.Counts as counts
use Rattle.ink_sound.proofs.Counts.{most_of, visits_most}
use Rattle.ink_sound.proofs.Ints.{count_small, difference_small, less_small}
use Rattle.ink_sound.proofs.Rows.{row_finds}
use Rattle.ink_model.specs.Run.Effect.{Context, Fields, pushing}
use Rattle.ink_model.specs.Story.Path.{above, is_container}
use Rattle.ink_model.specs.Run.Step.Counts.{asking, push_count, push_read_count, push_turn, push_turns, push_visit, pushing_count, less_one, turns_at, turns_there, visits_at, visits_there}
use Rattle.ink_model.specs.declared.fault.Fault.TheVariants.{BadTarget, NotCounted}
use Rattle.ink_model.specs.declared.value.Value.TheVariants as value
use Rattle.ink_sound.proofs.Values.{Any, any_finds, or_else_fits, or_fault_fits, popping_fits, pushing_fits}

module _ (s : StoryTree) where
  abbrev Small : ℤ → Type 0
  Small z = IsTrue (is_small z)

  -- a count from 0
  abbrev IsCount : ℤ → Type 0
  IsCount (pos n) = n ≤ MAX_COUNT
  IsCount (negsuc n) = ⊥

  counted_fits : (r : Result ℤ Fault) (f : Fields) (seen : Context) → Gives Small r → FieldsFit s f → EffectFits s (pushing_count s seen r f)
  counted_fits r f seen k h = or_fault_fits s Small r (λ z. pushing (value.Int z) f) k (λ z u. pushing_fits s (value.Int z) f u h)

  counts_fit : (r : Result ℤ Fault) → Gives IsCount r → Gives Small r
  counts_fit (Ok (pos n)) h = count_small n h
  counts_fit (Ok (negsuc n)) h = absurd h
  counts_fit (Err f) h = tt

  module _ (seen : Context) (context : ContextFits s seen) where
    visits_fit : (q : List Part) → Gives IsCount (visits_at s seen q)
    visits_fit q = cond_both (counts_visits (flags_at (at s q))) _ _ (Gives IsCount) (λ _. visits_most s q seen.counts context.counts) (λ _. tt)

    less_fits : (r : Result ℤ Fault) → Gives IsCount r → Gives Small (less_one s seen r)
    less_fits (Ok (pos n)) h = less_small n h
    less_fits (Ok (negsuc n)) h = absurd h
    less_fits (Err f) h = tt

    from_fit : (o : Option ℕ) → Finds (λ n. n ≤ MAX_COUNT) o → Small (counts.turns_from o seen.turn)
    from_fit None h = refl
    from_fit (Some n) h = difference_small seen.turn n context.turn h

    turns_fit : (q : List Part) → Gives Small (turns_at s seen q)
    turns_fit q = cond_both (notes_turns (flags_at (at s q))) _ _ (Gives Small) (λ _. from_fit (row place_order q seen.counts.turns)
        (row_finds place_order (λ n. n ≤ MAX_COUNT) q seen.counts.turns (most_of s notes_turns 0 seen.counts.turns context.counts.turns.each))) (λ _. tt)

  module _ (seen : Context) (context : ContextFits s seen) (f : Fields) (h : FieldsFit s f) where
    pub push_count_fits : (p : List Part) (text : List ℕ) → EffectFits s (push_count s seen p text f)
    push_count_fits p text = or_else_fits s Any NotCounted (leads s p text) _ (any_finds (leads s p text)) (λ q u. counted_fits _ f seen (counts_fit _ (visits_fit seen context q)) h)

    pub push_visit_fits : (p : List Part) → EffectFits s (push_visit s seen p f)
    push_visit_fits p = or_else_fits s Any NotCounted (above (reverse p)) _ (any_finds (above (reverse p)))
        (λ q u. counted_fits _ f seen (less_fits seen context (visits_at s seen q) (visits_fit seen context q)) h)

    asking_fits : (so : List Part → Result ℤ Fault) → ((q : List Part) → Gives Small (so q)) → EffectFits s (asking s seen so f)
    asking_fits so k = popping_fits s f _ h (λ v left p x. or_else_fits s Any BadTarget (landing_by s v) _ (any_finds (landing_by s v)) (λ to u. counted_fits (so to.place) left seen (k to.place) x))

    pub push_turns_fits : EffectFits s (push_turns s seen f)
    push_turns_fits = asking_fits (turns_there s seen) (λ q. cond_both (is_container (at s q)) _ _ (Gives Small) (λ _. turns_fit seen context q) (λ _. refl))

    pub push_read_count_fits : EffectFits s (push_read_count s seen f)
    push_read_count_fits = asking_fits (visits_there s seen)
        (λ q. cond_both (is_container (at s q)) _ _ (Gives Small) (λ _. counts_fit (visits_at s seen q) (visits_fit seen context q)) (λ _. refl))

    pub push_turn_fits : EffectFits s (push_turn s seen f)
    push_turn_fits = pushing_fits s (value.Int (pos seen.turn)) f (count_small seen.turn context.turn) h
