-- What memory is asked for while a mark stands.
use Rattle.std.proofs.Common.{◌≡◌, ◌∙◌, ◌⊎◌, ◌≤◌, ◌+◌, ◌*◌, ◌&&◌, ◌||◌, ℕ, List, length, ap, arith, inl, inr, refl, Bool, true, false, Option, None, Some, is_some, option_and_then, option_map}
use Rattle.ink_choice.specs.Undo.{choices_spare, choices_stood}
use Rattle.ink_effects.proofs.Bools.{and_both, or_first, or_more}
use Rattle.ink_effects.proofs.Rooms.{lacks_more}
use Rattle.ink_model.specs.Choices.Making.{only_invisible}
use Rattle.ink_step.proofs.Common.{Configuration, current_place, map_threads, content_place, frame_count, StoryTree, leaf, container, at, Fields, Bound, Wants, gone_in, performed, step, step_at, Call, call_at, around, Value, Part, threads_spare, threads_stood, config_of, Machine, leaf_in, place_of, counts_spare}
use Rattle.ink_model.specs.declared.content.Leaf.TheVariants as leaves
use Rattle.ink_step.specs.Marks.{Stood, choices_lack, counts_lack, keeps_mark, lacks, landing_lacks, own_lacks, own_spare, pressed, presses, stack_lacks, stood_of, takes_first, takes_there, threads_lack, unmarked}
use Rattle.ink_moves.specs.declared.flow.TheConstants.{MOVING}
use Rattle.ink_step.specs.declared.step.TheConstants.{STEPPING}
use Rattle.ink_value.specs.Undo.{stack_spare}

-- ---- a machine that is pressed

or_split : (a b : Bool) → a || b ≡ true → (a ≡ true) ⊎ (b ≡ true)
or_split true b h = inl refl
or_split false b h = inr h

module _ (s : StoryTree) (m : Machine) where
  abbrev frames : ℕ
  frames = frame_count m.flow.threads.threads.thread

  pub pressed_threads : (n : ℕ) → n ≤ frames + STEPPING → threads_lack n m ≡ true → pressed s m ≡ true
  unfolding pressed
  pressed_threads n most h = or_first _ _ (lacks_more (threads_stood m.flow.threads) (threads_spare m.flow.threads) n (frames + STEPPING) most h)

  -- for the end of freshness
  pub pressed_fresh : threads_lack (frames + MOVING) m ≡ true → pressed s m ≡ true
  pressed_fresh h = pressed_threads (frames + MOVING) (omega arith) h

  pub pressed_stack : stack_lacks (length m.flow.stack.items + 2) m ≡ true → pressed s m ≡ true
  unfolding pressed
  pressed_stack h = or_more (threads_lack (frames + STEPPING) m) _ (or_first _ _ h)

  -- where there is no room at the beginning of a step
  pub step_pressed : threads_lack STEPPING m || stack_lacks (length m.flow.stack.items + 2) m ≡ true → pressed s m ≡ true
  step_pressed h = elim (or_split (threads_lack STEPPING m) _ h) [
    | inl t ↦ pressed_threads STEPPING (omega arith) t
    | inr k ↦ pressed_stack k
  ]

  -- beside these two
  more_than : (b : Bool) → b ≡ true → threads_lack (frames + STEPPING) m || (stack_lacks (length m.flow.stack.items + 2) m || b) ≡ true
  more_than b h = or_more (threads_lack (frames + STEPPING) m) _ (or_more (stack_lacks (length m.flow.stack.items + 2) m) b h)

  pub pressed_choices : choices_lack 1 m ≡ true → pressed s m ≡ true
  unfolding pressed
  pressed_choices h = more_than _ (or_first _ _ h)

  pub pressed_own : own_lacks 2 m ≡ true → pressed s m ≡ true
  unfolding pressed
  pressed_own h = more_than _ (or_more (choices_lack 1 m) _ (or_first _ _ h))

  pub pressed_counts : counts_lack 2 m ≡ true → pressed s m ≡ true
  unfolding pressed
  pressed_counts h = more_than _ (or_more (choices_lack 1 m) _ (or_more (own_lacks 2 m) _ (or_first _ _ h)))

  pub pressed_landing : landing_lacks s m ≡ true → pressed s m ≡ true
  unfolding pressed
  pressed_landing h = more_than _ (or_more (choices_lack 1 m) _ (or_more (own_lacks 2 m) _ (or_more (counts_lack 2 m) _ (or_first _ _ h))))

  pub pressed_default : is_some (choices_stood m.flow.choices) ≡ true → only_invisible m.flow.choices.items ≡ true → pressed s m ≡ true
  unfolding pressed
  pressed_default marked all =
      more_than _ (or_more (choices_lack 1 m) _ (or_more (own_lacks 2 m) _ (or_more (counts_lack 2 m) _ (or_more (landing_lacks s m) _
      (and_both (is_some (choices_stood m.flow.choices)) (only_invisible m.flow.choices.items) marked all)))))

  -- no machine is without a mark
  pub not_pressed : stood_of m ≡ unmarked → pressed s m ≡ false
  unfolding pressed
  not_pressed free = ap pressed_so free
    where
      pressed_so : Stood → Bool
      pressed_so t =
          lacks t.threads (threads_spare m.flow.threads) (frames + STEPPING)
          || (lacks t.stack (stack_spare m.flow.stack) (length m.flow.stack.items + 2)
          || (lacks t.choices (choices_spare m.flow.choices) 1
          || (lacks t.own (own_spare m.trail) 2
          || (lacks t.counts (counts_spare m.shared.counts) 2
          || (lacks t.counts (counts_spare m.shared.counts) (4 * length (around s (map_threads (place_of s) m.flow.threads.threads)))
          || (is_some t.choices && only_invisible m.flow.choices.items))))))

and_none : (b : Bool) → b && false ≡ false
and_none true = refl
and_none false = refl

-- so no step is
pub not_presses : (s : StoryTree) (old new : Machine) → stood_of old ≡ unmarked → stood_of new ≡ unmarked → presses s old new ≡ false
not_presses s old new free left =
    ap (λ (t : Stood). (takes_first s (config_of s old) && keeps_mark t) || pressed s new) free
    ∙ ap (λ b. b || pressed s new) (and_none (takes_first s (config_of s old))) ∙ not_pressed s new left

-- ---- a content that takes a value

-- found at the end of the way in
pub takes_at : (s : StoryTree) (p : List Part) (c : Configuration) (found : Option StoryTree) → current_place c ≡ Some p → at s (content_place s p) ≡ found → takes_first s c ≡ takes_there found
unfolding takes_first
takes_at s p c found at_p is = ap (λ o. takes_there (option_and_then (λ p. at s (content_place s p)) o)) at_p ∙ ap takes_there is

-- an empty container takes none, as nothing does
pub takes_alike : (o : Option StoryTree) → takes_there (option_map leaf (leaf_in o)) ≡ takes_there o
takes_alike None = refl
takes_alike (Some (leaf l)) = refl
takes_alike (Some (container name flags content named)) = refl

-- it calls nothing
takes_no_call : (o : Option StoryTree) → takes_there o ≡ true → call_at o ≡ None
takes_no_call (Some (leaf (leaves.Declare name))) h = refl
takes_no_call (Some (leaf (leaves.DeclareTemp name))) h = refl
takes_no_call (Some (leaf (leaves.Assign name))) h = refl
takes_no_call (Some (leaf (leaves.AssignTemp name))) h = refl
takes_no_call o h = absurd (cc)

calls_none : (s : StoryTree) (b : Bound) (p : List Part) (c : Configuration) (k : Option Call) → k ≡ None → (name : List ℕ) (arguments : List Value) (f : Fields) (d : Configuration)
    → performed s b (content_place s p) (at s (content_place s p)) k c ≡ Wants name arguments f d → ⊥
calls_none s b p c None none name arguments f d is = cc
calls_none s b p c (Some k) none name arguments f d is = absurd (cc)

-- so its step wants no call
pub takes_calls : (s : StoryTree) (b : Bound) (c : Configuration) (name : List ℕ) (arguments : List Value) (f : Fields) (d : Configuration) → takes_first s c ≡ true → step s b c ≡ Wants name arguments f d → ⊥
unfolding takes_first step
takes_calls s b c name arguments f d takes is = by (current_place c) takes is
  where
    by : (o : Option (List Part)) → takes_there (option_and_then (λ p. at s (content_place s p)) o) ≡ true → step_at s b o c ≡ Wants name arguments f d → ⊥
    by None h wants = absurd (cc)
    by (Some p) h wants = calls_none s b p (gone_in s p c) (call_at (at s (content_place s p))) (takes_no_call (at s (content_place s p)) h) name arguments f d wants
