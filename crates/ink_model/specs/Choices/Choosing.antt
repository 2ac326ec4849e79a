-- How flow goes on from a choice, and by a jump (docs/RUNNING.md, "Choosing and jumping").
use Rattle.std.specs.Prelude.{ℕ, List, [], slice_get, Bool, false, if◌then◌else◌, Option, Some, None, option_and_then}
use Rattle.std.specs.Option.{option_map}
use Rattle.ink_model.specs.Choices.Making.{only_invisible, choice_gone, visible}
use Rattle.ink_model.specs.Flow.Frames.{put_in}
use Rattle.ink_model.specs.Flow.Threads.{alone}
use Rattle.ink_model.specs.Run.Configuration.{ChoiceOf, Configuration, ConfigurationOf, can_go_on, ended, next_turn, put_at, with_choices, with_threads}
use Rattle.ink_model.specs.Run.Move.{Outcome, Next, Stop, Faults}
use Rattle.ink_model.specs.Run.Visits.{entering_around, entering_asks}
use Rattle.ink_model.specs.Story.Path.{absolute_target, landing, read_path}
use Rattle.ink_model.specs.Story.Tree.{StoryTree}
use Rattle.ink_model.specs.declared.place.Part.{Part}

module _ {P : Type 0} where
  -- ---- where flow is then

  -- where a choice leads, in the choice's copy of its thread alone, whose previous place stays; no choice is left
  abbrev pub taken_up : ChoiceOf P → ConfigurationOf P → ConfigurationOf P
  taken_up choice c = with_choices [] (with_threads (alone (put_in (Some choice.target) choice.thread)) c)

  -- the same where a host chooses, which begins another turn
  abbrev pub chosen : ChoiceOf P → ConfigurationOf P → ConfigurationOf P
  chosen choice c = taken_up choice (next_turn c)

  -- a jump does as `end`, and in another turn flow is at a place
  abbrev pub jumped : P → ConfigurationOf P → ConfigurationOf P
  jumped q c = put_at (Some q) (next_turn (ended c))

  -- ---- which choice

  -- the first choice, where all are invisible
  abbrev pub default_choice : List (ChoiceOf P) → Option (ChoiceOf P)
  default_choice choices = if only_invisible choices then option_map (λ r. r.0) (choice_gone 0 choices) else None

  -- the n-th visible choice, counted from 0, where flow has stopped
  abbrev pub open_choice : ℕ → ConfigurationOf P → Option (ChoiceOf P)
  open_choice n c = if can_go_on c then None else slice_get (visible c.flow.choices) n

-- ---- where flow stops

abbrev pub stopped_by : StoryTree → Option (ChoiceOf (List Part)) → Configuration → Outcome
stopped_by s None c = Stop c
stopped_by s (Some choice) c = Next (entering_around s (taken_up choice c))

-- Where flow stops with choices that are all invisible, it lands where the first of them leads, in the same step and turn.
abbrev pub following : StoryTree → Outcome → Outcome
following s (Stop c) = stopped_by s (default_choice c.flow.choices) c
following s (Next c) = Next c
following s (Faults f) = Faults f

abbrev pub default_asks : StoryTree → Option (ChoiceOf (List Part)) → Configuration → Bool
default_asks s None c = false
default_asks s (Some choice) c = entering_asks s (taken_up choice c)

-- that landing asks for memory
abbrev pub following_asks : StoryTree → Outcome → Bool
following_asks s (Stop c) = default_asks s (default_choice c.flow.choices) c
following_asks s (Next c) = false
following_asks s (Faults f) = false

-- ---- for a host

-- where a host's path lands as it is spelled; nowhere where it is relative or leads to nothing
abbrev pub jump_place : StoryTree → List ℕ → Option (List Part)
jump_place s text = option_and_then (λ path. option_map (landing s path) (absolute_target s path)) (read_path text)
