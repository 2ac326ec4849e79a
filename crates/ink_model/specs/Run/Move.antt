-- Where flow goes after an effect (docs/RUNNING.md, "Places"; docs/FRAMES.md). Of what a configuration has it changes where
-- flow is, the stack and the page alone, visits and turns where flow lands, and `safe` where flow is done.
use Rattle.std.specs.Prelude.{List, Bool, true, false, ◌||◌, Option, Some, None, option_map}
use Rattle.ink_model.specs.Flow.Frames.{ThreadsOf, base_threads}
use Rattle.ink_model.specs.Flow.Transfers.{Written, Reached, Reaches, Halts, Breaks, called, done, forked, halt, is_last, moved_on, reach, returned}
use Rattle.ink_model.specs.Run.Configuration.{Configuration, ended, with_choices, with_safe, with_threads}
use Rattle.ink_model.specs.Run.Effect.{Effect, Landing, Moves, Stores, Offers, Lands, Calls, Returns, Forks, Done, Ends, Fails, with_fields, with_page, with_stack, with_thread}
use Rattle.ink_model.specs.Run.Place.{next_place}
use Rattle.ink_model.specs.Run.Visits.{entering_around}
use Rattle.ink_model.specs.Story.Tree.{StoryTree}
use Rattle.ink_model.specs.declared.fault.Fault.{Fault}
use Rattle.ink_model.specs.declared.place.Part.{Part}

-- what a move comes to
pub data Outcome : Type 0 where
  Next : (after : Configuration) → Outcome
  Stop : (after : Configuration) → Outcome
  Faults : (fault : Fault) → Outcome

abbrev pub written_in : Configuration → Written
written_in c = record { stack = c.flow.stack; page = c.page }

abbrev pub with_flow : ThreadsOf (List Part) → Written → Configuration → Configuration
with_flow ts w c = with_page w.page (with_stack w.stack (with_threads ts c))

-- the outcome for a configuration whose flow went somewhere
abbrev pub reached_in : Configuration → Reached (List Part) → Outcome
reached_in c (Reaches ts w) = Next (with_flow ts w c)
reached_in c (Halts ts w) = Stop (with_flow ts w c)
reached_in c (Breaks f) = Faults f

abbrev pub going : (ThreadsOf (List Part) → Written → Reached (List Part)) → Configuration → Outcome
going how c = reached_in c (how c.flow.threads (written_in c))

-- the same where flow has landed; a landing may enter containers around
abbrev pub landed_in : StoryTree → Bool → Configuration → Reached (List Part) → Outcome
landed_in s true c (Reaches ts w) = Next (entering_around s (with_flow ts w c))
landed_in s enters c r = reached_in c r

abbrev pub landing_outcome : StoryTree → Bool → (ThreadsOf (List Part) → Written → Reached (List Part)) → Configuration → Outcome
landing_outcome s enters how c = landed_in s enters c (how c.flow.threads (written_in c))

-- flow that comes back lands only where it is given a place
abbrev pub may_enter : Option Landing → Bool
may_enter None = false
may_enter (Some to) = to.enters

abbrev pub place_to : Option Landing → Option (List Part)
place_to to = option_map (λ l. l.place) to

-- flow stops safely where it is, in the last thread
abbrev pub finish : StoryTree → Configuration → Outcome
finish s c = going (done (next_place s)) (with_safe (c.flow.safe || is_last c.flow.threads) c)

-- flow stops safely everywhere, and of threads and choices nothing is left
abbrev pub end_all : Configuration → Outcome
end_all c = reached_in (ended c) (halt (base_threads None) (written_in c))

abbrev pub move : StoryTree → Effect → Configuration → Outcome
move s (Moves f) c = going (moved_on (next_place s)) (with_fields f c)
move s (Stores t f) c = going (moved_on (next_place s)) (with_fields f (with_thread t c))
move s (Offers choices f) c = going (moved_on (next_place s)) (with_fields f (with_choices choices c))
move s (Lands to f) c = landing_outcome s to.enters (reach to.place) (with_fields f c)
move s (Calls k to f) c = landing_outcome s to.enters (called k to.place) (with_fields f c)
move s (Returns k to f) c = landing_outcome s (may_enter to) (returned (next_place s) k (place_to to)) (with_fields f c)
move s (Forks f) c = going (forked (next_place s)) (with_fields f c)
move s (Done f) c = finish s (with_fields f c)
move s (Ends f) c = end_all (with_fields f c)
move s (Fails f) c = Faults f
