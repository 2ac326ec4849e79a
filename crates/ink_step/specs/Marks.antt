-- What a mark keeps of a machine: each part of its configuration as it stood there, none where no mark stands.
use Rattle.std.specs.Prelude.{◌≡◌, ◌≤◌, ℕ, ◌+◌, ◌-◌, ◌*◌, ◌^◌, min, List, ◌++◌, length, map, Bool, false, ◌&&◌, ◌||◌, Option, None, Some, is_some, option_and_then, unwrap_or}
use Rattle.ink_choice.specs.Undo.{choices_spare, choices_stood}
pub use Rattle.ink_effects.specs.Marks.{lacks, takes_value}
use Rattle.ink_model.specs.Choices.Making.{only_invisible}
use Rattle.ink_model.specs.Run.Configuration.{ChoiceOf, Configuration, current_place, map_choice}
use Rattle.ink_model.specs.Variables.Counts.{CountsOf}
use Rattle.ink_model.specs.Flow.Frames.{ThreadsOf, map_threads}
use Rattle.ink_model.specs.Text.Page.{Page}
use Rattle.ink_model.specs.Run.Entered.{entered_places}
use Rattle.ink_model.specs.Run.Place.{content_place}
use Rattle.ink_model.specs.Variables.Store.{Values}
use Rattle.ink_model.specs.Flow.Threads.{frame_count}
use Rattle.ink_model.specs.Run.Visits.{around}
use Rattle.ink_model.specs.declared.place.Part.{Part}
use Rattle.ink_model.specs.declared.value.Value.{Value}
use Rattle.ink_out.specs.Undo.{output_stood}
use Rattle.ink_stack.specs.Undo.{threads_spare, threads_stood}
use Rattle.ink_step.specs.declared.machine.Machine.{Machine}
use Rattle.ink_step.specs.declared.own.OwnPair.{OwnPair}
use Rattle.ink_step.specs.declared.own.OwnPair.TheVariants.{Safe, Turned}
use Rattle.ink_step.specs.declared.step.TheConstants.{STEPPING}
use Rattle.ink_model.specs.Story.Tree.{StoryTree, leaf, at}
use Rattle.ink_step.specs.Standing.{config_of, counts_in}
use Rattle.ink_trail.specs.Undo.{KeepsTrail, TrailView, spare, stood_at, trail_of, writes_of}
use Rattle.ink_tree.specs.Nodes.{place_of}
use Rattle.ink_tree.specs.declared.spot.Spot.{Spot}
use Rattle.ink_value.specs.Undo.{stack_spare, stack_stood}
use Rattle.ink_vars.specs.Undo.{counts_spare, counts_stood, globals_stood}

-- ---- a machine's own fields

pub record Own : Type 0 where
  pub turn : ℕ
  pub safe : Bool

abbrev pub own_of : Machine → Own
own_of m = record { turn = m.shared.turn; safe = m.flow.safe }

-- the fields before a change
abbrev pub own_back : OwnPair → Own → Own
own_back (Turned turn) own = record own { turn = turn }
own_back (Safe safe) own = record own { safe = safe }

-- the fields as they stood at the mark
unfoldable pub own_stood : TrailView OwnPair → ℕ → Bool → Option Own
own_stood trail turn safe = stood_at own_back trail (record { turn = turn; safe = safe })

-- how many changes of them can still be noted without memory
unfoldable pub own_spare : TrailView OwnPair → ℕ
own_spare trail = spare trail

-- So many of their pairs are noted at the most, behind those that were, and counted, one each or more.
pub record NotesOwn (n : ℕ) (old new : TrailView OwnPair) : Type 0 where
  pub pairs : List OwnPair
  pub trail : trail_of new.undo ≡ pairs ++ trail_of old.undo
  pub few : length pairs ≤ n
  pub most : writes_of new.undo ≤ writes_of old.undo + n
  pub least : min (writes_of old.undo + length pairs) (2 ^ 64 - 1) ≤ writes_of new.undo

-- ---- all parts

pub record Stood : Type 0 where
  pub own : Option Own
  pub threads : Option (ThreadsOf Spot)
  pub stack : Option (List Value)
  pub choices : Option (List (ChoiceOf Spot))
  pub globals : Option Values
  pub counts : Option (CountsOf ℕ)
  pub page : Option Page

abbrev pub stood_of : Machine → Stood
stood_of m = record {
  own = own_stood m.trail m.shared.turn m.flow.safe;
  threads = threads_stood m.flow.threads;
  stack = stack_stood m.flow.stack;
  choices = choices_stood m.flow.choices;
  globals = globals_stood m.shared.globals;
  counts = counts_stood m.shared.counts;
  page = output_stood m.output;
}

-- no mark stands
abbrev pub unmarked : Stood
unmarked = record { own = None; threads = None; stack = None; choices = None; globals = None; counts = None; page = None }

-- a mark stands where values are taken from, or where they are kept
abbrev pub keeps_mark : Stood → Bool
keeps_mark t = is_some t.stack || is_some t.globals

-- what stands at a place is such a content
abbrev pub takes_there : Option StoryTree → Bool
takes_there (Some (leaf l)) = takes_value l
takes_there o = false

-- the first content of the step at a configuration is one
unfoldable pub takes_first : StoryTree → Configuration → Bool
takes_first s c = takes_there (option_and_then (λ p. at s (content_place s p)) (current_place c))

-- ---- what notes want

abbrev pub threads_lack : ℕ → Machine → Bool
threads_lack n m = lacks (threads_stood m.flow.threads) (threads_spare m.flow.threads) n

abbrev pub stack_lacks : ℕ → Machine → Bool
stack_lacks n m = lacks (stack_stood m.flow.stack) (stack_spare m.flow.stack) n

abbrev pub choices_lack : ℕ → Machine → Bool
choices_lack n m = lacks (choices_stood m.flow.choices) (choices_spare m.flow.choices) n

abbrev pub counts_lack : ℕ → Machine → Bool
counts_lack n m = lacks (counts_stood m.shared.counts) (counts_spare m.shared.counts) n

abbrev pub own_lacks : ℕ → Machine → Bool
own_lacks n m = lacks (own_stood m.trail m.shared.turn m.flow.safe) (own_spare m.trail) n

-- where flow has landed: the containers around are entered, which is two changes of counts each, and may be taken back
abbrev pub landing_lacks : StoryTree → Machine → Bool
landing_lacks s m = counts_lack (4 * length (around s (map_threads (place_of s) m.flow.threads.threads))) m

-- A machine as a step leaves it to which memory was refused because a mark stands: a part where the mark stands has less room
-- than the step wants there for its notes; or all choices are invisible, the first of which flow takes, and so copies, where it
-- stops.
unfoldable pub pressed : StoryTree → Machine → Bool
pressed s m =
    threads_lack (frame_count m.flow.threads.threads.thread + STEPPING) m
    || (stack_lacks (length m.flow.stack.items + 2) m
    || (choices_lack 1 m
    || (own_lacks 2 m
    || (counts_lack 2 m
    || (landing_lacks s m
    || (is_some (choices_stood m.flow.choices) && only_invisible m.flow.choices.items))))))

-- the same of the whole step from one machine to another, which copies a value while a mark stands
abbrev pub presses : StoryTree → Machine → Machine → Bool
presses s old new = (takes_first s (config_of s old) && keeps_mark (stood_of old)) || pressed s new

-- a turn begins, from a machine, for which so many containers are entered
abbrev pub turn_lacks : ℕ → Machine → Bool
turn_lacks n m = threads_lack 2 m || (choices_lack 2 m || (own_lacks 2 m || counts_lack (4 * n) m))

-- so many containers are entered where a choice leads
abbrev pub entered_by : StoryTree → Option (ChoiceOf (List Part)) → ℕ
entered_by s (Some choice) = length (entered_places s choice.thread.previous choice.target)
entered_by s None = 0

-- a choice is taken, which is copied where the choices keep a mark, and a turn begins
abbrev pub choosing_lacks : StoryTree → Option (ChoiceOf (List Part)) → Machine → Machine → Bool
choosing_lacks s choice old new = is_some (choices_stood old.flow.choices) || turn_lacks (entered_by s choice) new

-- ---- going back

-- each part as it stands now
abbrev pub marked_at : Machine → Stood
marked_at m = record {
  own = Some (own_of m);
  threads = Some m.flow.threads.threads;
  stack = Some m.flow.stack.items;
  choices = Some m.flow.choices.items;
  globals = Some m.shared.globals.rows;
  counts = Some m.shared.counts.rows;
  page = Some m.output.page;
}

-- the configuration as it stood at the mark; as it is where no mark stands
abbrev pub config_back : StoryTree → Machine → Configuration
config_back s m =
    let own = unwrap_or (own_stood m.trail m.shared.turn m.flow.safe) (own_of m) in
    record {
      flow = record {
        threads = map_threads (place_of s) (unwrap_or (threads_stood m.flow.threads) m.flow.threads.threads);
        stack = unwrap_or (stack_stood m.flow.stack) m.flow.stack.items;
        choices = map (map_choice (place_of s)) (unwrap_or (choices_stood m.flow.choices) m.flow.choices.items);
        safe = own.safe;
      };
      shared = record {
        globals = unwrap_or (globals_stood m.shared.globals) m.shared.globals.rows;
        counts = counts_in s (unwrap_or (counts_stood m.shared.counts) m.shared.counts.rows);
        turn = own.turn;
      };
      page = unwrap_or (output_stood m.output) m.output.page;
    }

-- a sum that stays at the most
abbrev pub capped : ℕ → ℕ → ℕ
capped a b = min (a + b) (2 ^ 64 - 1)

-- the changes of cells since the mark, in all parts
abbrev pub writes_in : Machine → ℕ
writes_in m = capped (capped (capped (capped (capped (capped (writes_of m.trail.undo) (writes_of m.flow.threads.trail.undo)) (writes_of m.flow.stack.trail.undo)) (writes_of m.flow.choices.trail.undo))
    (writes_of m.shared.globals.trail.undo)) (writes_of m.shared.counts.trail.undo)) (writes_of m.output.trail.undo)

abbrev pub noted_by : {E : Type 0} → TrailView E → ℕ
noted_by t = length (trail_of t.undo)

-- the pairs of all parts
abbrev pub pairs_in : Machine → ℕ
pairs_in m = capped (capped (capped (capped (capped (capped (noted_by m.trail) (noted_by m.flow.threads.trail)) (noted_by m.flow.stack.trail)) (noted_by m.flow.choices.trail))
    (noted_by m.shared.globals.trail)) (noted_by m.shared.counts.trail)) (noted_by m.output.trail)

-- ---- room

-- how many changes can be noted without memory, in whichever part
abbrev pub room_in : Machine → ℕ
room_in m = min (min (min (min (min (min m.trail.room m.flow.threads.trail.room) m.flow.stack.trail.room) m.flow.choices.trail.room) m.shared.globals.trail.room)
    m.shared.counts.trail.room) m.output.trail.room

-- nothing is noted in any part, and none has less room
abbrev pub KeepsTrails : Machine → Machine → Type 0
KeepsTrails old new = KeepsTrail old.trail new.trail × KeepsTrail old.flow.threads.trail new.flow.threads.trail × KeepsTrail old.flow.stack.trail new.flow.stack.trail
    × KeepsTrail old.flow.choices.trail new.flow.choices.trail × KeepsTrail old.shared.globals.trail new.shared.globals.trail
    × KeepsTrail old.shared.counts.trail new.shared.counts.trail × KeepsTrail old.output.trail new.output.trail
