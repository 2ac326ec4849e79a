-- The effects of questions for visits and turns (docs/RUNNING.md, "Questions for counts").
use Rattle.std.specs.Prelude.{ℕ, ℤ, ◌-ℤ◌, pos, negsuc, List, reverse, if◌then◌else◌, Result, Ok, Err}
use Rattle.ink_model.specs.Run.Effect.{Context, Fields, Effect, or_else, or_fault, popping, pushing}
use Rattle.ink_model.specs.Run.Entered.{flags_at}
use Rattle.ink_model.specs.Run.Step.Diverts.{landing_by}
use Rattle.ink_model.specs.Story.Acceptance.{leads}
use Rattle.ink_model.specs.Story.Path.{above, is_container}
use Rattle.ink_model.specs.Story.Tree.{StoryTree, at}
use Rattle.ink_model.specs.Variables.Counts.{turns_since, visits_of}
use Rattle.ink_model.specs.Variables.Rows.{place_order}
use Rattle.ink_model.specs.declared.fault.Fault.{Fault}
use Rattle.ink_model.specs.declared.fault.Fault.TheVariants.{BadTarget, NotCounted}
use Rattle.ink_model.specs.declared.place.Part.{Part}
use Rattle.ink_model.specs.declared.value.Value.TheVariants as value

module _ (s : StoryTree) (seen : Context) where
  -- ---- answers

  -- the visits of the container at a place
  abbrev pub visits_at : List Part → Result ℤ Fault
  visits_at q = visits_of place_order q (flags_at (at s q)) seen.counts

  -- the turns since it was entered
  abbrev pub turns_at : List Part → Result ℤ Fault
  turns_at q = turns_since place_order q (flags_at (at s q)) seen.turn seen.counts

  -- what is no container was never entered
  abbrev pub visits_there : List Part → Result ℤ Fault
  visits_there q = if is_container (at s q) then visits_at q else Ok (pos 0)

  abbrev pub turns_there : List Part → Result ℤ Fault
  turns_there q = if is_container (at s q) then turns_at q else Ok (negsuc 0)

  abbrev pub less_one : Result ℤ Fault → Result ℤ Fault
  less_one (Ok z) = Ok (z -ℤ pos 1)
  less_one (Err f) = Err f

  -- ---- effects

  abbrev pub pushing_count : Result ℤ Fault → Fields → Effect
  pushing_count r f = or_fault r (λ z. pushing (value.Int z) f)

  -- the visits of the container to which the path of a content leads
  abbrev pub push_count : List Part → List ℕ → Fields → Effect
  push_count p text f = or_else NotCounted (leads s p text) (λ q. pushing_count (visits_at q) f)

  -- the visits of the container that holds a content, without the one that is going on
  abbrev pub push_visit : List Part → Fields → Effect
  push_visit p f = or_else NotCounted (above (reverse p)) (λ q. pushing_count (less_one (visits_at q)) f)

  abbrev pub push_turn : Fields → Effect
  push_turn f = pushing (value.Int (pos seen.turn)) f

  -- what is asked of the very place that a popped target names
  abbrev pub asking : (List Part → Result ℤ Fault) → Fields → Effect
  asking so f = popping f (λ v left. or_else BadTarget (landing_by s v) (λ to. pushing_count (so to.place) left))

  abbrev pub push_turns : Fields → Effect
  push_turns f = asking turns_there f

  abbrev pub push_read_count : Fields → Effect
  push_read_count f = asking visits_there f
