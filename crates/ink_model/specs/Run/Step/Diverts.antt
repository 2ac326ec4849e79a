-- The effects of diverts (docs/RUNNING.md, "Diverts").
use Rattle.std.specs.Prelude.{ℕ, List, [], Bool, true, false, if◌then◌else◌, Option, Some, None, unwrap_or, option_map, Result, Ok, Err, ok_or}
use Rattle.ink_model.specs.Run.Effect.{Context, Fields, Effect, Landing, Moves, Lands, or_fault}
use Rattle.ink_model.specs.Story.Acceptance.{lands}
use Rattle.ink_model.specs.Story.Path.{ends_in_index, read_path, target}
use Rattle.ink_model.specs.Story.Tree.{StoryTree}
use Rattle.ink_model.specs.Values.Stack.{popped}
use Rattle.ink_model.specs.Values.Value.{is_true}
use Rattle.ink_model.specs.Variables.Access.{read}
use Rattle.ink_model.specs.Variables.Store.{Values}
use Rattle.ink_model.specs.declared.content.Destination.{Destination}
use Rattle.ink_model.specs.declared.content.Destination.TheVariants as destination
use Rattle.ink_model.specs.declared.fault.Fault.{Fault}
use Rattle.ink_model.specs.declared.fault.Fault.TheVariants.{BadTarget, StackEmpty}
use Rattle.ink_model.specs.declared.place.Part.{Part}
use Rattle.ink_model.specs.declared.place.Path.{Path}
use Rattle.ink_model.specs.declared.value.Value.{Value}
use Rattle.ink_model.specs.declared.value.Value.TheVariants as value

-- the path that a text spells; in an accepted story it spells one
abbrev pub path_of : List ℕ → Path
path_of text = unwrap_or (read_path text) (record { relative = false; parts = [] })

-- A target that was read from a variable, or given to `->->`, leads to the very place that it names. Containers around that are
-- entered only where its path ends in an index.
abbrev pub landing_by : StoryTree → Value → Option Landing
landing_by s (value.Target path) = option_map (λ q. record { place = q; enters = ends_in_index path.parts }) (target s [] path)
landing_by s v = None

abbrev pub led_by : StoryTree → Result Value Fault → Result Landing Fault
led_by s (Ok v) = ok_or (landing_by s v) BadTarget
led_by s (Err f) = Err f

-- where a divert at a place leads: by a written path, or by what a variable is read as
abbrev pub led_to : StoryTree → List Part → Context → Destination → Values → Result Landing Fault
led_to s p seen (destination.Path text) globals = ok_or (option_map (λ q. record { place = q; enters = true }) (lands s p text)) BadTarget
led_to s p seen (destination.Variable name) globals = led_by s (read globals seen.thread name)

abbrev pub divert_to : StoryTree → List Part → Context → Destination → Fields → Effect
divert_to s p seen to f = or_fault (led_to s p seen to f.globals) (λ l. Lands l f)

-- what was found out, with the fields that it leaves
abbrev pub leaving_fields : {A : Type 0} → Fields → Result A Fault → Result (A × Fields) Fault
leaving_fields f (Ok a) = Ok (a, f)
leaving_fields f (Err g) = Err g

abbrev pub truth_on : Option (Value × List Value) → Fields → Result (Bool × Fields) Fault
truth_on None f = Err StackEmpty
truth_on (Some r) f = leaving_fields (record f { stack = r.1 }) (is_true r.0)

-- whether content is performed: a condition is popped and looked at before all else
abbrev pub condition : Bool → Fields → Result (Bool × Fields) Fault
condition conditional f = if conditional then truth_on (popped f.stack) f else Ok (true, f)

-- where it is false flow moves on
abbrev pub where_true : Bool → Fields → (Fields → Effect) → Effect
where_true conditional f so = or_fault (condition conditional f) (λ r. if r.0 then so r.1 else Moves r.1)

abbrev pub divert : StoryTree → List Part → Context → Destination → Bool → Fields → Effect
divert s p seen to conditional f = where_true conditional f (divert_to s p seen to)
