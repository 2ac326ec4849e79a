-- What watchers are told, events as JSON, and sessions with a host, each proved by computation (docs/HOST.md, "Telling").
use Rattle.std.specs.Prelude.{◌≡◌, ◌-◌, ◌^◌, ℕ, pos, List, [], ◌∷◌, bytes_eq, refl, codes, Bool, true, false, Option, Some, None}
use Rattle.std.proofs.Common.{inl, inr, ap, arith}
use Rattle.std.specs.Fmt.{digits}
use Rattle.serde_json.proofs.OnLiterals.{serde_json_on_literals}
use Rattle.serde_json.specs.Written.{compact_text}
use Rattle.ink_model.specs.Examples.Basics.{an_opening, declaring, stays, through_line}
use Rattle.ink_model.specs.Examples.CallStories.{does, story}
use Rattle.ink_model.specs.Examples.Host.{external, host}
use Rattle.ink_model.specs.Host.Bindings.{Bindings}
use Rattle.ink_model.specs.Host.Events.{after, calls, event_data}
use Rattle.ink_model.specs.Host.Told.{ToldAs, saws, told}
use Rattle.ink_model.specs.Memory.Refusals.{CallsAt, given_asks}
use Rattle.ink_model.specs.Protocol.Answer.{Acts, Breaks, answer}
use Rattle.ink_model.specs.Protocol.Passage.{passage}
use Rattle.ink_model.specs.Protocol.Session.{Restart, Serves, Session, Set, ending_asks, telling}
use Rattle.ink_model.specs.Protocol.State.{State, Broken, Ready}
use Rattle.ink_model.specs.Run.Configuration.{Configuration, begun, fresh_at, moved, put_at, settled, start, with_globals, with_safe}
use Rattle.ink_model.specs.Run.Effect.{fields_of, with_mode}
use Rattle.ink_model.specs.Run.Entered.{entered_places, passed_places}
use Rattle.ink_model.specs.Run.Flows.{one_flow}
use Rattle.ink_model.specs.Run.Moments.{Kept, Made, Stopped, cut_off, moment, run, through}
use Rattle.ink_model.specs.Run.Opening.{opened}
use Rattle.ink_model.specs.Run.Place.{content_place, next_place}
use Rattle.ink_model.specs.Run.Step.{step}
use Rattle.ink_model.specs.Story.Tree.{StoryTree, leaf}
use Rattle.ink_model.specs.Text.Clean.{clean}
use Rattle.ink_model.specs.Variables.Store.{Values, store}
use Rattle.ink_model.specs.declared.content.Control.TheVariants as control
use Rattle.ink_model.specs.declared.content.Leaf.TheVariants as leaves
use Rattle.ink_model.specs.declared.fault.Fault.TheVariants as fault
use Rattle.ink_model.specs.declared.host.Change.{Change}
use Rattle.ink_model.specs.declared.host.Event.{Event}
use Rattle.ink_model.specs.declared.host.Event.TheVariants as event
use Rattle.ink_model.specs.declared.host.Given.{Given}
use Rattle.ink_model.specs.declared.host.Given.TheVariants as given
use Rattle.ink_model.specs.declared.place.Part.TheVariants.{Index}
use Rattle.ink_model.specs.declared.value.Value.{Value}
use Rattle.ink_model.specs.declared.value.Value.TheVariants as value

-- ---- globals

abbrev a : Value → List ℕ × Value
a v = (codes "a", v)

abbrev b : Value → List ℕ × Value
b v = (codes "b", v)

abbrev number : ℕ → Value
number n = value.Int (pos n)

abbrev changed : List ℕ × Value → Change
changed e = record { name = e.0; value = e.1 }

-- all is watched, or `a` alone
abbrev all : List ℕ → Bool
all name = true

abbrev only_a : List ℕ → Bool
only_a name = bytes_eq name (codes "a")

-- ---- what is told

another_value : told all (a (number 1) ∷ []) (a (number 2) ∷ []) ≡ changed (a (number 2)) ∷ []
another_value = refl

-- only the values at the start and the end are looked at: one that came back is not told
a_value_that_came_back : told all (a (number 1) ∷ []) (store (codes "a") (number 1) (store (codes "a") (number 2) (a (number 1) ∷ []))) ≡ []
a_value_that_came_back = refl

not_watched : told only_a (a (number 1) ∷ b (number 1) ∷ []) (a (number 1) ∷ b (number 2) ∷ []) ≡ []
not_watched = refl

-- 1, true, and the texts of both are four values
another_kind : told all (a (number 1) ∷ []) (a (value.Bool true) ∷ []) ≡ changed (a (value.Bool true)) ∷ []
another_kind = refl

a_text_of_the_same_look : told all (a (number 1) ∷ []) (a (value.Text (codes "1")) ∷ []) ≡ changed (a (value.Text (codes "1"))) ∷ []
a_text_of_the_same_look = refl

-- in the order in which they were declared, whichever was assigned first
in_order : told all (b (number 1) ∷ a (number 1) ∷ []) (store (codes "b") (number 3) (store (codes "a") (number 2) (b (number 1) ∷ a (number 1) ∷ [])))
    ≡ changed (b (number 3)) ∷ changed (a (number 2)) ∷ []
in_order = refl

-- one that was absent is told with whatever value it has
newly_declared : told only_a [] (a (number 0) ∷ []) ≡ changed (a (number 0)) ∷ []
newly_declared = refl

-- one that is gone, by a restart, is not
gone : told all (a (number 1) ∷ []) [] ≡ []
gone = refl

-- ---- events of it

abbrev two : List Change
two = changed (a (number 1)) ∷ changed (b (number 2)) ∷ []

stamps_go_on : saws 5 two (true ∷ true ∷ [])
    ≡ event.Saw (codes "a") 5 (number 1) ∷ event.Saw (codes "b") 6 (number 2) ∷ []
stamps_go_on = refl

-- a watcher without memory has no event, and takes no stamp
without_memory : saws 5 two (false ∷ true ∷ []) ≡ event.Saw (codes "b") 5 (number 2) ∷ []
without_memory = refl

not_all_were_told : ToldAs 5 two false (event.Saw (codes "b") 5 (number 2) ∷ [])
not_all_were_told = record { answers = false ∷ true ∷ []; one_each = refl; events = refl; all_told = refl }

the_last_stamp : after (2 ^ 64 - 2) ≡ 2 ^ 64 - 1
the_last_stamp = refl

it_stays : after (2 ^ 64 - 1) ≡ 2 ^ 64 - 1
it_stays = refl

-- ---- events as JSON

abbrev roll : Option Given → Event
roll gave = event.Call (codes "roll") (value.Text (codes "d") ∷ value.Bool true ∷ []) gave 0

a_call : compact_text (event_data (roll (Some (given.Text (codes "six"))))) ≡ codes "{\"args\":[\"d\",true],\"call\":\"roll\",\"gave\":\"six\",\"stamp\":0}"
unfolding serde_json_on_literals digits
a_call = refl

a_call_that_gave_void : compact_text (event_data (roll (Some given.Void))) ≡ codes "{\"args\":[\"d\",true],\"call\":\"roll\",\"gave\":null,\"stamp\":0}"
unfolding serde_json_on_literals digits
a_call_that_gave_void = refl

a_refused_call : compact_text (event_data (roll None)) ≡ codes "{\"args\":[\"d\",true],\"call\":\"roll\",\"refused\":true,\"stamp\":0}"
unfolding serde_json_on_literals digits
a_refused_call = refl

a_change : compact_text (event_data (event.Saw (codes "a") 12 (value.Text (codes "b")))) ≡ codes "{\"saw\":\"a\",\"stamp\":12,\"value\":\"b\"}"
unfolding serde_json_on_literals digits
a_change = refl

-- ---- setting

abbrev watching : Bindings
watching = record { functions = host; watches = only_a }

-- a player with these globals, after three events
abbrev with_values : Values → State
with_values vs = record { condition = Ready (start (story [] [] []) vs); aside = one_flow; stamp = 3 }

abbrev next_stamp : State → State
next_stamp st = record st { stamp = 4 }

abbrev a_is_two : List Event
a_is_two = event.Saw (codes "a") 3 (number 2) ∷ []

it_is_told : Set watching a_is_two (codes "a") (Some (given.Int (pos 2))) (with_values (a (number 1) ∷ [])) (Acts a_is_two) (next_stamp (with_values (a (number 2) ∷ [])))
unfolding start fresh_at
it_is_told = inl (record {
  all = true;
  saw = a_is_two;
  telling = record { answers = true ∷ []; one_each = refl; events = refl; all_told = refl };
  events = refl;
  replies = refl;
  leaves = refl;
})

-- the same value is none that is told
it_is_not_told : Set watching [] (codes "a") (Some (given.Int (pos 1))) (with_values (a (number 1) ∷ [])) (Acts []) (with_values (a (number 1) ∷ []))
unfolding start fresh_at
it_is_not_told = inl (record {
  all = true;
  saw = [];
  telling = record { answers = []; one_each = refl; events = refl; all_told = refl };
  events = refl;
  replies = refl;
  leaves = refl;
})

-- its watcher finds no memory: the value stands, and the player is broken
no_memory_to_tell : Set watching [] (codes "a") (Some (given.Int (pos 2))) (with_values (a (number 1) ∷ [])) (Breaks fault.OutOfMemory [])
    (record { condition = Broken fault.OutOfMemory (a (number 2) ∷ []); aside = one_flow; stamp = 3 })
unfolding start fresh_at
no_memory_to_tell = inl (record {
  all = false;
  saw = [];
  telling = record { answers = false ∷ []; one_each = refl; events = refl; all_told = refl };
  events = refl;
  replies = refl;
  leaves = refl;
})

-- ---- beginning anew

abbrev watching_x : Bindings
watching_x = record { functions = host; watches = λ name. bytes_eq name (codes "x") }

abbrev was_three : State
was_three = record { condition = Broken fault.Divide ((codes "x", number 3) ∷ []); aside = one_flow; stamp = 8 }

-- told of what has another value than `get` read of the broken player; stamps go on
told_anew : Restart declaring watching_x (event.Saw (codes "x") 8 (number 1) ∷ []) was_three (Acts (event.Saw (codes "x") 8 (number 1) ∷ []))
    (record { condition = Ready (start declaring ((codes "x", number 1) ∷ [])); aside = one_flow; stamp = 9 })
unfolding start fresh_at
told_anew = inl (rw an_opening (inl (record {
  all = true;
  saw = event.Saw (codes "x") 8 (number 1) ∷ [];
  telling = record { answers = true ∷ []; one_each = refl; events = refl; all_told = refl };
  events = refl;
  replies = refl;
  leaves = refl;
})))

-- ---- a session: `roll` is called, and what it gives is assigned to `a`

abbrev rolling : StoryTree
rolling = story (does control.BeginEval ∷ external (codes "roll") 0 ∷ leaf (leaves.Assign (codes "a")) ∷ does control.EndEval ∷ []) [] []

abbrev no : Values
no = a (value.Text (codes "no")) ∷ []

abbrev six : List (Option Given)
six = Some (given.Text (codes "six")) ∷ []

abbrev one_call : List Made
one_call = record { name = codes "roll"; arguments = []; gave = Some (given.Text (codes "six")) } ∷ []

abbrev its_events : List Event
its_events = event.Call (codes "roll") [] (Some (given.Text (codes "six"))) 0 ∷ event.Saw (codes "a") 1 (value.Text (codes "six")) ∷ []

abbrev rolling_end : Configuration
rolling_end = with_globals (a (value.Text (codes "six")) ∷ []) (with_safe true (put_at None (moved (Index 0 ∷ Index 3 ∷ []) (Some (Index 1 ∷ [])) (start rolling no))))

abbrev rolling_run : moment rolling host (start rolling no) six 5 ≡ Stopped rolling_end [] one_call
unfolding run step start fresh_at content_place next_place passed_places entered_places
rolling_run = refl

abbrev rolling_through : through rolling host (start rolling no) six ≡ Stopped rolling_end [] one_call
unfolding start fresh_at
rolling_through = ap cut_off (stays rolling host (begun (start rolling no)) rolling_end 5 999995 [] six one_call rolling_run)

abbrev rolled : State
rolled = record { condition = Ready (settled rolling_end); aside = one_flow; stamp = 2 }

-- calls come first, and told changes at the end
call_and_change : Session rolling watching its_events (codes "through" ∷ []) (opened (start rolling no))
    (codes "{\"choices\":[],\"events\":[{\"args\":[],\"call\":\"roll\",\"gave\":\"six\",\"stamp\":0},{\"saw\":\"a\",\"stamp\":1,\"value\":\"six\"}],\"loose\":false,\"more\":false,\"tags\":[],\"text\":\"\"}\n") rolled
unfolding Serves start fresh_at settled passage answer serde_json_on_literals digits clean
call_and_change = (
  telling rolling_end its_events,
  rolled,
  [],
  its_events,
  [],
  refl,
  rw through_line (inl (
    one_call,
    inl (
      Kept rolling_end,
      rw rolling_through refl,
      inl (record {
        all = true;
        saw = event.Saw (codes "a") 1 (value.Text (codes "six")) ∷ [];
        telling = record { answers = true ∷ []; one_each = refl; events = refl; all_told = refl };
        events = refl;
        replies = refl;
        leaves = refl;
      }),
    ),
  )),
  refl,
  (refl, refl, refl),
)

-- at the call
abbrev moved_to_the_call : Configuration
moved_to_the_call = with_mode true (moved (Index 0 ∷ Index 0 ∷ []) (Some (Index 0 ∷ Index 1 ∷ [])) (start rolling no))

-- memory was refused right after a call: its event stays, and nobody is told
abbrev after_the_call : CallsAt rolling host (begun (start rolling no)) one_call (moved_to_the_call)
unfolding run step start fresh_at content_place next_place passed_places entered_places
after_the_call = record {
  steps = 1;
  within = omega arith;
  before = [];
  got_there = refl;
  name = codes "roll";
  arguments = [];
  given = given.Text (codes "six");
  fields = fields_of moved_to_the_call;
  calling = moved_to_the_call;
  wants = refl;
  calls = refl;
  asking = refl;
}

-- an answer asks for memory where it is a text, and any other only where it takes the place of no argument
abbrev asks_with : List Value → Option Given → Bool
asks_with arguments gave = given_asks arguments (fields_of moved_to_the_call) gave

a_text_asks : asks_with (number 1 ∷ []) (Some (given.Text (codes "six"))) ≡ true
a_text_asks = refl

an_integer_does_not : asks_with (number 1 ∷ []) (Some (given.Int (pos 6))) ≡ false
an_integer_does_not = refl

but_without_arguments : asks_with [] (Some (given.Int (pos 6))) ≡ true
unfolding start fresh_at
but_without_arguments = refl

nor_does_a_refusal : asks_with [] None ≡ false
nor_does_a_refusal = refl

-- the end of this run asks for memory to tell of `a`, and where that is as it was for nothing
the_end_asks : ending_asks watching no rolling_end ≡ true
unfolding start fresh_at
the_end_asks = refl

the_same_end_does_not : ending_asks watching (a (value.Text (codes "six")) ∷ []) rolling_end ≡ false
unfolding start fresh_at
the_same_end_does_not = refl

abbrev out_of_memory : State
out_of_memory = record { condition = Broken fault.OutOfMemory no; aside = one_flow; stamp = 1 }

short_of_memory : Session rolling watching (calls 0 one_call) (codes "through" ∷ []) (opened (start rolling no))
    (codes "{\"events\":[{\"args\":[],\"call\":\"roll\",\"gave\":\"six\",\"stamp\":0}],\"fault\":\"OutOfMemory\"}\n") out_of_memory
unfolding Serves start fresh_at answer serde_json_on_literals digits
short_of_memory = (
  Breaks fault.OutOfMemory (calls 0 one_call),
  out_of_memory,
  [],
  calls 0 one_call,
  [],
  refl,
  rw through_line (inl (one_call, inr (no, record { reached = moved_to_the_call; got_there = inr after_the_call; leaves = refl }, (refl, refl, refl)))),
  refl,
  (refl, refl, refl),
)
