-- Which containers are entered by variables, calls and returns, each proved by computation (docs/RUNNING.md, "Visits").
use Rattle.std.specs.Prelude.{◌≡◌, ℕ, List, [], ◌∷◌, refl, codes, true, false}
use Rattle.ink_model.specs.Examples.CallStories.{after, after_with, asks_after, calls, does, says, tunnels}
use Rattle.ink_model.specs.Examples.CountStories.{diverts, diverts_by, in_knot, knot, target_of, visits_after, with_knot}
use Rattle.ink_model.specs.Host.Bindings.{nothing_bound}
use Rattle.ink_model.specs.Memory.Asks.{asks}
use Rattle.ink_model.specs.Run.Configuration.{start, fresh_at, with_counts}
use Rattle.ink_model.specs.Run.Entered.{entered_places, passed_places}
use Rattle.ink_model.specs.Run.Moments.{run}
use Rattle.ink_model.specs.Run.Place.{content_place, landed, next_place}
use Rattle.ink_model.specs.Run.Step.{step}
use Rattle.ink_model.specs.Story.Path.{read_path, target}
use Rattle.ink_model.specs.Story.Tree.{StoryTree}
use Rattle.ink_model.specs.Text.Mark.{cut}
use Rattle.ink_model.specs.Values.Value.{is_true, printed}
use Rattle.ink_model.specs.Variables.Store.{Values}
use Rattle.ink_model.specs.declared.content.Control.TheVariants as control
use Rattle.ink_model.specs.declared.content.Destination.TheVariants as destination
use Rattle.ink_model.specs.declared.place.Part.{Part}
use Rattle.ink_model.specs.declared.value.Value.TheVariants as value

-- ---- by a variable, or given to `->->`

abbrev by_v : StoryTree
by_v = with_knot 1 (diverts_by (codes "v") ∷ []) (says (codes "x") ∷ [])

abbrev v_is : List Part → Values
v_is = λ parts. (codes "v", value.Target (record { relative = false; parts = parts })) ∷ []

-- a landing on a container by a variable enters none around
by_a_variable : visits_after (after_with 1 (v_is knot) by_v) ≡ []
unfolding run step start fresh_at content_place passed_places entered_places next_place read_path target landed cut printed is_true asks
by_a_variable = refl

-- but the step there enters the container itself
and_then_a_step : visits_after (after_with 2 (v_is knot) by_v) ≡ (knot, 1) ∷ []
unfolding run step start fresh_at content_place passed_places entered_places next_place read_path target landed cut printed is_true asks
and_then_a_step = refl

-- by a path that ends in an index it enters those around
by_a_variable_and_an_index : visits_after (after_with 1 (v_is (in_knot 0)) by_v) ≡ (knot, 1) ∷ []
unfolding run step start fresh_at content_place passed_places entered_places next_place read_path target landed cut printed is_true asks
by_a_variable_and_an_index = refl

abbrev back_to : List ℕ → StoryTree
back_to = λ path. with_knot 1 (tunnels (destination.Path (codes "k")) ∷ []) (does control.BeginEval ∷ target_of path ∷ does control.EndEval ∷ does control.ReturnTunnel ∷ [])

-- the same of a target that is given to `->->`
back_to_a_name : visits_after (after 5 (back_to (codes "k"))) ≡ (knot, 1) ∷ []
unfolding run step start fresh_at content_place passed_places entered_places next_place read_path target landed cut printed is_true asks
back_to_a_name = refl

-- flow comes from the tunnel's call, which is outside the knot
back_to_an_index : visits_after (after 5 (back_to (codes "k.0"))) ≡ (knot, 2) ∷ []
unfolding run step start fresh_at content_place passed_places entered_places next_place read_path target landed cut printed is_true asks
back_to_an_index = refl

-- ---- calls, returns and threads

a_call_enters : visits_after (after 1 (with_knot 1 (calls (codes "k") ∷ []) (says (codes "x") ∷ []))) ≡ (knot, 1) ∷ []
unfolding run step start fresh_at content_place passed_places entered_places next_place read_path target landed cut printed is_true asks
a_call_enters = refl

-- a function that calls itself was around before
a_call_of_itself : visits_after (after 2 (with_knot 1 (calls (codes "k") ∷ []) (calls (codes "k") ∷ []))) ≡ (knot, 1) ∷ []
unfolding run step start fresh_at content_place passed_places entered_places next_place read_path target landed cut printed is_true asks
a_call_of_itself = refl

-- after a function's end flow comes from the call
called_again : visits_after (after 3 (with_knot 1 (calls (codes "k") ∷ calls (codes "k") ∷ []) (says (codes "x") ∷ []))) ≡ (knot, 2) ∷ []
unfolding run step start fresh_at content_place passed_places entered_places next_place read_path target landed cut printed is_true asks
called_again = refl

-- after a thread's end, from the content after which the thread below goes on
entered_by_two_threads : visits_after (after 4 (with_knot 1 (does control.Thread ∷ diverts (codes "k") ∷ diverts (codes "k") ∷ []) (says (codes "x") ∷ []))) ≡ (knot, 2) ∷ []
unfolding run step start fresh_at content_place passed_places entered_places next_place read_path target landed cut printed is_true asks
entered_by_two_threads = refl

-- ---- where memory is asked for

-- a first visit asks for memory
a_first_visit : asks_after 0 (with_knot 1 (diverts (codes "k") ∷ []) (says (codes "x") ∷ [])) ≡ true
unfolding run step start fresh_at content_place passed_places entered_places next_place read_path target landed cut printed is_true asks
a_first_visit = refl

-- a landing that counts nothing asks for none
nothing_counted : asks_after 0 (with_knot 0 (diverts (codes "k") ∷ []) (says (codes "x") ∷ [])) ≡ false
unfolding run step start fresh_at content_place passed_places entered_places next_place read_path target landed cut printed is_true asks
nothing_counted = refl

-- nor does one that counts another visit
a_second_visit : asks (with_knot 1 (diverts (codes "k") ∷ []) (says (codes "x") ∷ [])) nothing_bound (with_counts (record { visits = (knot, 1) ∷ []; turns = [] }) (start (with_knot 1 (diverts (codes "k") ∷ []) (says (codes "x") ∷ [])) [])) ≡ false
unfolding run step start fresh_at content_place passed_places entered_places next_place read_path target landed cut printed is_true asks
a_second_visit = refl
