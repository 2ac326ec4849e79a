-- A session of `continue` commands, to the byte: two lines, and then flow has stopped; and one that finds no memory past a newline.
use Rattle.std.specs.Prelude.{◌≡◌, ℕ, pos, List, [], ◌∷◌, ◌++◌, refl, codes, true, false, Some, None}
use Rattle.std.proofs.Common.{inl, inr, lit≤, subst, arith}
use Rattle.serde_json.proofs.OnLiterals.{serde_json_on_literals}
use Rattle.ink_model.specs.Run.Ahead.{writes_words}
use Rattle.ink_model.specs.Protocol.Answer.{Tells, Refuses, Breaks, answer}
use Rattle.ink_model.specs.Examples.CallStories.{does, says, story}
use Rattle.ink_model.specs.Text.Clean.{clean}
use Rattle.ink_model.specs.Run.Configuration.{Configuration, begun, fresh_at, moved, put_at, settled, start, with_safe}
use Rattle.ink_model.specs.Run.Effect.{with_page}
use Rattle.ink_model.specs.Run.Entered.{entered_places, passed_places}
use Rattle.ink_model.specs.Examples.Basics.{continue_line}
use Rattle.ink_model.specs.Run.Flows.{one_flow}
use Rattle.ink_model.specs.Host.Bindings.{no_objects, nothing_bound}
use Rattle.ink_model.specs.Run.Line.{EndsLine, is_call}
use Rattle.ink_model.specs.Text.Mark.{cut}
use Rattle.ink_model.specs.Memory.Refusals.{LooksFrom}
use Rattle.ink_model.specs.Run.Opening.{opened}
use Rattle.ink_model.specs.Protocol.Passage.{passage}
use Rattle.ink_model.specs.Run.Place.{content_place, next_place}
use Rattle.ink_model.specs.Run.Moments.{At, Stopped, Kept, moment}
use Rattle.ink_model.specs.Protocol.Session.{Continue, Serves, Session}
use Rattle.ink_model.specs.Protocol.State.{State, Ready, Broken}
use Rattle.ink_model.specs.Run.Step.{step}
use Rattle.ink_model.specs.Variables.Store.{Values}
use Rattle.ink_model.specs.Story.Tree.{StoryTree, leaf}
use Rattle.ink_model.specs.declared.content.Control.TheVariants as control
use Rattle.ink_model.specs.declared.content.Leaf.TheVariants as leaves
use Rattle.ink_model.specs.declared.fault.Fault.TheVariants as fault
use Rattle.ink_model.specs.declared.fault.Refusal.TheVariants as refusal
use Rattle.ink_model.specs.declared.limits.TheConstants.{MAX_STEPS}
use Rattle.ink_model.specs.declared.mark.Mark.{Mark}
use Rattle.ink_model.specs.declared.mark.Mark.TheVariants.{Text, Newline}
use Rattle.ink_model.specs.declared.place.Part.TheVariants.{Index}
use Rattle.ink_model.specs.declared.value.Value.TheVariants as value
use Rattle.ink_line.specs.Look.{Knows, Seeking, Looking, Over, search}
use Rattle.ink_line.specs.Rows.{Lines}
use Rattle.ink_line.proofs.Found.{knows, over_is}

-- ---- a story of two lines, and then `done`

abbrev two : StoryTree
two = story (says (codes "a") ∷ leaf leaves.Newline ∷ says (codes "b") ∷ leaf leaves.Newline ∷ []) [] []

abbrev showing : List Mark → Configuration → Configuration
showing marks c = with_page (record { line = marks; sections = []; next_enter = 0 }) c

-- as it stands after the first line, and after the second
abbrev after_a : Configuration
after_a = showing (Text (codes "a") ∷ Newline ∷ []) (moved (Index 0 ∷ Index 1 ∷ []) (Some (Index 0 ∷ Index 2 ∷ [])) (start two []))

abbrev after_b : Configuration
after_b = with_safe true (put_at None (showing (Text (codes "b") ∷ Newline ∷ []) (moved (Index 0 ∷ Index 3 ∷ []) (Some (Index 1 ∷ [])) (settled after_a))))

first_search : search two nothing_bound 3 (Seeking (At (begun (start two [])) [] [])) ≡ Over (At after_a [] [])
unfolding search step start fresh_at content_place next_place passed_places entered_places cut
first_search = refl

second_search : search two nothing_bound 3 (Seeking (At (begun (settled after_a)) [] [])) ≡ Over (Stopped after_b [] [])
unfolding search step start fresh_at content_place next_place passed_places entered_places cut settled
second_search = refl

first_line : EndsLine two nothing_bound (start two []) [] (Kept after_a)
first_line = (At after_a [] [], over_is two nothing_bound MAX_STEPS (begun (start two [])) [] 3 (At after_a [] []) (lit≤ tt) first_search, refl)

second_line : EndsLine two nothing_bound (settled after_a) [] (Kept after_b)
second_line = (Stopped after_b [] [], over_is two nothing_bound MAX_STEPS (begun (settled after_a)) [] 3 (Stopped after_b [] []) (lit≤ tt) second_search, refl)

-- both are a row
a_row : Lines two nothing_bound (start two []) ([] ∷ [] ∷ []) (settled after_b)
a_row = (after_a, first_line, (after_b, second_line, refl))

-- ---- a story that sets a global past its first newline

abbrev sets : StoryTree
sets = story (says (codes "a") ∷ leaf leaves.Newline ∷ does control.BeginEval ∷ leaf (leaves.Int (pos 2)) ∷ leaf (leaves.Assign (codes "x")) ∷ does control.EndEval ∷ does control.Nop ∷ says (codes "b") ∷ []) [] []

abbrev x_is : ℕ → Values
x_is n = (codes "x", value.Int (pos n)) ∷ []

abbrev behind_a : Configuration
behind_a = showing (Text (codes "a") ∷ Newline ∷ []) (moved (Index 0 ∷ Index 1 ∷ []) (Some (Index 0 ∷ Index 2 ∷ [])) (start sets (x_is 1)))

abbrev past_a : Configuration
past_a = showing (Text (codes "a") ∷ Newline ∷ []) (moved (Index 0 ∷ Index 5 ∷ []) (Some (Index 0 ∷ Index 6 ∷ [])) (start sets (x_is 2)))

-- the look has come past it, and the step there calls nothing
six_steps : search sets nothing_bound 6 (Seeking (At (begun (start sets (x_is 1))) [] [])) ≡ Looking (At behind_a [] []) 1 (At past_a [] [])
unfolding search step start fresh_at content_place next_place passed_places entered_places cut
six_steps = refl

says_more : is_call (step sets nothing_bound past_a) ≡ false
unfolding step start fresh_at content_place next_place passed_places entered_places cut
says_more = refl

says_no_words : writes_words sets past_a ≡ false
unfolding start fresh_at content_place next_place passed_places entered_places cut
says_no_words = refl

-- so memory may be refused there; then the command faults, and x is as it was behind the newline
looked_at : Knows sets nothing_bound MAX_STEPS (moment sets nothing_bound (begun (start sets (x_is 1))) []) 6 (Looking (At behind_a [] []) 1 (At past_a [] []))
    → LooksFrom sets nothing_bound (begun (start sets (x_is 1))) [] behind_a
looked_at (p, opens, same, first, kept, at) = record {
  steps = 6;
  within = omega arith;
  reached = past_a;
  got_there = at;
  calls_nothing = says_more;
  writes_none = says_no_words;
  step = p;
  opens = opens;
  first = first;
  goes_back = kept;
}

looks : LooksFrom sets nothing_bound (begun (start sets (x_is 1))) [] behind_a
looks = looked_at (subst (Knows sets nothing_bound MAX_STEPS (moment sets nothing_bound (begun (start sets (x_is 1))) []) 6) six_steps
    (knows sets nothing_bound MAX_STEPS (begun (start sets (x_is 1))) [] 6 (lit≤ tt)))

short_of_memory : Continue sets no_objects [] (opened (start sets (x_is 1))) (Breaks fault.OutOfMemory [])
    (record { condition = Broken fault.OutOfMemory (x_is 1); aside = one_flow; stamp = 0 })
unfolding start fresh_at
short_of_memory = ([], inr (x_is 1, record { kept = behind_a; got_there = inr (inr looks); leaves = refl }, (refl, refl, refl)))

-- ---- the session

abbrev a_text : List ℕ
a_text = codes "{\"choices\":[],\"events\":[],\"loose\":false,\"more\":true,\"tags\":[],\"text\":\"a\\n\"}\n"

abbrev b_text : List ℕ
b_text = codes "{\"choices\":[],\"events\":[],\"loose\":false,\"more\":false,\"tags\":[],\"text\":\"b\\n\"}\n"

abbrev cannot : List ℕ
cannot = codes "{\"refused\":\"CannotContinue\"}\n"

first_answer : answer (Tells (passage after_a)) ≡ a_text
unfolding answer serde_json_on_literals passage start fresh_at clean
first_answer = refl

second_answer : answer (Tells (passage after_b)) ≡ b_text
unfolding answer serde_json_on_literals passage start fresh_at settled clean
second_answer = refl

no_answer : answer (Refuses refusal.CannotContinue) ≡ cannot
unfolding answer serde_json_on_literals
no_answer = refl

abbrev at_rest : Configuration → State
at_rest c = record { condition = Ready (settled c); aside = one_flow; stamp = 0 }

a_session : Session two no_objects [] (codes "continue" ∷ codes "continue" ∷ codes "continue" ∷ []) (opened (start two [])) (a_text ++ (b_text ++ cannot)) (at_rest after_b)
unfolding Serves start fresh_at settled passage
a_session = (
  Tells (passage after_a),
  at_rest after_a,
  b_text ++ cannot,
  [],
  [],
  refl,
  rw continue_line (inl ([], inl (Kept after_a, first_line, inl (record { all = true; saw = []; telling = record { answers = []; one_each = refl; events = refl; all_told = refl }; events = refl; replies = refl; leaves = refl })))),
  rw first_answer refl,
  (
    Tells (passage after_b),
    at_rest after_b,
    cannot,
    [],
    [],
    refl,
    rw continue_line (inl ([], inl (Kept after_b, second_line, inl (record { all = true; saw = []; telling = record { answers = []; one_each = refl; events = refl; all_told = refl }; events = refl; replies = refl; leaves = refl })))),
    rw second_answer refl,
    (
      Refuses refusal.CannotContinue,
      at_rest after_b,
      [],
      [],
      [],
      refl,
      rw continue_line (inl (refl, (refl, refl))),
      rw no_answer refl,
      (refl, refl, refl),
    ),
  ),
)
