-- Command lines, answers and sessions with choices and jumps, each proved by computation (docs/PROTOCOL.md).
use Rattle.std.specs.Prelude.{◌≡◌, ℕ, List, [], ◌∷◌, ◌++◌, refl, codes, true, false, Some, None, Ok}
use Rattle.std.proofs.Common.{inl, inr}
use Rattle.std.proofs.lemmas.Str.{is_utf8-from_IsUtf8}
use Rattle.std.specs.Char.{encode_utf8}
use Rattle.serde_json.proofs.OnLiterals.{serde_json_on_literals}
use Rattle.ink_model.specs.Examples.CallStories.{does, says}
use Rattle.ink_model.specs.Examples.ChoiceStories.{shown_as}
use Rattle.ink_model.specs.Examples.CountStories.{in_knot, knot, with_knot}
use Rattle.ink_model.specs.Flow.Frames.{base_threads}
use Rattle.ink_model.specs.Host.Bindings.{no_objects}
use Rattle.ink_model.specs.Protocol.Answer.{Acts, Refuses, Tells, answer}
use Rattle.ink_model.specs.Protocol.Command as command
use Rattle.ink_model.specs.Protocol.Command.{command_of, command_word}
use Rattle.ink_model.specs.Protocol.Passage.{passage}
use Rattle.ink_model.specs.Protocol.Session.{Serves, Session}
use Rattle.ink_model.specs.Protocol.State.{State, Broken, Ready}
use Rattle.ink_model.specs.Protocol.Turns.{Choose, Jump, ShowsChoices}
use Rattle.ink_model.specs.Run.Configuration.{ChoiceOf, Configuration, fresh_at, put_at, start, with_choices}
use Rattle.ink_model.specs.Run.Entered.{entered_places}
use Rattle.ink_model.specs.Run.Flows.{one_flow}
use Rattle.ink_model.specs.Run.Place.{landed}
use Rattle.ink_model.specs.Story.Path.{read_path, target}
use Rattle.ink_model.specs.Story.Tree.{StoryTree}
use Rattle.ink_model.specs.Text.Clean.{clean}
use Rattle.ink_model.specs.declared.content.Control.TheVariants as control
use Rattle.ink_model.specs.declared.fault.Fault.TheVariants as fault
use Rattle.ink_model.specs.declared.fault.Refusal.TheVariants as refusal
use Rattle.ink_model.specs.declared.place.Part.{Part}
use Rattle.ink_model.specs.declared.place.Part.TheVariants.{Index}

-- ---- command lines

choose_line : command_word (codes "choose 12") ≡ Some (command.Choose 12)
choose_line = refl

zeros_in_front : command_word (codes "choose 007") ≡ Some (command.Choose 7)
zeros_in_front = refl

nine_digits : command_word (codes "choose 999999999") ≡ Some (command.Choose 999999999)
nine_digits = refl

ten_digits : command_word (codes "choose 0000000001") ≡ None
ten_digits = refl

no_number : command_word (codes "choose -1") ≡ None
no_number = refl

no_digit : command_word (codes "choose ") ≡ None
no_digit = refl

jump_line : command_word (codes "jump a.0 b") ≡ Some (command.Jump (codes "a.0 b"))
jump_line = refl

no_path : command_word (codes "jump ") ≡ None
no_path = refl

-- ---- a story that has stopped, with one choice

abbrev story : StoryTree
story = with_knot 3 (does control.Done ∷ []) (says (codes "x") ∷ [])

abbrev choice : ChoiceOf (List Part)
choice = record { text = codes "Go"; tags = codes "t" ∷ []; target = in_knot 0; hidden = false; thread = (base_threads (Some (Index 0 ∷ []))).thread }

abbrev offering : Configuration
offering = with_choices (choice ∷ []) (put_at None (start story []))

abbrev ready : Configuration → State
ready = λ c. record { condition = Ready c; aside = one_flow; stamp = 0 }

abbrev broken : State
broken = record { condition = Broken fault.Divide []; aside = one_flow; stamp = 0 }

-- the knot was entered in the turn that begins, and flow has come from nowhere
abbrev in_the_knot : Configuration
in_the_knot = record {
  flow = record { threads = base_threads (Some (in_knot 0)); stack = []; choices = []; safe = false };
  shared = record { globals = []; counts = record { visits = (knot, 1) ∷ []; turns = (knot, 1) ∷ [] }; turn = 1 };
  page = record { line = []; sections = []; next_enter = 0 };
}

a_choice : Choose story 0 (ready offering) (Acts []) (ready in_the_knot)
unfolding start fresh_at entered_places
a_choice = inl (refl, refl)

-- nothing has changed, the turn among it
not_a_choice : Choose story 1 (ready offering) (Refuses refusal.NotAChoice) (ready offering)
unfolding start fresh_at
not_a_choice = (refl, refl)

-- nor is one while flow goes on
while_flow_goes_on : Choose story 0 (ready (put_at (Some (in_knot 0)) offering)) (Refuses refusal.NotAChoice) (ready (put_at (Some (in_knot 0)) offering))
unfolding start fresh_at
while_flow_goes_on = (refl, refl)

-- the first visit asks for memory; where that is refused nothing has changed
refused_memory : Choose story 0 (ready offering) (Refuses refusal.OutOfMemory) (ready offering)
unfolding start fresh_at entered_places
refused_memory = inr (refl, (refl, refl))

-- a jump is a safe stop first
a_jump : Jump story (codes "k") (ready offering) (Acts []) (ready (record in_the_knot { flow = record in_the_knot.flow { safe = true } }))
unfolding start fresh_at entered_places read_path target landed
a_jump = inl (refl, refl)

no_such_path : Jump story (codes "m") (ready offering) (Refuses refusal.NoSuchPath) (ready offering)
unfolding start fresh_at read_path target landed
no_such_path = (refl, refl)

-- a broken player is refused before all that
broken_before_no_choice : Choose story 7 broken (Refuses (refusal.Broken fault.Divide)) broken
broken_before_no_choice = (refl, refl)

broken_before_no_path : Jump story (codes "m") broken (Refuses (refusal.Broken fault.Divide)) broken
broken_before_no_path = (refl, refl)

-- ---- what is shown

shows_them : ShowsChoices (ready offering) (Ok (shown_as (codes "Go") (codes "t" ∷ []) ∷ []))
unfolding start fresh_at
shows_them = inl refl

none_while_flow_goes_on : ShowsChoices (ready (put_at (Some (in_knot 0)) offering)) (Ok [])
unfolding start fresh_at
none_while_flow_goes_on = inl refl

in_a_passage : answer (Tells (passage offering)) ≡ codes "{\"choices\":[{\"tags\":[\"t\"],\"text\":\"Go\"}],\"events\":[],\"loose\":false,\"more\":false,\"tags\":[],\"text\":\"\"}\n"
unfolding answer serde_json_on_literals passage start fresh_at clean
in_a_passage = refl

-- ---- a session

abbrev refusals : List ℕ
refusals = codes "{\"refused\":\"NotAChoice\"}\n{\"refused\":\"NoSuchPath\"}\n"

abbrev second_choice : command_of (codes "choose 1") ≡ Some (command.Choose 1)
unfolding command_of encode_utf8
second_choice = rw (is_utf8-from_IsUtf8 (codes "choose 1") (codes "choose 1", (refl, refl))) refl

abbrev jump_nowhere : command_of (codes "jump m") ≡ Some (command.Jump (codes "m"))
unfolding command_of encode_utf8
jump_nowhere = rw (is_utf8-from_IsUtf8 (codes "jump m") (codes "jump m", (refl, refl))) refl

abbrev first_choice : command_of (codes "choose 0") ≡ Some (command.Choose 0)
unfolding command_of encode_utf8
first_choice = rw (is_utf8-from_IsUtf8 (codes "choose 0") (codes "choose 0", (refl, refl))) refl

-- refused commands change nothing, and then the choice is there still
a_session : Session story no_objects [] (codes "choose 1" ∷ codes "jump m" ∷ codes "choose 0" ∷ []) (ready offering) (refusals ++ codes "{\"events\":[]}\n") (ready in_the_knot)
unfolding Serves start fresh_at entered_places read_path target landed answer serde_json_on_literals
a_session = (
  Refuses refusal.NotAChoice,
  ready offering,
  codes "{\"refused\":\"NoSuchPath\"}\n{\"events\":[]}\n",
  [],
  [],
  refl,
  rw second_choice (inl (refl, (refl, refl))),
  refl,
  (
    Refuses refusal.NoSuchPath,
    ready offering,
    codes "{\"events\":[]}\n",
    [],
    [],
    refl,
    rw jump_nowhere (inl (refl, (refl, refl))),
    refl,
    (Acts [], ready in_the_knot, [], [], [], refl, rw first_choice (inl (refl, inl (refl, refl))), refl, (refl, refl, refl)),
  ),
)
