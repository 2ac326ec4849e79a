-- Command lines, refusals and sessions with flows, each proved by computation (docs/RUNNING.md, "Flows").
use Rattle.std.specs.Prelude.{◌≡◌, ℕ, zero, suc, ◌+◌, List, [], ◌∷◌, ◌++◌, refl, codes, true, false, pos, Some, None, Ok}
use Rattle.std.proofs.Common.{inl, inr}
use Rattle.std.proofs.lemmas.Str.{is_utf8-from_IsUtf8}
use Rattle.std.specs.Char.{encode_utf8}
use Rattle.serde_json.proofs.OnLiterals.{serde_json_on_literals}
use Rattle.ink_model.specs.Examples.CallStories.{says, story}
use Rattle.ink_model.specs.Host.Bindings.{no_objects}
use Rattle.ink_model.specs.Protocol.Answer.{Acts, Refuses, answer}
use Rattle.ink_model.specs.Protocol.Command as command
use Rattle.ink_model.specs.Protocol.Command.{command_asks, command_of, command_word}
use Rattle.ink_model.specs.Protocol.FlowCommands.{DropsFlow, GoesToFlow, TellsFlows}
use Rattle.ink_model.specs.Protocol.Session.{Serves, Session}
use Rattle.ink_model.specs.Protocol.State.{State, Broken, Ready}
use Rattle.ink_model.specs.Run.Configuration.{Configuration, fresh_at, put_at, start}
use Rattle.ink_model.specs.Run.Flows.{Aside, all_flows, alone, current_name, default_flow, first_flow, is_flow_name, one_flow}
use Rattle.ink_model.specs.Save.Spelling.{old_spelling}
use Rattle.ink_model.specs.Save.Unspelled.{unspelled}
use Rattle.ink_model.specs.Story.Tree.{StoryTree}
use Rattle.ink_model.specs.declared.fault.Fault.TheVariants as fault
use Rattle.ink_model.specs.declared.fault.Refusal.TheVariants as refusal
use Rattle.ink_model.specs.declared.value.Value.TheVariants as value

-- ---- command lines

flow_line : command_word (codes "flow side") ≡ Some (command.Flow (codes "side"))
flow_line = refl

to_no_name : command_word (codes "flow ") ≡ None
to_no_name = refl

to_two_names : command_word (codes "flow a b") ≡ None
to_two_names = refl

drop_line : command_word (codes "drop side") ≡ Some (command.Drop (codes "side"))
drop_line = refl

no_name_to_drop : command_word (codes "drop ") ≡ None
no_name_to_drop = refl

two_names_to_drop : command_word (codes "drop a b") ≡ None
two_names_to_drop = refl

-- a line's name asks for no memory
their_lines_ask_for_none : (name : List ℕ) → command_asks (codes "flow " ++ name) ≡ false
their_lines_ask_for_none name = refl

-- ---- names

the_first_name : is_flow_name default_flow ≡ true
the_first_name = refl

-- a host that links the library may give any text
no_name : is_flow_name [] ≡ false
no_name = refl

with_a_space : is_flow_name (codes "a b") ≡ false
with_a_space = refl

with_a_newline : is_flow_name (codes "a\n") ≡ false
with_a_newline = refl

-- ---- going to a flow

abbrev told : StoryTree
told = story (says (codes "a") ∷ says (codes "b") ∷ []) [] []

-- flow has stopped, and a global has a value
abbrev stopped : Configuration
stopped = put_at None (start told ((codes "x", value.Int (pos 7)) ∷ []))

abbrev with_aside : Configuration → Aside → State
with_aside c aside = record { condition = Ready c; aside = aside; stamp = 2 }

abbrev one : State
one = with_aside stopped one_flow

-- the new flow stands at the story's start, and what all flows share is there
abbrev in_side : State
in_side = with_aside (start told ((codes "x", value.Int (pos 7)) ∷ [])) ((default_flow, Some stopped.flow) ∷ (codes "side", None) ∷ [])

abbrev back : State
back = with_aside stopped ((default_flow, None) ∷ (codes "side", Some (first_flow told)) ∷ [])

to_a_new_one : GoesToFlow told (codes "side") one (Acts []) in_side
unfolding start fresh_at
to_a_new_one = inl (refl, refl)

-- nothing changes where it is the current one
to_itself : GoesToFlow told (codes "side") in_side (Acts []) in_side
unfolding start fresh_at
to_itself = inl (refl, refl)

-- the other one stays as it was left
and_back : GoesToFlow told default_flow in_side (Acts []) back
unfolding start fresh_at
and_back = inl (refl, refl)

-- a name that is there keeps its place
and_there_again : GoesToFlow told (codes "side") back (Acts []) in_side
unfolding start fresh_at
and_there_again = inl (refl, refl)

-- memory is asked for where a flow is made, and nowhere else
refused_memory : GoesToFlow told (codes "side") one (Refuses refusal.OutOfMemory) one
unfolding start fresh_at
refused_memory = inr (refl, (refl, refl))

never_without_memory : GoesToFlow told default_flow in_side (Refuses refusal.OutOfMemory) in_side → ⊥
never_without_memory (inl x) = let never = x.0 in absurd cc
never_without_memory (inr x) = let never = x.0 in absurd cc

-- ---- all flows

their_names : TellsFlows in_side (Ok (default_flow ∷ codes "side" ∷ []))
their_names = inl refl

the_current_name : current_name in_side.aside ≡ codes "side"
the_current_name = refl

-- in whichever of them a player is
all_of_them : all_flows stopped.flow back.aside ≡ (default_flow, stopped.flow) ∷ (codes "side", first_flow told) ∷ []
all_of_them = refl

the_same_ones : all_flows (first_flow told) in_side.aside ≡ (default_flow, stopped.flow) ∷ (codes "side", first_flow told) ∷ []
the_same_ones = refl

-- ---- taking one away

-- where the current one is taken away, the first is current
the_current_one : DropsFlow told (codes "side") in_side (Acts []) one
unfolding start fresh_at
the_current_one = (refl, refl)

one_that_stands_aside : DropsFlow told (codes "side") back (Acts []) one
unfolding start fresh_at
one_that_stands_aside = (refl, refl)

-- ---- refusals

-- as many flows as there may be
abbrev numbered : ℕ → Aside
numbered zero = []
numbered (suc n) = ((n + 33) ∷ [], Some (first_flow told)) ∷ numbered n

abbrev full : State
full = with_aside stopped ((default_flow, None) ∷ numbered 99)

one_too_many : GoesToFlow told (codes "side") full (Refuses refusal.TooManyFlows) full
unfolding start fresh_at
one_too_many = (refl, refl)

-- a bad name comes before that
a_bad_name : GoesToFlow told (codes "a b") full (Refuses refusal.BadValue) full
unfolding start fresh_at
a_bad_name = (refl, refl)

-- to one that is there a player goes
one_of_them : GoesToFlow told default_flow full (Acts []) full
unfolding start fresh_at
one_of_them = inl (refl, refl)

no_such_flow : DropsFlow told (codes "other") in_side (Refuses refusal.NoSuchFlow) in_side
no_such_flow = (refl, refl)

the_first_one : DropsFlow told default_flow in_side (Refuses refusal.DefaultFlow) in_side
the_first_one = (refl, refl)

-- a broken player is refused before all that, and tells its flows
abbrev broken : State
broken = record in_side { condition = Broken fault.Divide [] }

broken_before_a_bad_name : GoesToFlow told (codes "a b") broken (Refuses (refusal.Broken fault.Divide)) broken
broken_before_a_bad_name = (refl, refl)

broken_before_the_first_one : DropsFlow told default_flow broken (Refuses (refusal.Broken fault.Divide)) broken
broken_before_the_first_one = (refl, refl)

its_flows : TellsFlows broken (Ok (default_flow ∷ codes "side" ∷ []))
its_flows = inl refl

-- ---- saves

-- what was saved before there were flows has one
an_old_save : unspelled (old_spelling (start told [])) ≡ Some (alone (start told []))
unfolding start fresh_at
an_old_save = refl

-- ---- a session

abbrev flow_side : command_of (codes "flow side") ≡ Some (command.Flow (codes "side"))
unfolding command_of encode_utf8
flow_side = rw (is_utf8-from_IsUtf8 (codes "flow side") (codes "flow side", (refl, refl))) refl

abbrev drop_side : command_of (codes "drop side") ≡ Some (command.Drop (codes "side"))
unfolding command_of encode_utf8
drop_side = rw (is_utf8-from_IsUtf8 (codes "drop side") (codes "drop side", (refl, refl))) refl

-- it is made, is taken away, and is no longer there
a_session : Session told no_objects [] (codes "flow side" ∷ codes "drop side" ∷ codes "drop side" ∷ []) one (codes "{\"events\":[]}\n{\"events\":[]}\n{\"refused\":\"NoSuchFlow\"}\n") one
unfolding Serves start fresh_at answer serde_json_on_literals
a_session = (
  Acts [],
  in_side,
  codes "{\"events\":[]}\n{\"refused\":\"NoSuchFlow\"}\n",
  [],
  [],
  refl,
  rw flow_side (inl (refl, inl (refl, refl))),
  refl,
  (
    Acts [],
    one,
    codes "{\"refused\":\"NoSuchFlow\"}\n",
    [],
    [],
    refl,
    rw drop_side (inl (refl, (refl, refl))),
    refl,
    (Refuses refusal.NoSuchFlow, one, [], [], [], refl, rw drop_side (inl (refl, (refl, refl))), refl, (refl, refl, refl)),
  ),
)
