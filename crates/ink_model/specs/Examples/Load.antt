-- Small worked examples of `save` and `load`, each proved by computation (docs/PROTOCOL.md, "Command lines").
use Rattle.std.specs.Prelude.{◌≡◌, pos, [], ◌∷◌, refl, codes, true, false, Some, None}
use Rattle.std.proofs.Common.{inl, inr}
use Rattle.std.proofs.lemmas.Str.{is_utf8-from_IsUtf8}
use Rattle.std.specs.Char.{encode_utf8}
use Rattle.std.specs.Fmt.{digits}
use Rattle.serde_json.proofs.OnLiterals.{serde_json_on_literals}
use Rattle.serde_json.specs.Data.{Data, Members, null, number, string, array, object, no_items, item, no_members, member, unsigned}
use Rattle.ink_model.specs.Examples.Basics.{declaring}
use Rattle.ink_model.specs.Host.Bindings.{no_objects}
use Rattle.ink_model.specs.Protocol.Answer.{Refuses, Saves, answer}
use Rattle.ink_model.specs.Protocol.Command as command
use Rattle.ink_model.specs.Protocol.Command.{command_asks, command_of, command_word, json_of}
use Rattle.ink_model.specs.Protocol.Session.{Load, Save, Session, Serves}
use Rattle.ink_model.specs.Protocol.State.{State, Broken}
use Rattle.ink_model.specs.Protocol.ValueJson.{given_of}
use Rattle.ink_model.specs.Run.Configuration.{start, fresh_at}
use Rattle.ink_model.specs.Run.Flows.{Game, alone, one_flow}
use Rattle.ink_model.specs.Run.Opening.{opened}
use Rattle.ink_model.specs.Run.Place.{content_place}
use Rattle.ink_model.specs.Save.Asks.{load_asks}
use Rattle.ink_model.specs.Save.Reads.{Reads, Spells}
use Rattle.ink_model.specs.Save.Spelling.{spelling}
use Rattle.ink_model.specs.declared.fault.Fault.TheVariants as fault
use Rattle.ink_model.specs.declared.fault.Refusal.TheVariants as refusal
use Rattle.ink_model.specs.declared.value.Value.TheVariants as value

-- ---- command lines

save_line : command_of (codes "save") ≡ Some command.Save
unfolding command_of encode_utf8
save_line = rw (is_utf8-from_IsUtf8 (codes "save") (codes "save", (refl, refl))) refl

abbrev load_line : command_of (codes "load {\"format\":1}") ≡ Some (command.Load (Some (object (member (codes "format") (number (unsigned 1)) no_members))))
unfolding command_of encode_utf8 json_of serde_json_on_literals
load_line = rw (is_utf8-from_IsUtf8 (codes "load {\"format\":1}") (codes "load {\"format\":1}", (refl, refl))) refl

-- JSON that does not end is none
abbrev cut_line : command_of (codes "load {\"format\":1") ≡ Some (command.Load None)
unfolding command_of encode_utf8 json_of serde_json_on_literals
cut_line = rw (is_utf8-from_IsUtf8 (codes "load {\"format\":1") (codes "load {\"format\":1", (refl, refl))) refl

nothing_to_load : command_word (codes "load ") ≡ None
nothing_to_load = refl

save_with_more : command_word (codes "save it") ≡ None
save_with_more = refl

-- the JSON stands in the line until it is loaded
a_load_asks_for_none : command_asks (codes "load 1") ≡ false
a_load_asks_for_none = refl

saving_asks_for_none : command_asks (codes "save") ≡ false
saving_asks_for_none = refl

-- nor is any for a value but a text, and one that is spelled another way than it is printed
setting_a_number_asks_for_none : command_asks (codes "set gold 7") ≡ false
unfolding given_of serde_json_on_literals digits
setting_a_number_asks_for_none = refl

setting_a_truth_asks_for_none : command_asks (codes "set met true") ≡ false
unfolding given_of serde_json_on_literals
setting_a_truth_asks_for_none = refl

setting_a_text_asks : command_asks (codes "set name \"x\"") ≡ true
unfolding given_of serde_json_on_literals
setting_a_text_asks = refl

a_number_spelled_otherwise_asks : command_asks (codes "set gold 7e0") ≡ true
unfolding given_of serde_json_on_literals digits
a_number_spelled_otherwise_asks = refl

-- ---- saving

abbrev ready : State
ready = opened (start declaring ((codes "x", value.Int (pos 7)) ∷ []))

abbrev broken : State
broken = record { condition = Broken fault.Divide ((codes "x", value.Void) ∷ []); aside = one_flow; stamp = 3 }

a_save : Save ready (Saves (spelling (alone (start declaring ((codes "x", value.Int (pos 7)) ∷ []))))) ready
a_save = inl (refl, refl)

its_answer : answer (Saves (spelling (alone (start declaring ((codes "x", value.Int (pos 7)) ∷ []))))) ≡
    codes "{\"saved\":{\"current\":\"DEFAULT_FLOW\",\"flows\":[{\"choices\":[],\"name\":\"DEFAULT_FLOW\",\"safe\":false,\"stack\":[],\"threads\":[{\"frames\":[{\"depth\":0,\"eval\":false,\"fresh\":false,\"kind\":\"base\",\"place\":[0],\"temps\":{}}],\"previous\":null}]}],\"format\":2,\"globals\":[[\"x\",7]],\"turn\":0,\"turns\":[],\"visits\":[]}}\n"
unfolding answer start fresh_at content_place serde_json_on_literals digits
its_answer = refl

a_broken_save : Save broken (Refuses (refusal.Broken fault.Divide)) broken
a_broken_save = (refl, refl)

a_save_without_memory : Save ready (Refuses refusal.OutOfMemory) ready
a_save_without_memory = inr (refl, refl)

-- ---- loading

-- what is no JSON is refused, by a broken player too
no_json : Load declaring no_objects [] None broken (Refuses refusal.BadSave) broken
no_json = (refl, (refl, refl))

no_spelling : (g : Game) → Reads declaring null g → ⊥
no_spelling g h = spelled_not h.spells where
  spelled_not : Spells null g → ⊥
  spelled_not (inl e) = absurd cc
  spelled_not (inr x) = let e = x.0 in absurd cc

-- what spells no game is refused, and nothing changes
no_save : Load declaring no_objects [] (Some null) ready (Refuses refusal.BadSave) ready
no_save = inr (inl (no_spelling, refl, (refl, refl)))

-- it is not kept for want of memory either, since nothing is kept of it
never_without_memory : Load declaring no_objects [] (Some null) ready (Refuses refusal.OutOfMemory) ready → ⊥
never_without_memory (inl x) = no_spelling x.loaded x.reads
never_without_memory (inr (inl x)) = let never = x.2.0 in absurd cc
never_without_memory (inr (inr x)) = let never = x.0 in absurd cc

-- the first members of a save, and others behind them
abbrev begun : Data → Data → Members → Data
begun choices format others = object (member (codes "choices") choices (member (codes "format") format others))

abbrev none : Data
none = array no_items

abbrev one_global : Members
one_global = member (codes "globals") (array (item (array (item (string (codes "x")) (item null no_items))) no_items)) no_members

-- another layout is found before anything is kept, and so is a choice that is none
another_layout : load_asks (begun none (number (unsigned 2)) one_global) ≡ false
another_layout = refl

no_choice : load_asks (begun (array (item null no_items)) (number (unsigned 1)) no_members) ≡ false
no_choice = refl

-- the first text is kept, whatever comes after it
the_name_of_a_global : load_asks (begun none (number (unsigned 1)) one_global) ≡ true
the_name_of_a_global = refl

a_load_without_memory : Load declaring no_objects [] (Some (begun none (number (unsigned 1)) one_global)) ready (Refuses refusal.OutOfMemory) ready
a_load_without_memory = inr (inr (refl, refl, (refl, refl)))

a_bad_save : answer (Refuses refusal.BadSave) ≡ codes "{\"refused\":\"BadSave\"}\n"
unfolding answer serde_json_on_literals
a_bad_save = refl

a_session : Session declaring no_objects [] (codes "load {\"format\":1" ∷ []) ready (codes "{\"refused\":\"BadSave\"}\n") ready
unfolding Serves
a_session = (Refuses refusal.BadSave, ready, [], [], [], refl, rw cut_line (inl (refl, (refl, refl))), rw a_bad_save refl, (refl, refl, refl))
