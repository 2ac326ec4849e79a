-- Small worked examples of saves, each proved by computation (docs/SAVES.md).
use Rattle.std.specs.Prelude.{◌≡◌, ℕ, pos, negsuc, List, [], ◌∷◌, refl, codes, true, false, Float, Some, None, option_and_then}
use Rattle.std.proofs.Common.{arith, inl, inr, lit≤}
use Rattle.std.specs.Fmt.{digits}
use Rattle.serde_json.proofs.OnLiterals.{serde_json_on_literals}
use Rattle.serde_json.specs.Data.{Data, null, boolean, number, string, array, object, no_items, item, Members, no_members, member, unsigned, negative, float}
use Rattle.serde_json.specs.Read.{read}
use Rattle.serde_json.specs.Written.{compact_text}
use Rattle.ink_model.specs.Flow.Bases.{BaseFirst}
use Rattle.ink_model.specs.Examples.CallStories.{does, now, says, stack_in, story}
use Rattle.ink_model.specs.Run.Configuration.{ChoiceOf, Configuration, fresh_at, settled, start}
use Rattle.ink_model.specs.Run.Entered.{entered_places, passed_places}
use Rattle.ink_model.specs.Run.Flows.{Game, alone, begins_with_default, default_flow, is_flow_name, one_flow}
use Rattle.ink_model.specs.Flow.Frames.{FrameOf, ThreadOf, base_frame}
use Rattle.ink_model.specs.Protocol.Answer.{Acts}
use Rattle.ink_model.specs.Host.Bindings.{no_objects, nothing_bound}
use Rattle.ink_model.specs.Text.Output.{empty_page}
use Rattle.ink_model.specs.Story.Path.{is_place, read_path}
use Rattle.ink_model.specs.Run.Place.{content_place, next_place}
use Rattle.ink_model.specs.Variables.Rows.{place_order, rows_rise}
use Rattle.ink_model.specs.Run.Moments.{moment, run}
use Rattle.ink_model.specs.Protocol.Session.{Load}
use Rattle.ink_model.specs.Protocol.State.{Broken, Ready}
use Rattle.ink_model.specs.Run.Step.{step}
use Rattle.ink_model.specs.Story.Tree.{StoryTree, leaf}
use Rattle.ink_model.specs.Protocol.ValueJson.{value_data}
use Rattle.ink_model.specs.declared.content.Control.TheVariants as control
use Rattle.ink_model.specs.declared.content.Leaf.TheVariants as leaves
use Rattle.ink_model.specs.declared.fault.Fault.TheVariants as fault
use Rattle.ink_model.specs.declared.frame.FrameKind.TheVariants.{Base, Function}
use Rattle.ink_model.specs.declared.place.Part.{Part}
use Rattle.ink_model.specs.declared.place.Part.TheVariants.{Index, Name}
use Rattle.ink_model.specs.declared.value.Value.{Value}
use Rattle.ink_model.specs.declared.value.Value.TheVariants as value
use Rattle.ink_model.specs.Save.Reads.{Reads, Rests, Stands}
use Rattle.ink_model.specs.Save.Sound.{AsideFits, FlowStands, Sound, ValueFits, names_once}
use Rattle.ink_model.specs.Save.Spelling.{choice_data, frame_data, global_data, list_data, named_flow_data, old_spelling, row_data, spelling}
use Rattle.ink_model.specs.Save.Unspelled.{any_place_of, choice_of, frame_of, place_of, temps_of, unspelled, value_of}

-- ---- a whole save

-- flow stands behind the second content of a first container
abbrev in_the_middle : Configuration
in_the_middle = record {
  flow = record {
    threads = record {
      thread = record { frame = base_frame (Some (Index 0 ∷ Index 2 ∷ [])); below = []; previous = Some (Index 0 ∷ Index 1 ∷ []) };
      below = [];
    };
    stack = [];
    choices = [];
    safe = false;
  };
  shared = record { globals = []; counts = record { visits = []; turns = [] }; turn = 0 };
  page = empty_page;
}

its_save : compact_text (spelling (alone in_the_middle)) ≡
    codes "{\"current\":\"DEFAULT_FLOW\",\"flows\":[{\"choices\":[],\"name\":\"DEFAULT_FLOW\",\"safe\":false,\"stack\":[],\"threads\":[{\"frames\":[{\"depth\":0,\"eval\":false,\"fresh\":false,\"kind\":\"base\",\"place\":[0,2],\"temps\":{}}],\"previous\":[0,1]}]}],\"format\":2,\"globals\":[],\"turn\":0,\"turns\":[],\"visits\":[]}"
unfolding serde_json_on_literals digits
its_save = refl

it_is_read : unspelled (spelling (alone in_the_middle)) ≡ Some (alone in_the_middle)
it_is_read = refl

-- layout 1
its_old_save : compact_text (old_spelling in_the_middle) ≡
    codes "{\"choices\":[],\"format\":1,\"globals\":[],\"safe\":false,\"stack\":[],\"threads\":[{\"frames\":[{\"depth\":0,\"eval\":false,\"fresh\":false,\"kind\":\"base\",\"place\":[0,2],\"temps\":{}}],\"previous\":[0,1]}],\"turn\":0,\"turns\":[],\"visits\":[]}"
unfolding serde_json_on_literals digits
its_old_save = refl

it_is_read_too : unspelled (old_spelling in_the_middle) ≡ Some (alone in_the_middle)
it_is_read_too = refl

-- spaces between are none of the JSON library's value
its_text_is_read : option_and_then unspelled (read
    (codes "{\"choices\":[],\"format\":1,\"globals\":[],\"safe\":false,\"stack\":[],\"threads\":[{\"frames\":[{\"depth\":0,\"eval\":false,\"fresh\":false,\"kind\":\"base\",\"place\":[0, 2],\"temps\":{}}],\"previous\":[0, 1]}],\"turn\":0,\"turns\":[],\"visits\":[]}"))
    ≡ Some (alone in_the_middle)
unfolding serde_json_on_literals digits
its_text_is_read = refl

it_rests : Rests in_the_middle
unfolding settled
it_rests = refl

-- of a story whose first container has two texts
it_is_sound : Sound (story (says (codes "a") ∷ says (codes "b") ∷ []) [] []) in_the_middle
unfolding is_place
it_is_sound = record {
  flow = record {
    threads = record {
      thread = record { frame = record { rise = refl; each = tt; depth = lit≤ tt }; below = tt; base = refl; few = lit≤ tt; previous = refl };
      below = tt;
      flow = refl;
      few = lit≤ tt;
    };
    stack = record { each = tt; few = lit≤ tt };
    choices = record { each = tt; few = lit≤ tt };
  };
  shared = record {
    globals = record { once = refl; each = tt };
    counts = record { visits = record { rise = refl; each = tt }; turns = record { rise = refl; each = tt } };
    turn = lit≤ tt;
  };
  page = record { few = lit≤ tt };
}

one_flow_fits : AsideFits (story (says (codes "a") ∷ says (codes "b") ∷ []) [] []) one_flow
one_flow_fits = record { first = refl; names = refl; current = refl; few = lit≤ tt; each = ((refl, tt), tt) }

it_stands : Stands (story (says (codes "a") ∷ says (codes "b") ∷ []) [] []) (alone in_the_middle)
it_stands = record { sound = it_is_sound; rests = it_rests; aside = one_flow_fits }

it_reads : Reads (story (says (codes "a") ∷ says (codes "b") ∷ []) [] []) (spelling (alone in_the_middle)) (alone in_the_middle)
it_reads = record { spells = inl refl; stands = it_stands }

an_old_one_reads : Reads (story (says (codes "a") ∷ says (codes "b") ∷ []) [] []) (old_spelling in_the_middle) (alone in_the_middle)
an_old_one_reads = record { spells = inr (refl, refl); stands = it_stands }

-- a broken player loads it, and goes on with its stamps
it_is_loaded : Load (story (says (codes "a") ∷ says (codes "b") ∷ []) [] []) no_objects [] (Some (spelling (alone in_the_middle)))
    (record { condition = Broken fault.Divide []; aside = one_flow; stamp = 4 }) (Acts []) (record { condition = Ready in_the_middle; aside = one_flow; stamp = 4 })
it_is_loaded = inl (record {
  loaded = alone in_the_middle;
  reads = it_reads;
  tells = inl (record {
    all = true;
    saw = [];
    telling = record { answers = []; one_each = refl; events = refl; all_told = refl };
    events = refl;
    replies = refl;
    leaves = refl;
  });
})

-- as a story is opened there is no previous place
as_it_is_opened : unspelled (spelling (alone (start (story (does control.Nop ∷ []) [] []) []))) ≡ Some (alone (start (story (does control.Nop ∷ []) [] []) []))
unfolding start fresh_at
as_it_is_opened = refl

-- ---- the parts of one

abbrev a_function : FrameOf (List Part)
a_function = record { kind = Function; place = Some (Name (codes "f") ∷ Index 0 ∷ []); temps = (codes "n", value.Int (negsuc 6)) ∷ []; evaluating = true; fresh = true; depth = 1; enter = Some 3 }

a_frame : compact_text (frame_data a_function) ≡ codes "{\"depth\":1,\"eval\":true,\"fresh\":true,\"kind\":\"function\",\"place\":[\"f\",0],\"temps\":{\"n\":-7}}"
unfolding serde_json_on_literals digits
a_frame = refl

-- the number of its Enter is not saved
without_its_enter : frame_of (frame_data a_function) ≡ Some (record a_function { enter = None })
without_its_enter = refl

abbrev a_choice : ChoiceOf (List Part)
a_choice = record {
  text = codes "Go";
  tags = codes "t" ∷ [];
  target = Name (codes "c-0") ∷ Index 0 ∷ [];
  hidden = false;
  thread = record { frame = base_frame (Some (Index 0 ∷ [])); below = []; previous = None };
}

the_choice : compact_text (choice_data a_choice) ≡
    codes "{\"hidden\":false,\"tags\":[\"t\"],\"target\":[\"c-0\",0],\"text\":\"Go\",\"thread\":{\"frames\":[{\"depth\":0,\"eval\":false,\"fresh\":false,\"kind\":\"base\",\"place\":[0],\"temps\":{}}],\"previous\":null}}"
unfolding serde_json_on_literals digits
the_choice = refl

the_choice_is_read : choice_of (choice_data a_choice) ≡ Some a_choice
the_choice_is_read = refl

a_count : compact_text (row_data (Name (codes "k") ∷ Index 1 ∷ [], 5)) ≡ codes "[[\"k\",1],5]"
unfolding serde_json_on_literals digits
a_count = refl

a_global : compact_text (global_data (codes "x", value.Tag (codes "t"))) ≡ codes "[\"x\",{\"tag\":\"t\"}]"
unfolding serde_json_on_literals digits
a_global = refl

-- ---- values

abbrev index_data : ℕ → Data
index_data n = number (unsigned n)

abbrev one_member : List ℕ → Data → Data
one_member k d = object (member k d no_members)

abbrev a_pointer : Value
a_pointer = value.Pointer (pos 1) (codes "x")

a_pointer_is_read : value_of (value_data a_pointer) ≡ Some a_pointer
a_pointer_is_read = refl

a_target_is_read : value_of (one_member (codes "->") (string (codes "k.0"))) ≡ Some (value.Target (record { relative = false; parts = Name (codes "k") ∷ Index 0 ∷ [] }))
unfolding read_path digits
a_target_is_read = refl

-- `00` leads to the same place as `0`, and is no spelling
another_spelling : value_of (one_member (codes "->") (string (codes "00"))) ≡ None
unfolding read_path digits
another_spelling = refl

-- `-0` and `1.0` are floats
no_float : (x : Float) → value_of (number (float x)) ≡ None
no_float x = refl

the_largest : value_of (index_data 2147483647) ≡ Some (value.Int (pos 2147483647))
the_largest = refl

too_large : value_of (index_data 2147483648) ≡ None
too_large = refl

the_least : value_of (number (negative (negsuc 2147483647))) ≡ Some (value.Int (negsuc 2147483647))
the_least = refl

too_low : value_of (number (negative (negsuc 2147483648))) ≡ None
too_low = refl

members_out_of_order : value_of (object (member (codes "var") (string (codes "x")) (member (codes "ci") (index_data 1) no_members))) ≡ None
members_out_of_order = refl

a_missing_member : value_of (one_member (codes "ci") (index_data 1)) ≡ None
a_missing_member = refl

a_further_member : value_of (object (member (codes "tag") (string (codes "t")) (member (codes "x") null no_members))) ≡ None
a_further_member = refl

an_unknown_member : value_of (one_member (codes "list") null) ≡ None
an_unknown_member = refl

no_list : value_of (array no_items) ≡ None
no_list = refl

-- a pointer below the globals is read, and is not sound
no_frame_below : (s : StoryTree) → ValueFits s (value.Pointer (negsuc 0) (codes "x")) ≡ ⊥
no_frame_below s = refl

-- nor is a relative target, which no accepted story has: a story that had one would push it
abbrev evaluating : StoryTree → StoryTree
evaluating t = story (does control.BeginEval ∷ t ∷ []) [] []

a_relative_target : stack_in (now (moment (evaluating (leaf (leaves.Target (codes ".^")))) nothing_bound (start (evaluating (leaf (leaves.Target (codes ".^")))) []) [] 2))
    ≡ value.Target (record { relative = true; parts = Name (codes "^") ∷ [] }) ∷ []
unfolding run step start fresh_at content_place next_place passed_places entered_places read_path
a_relative_target = refl

-- ---- places, frames and rows

no_place_below_zero : place_of (array (item (number (negative (negsuc 0))) no_items)) ≡ None
no_place_below_zero = refl

too_large_an_index : place_of (array (item (index_data 4294967296) no_items)) ≡ None
too_large_an_index = refl

no_place : any_place_of (boolean false) ≡ None
no_place = refl

another_kind : frame_of (object
    (member (codes "depth") (index_data 0)
    (member (codes "eval") (boolean false)
    (member (codes "fresh") (boolean false)
    (member (codes "kind") (string (codes "thread"))
    (member (codes "place") null
    (member (codes "temps") (object no_members) no_members))))))) ≡ None
another_kind = refl

temporaries_of_a_list : temps_of (array no_items) ≡ None
temporaries_of_a_list = refl

-- a prefix first, an index before a name
places_in_order : rows_rise {V = ℕ} place_order ((Index 1 ∷ [], 1) ∷ (Index 1 ∷ Index 0 ∷ [], 1) ∷ (Name (codes "a") ∷ [], 1) ∷ []) ≡ true
places_in_order = refl

places_out_of_order : rows_rise {V = ℕ} place_order ((Index 1 ∷ Index 0 ∷ [], 1) ∷ (Index 1 ∷ [], 1) ∷ []) ≡ false
places_out_of_order = refl

a_place_twice : rows_rise {V = ℕ} place_order ((Index 1 ∷ [], 1) ∷ (Index 1 ∷ [], 2) ∷ []) ≡ false
a_place_twice = refl

a_name_twice : names_once ((codes "x", value.Void) ∷ (codes "y", value.Void) ∷ (codes "x", value.Void) ∷ []) ≡ false
a_name_twice = refl

-- a thread without a base, and one with the base on top
no_base : BaseFirst {P = List Part} Function [] ≡ (Function ≡ Base)
no_base = refl

-- flow that has stopped has one thread
stopped_in_two : (s : StoryTree) (t : ThreadOf (List Part)) → FlowStands s None (t ∷ []) ≡ ⊥
stopped_in_two s t = refl

-- neither content nor a container's end
not_in_the_story : is_place (story [] [] []) (Index 3 ∷ []) ≡ false
unfolding is_place
not_in_the_story = refl

-- ---- whole values that spell nothing

-- the save in layout 1, with another format, globals and turn, and these members behind all
abbrev save_with : Data → Data → Data → Members → Data
save_with format globals turn rest = object
    (member (codes "choices") (array no_items)
    (member (codes "format") format
    (member (codes "globals") globals
    (member (codes "safe") (boolean false)
    (member (codes "stack") (array no_items)
    (member (codes "threads") (list_data (λ d. d) (object
    (member (codes "frames") (list_data frame_data (base_frame (Some (Index 0 ∷ Index 2 ∷ [])) ∷ []))
    (member (codes "previous") (list_data index_data (0 ∷ 1 ∷ [])) no_members)) ∷ []))
    (member (codes "turn") turn
    (member (codes "turns") (array no_items)
    (member (codes "visits") (array no_items) rest)))))))))

the_same_save : save_with (index_data 1) (array no_items) (index_data 0) no_members ≡ old_spelling in_the_middle
the_same_save = refl

the_other_format : unspelled (save_with (index_data 2) (array no_items) (index_data 0) no_members) ≡ None
the_other_format = refl

another_format : unspelled (save_with (index_data 3) (array no_items) (index_data 0) no_members) ≡ None
another_format = refl

a_turn_below_zero : unspelled (save_with (index_data 1) (array no_items) (number (negative (negsuc 0))) no_members) ≡ None
a_turn_below_zero = refl

an_index_for_a_name : unspelled (save_with (index_data 1) (array (item (array (item (index_data 0) (item (index_data 1) no_items))) no_items)) (index_data 0) no_members) ≡ None
an_index_for_a_name = refl

an_unknown_key : unspelled (save_with (index_data 1) (array no_items) (index_data 0) (member (codes "zone") null no_members)) ≡ None
an_unknown_key = refl

a_missing_key : unspelled (one_member (codes "choices") (array no_items)) ≡ None
a_missing_key = refl

no_object : unspelled (array no_items) ≡ None
no_object = refl

-- ---- saves of several flows

-- a save in layout 2 with these flows
abbrev with_flows : List ℕ → List Data → Data
with_flows current flows = object
    (member (codes "current") (string current)
    (member (codes "flows") (list_data (λ d. d) flows)
    (member (codes "format") (index_data 2)
    (member (codes "globals") (array no_items)
    (member (codes "turn") (index_data 0)
    (member (codes "turns") (array no_items)
    (member (codes "visits") (array no_items) no_members)))))))

abbrev a_flow : List ℕ → Data
a_flow name = named_flow_data (name, in_the_middle.flow)

-- the other one stands aside
abbrev two_flows : Game
two_flows = record { now = in_the_middle; aside = (default_flow, Some in_the_middle.flow) ∷ (codes "side", None) ∷ [] }

of_two_flows : spelling two_flows ≡ with_flows (codes "side") (a_flow default_flow ∷ a_flow (codes "side") ∷ [])
of_two_flows = refl

they_are_read : unspelled (with_flows (codes "side") (a_flow default_flow ∷ a_flow (codes "side") ∷ [])) ≡ Some two_flows
they_are_read = refl

-- none of them is current
no_current_flow : unspelled (with_flows (codes "other") (a_flow default_flow ∷ a_flow (codes "side") ∷ [])) ≡ None
no_current_flow = refl

no_flows : unspelled (with_flows default_flow []) ≡ None
no_flows = refl

-- the current one's name twice is read as no sound game
a_flow_twice : unspelled (with_flows default_flow (a_flow default_flow ∷ a_flow default_flow ∷ [])) ≡ Some (record { now = in_the_middle; aside = (default_flow, None) ∷ (default_flow, None) ∷ [] })
a_flow_twice = refl

two_current_ones : (s : StoryTree) → AsideFits s ((default_flow, None) ∷ (default_flow, None) ∷ []) → ⊥
two_current_ones s h = let two = h.current in absurd (omega arith)

-- nor is one without the first flow, or with a name that no flow may have
another_first_flow : begins_with_default {F = ℕ} ((codes "side", None) ∷ []) ≡ false
another_first_flow = refl

a_name_with_a_space : is_flow_name (codes "a b") ≡ false
a_name_with_a_space = refl
