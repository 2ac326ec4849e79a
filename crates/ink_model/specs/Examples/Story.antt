-- Small stories that are refused, and diverts, each proved by computation.
use Rattle.std.specs.Prelude.{◌≡◌, pos, ℕ, List, [], ◌∷◌, refl, codes, Bool, true, false, Some, None, Ok, Err}
use Rattle.serde_json.specs.Data.{unsigned, Data, null, boolean, number, string, array, object, no_items, item, Members, no_members, member}
use Rattle.ink_model.specs.Run.Configuration.{Configuration, with_globals, fresh_at, moved}
use Rattle.ink_model.specs.Run.Effect.{with_stack}
use Rattle.ink_model.specs.Run.Entered.{entered_places, passed_places}
use Rattle.ink_model.specs.Run.Place.{content_place, landed, next_place}
use Rattle.ink_model.specs.Run.Step.{step, nothing_bound, Next, Faults, Comes}
use Rattle.ink_model.specs.Story.Acceptance.{accepted, bad_places, bad_path, written_target, counted_container}
use Rattle.ink_model.specs.Story.Grammar.{content, here}
use Rattle.ink_model.specs.Story.Leaves.{object_leaf, jump_readings, value_readings, store_readings}
use Rattle.ink_model.specs.Story.Path.{read_path, target, is_place}
use Rattle.ink_model.specs.Story.Places.{places}
use Rattle.ink_model.specs.Story.Tree.{StoryTree, leaf, container, no_trees, tree, no_keys, key}
use Rattle.ink_model.specs.Values.Value.{is_true}
use Rattle.ink_model.specs.declared.content.Destination.{Destination}
use Rattle.ink_model.specs.declared.content.Destination.TheVariants as destination
use Rattle.ink_model.specs.declared.content.Leaf.TheVariants as leaves
use Rattle.ink_model.specs.declared.fault.Cause.TheVariants.{Shape, Unsupported, Limit}
use Rattle.ink_model.specs.declared.fault.Fault.TheVariants as fault
use Rattle.ink_model.specs.declared.place.Part.TheVariants.{Index, Name}
use Rattle.ink_model.specs.declared.value.Value.{Value}
use Rattle.ink_model.specs.declared.value.Value.TheVariants as value
use Rattle.ink_model.specs.declared.version.InkVersion.TheVariants.{V20, V21}

-- ---- causes at one place, in their order

abbrev of : List ℕ → Data → Members → Members
of k d rest = member k d rest

abbrev text : List ℕ → Data
text t = string t

abbrev count : ℕ → Data
count n = number (unsigned n)

-- nesting comes before what is wrong with the container itself
nesting_first : content V21 121 false true (array (item (object (of (codes "#f") (count 8) no_members)) no_items)) ≡ Err (here Limit)
nesting_first = refl

-- what ink has beyond comes before the shape
beyond_first : object_leaf V21 (object (of (codes "->") (count 1) (of (codes "list") null no_members))) ≡ Err Unsupported
unfolding object_leaf
beyond_first = refl

-- the shape before the limit
shape_first : object_leaf V21 (object (of (codes "exArgs") (count 2147483648) (of (codes "x()") (count 1) no_members))) ≡ Err Shape
unfolding object_leaf jump_readings value_readings store_readings
shape_first = refl

too_many_arguments : object_leaf V21 (object (of (codes "exArgs") (count 2147483648) (of (codes "x()") (text (codes "f")) no_members))) ≡ Err Limit
unfolding object_leaf jump_readings value_readings store_readings
too_many_arguments = refl

two_heads : object_leaf V21 (object (of (codes "->") (text (codes "k")) (of (codes "f()") (text (codes "k")) no_members))) ≡ Err Shape
unfolding object_leaf jump_readings value_readings store_readings
two_heads = refl

no_head : object_leaf V21 (object (of (codes "var") (boolean true) no_members)) ≡ Err Shape
unfolding object_leaf jump_readings value_readings store_readings
no_head = refl

-- ---- objects that are read

a_divert : object_leaf V21 (object (of (codes "->") (text (codes "k")) (of (codes "c") (boolean true) no_members)))
    ≡ Ok (leaves.Divert (destination.Path (codes "k")) true)
unfolding object_leaf jump_readings value_readings store_readings
a_divert = refl

by_a_variable : object_leaf V21 (object (of (codes "->t->") (text (codes "v")) (of (codes "var") (boolean true) no_members)))
    ≡ Ok (leaves.Tunnel (destination.Variable (codes "v")) false)
unfolding object_leaf jump_readings value_readings store_readings
by_a_variable = refl

-- an option is looked at only at its own head
another_heads_option : object_leaf V21 (object (of (codes "VAR?") (text (codes "x")) (of (codes "re") (count 1) no_members)))
    ≡ Ok (leaves.Variable (codes "x"))
unfolding object_leaf jump_readings value_readings store_readings
another_heads_option = refl

a_choice : object_leaf V21 (object (of (codes "*") (text (codes "k")) no_members)) ≡ Ok (leaves.Choice (codes "k") 16)
unfolding object_leaf jump_readings value_readings store_readings
a_choice = refl

-- ---- tags that are given whole

a_tag : object_leaf V20 (object (of (codes "#") (text (codes " calm  sea ")) no_members)) ≡ Ok (leaves.Tag (codes " calm  sea "))
unfolding object_leaf jump_readings value_readings store_readings
a_tag = refl

-- not in version 21, whatever else is wrong
no_tag_in_21 : object_leaf V21 (object (of (codes "#") (count 1) no_members)) ≡ Err Unsupported
unfolding object_leaf
no_tag_in_21 = refl

tag_without_text : object_leaf V20 (object (of (codes "#") (count 1) no_members)) ≡ Err Shape
unfolding object_leaf jump_readings value_readings store_readings
tag_without_text = refl

tag_with_another_head : object_leaf V20 (object (of (codes "#") (text (codes "a")) (of (codes "VAR?") (text (codes "x")) no_members))) ≡ Err Shape
unfolding object_leaf jump_readings value_readings store_readings
tag_with_another_head = refl

-- lists are beyond both versions
list_in_20 : object_leaf V20 (object (of (codes "#") (text (codes "a")) (of (codes "list") null no_members))) ≡ Err Unsupported
unfolding object_leaf
list_in_20 = refl

-- ---- a story: [x, ["-> k" by a condition, x, null], {"k": [x, null], "n": [x, {"#f": 1}]}]

abbrev x : StoryTree
x = leaf leaves.Newline

abbrev divert : Destination → Bool → StoryTree
divert to conditional = leaf (leaves.Divert to conditional)

abbrev to : List ℕ → Destination
to path = destination.Path path

abbrev with_divert : Destination → Bool → StoryTree
with_divert way conditional = container None 0
    (tree x (tree (container None 0 (tree (divert way conditional) (tree x no_trees)) no_keys) no_trees))
    (key (codes "k") (container None 0 (tree x no_trees) no_keys) (key (codes "n") (container None 1 (tree x no_trees) no_keys) no_keys))

abbrev to_k : StoryTree
to_k = with_divert (to (codes "k")) false

all_places : places to_k ≡ [] ∷ (Index 0 ∷ []) ∷ (Index 1 ∷ []) ∷ (Index 1 ∷ Index 0 ∷ []) ∷ (Index 1 ∷ Index 1 ∷ [])
    ∷ (Name (codes "k") ∷ []) ∷ (Name (codes "k") ∷ Index 0 ∷ []) ∷ (Name (codes "n") ∷ []) ∷ (Name (codes "n") ∷ Index 0 ∷ []) ∷ []
all_places = refl

an_accepted_story : accepted to_k ≡ Ok to_k
unfolding accepted bad_places read_path target
an_accepted_story = refl

a_path_to_nowhere : accepted (with_divert (to (codes "m")) false) ≡ Err (bad_path (Index 1 ∷ Index 0 ∷ []))
unfolding accepted bad_places read_path target
a_path_to_nowhere = refl

no_path_at_all : accepted (with_divert (to (codes "k..0")) false) ≡ Err (bad_path (Index 1 ∷ Index 0 ∷ []))
unfolding accepted bad_places read_path target
no_path_at_all = refl

-- a variable's name is no path
a_variables_name : accepted (with_divert (destination.Variable (codes "m")) false) ≡ Ok (with_divert (destination.Variable (codes "m")) false)
unfolding accepted bad_places read_path target
a_variables_name = refl

abbrev counting : List ℕ → StoryTree
counting path = container None 0 (tree (leaf (leaves.Count path)) no_trees) (key (codes "k") (container None 0 no_trees no_keys) (key (codes "n") (container None 1 no_trees no_keys) no_keys))

a_count : accepted (counting (codes "n")) ≡ Ok (counting (codes "n"))
unfolding accepted bad_places read_path target
a_count = refl

a_count_of_what_is_not_counted : accepted (counting (codes "k")) ≡ Err (bad_path (Index 0 ∷ []))
unfolding accepted bad_places read_path target
a_count_of_what_is_not_counted = refl

-- a value's path is not relative
a_relative_value : accepted (container None 0 (tree (leaf (leaves.Target (codes ".^"))) no_trees) no_keys) ≡ Err (bad_path (Index 0 ∷ []))
unfolding accepted bad_places read_path target
a_relative_value = refl

-- ---- places

an_end_is_a_place : is_place to_k (Index 1 ∷ Index 2 ∷ []) ≡ true
unfolding is_place
an_end_is_a_place = refl

behind_an_end_is_none : is_place to_k (Index 1 ∷ Index 3 ∷ []) ≡ false
unfolding is_place
behind_an_end_is_none = refl

up_and_out : next_place to_k (Index 1 ∷ Index 1 ∷ []) ≡ None
unfolding next_place
up_and_out = refl

out_of_a_name : next_place to_k (Name (codes "k") ∷ Index 0 ∷ []) ≡ None
unfolding next_place
out_of_a_name = refl

lands_inside : written_target to_k (Index 1 ∷ Index 0 ∷ []) ≡ Some (Name (codes "k") ∷ Index 0 ∷ [])
unfolding written_target read_path target landed
lands_inside = refl

-- a choice that is offered once only counts the container to which its path leads, and lands inside it
abbrev choosing : ℕ → StoryTree
choosing flags = container None 0 (tree (leaf (leaves.Choice (codes "n") flags)) no_trees)
    (key (codes "n") (container None 1 (tree (leaf leaves.Newline) no_trees) no_keys) no_keys)

counts_the_container : counted_container (choosing 16) (Index 0 ∷ []) ≡ Some (Name (codes "n") ∷ [])
unfolding counted_container read_path target
counts_the_container = refl

lands_in_the_container : written_target (choosing 16) (Index 0 ∷ []) ≡ Some (Name (codes "n") ∷ Index 0 ∷ [])
unfolding written_target read_path target landed
lands_in_the_container = refl

counts_nothing : counted_container (choosing 0) (Index 0 ∷ []) ≡ None
unfolding counted_container
counts_nothing = refl

-- ---- diverts

abbrev here_with : List Value → List (List ℕ × Value) → Configuration
here_with vs globals = with_globals globals (with_stack vs (fresh_at (Index 1 ∷ Index 0 ∷ [])))

diverted : step to_k nothing_bound (here_with [] []) ≡ Comes (Next (moved (Index 1 ∷ Index 0 ∷ []) (Some (Name (codes "k") ∷ Index 0 ∷ [])) (here_with [] [])))
unfolding step fresh_at content_place read_path target landed passed_places entered_places
diverted = refl

abbrev if_k : StoryTree
if_k = with_divert (to (codes "k")) true

where_true : step if_k nothing_bound (here_with (value.Bool true ∷ []) [])
    ≡ Comes (Next (moved (Index 1 ∷ Index 0 ∷ []) (Some (Name (codes "k") ∷ Index 0 ∷ [])) (here_with [] [])))
unfolding step fresh_at content_place read_path target landed is_true passed_places entered_places
where_true = refl

where_false : step if_k nothing_bound (here_with (value.Int (pos 0) ∷ []) [])
    ≡ Comes (Next (moved (Index 1 ∷ Index 0 ∷ []) (Some (Index 1 ∷ Index 1 ∷ [])) (here_with [] [])))
unfolding step fresh_at content_place next_place is_true passed_places entered_places
where_false = refl

without_a_condition : step if_k nothing_bound (here_with [] []) ≡ Comes (Faults fault.StackEmpty)
unfolding step fresh_at content_place passed_places entered_places
without_a_condition = refl

-- the condition is looked at before the target
bad_condition_first : step (with_divert (destination.Variable (codes "v")) true) nothing_bound (here_with (value.Tag [] ∷ []) []) ≡ Comes (Faults fault.BadOperands)
unfolding step fresh_at content_place is_true passed_places entered_places
bad_condition_first = refl

no_target : step (with_divert (destination.Variable (codes "v")) false) nothing_bound (here_with [] []) ≡ Comes (Faults fault.BadTarget)
unfolding step fresh_at content_place passed_places entered_places
no_target = refl

-- a variable's target is the container itself
by_a_variable_to_k : step (with_divert (destination.Variable (codes "v")) false) nothing_bound
    (here_with [] ((codes "v", value.Target (record { relative = false; parts = Name (codes "k") ∷ [] })) ∷ []))
    ≡ Comes (Next (moved (Index 1 ∷ Index 0 ∷ []) (Some (Name (codes "k") ∷ []))
    (here_with [] ((codes "v", value.Target (record { relative = false; parts = Name (codes "k") ∷ [] })) ∷ []))))
unfolding step fresh_at content_place target passed_places entered_places
by_a_variable_to_k = refl
