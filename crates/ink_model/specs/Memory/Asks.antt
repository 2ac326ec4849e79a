-- Whether a step asks for memory (docs/RUNNING.md, "Out of memory").
use Rattle.std.specs.Prelude.{ℕ, List, [], ◌∷◌, length, nat_lt, reverse, Bool, true, false, not, ◌&&◌, ◌||◌, if◌then◌else◌, Option, Some, None, Result, Ok, Err, is_ok}
use Rattle.ink_model.specs.Choices.Choosing.{following_asks}
use Rattle.ink_model.specs.Choices.Making.{choice_asks, make}
use Rattle.ink_model.specs.Host.Bindings.{Binding, Bound, turn_function, pure_function}
use Rattle.ink_model.specs.Memory.Moves.{move_asks}
use Rattle.ink_model.specs.Run.Configuration.{ChoiceOf, Configuration, current_place}
use Rattle.ink_model.specs.Run.Effect.{Context, Effect, Fields, context_of, fields_of, is_fresh}
use Rattle.ink_model.specs.Run.Entered.{passed_places}
use Rattle.ink_model.specs.Run.Move.{move}
use Rattle.ink_model.specs.Run.Place.{content_place}
use Rattle.ink_model.specs.Run.Step.{effect, gone_in}
use Rattle.ink_model.specs.Run.Step.Choices.{was_visited}
use Rattle.ink_model.specs.Run.Step.Diverts.{condition}
use Rattle.ink_model.specs.Run.Step.Host.{Acts, Suspends, Call, CallEffect, arguments_on, call_at, call_external, has_string, is_argument}
use Rattle.ink_model.specs.Story.Acceptance.{lands, leads}
use Rattle.ink_model.specs.Story.Path.{above}
use Rattle.ink_model.specs.Text.Output.{writes_glue, writes_newline}
use Rattle.ink_model.specs.Text.Page.{Section}
use Rattle.ink_model.specs.Values.Joining.{makes_text}
use Rattle.ink_model.specs.Values.Operator.{takes}
use Rattle.ink_model.specs.Values.Stack.{popped, taken}
use Rattle.std.specs.List.{list_all}
use Rattle.ink_model.specs.Memory.Variables.{assign_asks, declare_asks, on_popped}
use Rattle.ink_model.specs.Run.Step.Counts.{visits_at}
use Rattle.ink_model.specs.Run.Step.Text.{in_string, in_tag}
use Rattle.ink_model.specs.Run.Visits.{adds_rows}
use Rattle.ink_model.specs.Story.Tree.{StoryTree, leaf, container, at}
use Rattle.ink_model.specs.Variables.Access.{read}
use Rattle.ink_model.specs.declared.content.Control.{Control}
use Rattle.ink_model.specs.declared.content.Control.TheVariants as control
use Rattle.ink_model.specs.declared.content.Leaf.{Leaf}
use Rattle.ink_model.specs.declared.content.Leaf.TheVariants as leaves
use Rattle.ink_model.specs.declared.fault.Fault.{Fault}
use Rattle.ink_model.specs.declared.fault.Fault.TheVariants.{TooDeep}
use Rattle.ink_model.specs.declared.limits.TheConstants.{MAX_CHOICES, MAX_SECTIONS, MAX_STACK}
use Rattle.ink_model.specs.declared.operator.Op.{Op}
use Rattle.ink_model.specs.declared.place.Part.{Part}
use Rattle.ink_model.specs.declared.scope.Scope.TheVariants.{Global, Temporary}
use Rattle.ink_model.specs.declared.value.Value.{Value}
use Rattle.ink_model.specs.declared.value.Value.TheVariants as value

-- a limit is looked at once the answer is made; every other fault is found before
abbrev pub is_found_late : Fault → Bool
is_found_late TooDeep = true
is_found_late f = false

-- The rule's answer is made in memory, or was to be made.
abbrev pub asks_for : {A : Type 0} → Result A Fault → Bool
asks_for (Ok a) = true
asks_for (Err f) = is_found_late f

-- ---- whether performing content asks for memory

-- there is room on the stack for one more value; a push where there is none is TooDeep, whatever memory there is
abbrev pub has_room : List Value → Bool
has_room vs = nat_lt (length vs) MAX_STACK

-- a value is pushed in evaluation mode
abbrev pub push_asks : Fields → Bool
push_asks f = f.evaluating && has_room f.stack

-- one more string or tag may be open
abbrev pub may_open : List Section → Bool
may_open sections = nat_lt (length sections) MAX_SECTIONS

-- a text has bytes; to write one that has none takes no memory
abbrev pub has_bytes : List ℕ → Bool
has_bytes [] = false
has_bytes (c ∷ cs) = true

-- there is something on the stack
abbrev pub has_top : Option (Value × List Value) → Bool
has_top None = false
has_top (Some r) = true

-- what is printed of a value has bytes: nothing is printed of void, and a target, a pointer or a tag does not print
abbrev pub prints_bytes : Value → Bool
prints_bytes (value.Int z) = true
prints_bytes (value.Bool b) = true
prints_bytes (value.Text t) = has_bytes t
prints_bytes v = false

abbrev pub output_asks : Option (Value × List Value) → Bool
output_asks None = false
output_asks (Some r) = prints_bytes r.0

-- there is room for a tag that ends, or is given whole: in a string it is pushed
abbrev pub has_tag_room : List Section → List Value → Bool
has_tag_room sections vs = not (has_string sections) || has_room vs

abbrev pub operator_asks : Op → Option (List Value × List Value) → Bool
operator_asks o None = false
operator_asks o (Some r) = makes_text o r.0

-- a number is pushed, unless nothing is counted there; what `turns` and `readc` give takes the place of their target
abbrev pub visit_asks : StoryTree → Context → Option (List Part) → Bool
visit_asks s seen None = false
visit_asks s seen (Some q) = is_ok (visits_at s seen q)

-- a choice that is made, for itself, or for its place behind so many others, where there is room for it
abbrev pub makes_choice : {P : Type 0} → ℕ → Result (Option (ChoiceOf P) × List Value) Fault → Bool
makes_choice others (Ok (None, left)) = false
makes_choice others (Ok (Some choice, left)) = choice_asks choice || nat_lt others MAX_CHOICES
makes_choice others (Err f) = false

abbrev pub offer_asks : StoryTree → List Part → Context → List ℕ → ℕ → Fields → Option (List Part) → Bool
offer_asks s p seen text flags f None = false
offer_asks s p seen text flags f (Some q) = makes_choice (length seen.choices) (make flags q (was_visited s p seen text flags) seen.thread f.stack)

abbrev pub control_asks : StoryTree → List Part → Context → Control → Fields → Bool
control_asks s p seen control.Out f = output_asks (popped f.stack)
control_asks s p seen control.Duplicate f = has_top (popped f.stack) && has_room f.stack
control_asks s p seen control.BeginString f = f.evaluating && may_open f.page.sections
control_asks s p seen control.EndString f = in_string f.page.sections && has_room f.stack
control_asks s p seen control.BeginTag f = if in_tag f.page.sections then has_tag_room f.page.sections f.stack else may_open f.page.sections
control_asks s p seen control.EndTag f = in_tag f.page.sections && has_tag_room f.page.sections f.stack
control_asks s p seen control.BeginEval f = false
control_asks s p seen control.EndEval f = false
control_asks s p seen control.Pop f = false
control_asks s p seen control.Nop f = false
control_asks s p seen control.Done f = false
control_asks s p seen control.End f = false
control_asks s p seen control.Return f = false
control_asks s p seen control.ReturnTunnel f = false
control_asks s p seen control.Thread f = false
control_asks s p seen control.ChoiceCount f = has_room f.stack
control_asks s p seen control.Turn f = has_room f.stack
control_asks s p seen control.Turns f = false
control_asks s p seen control.ReadCount f = false
control_asks s p seen control.Visit f = visit_asks s seen (above (reverse p)) && has_room f.stack

-- the arguments of a call are there, and of the right kinds
abbrev pub takes_arguments : Option (List Value × List Value) → Bool
takes_arguments None = false
takes_arguments (Some r) = list_all is_argument r.0

-- a turn function is called, or a pure one asked
abbrev pub binding_asks : Option Binding → ℕ → Fields → Bool
binding_asks None n f = false
binding_asks (Some turn_function) n f = not (has_string f.page.sections) && takes_arguments (arguments_on n f.stack)
binding_asks (Some (pure_function answers)) n f = takes_arguments (arguments_on n f.stack)

-- where a condition is true
abbrev pub so_where : Result (Bool × Fields) Fault → (Fields → Bool) → Bool
so_where (Ok r) so = r.0 && so r.1
so_where (Err f) so = false

abbrev pub external_asks : Option Binding → ℕ → Bool → Fields → Bool
external_asks b n conditional f = so_where (condition conditional f) (binding_asks b n)

abbrev pub leaf_asks : StoryTree → List Part → Context → Leaf → Fields → Bool
leaf_asks s p seen (leaves.Text t) f = if f.evaluating then has_room f.stack else has_bytes t
leaf_asks s p seen leaves.Newline f = if f.evaluating then has_room f.stack else not (is_fresh f) && is_ok (writes_newline false f.page)
leaf_asks s p seen leaves.Glue f = not f.evaluating && is_ok (writes_glue f.page)
leaf_asks s p seen (leaves.Tag t) f = has_tag_room f.page.sections f.stack
leaf_asks s p seen (leaves.Int z) f = push_asks f
leaf_asks s p seen (leaves.Bool truth) f = push_asks f
leaf_asks s p seen leaves.Void f = push_asks f
leaf_asks s p seen (leaves.Target text) f = push_asks f
leaf_asks s p seen (leaves.Control o) f = control_asks s p seen o f
leaf_asks s p seen (leaves.Op o) f = operator_asks o (taken (takes o) f.stack [])
leaf_asks s p seen (leaves.Declare name) f = on_popped (popped f.stack) (declare_asks f.globals seen.thread Global name)
leaf_asks s p seen (leaves.Assign name) f = on_popped (popped f.stack) (assign_asks f.globals seen.thread name)
leaf_asks s p seen (leaves.Variable name) f = is_ok (read f.globals seen.thread name) && has_room f.stack
leaf_asks s p seen (leaves.Divert to conditional) f = false
leaf_asks s p seen (leaves.Pointer name frame) f = push_asks f
leaf_asks s p seen (leaves.Call to conditional) f = false
leaf_asks s p seen (leaves.Tunnel to conditional) f = false
leaf_asks s p seen (leaves.External name arguments conditional) f = false
leaf_asks s p seen (leaves.DeclareTemp name) f = on_popped (popped f.stack) (declare_asks f.globals seen.thread Temporary name)
leaf_asks s p seen (leaves.AssignTemp name) f = on_popped (popped f.stack) (assign_asks f.globals seen.thread name)
leaf_asks s p seen (leaves.Count text) f = visit_asks s seen (leads s p text) && has_room f.stack
leaf_asks s p seen (leaves.Choice text flags) f = offer_asks s p seen text flags f (lands s p text)

abbrev pub content_asks : StoryTree → List Part → Option StoryTree → Context → Fields → Bool
content_asks s p None seen f = false
content_asks s p (Some (container name flags content named)) seen f = false
content_asks s p (Some (leaf l)) seen f = leaf_asks s p seen l f

-- a content asks for memory, or where flow goes after its effect, or following a choice where flow stops so
abbrev pub acting_asks : StoryTree → Bool → Effect → Configuration → Bool
acting_asks s asks e c = (asks || move_asks s e c) || following_asks s (move s e c)

abbrev pub calling_asks : StoryTree → Bool → CallEffect → Configuration → Bool
calling_asks s asks (Acts e) c = acting_asks s asks e c
calling_asks s asks (Suspends name arguments f) c = asks

-- performing a call asks for memory, or what else stands at a place
abbrev pub performing_asks : StoryTree → Bound → List Part → Option StoryTree → Option Call → Configuration → Bool
performing_asks s b p found None c = acting_asks s (content_asks s p found (context_of c) (fields_of c)) (effect s p found (context_of c) (fields_of c)) c
performing_asks s b p found (Some k) c =
    calling_asks s (external_asks (b k.name) k.arguments k.conditional (fields_of c)) (call_external s b k.name k.arguments k.conditional (fields_of c)) c

-- so does going in, where that is a container's first visit
abbrev pub going_in_asks : StoryTree → List Part → Configuration → Bool
going_in_asks s p c = adds_rows s (passed_places s p) c.shared.counts

abbrev pub asks_at : StoryTree → Bound → Option (List Part) → Configuration → Bool
asks_at s b None c = false
asks_at s b (Some p) c = going_in_asks s p c || performing_asks s b (content_place s p) (at s (content_place s p)) (call_at (at s (content_place s p))) (gone_in s p c)

-- the step at a configuration asks for memory
unfoldable pub asks : StoryTree → Bound → Configuration → Bool
asks s b c = asks_at s b (current_place c) c
