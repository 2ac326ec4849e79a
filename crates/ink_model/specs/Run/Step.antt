-- One step: enter, effect, move (docs/RUNNING.md, "Steps").
use Rattle.std.specs.Prelude.{ℕ, List, Option, Some, None}
use Rattle.ink_model.specs.Choices.Choosing.{following}
use Rattle.ink_model.specs.Run.Configuration.{Configuration, current_place, put_at}
use Rattle.ink_model.specs.Run.Effect.{Context, Fields, Effect, Moves, Forks, Done, Ends, context_of, fields_of}
pub use Rattle.ink_model.specs.Run.Move.{Outcome, Next, Stop, Faults}
use Rattle.ink_model.specs.Run.Move.{move}
use Rattle.ink_model.specs.Run.Place.{content_place}
pub use Rattle.ink_model.specs.Host.Bindings.{Binding, Bound, nothing_bound}
use Rattle.ink_model.specs.Run.Step.Calls.{call, return_function, return_tunnel}
use Rattle.ink_model.specs.Run.Step.Choices.{offer, push_choice_count}
use Rattle.ink_model.specs.Run.Step.Counts.{push_count, push_read_count, push_turn, push_turns, push_visit}
use Rattle.ink_model.specs.Run.Step.Diverts.{divert, path_of}
use Rattle.ink_model.specs.Run.Step.Evaluation.{begin_eval, duplicate, end_eval, operate, output_value, pop, push_value}
use Rattle.ink_model.specs.Run.Step.Host.{Acts, Suspends, Call, CallEffect, call_at, call_external}
use Rattle.ink_model.specs.Run.Step.Text.{begin_string, begin_tag, end_string, end_tag, write_glue, write_newline, write_tag, write_text}
use Rattle.ink_model.specs.Run.Step.Variables.{assign, declare, push_pointer, push_variable}
use Rattle.ink_model.specs.Run.Visits.{entering_at}
use Rattle.ink_model.specs.Story.Tree.{StoryTree, leaf, container, at}
use Rattle.ink_model.specs.declared.content.Control.{Control}
use Rattle.ink_model.specs.declared.content.Control.TheVariants as control
use Rattle.ink_model.specs.declared.content.Leaf.{Leaf}
use Rattle.ink_model.specs.declared.content.Leaf.TheVariants as leaves
use Rattle.ink_model.specs.declared.frame.FrameKind.TheVariants.{Function, Tunnel}
use Rattle.ink_model.specs.declared.place.Part.{Part}
use Rattle.ink_model.specs.declared.scope.Scope.TheVariants.{Global, Temporary}
use Rattle.ink_model.specs.declared.value.Value.{Value}
use Rattle.ink_model.specs.declared.value.Value.TheVariants as value
pub mod Calls
pub mod Choices
pub mod Counts
pub mod Diverts
pub mod Evaluation
pub mod Host
pub mod Text
pub mod Variables

abbrev pub control_effect : StoryTree → List Part → Context → Control → Fields → Effect
control_effect s p seen control.BeginEval f = begin_eval f
control_effect s p seen control.EndEval f = end_eval f
control_effect s p seen control.Out f = output_value f
control_effect s p seen control.Pop f = pop f
control_effect s p seen control.Duplicate f = duplicate f
control_effect s p seen control.Nop f = Moves f
control_effect s p seen control.BeginString f = begin_string f
control_effect s p seen control.EndString f = end_string f
control_effect s p seen control.BeginTag f = begin_tag f
control_effect s p seen control.EndTag f = end_tag f
control_effect s p seen control.Done f = Done f
control_effect s p seen control.End f = Ends f
control_effect s p seen control.Return f = return_function f
control_effect s p seen control.ReturnTunnel f = return_tunnel s f
control_effect s p seen control.Thread f = Forks f
control_effect s p seen control.ChoiceCount f = push_choice_count seen f
control_effect s p seen control.Turn f = push_turn s seen f
control_effect s p seen control.Turns f = push_turns s seen f
control_effect s p seen control.ReadCount f = push_read_count s seen f
control_effect s p seen control.Visit f = push_visit s seen p f

-- of content that holds no other, at a place. A call of an external function is performed apart (`performed`).
abbrev pub leaf_effect : StoryTree → List Part → Context → Leaf → Fields → Effect
leaf_effect s p seen (leaves.Text t) f = write_text t f
leaf_effect s p seen leaves.Newline f = write_newline f
leaf_effect s p seen leaves.Glue f = write_glue f
leaf_effect s p seen (leaves.Tag t) f = write_tag t f
leaf_effect s p seen (leaves.Int z) f = push_value (value.Int z) f
leaf_effect s p seen (leaves.Bool truth) f = push_value (value.Bool truth) f
leaf_effect s p seen leaves.Void f = push_value value.Void f
leaf_effect s p seen (leaves.Target text) f = push_value (value.Target (path_of text)) f
leaf_effect s p seen (leaves.Control o) f = control_effect s p seen o f
leaf_effect s p seen (leaves.Op o) f = operate o f
leaf_effect s p seen (leaves.Divert to conditional) f = divert s p seen to conditional f
leaf_effect s p seen (leaves.Declare name) f = declare Global name seen f
leaf_effect s p seen (leaves.Assign name) f = assign name seen f
leaf_effect s p seen (leaves.Variable name) f = push_variable name seen f
leaf_effect s p seen (leaves.Pointer name frame) f = push_pointer name frame seen f
leaf_effect s p seen (leaves.Call to conditional) f = call Function s p seen to conditional f
leaf_effect s p seen (leaves.Tunnel to conditional) f = call Tunnel s p seen to conditional f
leaf_effect s p seen (leaves.External name arguments conditional) f = Moves f
leaf_effect s p seen (leaves.DeclareTemp name) f = declare Temporary name seen f
leaf_effect s p seen (leaves.AssignTemp name) f = assign name seen f
leaf_effect s p seen (leaves.Count text) f = push_count s seen p text f
leaf_effect s p seen (leaves.Choice text flags) f = offer s p seen text flags f

-- of what stands at a place: an empty container, or nothing, has none
abbrev pub effect : StoryTree → List Part → Option StoryTree → Context → Fields → Effect
effect s p None seen f = Moves f
effect s p (Some (container name flags content named)) seen f = Moves f
effect s p (Some (leaf l)) seen f = leaf_effect s p seen l f

-- A step comes to an outcome; or a turn function is to be called by a configuration, after which it has these fields, with the
-- arguments taken.
pub data Stepped : Type 0 where
  Comes : (outcome : Outcome) → Stepped
  Wants : (name : List ℕ) → (arguments : List Value) → (after : Fields) → (calling : Configuration) → Stepped

-- flow moves after an effect; where it stops so, it may follow a choice
abbrev pub acted : StoryTree → Effect → Configuration → Outcome
acted s e c = following s (move s e c)

abbrev pub call_made : StoryTree → CallEffect → Configuration → Stepped
call_made s (Acts e) c = Comes (acted s e c)
call_made s (Suspends name arguments f) c = Wants name arguments f c

-- what stands at a place is performed: a call, or other content
abbrev pub performed : StoryTree → Bound → List Part → Option StoryTree → Option Call → Configuration → Stepped
performed s b p found None c = Comes (acted s (effect s p found (context_of c) (fields_of c)) c)
performed s b p found (Some k) c = call_made s (call_external s b k.name k.arguments k.conditional (fields_of c)) c

-- flow is at the place of the first content
abbrev pub perform : StoryTree → Bound → List Part → Configuration → Stepped
perform s b p c = performed s b p (at s p) (call_at (at s p)) c

-- as a step at a place performs: the containers on the way down are entered, and flow is at the first content
abbrev pub gone_in : StoryTree → List Part → Configuration → Configuration
gone_in s p c = put_at (Some (content_place s p)) (entering_at s p c)

abbrev pub step_at : StoryTree → Bound → Option (List Part) → Configuration → Stepped
step_at s b None c = Comes (Stop c)
step_at s b (Some p) c = perform s b (content_place s p) (gone_in s p c)

-- One step goes down to the first content, performs it and moves; where flow stops so, it may follow a choice. Where flow had
-- stopped before it stays stopped.
unfoldable pub step : StoryTree → Bound → Configuration → Stepped
step s b c = step_at s b (current_place c) c
