-- The effect of any content fits, but for that of an external function's call, which is made apart.
use Rattle.std.proofs.Common.{arith, pos, length, ◌≡◌, ap, List, Option, Some, is_some}
use Rattle.ink_sound.proofs.Common.{Context, Fields, Leaf, Function, Tunnel, Part, Global, Temporary}
use Rattle.ink_model.specs.Run.Step.{control_effect, effect, leaf_effect}
use Rattle.ink_model.specs.Story.Tree.{StoryTree, leaf, at}
use Rattle.ink_model.specs.declared.content.Control.{Control}
use Rattle.ink_model.specs.declared.content.Control.TheVariants as control
use Rattle.ink_model.specs.declared.content.Leaf.TheVariants as leaves
use Rattle.ink_model.specs.declared.value.Value.TheVariants as value
use Rattle.ink_sound.specs.Kept.{ContextFits, EffectFits, FieldsFit, LeafFits, StoryFits}
use Rattle.ink_sound.proofs.Ints.{count_small}
use Rattle.ink_sound.proofs.Leads.{call_fits, divert_fits, return_function_fits, return_tunnel_fits}
use Rattle.ink_sound.proofs.Questions.{push_count_fits, push_read_count_fits, push_turn_fits, push_turns_fits, push_visit_fits}
use Rattle.ink_sound.proofs.Offers.{offer_fits}
use Rattle.ink_sound.proofs.Operators.{operate_fits}
use Rattle.ink_sound.proofs.Places.{Stands}
use Rattle.ink_sound.proofs.Texts.{begin_eval_fits, begin_string_fits, begin_tag_fits, duplicate_fits, end_eval_fits, end_string_fits, end_tag_fits, output_fits, pop_fits, write_glue_fits, write_newline_fits, write_tag_fits, write_text_fits}
use Rattle.ink_sound.proofs.Values.{pushing_fits}
use Rattle.ink_sound.proofs.Variables.{assign_fits, declare_fits, pointer_fits, push_value_fits, variable_fits}

module _ (s : StoryTree) (p : List Part) (seen : Context) (context : ContextFits s seen) (f : Fields) (h : FieldsFit s f) where
  control_fits : (c : Control) → EffectFits s (control_effect s p seen c f)
  control_fits control.BeginEval = begin_eval_fits s f h
  control_fits control.EndEval = end_eval_fits s f h
  control_fits control.Out = output_fits s f h
  control_fits control.Pop = pop_fits s f h
  control_fits control.Duplicate = duplicate_fits s f h
  control_fits control.BeginString = begin_string_fits s f h
  control_fits control.EndString = end_string_fits s f h
  control_fits control.BeginTag = begin_tag_fits s f h
  control_fits control.EndTag = end_tag_fits s f h
  control_fits control.Return = return_function_fits s f h
  control_fits control.ReturnTunnel = return_tunnel_fits s f h
  control_fits control.ChoiceCount = pushing_fits s (value.Int (pos (length seen.choices))) f (count_small (length seen.choices) (omega (arith, context.choices.few))) h
  control_fits control.Turn = push_turn_fits s seen context f h
  control_fits control.Turns = push_turns_fits s seen context f h
  control_fits control.ReadCount = push_read_count_fits s seen context f h
  control_fits control.Visit = push_visit_fits s seen context f h p
  control_fits c = h

  leaf_fits : (l : Leaf) → Stands s p → LeafFits s l → EffectFits s (leaf_effect s p seen l f)
  leaf_fits (leaves.Text t) stand k = write_text_fits s f h t k
  leaf_fits leaves.Newline stand k = write_newline_fits s f h
  leaf_fits leaves.Glue stand k = write_glue_fits s f h
  leaf_fits (leaves.Tag t) stand k = write_tag_fits s f h t
  leaf_fits (leaves.Int z) stand k = push_value_fits s seen context f h (value.Int z) k
  leaf_fits (leaves.Bool truth) stand k = push_value_fits s seen context f h (value.Bool truth) tt
  leaf_fits leaves.Void stand k = push_value_fits s seen context f h value.Void tt
  leaf_fits (leaves.Target text) stand k = push_value_fits s seen context f h _ k
  leaf_fits (leaves.Control o) stand k = control_fits o
  leaf_fits (leaves.Op o) stand k = operate_fits s o f h
  leaf_fits (leaves.Divert to conditional) stand k = divert_fits s p stand seen to conditional f h
  leaf_fits (leaves.Declare name) stand k = declare_fits s seen context f h Global name
  leaf_fits (leaves.Assign name) stand k = assign_fits s seen context f h name
  leaf_fits (leaves.Variable name) stand k = variable_fits s seen context f h name
  leaf_fits (leaves.Pointer name frame) stand k = pointer_fits s seen context f h name frame k
  leaf_fits (leaves.Call to conditional) stand k = call_fits s p stand seen Function to conditional f (λ e. absurd cc) h
  leaf_fits (leaves.Tunnel to conditional) stand k = call_fits s p stand seen Tunnel to conditional f (λ e. absurd cc) h
  leaf_fits (leaves.External name arguments conditional) stand k = h
  leaf_fits (leaves.DeclareTemp name) stand k = declare_fits s seen context f h Temporary name
  leaf_fits (leaves.AssignTemp name) stand k = assign_fits s seen context f h name
  leaf_fits (leaves.Count text) stand k = push_count_fits s seen context f h p text
  leaf_fits (leaves.Choice text flags) stand k = offer_fits s p stand seen context text flags f h

  -- of what stands at the place
  pub effect_fits : StoryFits s → (o : Option StoryTree) → at s p ≡ o → EffectFits s (effect s p o seen f)
  effect_fits story (Some (leaf l)) is = leaf_fits l (ap is_some is) (story.leaf_fits p l is)
  effect_fits story o is = h
