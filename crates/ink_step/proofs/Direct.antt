-- Content with a way of its own, which changes the evaluation stack and the text alone before flow is sent on.
use Rattle.std.proofs.Common.{◌≡◌, ap, refl, sym, Bool, List, Some, Result, Ok, Err}
use Rattle.ink_step.proofs.Common.{Effect, fields_of, move, move_asks, acted, StoryTree, at, Leaf, Fault, Part, Performs, Transfer, pressed, config_of, StepEnd, Machine, leaf_in}
use Rattle.ink_model.specs.Story.Acceptance.{content_target, leaf_target, written_target}
use Rattle.ink_effects.proofs.Plain.{IsPlain, keeps_plain, offers_plain, stores_plain}
use Rattle.ink_out.specs.Writing.{Writing}
use Rattle.ink_step.proofs.Finished.{leaf_there}
use Rattle.ink_step.proofs.Follows.{ends_more, ends_unperformed}
use Rattle.ink_step.proofs.Stopping.{broke}
use Rattle.ink_step.specs.Finishes.{Acts, Finishes}
use Rattle.ink_value.specs.Stack.{Stack}

module _ (s : StoryTree) (old : Machine) (stack : Stack) (output : Writing) (asking : Bool) (e : Effect) (plain : IsPlain e) where
  abbrev performed : Machine
  performed = record old { flow = record old.flow { stack = stack }; output = output }

  -- then it acts so
  pub acts_so : (t : Transfer) (new : Machine) (r : Result StepEnd Fault) → Performs s asking e (fields_of (config_of s performed)) (Ok t) → Finishes s performed t new r → Acts s asking e old new r
  acts_so t new r performs finishes =
      let threads = old.flow.threads.threads in
      finishes old asking e performs (keeps_plain s e threads threads plain refl) (offers_plain s e old.flow.choices.items plain) refl refl refl refl (λ marked. stores_plain e asking plain)

  -- or it faults
  pub breaks_so : (f : Fault) → Performs s asking e (fields_of (config_of s performed)) (Err f) → Acts s asking e old performed (Err f)
  breaks_so f performs =
      let before = config_of s old in
      let after = config_of s performed in
      ends_more (pressed s performed) _ (acted s e before) before.shared.globals after (Err f)
      (broke s _ (move s e before) _ after f (ends_unperformed s asking (move_asks s e before) e _ before after before.shared.globals f performs refl))

-- where it leads by a written path
pub leads_there : (s : StoryTree) (p : List Part) (l : Leaf) → Some l ≡ leaf_in (at s p) → written_target s p ≡ leaf_target s p l
unfolding written_target
leads_there s p l stands = ap (content_target s p) (sym (leaf_there (at s p) l (sym stands)))
