-- A story that was opened before opens, unless memory is refused.
use Rattle.std.proofs.Common.{◌≡◌, ◌∙◌, ap, inl, inr, sym, true, true≢false, is_ok}
use Rattle.ink_model.specs.Memory.Refusals.{OpensShort}
use Rattle.ink_model.specs.Run.Opening.{opening}
use Rattle.ink_model.specs.Variables.Store.{Values}
use Rattle.ink_model.specs.Story.Tree.{StoryTree}
use Rattle.ink_model.specs.declared.fault.Fault.{Fault}
use Rattle.ink_step.specs.Steps.{FailsToOpen}

pub opens-short : (s : StoryTree) (f : Fault) (globals : Values) → is_ok (opening s) ≡ true → FailsToOpen s f globals → OpensShort s
opens-short s f globals opens (inl fails) = absurd (true≢false (sym opens ∙ ap (λ r. is_ok r) fails))
opens-short s f globals opens (inr short) = short.1.0
