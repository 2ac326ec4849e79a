use Rattle.std.proofs.Common.{◌≤◌, ◌<◌, ◌∙◌, subst}
use Rattle.ink_model.specs.declared.limits.TheConstants.{MAX_CHOICES}
use Rattle.ink_choice.proofs.Lists.{not_too_many, too_many}
use Rattle.ink_choice.proofs.choices.Choices.from_vec.Goals as goal

pub returns-then-len-le-MAX_CHOICES-clause-items : goal.returns-then-len-le-MAX_CHOICES-clause-items
returns-then-len-le-MAX_CHOICES-clause-items g c = not_too_many c.args.items.items (subst (λ n. n ≤ MAX_CHOICES) (c.len.ensures ∙ c.args.items.ok.0) c.if-len-le-MAX_CHOICES.true)

pub returns-else-len-le-MAX_CHOICES-clause-items : goal.returns-else-len-le-MAX_CHOICES-clause-items
returns-else-len-le-MAX_CHOICES-clause-items g c = too_many c.args.items.items (subst (λ n. MAX_CHOICES < n) (c.len.ensures ∙ c.args.items.ok.0) c.if-len-le-MAX_CHOICES.false)
