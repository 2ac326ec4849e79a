use Rattle.ink_look.proofs.Saying.{asks_tags, asks_text, on_error, said_is}
use Rattle.ink_look.proofs.said.said_by.Goals as goal
use Rattle.ink_step.specs.Standing.{config_of}

pub returns-clause-said : goal.returns-clause-said
returns-clause-said c s = said_is (config_of s c.args.machine.now) _ _ (c.in_ok-text.ensures.text s) (rw c.said_text.ensures.same at c.in_ok-tags.ensures.tags s)

pub returns-in_err-text-clause-memory : goal.returns-in_err-text-clause-memory
returns-in_err-text-clause-memory c s = on_error c.from_residual.result (asks_text (config_of s c.args.machine.now) (c.in_err-text.ensures.memory s))

pub returns-in_err-tags-clause-memory : goal.returns-in_err-tags-clause-memory
returns-in_err-tags-clause-memory c s =
    on_error c.from_residual-in_err-tags.result (asks_tags (config_of s c.args.machine.now) (λ none. (let has_none = (rw c.said_text.ensures.same at c.in_err-tags.ensures.none s) none in absurd (cc))))
