use Rattle.std.proofs.Common.{◌∙◌, ap, sym}
use Rattle.ink_look.specs.Looking.{found_of, newline_from}
use Rattle.ink_look.proofs.Marks.{back_here}
use Rattle.ink_look.proofs.looking.found.Goals as goal

pub returns-in-Some-clause-found : goal.returns-in-Some-clause-found
returns-in-Some-clause-found c s = ap found_of (sym c.in-Some.is ∙ c.newline_since.ensures ∙ ap (λ d. newline_from c.args.marks d.page) (c.parts.ensures.config s))

pub returns-in-None-clause-found : goal.returns-in-None-clause-found
returns-in-None-clause-found c s = ap found_of (sym c.in-None.is ∙ c.newline_since.ensures ∙ ap (λ d. newline_from c.args.marks d.page) (c.parts.ensures.config s))

-- a mark begins where flow is
pub returns-in-Some-clause-here : goal.returns-in-Some-clause-here
returns-in-Some-clause-here c s = back_here s c.args.machine.now c.mark.new.self c.mark.ensures.mark (c.mark.ensures.config s)

pub returns-in-Some-clause-waits : goal.returns-in-Some-clause-waits
returns-in-Some-clause-waits c = (c.args.machine.now, c.mark.ensures.mark)
