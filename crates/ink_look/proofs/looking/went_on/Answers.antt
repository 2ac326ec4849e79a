use Rattle.std.proofs.Common.{◌∙◌, ap, sym}
use Rattle.ink_look.specs.Looking.{found_of, newline_from}
use Rattle.ink_look.proofs.Steps.{hidden_so}
use Rattle.ink_look.proofs.looking.went_on.Goals as goal
use Rattle.ink_model.specs.Text.Shown.{is_shown}
use Rattle.ink_look.proofs.Common.{config_back, config_of}

pub returns-in-Hidden-clause-looked : goal.returns-in-Hidden-clause-looked
returns-in-Hidden-clause-looked c s old count left made =
    hidden_so c.args.newline (config_back s c.args.machine.now) old (config_of s c.args.machine.now) (config_back s c.found.new.machine) (config_of s c.found.new.machine)
    (c.found.ensures.config s ∙ c.forget.ensures.config s) left made c.args.marks c.found.result count (sym (ap (λ d. is_shown d.page.line c.args.newline) (c.parts.ensures.config s)) ∙ c.in-Hidden.ensures)
    (c.found.ensures.found s ∙ ap (λ d. found_of (newline_from c.args.marks d.page)) (c.forget.ensures.config s)) (c.found.ensures.here s)
