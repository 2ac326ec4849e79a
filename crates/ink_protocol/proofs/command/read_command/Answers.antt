use Rattle.std.proofs.Common.{rules, codes, ◌≡◌, IfOk, OnErr, subst, sym, ap, true, ◌∙◌, option_map}
use Rattle.ink_model.specs.Protocol.Command.{command_asks, command_word}
use Rattle.ink_protocol.specs.Commands.{command_by}
use Rattle.ink_protocol.proofs.Commands.{asks_on_err, command_of_text, command_of_no_text, continue_line}
use Rattle.ink_protocol.proofs.command.read_command.Goals as goal

pub returns-then-eq-clause-command : goal.returns-then-eq-clause-command
returns-then-eq-clause-command c =
    let same : c.args.line.now ≡ codes "continue" = search rules in
    sym (continue_line c.args.line.now same)

pub returns-in-Ok-clause-command : goal.returns-in-Ok-clause-command
returns-in-Ok-clause-command c =
    subst (λ k. IfOk c.command_in.result (λ command. option_map command_by command ≡ k)) (ap command_word c.in-Ok.ensures.cases.0 ∙ sym (command_of_text _ c.in-Ok.ensures.cases.1))
    c.command_in.ensures.command

pub returns-in-Ok-clause-memory : goal.returns-in-Ok-clause-memory
returns-in-Ok-clause-memory c =
    asks_on_err _ c.command_in.result c.in-Ok.ensures.cases.1 (subst (λ l. OnErr c.command_in.result (command_asks l ≡ true)) c.in-Ok.ensures.cases.0 c.command_in.ensures.memory)

pub returns-in-Err : goal.returns-in-Err
returns-in-Err c = record { command = sym (command_of_no_text _ c.in-Err.ensures.cases.0); memory = tt }
