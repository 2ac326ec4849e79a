use Rattle.std.proofs.Common.{◌≡◌, ◌∙◌, IfOk, OnErr, option_map, subst, sym, true}
use Rattle.ink_protocol.specs.Commands.{command_by}
use Rattle.ink_protocol.proofs.Commands.{choose_word, drop_word, flow_word, get_word, jump_word, load_word, no_word, restart_word, save_word, set_word, set_word_asks, through_word, visits_word}
use Rattle.ink_protocol.proofs.command.command_in.Goals as goal

pub returns-in-Some-clause-command : goal.returns-in-Some-clause-command
returns-in-Some-clause-command c = c.get_command.ensures ∙ sym (get_word c.args.text.now c.in-Some.name.now (sym c.in-Some.ensures))

pub returns-in-Some-after-clause-command : goal.returns-in-Some-after-clause-command
returns-in-Some-after-clause-command c =
    subst (λ k. IfOk c.set_line.result (λ command. option_map command_by command ≡ k)) (sym (set_word c.args.text.now c.in-Some-after.rest.now (sym c.in-Some-after.ensures))) c.set_line.ensures.command

pub returns-in-Some-after-clause-memory : goal.returns-in-Some-after-clause-memory
returns-in-Some-after-clause-memory c =
    subst (λ b. OnErr c.set_line.result (b ≡ true)) (sym (set_word_asks c.args.text.now c.in-Some-after.rest.now (sym c.in-Some-after.ensures))) c.set_line.ensures.memory

pub returns-in-Some-after-2-clause-command : goal.returns-in-Some-after-2-clause-command
returns-in-Some-after-2-clause-command c = c.visits_command.ensures ∙ sym (visits_word c.args.text.now c.in-Some-after-2.path.now (sym c.in-Some-after-2.ensures))

pub returns-in-Some-after-3-clause-command : goal.returns-in-Some-after-3-clause-command
returns-in-Some-after-3-clause-command c = c.choose_command.ensures ∙ sym (choose_word c.args.text.now c.in-Some-after-3.number.now (sym c.in-Some-after-3.ensures))

pub returns-in-Some-after-4-clause-command : goal.returns-in-Some-after-4-clause-command
returns-in-Some-after-4-clause-command c = c.jump_command.ensures ∙ sym (jump_word c.args.text.now c.in-Some-after-4.path.now (sym c.in-Some-after-4.ensures))

pub returns-in-Some-after-5-clause-command : goal.returns-in-Some-after-5-clause-command
returns-in-Some-after-5-clause-command c = c.load_command.ensures ∙ sym (load_word c.args.text.now c.in-Some-after-5.json.now (sym c.in-Some-after-5.ensures))

pub returns-in-Some-after-6-clause-command : goal.returns-in-Some-after-6-clause-command
returns-in-Some-after-6-clause-command c = c.flow_command.ensures ∙ sym (flow_word c.args.text.now c.in-Some-after-6.name.now (sym c.in-Some-after-6.ensures))

pub returns-in-Some-after-7-clause-command : goal.returns-in-Some-after-7-clause-command
returns-in-Some-after-7-clause-command c = c.drop_command.ensures ∙ sym (drop_word c.args.text.now c.in-Some-after-7.name.now (sym c.in-Some-after-7.ensures))

pub returns-then-eq-clause-command : goal.returns-then-eq-clause-command
returns-then-eq-clause-command c = through_word c.args.text.now (sym c.if-eq.ensures)

pub returns-then-eq-2-clause-command : goal.returns-then-eq-2-clause-command
returns-then-eq-2-clause-command c = save_word c.args.text.now (sym c.if-eq-2.ensures)

pub returns-then-eq-3-clause-command : goal.returns-then-eq-3-clause-command
returns-then-eq-3-clause-command c = restart_word c.args.text.now (sym c.if-eq-3.ensures)

pub returns-in-None-clause-command : goal.returns-in-None-clause-command
returns-in-None-clause-command c =
    no_word c.args.text.now c.requires (sym c.if-eq.ensures) (sym c.if-eq-2.ensures) (sym c.if-eq-3.ensures) (sym c.in_default.ensures) (sym c.in_default-after.ensures) (sym c.in_default-after-2.ensures)
    (sym c.in_default-after-3.ensures) (sym c.in_default-after-4.ensures) (sym c.in_default-after-5.ensures) (sym c.in_default-after-6.ensures) (sym c.in-None.ensures)
