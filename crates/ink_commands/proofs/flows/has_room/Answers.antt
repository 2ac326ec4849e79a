use Rattle.std.proofs.Common.{◌∙◌, ◌||◌, ap, length, nat_lt, sym}
use Rattle.ink_model.specs.declared.limits.TheConstants.{MAX_FLOWS}
use Rattle.ink_step.specs.Standing.{game_of}
use Rattle.ink_commands.proofs.flows.has_room.Goals as goal

pub returns-then-has_flow : goal.returns-then-has_flow
returns-then-has_flow c = λ s.
    c.if-has_flow.true ∙ ap (λ b. b || nat_lt (length (game_of s c.args.machine.now).aside) MAX_FLOWS) (sym c.if-has_flow.true ∙ c.has_flow.ensures s)

pub returns-else-has_flow : goal.returns-else-has_flow
returns-else-has_flow c = λ s.
    ap (λ n. nat_lt n MAX_FLOWS) (c.flow_count.ensures s) ∙ ap (λ b. b || nat_lt (length (game_of s c.args.machine.now).aside) MAX_FLOWS) (sym c.if-has_flow.false ∙ c.has_flow.ensures s)
