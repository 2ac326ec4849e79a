use Rattle.std.proofs.Common.{◌∙◌, ap}
use Rattle.ink_model.specs.Run.Flows.{Game, first_flow, with_flows}
use Rattle.ink_step.specs.Standing.{aside_of, config_of, game_of}
use Rattle.ink_step.specs.declared.machine.Machine.{Machine}
use Rattle.ink_step.proofs.machine.Machine.drop_flow.Goals as goal

pub returns-clause-game : goal.returns-clause-game
returns-clause-game c = λ s.
    let m = c.args.self.now in
    let mid : Machine = record m { flow = c.drop_flow.new.current; aside = c.drop_flow.new.self } in
    ap (λ x. let g : Game = record { now = x; aside = aside_of s c.forget.new.self.aside } in g) (c.forget.ensures.config s)
    ∙ ap (λ a. let g : Game = record { now = config_of s mid; aside = aside_of s a } in g) c.forget.ensures.aside
    ∙ ap (λ fs. with_flows fs (game_of s m)) (c.drop_flow.ensures s (first_flow s))
