use Rattle.std.proofs.Common.{◌∙◌, ap, is_none, OnErr, Result, Ok, Err}
use Rattle.std.specs.Option.{option_map}
use Rattle.ink_check.specs.Standing.{story_tree}
use Rattle.ink_flows.proofs.Mapped.{at_seen}
use Rattle.ink_step.specs.Standing.{flow_of}
use Rattle.ink_step.proofs.machine.Machine.flow.Goals as goal

whatever : {A E : Type 0} (r : Result A E) (X : Type 0) → X → OnErr r X
whatever (Ok a) X x = tt
whatever (Err e) X x = x

pub returns-in_err-go-clause-memory : goal.returns-in_err-go-clause-memory
returns-in_err-go-clause-memory c =
    let seen = flow_of (story_tree c.args.story.now) in
    whatever c.from_residual.result _ (ap is_none (at_seen seen c.args.name.now c.args.self.now.aside ∙ ap (option_map (option_map seen)) c.in_err-go.ensures.memory))
