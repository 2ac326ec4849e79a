use Rattle.std.proofs.Common.{subst, sym}
use Rattle.ink_check.specs.Standing.{story_tree}
use Rattle.ink_step.specs.Finishes.{Finishes}
use Rattle.ink_step.proofs.machine.Machine.finish.Goals as goal

pub returns-in-Wrote-clause-ends : goal.returns-in-Wrote-clause-ends
returns-in-Wrote-clause-ends c =
    subst (λ t. Finishes (story_tree c.args.story.now) c.args.self.now t c.finish_text.new.self c.finish_text.result) (sym c.in-Wrote.is) c.finish_text.ensures.ends

pub returns-in-Land-clause-ends : goal.returns-in-Land-clause-ends
returns-in-Land-clause-ends c = c.finish_other.ensures.ends

pub returns-in-Next-clause-ends : goal.returns-in-Next-clause-ends
returns-in-Next-clause-ends c =
    subst (λ t. Finishes (story_tree c.args.story.now) c.args.self.now t c.finish_next.new.self c.finish_next.result) (sym c.in-Next.is) c.finish_next.ensures.ends

pub returns-in-Fork-clause-ends : goal.returns-in-Fork-clause-ends
returns-in-Fork-clause-ends c =
    subst (λ t. Finishes (story_tree c.args.story.now) c.args.self.now t c.finish_fork.new.self c.finish_fork.result) (sym c.in-Fork.is) c.finish_fork.ensures.ends

pub returns-in-Done-clause-ends : goal.returns-in-Done-clause-ends
returns-in-Done-clause-ends c =
    subst (λ t. Finishes (story_tree c.args.story.now) c.args.self.now t c.finish_done.new.self c.finish_done.result) (sym c.in-Done.is) c.finish_done.ensures.ends

pub returns-in-Store-clause-ends : goal.returns-in-Store-clause-ends
returns-in-Store-clause-ends c = c.finish_stored.ensures.ends
