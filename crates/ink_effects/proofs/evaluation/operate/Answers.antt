use Rattle.std.proofs.Common.{arith, inl, inr}
use Rattle.ink_effects.specs.Performs.{fields}
use Rattle.ink_effects.proofs.Effects.{operated}
use Rattle.ink_effects.proofs.evaluation.operate.Goals as goal

pub returns-clause-effect : goal.returns-clause-effect
returns-clause-effect c evaluating fresh page globals =
    operated _ _ (λ vs. fields evaluating fresh vs page globals) _ _ _ c.apply_top.ensures.stack
    (λ short. elim (c.apply_top.ensures.memory short) [ inl asks ↦ asks | inr few ↦ absurd (omega (arith, few, c.requires.room)) ])
