-- What a running command comes to, from the run that it makes.
use Rattle.std.proofs.Common.{◌≡◌, ◌∙◌, ◌⊎◌, ap, sym, refl, subst, inl, inr, List, [], true, false, true≢false, Some, Result, Ok, Err}
use Rattle.ink_look.specs.Extents.{RunsBy}
use Rattle.ink_look.specs.declared.passages.Extent.TheVariants.{Stop}
use Rattle.ink_look.proofs.Common.{said, said_asks, Said, Bound, StoryTree, Fault, OutOfMemory}
use Rattle.ink_model.specs.Run.Configuration.{Configuration, begun, settled}
use Rattle.ink_model.specs.Memory.Refusals.{CallsAt, FallsShort, GetsTo}
use Rattle.ink_model.specs.Run.Moments.{Broke, EndsThrough, Kept, Made, Moment, RunEnd, Stopped, answers_of, cut_off, end_of, moment, through}
use Rattle.ink_model.specs.declared.limits.TheConstants.{MAX_STEPS}
use Rattle.ink_step.specs.Runs.{RunFalls}

module _ (s : StoryTree) (b : Bound) (made : List Made) (c begin : Configuration) (begins : begin ≡ begun c) where
  abbrev Ran : Configuration → Result Said Fault → Type 0
  Ran new result = RunsBy said said_asks Stop s b c made new result

  ended : (m : Moment) → cut_off (moment s b begin (answers_of made) MAX_STEPS) ≡ m → through s b c (answers_of made) ≡ m
  ended m h = ap (λ d. cut_off (moment s b d (answers_of made) MAX_STEPS)) (sym begins) ∙ h

  -- its run ends so
  ends_through : (m : Moment) (end : RunEnd) → cut_off (moment s b begin (answers_of made) MAX_STEPS) ≡ m → end_of m ≡ Some (end, made) → EndsThrough s b c made end
  ends_through m end h is = ap end_of (ended m h) ∙ is

  pub comes_to : (stop new : Configuration) (w : Said) → moment s b begin (answers_of made) MAX_STEPS ≡ Stopped stop [] made
      → w ≡ said stop → new ≡ settled stop → Ran new (Ok w)
  comes_to stop new w h is settles = inl (Kept stop, ends_through _ (Kept stop) (ap cut_off h) refl, (is, settles))

  -- memory was refused to a step of the run
  fell : (new : Configuration) → GetsTo s b begin made new ⊎ CallsAt s b begin made new → FallsShort s b c made new.shared.globals
  fell new there = record {
    reached = new;
    got_there = subst (λ d. GetsTo s b d made new ⊎ CallsAt s b d made new) begins there;
    leaves = refl;
  }

  pub comes_to_fault : (new : Configuration) (f : Fault) → RunFalls s b false false begin made new.shared.globals f → Ran new (Err f)
  comes_to_fault new f h = elim h.why [
    | inl faults ↦ inl (Broke f h.before.shared.globals, ends_through _ _ faults refl, (inl refl, h.kept))
    | inr short ↦ elim short.1 [
      | inl there ↦ inr (ap Err short.0, subst (FallsShort s b c made) (sym h.kept) (fell h.before there))
      | inr by ↦ elim by [ inl takes ↦ absurd (true≢false (sym takes.1)) | inr pressing ↦ absurd (true≢false (sym pressing.1)) ]
    ]
  ]

  -- memory was refused for what was said
  pub falls_after : (stop : Configuration) → moment s b begin (answers_of made) MAX_STEPS ≡ Stopped stop [] made → said_asks stop ≡ true → Ran stop (Err OutOfMemory)
  falls_after stop h asks = inl (Kept stop, ends_through _ (Kept stop) (ap cut_off h) refl, ((refl, asks), refl))
