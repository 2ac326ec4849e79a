-- What a line comes to, from the search that is made for it.
use Rattle.std.proofs.Common.{◌≡◌, ap, refl, subst, inl, inr, ℕ, List, [], Bool, true, false, Ok}
use Rattle.ink_model.specs.Run.Line.{Line}
use Rattle.ink_host.specs.Desk.{DeskView}
use Rattle.ink_look.specs.LineEnds.{ComesToLine, LineFalls, LineShort, LineStopsAtRefusal, RunsLine, RunsToLine, SaysLine}
use Rattle.ink_look.proofs.Common.{said, said_asks, Bound, StoryTree, Fault}
use Rattle.ink_look.specs.declared.lines.LineEnd.{LineEnd}
use Rattle.ink_look.specs.declared.lines.LineEnd.TheVariants as line_ends
use Rattle.ink_model.specs.Run.Configuration.{Configuration, begun}
use Rattle.ink_model.specs.Run.Moments.{Broke, Kept, Made, Moment, At, Stopped, Faulted, answers_of}
use Rattle.ink_effects.specs.Refusals.{KeepsRefusals}

module _ (s : StoryTree) (b : Bound) (made : List Made) (c start : Configuration) (is : start ≡ begun c) where
  abbrev pub Ran : Configuration → LineEnd → Type 0
  Ran new result = RunsLine said said_asks s b c made new result

  line_to : (x : Moment) → ComesToLine s b start made x → Line s b c (answers_of made) x
  line_to x h = subst (λ d. ComesToLine s b d made x) is h

  pub says : (is_cut : Bool) (stop new : Configuration) (result : LineEnd) → RunsToLine s b start made stop (Ok is_cut) → SaysLine said said_asks is_cut stop new result → Ran new result
  says true stop new result h said = inl (Kept stop, (At stop [] made, line_to (At stop [] made) h, refl), said.0, said.1)
  says false stop new result h said = inl (Kept stop, (Stopped stop [] made, line_to (Stopped stop [] made) h, refl), said.0, said.1)

  pub falls : (f : Fault) (new : Configuration) → LineFalls s b start made new.shared.globals f → Ran new (line_ends.Fault f)
  falls f new h = elim h.why [
    | inl faults ↦ inl (Broke f h.kept.shared.globals, (Faulted f h.kept [] made, line_to (Faulted f h.kept [] made) faults, refl), tt, (inl refl, h.leaves))
    | inr short ↦ inr (ap line_ends.Fault short.0, record { kept = h.kept; got_there = subst (λ d. LineShort s b d made h.kept) is short.1; leaves = h.leaves })
  ]

-- whatever a line ends with
pub line_kept : {P T W : Type 0} (refusals : T → ℕ) (old new : DeskView P T W) (end : LineEnd) → KeepsRefusals refusals old new → LineStopsAtRefusal refusals old new end
line_kept refusals old new (line_ends.Line said) kept = kept
line_kept refusals old new (line_ends.Stopped said) kept = kept
line_kept refusals old new (line_ends.Fault f) kept = inl kept
