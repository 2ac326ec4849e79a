use Rattle.std.proofs.Common.{◌≡◌, ◌∙◌, ap, arith, length, refl, reverse, subst, sym}
use Rattle.ink_stack.proofs.Common.{OnTrue_at, length-reverse, BaseFirst, stale_run}
use Rattle.ink_stack.proofs.Bases.{base_same, base_stale, stale_kind}
use Rattle.ink_stack.proofs.Quietness.{quiet_run}
use Rattle.ink_stack.proofs.Runs.{length-run}
use Rattle.ink_stack.proofs.running.Running.end_freshness.Goals as goal

pub returns-then-not-quiet : goal.returns-then-not-quiet
returns-then-not-quiet g c = rw (← c.self.view_is) (rw (c.end_freshness.ensures, c.end_freshness_of-self-inside.ensures.run, c.end_freshness_of-self-inside.ensures.room) refl)

pub returns-else-not-quiet : goal.returns-else-not-quiet
returns-else-not-quiet g c =
    let below = reverse c.self.inside.below.items in
    let quiet = rw (← c.self.view_is) at (OnTrue_at c.if-not-quiet.false c.is_quiet-quiet.ensures) in
    rw (← c.self.view_is) (rw (c.end_freshness.ensures, quiet_run c.args.depth below quiet) refl)

pub invariant_of-self : goal.invariant_of-self
invariant_of-self g c =
    let depth = c.args.depth in
    let old = c.self.inside.below.items in
    let new = c.end_freshness_of-self-inside.new.frames.items in
    let top = c.end_freshness.new.self in
    let run : reverse new ≡ stale_run depth (reverse old) = c.end_freshness_of-self-inside.ensures.run in
    let many : length new ≡ length old = omega (arith, length-reverse new, ap length run, length-run depth (reverse old), length-reverse old) in
    let kind : top.kind ≡ c.self.inside.frame.kind = ap (λ f. f.kind) c.end_freshness.ensures ∙ stale_kind depth c.self.inside.frame in (
      omega (arith, many, c.self.invariant.0),
      c.end_freshness_of-self-inside.ensures.quiet,
      subst (λ fs. BaseFirst top.kind fs) (sym run)
          (base_same c.self.inside.frame.kind top.kind (stale_run depth (reverse old)) kind (base_stale depth c.self.inside.frame.kind (reverse old) c.self.invariant.2)),
      c.end_freshness_of-self-inside.ensures.settled c.self.inside.settled c.self.invariant.3,
    )
