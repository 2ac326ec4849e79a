use Rattle.std.proofs.Common.{◌≡◌, ◌∙◌, ◌∷◌, ◌<◌, ◌≤◌, ap, arith, length, sym, subst}
use Rattle.ink_stack.proofs.Common.{length-reverse, is_function}
use Rattle.ink_stack.specs.Cells.{holds_of}
use Rattle.ink_stack.proofs.Numbers.{none_numbered, numbered_below, number_below}
use Rattle.ink_stack.proofs.running.Running.is_function.Goals.{then-number-eq0-via-then-number-eq0, then-number-eq0-via-else-number-eq0+then-number-frames-2}
use Rattle.ink_stack.proofs.running.Running.is_function.Goals as goal

pub returns-then-number-eq0 : goal.returns-then-number-eq0
returns-then-number-eq0 g c =
    let frames = c.args.self.now.thread.frame ∷ c.args.self.now.thread.below in
    sym (ap (λ f. holds_of (λ h. is_function h.kind) f) (none_numbered frames c.args.number (elim c.then-number-eq0.branch [
      | then-number-eq0-via-then-number-eq0 w ↦ λ k less. omega arith
      | then-number-eq0-via-else-number-eq0+then-number-frames-2 w ↦ λ k less. omega arith
    ])))

pub returns : goal.returns
returns g c =
    let items = c.self.inside.below.items in
    let d = c.self.inside.frame in
    let count : length c.args.self.now.thread.below ≡ length items = rw (← c.self.view_is) (length-reverse items) in
    let above : 0 < c.args.number = omega arith in
    let within : c.args.number ≤ length items = omega (arith, count) in
    rw (← c.self.view_is) (c.is_function-2.ensures d ∙ sym (ap (λ f. holds_of (λ h. is_function h.kind) f) (numbered_below d items c.args.number d above within)))

pub is_function-requires-2 : goal.is_function-requires-2
is_function-requires-2 g c =
    number_below c.args.self.now.thread c.self.inside.below.items c.args.number (ap (λ v. v.thread.below) c.self.view_is)
    (subst (λ n. c.args.number ≤ n) c.frames-else-number-eq0.ensures.count c.if-number-frames-2.false) (λ is. c.if-number-frames.false (is ∙ sym c.frames.ensures.count)) c.if-number-eq0.false
