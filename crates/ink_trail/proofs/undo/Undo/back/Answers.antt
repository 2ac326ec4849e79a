use Rattle.std.proofs.Common.{◌≡◌, ◌∙◌, ap, arith, length, rules, sym, unwrap_or}
use Rattle.ink_trail.specs.Undo.{stood, trail_of}
use Rattle.ink_trail.proofs.Parting.{stood-empty}
use Rattle.ink_trail.proofs.Undoing.{stood-back}
use Rattle.ink_trail.proofs.undo.Undo.back.Goals as goal
use Rattle.ink_trail.proofs.undo.Undo.back.Goals.{then-count-gt0, else-count-gt0}

pub returns-clause-cells : goal.returns-clause-cells
returns-clause-cells g c =
    let part = g.Self.Undo in
    let old = c.args.self.now in
    let all : part.cells c.if-count-gt0.self ≡ stood part.before (part.trail old) (part.cells old) = elim c.if-count-gt0.branch [
      | then-count-gt0 w ↦ ap part.cells w.self-is ∙ w.undo_all.ensures.cells
      | else-count-gt0 w ↦
          let none : length (trail_of (part.trail old).undo) ≡ 0 = search (rules, arith) in
          ap part.cells w.self-is ∙ stood-empty part.before (part.trail old) (part.cells old) none
    ] in
    c.forget.ensures.cells ∙ all ∙ stood-back part.before (part.trail old) (part.cells old)
    ∙ ap (λ o. unwrap_or o (part.cells old)) (sym (g.met.Self.Undo.stood_is old))
