use Rattle.std.proofs.Common.{◌≡◌, ◌∙◌, ap, is_some, not, subst, sym, true}
use Rattle.ink_out.specs.declared.walk.Walk.{Walk}
use Rattle.ink_out.proofs.Walking.{Past, walk_behind, walk_newline}
use Rattle.ink_out.proofs.walk.Walk.newline.Goals as goal
use Rattle.ink_out.proofs.walk.Walk.newline.Goals.{then-is_none+in_ok-push, else-is_none}

pub returns : goal.returns
returns c cleans starts before at k =
    let old = c.args.self.now in
    let next = c.newline.new.self in
    elim c.if-is_none.branch [
      | then-is_none+in_ok-push w ↦
          subst (Past cleans starts before next) (sym w.self-is)
          (subst (λ held. Past cleans starts before next record { tracker = old.tracker; passed = old.passed; glue = old.glue; held = held; shown = old.shown }) (sym w.in_ok-push.ensures)
          (λ tracks. walk_newline before old next c.args.at at tracks k)) (λ settled. c.newline.ensures.tracks before settled at)
      | else-is_none w ↦
          let waits = subst (λ (now : Walk). is_some now.tracker.newline ≡ true → next.newline ≡ now.tracker.newline) w.self-is c.newline.ensures.waits in
          subst (Past cleans starts before next) (sym w.self-is)
          (λ tracks. walk_behind before old next (waits (c.is_none.ensures ∙ ap not w.if-is_none.false)) tracks k) (λ settled. c.newline.ensures.tracks before settled at)
    ]
