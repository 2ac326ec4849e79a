use Rattle.std.proofs.Common.{◌≡◌, ◌∙◌, ◌<◌, ◌++◌, ◌∷◌, [], ap, arith, cond, filter, length, string_bytes, sym, take}
use Rattle.std.proofs.lemmas.List.{append-nil}
use Rattle.ink_host.proofs.TellingLoops.{filter-next, found-watched, watched-some}
use Rattle.ink_host.proofs.TellingRows.{if_err}
use Rattle.ink_model.specs.declared.host.Change.{Change}
use Rattle.ink_host.specs.Desk.{entries_as_rows, watches}
use Rattle.ink_host.proofs.telling.watched_among.Goals.{then-contains_key+in_ok-copied+in_ok-push, else-contains_key}
use Rattle.ink_host.proofs.telling.watched_among.Goals as goal

pub returns-in_err-copied-clause-err : goal.returns-in_err-copied-clause-err
returns-in_err-copied-clause-err g c =
    if_err c.from_residual.result
    (watched-some c.args.watchers.now.entries c.as_str.result.now c.args.changes.now c.loop-change.change-index c.change-item.result (omega arith) c.change-item.is
    c.as_str.ensures (sym c.contains_key.ensures ∙ c.if-contains_key.true))

pub returns-in_err-push-clause-err : goal.returns-in_err-push-clause-err
returns-in_err-push-clause-err g c =
    if_err c.from_residual-in_err-push.result
    (watched-some c.args.watchers.now.entries c.as_str.result.now c.args.changes.now c.loop-change.change-index c.change-item.result (omega arith) c.change-item.is
    c.as_str.ensures (sym c.contains_key.ensures ∙ c.if-contains_key.true))

pub loop-change-preserved : goal.loop-change-preserved
loop-change-preserved g c =
    let es = c.args.watchers.now.entries in
    let x = c.change-item.result in
    let cs = c.args.changes.now in
    let i = c.loop-change.change-index in
    let inside : i < length cs = omega arith in
    let test = λ (d : Change). watches (entries_as_rows string_bytes (λ w. w) es) d.name in
    let same : test x ≡ c.contains_key.result = ap (watches (entries_as_rows string_bytes (λ w. w) es)) (sym c.as_str.ensures) ∙ sym (found-watched c.as_str.result.now es) ∙ sym c.contains_key.ensures in
    let next = filter-next test cs i x inside c.change-item.is in
    elim c.if-contains_key.branch [
      | then-contains_key+in_ok-copied+in_ok-push w ↦
          ap (λ v. v.items) w.told-is
          ∙ w.in_ok-push.ensures.items
          ∙ ap (λ d. c.loop-change.told.items ++ d ∷ []) w.in_ok-copied.ensures
          ∙ ap (λ xs. xs ++ x ∷ []) c.loop-change.invariant
          ∙ sym (ap (λ b. filter test (take i cs) ++ cond b (x ∷ []) []) (same ∙ w.if-contains_key.true))
          ∙ next
      | else-contains_key w ↦
          ap (λ v. v.items) w.told-is
          ∙ c.loop-change.invariant
          ∙ sym (append-nil (filter test (take i cs)))
          ∙ sym (ap (λ b. filter test (take i cs) ++ cond b (x ∷ []) []) (same ∙ w.if-contains_key.false))
          ∙ next
    ]
