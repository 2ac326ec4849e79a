use Rattle.std.proofs.Common.{◌≡◌, ◌∙◌, ◌++◌, ◌∷◌, ℕ, List, [], ap, refl, sym, true, false}
use Rattle.ink_host.specs.Desk.{watches}
use Rattle.ink_model.specs.Variables.Store.{stored}
use Rattle.ink_model.specs.Host.Told.{change_of, is_other}
use Rattle.ink_model.specs.declared.value.Value.{Value}
use Rattle.ink_vars.proofs.Noting.{on_error}
use Rattle.ink_told.proofs.Telling.{told_same, told_some, told_there, told_unwatched}
use Rattle.ink_told.proofs.told.told_one.Goals.{then-watches+then-is_other+in_ok-add_change, else-watches, else-watches-via-then-watches+else-is_other, else-watches-via-else-watches}
use Rattle.ink_told.proofs.told.told_one.Goals as goal

pub returns-clause-told : goal.returns-clause-told
returns-clause-told g c =
    let watched = watches c.args.desk.now.watchers in
    let old = c.args.globals.now.rows in
    let e : List ℕ × Value = (c.args.name.now, c.args.value.now) in
    c.from_vec.ensures ∙ elim c.if-watches.branch [
      | then-watches+then-is_other+in_ok-add_change w ↦
          let other : is_other (stored e.0 old) e.1 ≡ true = ap (λ o. is_other o e.1) (sym w.get.ensures) ∙ sym w.is_other.ensures ∙ w.if-is_other.true in
          ap (λ v. v.items) w.told-is ∙ w.in_ok-add_change.ensures ∙ ap (λ cs. cs ++ change_of e ∷ []) c.new-told.ensures.items
          ∙ sym (told_there watched old (e ∷ []) 0 e refl (sym c.watches.ensures ∙ w.if-watches.true) other)
      | else-watches w ↦ ap (λ v. v.items) w.told-is ∙ c.new-told.ensures.items ∙ elim w.else-watches.branch [
        | else-watches-via-then-watches+else-is_other v ↦
            let same : is_other (stored e.0 old) e.1 ≡ false = ap (λ o. is_other o e.1) (sym v.get.ensures) ∙ sym v.is_other.ensures ∙ v.if-is_other.false in
            sym (told_same watched old (e ∷ []) 0 e refl same)
        | else-watches-via-else-watches v ↦ sym (told_unwatched watched old (e ∷ []) 0 e refl (sym c.watches.ensures ∙ v.if-watches.false))
      ]
    ]

pub returns-in_err-add_change-clause-memory : goal.returns-in_err-add_change-clause-memory
returns-in_err-add_change-clause-memory g c =
    let old = c.args.globals.now.rows in
    let e : List ℕ × Value = (c.args.name.now, c.args.value.now) in
    let other : is_other (stored e.0 old) e.1 ≡ true = ap (λ o. is_other o e.1) (sym c.get.ensures) ∙ sym c.is_other.ensures ∙ c.if-is_other.true in
    on_error c.from_residual.result (told_some (watches c.args.desk.now.watchers) old (e ∷ []) 0 e refl (sym c.watches.ensures ∙ c.if-watches.true) other)
