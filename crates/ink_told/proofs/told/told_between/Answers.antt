use Rattle.std.proofs.Common.{◌≡◌, ◌≢◌, ◌∙◌, ◌++◌, ◌∷◌, [], ap, arith, sym, take, true, false}
use Rattle.std.proofs.lemmas.List.{take_all}
use Rattle.ink_host.specs.Desk.{watches}
use Rattle.ink_model.specs.Variables.Store.{stored}
use Rattle.ink_model.specs.Host.Told.{change_of, is_other, told}
use Rattle.ink_vars.proofs.Noting.{on_error}
use Rattle.ink_told.proofs.Telling.{told_past, told_same, told_some, told_there, told_unwatched}
use Rattle.ink_told.proofs.told.told_between.Goals.{in-Some+then-watches+then-is_other+in_ok-add_change, in-Some+else-watches, else-watches-via-then-watches+else-is_other, else-watches-via-else-watches, in_default}
use Rattle.ink_told.proofs.told.told_between.Given as given
use Rattle.ink_told.proofs.told.told_between.Goals as goal
use Rattle.ink_told.proofs.told.told_between.Goals.{Then-is_other}

-- there is something to be told
is_there : (g : given.Over) (c : Then-is_other g) → told (watches c.args.desk.now.watchers) c.args.old.now.rows c.args.new.now.rows ≢ []
is_there g c =
    let other : is_other (stored c.in-Some.name.now c.args.old.now.rows) c.in-Some.value.now ≡ true =
    ap (λ o. is_other o c.in-Some.value.now) (sym c.get.ensures) ∙ sym c.is_other.ensures ∙ c.if-is_other.true in
    told_some (watches c.args.desk.now.watchers) c.args.old.now.rows c.args.new.now.rows c.loop-index.index (c.in-Some.name.now, c.in-Some.value.now)
    (sym c.in-Some.ensures) (sym c.watches.ensures ∙ c.if-watches.true) other

pub returns-in_err-add_change-clause-memory : goal.returns-in_err-add_change-clause-memory
returns-in_err-add_change-clause-memory g c = on_error c.from_residual.result (is_there g (goal.at.returns-in_err-add_change-clause-memory g c).Then-is_other)

pub loop-index-preserved : goal.loop-index-preserved
loop-index-preserved g c =
    let watched = watches c.args.desk.now.watchers in
    let old = c.args.old.now.rows in
    let new = c.args.new.now.rows in
    let i = c.loop-index.index in
    elim c.match-pair.branch [
      | in-Some+then-watches+then-is_other+in_ok-add_change w ↦
          let name = w.in-Some.name.now in
          let value = w.in-Some.value.now in
          let other : is_other (stored name old) value ≡ true = ap (λ o. is_other o value) (sym w.get.ensures) ∙ sym w.is_other.ensures ∙ w.if-is_other.true in
          ap (λ v. v.items) w.told-is ∙ w.in_ok-add_change.ensures
          ∙ ap (λ cs. cs ++ change_of (name, value) ∷ []) c.loop-index.invariant
          ∙ sym (told_there watched old new i (name, value) (sym w.in-Some.ensures) (sym w.watches.ensures ∙ w.if-watches.true) other)
      | in-Some+else-watches w ↦
          let name = w.in-Some.name.now in
          let value = w.in-Some.value.now in
          ap (λ v. v.items) w.told-is ∙ c.loop-index.invariant ∙ elim w.else-watches.branch [
            | else-watches-via-then-watches+else-is_other v ↦
                let same : is_other (stored name old) value ≡ false = ap (λ o. is_other o value) (sym v.get.ensures) ∙ sym v.is_other.ensures ∙ v.if-is_other.false in
                sym (told_same watched old new i (name, value) (sym w.in-Some.ensures) same)
            | else-watches-via-else-watches v ↦ sym (told_unwatched watched old new i (name, value) (sym w.in-Some.ensures) (sym w.watches.ensures ∙ v.if-watches.false))
          ]
      | in_default w ↦ ap (λ v. v.items) w.told-is ∙ c.loop-index.invariant ∙ sym (told_past watched old new i (sym w.in_default.ensures))
    ]

pub returns-clause-told : goal.returns-clause-told
returns-clause-told g c =
    let new = c.args.new.now.rows in
    let all : take c.loop-index.index new ≡ new = take_all c.loop-index.index new (omega (arith, c.len-index-end.ensures, c.loop-index-test.false)) in
    c.from_vec.ensures ∙ c.loop-index.invariant ∙ ap (told (watches c.args.desk.now.watchers) c.args.old.now.rows) all
