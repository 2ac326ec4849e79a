use Rattle.std.proofs.Common.{◌∙◌, ap, arith, length, Err, refl}
use Rattle.std.proofs.lemmas.Result.{err_from_is_err_and}
use Rattle.ink_choice.proofs.Adding.{adds-none, adds-one}
use Rattle.ink_choice.proofs.Undoing.{whole-as, whole-with}
use Rattle.ink_choice.proofs.choices.Choices.add.Goals as goal

-- ---- there is no room

pub invariant_of-self : goal.invariant_of-self
invariant_of-self g c = whole-as _ _ _ _ _ _ _ c.ready_for_one.ensures.more c.self.invariant c.ready_for_one.ensures.kept.0 c.ready_for_one.ensures.items

pub returns-in_err-ready_for_one : goal.returns-in_err-ready_for_one
returns-in_err-ready_for_one g c =
    let r = c.ready_for_one in
    let p = err_from_is_err_and c.from_residual.result c.from_residual.ensures.1 in
    let a = adds-none _ _ c.self.view_is r.new.items.items r.new.trail r.ensures.items r.ensures.kept c.args.choice _ _ (p.1 ∙ ap Err p.2) c.in_err-ready_for_one.ensures.err in
    record { items = a.items; trail = a.trail; pair = a.pair; stood = a.stood; spare = a.spare }

-- ---- the choice is added

pub push_ready-requires-clause-fits : goal.push_ready-requires-clause-fits
push_ready-requires-clause-fits g c = omega (arith, ap length c.ready_for_one.ensures.items, c.in_ok-ready_for_one.ensures.fits)

pub invariant_of-self-2 : goal.invariant_of-self-2
invariant_of-self-2 g c =
    let ready = whole-as _ _ _ _ _ _ _ c.ready_for_one.ensures.more c.self.invariant c.ready_for_one.ensures.kept.0 c.ready_for_one.ensures.items in
    whole-with _ _ _ _ _ _ _ c.push_ready.ensures.more ready c.args.choice c.push_ready.ensures.undo c.push_ready.ensures.items
    (omega (arith, ap length c.ready_for_one.ensures.items, c.in_ok-ready_for_one.ensures.few))
    (omega (arith, ap length c.ready_for_one.ensures.items, c.in_ok-ready_for_one.ensures.fits, c.push_ready.ensures.more))

pub returns : goal.returns
returns g c =
    let r = c.ready_for_one in
    let p = c.push_ready in
    let a = adds-one _ _ c.self.view_is r.new.items.items r.new.trail r.ensures.items r.ensures.kept c.args.choice _ p.new.items.items p.new.trail refl c.in_ok-ready_for_one.ensures.few p.ensures.items p.ensures.undo p.ensures.room in
    record { items = a.items; trail = a.trail; pair = a.pair; stood = a.stood; spare = a.spare }
