use Rattle.std.proofs.Common.{◌∙◌, ap, length, subst, sym}
use Rattle.ink_vars.specs.Undo.{HasSlot, counts_back, rows_of}
use Rattle.ink_vars.specs.Slots.{rows_from}
use Rattle.ink_vars.proofs.Restored.{count_back, slot_at}
use Rattle.ink_vars.proofs.undo.put_row_back.Goals as goal

pub returns-in-Visits-clause-rows : goal.returns-in-Visits-clause-rows
returns-in-Visits-clause-rows c =
    let n = c.in-Visits.number in
    let fits = subst (HasSlot (length c.args.visits.now) (length c.args.turns.now)) c.in-Visits.is c.requires.slot in
    ap (λ vs. record { visits = vs; turns = rows_from 0 c.args.turns.now }) (slot_at n c.in-Visits.before c.args.visits.now fits.0)
    ∙ ap (λ p. counts_back p (rows_of c.args.visits.now c.args.turns.now)) (sym c.in-Visits.is)

pub returns-in-Visits-clause-visits : goal.returns-in-Visits-clause-visits
returns-in-Visits-clause-visits c h =
    let fits = subst (HasSlot (length c.args.visits.now) (length c.args.turns.now)) c.in-Visits.is c.requires.slot in
    count_back c.in-Visits.number c.in-Visits.before c.args.visits.now h fits.1

pub returns-in-Turn-clause-rows : goal.returns-in-Turn-clause-rows
returns-in-Turn-clause-rows c =
    let n = c.in-Turn.number in
    let fits = subst (HasSlot (length c.args.visits.now) (length c.args.turns.now)) c.in-Turn.is c.requires.slot in
    ap (λ ts. record { visits = rows_from 0 c.args.visits.now; turns = ts }) (slot_at n c.in-Turn.before c.args.turns.now fits.0)
    ∙ ap (λ p. counts_back p (rows_of c.args.visits.now c.args.turns.now)) (sym c.in-Turn.is)

pub returns-in-Turn-clause-turns : goal.returns-in-Turn-clause-turns
returns-in-Turn-clause-turns c h =
    let fits = subst (HasSlot (length c.args.visits.now) (length c.args.turns.now)) c.in-Turn.is c.requires.slot in
    count_back c.in-Turn.number c.in-Turn.before c.args.turns.now h fits.1
