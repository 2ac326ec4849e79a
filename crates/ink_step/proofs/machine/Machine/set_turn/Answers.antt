use Rattle.std.proofs.Common.{ap, arith, refl}
use Rattle.ink_step.specs.Marks.{own_back, own_of, stood_of}
use Rattle.ink_step.specs.declared.own.OwnPair.TheVariants.{Turned}
use Rattle.ink_step.proofs.Backs.{own_noted}
use Rattle.ink_trail.proofs.Undoing.{trails-one}
use Rattle.ink_step.proofs.machine.Machine.set_turn.Goals as goal

pub returns-clause-mark : goal.returns-clause-mark
returns-clause-mark c =
    let old = c.args.self.now in
    ap (λ o. record (stood_of old) { own = o }) (own_noted old.trail c.note.new.self (Turned old.shared.turn) (own_of old) (record { turn = c.args.turn; safe = old.flow.safe }) refl c.note.ensures.undo)

pub returns-clause-trail : goal.returns-clause-trail
returns-clause-trail c = let old = c.args.self.now in trails-one own_back (Turned old.shared.turn) 1 _ _ _ _ (omega arith) refl c.note.ensures.undo c.note.ensures.room
