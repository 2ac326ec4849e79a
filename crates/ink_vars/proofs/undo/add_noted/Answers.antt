use Rattle.std.proofs.Common.{◌≡◌, ◌∙◌, ap, arith, length, suc}
use Rattle.ink_trail.proofs.Undoing.{trails-one}
use Rattle.ink_vars.proofs.Common.{but_last, global_back}
use Rattle.ink_vars.specs.declared.undo.GlobalPair.TheVariants.{Added}
use Rattle.ink_vars.proofs.Covering.{covers_added, new_here}
use Rattle.ink_vars.proofs.Taking.{added, one_longer}
use Rattle.ink_vars.proofs.undo.add_noted.Goals as goal

pub returns-clause-trail : goal.returns-clause-trail
returns-clause-trail c =
    trails-one global_back Added 1 _ _ _ _ (omega arith) (ap but_last c.in_ok-add_at.ensures.ok ∙ added c.args.name.now c.args.value c.args.table.now c.requires.absent) c.note.ensures.undo c.note.ensures.room

pub returns-clause-covers : goal.returns-clause-covers
returns-clause-covers c noted here new covers =
    let old = c.args.table.now in
    let more : length c.add_at.new.self ≡ suc (length old) = ap length c.in_ok-add_at.ensures.ok ∙ one_longer c.args.name.now c.args.value old c.requires.absent in
    rw (c.note.ensures.undo, more) (covers_added noted (length old) c.args.trail.now.undo (new_here (length old) noted new) here covers)
