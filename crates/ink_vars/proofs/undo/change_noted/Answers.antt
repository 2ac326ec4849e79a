use Rattle.std.proofs.Common.{◌≡◌, ◌∙◌, ap, arith, length}
use Rattle.ink_trail.proofs.Undoing.{trails-one}
use Rattle.ink_vars.specs.Undo.{global_back}
use Rattle.ink_vars.specs.declared.undo.GlobalPair.TheVariants.{Changed}
use Rattle.ink_vars.proofs.Covering.{changed_length, covers_changed}
use Rattle.ink_vars.proofs.undo.change_noted.Goals as goal

pub returns-clause-trail : goal.returns-clause-trail
returns-clause-trail c =
    trails-one global_back (Changed c.args.index c.swap_at-before.result) 1 _ _ _ _ (omega arith) c.swap_at-before.ensures.before c.note.ensures.undo c.note.ensures.room

pub returns-clause-covers : goal.returns-clause-covers
returns-clause-covers c noted here covers =
    let same : length c.swap_at-before.new.self ≡ length c.args.table.now = ap length c.swap_at-before.ensures.written ∙ changed_length c.args.index c.args.value c.args.table.now in
    rw (c.note.ensures.undo, same) (covers_changed noted (length c.args.table.now) c.args.index c.swap_at-before.result c.args.trail.now.undo here covers)
