use Rattle.std.proofs.Common.{◌∙◌, ap, arith, refl}
use Rattle.ink_trail.proofs.Undoing.{spare-kept, stood-kept}
use Rattle.ink_choice.specs.Undo.{choices_back, choices_spare, choices_stood}
use Rattle.ink_choice.proofs.undo.ChoicesUndo.make_room.Goals as goal

pub returns-clause-stood : goal.returns-clause-stood
unfolding choices_stood
returns-clause-stood g c =
    stood-kept choices_back c.self.inside.items.items c.self.inside.items.items c.self.inside.trail c.make_room.new.self refl c.make_room.ensures.kept ∙ ap choices_stood c.self.view_is

pub returns-clause-more : goal.returns-clause-more
unfolding choices_spare
returns-clause-more g c = omega (arith, spare-kept c.self.inside.trail c.make_room.new.self c.make_room.ensures.kept, ap choices_spare c.self.view_is)
