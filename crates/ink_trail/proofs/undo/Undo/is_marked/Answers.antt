use Rattle.std.proofs.Common.{◌∙◌, ap, is_some, sym}
use Rattle.ink_trail.proofs.Undoing.{stood-marked}
use Rattle.ink_trail.proofs.undo.Undo.is_marked.Goals as goal

pub returns : goal.returns
returns g c =
    let part = c.args.self.now in
    c.is_marked.ensures ∙ ap (λ t. is_some t.undo) c.trail.ensures
    ∙ sym (stood-marked g.Self.Undo.before (g.Self.Undo.trail part) (g.Self.Undo.cells part)) ∙ ap is_some (sym (g.met.Self.Undo.stood_is part))
