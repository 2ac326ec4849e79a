use Rattle.std.proofs.Common.{◌++◌, ◌∙◌, ap, arith, length, sym}
use Rattle.ink_model.specs.Variables.Rows.{name_order, row}
use Rattle.ink_frames.proofs.Flat.{framed_length, rows_got, rows_past, temps_at}
use Rattle.ink_frames.proofs.frames.Frames.temp.Goals as goal

pub returns-in-Some : goal.returns-in-Some
returns-in-Some g c = λ d.
    let hs = c.self.inside.lowest ++ c.self.inside.headers.items in
    let ts = c.self.inside.temps.items in
    let name = c.args.name.now in
    rw (← c.self.view_is) (c.get-in-Some.ensures ∙ ap (row name_order name) (sym (rows_got ts c.args.index c.in-Some.temps.now (rw c.deref.ensures.value at c.in-Some.ensures.lookup.0) (rw c.deref.ensures.value at c.in-Some.ensures.lookup.1)))
    ∙ ap (row name_order name) (sym (temps_at hs ts c.args.index d (omega (arith, c.requires, ap (λ v. length v.items) c.self.view_is, framed_length hs ts)))))

pub returns-in-None : goal.returns-in-None
returns-in-None g c = λ d.
    let hs = c.self.inside.lowest ++ c.self.inside.headers.items in
    let ts = c.self.inside.temps.items in
    let name = c.args.name.now in
    rw (← c.self.view_is) (ap (row name_order name) (sym (rows_past ts c.args.index (rw c.deref.ensures.value at c.in-None.ensures.lookup.0)))
    ∙ ap (row name_order name) (sym (temps_at hs ts c.args.index d (omega (arith, c.requires, ap (λ v. length v.items) c.self.view_is, framed_length hs ts)))))
