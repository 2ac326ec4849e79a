use Rattle.std.proofs.Common.{◌∙◌, [], ◌∷◌, ◌++◌, length, get_or, refl, ap, sym, arith}
use Rattle.std.proofs.lemmas.Result.{on_ok_weaker}
use Rattle.json.specs.declared.tape.Node.TheVariants as nodes
use Rattle.json_tape.specs.Tape.{text_at}
use Rattle.json_tape.specs.declared.tape.Tag.TheVariants.{Number}
use Rattle.json_tape.proofs.Taped.{again_pushed, again_nodes, many_nodes, put_are, put_nodes}
use Rattle.json_tape.proofs.tape.Entries.push_number.Goals as goal

pub overflow_cast-self : goal.overflow_cast-self
overflow_cast-self c =
    let a = c.self.inside in
    omega (arith, many_nodes a.texts.items _ a.tags.items a.numbers.items c.self.invariant.fit, ap length c.self.view_is, c.self.invariant.few, c.len.ensures, a.texts.ok.0, c.requires)

pub invariant_of-self : goal.invariant_of-self
invariant_of-self c =
    let a = c.self.inside in
    let known = get_or a.digits c.in-Some.digit 0 in
    let put = c.put.ensures in
    put_are c.put.result a.texts.items a.tags.items _ a.numbers.items _ Number known put.tags put.numbers put.kept c.self.invariant
    (again_pushed a.texts.items a.tags.items a.numbers.items Number c.self.invariant known (omega (arith, c.is_text.ensures.there c.if-is_text.true, ap length c.deref.ensures.value)))

pub returns-in_default : goal.returns-in_default
returns-in_default c = on_ok_weaker c.push_text.result (λ h. (c.args.text, refl, h)) c.push_text.ensures

pub returns-then-is_text : goal.returns-then-is_text
returns-then-is_text c =
    let a = c.self.inside in
    let known = get_or a.digits c.in-Some.digit 0 in
    let text = text_at a.texts.items known in
    let same = ap (λ texts. (text_at texts known).now) (sym c.deref.ensures.value) ∙ c.is_text.ensures.same c.if-is_text.true in
    on_ok_weaker c.put.result (λ h. (text, same, h))
    (put_nodes c.put.result a.texts.items a.tags.items _ a.numbers.items _ Number known c.put.ensures.tags c.put.ensures.numbers _
    (again_nodes a.texts.items a.tags.items a.numbers.items Number c.self.invariant known ∙ ap (λ ns. ns ++ nodes.Number text ∷ []) c.self.view_is))

pub returns : goal.returns
returns c = on_ok_weaker c.push_text-2.result (λ h. (c.args.text, refl, h ∙ ap (λ ns. ns ++ nodes.Number c.args.text ∷ []) c.self.view_is)) c.push_text-2.ensures

pub push_text-requires-2-clause-few : goal.push_text-requires-2-clause-few
push_text-requires-2-clause-few c = rw c.self.view_is c.requires
