use Rattle.std.proofs.Common.{◌≡◌, length, ap, arith}
use Rattle.json_tape.proofs.Taped.{text_pushed, text_nodes, many_nodes}
use Rattle.json_tape.proofs.tape.Entries.push_text.Goals as goal

pub overflow_cast-len : goal.overflow_cast-len
overflow_cast-len c =
    let a = c.self.inside in
    omega (arith, many_nodes a.texts.items _ a.tags.items a.numbers.items c.self.invariant.fit, ap length c.self.view_is, c.self.invariant.few, c.len.ensures, c.in_ok-reserve.ensures.len, a.texts.ok.0, c.requires.few)

pub invariant_of-self : goal.invariant_of-self
invariant_of-self c = rw c.in_err-reserve.ensures.items c.self.invariant

pub invariant_of-self-in_err-put : goal.invariant_of-self-in_err-put
invariant_of-self-in_err-put c = rw (c.in_ok-reserve.ensures.items, c.in_err-put.ensures.kept.0, c.in_err-put.ensures.kept.1) c.self.invariant

pub invariant_of-self-2 : goal.invariant_of-self-2
invariant_of-self-2 c =
    let a = c.self.inside in
    let count : c.len.result ≡ length a.texts.items = omega (arith, c.len.ensures, c.in_ok-reserve.ensures.len, a.texts.ok.0) in
    rw (c.in_ok-put.ensures.tags, c.in_ok-put.ensures.numbers, c.push_reserved.ensures.items, c.in_ok-reserve.ensures.items, count)
    (text_pushed a.texts.items a.tags.items a.numbers.items c.args.tag c.self.invariant c.args.text)

pub returns : goal.returns
returns c =
    let a = c.self.inside in
    let count : c.len.result ≡ length a.texts.items = omega (arith, c.len.ensures, c.in_ok-reserve.ensures.len, a.texts.ok.0) in
    rw (c.in_ok-put.ensures.tags, c.in_ok-put.ensures.numbers, c.push_reserved.ensures.items, c.in_ok-reserve.ensures.items, count, ← c.self.view_is)
    (text_nodes a.texts.items a.tags.items a.numbers.items c.args.tag c.self.invariant c.args.text c.requires.kind)
