use Rattle.std.proofs.Common.{◌<◌, length, get_or, ap, ap₂, ◌∙◌, sym, arith}
use Rattle.json_tape.proofs.Common.{Null}
use Rattle.json_tape.specs.Tape.{node_of, has_text}
use Rattle.json_tape.proofs.Taped.{many_nodes, as_many, node_at}
use Rattle.json_tape.proofs.tape.Entries.node.Goals as goal

pub index-requires : goal.index-requires
index-requires c =
    let a = c.self.inside in
    omega (arith, many_nodes a.texts.items _ a.tags.items a.numbers.items c.self.invariant.fit, ap length c.self.view_is, a.tags.ok.0, c.requires)

pub index-requires-2 : goal.index-requires-2
index-requires-2 c =
    let a = c.self.inside in
    omega (arith, many_nodes a.texts.items _ a.tags.items a.numbers.items c.self.invariant.fit, as_many _ a.tags.items a.numbers.items c.self.invariant.fit, ap length c.self.view_is, a.numbers.ok.0, c.requires)

pub node-requires : goal.node-requires
node-requires c some =
    let a = c.self.inside in
    let within : c.args.at < length a.tags.items = omega (arith, many_nodes a.texts.items _ a.tags.items a.numbers.items c.self.invariant.fit, ap length c.self.view_is, c.requires) in
    let found = node_at a.texts.items (length a.texts.items) a.tags.items a.numbers.items c.args.at c.index.result.now c.index-2.result.now c.self.invariant.fit within in
    let below : get_or a.numbers.items c.args.at c.index-2.result.now < length a.texts.items = found.1 (ap has_text (sym c.index.ensures) ∙ some) in
    omega (arith, below, c.index-2.ensures, ap length c.deref.ensures.value)

pub returns : goal.returns
returns c =
    let a = c.self.inside in
    let within : c.args.at < length a.tags.items = omega (arith, many_nodes a.texts.items _ a.tags.items a.numbers.items c.self.invariant.fit, ap length c.self.view_is, c.requires) in
    let found = node_at a.texts.items (length a.texts.items) a.tags.items a.numbers.items c.args.at c.index.result.now c.index-2.result.now c.self.invariant.fit within in
    c.node.ensures ∙ ap (λ ts. node_of ts c.index.result.now c.index-2.result.now) c.deref.ensures.value
    ∙ ap₂ (node_of a.texts.items) c.index.ensures c.index-2.ensures ∙ sym found.0 ∙ ap (λ ns. get_or ns c.args.at Null) c.self.view_is
