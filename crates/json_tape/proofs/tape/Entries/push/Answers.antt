use Rattle.std.proofs.Common.{◌∙◌, ◌++◌, ◌∷◌, [], ap}
use Rattle.json_tape.specs.Tape.{node_of}
use Rattle.json_tape.proofs.Taped.{plain_nodes, plain_pushed, put_are, put_nodes}
use Rattle.json_tape.proofs.tape.Entries.push.Goals as goal

pub invariant_of-self : goal.invariant_of-self
invariant_of-self c =
    let a = c.self.inside in
    let put = c.put.ensures in
    put_are c.put.result a.texts.items a.tags.items _ a.numbers.items _ c.args.tag c.args.number put.tags put.numbers put.kept c.self.invariant
    (plain_pushed a.texts.items a.tags.items a.numbers.items c.args.tag c.self.invariant c.args.number c.requires)

pub returns : goal.returns
returns c =
    let a = c.self.inside in
    put_nodes c.put.result a.texts.items a.tags.items _ a.numbers.items _ c.args.tag c.args.number c.put.ensures.tags c.put.ensures.numbers _
    (plain_nodes a.texts.items a.tags.items a.numbers.items c.args.tag c.self.invariant c.args.number c.requires ∙ ap (λ ns. ns ++ node_of [] c.args.tag c.args.number ∷ []) c.self.view_is)
