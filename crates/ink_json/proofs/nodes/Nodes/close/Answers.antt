use Rattle.std.proofs.Common.{◌∷◌, ◌<◌, ap, length, arith}
use Rattle.ink_json.proofs.Common.{length-append, length-map, node_of, container_node}
use Rattle.ink_json.proofs.Keeping.{closed, known_filled}
use Rattle.ink_json.proofs.nodes.Nodes.close.Goals as goal

pub fill-requires : goal.fill-requires
fill-requires c = omega (arith, c.requires, ap length c.self.view_is, length-map c.self.inside.list.items (node_of c.self.inside.names.items))

pub invariant_of-self : goal.invariant_of-self
invariant_of-self c =
    let below : c.args.number < length c.self.inside.list.items = omega (arith, c.requires, ap length c.self.view_is, length-map c.self.inside.list.items (node_of c.self.inside.names.items)) in
    known_filled (length c.self.inside.names.items) c.args.width c.args.keys _ c.self.inside.list.items c.args.number c.fill.new.list.items below c.fill.ensures c.self.invariant.0 c.self.invariant.1 c.self.invariant.2

pub returns : goal.returns
returns c = λ before inside holder last name flags is number.
    closed holder last name flags c.args.width c.args.keys _ before inside c.self.inside.names.items c.self.inside.list.items c.fill.new.list.items c.args.self.now c.args.number c.self.view_is is number c.fill.ensures
    (omega (
      arith,
      ap length is,
      length-append before (container_node holder last name flags 0 0 0 ∷ inside),
      c.len.ensures,
      c.self.inside.list.ok.0,
      ap length c.self.view_is,
      length-map c.self.inside.list.items (node_of c.self.inside.names.items),
    ))
