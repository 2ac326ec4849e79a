use Rattle.std.proofs.Common.{◌∙◌, ◌+◌, ◌<◌, ◌^◌, ◌++◌, ◌∷◌, [], Some, ap, refl, length, get_or, arith}
use Rattle.ink_json.proofs.Common.{length-map, Name, node_of, nodes_kept}
use Rattle.ink_json.proofs.Keeping.{again_known, again_pushed, known_pushed}
use Rattle.ink_json.proofs.nodes.Nodes.push_named.Goals as goal

pub invariant_of-self-then-is_name : goal.invariant_of-self-then-is_name
invariant_of-self-then-is_name c =
    let names = length c.self.inside.names.items in
    let room : length c.self.inside.list.items + 1 < 2 ^ 31 = omega (arith, c.requires, ap length c.self.view_is, length-map c.self.inside.list.items (node_of c.self.inside.names.items)) in
    known_pushed _ names c.self.inside.list.items c.push.new.self.items _ c.push.ensures.items room c.self.invariant.1 c.self.invariant.2
    (again_known names (get_or c.self.inside.slots c.slot-slot.result 0) _ refl (c.is_name.ensures.there c.if-is_name.true))

pub returns-then-is_name : goal.returns-then-is_name
returns-then-is_name c =
    let names = c.self.inside.names.items in
    ap (nodes_kept names) c.in_ok-push.ensures.items
    ∙ again_pushed names c.args.name.now (get_or c.self.inside.slots c.slot-slot.result 0) c.self.inside.list.items _ refl (c.is_name.ensures.there c.if-is_name.true)
    (omega (arith, c.self.invariant.0, c.self.invariant.1)) (c.is_name.ensures.same c.if-is_name.true)
    ∙ ap (λ before. before ++ record { content = c.args.content; holder = c.args.holder; last = Some (Name c.args.name.now) } ∷ []) c.self.view_is

pub invariant_of-self : goal.invariant_of-self
invariant_of-self c = rw c.in_err-push.ensures.items c.self.invariant

pub push_new_name-requires : goal.push_new_name-requires
push_new_name-requires c = omega (arith, c.requires, ap length c.self.view_is)
