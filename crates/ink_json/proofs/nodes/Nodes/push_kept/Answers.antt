use Rattle.std.proofs.Common.{◌∙◌, ◌+◌, ◌<◌, ◌^◌, ◌++◌, ◌∷◌, [], ap, length, arith}
use Rattle.std.proofs.lemmas.List.{length-map}
use Rattle.ink_json.specs.Kept.{node_of, nodes_kept, part_at}
use Rattle.ink_json.proofs.Keeping.{known_pushed, no_name_known, no_name_pushed}
use Rattle.ink_json.proofs.nodes.Nodes.push_kept.Goals as goal

pub invariant_of-self-2 : goal.invariant_of-self-2
invariant_of-self-2 c =
    let names = length c.self.inside.names.items in
    let room : length c.self.inside.list.items + 1 < 2 ^ 31 = omega (arith, c.requires.room, ap length c.self.view_is, length-map c.self.inside.list.items (node_of c.self.inside.names.items)) in
    known_pushed _ names c.self.inside.list.items c.push.new.self.items _ c.push.ensures.items room c.self.invariant.1 c.self.invariant.2 (no_name_known names c.args.last c.requires.part)

pub returns : goal.returns
returns c =
    let names = c.self.inside.names.items in
    ap (nodes_kept names) c.in_ok-push.ensures.items
    ∙ no_name_pushed names c.self.inside.list.items _ c.requires.part
    ∙ ap (λ before. before ++ record { content = c.args.content; holder = c.args.holder; last = part_at [] c.args.last } ∷ []) c.self.view_is
