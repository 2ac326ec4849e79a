use Rattle.std.proofs.Common.{◌≡◌, ◌∙◌, ◌+◌, ◌<◌, ◌^◌, ◌++◌, ◌∷◌, [], Some, ap, length, take, arith}
use Rattle.ink_json.proofs.Common.{length-map, Name, node_of, nodes_kept}
use Rattle.ink_json.proofs.Keeping.{named_code, named_known, named_pushed, taken_back}
use Rattle.ink_json.proofs.nodes.Nodes.push_new_name.Goals as goal

room : (c : goal.In_default) → length c.self.inside.list.items + 1 < 2 ^ 31
room c = omega (arith, c.requires, ap length c.self.view_is, length-map c.self.inside.list.items (node_of c.self.inside.names.items))

coded : (c : goal.In_default) → 2147483648 + c.len.result ≡ named_code c.self.inside.names.items
coded c = omega (arith, c.len.ensures, c.self.inside.names.ok.0)

pub invariant_of-self-in_default : goal.invariant_of-self-in_default
invariant_of-self-in_default c =
    rw (c.in_default.ensures.ok, c.in_ok-push.ensures.items)
    (named_known c.self.inside.names.items c.args.name.now c.self.inside.list.items _ (coded c) (room c) c.self.invariant.1 c.self.invariant.2)

pub returns : goal.returns
returns c =
    (λ i. nodes_kept (c.in_default.ensures.ok i) (c.in_ok-push.ensures.items i))
    ∙ named_pushed c.self.inside.names.items c.args.name.now c.self.inside.list.items _ (coded c) (omega (arith, room c, c.self.invariant.1)) c.self.invariant.2
    ∙ ap (λ before. before ++ record { content = c.args.content; holder = c.args.holder; last = Some (Name c.args.name.now) } ∷ []) c.self.view_is

pub invariant_of-self-in-Err : goal.invariant_of-self-in-Err
invariant_of-self-in-Err c =
    let back = c.truncate.ensures.items ∙ (λ i. take ((c.len-number.ensures ∙ c.self.inside.list.ok.0) i) (c.in_ok-push.ensures.items i)) ∙ taken_back c.self.inside.list.items _ in
    rw (c.in-Err.ensures.err, back) c.self.invariant

pub invariant_of-self : goal.invariant_of-self
invariant_of-self c = rw c.in_err-push.ensures.items c.self.invariant
