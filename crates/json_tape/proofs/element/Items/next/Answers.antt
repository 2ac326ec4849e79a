use Rattle.std.proofs.Common.{sym, subst, arith}
use Rattle.json_tape.proofs.Common.{InItems}
use Rattle.json_tape.proofs.Elements.{fewer, item_over, no_item_here, item_next}
use Rattle.json_tape.proofs.element.Items.next.Goals as goal

pub returns-then-at-len-clause-value : goal.returns-then-at-len-clause-value
returns-then-at-len-clause-value c js h =
    item_over c.self.inside.tape.now c.self.inside.at js (omega arith) (subst (λ ts. InItems ts js) (sym c.self.view_is) h)

pub returns-in-EndArray-clause-value : goal.returns-in-EndArray-clause-value
returns-in-EndArray-clause-value c js h =
    no_item_here c.self.inside.tape.now c.self.inside.at c.node-node.result js c.node-node.ensures.token c.in-EndArray.is (subst (λ ts. InItems ts js) (sym c.self.view_is) h)

pub returns : goal.returns
returns c =
    let all = c.self.inside.tape.now in
    let at = c.self.inside.at in
    let end = c.behind-self-inside.result in
    let node = c.node-node.ensures in
    record {
      value = λ js h. item_next all at end c.node-node.result js node.token c.in_default.not-EndArray (c.behind-self-inside.ensures.value all node.link node.token) (subst (λ ts. InItems ts js) (sym c.self.view_is) h);
      shorter = fewer all c.args.self.now at end c.self.view_is (omega arith) (c.behind-self-inside.ensures.later all node.link);
      stays = tt;
    }
