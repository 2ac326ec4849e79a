use Rattle.std.proofs.Common.{subst}
use Rattle.ink_json.specs.Reading.{Reads, placed}
use Rattle.ink_json.proofs.Growing.{leaf_listed}
use Rattle.ink_json.proofs.container.list_leaf.Goals as goal

pub returns : goal.returns
returns c = λ leaf_or read.
    leaf_listed leaf_or c.in_ok-leaf.leaf c.args.nodes.now c.push.new.self c.args.position.holder c.args.position.last
    (subst (λ r. Reads (λ l. l) r (placed leaf_or)) c.in_ok-leaf.was read) c.in_ok-push.ensures
