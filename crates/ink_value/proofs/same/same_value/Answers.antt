use Rattle.std.proofs.Common.{rules, ◌≡◌}
use Rattle.ink_model.specs.Values.Same.{same_value}
use Rattle.ink_value.proofs.SameValues.{values_are}
use Rattle.ink_value.proofs.same.same_value.Goals as goal

pub returns-in-Target-Target-clause-exact : goal.returns-in-Target-Target-clause-exact
returns-in-Target-Target-clause-exact c =
    let same : c.same_path.result ≡ same_value c.args.left.now c.args.right.now = search rules in
    rw same (values_are c.args.left.now c.args.right.now)
