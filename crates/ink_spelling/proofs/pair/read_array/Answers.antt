use Rattle.std.proofs.Common.{◌≡◌, IfOk, OnErr, subst, sym, true}
use Rattle.ink_spelling.proofs.Asking.{pair_asks_so}
use Rattle.ink_spelling.proofs.Lists.{pair_is}
use Rattle.ink_spelling.proofs.pair.read_array.Goals as goal

pub returns-clause-found : goal.returns-clause-found
returns-clause-found g c =
    subst (λ q. IfOk c.read_two.result (λ found. found ≡ q)) (sym (pair_is g.A.Spelled.spelled g.B.Spelled.spelled (g.J.Json.elements c.args.items))) c.read_two.ensures.found

pub returns-clause-memory : goal.returns-clause-memory
returns-clause-memory g c =
    subst (λ b. OnErr c.read_two.result (b ≡ true)) (sym (pair_asks_so g.A.Spelled.spelled g.A.Spelled.asks g.B.Spelled.asks (g.J.Json.elements c.args.items))) c.read_two.ensures.memory
