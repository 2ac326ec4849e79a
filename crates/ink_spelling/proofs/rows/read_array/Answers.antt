use Rattle.std.proofs.Common.{◌≡◌, IfOk, OnErr, subst, sym, true}
use Rattle.ink_model.specs.Save.Asks.{none_asks, place_asks}
use Rattle.ink_model.specs.Save.Unspelled.{count_of, place_of}
use Rattle.ink_spelling.proofs.Asking.{pair_asks_so}
use Rattle.ink_spelling.proofs.Lists.{pair_is}
use Rattle.ink_spelling.proofs.rows.read_array.Goals as goal

pub returns-clause-found : goal.returns-clause-found
returns-clause-found g c =
    subst (λ q. IfOk c.read_two.result (λ row. row ≡ q)) (sym (pair_is place_of count_of (g.J.Json.elements c.args.items))) c.read_two.ensures.found

pub returns-clause-memory : goal.returns-clause-memory
returns-clause-memory g c =
    subst (λ b. OnErr c.read_two.result (b ≡ true)) (sym (pair_asks_so place_of place_asks none_asks (g.J.Json.elements c.args.items))) c.read_two.ensures.memory
