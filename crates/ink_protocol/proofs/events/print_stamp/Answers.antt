use Rattle.std.proofs.Common.{◌++◌, ap, codes, sym, List, ℕ}
use Rattle.ink_protocol.proofs.Answering.{made_as}
use Rattle.ink_protocol.proofs.events.print_stamp.Goals as goal

pub returns : goal.returns
returns c =
    let line = c.args.line.now.items in
    let end = c.args.end.now in
    made_as c.put_between.result _ _ _ c.put_between.ensures (ap (λ (ds : List ℕ). line ++ (codes ",\"stamp\":" ++ (ds ++ end))) (sym c.format.ensures.text))
