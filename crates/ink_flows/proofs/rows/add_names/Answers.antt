use Rattle.std.proofs.Common.{◌∙◌, ◌++◌, ap, map, string_bytes}
use Rattle.ink_flows.proofs.Listed.{names_keys}
use Rattle.ink_flows.proofs.rows.add_names.Goals as goal

pub loop-name-init : goal.loop-name-init
loop-name-init c = ap (λ ks. c.args.found.now.items ++ map string_bytes ks) (c.into_iter-name-iterator.ensures.into_iter_gives ∙ c.keys-name-items.ensures.rest) ∙ ap (λ ns. c.args.found.now.items ++ ns) (names_keys c.args.rows.now.entries)
