use Rattle.std.proofs.Common.{◌∙◌, ap, bytes_eq, cond, Some, string_bytes}
use Rattle.std.specs.BTreeMap.{get_by_text}
use Rattle.std.proofs.lemmas.Map.Text.{btree_map_updates_text}
use Rattle.ink_names.proofs.hints.put.Goals as goal

pub returns-clause-ok : goal.returns-clause-ok
returns-clause-ok c = λ other.
    btree_map_updates_text (string_bytes c.in_ok-key.key) c.args.others.now c.insert.new.self (Some c.args.number) c.in_ok-insert.ensures.updates other
    ∙ ap (λ key. cond (bytes_eq key other) (Some c.args.number) (get_by_text c.args.others.now other)) c.in_ok-key.ensures.ok
