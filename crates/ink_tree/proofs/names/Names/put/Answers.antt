use Rattle.std.proofs.Common.{◌≡◌, ◌∙◌, ℕ, List, ap, sym, bytes_eq, Some, None, string_bytes}
use Rattle.std.proofs.lemmas.Map.Text.{btree_map_updates_text}
use Rattle.std.specs.BTreeMap.{get_by_text}
use Rattle.std.specs.Map.{update}
use Rattle.ink_tree.proofs.Common.{named_at}
use Rattle.ink_tree.proofs.Firsts.{name_put, name_put_back}
use Rattle.ink_tree.proofs.names.Names.put.Goals as goal

pub returns-in_default : goal.returns-in_default
returns-in_default c = λ name.
    let old = c.args.self.now in
    let own = c.args.own.now in
    let key = c.in_ok-key.ensures.ok in
    let new : named_at own old ≡ None = ap (λ k. named_at k old) (sym key) ∙ sym c.in_ok-first.ensures.old ∙ c.in_default.is in
    btree_map_updates_text (string_bytes c.in_ok-key.key) old.indices c.insert.new.self (Some c.args.index) c.in_ok-first.ensures.updates name
    ∙ ap (λ k. update bytes_eq (λ n. named_at n old) k (Some c.args.index) name) key
    ∙ name_put (λ n. named_at n old) own name c.args.index new

pub returns-in_ok-insert : goal.returns-in_ok-insert
returns-in_ok-insert c = λ name.
    let old = c.args.self.now in
    let own = c.args.own.now in
    let key = c.in_ok-key.ensures.ok in
    let between = c.insert.new.self in
    let first = c.in-Some.first in
    let there : named_at own old ≡ Some first = ap (λ k. named_at k old) (sym key) ∙ sym c.in_ok-first.ensures.old ∙ c.in-Some.is in
    let after : (n : List ℕ) → get_by_text between n ≡ update bytes_eq (λ m. named_at m old) own (Some c.args.index) n = λ n.
    btree_map_updates_text (string_bytes c.in_ok-key.key) old.indices between (Some c.args.index) c.in_ok-first.ensures.updates n
    ∙ ap (λ k. update bytes_eq (λ m. named_at m old) k (Some c.args.index) n) key
    in
    btree_map_updates_text (string_bytes c.in_ok-again.again) between c.insert-in-Some.new.self (Some first) c.in_ok-insert.ensures.updates name
    ∙ ap (λ k. update bytes_eq (get_by_text between) k (Some first) name) c.in_ok-again.ensures.ok
    ∙ name_put_back (λ n. named_at n old) (get_by_text between) own name c.args.index first there after
