use Rattle.std.proofs.Common.{◌≡◌, ◌∙◌, ◌<◌, ◌≤◌, ap, arith, is_some, length, sym}
use Rattle.ink_vars.proofs.Common.{set_value_at, noted_at, global_index}
use Rattle.ink_vars.proofs.Noting.{on_error}
use Rattle.ink_vars.proofs.Numbers.{number_next}
use Rattle.ink_vars.proofs.Taking.{absent_past, written_over}
use Rattle.ink_vars.proofs.undo.put_noted.Goals as goal

pub add_noted-requires-clause-absent : goal.add_noted-requires-clause-absent
add_noted-requires-clause-absent c =
    let name = c.args.name.now in
    let old = c.args.table.now in
    let past : length old ≤ global_index name old = omega (arith, c.if-index-len.false, c.requires.index, c.len.ensures.len) in
    absent_past name old past

pub returns-then-index-len-clause-ok : goal.returns-then-index-len-clause-ok
returns-then-index-len-clause-ok c =
    let name = c.args.name.now in
    let old = c.args.table.now in
    let within : global_index name old < length old = omega (arith, c.if-index-len.true, c.requires.index, c.len.ensures.len) in
    c.change_noted.ensures.table ∙ ap (λ i. set_value_at old i c.args.value) c.requires.index ∙ written_over name c.args.value old within

pub returns-then-index-len-clause-covers : goal.returns-then-index-len-clause-covers
returns-then-index-len-clause-covers c noted some new covers =
    c.change_noted.ensures.covers noted (ap (λ i. is_some (noted_at i noted)) c.requires.index ∙ some) covers

pub returns-else-index-len-clause-memory : goal.returns-else-index-len-clause-memory
returns-else-index-len-clause-memory c =
    let name = c.args.name.now in
    let old = c.args.table.now in
    let past : length old ≤ global_index name old = omega (arith, c.if-index-len.false, c.requires.index, c.len.ensures.len) in
    on_error c.add_noted.result (ap is_some (absent_past name old past))

pub returns-else-index-len-clause-covers : goal.returns-else-index-len-clause-covers
returns-else-index-len-clause-covers c noted some new covers =
    let name = c.args.name.now in
    let old = c.args.table.now in
    let past : length old ≤ global_index name old = omega (arith, c.if-index-len.false, c.requires.index, c.len.ensures.len) in
    let next : global_index name old ≡ length old = number_next name old (absent_past name old past) in
    c.add_noted.ensures.covers noted (ap (λ i. is_some (noted_at i noted)) (sym next) ∙ some) new covers
