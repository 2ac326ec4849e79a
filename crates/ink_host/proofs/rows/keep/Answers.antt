use Rattle.std.proofs.Common.{◌∙◌, ap, is_some, string_bytes, sym}
use Rattle.ink_host.specs.Desk.{at, put}
use Rattle.ink_host.proofs.Entries.{found, kept, not-there, rows_of}
use Rattle.ink_host.proofs.rows.keep.Goals as goal

pub keep_over-requires : goal.keep_over-requires
keep_over-requires g c = ap is_some (sym (found c.args.name.now c.args.rows.now.entries)) ∙ sym c.contains_key.ensures ∙ c.if-contains_key.true

pub returns-in_default-clause-memory : goal.returns-in_default-clause-memory
returns-in_default-clause-memory g c =
    not-there (at c.args.name.now (rows_of c.args.rows.now.entries)) (ap is_some (sym (found c.args.name.now c.args.rows.now.entries)) ∙ sym c.contains_key.ensures ∙ c.if-contains_key.false)

pub returns-in-Err-clause-memory : goal.returns-in-Err-clause-memory
returns-in-Err-clause-memory g c =
    not-there (at c.args.name.now (rows_of c.args.rows.now.entries)) (ap is_some (sym (found c.args.name.now c.args.rows.now.entries)) ∙ sym c.contains_key.ensures ∙ c.if-contains_key.false)

pub returns-in-Ok-insert-clause-old : goal.returns-in-Ok-insert-clause-old
returns-in-Ok-insert-clause-old g c =
    c.in-Ok-insert.ensures.old ∙ found (string_bytes c.in-Ok.key) c.args.rows.now.entries
    ∙ ap (λ name. at name (rows_of c.args.rows.now.entries)) c.in-Ok.ensures.ok

pub returns-in-Ok-insert-clause-kept : goal.returns-in-Ok-insert-clause-kept
returns-in-Ok-insert-clause-kept g c =
    ap rows_of c.in-Ok-insert.ensures.entries ∙ kept c.in-Ok.key c.args.object c.args.rows.now.entries
    ∙ ap (λ name. put name c.args.object (rows_of c.args.rows.now.entries)) c.in-Ok.ensures.ok
