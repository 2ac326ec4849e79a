use Rattle.std.proofs.Common.{◌∙◌, ap, Some, sym}
use Rattle.ink_host.specs.Desk.{at, put}
use Rattle.ink_host.proofs.Entries.{found, none-there, rewritten, rows_of}
use Rattle.ink_host.proofs.rows.keep_over.Goals as goal

pub unreachable-requires : goal.unreachable-requires
unreachable-requires g c =
    none-there (at c.args.name.now (rows_of c.args.rows.now.entries)) (c.in-None.ensures.value ∙ found c.args.name.now c.args.rows.now.entries) c.requires

pub returns-clause-old : goal.returns-clause-old
returns-clause-old g c = ap (λ x. Some x) c.replace.ensures.value ∙ c.in-Some.ensures.value ∙ found c.args.name.now c.args.rows.now.entries

pub returns-clause-kept : goal.returns-clause-kept
returns-clause-kept g c =
    ap rows_of (c.get_mut.follows.holds c.replace.new.dest).0
    ∙ rewritten c.args.name.now c.in-Some.there.now c.replace.new.dest c.args.rows.now.entries (sym c.in-Some.ensures.value)
    ∙ ap (λ x. put c.args.name.now x (rows_of c.args.rows.now.entries)) c.replace.ensures.after
