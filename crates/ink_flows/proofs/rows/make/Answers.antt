use Rattle.std.proofs.Common.{◌∙◌, Some, ap}
use Rattle.ink_host.proofs.Entries.{kept}
use Rattle.ink_model.specs.Variables.Named.{put}
use Rattle.ink_flows.specs.Standing.{listed, rows_of}
use Rattle.ink_flows.proofs.Laws.{put_absent}
use Rattle.ink_flows.proofs.rows.make.Goals as goal

pub returns-clause-ok : goal.returns-clause-ok
returns-clause-ok c =
    let name = c.args.name.now in
    let before = listed (rows_of c.args.rows.now.entries) in (
      c.new.result,
      ap rows_of c.in_ok-insert.ensures.entries ∙ kept c.in_ok-key.key (Some c.new.result) c.list_first.new.rows.entries
          ∙ ap (λ n. put n (Some c.new.result) (rows_of c.list_first.new.rows.entries)) c.in_ok-key.ensures.ok
          ∙ ap (put name (Some c.new.result)) c.in_ok-list_first.ensures.ok ∙ put_absent name (Some c.new.result) before c.requires,
      c.new.ensures.flow,
    )
