use Rattle.std.proofs.Common.{◌≡◌, ◌∙◌, ◌++◌, ◌∷◌, [], None, Some, ap, bytes_eq, false, if◌then◌else◌, sym, true}
use Rattle.ink_flows.proofs.Laws.{put_absent}
use Rattle.ink_flows.specs.Standing.{rows_of}
use Rattle.ink_host.proofs.Entries.{kept}
use Rattle.ink_model.specs.Variables.Named.{put}
use Rattle.ink_restore.proofs.flowing.join.Goals as goal

pub returns-in_ok-insert-clause-rows : goal.returns-in_ok-insert-clause-rows
returns-in_ok-insert-clause-rows c =
    let name = c.args.name.now in
    let entries = c.args.made.now.rows.entries in
    let same : bytes_eq c.args.current.now name ≡ true = sym c.eq.ensures ∙ c.if-eq.true in
    ap rows_of c.in_ok-insert.ensures.entries ∙ kept c.in_ok-key.key None entries ∙ ap (λ n. put n None (rows_of entries)) c.in_ok-key.ensures.ok ∙ put_absent name None (rows_of entries) c.requires
    ∙ ap (λ b. rows_of entries ++ (name, if b then None else Some c.args.flow) ∷ []) (sym same)

pub returns-in_ok-insert-2-clause-rows : goal.returns-in_ok-insert-2-clause-rows
returns-in_ok-insert-2-clause-rows c =
    let name = c.args.name.now in
    let entries = c.args.made.now.rows.entries in
    let flow = Some c.args.flow in
    let same : bytes_eq c.args.current.now name ≡ false = sym c.eq.ensures ∙ c.if-eq.false in
    ap rows_of c.in_ok-insert-2.ensures.entries ∙ kept c.in_ok-key.key flow entries ∙ ap (λ n. put n flow (rows_of entries)) c.in_ok-key.ensures.ok ∙ put_absent name flow (rows_of entries) c.requires
    ∙ ap (λ b. rows_of entries ++ (name, if b then None else flow) ∷ []) (sym same)

pub returns-in_ok-insert-2-clause-current : goal.returns-in_ok-insert-2-clause-current
returns-in_ok-insert-2-clause-current c =
    let same : bytes_eq c.args.current.now c.args.name.now ≡ false = sym c.eq.ensures ∙ c.if-eq.false in
    ap (λ b. if b then Some c.args.flow else c.args.made.now.current) (sym same)

pub returns-in_ok-insert-clause-current : goal.returns-in_ok-insert-clause-current
returns-in_ok-insert-clause-current c =
    let same : bytes_eq c.args.current.now c.args.name.now ≡ true = sym c.eq.ensures ∙ c.if-eq.true in
    ap (λ b. if b then Some c.args.flow else c.args.made.now.current) (sym same)
