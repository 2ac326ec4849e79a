use Rattle.std.proofs.Common.{◌∙◌, [], ◌∷◌, ◌++◌, false, refl, subst, sym}
use Rattle.std.proofs.lemmas.Result.{err_from_is_err_and}
use Rattle.ink_reader.specs.Course.{IsTold}
use Rattle.ink_reader.specs.Deeds.{Goes}
use Rattle.ink_reader.specs.declared.telling.Told.TheVariants as told
use Rattle.ink_reader.proofs.Tellings.{leads-line, leads-more, line_deeds, told-break, told-off, told-part}
use Rattle.ink_reader.proofs.Playing.{played-goes, played-lost, played-none, played-off, played-played, played-well}
use Rattle.ink_reader.proofs.telling.tell.Goals as goal

pub lines-init : goal.lines-init
lines-init g c = ([], (λ es end h. h), λ kept. played-none, refl, refl)

pub returns-clause-lines : goal.returns-clause-lines
returns-clause-lines g c =
    let so_far = c.lines.invariant in (so_far.0, (Goes false ∷ [], c.lines.told, so_far.1 (Goes false ∷ []) c.lines.told (refl, refl)), λ kept. played-off (so_far.2 kept))

pub returns-then-not-can_continue-clause-lines : goal.returns-then-not-can_continue-clause-lines
returns-then-not-can_continue-clause-lines g c =
    let so_far = c.lines.invariant in (
      so_far.0 ++ (Goes false ∷ []),
      so_far.1 (Goes false ∷ []) c.lines.told (refl, refl),
      λ kept. played-played (so_far.2 kept) (played-goes (sym c.can_continue.ensures ∙ c.if-not-can_continue.true)),
    )

pub returns-in_err-told-clause-lines : goal.returns-in_err-told-clause-lines
returns-in_err-told-clause-lines g c =
    let so_far = c.lines.invariant in
    let line = c.tell_line.ensures.line in
    let more = sym c.can_continue.ensures ∙ c.if-not-can_continue.false in
    let failed = err_from_is_err_and c.from_residual.result c.from_residual.ensures.1 in
    let ds = so_far.0 ++ line_deeds line.0 line.1 line.2 in (
      ds,
      told-off c.from_residual.result failed.0 ds failed.1 (told-part told.Stop c.lines.told so_far.0 line.0 line.1 line.2 so_far.1 line.3),
      λ kept. played-lost failed.1 (played-played (so_far.2 kept) (played-played (played-goes more) (line.5 kept))),
    )

pub returns-in-Break-clause-lines : goal.returns-in-Break-clause-lines
returns-in-Break-clause-lines g c =
    let so_far = c.lines.invariant in
    let line = c.tell_line.ensures.line in
    let more = sym c.can_continue.ensures ∙ c.if-not-can_continue.false in
    let is = rw c.in_ok-told.was at line.4 in
    let ds = line_deeds line.0 line.1 line.2 in
    let broke = subst (λ t. IsTold c.lines.told ds t) (sym c.in-Break.is) (told-break c.lines.told line.0 line.1 line.2 line.3 (sym c.in-Break.is ∙ is)) in (
      so_far.0 ++ ds,
      so_far.1 ds c.in_ok-told.told broke,
      λ kept. played-played (so_far.2 kept) (played-played (played-goes more) (played-well c.in_ok-told.was (line.5 kept))),
    )

pub lines-preserved : goal.lines-preserved
lines-preserved g c =
    let so_far = c.lines.invariant in
    let line = c.tell_line.ensures.line in
    let more = sym c.can_continue.ensures ∙ c.if-not-can_continue.false in
    let is = rw c.in_ok-told.was at line.4 in
    let ds = line_deeds line.0 line.1 line.2 in (
      so_far.0 ++ ds,
      leads-more told.Stop c.lines.told c.in_ok-told.told so_far.0 ds so_far.1 (leads-line c.lines.told c.in_ok-told.told line.0 line.1 line.2 line.3 is c.in_default.not-Break),
      λ kept. played-played (so_far.2 kept) (played-played (played-goes more) (played-well c.in_ok-told.was (line.5 kept))),
      c.in_ok-told.ensures.sink.0 ∙ so_far.3,
      c.in_ok-told.ensures.sink.1 ∙ so_far.4,
    )
