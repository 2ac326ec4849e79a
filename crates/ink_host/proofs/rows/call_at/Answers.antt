use Rattle.std.proofs.Common.{◌∙◌, ap, sym, Some, None}
use Rattle.ink_host.specs.Desk.{at, logs, refusals_after, refusals_at, without}
use Rattle.ink_host.proofs.Entries.{called-write, found, found-written, looked-up, none-not-some, others-written, quiet-write, rows_of, value-there, written-there}
use Rattle.ink_host.specs.declared.objects.Bound.TheVariants as bound
use Rattle.ink_host.proofs.rows.call_at.Goals as goal

pub call_bound-requires : goal.call_bound-requires
call_bound-requires g c =
    let is = c.in-Some.ensures.value ∙ value-there c.args.place c.args.functions.now.entries ∙ c.requires.1 in
    (c.requires.0, cc)

pub unreachable-requires : goal.unreachable-requires
unreachable-requires g c =
    none-not-some (bound.Turn c.requires.0) (c.in-None.ensures.value ∙ value-there c.args.place c.args.functions.now.entries ∙ c.requires.1)

pub returns-clause-answer : goal.returns-clause-answer
returns-clause-answer g c name at_place given is =
    let es = c.args.functions.now.entries in
    let object = c.call_bound.new.object in
    ap (λ es. logs g.T.TurnFn.log (rows_of es)) (written-there name c.args.place object es at_place)
    ∙ called-write g.T.TurnFn.log name c.args.arguments.now (Some given) c.args.stamp c.in-Some.object.now object es
    c.get_index_mut.ensures.unique (looked-up name c.args.place c.in-Some.object.now es at_place c.in-Some.ensures.value) (c.call_bound.ensures.answer given is)

pub returns-clause-refused : goal.returns-clause-refused
returns-clause-refused g c name at_place is =
    let es = c.args.functions.now.entries in
    let object = c.call_bound.new.object in
    ap (λ es. logs g.T.TurnFn.log (rows_of es)) (written-there name c.args.place object es at_place)
    ∙ called-write g.T.TurnFn.log name c.args.arguments.now None c.args.stamp c.in-Some.object.now object es
    c.get_index_mut.ensures.unique (looked-up name c.args.place c.in-Some.object.now es at_place c.in-Some.ensures.value) (c.call_bound.ensures.refused is)

pub returns-clause-memory : goal.returns-clause-memory
returns-clause-memory g c name at_place is =
    let es = c.args.functions.now.entries in
    let object = c.call_bound.new.object in
    ap (λ es. logs g.T.TurnFn.log (rows_of es)) (written-there name c.args.place object es at_place)
    ∙ quiet-write g.T.TurnFn.log name c.in-Some.object.now object es
    (looked-up name c.args.place c.in-Some.object.now es at_place c.in-Some.ensures.value) (c.call_bound.ensures.memory is)

pub returns-clause-refusals : goal.returns-clause-refusals
returns-clause-refusals g c name at_place =
    let refusals = g.T.TurnFn.refusals in
    let es = c.args.functions.now.entries in
    let object = c.call_bound.new.object in
    let was = looked-up name c.args.place c.in-Some.object.now es at_place c.in-Some.ensures.value in
    ap (λ es. refusals_at refusals (at name (rows_of es))) (written-there name c.args.place object es at_place)
    ∙ ap (refusals_at refusals) (found-written name c.in-Some.object.now object es was)
    ∙ c.call_bound.ensures.refusals
    ∙ ap (λ o. refusals_after c.call_bound.result (refusals_at refusals o)) (sym was ∙ found name es)

pub returns-clause-others : goal.returns-clause-others
returns-clause-others g c name at_place =
    let es = c.args.functions.now.entries in
    let object = c.call_bound.new.object in
    ap (λ es. without name (rows_of es)) (written-there name c.args.place object es at_place)
    ∙ others-written name object es
