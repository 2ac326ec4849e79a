use Rattle.std.proofs.Common.{◌≡◌, ◌∙◌, ap, refl, sym, subst, inl, inr, [], ◌∷◌, Some, None, Err}
use Rattle.ink_host.specs.Desk.{Grew, at, counted, refusals_after, refusals_at, without}
use Rattle.ink_host.specs.Telling.{log_of}
use Rattle.ink_model.specs.declared.host.Given.{Given}
use Rattle.ink_model.specs.declared.host.Event.TheVariants as event
use Rattle.ink_host.proofs.Entries.{desk_of, rows_of, seen, there}
use Rattle.ink_host.proofs.Laws.{failed, grew-call, grew-quiet, not_short, same_given, succeeded}
use Rattle.ink_host.proofs.desk.Desk.call_found.Goals as goal

pub returns-in_err-noted-clause-memory : goal.returns-in_err-noted-clause-memory
returns-in_err-noted-clause-memory g c is = inl refl

pub returns-in_err-noted_arguments-clause-memory : goal.returns-in_err-noted_arguments-clause-memory
returns-in_err-noted_arguments-clause-memory g c is = inl refl

pub returns-in_err-reserve-clause-memory : goal.returns-in_err-reserve-clause-memory
returns-in_err-reserve-clause-memory g c is =
    inl (ap (λ es. desk_of (rows_of c.self.inside.functions.entries) (rows_of c.self.inside.watchers.entries) es c.self.inside.next) c.reserve.ensures.items ∙ c.self.view_is)

pub returns-in-Ok-copy-clause-answer : goal.returns-in-Ok-copy-clause-answer
returns-in-Ok-copy-clause-answer g c given is =
    let view = desk_of (rows_of c.self.inside.functions.entries) (rows_of c.self.inside.watchers.entries) c.self.inside.events.items c.self.inside.next in
    let new = desk_of (rows_of c.call_at.new.functions.entries) (rows_of c.self.inside.watchers.entries) c.note.new.events.items c.note.new.next in
    let made = grew-call g.T.TurnFn.log (log_of g.W.Watcher.state) view c.args.self.now (rows_of c.call_at.new.functions.entries) c.reserve.new.self.items c.note.new.events.items c.note.new.next
    _ c.args.name.now _ c.args.arguments.now (Some c.in-Ok.given) c.self.view_is c.in_ok-noted.ensures c.in_ok-noted_arguments.ensures.copies
    c.reserve.ensures.items c.note.ensures.items c.note.ensures.next (c.in-Ok.ensures.answer c.args.name.now (seen c.args.name.now c.args.place c.self.view_is c.requires.place) c.in-Ok.given refl) in
    let same : c.in-Ok-copy.copy ≡ given = same_given _ _ _ refl is in
    subst (λ x. Grew g.T.TurnFn.log (log_of g.W.Watcher.state) c.args.self.now (event.Call c.args.name.now c.args.arguments.now (Some x) c.args.self.now.next ∷ []) new)
    (sym c.in-Ok-copy.ensures.copy ∙ same) made

pub returns-in-Err-clause-memory : goal.returns-in-Err-clause-memory
returns-in-Err-clause-memory g c is =
    let view = desk_of (rows_of c.self.inside.functions.entries) (rows_of c.self.inside.watchers.entries) c.self.inside.events.items c.self.inside.next in
    inr (inr (
      c.in-Ok.given,
      c.in-Err.ensures.memory,
      grew-call g.T.TurnFn.log (log_of g.W.Watcher.state) view c.args.self.now (rows_of c.call_at.new.functions.entries) c.reserve.new.self.items c.note.new.events.items c.note.new.next
          _ c.args.name.now _ c.args.arguments.now (Some c.in-Ok.given) c.self.view_is c.in_ok-noted.ensures c.in_ok-noted_arguments.ensures.copies
          c.reserve.ensures.items c.note.ensures.items c.note.ensures.next (c.in-Ok.ensures.answer c.args.name.now (seen c.args.name.now c.args.place c.self.view_is c.requires.place) c.in-Ok.given refl),
    ))

pub returns-in-Err-Refused-clause-refused : goal.returns-in-Err-Refused-clause-refused
returns-in-Err-Refused-clause-refused g c is =
    let view = desk_of (rows_of c.self.inside.functions.entries) (rows_of c.self.inside.watchers.entries) c.self.inside.events.items c.self.inside.next in
    grew-call g.T.TurnFn.log (log_of g.W.Watcher.state) view c.args.self.now (rows_of c.call_at.new.functions.entries) c.reserve.new.self.items c.note-in-Err-Refused.new.events.items c.note-in-Err-Refused.new.next
    _ c.args.name.now _ c.args.arguments.now None c.self.view_is c.in_ok-noted.ensures c.in_ok-noted_arguments.ensures.copies
    c.reserve.ensures.items c.note-in-Err-Refused.ensures.items c.note-in-Err-Refused.ensures.next
    (c.in-Err-Refused.ensures.refused c.args.name.now (seen c.args.name.now c.args.place c.self.view_is c.requires.place) (ap Err c.in-Err-Refused.field-0-is))

pub returns-in-Err-OutOfMemory-clause-memory : goal.returns-in-Err-OutOfMemory-clause-memory
returns-in-Err-OutOfMemory-clause-memory g c is =
    let view = desk_of (rows_of c.self.inside.functions.entries) (rows_of c.self.inside.watchers.entries) c.self.inside.events.items c.self.inside.next in
    inr (inl (
      grew-quiet g.T.TurnFn.log (log_of g.W.Watcher.state) view c.args.self.now (rows_of c.call_at.new.functions.entries) c.reserve.new.self.items c.self.view_is c.reserve.ensures.items
          (c.in-Err-OutOfMemory.ensures.memory c.args.name.now (seen c.args.name.now c.args.place c.self.view_is c.requires.place) (ap Err c.in-Err-OutOfMemory.field-0-is)),
      c.in-Err-OutOfMemory.ensures.refusals c.args.name.now (seen c.args.name.now c.args.place c.self.view_is c.requires.place)
          ∙ ap (λ f. refusals_after {A = Given} (Err f) (refusals_at g.T.TurnFn.refusals (at c.args.name.now (rows_of c.self.inside.functions.entries)))) c.in-Err-OutOfMemory.field-0-is
          ∙ ap (λ d. counted (refusals_at g.T.TurnFn.refusals (at c.args.name.now d.functions))) c.self.view_is,
    ))

pub call_at-requires : goal.call_at-requires
call_at-requires g c =
    (c.requires.bound.0, there c.args.name.now c.args.place (rows_of c.self.inside.functions.entries) (seen c.args.name.now c.args.place c.self.view_is c.requires.place) ∙ ap (λ d. at c.args.name.now d.functions) c.self.view_is ∙ c.requires.bound.1)

pub returns-in_err-reserve-clause-others : goal.returns-in_err-reserve-clause-others
returns-in_err-reserve-clause-others g c = ap (λ d. without c.args.name.now d.functions) c.self.view_is

pub returns-in_err-reserve-clause-watchers : goal.returns-in_err-reserve-clause-watchers
returns-in_err-reserve-clause-watchers g c = ap (λ d. d.watchers) c.self.view_is

pub returns-in-Ok-copy-clause-refused : goal.returns-in-Ok-copy-clause-refused
returns-in-Ok-copy-clause-refused g c is = absurd (succeeded _ _ is)

pub returns-in-Ok-copy-clause-memory : goal.returns-in-Ok-copy-clause-memory
returns-in-Ok-copy-clause-memory g c is = absurd (succeeded _ _ is)

pub returns-in-Ok-copy-clause-refusals : goal.returns-in-Ok-copy-clause-refusals
returns-in-Ok-copy-clause-refusals g c = inl (c.in-Ok.ensures.refusals c.args.name.now (seen c.args.name.now c.args.place c.self.view_is c.requires.place) ∙ ap (λ d. refusals_at g.T.TurnFn.refusals (at c.args.name.now d.functions)) c.self.view_is)

pub returns-in-Ok-copy-clause-others : goal.returns-in-Ok-copy-clause-others
returns-in-Ok-copy-clause-others g c = c.call_at.ensures.others c.args.name.now (seen c.args.name.now c.args.place c.self.view_is c.requires.place) ∙ ap (λ d. without c.args.name.now d.functions) c.self.view_is

pub returns-in-Ok-copy-clause-watchers : goal.returns-in-Ok-copy-clause-watchers
returns-in-Ok-copy-clause-watchers g c = ap (λ d. d.watchers) c.self.view_is

pub returns-in-Err-clause-answer : goal.returns-in-Err-clause-answer
returns-in-Err-clause-answer g c given is = absurd (failed _ _ is)

pub returns-in-Err-clause-refused : goal.returns-in-Err-clause-refused
returns-in-Err-clause-refused g c is = absurd (not_short _ is refl)

pub returns-in-Err-clause-faults : goal.returns-in-Err-clause-faults
returns-in-Err-clause-faults g c = inr refl

pub returns-in-Err-clause-refusals : goal.returns-in-Err-clause-refusals
returns-in-Err-clause-refusals g c = inl (c.in-Ok.ensures.refusals c.args.name.now (seen c.args.name.now c.args.place c.self.view_is c.requires.place) ∙ ap (λ d. refusals_at g.T.TurnFn.refusals (at c.args.name.now d.functions)) c.self.view_is)

pub returns-in-Err-clause-others : goal.returns-in-Err-clause-others
returns-in-Err-clause-others g c = c.call_at.ensures.others c.args.name.now (seen c.args.name.now c.args.place c.self.view_is c.requires.place) ∙ ap (λ d. without c.args.name.now d.functions) c.self.view_is

pub returns-in-Err-clause-watchers : goal.returns-in-Err-clause-watchers
returns-in-Err-clause-watchers g c = ap (λ d. d.watchers) c.self.view_is

pub returns-in-Err-Refused-clause-answer : goal.returns-in-Err-Refused-clause-answer
returns-in-Err-Refused-clause-answer g c given is = absurd (failed _ _ is)

pub returns-in-Err-Refused-clause-memory : goal.returns-in-Err-Refused-clause-memory
returns-in-Err-Refused-clause-memory g c is = absurd (not_short _ refl is)

pub returns-in-Err-Refused-clause-faults : goal.returns-in-Err-Refused-clause-faults
returns-in-Err-Refused-clause-faults g c = inl refl

pub returns-in-Err-Refused-clause-refusals : goal.returns-in-Err-Refused-clause-refusals
returns-in-Err-Refused-clause-refusals g c =
    inl (c.in-Err-Refused.ensures.refusals c.args.name.now (seen c.args.name.now c.args.place c.self.view_is c.requires.place) ∙ ap (λ f. refusals_after {A = Given} (Err f) (refusals_at g.T.TurnFn.refusals (at c.args.name.now (rows_of c.self.inside.functions.entries)))) c.in-Err-Refused.field-0-is
    ∙ ap (λ d. refusals_at g.T.TurnFn.refusals (at c.args.name.now d.functions)) c.self.view_is)

pub returns-in-Err-Refused-clause-others : goal.returns-in-Err-Refused-clause-others
returns-in-Err-Refused-clause-others g c = c.call_at.ensures.others c.args.name.now (seen c.args.name.now c.args.place c.self.view_is c.requires.place) ∙ ap (λ d. without c.args.name.now d.functions) c.self.view_is

pub returns-in-Err-Refused-clause-watchers : goal.returns-in-Err-Refused-clause-watchers
returns-in-Err-Refused-clause-watchers g c = ap (λ d. d.watchers) c.self.view_is

pub returns-in-Err-OutOfMemory-clause-answer : goal.returns-in-Err-OutOfMemory-clause-answer
returns-in-Err-OutOfMemory-clause-answer g c given is = absurd (failed _ _ is)

pub returns-in-Err-OutOfMemory-clause-refused : goal.returns-in-Err-OutOfMemory-clause-refused
returns-in-Err-OutOfMemory-clause-refused g c is = absurd (not_short _ is refl)

pub returns-in-Err-OutOfMemory-clause-faults : goal.returns-in-Err-OutOfMemory-clause-faults
returns-in-Err-OutOfMemory-clause-faults g c = inr refl

pub returns-in-Err-OutOfMemory-clause-refusals : goal.returns-in-Err-OutOfMemory-clause-refusals
returns-in-Err-OutOfMemory-clause-refusals g c =
    inr (
      refl,
      c.reserve.ensures.items ∙ ap (λ d. d.events) c.self.view_is,
      c.in-Err-OutOfMemory.ensures.refusals c.args.name.now (seen c.args.name.now c.args.place c.self.view_is c.requires.place) ∙ ap (λ f. refusals_after {A = Given} (Err f) (refusals_at g.T.TurnFn.refusals (at c.args.name.now (rows_of c.self.inside.functions.entries)))) c.in-Err-OutOfMemory.field-0-is
          ∙ ap (λ d. counted (refusals_at g.T.TurnFn.refusals (at c.args.name.now d.functions))) c.self.view_is,
    )

pub returns-in-Err-OutOfMemory-clause-others : goal.returns-in-Err-OutOfMemory-clause-others
returns-in-Err-OutOfMemory-clause-others g c = c.call_at.ensures.others c.args.name.now (seen c.args.name.now c.args.place c.self.view_is c.requires.place) ∙ ap (λ d. without c.args.name.now d.functions) c.self.view_is

pub returns-in-Err-OutOfMemory-clause-watchers : goal.returns-in-Err-OutOfMemory-clause-watchers
returns-in-Err-OutOfMemory-clause-watchers g c = ap (λ d. d.watchers) c.self.view_is

pub returns-in_err-reserve-clause-refusals : goal.returns-in_err-reserve-clause-refusals
returns-in_err-reserve-clause-refusals g c = inl (ap (λ d. refusals_at g.T.TurnFn.refusals (at c.args.name.now d.functions)) c.self.view_is)
