use Rattle.std.proofs.Common.{◌≡◌, ◌∙◌, ap, length, refl, rules, sym, true, [], Some, Ok, Err, subst}
use Rattle.std.proofs.lemmas.Bool.{false≢true}
use Rattle.ink_look.proofs.Common.{story_tree, bound_by, log_of, asks, step, OutOfMemory, config_of}
use Rattle.ink_host.proofs.Laws.{grew-none}
use Rattle.ink_model.specs.Run.Ahead.{writes_words}
use Rattle.ink_look.specs.Looking.{search_after, Waits, waiting_after}
use Rattle.ink_look.proofs.Followed.{words_end}
use Rattle.ink_look.proofs.Marks.{back_stays, stays_marked}
use Rattle.ink_look.proofs.Steps.{cut_at, cuts_call, cuts_fault, goes, quiet_so, stops}
use Rattle.ink_look.proofs.looking.look.Goals as goal
use Rattle.ink_model.specs.Run.Moments.{At}
use Rattle.ink_model.specs.Text.Shown.{open_newline}
use Rattle.ink_effects.proofs.Refusals.{keeps_all, kept_unless}
use Rattle.ink_step.specs.Marks.{config_back, presses}
use Rattle.ink_step.specs.Parts.{config_of_parts}
use Rattle.ink_moves.specs.declared.flow.StepEnd.TheVariants as ends

-- a text comes, behind which the newline stands
pub returns-then-is_followed-clause-steps : goal.returns-then-is_followed-clause-steps
returns-then-is_followed-clause-steps g c =
    let s = story_tree c.args.story.now in
    let b = bound_by g.P.PureFn.meaning c.args.desk.now.functions in
    let old = config_of s c.args.machine.now in
    let kept = config_back s c.args.machine.now in
    let followed = c.is_followed.ensures.followed c.if-is_followed.true in
    let same : config_of_parts s c.parts.result ≡ old = c.parts.ensures.config s in
    let words : writes_words s old ≡ true = ap (writes_words s) (sym same) ∙ followed.0 in
    let opens : open_newline old.page.line ≡ Some c.args.newline = ap (λ d. open_newline d.page.line) (sym same) ∙ followed.1 in (
      [],
      grew-none g.F.TurnFn.log (log_of g.O.Watcher.state) c.args.desk.now,
      (
        refl,
        λ left made. words_end s b c.args.newline old (At kept left made) left made words opens
            ∙ cut_at s b c.args.newline kept old left made c.cut.result c.cut.ensures.cut (config_back s c.cut.new.machine) (config_of s c.cut.new.machine) (c.cut.ensures.config s),
      ),
    )

pub returns-then-is_followed-clause-refusals : goal.returns-then-is_followed-clause-refusals
returns-then-is_followed-clause-refusals g c = keeps_all g.F.TurnFn.refusals c.args.desk.now

pub went_on-requires : goal.went_on-requires
went_on-requires g c = record { waits = stays_marked c.args.machine.now c.step.new.self c.requires.waits c.in-Ok-Went.ensures.mark }

pub returns-in-Ok-Went-clause-steps : goal.returns-in-Ok-Went-clause-steps
returns-in-Ok-Went-clause-steps g c =
    let s = story_tree c.args.story.now in
    let b = bound_by g.P.PureFn.meaning c.args.desk.now.functions in
    let old = config_of s c.args.machine.now in
    let new = config_of s c.step.new.self in
    let h = c.in-Ok-Went.ensures.step in
    let q = quiet_so s b c.args.desk.now.next (presses s c.args.machine.now c.step.new.self) (asks s b old) h.0 old new (step s b old) (Ok c.in-Ok-Went.field-0) (Ok ends.Went) (ap Ok c.in-Ok-Went.field-0-is) h.2 in (
      h.0,
      h.1,
      (
        q.0,
        λ left made. goes s b c.args.newline (config_back s c.args.machine.now) old left made new q.1 (config_back s c.step.new.self)
            (back_stays s c.args.machine.now c.step.new.self c.requires.waits c.in-Ok-Went.ensures.mark)
            (search_after c.went_on.result (config_back s c.went_on.new.machine) (config_of s c.went_on.new.machine) left made) (q.2 left made)
            (c.went_on.ensures.looked s old (sym (c.len-marks.ensures.marks ∙ ap (λ d. length d.page.line) (c.parts-2.ensures.config s))) left made),
      ),
    )

pub returns-in-Ok-Stopped-clause-steps : goal.returns-in-Ok-Stopped-clause-steps
returns-in-Ok-Stopped-clause-steps g c =
    let s = story_tree c.args.story.now in
    let b = bound_by g.P.PureFn.meaning c.args.desk.now.functions in
    let old = config_of s c.args.machine.now in
    let new = config_of s c.step.new.self in
    let h = c.in-Ok-Stopped.ensures.step in
    let q = quiet_so s b c.args.desk.now.next (presses s c.args.machine.now c.step.new.self) (asks s b old) h.0 old new (step s b old) (Ok c.in-Ok-Stopped.field-0) (Ok ends.Stopped) (ap Ok c.in-Ok-Stopped.field-0-is) h.2 in (
      h.0,
      h.1,
      (
        q.0,
        λ left made. stops s b c.args.newline (config_back s c.args.machine.now) old left made new q.1 (config_back s c.step.new.self)
            (back_stays s c.args.machine.now c.step.new.self c.requires.waits c.in-Ok-Stopped.ensures.mark)
            (search_after c.stopped.result (config_back s c.stopped.new.machine) (config_of s c.stopped.new.machine) left made) (q.2 left made) (c.stopped.ensures.looked s old left made),
      ),
    )

pub returns-in-Err-OutOfMemory-clause-steps : goal.returns-in-Err-OutOfMemory-clause-steps
returns-in-Err-OutOfMemory-clause-steps g c =
    let s = story_tree c.args.story.now in
    let b = bound_by g.P.PureFn.meaning c.args.desk.now.functions in
    let old = config_of s c.args.machine.now in
    let h = c.in-Err-OutOfMemory.ensures.step in
    let q = quiet_so s b c.args.desk.now.next (presses s c.args.machine.now c.step.new.self) (asks s b old) h.0 old (config_of s c.step.new.self) (step s b old) (Err c.in-Err-OutOfMemory.field-0) (Err OutOfMemory)
    (ap Err c.in-Err-OutOfMemory.field-0-is) h.2 in
    let same : config_of_parts s c.parts.result ≡ old = c.parts.ensures.config s in
    let wordless : writes_words s old ≡ true → open_newline old.page.line ≡ Some c.args.newline → ⊥ =
    λ writes opens. false≢true (sym c.if-is_followed.false ∙ c.is_followed.ensures.always (ap (writes_words s) same ∙ writes) (ap (λ d. open_newline d.page.line) same ∙ opens)) in (
      h.0,
      h.1,
      (q.0, (refl, q.1, wordless, c.back-undone.ensures.config s ∙ back_stays s c.args.machine.now c.step.new.self c.requires.waits c.in-Err-OutOfMemory.ensures.mark)),
    )

pub returns-in-Ok-WantsCall-clause-steps : goal.returns-in-Ok-WantsCall-clause-steps
returns-in-Ok-WantsCall-clause-steps g c =
    let s = story_tree c.args.story.now in
    let b = bound_by g.P.PureFn.meaning c.args.desk.now.functions in
    let old = config_of s c.args.machine.now in
    let kept = config_back s c.args.machine.now in
    let h = c.in-Ok-WantsCall.ensures.step in
    let q = cuts_call s b c.args.desk.now.next (presses s c.args.machine.now c.step.new.self) (asks s b old) h.0 c.args.newline kept old (config_of s c.step.new.self) (step s b old) (Ok c.in-Ok-WantsCall.field-0)
    (ap Ok c.in-Ok-WantsCall.field-0-is) h.2 in (
      h.0,
      h.1,
      (
        q.0,
        λ left made. q.1 left made ∙ cut_at s b c.args.newline kept old left made c.cut-in-Ok-WantsCall.result c.cut-in-Ok-WantsCall.ensures.cut (config_back s c.cut-in-Ok-WantsCall.new.machine) (config_of s c.cut-in-Ok-WantsCall.new.machine)
            (c.cut-in-Ok-WantsCall.ensures.config s ∙ back_stays s c.args.machine.now c.step.new.self c.requires.waits c.in-Ok-WantsCall.ensures.mark),
      ),
    )

pub returns-in-Err-clause-steps : goal.returns-in-Err-clause-steps
returns-in-Err-clause-steps g c =
    let s = story_tree c.args.story.now in
    let b = bound_by g.P.PureFn.meaning c.args.desk.now.functions in
    let old = config_of s c.args.machine.now in
    let kept = config_back s c.args.machine.now in
    let h = c.step.ensures.step in
    let other : c.in-Err.field-0 ≡ OutOfMemory → ⊥ = search rules in
    let q = cuts_fault s b c.args.desk.now.next (presses s c.args.machine.now c.step.new.self) (asks s b old) h.0 c.args.newline kept old (config_of s c.step.new.self) (step s b old) c.step.result
    c.in-Err.field-0 c.in-Err.is other h.2 in (
      h.0,
      h.1,
      (
        q.0,
        λ left made. q.1 left made ∙ cut_at s b c.args.newline kept old left made c.cut-in-Err.result c.cut-in-Err.ensures.cut (config_back s c.cut-in-Err.new.machine) (config_of s c.cut-in-Err.new.machine)
            (c.cut-in-Err.ensures.config s ∙ back_stays s c.args.machine.now c.step.new.self c.requires.waits c.step.ensures.mark),
      ),
    )

-- what is not OutOfMemory was no refusal of memory
pub returns-in-Err-clause-refusals : goal.returns-in-Err-clause-refusals
returns-in-Err-clause-refusals g c =
    let other : c.in-Err.field-0 ≡ OutOfMemory → ⊥ = search rules in
    kept_unless g.F.TurnFn.refusals c.args.desk.now c.step.new.desk c.step.result c.in-Err.field-0 c.in-Err.is other c.step.ensures.refusals

pub returns-in-Ok-Went-clause-aside : goal.returns-in-Ok-Went-clause-aside
returns-in-Ok-Went-clause-aside g c = c.went_on.ensures.aside ∙ c.in-Ok-Went.ensures.aside

pub returns-in-Ok-Went-clause-refusals : goal.returns-in-Ok-Went-clause-refusals
returns-in-Ok-Went-clause-refusals g c = c.in-Ok-Went.ensures.refusals

pub returns-in-Ok-Stopped-clause-aside : goal.returns-in-Ok-Stopped-clause-aside
returns-in-Ok-Stopped-clause-aside g c = c.stopped.ensures.aside ∙ c.in-Ok-Stopped.ensures.aside

pub returns-in-Ok-Stopped-clause-refusals : goal.returns-in-Ok-Stopped-clause-refusals
returns-in-Ok-Stopped-clause-refusals g c = c.in-Ok-Stopped.ensures.refusals

pub returns-in-Ok-WantsCall-clause-aside : goal.returns-in-Ok-WantsCall-clause-aside
returns-in-Ok-WantsCall-clause-aside g c = c.cut-in-Ok-WantsCall.ensures.aside ∙ c.in-Ok-WantsCall.ensures.aside

pub returns-in-Ok-WantsCall-clause-refusals : goal.returns-in-Ok-WantsCall-clause-refusals
returns-in-Ok-WantsCall-clause-refusals g c = c.in-Ok-WantsCall.ensures.refusals

pub returns-in-Ok-WantsCall-clause-waits : goal.returns-in-Ok-WantsCall-clause-waits
returns-in-Ok-WantsCall-clause-waits g c = subst (λ l. Waits (waiting_after l) c.cut-in-Ok-WantsCall.new.machine) (sym c.cut-in-Ok-WantsCall.ensures.cut) c.cut-in-Ok-WantsCall.ensures.mark

pub returns-in-Err-OutOfMemory-clause-aside : goal.returns-in-Err-OutOfMemory-clause-aside
returns-in-Err-OutOfMemory-clause-aside g c = c.back-undone.ensures.aside ∙ c.in-Err-OutOfMemory.ensures.aside

pub returns-in-Err-OutOfMemory-clause-refusals : goal.returns-in-Err-OutOfMemory-clause-refusals
returns-in-Err-OutOfMemory-clause-refusals g c = rw c.in-Err-OutOfMemory.field-0-is at c.in-Err-OutOfMemory.ensures.refusals

pub returns-in-Err-clause-aside : goal.returns-in-Err-clause-aside
returns-in-Err-clause-aside g c = c.cut-in-Err.ensures.aside ∙ c.step.ensures.aside

pub returns-in-Err-clause-waits : goal.returns-in-Err-clause-waits
returns-in-Err-clause-waits g c = subst (λ l. Waits (waiting_after l) c.cut-in-Err.new.machine) (sym c.cut-in-Err.ensures.cut) c.cut-in-Err.ensures.mark
