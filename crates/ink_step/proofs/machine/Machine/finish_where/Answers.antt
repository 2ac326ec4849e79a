use Rattle.std.proofs.Common.{◌≡◌, ◌∙◌, ◌||◌, ap, is_some, rules, sym, subst, true, Ok, Err}
use Rattle.ink_step.proofs.Common.{story_tree, following, following_asks, fields_of, move, move_asks, Stood, pressed, storing_in, unstored, StepEnds, config_of, or_first, or_more}
use Rattle.ink_step.proofs.Follows.{ends_after, ends_any, kept_stays, offered_stay, or_assoc, or_whole}
use Rattle.ink_step.proofs.Stopping.{broke_storing, ends_stored}
use Rattle.ink_step.proofs.Owned.{own_behind}
use Rattle.ink_step.proofs.machine.Machine.finish_where.Goals as goal

pub returns-in_err-end-clause-ends : goal.returns-in_err-end-clause-ends
returns-in_err-end-clause-ends c old asking e performs keeps offers safely counted turned kept stores =
    let s = story_tree c.args.story.now in
    let mid = c.args.self.now in
    let m = pressed s c.go.new.self in
    let before = config_of s old in
    let during = config_of s mid in
    let new = config_of s c.go.new.self in
    let f = c.in_err-end.field-0.0 in
    let o = move s (unstored mid.shared.globals.rows e) during in
    let flowed = c.in_err-end.ensures.ends asking e performs (kept_stays s e old.flow.threads.threads mid.flow.threads.threads keeps) (offered_stay s e old.flow.choices.items mid.flow.choices.items offers) in
    let by_parts = subst (λ b. StepEnds b (following s o) mid.shared.globals.rows new (Err f)) (sym (or_assoc m (asking || move_asks s e during) (following_asks s o))) flowed in
    let stored = ends_stored s mid.shared.globals.rows during (m || (asking || move_asks s e during)) e mid.shared.globals.rows new (Err f)
    (broke_storing s _ e (following s o) mid.shared.globals.rows new f by_parts) in
    let together = subst (λ b. StepEnds (b || following_asks s (move s e during)) (following s (move s e during)) mid.shared.globals.rows new (Err f)) (sym (or_assoc m asking (move_asks s e during))) stored in
    let moved = ends_after s old mid safely counted turned (m || asking) e mid.shared.globals.rows new (Err f) keeps offers together in
    let whole = subst (λ b. StepEnds b (following s (move s e before)) mid.shared.globals.rows new (Err f)) (or_whole m asking (move_asks s e before) (following_asks s (move s e before))) moved in
    let is : c.from_residual.result ≡ Err f = search rules in
    subst (λ r. StepEnds (m || ((asking || move_asks s e before) || following_asks s (move s e before))) (following s (move s e before)) before.shared.globals new r) (sym is)
    (subst (λ vs. StepEnds (m || ((asking || move_asks s e before) || following_asks s (move s e before))) (following s (move s e before)) vs new (Err f)) kept whole)

pub returns-clause-ends : goal.returns-clause-ends
returns-clause-ends c old asking e performs keeps offers safely counted turned same stores =
    let s = story_tree c.args.story.now in
    let mid = c.args.self.now in
    let m = pressed s c.store.new.self in
    let before = config_of s old in
    let during = config_of s mid in
    let flowed = c.go.new.self in
    let o = move s (unstored mid.shared.globals.rows e) during in
    let whole = (m || (asking || move_asks s e during)) || following_asks s o in
    let allows : asking ≡ true → whole ≡ true = λ h. or_first _ _ (or_more m _ (or_first asking _ h)) in
    let new = config_of s c.store.new.self in
    let flows = ends_any _ (m || ((asking || move_asks s e during) || following_asks s o)) (following s o) mid.shared.globals.rows (config_of s flowed) c.in_ok-end.end
    (c.in_ok-end.ensures.ends asking e performs (kept_stays s e old.flow.threads.threads mid.flow.threads.threads keeps) (offered_stay s e old.flow.choices.items mid.flow.choices.items offers)) in
    let by_parts = subst (λ b. StepEnds b (following s o) mid.shared.globals.rows (config_of s flowed) (Ok c.in_ok-end.end)) (sym (or_assoc m (asking || move_asks s e during) (following_asks s o))) flows in
    let kept = c.in_ok-end.ensures.globals in
    let stores = c.store.ensures.stored s asking whole e (fields_of during) (following s o) allows (sym kept) performs
    (λ marked. stores (sym (ap (λ (t : Stood). is_some t.globals) c.in_ok-end.ensures.mark) ∙ marked)) (subst (λ vs. StepEnds whole (following s o) vs (config_of s flowed) (Ok c.in_ok-end.end)) (sym kept) by_parts) in
    let stored = ends_stored s mid.shared.globals.rows during (m || (asking || move_asks s e during)) e mid.shared.globals.rows new c.store.result
    (subst (λ vs. StepEnds whole (storing_in e (following s o)) vs new c.store.result) kept stores) in
    let together = subst (λ b. StepEnds (b || following_asks s (move s e during)) (following s (move s e during)) mid.shared.globals.rows new c.store.result) (sym (or_assoc m asking (move_asks s e during))) stored in
    let moved = ends_after s old mid safely counted turned (m || asking) e mid.shared.globals.rows new c.store.result keeps offers together in
    let ended = subst (λ b. StepEnds b (following s (move s e before)) mid.shared.globals.rows new c.store.result) (or_whole m asking (move_asks s e before) (following_asks s (move s e before))) moved in
    subst (λ vs. StepEnds (m || ((asking || move_asks s e before) || following_asks s (move s e before))) (following s (move s e before)) vs new c.store.result) same ended

-- ---- what stays

pub returns-clause-start : goal.returns-clause-start
returns-clause-start c = c.store.ensures.start ∙ c.go.ensures.start

pub returns-clause-aside : goal.returns-clause-aside
returns-clause-aside c = c.store.ensures.aside ∙ c.go.ensures.aside

pub returns-clause-mark : goal.returns-clause-mark
returns-clause-mark c = c.store.ensures.mark ∙ c.go.ensures.mark

-- ---- the own fields

pub returns-clause-own : goal.returns-clause-own
returns-clause-own c = own_behind c.store.ensures.own c.go.ensures.own
