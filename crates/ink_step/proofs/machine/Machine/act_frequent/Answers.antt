use Rattle.std.proofs.Common.{◌&&◌, ◌||◌, ◌∙◌, ◌≡◌, Err, Some, ap, refl, rules, subst, sym}
use Rattle.ink_step.proofs.Common.{story_tree, acting_asks, content_asks, context_of, fields_of, following_asks, move, move_asks, acted, effect, leaf, keeps_mark, pressed, stood_of, takes_there, StepEnds, config_of, or_first, place_of}
use Rattle.ink_effects.proofs.Plain.{frequent_plain, keeps_plain, leaf_plain, offers_plain, stores_plain}
use Rattle.ink_effects.specs.Frequents.{leaf_of}
use Rattle.ink_step.proofs.Follows.{ends_unperformed, ends_where, or_apart, or_where, or_whole}
use Rattle.ink_step.proofs.Storing.{performs_marked}
use Rattle.ink_step.proofs.Stopping.{broke}
use Rattle.ink_step.proofs.Owned.{own_same}
use Rattle.ink_step.proofs.machine.Machine.act_frequent.Goals as goal

pub returns-in_err-perform_frequent-clause-ends : goal.returns-in_err-perform_frequent-clause-ends
returns-in_err-perform_frequent-clause-ends c =
    let s = story_tree c.args.story.now in
    let p = place_of s c.args.here in
    let old = c.args.self.now in
    let before = config_of s old in
    let found = Some (leaf (leaf_of c.args.content)) in
    let takes = takes_there found && keeps_mark (stood_of old) in
    let left = record old { flow = c.perform_frequent.new.flow; output = c.perform_frequent.new.output } in
    let there = pressed s left in
    let asking = content_asks s p found (context_of before) (fields_of before) in
    let e = effect s p found (context_of before) (fields_of before) in
    let new = config_of s left in
    let f = c.in_err-perform_frequent.field-0.0 in
    let is : c.from_residual.result ≡ Err f = search rules in
    let acting = acting_asks s asking e before in
    subst (λ r. StepEnds ((takes || there) || acting) (acted s e before) before.shared.globals new r) (sym is)
    (ends_where (takes || acting) ((takes || there) || acting) (or_where takes (takes || there) acting (or_first takes there)) (acted s e before) before.shared.globals new (Err f)
    (subst (λ b. StepEnds b (acted s e before) before.shared.globals new (Err f)) (or_whole takes asking (move_asks s e before) (following_asks s (move s e before)))
    (broke s _ (move s e before) _ new _ (ends_unperformed s (takes || asking) _ e _ before new before.shared.globals _ (performs_marked s old found asking e _ _ c.in_err-perform_frequent.ensures.effect) refl))))

pub returns-clause-ends : goal.returns-clause-ends
returns-clause-ends c =
    let s = story_tree c.args.story.now in
    let p = place_of s c.args.here in
    let old = c.args.self.now in
    let before = config_of s old in
    let mid = record old { flow = c.perform_frequent.new.flow; output = c.perform_frequent.new.output } in
    let new = config_of s c.go_after.new.self in
    let found = Some (leaf (leaf_of c.args.content)) in
    let takes = takes_there found && keeps_mark (stood_of old) in
    let performs = c.in_ok-perform_frequent.ensures in
    let asking = content_asks s p found (context_of before) (fields_of before) in
    let e = effect s p found (context_of before) (fields_of before) in
    let plain = leaf_plain s p (context_of before) (leaf_of c.args.content) (fields_of before) (frequent_plain c.args.content) in
    let ends =
    c.go_after.ensures.ends old (takes || asking) e (performs_marked s old found asking e _ _ performs.effect) (keeps_plain s e old.flow.threads.threads mid.flow.threads.threads plain performs.threads)
    (rw (ap (λ f. f.choices) performs.same) (offers_plain s e old.flow.choices.items plain)) (ap (λ f. f.safe) performs.same) refl refl refl (λ marked. stores_plain e (takes || asking) plain) in
    subst (λ b. StepEnds b (acted s e before) before.shared.globals new c.go_after.result) (or_apart takes (pressed s c.go_after.new.self) asking (move_asks s e before) (following_asks s (move s e before))) ends

pub go_after-requires-clause-at : goal.go_after-requires-clause-at
go_after-requires-clause-at c = ap (λ ts. ts.thread.frame.place) c.perform_frequent.ensures.threads ∙ c.requires.at

-- ---- what stays

pub returns-clause-mark : goal.returns-clause-mark
returns-clause-mark c =
    let performs = c.perform_frequent.ensures in
    let marks = performs.marks in
    c.go_after.ensures.mark ∙ rw (marks.0, marks.1, marks.2, ap (λ f. f.safe) performs.same, performs.output_mark) refl

pub returns-in_err-perform_frequent-clause-mark : goal.returns-in_err-perform_frequent-clause-mark
returns-in_err-perform_frequent-clause-mark c =
    let performs = c.perform_frequent.ensures in
    let marks = performs.marks in
    rw (marks.0, marks.1, marks.2, ap (λ f. f.safe) performs.same, performs.output_mark) refl

-- ---- the own fields

pub returns-in_err-perform_frequent-clause-own : goal.returns-in_err-perform_frequent-clause-own
returns-in_err-perform_frequent-clause-own c = own_same 1 _ _ refl
