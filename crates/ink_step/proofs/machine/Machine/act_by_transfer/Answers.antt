use Rattle.std.proofs.Common.{◌&&◌, ◌||◌, ◌∙◌, ◌≡◌, Err, Ok, Some, ap, is_some, rules, subst, sym, true}
use Rattle.ink_step.proofs.Common.{story_tree, acting_asks, context_of, fields_of, following_asks, move, move_asks, acted, effect, leaf, Stood, keeps_mark, pressed, stood_of, takes_there, StepEnds, config_of, AsksToStore, Performs, or_first, place_of, globals_stood}
use Rattle.ink_model.specs.Memory.Refusals.{content_asks}
use Rattle.ink_moves.specs.declared.flow.StepEnd.TheVariants as ends
use Rattle.ink_step.proofs.Finished.{finished}
use Rattle.ink_step.proofs.Follows.{ends_any, ends_unperformed, ends_where, or_apart, or_where, or_whole}
use Rattle.ink_step.proofs.Storing.{performs_marked, stores_marked}
use Rattle.ink_step.proofs.Stopping.{broke}
use Rattle.ink_step.proofs.Owned.{own_before, own_same}
use Rattle.ink_step.proofs.machine.Machine.act_by_transfer.Goals as goal

pub returns-in_err-perform-clause-ends : goal.returns-in_err-perform-clause-ends
returns-in_err-perform-clause-ends c =
    let s = story_tree c.args.story.now in
    let p = place_of s c.args.here in
    let old = c.args.self.now in
    let before = config_of s old in
    let found = Some (leaf c.args.content.now) in
    let takes = takes_there found && keeps_mark (stood_of old) in
    let there = pressed s c.perform.new.self in
    let asking = content_asks s p found (context_of before) (fields_of before) in
    let e = effect s p found (context_of before) (fields_of before) in
    let new = config_of s c.perform.new.self in
    let f = c.in_err-perform.field-0.0 in
    let is : c.from_residual.result ≡ Err f = search rules in
    let acting = acting_asks s asking e before in
    subst (λ r. StepEnds ((takes || there) || acting) (acted s e before) before.shared.globals new r) (sym is)
    (ends_where (takes || acting) ((takes || there) || acting) (or_where takes (takes || there) acting (or_first takes there)) (acted s e before) before.shared.globals new (Err f)
    (subst (λ b. StepEnds b (acted s e before) before.shared.globals new (Err f)) (or_whole takes asking (move_asks s e before) (following_asks s (move s e before)))
    (broke s _ (move s e before) _ new _ (ends_unperformed s (takes || asking) _ e _ before new before.shared.globals _ (performs_marked s old found asking e _ _ c.in_err-perform.ensures.effect) c.in_err-perform.ensures.globals))))

pub returns-clause-ends : goal.returns-clause-ends
returns-clause-ends c =
    let s = story_tree c.args.story.now in
    let p = place_of s c.args.here in
    let old = c.args.self.now in
    let before = config_of s old in
    let mid = c.perform.new.self in
    let new = c.go_to_next.new.self in
    let found = Some (leaf c.args.content.now) in
    let takes = takes_there found && keeps_mark (stood_of old) in
    let asking = content_asks s p found (context_of before) (fields_of before) in
    let e = effect s p found (context_of before) (fields_of before) in
    let performs = c.in_ok-perform.ensures in
    ends_any _ ((takes || pressed s new) || acting_asks s asking e before) (acted s e before) before.shared.globals (config_of s new) ends.Went
    (finished s old mid new performs.safe performs.counts performs.turn performs.globals c.go_to_next.ensures.globals (takes || asking) e
    (subst (λ t. Performs s (takes || asking) e (fields_of (config_of s mid)) (Ok t)) c.in-Some.ensures.0 (performs_marked s old found asking e _ _ performs.effect)) performs.threads performs.choices c.go_to_next.ensures.ends)

pub returns-in_default-clause-ends : goal.returns-in_default-clause-ends
returns-in_default-clause-ends c =
    let s = story_tree c.args.story.now in
    let p = place_of s c.args.here in
    let old = c.args.self.now in
    let before = config_of s old in
    let new = config_of s c.finish.new.self in
    let found = Some (leaf c.args.content.now) in
    let takes = takes_there found && keeps_mark (stood_of old) in
    let performs = c.in_ok-perform.ensures in
    let asking = content_asks s p found (context_of before) (fields_of before) in
    let e = effect s p found (context_of before) (fields_of before) in
    let stores : is_some (globals_stood c.perform.new.self.shared.globals) ≡ true → AsksToStore e (takes || asking) =
    λ marked. stores_marked s old found asking p (context_of before) (fields_of before) (sym (ap (λ (t : Stood). is_some t.globals) performs.mark) ∙ marked) in
    let ends =
    c.finish.ensures.ends old (takes || asking) e (performs_marked s old found asking e _ _ performs.effect) performs.threads performs.choices performs.safe performs.counts performs.turn performs.globals stores in
    subst (λ b. StepEnds b (acted s e before) before.shared.globals new c.finish.result) (or_apart takes (pressed s c.finish.new.self) asking (move_asks s e before) (following_asks s (move s e before))) ends

-- ---- what stays

pub returns-clause-start : goal.returns-clause-start
returns-clause-start c = c.go_to_next.ensures.start ∙ c.perform.ensures.start

pub returns-in_default-clause-start : goal.returns-in_default-clause-start
returns-in_default-clause-start c = c.finish.ensures.start ∙ c.perform.ensures.start

pub returns-clause-aside : goal.returns-clause-aside
returns-clause-aside c = c.go_to_next.ensures.aside ∙ c.perform.ensures.aside

pub returns-in_default-clause-aside : goal.returns-in_default-clause-aside
returns-in_default-clause-aside c = c.finish.ensures.aside ∙ c.perform.ensures.aside

pub returns-clause-mark : goal.returns-clause-mark
returns-clause-mark c = c.go_to_next.ensures.mark ∙ c.perform.ensures.mark

pub returns-in_default-clause-mark : goal.returns-in_default-clause-mark
returns-in_default-clause-mark c = c.finish.ensures.mark ∙ c.perform.ensures.mark

-- ---- the own fields

pub returns-in_err-perform-clause-own : goal.returns-in_err-perform-clause-own
returns-in_err-perform-clause-own c = own_same 1 _ _ c.perform.ensures.own

pub returns-clause-own : goal.returns-clause-own
returns-clause-own c = own_same 1 _ _ (c.go_to_next.ensures.own ∙ c.perform.ensures.own)

pub returns-in_default-clause-own : goal.returns-in_default-clause-own
returns-in_default-clause-own c = own_before c.perform.ensures.own c.finish.ensures.own
