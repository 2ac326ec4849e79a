use Rattle.std.proofs.Common.{◌≡◌, ◌⊎◌, ◌||◌, ◌&&◌, Some, inl, inr, sym, subst}
use Rattle.ink_step.proofs.Common.{story_tree, acting_asks, content_asks, context_of, fields_of, acted, effect, leaf, keeps_mark, pressed, stood_of, takes_there, StepEnds, config_of, or_first, place_of}
use Rattle.ink_step.proofs.Owned.{own_same}
use Rattle.ink_step.proofs.machine.Machine.act_storing.Goals as goal

-- what holds of both holds of what is one of them
of_both : {X : Type 0} (P : X → Type 0) (x a b : X) → (x ≡ a) ⊎ (x ≡ b) → P a → P b → P x
of_both P x a b (inl is) pa pb = subst P (sym is) pa
of_both P x a b (inr is) pa pb = subst P (sym is) pb

pub returns-in-Some-clause-ends : goal.returns-in-Some-clause-ends
returns-in-Some-clause-ends c =
    let s = story_tree c.args.story.now in
    let p = place_of s c.args.here in
    let old = c.args.self.now in
    let before = config_of s old in
    let new = c.store_at_once.new.self in
    of_both (λ l. let there = Some (leaf l) in let e = effect s p there (context_of before) (fields_of before) in
    StepEnds (((takes_there there && keeps_mark (stood_of old)) || pressed s new) || acting_asks s (content_asks s p there (context_of before) (fields_of before)) e before) (acted s e before) old.shared.globals.rows (config_of s new) c.store_at_once.result)
    c.args.content.now _ _ c.requires.is (c.store_at_once.ensures.assigned _ (λ marked. or_first _ _ (or_first _ _ marked))) (c.store_at_once.ensures.declared _ (λ marked. or_first _ _ (or_first _ _ marked)))

-- ---- the own fields

pub returns-in-Some-clause-own : goal.returns-in-Some-clause-own
returns-in-Some-clause-own c = own_same 1 _ _ c.store_at_once.ensures.own
