use Rattle.std.proofs.Common.{◌∙◌, ap, false, option_map, refl, subst, sym}
use Rattle.ink_step.proofs.Common.{story_tree, fields_of, leaf, config_of, place_of}
use Rattle.ink_model.specs.Run.Effect.{Moves}
use Rattle.ink_effects.proofs.Plain.{keeps_plain, offers_plain}
use Rattle.ink_step.specs.Finishes.{ActsThere}
use Rattle.ink_step.proofs.machine.Machine.act.Goals as goal

pub act_here-requires-clause-stands : goal.act_here-requires-clause-stands
act_here-requires-clause-stands c = ap (option_map (λ l. l.now)) (sym c.in-Some.is) ∙ c.requires.stands

pub returns-in-Some-clause-ends : goal.returns-in-Some-clause-ends
returns-in-Some-clause-ends c =
    let s = story_tree c.args.story.now in
    subst (λ o. ActsThere s (place_of s c.args.here) (option_map (λ l. leaf l.now) o) c.args.self.now c.act_here.new.self c.act_here.result) (sym c.in-Some.is) c.act_here.ensures.ends

-- nothing is passed over
pub returns-in-None-clause-ends : goal.returns-in-None-clause-ends
returns-in-None-clause-ends c =
    let s = story_tree c.args.story.now in
    let old = c.args.self.now in
    let e = Moves (fields_of (config_of s old)) in
    let threads = old.flow.threads.threads in
    subst (λ o. ActsThere s (place_of s c.args.here) (option_map (λ l. leaf l.now) o) old c.finish_next.new.self c.finish_next.result) (sym c.in-None.is)
    (c.finish_next.ensures.ends old false e refl (keeps_plain s e threads threads tt refl) (offers_plain s e old.flow.choices.items tt) refl refl refl refl (λ marked. tt))
