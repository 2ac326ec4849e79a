use Rattle.std.proofs.Common.{◌≡◌, ◌&&◌, ◌||◌, ap, option_map, rules, subst, sym, Some, Result, Err, ◌∙◌}
use Rattle.ink_step.proofs.Common.{story_tree, acting_asks, asks, content_asks, Configuration, context_of, fields_of, Bound, acted, effect, step, leaf, Fault, Stood, keeps_mark, pressed, presses, stood_of, takes_there, EndsPlainly, StepEnds, config_of, start_of, aside_in, StepEnd, Machine, or_first, or_more, place_of}
use Rattle.ink_step.proofs.Finished.{not_external, passed, takes_here}
use Rattle.ink_step.proofs.Follows.{ends_short, ready_alike}
use Rattle.ink_step.proofs.Marks.{step_pressed}
use Rattle.ink_step.proofs.Owned.{own_before, own_same}
use Rattle.ink_step.proofs.machine.Machine.pass.Goals as goal
use Rattle.ink_step.proofs.machine.Machine.pass.Goals.{Start}

-- how what stands there ends
abbrev Acts : Start → Configuration → Machine → Result StepEnd Fault → Type 0
Acts c d new r =
    let s = story_tree c.args.story.now in
    let p = place_of s c.args.place in
    let found = Some (leaf c.args.content.now) in
    let e = effect s p found (context_of d) (fields_of d) in
    StepEnds (((takes_there found && keeps_mark (stood_of c.args.self.now)) || pressed s new) || acting_asks s (content_asks s p found (context_of d) (fields_of d)) e d) (acted s e d) d.shared.globals (config_of s new) r

-- so the step ends
passes_there : (c : Start) (b : Bound) (new : Machine) (r : Result StepEnd Fault) → let s = story_tree c.args.story.now in let old = c.args.self.now in
    Acts c (config_of s old) new r → EndsPlainly (presses s old new || asks s b (config_of s old)) (step s b (config_of s old)) old.shared.globals.rows (config_of s new) r
passes_there c b new r acts =
    let s = story_tree c.args.story.now in
    let old = c.args.self.now in
    let l = c.args.content.now in
    let marked = keeps_mark (stood_of old) in
    subst (λ t. EndsPlainly (((t && marked) || pressed s new) || asks s b (config_of s old)) (step s b (config_of s old)) old.shared.globals.rows (config_of s new) r)
    (sym (takes_here s (config_of s old) (place_of s c.args.place) l (ap (option_map (place_of s)) c.requires.at) (sym c.requires.stands)))
    (passed s b old new c.args.place l c.requires.at (sym c.requires.stands) (not_external _ c.requires.plain) ((takes_there (Some (leaf l)) && marked) || pressed s new) r acts)

pub returns-in_err-make_step_room-clause-ends : goal.returns-in_err-make_step_room-clause-ends
returns-in_err-make_step_room-clause-ends c b =
    let s = story_tree c.args.story.now in
    let old = c.args.self.now in
    let left = c.make_step_room.new.self in
    let f = c.in_err-make_step_room.field-0.0 in
    let short = c.in_err-make_step_room.ensures in
    let is : c.from_residual.result ≡ Err f = search rules in
    let p = place_of s c.args.place in
    let found = Some (leaf c.args.content.now) in
    let d = config_of s old in
    let e = effect s p found (context_of d) (fields_of d) in
    let takes = takes_there found && keeps_mark (stood_of old) in
    let acting = acting_asks s (content_asks s p found (context_of d) (fields_of d)) e d in
    subst (λ r. EndsPlainly (presses s old left || asks s b (config_of s old)) (step s b (config_of s old)) old.shared.globals.rows (config_of s left) r) (sym is)
    (passes_there (goal.at.returns-in_err-make_step_room-clause-ends c).Start b left (Err f) (ends_short ((takes || pressed s left) || acting) (acted s e d) old.shared.globals.rows (config_of s left) f
    (short.fault, or_first (takes || pressed s left) acting (or_more takes (pressed s left) (step_pressed s left short.memory))) (ap (λ m. m.shared.globals.rows) c.make_step_room.ensures.same)))

pub returns-clause-ends : goal.returns-clause-ends
returns-clause-ends c b =
    let s = story_tree c.args.story.now in
    let old = c.args.self.now in
    let ready = c.make_step_room.new.self in
    let new = c.act_here.new.self in
    let p = place_of s c.args.place in
    let found = Some (leaf c.args.content.now) in
    let d = config_of s ready in
    let e = effect s p found (context_of d) (fields_of d) in
    let acts : Acts (goal.at.returns-clause-ends c).Start d new c.act_here.result =
    subst (λ (t : Stood). StepEnds (((takes_there found && keeps_mark t) || pressed s new) || acting_asks s (content_asks s p found (context_of d) (fields_of d)) e d) (acted s e d) d.shared.globals (config_of s new) c.act_here.result)
    c.make_step_room.ensures.mark c.act_here.ensures.ends in
    passes_there (goal.at.returns-clause-ends c).Start b new c.act_here.result
    (subst (λ d. Acts (goal.at.returns-clause-ends c).Start d new c.act_here.result) (ready_alike s old ready c.make_step_room.ensures.same c.make_step_room.ensures.threads c.make_step_room.ensures.items) acts)

-- ---- what stays

pub returns-clause-start : goal.returns-clause-start
returns-clause-start c = c.act_here.ensures.start ∙ ap start_of c.make_step_room.ensures.same

pub returns-clause-aside : goal.returns-clause-aside
returns-clause-aside c = c.act_here.ensures.aside ∙ ap aside_in c.make_step_room.ensures.same

pub returns-clause-mark : goal.returns-clause-mark
returns-clause-mark c = c.act_here.ensures.mark ∙ c.make_step_room.ensures.mark

-- ---- the own fields

pub returns-in_err-make_step_room-clause-own : goal.returns-in_err-make_step_room-clause-own
returns-in_err-make_step_room-clause-own c = own_same 1 _ _ (ap (λ (m : Machine). m.trail) c.in_err-make_step_room.ensures.same)

pub returns-clause-own : goal.returns-clause-own
returns-clause-own c = own_before (ap (λ (m : Machine). m.trail) c.make_step_room.ensures.same) c.act_here.ensures.own
