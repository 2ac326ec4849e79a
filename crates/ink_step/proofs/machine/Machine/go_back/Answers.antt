use Rattle.std.proofs.Common.{◌&&◌, ◌||◌, ◌∙◌, ◌≡◌, Err, Ok, cond, option_map, refl, rules, subst, sym, true}
use Rattle.ink_step.proofs.Common.{story_tree, map_threads, next_place, landing_lacks, pressed, stood_of, StepEnds, config_of, counts_in, adds_rows, around, entering_around, place_of}
use Rattle.ink_model.specs.Flow.Transfers.{returned}
use Rattle.ink_model.specs.Run.Move.{landing_outcome, may_enter, place_to, written_in}
use Rattle.ink_model.specs.Memory.Moves.{landed_asks, returned_asks}
use Rattle.ink_effects.specs.Performs.{landing_of}
use Rattle.ink_moves.specs.Reaches.{ReachesAs, written}
use Rattle.ink_step.proofs.Marks.{pressed_landing}
use Rattle.ink_step.proofs.Follows.{or_where}
use Rattle.ink_step.proofs.Landed.{lands, lands_broken, lands_short, returned_lands}
use Rattle.ink_step.proofs.machine.Machine.go_back.Goals as goal

pub returns-in_err-end-clause-ends : goal.returns-in_err-end-clause-ends
returns-in_err-end-clause-ends c =
    let s = story_tree c.args.story.now in
    let machine = c.args.self.now in
    let old = config_of s machine in
    let kind = c.args.kind in
    let goal = option_map (landing_of s) c.args.to in
    let back = c.return_frame.new in
    let left = record machine { flow = record machine.flow { threads = back.threads; stack = back.stack }; output = back.output } in
    let new = config_of s left in
    let ts = map_threads (place_of s) back.threads.threads in
    let w = written back.stack back.output in
    let f = c.in_err-end.field-0.0 in
    let short = subst (λ t. let us = map_threads (place_of t) machine.flow.threads.threads in let q = option_map (place_of t) c.place_to.result in
    ReachesAs (returned_asks (next_place t) kind q us (written_in old)) (returned (next_place t) kind q us (written_in old)) (map_threads (place_of t) back.threads.threads) w (Err f))
    c.tree.ensures.tree c.in_err-end.ensures.flow in
    let reached = subst (λ q. ReachesAs (returned_asks (next_place s) kind q old.flow.threads (written_in old)) (returned (next_place s) kind q old.flow.threads (written_in old)) ts w (Err f))
    (c.place_to.ensures s) short in
    let is : c.from_residual.result ≡ Err f = search rules in
    subst (λ r. StepEnds (pressed s left || (returned_asks (next_place s) kind (place_to goal) old.flow.threads (written_in old)
    || landed_asks s (may_enter goal) old.shared.counts (returned (next_place s) kind (place_to goal) old.flow.threads (written_in old))))
    (landing_outcome s (may_enter goal) (returned (next_place s) kind (place_to goal)) old) machine.shared.globals.rows new r) (sym is)
    (lands_broken s _ _ old new machine.shared.globals.rows ts w f refl (may_enter goal) _ reached)

pub returns-in_err-enter_around-clause-ends : goal.returns-in_err-enter_around-clause-ends
returns-in_err-enter_around-clause-ends c =
    let s = story_tree c.args.story.now in
    let machine = c.args.self.now in
    let old = config_of s machine in
    let kind = c.args.kind in
    let goal = option_map (landing_of s) c.args.to in
    let back = c.return_frame.new in
    let mid = record machine { flow = record machine.flow { threads = back.threads; stack = back.stack }; output = back.output } in
    let left = c.enter_around.new.self in
    let new = config_of s left in
    let ts = map_threads (place_of s) back.threads.threads in
    let w = written back.stack back.output in
    let end = c.in_ok-end.end in
    let f = c.in_err-enter_around.field-0.0 in
    let went = subst (λ t. let us = map_threads (place_of t) machine.flow.threads.threads in let q = option_map (place_of t) c.place_to.result in
    ReachesAs (returned_asks (next_place t) kind q us (written_in old)) (returned (next_place t) kind q us (written_in old)) (map_threads (place_of t) back.threads.threads) w (Ok end))
    c.tree.ensures.tree c.in_ok-end.ensures.flow in
    let reached = subst (λ q. ReachesAs (returned_asks (next_place s) kind q old.flow.threads (written_in old)) (returned (next_place s) kind q old.flow.threads (written_in old)) ts w (Ok end))
    (c.place_to.ensures s) went in
    let short = c.in_err-enter_around.ensures in
    let enters = may_enter goal in
    let adds_there = or_where _ (pressed s left) _ (pressed_landing s left) (subst (λ t. (landing_lacks t left || (c.may_enter.result && adds_rows t (around t (map_threads (place_of t) back.threads.threads)) (counts_in t machine.shared.counts.rows))) ≡ true) c.tree-2.ensures.tree short.memory) in
    let adds = subst (λ b. (pressed s left || (b && adds_rows s (around s ts) (counts_in s machine.shared.counts.rows))) ≡ true) (c.may_enter.ensures s) adds_there in
    let is : c.from_residual-in_err-enter_around.result ≡ Err f = search rules in
    subst (λ r. StepEnds (pressed s left || (returned_asks (next_place s) kind (place_to goal) old.flow.threads (written_in old)
    || landed_asks s enters old.shared.counts (returned (next_place s) kind (place_to goal) old.flow.threads (written_in old))))
    (landing_outcome s enters (returned (next_place s) kind (place_to goal)) old) machine.shared.globals.rows new r) (sym is)
    (lands_short s (pressed s left) _ old new machine.shared.globals.rows ts w f short.globals enters _ end
    (returned_lands (next_place s) kind goal old.flow.threads (written_in old)) reached short.fault adds)

pub returns-clause-ends : goal.returns-clause-ends
returns-clause-ends c =
    let s = story_tree c.args.story.now in
    let machine = c.args.self.now in
    let old = config_of s machine in
    let kind = c.args.kind in
    let goal = option_map (landing_of s) c.args.to in
    let back = c.return_frame.new in
    let mid = record machine { flow = record machine.flow { threads = back.threads; stack = back.stack }; output = back.output } in
    let after = c.enter_around.new.self in
    let ts = map_threads (place_of s) back.threads.threads in
    let w = written back.stack back.output in
    let end = c.in_ok-end.end in
    let went = subst (λ t. let us = map_threads (place_of t) machine.flow.threads.threads in let q = option_map (place_of t) c.place_to.result in
    ReachesAs (returned_asks (next_place t) kind q us (written_in old)) (returned (next_place t) kind q us (written_in old)) (map_threads (place_of t) back.threads.threads) w (Ok end))
    c.tree.ensures.tree c.in_ok-end.ensures.flow in
    let reached = subst (λ q. ReachesAs (returned_asks (next_place s) kind q old.flow.threads (written_in old)) (returned (next_place s) kind q old.flow.threads (written_in old)) ts w (Ok end))
    (c.place_to.ensures s) went in
    let entered_there = subst (λ t. config_of t after ≡ cond c.may_enter.result (entering_around t (config_of t mid)) (config_of t mid)) c.tree-2.ensures.tree c.in_ok-enter_around.ensures.ok in
    let entered = subst (λ b. config_of s after ≡ cond b (entering_around s (config_of s mid)) (config_of s mid)) (c.may_enter.ensures s) entered_there in
    lands s (pressed s after) _ old (config_of s after) machine.shared.globals.rows ts w (may_enter goal) _ end (returned_lands (next_place s) kind goal old.flow.threads (written_in old)) reached entered

-- ---- what stays

pub returns-in_err-enter_around-clause-globals : goal.returns-in_err-enter_around-clause-globals
returns-in_err-enter_around-clause-globals c = c.enter_around.ensures.globals

pub returns-in_err-enter_around-clause-start : goal.returns-in_err-enter_around-clause-start
returns-in_err-enter_around-clause-start c = c.enter_around.ensures.start

pub returns-in_err-enter_around-clause-aside : goal.returns-in_err-enter_around-clause-aside
returns-in_err-enter_around-clause-aside c = c.enter_around.ensures.aside

pub returns-in_err-enter_around-clause-mark : goal.returns-in_err-enter_around-clause-mark
returns-in_err-enter_around-clause-mark c =
    let machine = c.args.self.now in
    let back = c.return_frame.new in
    let here : stood_of (record machine { flow = record machine.flow { threads = back.threads; stack = back.stack }; output = back.output }) ≡ stood_of machine =
    rw (c.return_frame.ensures.threads_mark, c.return_frame.ensures.stack_mark, c.return_frame.ensures.output_mark) refl in
    c.enter_around.ensures.mark ∙ here

pub returns-clause-globals : goal.returns-clause-globals
returns-clause-globals c = c.enter_around.ensures.globals

pub returns-clause-start : goal.returns-clause-start
returns-clause-start c = c.enter_around.ensures.start

pub returns-clause-aside : goal.returns-clause-aside
returns-clause-aside c = c.enter_around.ensures.aside

pub returns-clause-mark : goal.returns-clause-mark
returns-clause-mark c =
    let machine = c.args.self.now in
    let back = c.return_frame.new in
    let here : stood_of (record machine { flow = record machine.flow { threads = back.threads; stack = back.stack }; output = back.output }) ≡ stood_of machine =
    rw (c.return_frame.ensures.threads_mark, c.return_frame.ensures.stack_mark, c.return_frame.ensures.output_mark) refl in
    c.enter_around.ensures.mark ∙ here
