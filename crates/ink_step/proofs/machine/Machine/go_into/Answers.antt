use Rattle.std.proofs.Common.{◌&&◌, ◌||◌, ◌∙◌, ◌≡◌, Err, cond, nat_lt, refl, rules, subst, sym, true}
use Rattle.ink_step.proofs.Common.{story_tree, map_threads, landing_outcome, written_in, landed_asks, frame_count, adds_rows, around, entering_around, landing_lacks, pressed, stood_of, StepEnds, config_of, counts_in, place_of}
use Rattle.ink_model.specs.Flow.Transfers.{Written, called}
use Rattle.ink_model.specs.declared.limits.TheConstants.{MAX_FRAMES}
use Rattle.ink_stack.specs.Calls.{frame_kind}
use Rattle.ink_step.proofs.Marks.{pressed_landing}
use Rattle.ink_step.proofs.Follows.{or_where}
use Rattle.ink_step.proofs.Landed.{called_goes, lands, lands_broken, lands_short}
use Rattle.ink_step.proofs.machine.Machine.go_into.Goals as goal

pub returns-in_err-end-clause-ends : goal.returns-in_err-end-clause-ends
returns-in_err-end-clause-ends c =
    let s = story_tree c.args.story.now in
    let machine = c.args.self.now in
    let old = config_of s machine in
    let to = c.args.to in
    let f = c.in_err-end.field-0.0 in
    let left = record machine { flow = record machine.flow { threads = c.call.new.threads }; output = c.call.new.output } in
    let new = config_of s left in
    let w : Written = record { stack = machine.flow.stack.items; page = c.call.new.output.page } in
    let is : c.from_residual.result ≡ Err f = search rules in
    subst (λ r. StepEnds (pressed s left || (nat_lt (frame_count old.flow.threads.thread) MAX_FRAMES || landed_asks s to.enters old.shared.counts (called (frame_kind c.args.kind) (place_of s to.place) old.flow.threads (written_in old))))
    (landing_outcome s to.enters (called (frame_kind c.args.kind) (place_of s to.place)) old) machine.shared.globals.rows new r) (sym is)
    (lands_broken s (pressed s left) _ old new machine.shared.globals.rows (map_threads (place_of s) c.call.new.threads.threads) w f refl to.enters _ (c.in_err-end.ensures.flow s machine.flow.stack.items))

pub returns-in_err-enter_around-clause-ends : goal.returns-in_err-enter_around-clause-ends
returns-in_err-enter_around-clause-ends c =
    let s = story_tree c.args.story.now in
    let machine = c.args.self.now in
    let old = config_of s machine in
    let to = c.args.to in
    let f = c.in_err-enter_around.field-0.0 in
    let left = c.enter_around.new.self in
    let new = config_of s left in
    let called_threads = c.call.new.threads.threads in
    let mid = record machine { flow = record machine.flow { threads = c.call.new.threads }; output = c.call.new.output } in
    let w : Written = record { stack = machine.flow.stack.items; page = c.call.new.output.page } in
    let short = c.in_err-enter_around.ensures in
    let adds = or_where _ (pressed s left) _ (pressed_landing s left) (subst (λ t. (landing_lacks t left || (to.enters && adds_rows t (around t (map_threads (place_of t) called_threads)) (counts_in t machine.shared.counts.rows))) ≡ true) c.tree.ensures.tree short.memory) in
    let is : c.from_residual-in_err-enter_around.result ≡ Err f = search rules in
    subst (λ r. StepEnds (pressed s left || (nat_lt (frame_count old.flow.threads.thread) MAX_FRAMES || landed_asks s to.enters old.shared.counts (called (frame_kind c.args.kind) (place_of s to.place) old.flow.threads (written_in old))))
    (landing_outcome s to.enters (called (frame_kind c.args.kind) (place_of s to.place)) old) machine.shared.globals.rows new r) (sym is)
    (lands_short s (pressed s left) _ old new machine.shared.globals.rows (map_threads (place_of s) called_threads) w f short.globals to.enters _ c.in_ok-end.end
    (λ e. called_goes (frame_kind c.args.kind) (place_of s to.place) old.flow.threads (written_in old)) (c.in_ok-end.ensures.flow s machine.flow.stack.items) short.fault adds)

pub returns-clause-ends : goal.returns-clause-ends
returns-clause-ends c =
    let s = story_tree c.args.story.now in
    let machine = c.args.self.now in
    let old = config_of s machine in
    let to = c.args.to in
    let mid = record machine { flow = record machine.flow { threads = c.call.new.threads }; output = c.call.new.output } in
    let after = c.enter_around.new.self in
    let w : Written = record { stack = machine.flow.stack.items; page = c.call.new.output.page } in
    let entered = subst (λ t. config_of t after ≡ cond to.enters (entering_around t (config_of t mid)) (config_of t mid)) c.tree.ensures.tree c.in_ok-enter_around.ensures.ok in
    lands s (pressed s after) _ old (config_of s after) machine.shared.globals.rows (map_threads (place_of s) c.call.new.threads.threads) w to.enters _ c.in_ok-end.end
    (λ e. called_goes (frame_kind c.args.kind) (place_of s to.place) old.flow.threads (written_in old)) (c.in_ok-end.ensures.flow s machine.flow.stack.items) entered

-- ---- what stays

pub returns-in_err-enter_around-clause-globals : goal.returns-in_err-enter_around-clause-globals
returns-in_err-enter_around-clause-globals c = c.enter_around.ensures.globals

pub returns-in_err-enter_around-clause-start : goal.returns-in_err-enter_around-clause-start
returns-in_err-enter_around-clause-start c = c.enter_around.ensures.start

pub returns-in_err-enter_around-clause-aside : goal.returns-in_err-enter_around-clause-aside
returns-in_err-enter_around-clause-aside c = c.enter_around.ensures.aside

pub returns-in_err-enter_around-clause-mark : goal.returns-in_err-enter_around-clause-mark
returns-in_err-enter_around-clause-mark c =
    let machine = c.args.self.now in
    let here : stood_of (record machine { flow = record machine.flow { threads = c.call.new.threads }; output = c.call.new.output }) ≡ stood_of machine = rw (c.call.ensures.threads_mark, c.call.ensures.output_mark) refl in
    c.enter_around.ensures.mark ∙ here

pub returns-clause-globals : goal.returns-clause-globals
returns-clause-globals c = c.enter_around.ensures.globals

pub returns-clause-start : goal.returns-clause-start
returns-clause-start c = c.enter_around.ensures.start

pub returns-clause-aside : goal.returns-clause-aside
returns-clause-aside c = c.enter_around.ensures.aside

pub returns-clause-mark : goal.returns-clause-mark
returns-clause-mark c =
    let machine = c.args.self.now in
    let here : stood_of (record machine { flow = record machine.flow { threads = c.call.new.threads }; output = c.call.new.output }) ≡ stood_of machine = rw (c.call.ensures.threads_mark, c.call.ensures.output_mark) refl in
    c.enter_around.ensures.mark ∙ here
