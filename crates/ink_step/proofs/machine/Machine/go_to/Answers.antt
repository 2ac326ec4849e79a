use Rattle.std.proofs.Common.{◌≡◌, ◌&&◌, ◌||◌, cond, false, rules, subst, sym, true, Err, ◌∙◌, ap}
use Rattle.ink_step.proofs.Common.{story_tree, map_threads, landing_outcome, written_in, landed_asks, adds_rows, around, entering_around, landing_lacks, pressed, stood_of, StepEnds, config_of, counts_in, place_of}
use Rattle.ink_model.specs.Flow.Transfers.{reach}
use Rattle.ink_step.proofs.Marks.{pressed_landing}
use Rattle.ink_step.proofs.Follows.{or_where}
use Rattle.ink_step.proofs.Landed.{lands, lands_short}
use Rattle.ink_step.proofs.machine.Machine.go_to.Goals as goal

pub returns-in_err-enter_around-clause-ends : goal.returns-in_err-enter_around-clause-ends
returns-in_err-enter_around-clause-ends c =
    let s = story_tree c.args.story.now in
    let machine = c.args.self.now in
    let old = config_of s machine in
    let to = c.args.to in
    let left = c.enter_around.new.self in
    let new = config_of s left in
    let threads = c.land-end.new.threads.threads in
    let short = c.in_err-enter_around.ensures in
    let adds = or_where _ (pressed s left) _ (pressed_landing s left) (subst (λ t. (landing_lacks t left || (to.enters && adds_rows t (around t (map_threads (place_of t) threads)) (counts_in t machine.shared.counts.rows))) ≡ true) c.tree.ensures.tree short.memory) in
    let is : c.from_residual.result ≡ Err c.in_err-enter_around.field-0.0 = search rules in
    subst (λ r. StepEnds (pressed s left || landed_asks s to.enters old.shared.counts (reach (place_of s to.place) old.flow.threads (written_in old))) (landing_outcome s to.enters (reach (place_of s to.place)) old) machine.shared.globals.rows new r) (sym is)
    (lands_short s (pressed s left) false old new machine.shared.globals.rows (map_threads (place_of s) threads) (written_in old) c.in_err-enter_around.field-0.0 short.globals to.enters _ c.land-end.result (λ e. tt)
    (c.land-end.ensures.flow s (written_in old)) short.fault adds)

pub returns-clause-ends : goal.returns-clause-ends
returns-clause-ends c =
    let s = story_tree c.args.story.now in
    let machine = c.args.self.now in
    let old = config_of s machine in
    let to = c.args.to in
    let after = c.enter_around.new.self in
    let landed = record machine { flow = record machine.flow { threads = c.land-end.new.threads } } in
    let entered = subst (λ t. config_of t after ≡ cond to.enters (entering_around t (config_of t landed)) (config_of t landed)) c.tree.ensures.tree c.in_ok-enter_around.ensures.ok in
    lands s (pressed s after) false old (config_of s after) machine.shared.globals.rows (map_threads (place_of s) c.land-end.new.threads.threads) (written_in old) to.enters _ c.land-end.result (λ e. tt)
    (c.land-end.ensures.flow s (written_in old)) entered

pub returns-clause-mark : goal.returns-clause-mark
returns-clause-mark c = c.enter_around.ensures.mark ∙ ap (λ o. record (stood_of c.args.self.now) { threads = o }) c.land-end.ensures.mark
