use Rattle.std.proofs.Common.{[], ◌||◌, ◌∙◌, ◌≡◌, ◌≤◌, Bool, Err, None, Ok, Result, ap, arith, false, refl, rules, subst, sym, true}
use Rattle.ink_step.proofs.Common.{story_tree, Effect, fields_of, going, move, reached_in, written_in, next_place, StoryTree, Fault, OutOfMemory, threads_spare, pressed, stood_of, Performs, unstored, StepEnds, aside_in, config_of, start_of, StepEnd, Machine, place_of}
use Rattle.ink_model.specs.Run.Configuration.{ended, with_safe, with_threads}
use Rattle.ink_model.specs.Flow.Transfers.{Written, done, forked, halt, moved_on}
use Rattle.ink_model.specs.Flow.Frames.{base_threads, map_threads}
use Rattle.ink_model.specs.Memory.Moves.{dropped_asks, forked_asks, move_asks, moved_asks}
use Rattle.ink_model.specs.Flow.Threads.{dropped}
use Rattle.ink_moves.specs.Reaches.{ReachesAs, written}
use Rattle.ink_effects.proofs.Plain.{when_ok}
use Rattle.ink_step.proofs.Follows.{ends_more, ends_pressed, ends_reached, goes_after_text, goes_done, goes_forking, goes_nowhere}
use Rattle.ink_step.proofs.Landed.{goes_back, goes_into, goes_on, goes_storing, goes_there}
use Rattle.ink_step.proofs.Marks.{pressed_choices, pressed_fresh, pressed_own}
use Rattle.ink_model.proofs.Maps.{is_last_map, staled_map}
use Rattle.ink_step.proofs.Owned.{own_same}
use Rattle.ink_step.proofs.machine.Machine.follow.Goals as goal

pub returns-else-last-clause-ends : goal.returns-else-last-clause-ends
returns-else-last-clause-ends c asks e h has offers =
    let s = story_tree c.args.story.now in
    let old = config_of s c.args.self.now in
    let new = config_of s c.go_on.new.self in
    goes_on s (pressed s c.go_on.new.self) asks old new c.go_on.result e (subst (λ t. Performs s asks e (fields_of old) (Ok t)) c.in-Next.is h) has offers
    (ends_more (pressed s c.go_on.new.self) _ (going (moved_on (next_place s)) old) _ new c.go_on.result (ends_more asks _ (going (moved_on (next_place s)) old) _ new c.go_on.result c.go_on.ensures.ends))

pub returns-then-last-clause-ends : goal.returns-then-last-clause-ends
returns-then-last-clause-ends c asks e h has offers =
    let s = story_tree c.args.story.now in
    let old = config_of s c.args.self.now in
    let new = config_of s c.go_off.new.self in
    goes_on s (pressed s c.go_off.new.self) asks old new c.go_off.result e (subst (λ t. Performs s asks e (fields_of old) (Ok t)) c.in-Next.is h) has offers
    (ends_more (pressed s c.go_off.new.self) _ (going (moved_on (next_place s)) old) _ new c.go_off.result (ends_more asks _ (going (moved_on (next_place s)) old) _ new c.go_off.result c.go_off.ensures.ends))

-- memory was refused for what a mark wants
falls_short : (s : StoryTree) (old left : Machine) (f : Fault) (r : Result StepEnd Fault) (asks : Bool) (e : Effect) → r ≡ Err f → f ≡ OutOfMemory → pressed s left ≡ true → left.shared.globals.rows ≡ old.shared.globals.rows
    → let c = config_of s old in StepEnds (pressed s left || (asks || move_asks s e c)) (move s (unstored c.shared.globals e) c) c.shared.globals (config_of s left) r
falls_short s old left f r asks e is short pressing same =
    let c = config_of s old in
    subst (λ k. StepEnds (pressed s left || (asks || move_asks s e c)) (move s (unstored c.shared.globals e) c) c.shared.globals (config_of s left) k) (sym is)
    (ends_pressed (pressed s left) (asks || move_asks s e c) (move s (unstored c.shared.globals e) c) c.shared.globals (config_of s left) f short pressing same)

pub returns-in_err-end_freshness-in-Wrote-clause-ends : goal.returns-in_err-end_freshness-in-Wrote-clause-ends
returns-in_err-end_freshness-in-Wrote-clause-ends c asks e h has offers =
    let s = story_tree c.args.story.now in
    let left = c.end_freshness.new.self in
    let short = c.in_err-end_freshness-in-Wrote.ensures in
    let f = c.in_err-end_freshness-in-Wrote.field-0.0 in
    let is : c.from_residual.result ≡ Err f = search rules in
    falls_short s c.args.self.now left f c.from_residual.result asks e is short.fault (pressed_fresh s left short.memory) (ap (λ (m : Machine). m.shared.globals.rows) short.same)

pub returns-in_err-change_safe-in-Done-clause-ends : goal.returns-in_err-change_safe-in-Done-clause-ends
returns-in_err-change_safe-in-Done-clause-ends c asks e h has offers =
    let s = story_tree c.args.story.now in
    let left = c.change_safe.new.self in
    let short = c.in_err-change_safe-in-Done.ensures in
    let f = c.in_err-change_safe-in-Done.field-0.0 in
    let r = c.from_residual-in_err-change_safe-in-Done.result in
    let is : r ≡ Err f = search rules in
    falls_short s c.args.self.now left f r asks e is short.fault (pressed_own s left short.memory) (ap (λ (m : Machine). m.shared.globals.rows) short.same)

pub returns-in_err-change_safe-in-End-clause-ends : goal.returns-in_err-change_safe-in-End-clause-ends
returns-in_err-change_safe-in-End-clause-ends c asks e h has offers =
    let s = story_tree c.args.story.now in
    let left = c.change_safe-in-End.new.self in
    let short = c.in_err-change_safe-in-End.ensures in
    let f = c.in_err-change_safe-in-End.field-0.0 in
    let r = c.from_residual-in_err-change_safe-in-End.result in
    let is : r ≡ Err f = search rules in
    falls_short s c.args.self.now left f r asks e is short.fault (pressed_own s left short.memory) (ap (λ (m : Machine). m.shared.globals.rows) short.same)

pub returns-in_err-ready_choices-in-End-clause-ends : goal.returns-in_err-ready_choices-in-End-clause-ends
returns-in_err-ready_choices-in-End-clause-ends c asks e h has offers =
    let s = story_tree c.args.story.now in
    let mid = c.change_safe-in-End.new.self in
    let left = record mid { flow = record mid.flow { choices = c.ready_choices.new.choices } } in
    let short = c.in_err-ready_choices-in-End.ensures in
    let f = c.in_err-ready_choices-in-End.field-0.0 in
    let r = c.from_residual-in_err-ready_choices-in-End.result in
    let is : r ≡ Err f = search rules in
    falls_short s c.args.self.now left f r asks e is short.fault (pressed_choices s left short.memory) (ap (λ (m : Machine). m.shared.globals.rows) c.change_safe-in-End.ensures.same)

pub returns-in_ok-end_freshness-in-Wrote-clause-ends : goal.returns-in_ok-end_freshness-in-Wrote-clause-ends
returns-in_ok-end_freshness-in-Wrote-clause-ends c asks e h has offers =
    let s = story_tree c.args.story.now in
    let machine = c.args.self.now in
    let old = config_of s machine in
    let mid = c.end_freshness.new.self in
    let new = config_of s c.go_on-in-Wrote.new.self in
    let stale = ap (config_of s) c.end_freshness.ensures.same
    ∙ ap (λ ts. with_threads (map_threads (place_of s) ts) old) c.in_ok-end_freshness-in-Wrote.ensures.threads
    ∙ ap (λ ts. with_threads ts old) (sym (staled_map (place_of s) _ machine.flow.threads.threads)) in
    goes_after_text s (pressed s c.go_on-in-Wrote.new.self) asks old new c.go_on-in-Wrote.result e (subst (λ t. Performs s asks e (fields_of old) (Ok t)) c.in-Wrote.is h)
    (subst (λ d. StepEnds (moved_asks (next_place s) d.flow.threads (written_in d)) (going (moved_on (next_place s)) d) d.shared.globals new c.go_on-in-Wrote.result) stale c.go_on-in-Wrote.ensures.ends)

pub returns-in-Store-clause-ends : goal.returns-in-Store-clause-ends
returns-in-Store-clause-ends c asks e h has offers =
    let s = story_tree c.args.story.now in
    let old = config_of s c.args.self.now in
    let new = config_of s c.go_on-in-Store.new.self in
    goes_storing s (pressed s c.go_on-in-Store.new.self) asks old new c.go_on-in-Store.result _ e (subst (λ t. Performs s asks e (fields_of old) (Ok t)) c.in-Store.is h) has
    (ends_more (pressed s c.go_on-in-Store.new.self) _ (going (moved_on (next_place s)) old) _ new c.go_on-in-Store.result (ends_more asks _ (going (moved_on (next_place s)) old) _ new c.go_on-in-Store.result c.go_on-in-Store.ensures.ends))

pub returns-in-Land-clause-ends : goal.returns-in-Land-clause-ends
returns-in-Land-clause-ends c asks e h has offers =
    let s = story_tree c.args.story.now in
    let old = config_of s c.args.self.now in
    goes_there s (pressed s c.go_to.new.self) asks old (config_of s c.go_to.new.self) c.go_to.result c.in-Land.to e (subst (λ t. Performs s asks e (fields_of old) (Ok t)) c.in-Land.is h) c.go_to.ensures.ends

pub returns-in-Call-clause-ends : goal.returns-in-Call-clause-ends
returns-in-Call-clause-ends c asks e h has offers =
    let s = story_tree c.args.story.now in
    let old = config_of s c.args.self.now in
    goes_into s (pressed s c.go_into.new.self) asks old (config_of s c.go_into.new.self) c.go_into.result c.in-Call.kind c.in-Call.to e (subst (λ t. Performs s asks e (fields_of old) (Ok t)) c.in-Call.is h) c.go_into.ensures.ends

pub returns-in-Return-clause-ends : goal.returns-in-Return-clause-ends
returns-in-Return-clause-ends c asks e h has offers =
    let s = story_tree c.args.story.now in
    let old = config_of s c.args.self.now in
    goes_back s (pressed s c.go_back.new.self) asks old (config_of s c.go_back.new.self) c.go_back.result c.in-Return.kind c.in-Return.to e (subst (λ t. Performs s asks e (fields_of old) (Ok t)) c.in-Return.is h) c.go_back.ensures.ends

pub returns-in-Fork-clause-ends : goal.returns-in-Fork-clause-ends
returns-in-Fork-clause-ends c asks e h has offers =
    let s = story_tree c.args.story.now in
    let machine = c.args.self.now in
    let old = config_of s machine in
    let left = record machine { flow = record machine.flow { threads = c.fork.new.threads; stack = c.fork.new.stack }; output = c.fork.new.output } in
    let new = config_of s left in
    let reached : ReachesAs (forked_asks (next_place s) old.flow.threads (written_in old)) (forked (next_place s) old.flow.threads (written_in old))
    (map_threads (place_of s) c.fork.new.threads.threads) (written c.fork.new.stack c.fork.new.output) c.fork.result = search rules in
    goes_forking s (pressed s left) asks old new c.fork.result e (subst (λ t. Performs s asks e (fields_of old) (Ok t)) c.in-Fork.is h)
    (ends_reached _ old _ (map_threads (place_of s) c.fork.new.threads.threads) (written c.fork.new.stack c.fork.new.output) c.fork.result reached)

pub returns-in_ok-change_safe-in-Done-clause-ends : goal.returns-in_ok-change_safe-in-Done-clause-ends
returns-in_ok-change_safe-in-Done-clause-ends c asks e h has offers =
    let s = story_tree c.args.story.now in
    let machine = c.args.self.now in
    let old = config_of s machine in
    let mid = c.change_safe.new.self in
    let same : mid ≡ record machine { trail = mid.trail; flow = record machine.flow { safe = mid.flow.safe } } = c.change_safe.ensures.same in
    let r = c.done.result in
    let ts = map_threads (place_of s) c.done.new.threads.threads in
    let w = written c.done.new.stack c.done.new.output in
    let goes = subst (λ t. ReachesAs (dropped_asks (next_place t) (dropped (map_threads (place_of t) mid.flow.threads.threads)) (written mid.flow.stack mid.output))
    (done (next_place t) (map_threads (place_of t) mid.flow.threads.threads) (written mid.flow.stack mid.output)) (map_threads (place_of t) c.done.new.threads.threads) w r) c.tree-in-Done.ensures.tree c.done.ensures.flow in
    let reached = subst (λ (m : Machine). ReachesAs (dropped_asks (next_place s) (dropped (map_threads (place_of s) m.flow.threads.threads)) (written m.flow.stack m.output))
    (done (next_place s) (map_threads (place_of s) m.flow.threads.threads) (written m.flow.stack m.output)) ts w r) same goes in
    let safely = c.in_ok-change_safe-in-Done.ensures.safe ∙ ap (λ b. machine.flow.safe || b) (c.is_last.ensures.last ∙ sym (is_last_map (place_of s) machine.flow.threads.threads)) in
    let ends = ends_reached _ (with_safe mid.flow.safe old) _ ts w r reached in
    let there = subst (λ (m : Machine). StepEnds (dropped_asks (next_place s) (dropped old.flow.threads) (written_in old)) (going (done (next_place s)) (with_safe mid.flow.safe old)) old.shared.globals
    (config_of s (record m { flow = record m.flow { threads = c.done.new.threads; stack = c.done.new.stack }; output = c.done.new.output })) r) (sym same) ends in
    goes_done s (pressed s (record mid { flow = record mid.flow { threads = c.done.new.threads; stack = c.done.new.stack }; output = c.done.new.output })) asks old _ r e (subst (λ t. Performs s asks e (fields_of old) (Ok t)) c.in-Done.is h)
    (subst (λ b. StepEnds (dropped_asks (next_place s) (dropped old.flow.threads) (written_in old)) (going (done (next_place s)) (with_safe b old)) old.shared.globals
    (config_of s (record mid { flow = record mid.flow { threads = c.done.new.threads; stack = c.done.new.stack }; output = c.done.new.output })) r) safely there)

pub returns-in_ok-ready_choices-in-End-clause-ends : goal.returns-in_ok-ready_choices-in-End-clause-ends
returns-in_ok-ready_choices-in-End-clause-ends c asks e h has offers =
    let s = story_tree c.args.story.now in
    let machine = c.args.self.now in
    let old = config_of s machine in
    let mid = c.change_safe-in-End.new.self in
    let same : mid ≡ record machine { trail = mid.trail; flow = record machine.flow { safe = mid.flow.safe } } = c.change_safe-in-End.ensures.same in
    let threads = c.end.new.threads in
    let left = c.clear.new.self in
    let r = c.end.result in
    let ts = map_threads (place_of s) threads.threads in
    let halted = reached_in (ended old) (halt (base_threads None) (written_in old)) in
    let stops = subst (λ (m : Machine). let w : Written = record { stack = machine.flow.stack.items; page = m.output.page } in ReachesAs false (halt (base_threads None) w) ts w r) same (c.end.ensures.flow s machine.flow.stack.items) in
    let ends = ends_reached false (ended old) (halt (base_threads None) (written_in old)) ts (written_in old) r stops in
    let safely = subst (λ b. StepEnds false halted old.shared.globals (config_of s (record machine { flow = record machine.flow { threads = threads; choices = record left { items = [] }; safe = b } })) r)
    (sym c.in_ok-change_safe-in-End.ensures.safe) ends in
    let cleared = subst (λ cs. StepEnds false halted old.shared.globals (config_of s (record machine { flow = record machine.flow { threads = threads; choices = record left { items = cs }; safe = mid.flow.safe } })) r)
    (sym c.clear.ensures.items) safely in
    goes_nowhere s (pressed s (record mid { flow = record mid.flow { threads = threads; choices = left } })) asks old _ r e (subst (λ t. Performs s asks e (fields_of old) (Ok t)) c.in-End.is h)
    (subst (λ (m : Machine). StepEnds false halted old.shared.globals (config_of s (record m { flow = record m.flow { threads = threads; choices = left } })) r) (sym same) cleared)

-- ---- what stays

pub returns-in_ok-end_freshness-in-Wrote-clause-globals : goal.returns-in_ok-end_freshness-in-Wrote-clause-globals
returns-in_ok-end_freshness-in-Wrote-clause-globals c = c.go_on-in-Wrote.ensures.globals ∙ ap (λ (m : Machine). m.shared.globals.rows) c.end_freshness.ensures.same

pub returns-in_ok-end_freshness-in-Wrote-clause-start : goal.returns-in_ok-end_freshness-in-Wrote-clause-start
returns-in_ok-end_freshness-in-Wrote-clause-start c = c.go_on-in-Wrote.ensures.start ∙ ap start_of c.end_freshness.ensures.same

pub returns-in_ok-end_freshness-in-Wrote-clause-aside : goal.returns-in_ok-end_freshness-in-Wrote-clause-aside
returns-in_ok-end_freshness-in-Wrote-clause-aside c = c.go_on-in-Wrote.ensures.aside ∙ ap aside_in c.end_freshness.ensures.same

pub returns-in_ok-end_freshness-in-Wrote-clause-mark : goal.returns-in_ok-end_freshness-in-Wrote-clause-mark
returns-in_ok-end_freshness-in-Wrote-clause-mark c = c.go_on-in-Wrote.ensures.mark ∙ c.end_freshness.ensures.mark

pub returns-in_ok-change_safe-in-Done-clause-globals : goal.returns-in_ok-change_safe-in-Done-clause-globals
returns-in_ok-change_safe-in-Done-clause-globals c = ap (λ (m : Machine). m.shared.globals.rows) c.change_safe.ensures.same

pub returns-in_ok-change_safe-in-Done-clause-start : goal.returns-in_ok-change_safe-in-Done-clause-start
returns-in_ok-change_safe-in-Done-clause-start c = ap start_of c.change_safe.ensures.same

pub returns-in_ok-change_safe-in-Done-clause-aside : goal.returns-in_ok-change_safe-in-Done-clause-aside
returns-in_ok-change_safe-in-Done-clause-aside c = ap aside_in c.change_safe.ensures.same

pub returns-in_ok-ready_choices-in-End-clause-globals : goal.returns-in_ok-ready_choices-in-End-clause-globals
returns-in_ok-ready_choices-in-End-clause-globals c = ap (λ (m : Machine). m.shared.globals.rows) c.change_safe-in-End.ensures.same

pub returns-in_ok-ready_choices-in-End-clause-start : goal.returns-in_ok-ready_choices-in-End-clause-start
returns-in_ok-ready_choices-in-End-clause-start c = ap start_of c.change_safe-in-End.ensures.same

pub returns-in_ok-ready_choices-in-End-clause-aside : goal.returns-in_ok-ready_choices-in-End-clause-aside
returns-in_ok-ready_choices-in-End-clause-aside c = ap aside_in c.change_safe-in-End.ensures.same

pub returns-in_ok-change_safe-in-Done-clause-mark : goal.returns-in_ok-change_safe-in-Done-clause-mark
returns-in_ok-change_safe-in-Done-clause-mark c =
    let mid = c.change_safe.new.self in
    let here : stood_of (record mid { flow = record mid.flow { threads = c.done.new.threads; stack = c.done.new.stack }; output = c.done.new.output }) ≡ stood_of mid =
    rw (c.done.ensures.threads_mark, c.done.ensures.stack_mark, c.done.ensures.output_mark) refl in
    here ∙ c.change_safe.ensures.mark

-- ---- room that is left

pub returns-else-last-clause-enough : goal.returns-else-last-clause-enough
returns-else-last-clause-enough c = when_ok c.go_on.result (2 ≤ threads_spare c.go_on.new.self.flow.threads) (omega (arith, c.go_on.ensures.enough))

pub returns-in-Store-clause-enough : goal.returns-in-Store-clause-enough
returns-in-Store-clause-enough c = when_ok c.go_on-in-Store.result (2 ≤ threads_spare c.go_on-in-Store.new.self.flow.threads) (omega (arith, c.go_on-in-Store.ensures.enough))

pub returns-in_ok-end_freshness-in-Wrote-clause-enough : goal.returns-in_ok-end_freshness-in-Wrote-clause-enough
returns-in_ok-end_freshness-in-Wrote-clause-enough c = when_ok c.go_on-in-Wrote.result (2 ≤ threads_spare c.go_on-in-Wrote.new.self.flow.threads) (omega (arith, c.go_on-in-Wrote.ensures.enough))

pub returns-in-Land-clause-enough : goal.returns-in-Land-clause-enough
returns-in-Land-clause-enough c = when_ok c.go_to.result (2 ≤ threads_spare c.go_to.new.self.flow.threads) (omega (arith, c.go_to.ensures.spare, c.requires.room))

pub returns-in-Call-clause-enough : goal.returns-in-Call-clause-enough
returns-in-Call-clause-enough c = when_ok c.go_into.result (2 ≤ threads_spare c.go_into.new.self.flow.threads) (omega (arith, c.go_into.ensures.spare, c.requires.room))

pub returns-in-Return-clause-enough : goal.returns-in-Return-clause-enough
returns-in-Return-clause-enough c = when_ok c.go_back.result (2 ≤ threads_spare c.go_back.new.self.flow.threads) (omega (arith, c.go_back.ensures.enough))

pub returns-in-Fork-clause-enough : goal.returns-in-Fork-clause-enough
returns-in-Fork-clause-enough c = when_ok c.fork.result (2 ≤ threads_spare c.fork.new.threads) (omega (arith, c.fork.ensures.enough))

pub returns-in_ok-change_safe-in-Done-clause-enough : goal.returns-in_ok-change_safe-in-Done-clause-enough
returns-in_ok-change_safe-in-Done-clause-enough c = when_ok c.done.result (2 ≤ threads_spare c.done.new.threads) (omega (arith, c.done.ensures.enough))

pub returns-in_ok-ready_choices-in-End-clause-mark : goal.returns-in_ok-ready_choices-in-End-clause-mark
returns-in_ok-ready_choices-in-End-clause-mark c =
    let mid = c.change_safe-in-End.new.self in
    let here : stood_of (record mid { flow = record mid.flow { threads = c.end.new.threads; choices = c.clear.new.self } }) ≡ stood_of mid =
    rw (c.end.ensures.mark, c.clear.ensures.stood, c.ready_choices.ensures.stood) refl in
    here ∙ c.change_safe-in-End.ensures.mark

pub returns-in-Fork-clause-mark : goal.returns-in-Fork-clause-mark
returns-in-Fork-clause-mark c = rw (c.fork.ensures.threads_mark, c.fork.ensures.stack_mark, c.fork.ensures.output_mark) refl

-- ---- the own fields

pub returns-then-last-clause-own : goal.returns-then-last-clause-own
returns-then-last-clause-own c = own_same 1 _ _ c.go_off.ensures.own

pub returns-else-last-clause-own : goal.returns-else-last-clause-own
returns-else-last-clause-own c = own_same 1 _ _ c.go_on.ensures.own

pub returns-in_err-end_freshness-in-Wrote-clause-own : goal.returns-in_err-end_freshness-in-Wrote-clause-own
returns-in_err-end_freshness-in-Wrote-clause-own c = own_same 1 _ _ (ap (λ (m : Machine). m.trail) c.end_freshness.ensures.same)

pub returns-in_ok-end_freshness-in-Wrote-clause-own : goal.returns-in_ok-end_freshness-in-Wrote-clause-own
returns-in_ok-end_freshness-in-Wrote-clause-own c = own_same 1 _ _ (c.go_on-in-Wrote.ensures.own ∙ ap (λ (m : Machine). m.trail) c.end_freshness.ensures.same)

pub returns-in-Store-clause-own : goal.returns-in-Store-clause-own
returns-in-Store-clause-own c = own_same 1 _ _ c.go_on-in-Store.ensures.own

pub returns-in-Land-clause-own : goal.returns-in-Land-clause-own
returns-in-Land-clause-own c = own_same 1 _ _ c.go_to.ensures.own

pub returns-in-Call-clause-own : goal.returns-in-Call-clause-own
returns-in-Call-clause-own c = own_same 1 _ _ c.go_into.ensures.own

pub returns-in-Return-clause-own : goal.returns-in-Return-clause-own
returns-in-Return-clause-own c = own_same 1 _ _ c.go_back.ensures.own

pub returns-in-Fork-clause-own : goal.returns-in-Fork-clause-own
returns-in-Fork-clause-own c = own_same 1 _ _ refl
