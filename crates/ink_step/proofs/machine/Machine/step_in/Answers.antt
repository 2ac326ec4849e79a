use Rattle.std.proofs.Common.{◌≡◌, ◌∙◌, ◌&&◌, ◌||◌, ap, option_map, rules, subst, sym, true, false, true≢false, [], Err, Ok, refl}
use Rattle.ink_step.proofs.Common.{story_tree, grew-none, bound_by, log_of, asks, Stop, Comes, step, Stood, keeps_mark, pressed, presses, stood_of, takes_first, aside_in, config_of, start_of, or_first, or_more, keeps_all, stops_kept, Machine, place_of}
use Rattle.ink_step.specs.Steps.{StepMakes, Steps, wants}
use Rattle.ink_moves.specs.declared.flow.StepEnd.TheVariants as ends
use Rattle.ink_step.proofs.Follows.{ready_alike, stands_still}
use Rattle.ink_step.proofs.Makes.{makes_quietly, makes_said, makes_short, said, steps_plainly}
use Rattle.ink_step.proofs.Marks.{step_pressed}
use Rattle.ink_step.proofs.machine.Machine.step_in.Given as given
use Rattle.ink_step.proofs.Owned.{own_before, own_same}
use Rattle.ink_step.proofs.machine.Machine.step_in.Goals as goal
use Rattle.ink_step.proofs.machine.Machine.step_in.Goals.{After-make_step_room, After-step_from, else-quiet-via-then-quiet+else-wants_call, else-quiet-via-else-quiet}

-- a step for which room is made is not quiet where it wants a call
quietly : (g : given.Over) (c : After-make_step_room g) → let s = story_tree c.args.story.now in
    c.args.quiet ≡ true → wants (step s (bound_by g.P.PureFn.meaning c.args.desk.now.functions) (config_of s c.args.self.now)) ≡ false
quietly g c = elim c.else-quiet.branch [
  | else-quiet-via-then-quiet+else-wants_call w ↦ λ q. sym w.wants_call.ensures ∙ w.if-wants_call.false
  | else-quiet-via-else-quiet w ↦ λ q. absurd (true≢false (sym q ∙ w.if-quiet.false))
]

pub returns-in_default-clause-step : goal.returns-in_default-clause-step
returns-in_default-clause-step g c =
    let s = story_tree c.args.story.now in
    let desk = c.args.desk.now in
    let b = bound_by g.P.PureFn.meaning desk.functions in
    let before = config_of s c.args.self.now in
    let pressed = presses s c.args.self.now c.args.self.now in (
      [],
      grew-none g.T.TurnFn.log (log_of g.W.Watcher.state) desk,
      subst (λ o. Steps c.args.quiet s b desk.next pressed (asks s b before) o [] before.shared.globals before before (Ok ends.Stopped))
          (sym (stands_still s b before (ap (option_map (place_of s)) (sym c.place.ensures ∙ c.in_default.is))))
          (steps_plainly s b desk.next pressed (asks s b before) before.shared.globals c.args.quiet (Comes (Stop before)) before before (Ok ends.Stopped) refl),
    )

pub returns-in_default-clause-refusals : goal.returns-in_default-clause-refusals
returns-in_default-clause-refusals g c = keeps_all g.T.TurnFn.refusals c.args.desk.now

pub wants_call-requires : goal.wants_call-requires
wants_call-requires g c = record { at = sym c.place.ensures ∙ c.in-Some.is }

pub step_from-requires-clause-at : goal.step_from-requires-clause-at
step_from-requires-clause-at g c = ap (λ ts. ts.thread.frame.place) c.make_step_room.ensures.threads ∙ sym c.place.ensures ∙ c.in-Some.is

pub returns-then-wants_call-clause-step : goal.returns-then-wants_call-clause-step
returns-then-wants_call-clause-step g c =
    let s = story_tree c.args.story.now in
    let desk = c.args.desk.now in
    let b = bound_by g.P.PureFn.meaning desk.functions in
    let before = config_of s c.args.self.now in (
      [],
      grew-none g.T.TurnFn.log (log_of g.W.Watcher.state) desk,
      subst (λ q. Steps q s b desk.next (presses s c.args.self.now c.args.self.now) (asks s b before) (step s b before) [] before.shared.globals before before (Ok ends.WantsCall)) (sym c.if-quiet.true)
          (said s b desk.next (presses s c.args.self.now c.args.self.now) (asks s b before) (step s b before) before.shared.globals before (sym c.wants_call.ensures ∙ c.if-wants_call.true)),
    )

pub returns-in_err-make_step_room-clause-step : goal.returns-in_err-make_step_room-clause-step
returns-in_err-make_step_room-clause-step g c =
    let s = story_tree c.args.story.now in
    let desk = c.args.desk.now in
    let b = bound_by g.P.PureFn.meaning desk.functions in
    let before = config_of s c.args.self.now in
    let left = c.make_step_room.new.self in
    let new = config_of s left in
    let f = c.in_err-make_step_room.field-0.0 in
    let short = c.in_err-make_step_room.ensures in
    let same : new.shared.globals ≡ before.shared.globals = ap (λ m. m.shared.globals.rows) c.make_step_room.ensures.same in
    let is : c.from_residual.result ≡ Err f = search rules in (
      [],
      grew-none g.T.TurnFn.log (log_of g.W.Watcher.state) desk,
      subst (λ r. Steps c.args.quiet s b desk.next (presses s c.args.self.now left) (asks s b before) (step s b before) [] before.shared.globals before new r) (sym is)
          (makes_quietly s b desk.next (presses s c.args.self.now left) [] before.shared.globals new c.args.quiet (asks s b before) (step s b before) before (Err f) (quietly g (goal.at.returns-in_err-make_step_room-clause-step g c).After-make_step_room)
          (makes_short s b desk.next (presses s c.args.self.now left) (asks s b before) (step s b before) before.shared.globals new f (short.fault, or_first _ _ (or_more _ (pressed s left) (step_pressed s left short.memory))) same)),
    )

pub returns-clause-step : goal.returns-clause-step
returns-clause-step g c =
    let s = story_tree c.args.story.now in
    let desk = c.args.desk.now in
    let b = bound_by g.P.PureFn.meaning desk.functions in
    let machine = c.args.self.now in
    let ready = c.make_step_room.new.self in
    let before = config_of s machine in
    let left = c.step_from.new.self in
    let new = config_of s left in
    let step_by = c.step_from.ensures.step in
    let made = subst (λ (t : Stood). StepMakes s b desk.next ((takes_first s (config_of s ready) && keeps_mark t) || pressed s left) (asks s b (config_of s ready)) (step s b (config_of s ready)) step_by.0 ready.shared.globals.rows new c.step_from.result) c.make_step_room.ensures.mark step_by.2 in
    let same : config_of s ready ≡ before = ready_alike s machine ready c.make_step_room.ensures.same c.make_step_room.ensures.threads c.make_step_room.ensures.items in (
      step_by.0,
      step_by.1,
      makes_quietly s b desk.next (presses s machine left) step_by.0 before.shared.globals new c.args.quiet (asks s b before) (step s b before) before c.step_from.result (quietly g (goal.at.returns-clause-step g c).After-make_step_room)
          (subst (λ d. StepMakes s b desk.next ((takes_first s d && keeps_mark (stood_of machine)) || pressed s left) (asks s b d) (step s b d) step_by.0 d.shared.globals new c.step_from.result) same made),
    )

-- a step that is made wants no call
never : (g : given.Over) (c : After-step_from g) → c.step_from.result ≡ Ok ends.WantsCall → ⊥
never g c is =
    let s = story_tree c.args.story.now in
    let desk = c.args.desk.now in
    let b = bound_by g.P.PureFn.meaning desk.functions in
    let ready = c.make_step_room.new.self in
    let before = config_of s ready in
    let left = c.step_from.new.self in
    let h = c.step_from.ensures.step in
    makes_said s b desk.next (presses s ready left) h.0 before.shared.globals (config_of s left) (asks s b before) (step s b before)
    (subst (λ r. StepMakes s b desk.next (presses s ready left) (asks s b before) (step s b before) h.0 before.shared.globals (config_of s left) r) is h.2)

pub returns-clause-machine : goal.returns-clause-machine
returns-clause-machine g c is = absurd (never g (goal.at.returns-clause-machine g c).After-step_from is)

pub returns-clause-desk : goal.returns-clause-desk
returns-clause-desk g c is = absurd (never g (goal.at.returns-clause-desk g c).After-step_from is)

-- a step that wants a call makes none, and nothing is called before there is room
pub returns-then-wants_call-clause-refusals : goal.returns-then-wants_call-clause-refusals
returns-then-wants_call-clause-refusals g c = keeps_all g.T.TurnFn.refusals c.args.desk.now

pub returns-in_err-make_step_room-clause-refusals : goal.returns-in_err-make_step_room-clause-refusals
returns-in_err-make_step_room-clause-refusals g c = stops_kept g.T.TurnFn.refusals c.args.desk.now c.args.desk.now _ (keeps_all g.T.TurnFn.refusals c.args.desk.now)

-- ---- what stays

pub returns-clause-start : goal.returns-clause-start
returns-clause-start g c = c.step_from.ensures.start ∙ ap start_of c.make_step_room.ensures.same

pub returns-clause-aside : goal.returns-clause-aside
returns-clause-aside g c = c.step_from.ensures.aside ∙ ap aside_in c.make_step_room.ensures.same

pub returns-clause-mark : goal.returns-clause-mark
returns-clause-mark g c = c.step_from.ensures.mark ∙ c.make_step_room.ensures.mark

-- ---- the own fields

pub returns-in_default-clause-own : goal.returns-in_default-clause-own
returns-in_default-clause-own g c = own_same 1 _ _ refl

pub returns-then-wants_call-clause-own : goal.returns-then-wants_call-clause-own
returns-then-wants_call-clause-own g c = own_same 1 _ _ refl

pub returns-in_err-make_step_room-clause-own : goal.returns-in_err-make_step_room-clause-own
returns-in_err-make_step_room-clause-own g c = own_same 1 _ _ (ap (λ (m : Machine). m.trail) c.in_err-make_step_room.ensures.same)

pub returns-clause-own : goal.returns-clause-own
returns-clause-own g c = own_before (ap (λ (m : Machine). m.trail) c.make_step_room.ensures.same) c.step_from.ensures.own
