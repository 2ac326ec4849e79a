use Rattle.std.proofs.Common.{◌≡◌, ◌∙◌, ◌&&◌, ◌||◌, List, Bool, Option, Some, None, Result, ap, option_map, rules, subst, sym, true, refl, [], Err, length, ◌+◌, ◌≤◌}
use Rattle.ink_step.proofs.Common.{story_tree, grew-none, bound_by, log_of, Configuration, content_place, Stepped, gone_in, performed, step, Call, call_at, at, leaf, Fault, Event, call_of, StepMakes, config_of, StepEnd, or_more, keeps_all, stops_kept, leaf_in, place_of}
use Rattle.ink_model.specs.Memory.Asks.{asks, going_in_asks, performing_asks}
use Rattle.ink_step.specs.Marks.{counts_lack, keeps_mark, pressed, presses, stood_of, takes_first, takes_there}
use Rattle.ink_step.proofs.Follows.{or_where}
use Rattle.ink_step.proofs.Landed.{Performing, ends_outside, ends_performed, performs_alike, performs_told}
use Rattle.ink_step.proofs.Makes.{found_leaves, makes_more, makes_short, makes_where}
use Rattle.ink_step.proofs.Marks.{pressed_counts, takes_alike, takes_at}
use Rattle.ink_step.proofs.machine.Machine.step_from.Given as given
use Rattle.ink_value.specs.Undo.{stack_spare}
use Rattle.ink_step.proofs.Owned.{own_before, own_same}
use Rattle.ink_step.proofs.machine.Machine.step_from.Goals as goal
use Rattle.ink_step.proofs.machine.Machine.step_from.Goals.{In_ok-here}

-- what is performed inside is what the step comes to
goes_in : (g : given.Over) (c : In_ok-here g) → let s = story_tree c.args.story.now in let desk = c.args.desk.now in let b = bound_by g.P.PureFn.meaning desk.functions in let before = config_of s c.args.self.now in
    let p = place_of s c.in_ok-here.here in let found = option_map (λ x. leaf x.now) c.in_ok-here.found in let m = config_of s c.go_in.new.self in
    (k : Option Call) → call_at found ≡ k → (short : Bool) (es : List Event) (d : Configuration) (r : Result StepEnd Fault)
    → StepMakes s b desk.next short (performing_asks s b p found k m) (performed s b p found k m) es m.shared.globals d r → StepMakes s b desk.next short (asks s b before) (step s b before) es before.shared.globals d r
goes_in g c k told short es d r made =
    let s = story_tree c.args.story.now in
    let desk = c.args.desk.now in
    let b = bound_by g.P.PureFn.meaning desk.functions in
    let machine = c.args.self.now in
    let before = config_of s machine in
    let place = c.args.place in
    let inside = c.go_in.new.self in
    let m = config_of s inside in
    let spot = c.in_ok-here.here in
    let p = place_of s spot in
    let found = option_map (λ x. leaf x.now) c.in_ok-here.found in
    let went = c.in_ok-here.ensures in
    let Ending : Bool → Stepped → Type 0 = λ asking o. StepMakes s b desk.next short asking o es before.shared.globals d r in
    let is_here = subst (λ t. place_of t spot ≡ content_place t (place_of t place)) c.tree.ensures.tree went.here in
    let is_found = found_leaves c.in_ok-here.found (at s p) (subst (λ t. option_map (λ x. x.now) c.in_ok-here.found ≡ leaf_in (at t (place_of t spot))) c.tree.ensures.tree went.found) in
    let is_in = subst (λ t. config_of t inside ≡ gone_in t (place_of t place) (config_of t machine)) c.tree.ensures.tree went.ok in
    let performing = performs_told s b Ending p found k m told (subst (λ vs. StepMakes s b desk.next short (performing_asks s b p found k m) (performed s b p found k m) es vs d r) went.globals made) in
    ends_performed s b (place_of s place) before (ap (option_map (place_of s)) c.requires.at) Ending p (at s p) m is_here refl is_in
    (λ asking o. makes_more s b desk.next short es before.shared.globals d r (going_in_asks s (place_of s place) before) asking o)
    (performs_alike s b Ending p (at s p) m (subst (λ o. Performing s b Ending p o m) is_found performing))

-- what was found is what the step takes a value for, if it does
takes_inside : (g : given.Over) (c : In_ok-here g) → let s = story_tree c.args.story.now in takes_first s (config_of s c.args.self.now) ≡ takes_there (option_map (λ x. leaf x.now) c.in_ok-here.found)
takes_inside g c =
    let s = story_tree c.args.story.now in
    let spot = c.in_ok-here.here in
    let p = place_of s spot in
    let went = c.in_ok-here.ensures in
    let is_here = subst (λ t. place_of t spot ≡ content_place t (place_of t c.args.place)) c.tree.ensures.tree went.here in
    let is_found = found_leaves c.in_ok-here.found (at s p) (subst (λ t. option_map (λ x. x.now) c.in_ok-here.found ≡ leaf_in (at t (place_of t spot))) c.tree.ensures.tree went.found) in
    takes_at s (place_of s c.args.place) (config_of s c.args.self.now) (at s p) (ap (option_map (place_of s)) c.requires.at) (ap (at s) (sym is_here)) ∙ sym (ap takes_there is_found ∙ takes_alike (at s p))

pub returns-in_err-here-clause-step : goal.returns-in_err-here-clause-step
returns-in_err-here-clause-step g c =
    let s = story_tree c.args.story.now in
    let desk = c.args.desk.now in
    let b = bound_by g.P.PureFn.meaning desk.functions in
    let machine = c.args.self.now in
    let before = config_of s machine in
    let place = c.args.place in
    let left = c.go_in.new.self in
    let new = config_of s left in
    let short = c.in_err-here.ensures in
    let lacks = subst (λ t. counts_lack 2 left || going_in_asks t (place_of t place) (config_of t machine) ≡ true) c.tree.ensures.tree short.memory in
    let adds = or_where (counts_lack 2 left) (presses s machine left) _ (λ h. or_more _ (pressed s left) (pressed_counts s left h)) lacks in
    let refused = ends_outside s b (place_of s place) before (ap (option_map (place_of s)) c.requires.at) (presses s machine left) c.in_err-here.field-0.0 short.fault adds in
    let is : c.from_residual.result ≡ Err c.in_err-here.field-0.0 = search rules in (
      [],
      grew-none g.T.TurnFn.log (log_of g.W.Watcher.state) desk,
      subst (λ r. StepMakes s b desk.next (presses s machine left) (asks s b before) (step s b before) [] before.shared.globals new r) (sym is)
          (makes_short s b desk.next (presses s machine left) (asks s b before) (step s b before) before.shared.globals new c.in_err-here.field-0.0 refused short.globals),
    )

pub returns-in-Some-clause-step : goal.returns-in-Some-clause-step
returns-in-Some-clause-step g c =
    let s = story_tree c.args.story.now in
    let b = bound_by g.P.PureFn.meaning c.args.desk.now.functions in
    let before = config_of s c.args.self.now in
    let left = c.act_external.new.self in
    let called = c.act_external.ensures.step in (
      called.0,
      called.1,
      makes_where s b c.args.desk.now.next called.0 before.shared.globals (config_of s left) c.act_external.result (pressed s left) (presses s c.args.self.now left) (or_more _ (pressed s left)) (asks s b before) (step s b before)
          (goes_in g (goal.at.returns-in-Some-clause-step g c).In_ok-here (Some (call_of c.in-Some.call)) (sym c.external_in.ensures ∙ ap (option_map call_of) c.in-Some.is) (pressed s left) called.0
          (config_of s left) c.act_external.result called.2),
    )

pub returns-in-None-clause-step : goal.returns-in-None-clause-step
returns-in-None-clause-step g c =
    let s = story_tree c.args.story.now in
    let b = bound_by g.P.PureFn.meaning c.args.desk.now.functions in
    let machine = c.args.self.now in
    let before = config_of s machine in
    let inside = c.go_in.new.self in
    let left = c.act.new.self in
    let found = option_map (λ x. leaf x.now) c.in_ok-here.found in
    let at = (goal.at.returns-in-None-clause-step g c).In_ok-here in
    let marked : keeps_mark (stood_of inside) ≡ keeps_mark (stood_of machine) = ap keeps_mark c.go_in.ensures.mark in
    let takes : ((takes_there found && keeps_mark (stood_of inside)) || pressed s left) ≡ presses s machine left =
    ap (λ k. (takes_there found && k) || pressed s left) marked ∙ ap (λ t. (t && keeps_mark (stood_of machine)) || pressed s left) (sym (takes_inside g at)) in (
      [],
      grew-none g.T.TurnFn.log (log_of g.W.Watcher.state) c.args.desk.now,
      subst (λ short. StepMakes s b c.args.desk.now.next short (asks s b before) (step s b before) [] before.shared.globals (config_of s left) c.act.result) takes
          (goes_in g at None (sym c.external_in.ensures ∙ ap (option_map call_of) c.in-None.is) ((takes_there found && keeps_mark (stood_of inside)) || pressed s left) [] (config_of s left) c.act.result (refl, c.act.ensures.ends)),
    )

-- nothing is called on the way in, nor by another content
pub returns-in_err-here-clause-refusals : goal.returns-in_err-here-clause-refusals
returns-in_err-here-clause-refusals g c = stops_kept g.T.TurnFn.refusals c.args.desk.now c.args.desk.now _ (keeps_all g.T.TurnFn.refusals c.args.desk.now)

pub returns-in-None-clause-refusals : goal.returns-in-None-clause-refusals
returns-in-None-clause-refusals g c = stops_kept g.T.TurnFn.refusals c.args.desk.now c.args.desk.now c.act.result (keeps_all g.T.TurnFn.refusals c.args.desk.now)

-- ---- what stays

pub returns-in-Some-clause-start : goal.returns-in-Some-clause-start
returns-in-Some-clause-start g c = c.act_external.ensures.start ∙ c.go_in.ensures.start

pub returns-in-Some-clause-aside : goal.returns-in-Some-clause-aside
returns-in-Some-clause-aside g c = c.act_external.ensures.aside ∙ c.go_in.ensures.aside

pub returns-in-Some-clause-mark : goal.returns-in-Some-clause-mark
returns-in-Some-clause-mark g c = c.act_external.ensures.mark ∙ c.go_in.ensures.mark

pub returns-in-None-clause-start : goal.returns-in-None-clause-start
returns-in-None-clause-start g c = c.act.ensures.start ∙ c.go_in.ensures.start

pub returns-in-None-clause-aside : goal.returns-in-None-clause-aside
returns-in-None-clause-aside g c = c.act.ensures.aside ∙ c.go_in.ensures.aside

pub returns-in-None-clause-mark : goal.returns-in-None-clause-mark
returns-in-None-clause-mark g c = c.act.ensures.mark ∙ c.go_in.ensures.mark

pub act_external-requires-clause-stack_room : goal.act_external-requires-clause-stack_room
act_external-requires-clause-stack_room g c = subst (λ k. length k.items + 2 ≤ stack_spare k) (sym c.go_in.ensures.stack) c.requires.stack_room

pub act-requires-clause-at : goal.act-requires-clause-at
act-requires-clause-at g c = c.in_ok-here.ensures.at

pub act-requires-clause-stack_room : goal.act-requires-clause-stack_room
act-requires-clause-stack_room g c = subst (λ k. length k.items + 2 ≤ stack_spare k) (sym c.go_in.ensures.stack) c.requires.stack_room

-- ---- the own fields

pub returns-in_err-here-clause-own : goal.returns-in_err-here-clause-own
returns-in_err-here-clause-own g c = own_same 1 _ _ c.go_in.ensures.own

pub returns-in-Some-clause-own : goal.returns-in-Some-clause-own
returns-in-Some-clause-own g c = own_before c.go_in.ensures.own c.act_external.ensures.own

pub returns-in-None-clause-own : goal.returns-in-None-clause-own
returns-in-None-clause-own g c = own_before c.go_in.ensures.own c.act.ensures.own
