use Rattle.std.proofs.Common.{◌≡◌, ◌∙◌, ap, option_map, rules, subst, sym, false, is_some, [], Some}
use Rattle.ink_step.proofs.Common.{story_tree, grew-none, bound_by, log_of, asks, step, call_at, at, leaf, presses, config_of, keeps_all, stops_kept, leaf_in, place_of}
use Rattle.ink_step.proofs.Makes.{plainly_never, steps_plainly}
use Rattle.ink_step.proofs.machine.Machine.step.Goals as goal

-- content stands there that holds no other and calls nothing
pub pass-requires : goal.pass-requires
pass-requires g c =
    let l = c.in-Some-leaf_at.content.now in
    record {
      at = sym c.place.ensures ∙ c.in-Some.is;
      stands = subst (λ t. Some l ≡ leaf_in (at t (place_of t c.in-Some.place))) c.tree.ensures.tree (ap (option_map (λ x. x.now)) (sym c.in-Some-leaf_at.is) ∙ c.leaf_at.ensures);
      plain = let other : is_some (call_at (Some (leaf l))) ≡ false = search rules in other;
    }

pub returns-in-Some-leaf_at-clause-step : goal.returns-in-Some-leaf_at-clause-step
returns-in-Some-leaf_at-clause-step g c =
    let s = story_tree c.args.story.now in
    let desk = c.args.desk.now in
    let b = bound_by g.P.PureFn.meaning desk.functions in
    let before = config_of s c.args.self.now in
    let left = c.pass.new.self in (
      [],
      grew-none g.T.TurnFn.log (log_of g.W.Watcher.state) desk,
      steps_plainly s b desk.next (presses s c.args.self.now left) (asks s b before) before.shared.globals c.args.quiet (step s b before) before (config_of s left) c.pass.result (c.pass.ensures.ends b),
    )

pub returns-in-Some-leaf_at-clause-machine : goal.returns-in-Some-leaf_at-clause-machine
returns-in-Some-leaf_at-clause-machine g c is =
    absurd (plainly_never _ _ _ _ c.pass.result is (c.pass.ensures.ends (bound_by g.P.PureFn.meaning c.args.desk.now.functions)))

pub returns-in-Some-leaf_at-clause-refusals : goal.returns-in-Some-leaf_at-clause-refusals
returns-in-Some-leaf_at-clause-refusals g c = stops_kept g.T.TurnFn.refusals c.args.desk.now c.args.desk.now c.pass.result (keeps_all g.T.TurnFn.refusals c.args.desk.now)
