use Rattle.std.proofs.Common.{◌∙◌, [], false, refl, sym, true}
use Rattle.ink_model.specs.Protocol.Answer.{Acts, Refuses}
use Rattle.ink_model.specs.declared.fault.Refusal.TheVariants as refusal
use Rattle.ink_step.specs.Standing.{game_of}
use Rattle.ink_commands.specs.States.{state_in}
use Rattle.ink_commands.proofs.Going.{drop-broken, dropped-there, drops-none, drops-some}
use Rattle.ink_commands.proofs.flows.drop_flow.Goals as goal

pub returns-in-Some-clause-does : goal.returns-in-Some-clause-does
returns-in-Some-clause-does c = λ s n. drop-broken s c.args.name.now (game_of s c.args.machine.now) n c.args.broken c.in-Some.fault c.in-Some.is

pub returns-then-not-has_flow-clause-does : goal.returns-then-not-has_flow-clause-does
returns-then-not-has_flow-clause-does c = λ s n.
    drops-none s c.args.name.now (game_of s c.args.machine.now) n (Refuses refusal.NoSuchFlow) (state_in s c.args.broken c.args.machine.now n) c.args.broken c.in_default.is
    (sym (c.has_flow.ensures s) ∙ c.if-not-has_flow.true) (refl, refl)

pub returns-then-eq-clause-does : goal.returns-then-eq-clause-does
returns-then-eq-clause-does c = λ s n.
    drops-some s c.args.name.now (game_of s c.args.machine.now) n (Refuses refusal.DefaultFlow) (state_in s c.args.broken c.args.machine.now n) c.args.broken true c.in_default.is
    (sym (c.has_flow.ensures s) ∙ c.if-not-has_flow.false) (sym c.eq.ensures ∙ c.if-eq.true) (refl, refl)

pub returns-clause-does : goal.returns-clause-does
returns-clause-does c = λ s n.
    let before = game_of s c.args.machine.now in
    let left = c.drop_flow.new.self in
    drops-some s c.args.name.now before n (Acts []) (state_in s c.args.broken left n) c.args.broken false c.in_default.is
    (sym (c.has_flow.ensures s) ∙ c.if-not-has_flow.false) (sym c.eq.ensures ∙ c.if-eq.false)
    (refl, dropped-there s c.args.name.now before n c.args.broken (game_of s left) c.in_default.is (c.drop_flow.ensures.game s))

pub drop_flow-requires-clause-there : goal.drop_flow-requires-clause-there
drop_flow-requires-clause-there c = λ s. sym (c.has_flow.ensures s) ∙ c.if-not-has_flow.false
