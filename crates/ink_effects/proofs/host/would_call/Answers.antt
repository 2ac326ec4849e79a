use Rattle.std.proofs.Common.{◌≡◌, ◌∙◌, ap, false, option_map, sym, Some}
use Rattle.ink_host.specs.Desk.{at, kind_of}
use Rattle.ink_host.specs.declared.objects.FnKind.TheVariants as kind
use Rattle.ink_effects.proofs.Common.{has_string, fields}
use Rattle.ink_effects.proofs.Asking.{lent_whole, none_asks, pure_asks, straight, turn_asks, under_false, under_true}
use Rattle.ink_effects.proofs.host.would_call.Given as given
use Rattle.ink_effects.proofs.host.would_call.Goals as goal
use Rattle.ink_effects.proofs.host.would_call.Goals.{In-Some}

pub returns-in_default : goal.returns-in_default
returns-in_default g c s evaluating fresh globals =
    let call = c.args.call.now in
    let rows = c.args.desk.now.functions in
    let f = fields evaluating fresh c.args.stack.now.items c.args.output.now.page globals in
    let pure : c.in_default.field-0 ≡ kind.Pure = cc in
    pure_asks g.P.PureFn.meaning rows s call.name.now call.arguments call.conditional f (ap (λ k. Some k) (sym pure) ∙ sym c.in_default.is ∙ c.kind.ensures)

pub returns-in_default-2 : goal.returns-in_default-2
returns-in_default-2 g c s evaluating fresh globals =
    let call = c.args.call.now in
    let rows = c.args.desk.now.functions in
    let f = fields evaluating fresh c.args.stack.now.items c.args.output.now.page globals in
    none_asks g.P.PureFn.meaning rows s call.name.now call.arguments call.conditional f (sym c.in_default.is ∙ c.kind.ensures)

-- the name is bound to a turn function, no string is open, and the whole stack was lent
module _ (g : given.Over) (c : In-Some g) where
  is_turn : Some kind.Turn ≡ option_map kind_of (at c.args.call.now.name.now c.args.desk.now.functions)
  is_turn = ap (λ k. Some k) (sym c.in-Some-Turn.field-0-is) ∙ c.in-Some-Turn.ensures

  is_safe : has_string c.args.output.now.page.sections ≡ false
  is_safe = sym c.in_string.ensures ∙ c.if-in_string.false

  is_whole : c.in-Some.values.now ≡ c.args.stack.now.items
  is_whole = lent_whole c.len.result c.args.stack.now.items c.in-Some.values.now c.len.ensures.len c.in-Some.ensures

pub returns-then-not-call : goal.returns-then-not-call
returns-then-not-call g c s evaluating fresh globals =
    let call = c.args.call.now in
    let f = fields evaluating fresh c.args.stack.now.items c.args.output.now.page globals in
    let here = (goal.at.returns-then-not-call g c).In-Some in
    turn_asks g.P.PureFn.meaning c.args.desk.now.functions s call.name.now call.arguments call.conditional f (is_turn g here) _
    (rw c.if-not-call.true (straight s call.name.now call.arguments f (is_safe g here) c.in-Some.values.now _ (is_whole g here) c.takes.ensures))

pub returns-then-is_wanted_by : goal.returns-then-is_wanted_by
returns-then-is_wanted_by g c s evaluating fresh globals =
    let call = c.args.call.now in
    let f = fields evaluating fresh c.args.stack.now.items c.args.output.now.page globals in
    let here = (goal.at.returns-then-is_wanted_by g c).In-Some in
    turn_asks g.P.PureFn.meaning c.args.desk.now.functions s call.name.now call.arguments call.conditional f (is_turn g here) _
    (rw c.if-not-call.false (under_true s call.name.now call.arguments f (is_safe g here) _ (is_whole g here) _ _ c.in-Some-split_last.ensures.cases.0 _ c.is_wanted_by.ensures
    c.if-is_wanted_by.true _ c.takes-then-is_wanted_by.ensures))

pub returns-else-is_wanted_by : goal.returns-else-is_wanted_by
returns-else-is_wanted_by g c s evaluating fresh globals =
    let call = c.args.call.now in
    let f = fields evaluating fresh c.args.stack.now.items c.args.output.now.page globals in
    let here = (goal.at.returns-else-is_wanted_by g c).In-Some in
    turn_asks g.P.PureFn.meaning c.args.desk.now.functions s call.name.now call.arguments call.conditional f (is_turn g here) _
    (rw c.if-not-call.false (under_false s call.name.now call.arguments f (is_safe g here) _ (is_whole g here) _ _ c.in-Some-split_last.ensures.cases.0 _ c.is_wanted_by.ensures
    c.if-is_wanted_by.false))
