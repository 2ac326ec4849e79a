use Rattle.std.proofs.Common.{refl, sym, ap, ◌∙◌}
use Rattle.json_tape.proofs.Rise.{goes_on, falls}
use Rattle.json_tape.proofs.Common.{names_rise}
use Rattle.json_tape.proofs.element.names_rise.Goals as goal

pub loop-name-init : goal.loop-name-init
loop-name-init c ms h = (ms, h, refl)

pub loop-name-preserved : goal.loop-name-preserved
loop-name-preserved c ms h =
    let now = c.loop-name.invariant ms h in
    let next = c.in-Some.ensures.value now.0 now.1 in
    (next.1, next.4, now.2 ∙ ap (names_rise _) next.2 ∙ goes_on _ c.in-Some.name.now next.0 next.1 (sym c.is_behind.ensures ∙ c.if-not-is_behind.false))

pub returns-then-not-is_behind : goal.returns-then-not-is_behind
returns-then-not-is_behind c ms h =
    let now = c.loop-name.invariant ms h in
    let next = c.in-Some.ensures.value now.0 now.1 in
    sym (now.2 ∙ ap (names_rise _) next.2 ∙ falls _ c.in-Some.name.now next.0 next.1 (sym c.is_behind.ensures ∙ c.if-not-is_behind.true))

pub returns : goal.returns
returns c ms h =
    let now = c.loop-name.invariant ms h in
    sym (now.2 ∙ ap (names_rise _) (c.in_default.ensures.value now.0 now.1))
