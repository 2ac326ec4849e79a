use Rattle.std.proofs.Common.{◌≡◌, ◌∙◌, ◌<◌, ◌||◌, true, not, ap, arith, get_or, length, suc, sym}
use Rattle.std.proofs.lemmas.List.{get_or_default}
use Rattle.ink_choice.proofs.Lists.{found_here, passed_one, passed_over, passed_none, passed_all}
use Rattle.ink_choice.proofs.choices.index_of.Goals.{then-can_take+else-left-eq0, else-can_take}
use Rattle.ink_choice.proofs.choices.index_of.Goals as goal

pub returns-then-left-eq0 : goal.returns-then-left-eq0
returns-then-left-eq0 g c =
    let cs = c.args.choices.now in
    let i = c.loop-index.index in
    let any = c.args.any in
    let x = c.index-choices-index.result in
    let inside : i < length cs = omega arith in (
      inside,
      λ d.
          let is : get_or cs i d ≡ x = get_or_default cs i d x inside ∙ sym c.index-choices-index.is in
          let passes : (any || not (get_or cs i d).hidden) ≡ true = ap (λ y. any || not y.hidden) is ∙ sym c.can_take.ensures ∙ c.if-can_take.true in
          found_here (λ y. any || not y.hidden) c.args.number i cs d inside c.loop-index.left c.if-left-eq0.true passes c.loop-index.invariant,
    )

pub loop-index-preserved : goal.loop-index-preserved
loop-index-preserved g c =
    let cs = c.args.choices.now in
    let i = c.loop-index.index in
    let any = c.args.any in
    let x = c.index-choices-index.result in
    let inside : i < length cs = omega arith in
    let tested : (any || not (get_or cs i x).hidden) ≡ c.can_take.result = ap (λ y. any || not y.hidden) (sym c.index-choices-index.is) ∙ sym c.can_take.ensures in
    elim c.if-can_take.branch [
      | then-can_take+else-left-eq0 w ↦
          let less : c.loop-index.left ≡ suc c.if-can_take.left = omega arith in
          passed_one (λ y. any || not y.hidden) c.args.number i cs x inside c.loop-index.left c.if-can_take.left less (tested ∙ w.if-can_take.true) c.loop-index.invariant
      | else-can_take w ↦
          rw w.left-is (passed_over (λ y. any || not y.hidden) c.args.number i cs x inside c.loop-index.left (tested ∙ w.if-can_take.false) c.loop-index.invariant)
    ]

pub loop-index-init : goal.loop-index-init
loop-index-init g c = passed_none (λ x. c.args.any || not x.hidden) c.args.number c.args.choices.now

pub returns : goal.returns
returns g c = passed_all (λ x. c.args.any || not x.hidden) c.args.number c.loop-index.left c.loop-index.index c.args.choices.now c.loop-index-test.false c.loop-index.invariant
