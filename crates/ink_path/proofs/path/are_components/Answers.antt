use Rattle.std.proofs.Common.{◌∙◌, sym, ap, ◌&&◌, is_some, Some, None, lit<}
use Rattle.std.proofs.lemmas.Str.Pattern.{split_parts}
use Rattle.ink_model.specs.Text.Bytes.{pieces, is_dot}
use Rattle.ink_model.specs.Story.Path.{components}
use Rattle.ink_path.proofs.Reading.{utf8_behind, both_stand, last_stands}
use Rattle.ink_path.proofs.path.are_components.Goals as goal

pub returns-then-not-is_component : goal.returns-then-not-is_component
returns-then-not-is_component c =
    let (split, none) = split_parts 46 _ (Some (c.in-Some.first, c.in-Some.others)) c.in-Some.ensures.cases (lit< tt) in
    sym (sym c.loop-first.invariant.1 ∙ both_stand _ _ _ split none
    ∙ ap (λ b. b && is_some (components (pieces is_dot c.in-Some.others.now))) (sym c.is_component.ensures ∙ c.if-not-is_component.true))

pub loop-first-preserved : goal.loop-first-preserved
loop-first-preserved c =
    let (split, none) = split_parts 46 _ (Some (c.in-Some.first, c.in-Some.others)) c.in-Some.ensures.cases (lit< tt) in (
      utf8_behind c.loop-first.rest.now c.in-Some.first.now c.in-Some.others.now c.loop-first.invariant.0 split,
      sym (ap (λ b. b && is_some (components (pieces is_dot c.in-Some.others.now))) (sym c.is_component.ensures ∙ c.if-not-is_component.false))
          ∙ sym (both_stand _ _ _ split none) ∙ c.loop-first.invariant.1,
    )

pub returns : goal.returns
returns c =
    let none = split_parts 46 _ None c.in_default.ensures.cases (lit< tt) in
    c.is_component-2.ensures ∙ sym (last_stands _ none) ∙ c.loop-first.invariant.1
