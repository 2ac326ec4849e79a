use Rattle.std.proofs.Common.{◌∙◌, sym, ap, Some, None, lit<}
use Rattle.std.proofs.lemmas.Str.Pattern.{split_parts}
use Rattle.ink_path.proofs.Reading.{utf8_behind, both_stand, first_stands, last_stands, left_stands, next_read, last_read}
use Rattle.ink_path.proofs.path.components.Goals as goal

pub push_component-requires : goal.push_component-requires
push_component-requires c =
    let (split, none) = split_parts 46 _ (Some (c.in-Some.first, c.in-Some.others)) c.in-Some.ensures.cases (lit< tt) in
    first_stands _ _ _ (both_stand _ _ _ split none) (left_stands _ _ _ c.loop-first.invariant.1 c.requires)

pub push_component-requires-2 : goal.push_component-requires-2
push_component-requires-2 c =
    let none = split_parts 46 _ None c.in_default.ensures.cases (lit< tt) in
    sym (last_stands _ none) ∙ left_stands _ _ _ c.loop-first.invariant.1 c.requires

pub loop-first-preserved : goal.loop-first-preserved
loop-first-preserved c =
    let (split, none) = split_parts 46 _ (Some (c.in-Some.first, c.in-Some.others)) c.in-Some.ensures.cases (lit< tt) in (
      utf8_behind c.loop-first.rest.now c.in-Some.first.now c.in-Some.others.now c.loop-first.invariant.0 split,
      next_read _ _ _ split none c.loop-first.parts.items _ _ _ c.in_ok-push_component.ensures.1 c.in_ok-push_component.ensures.2 c.loop-first.invariant.1,
    )

pub returns : goal.returns
returns c =
    let none = split_parts 46 _ None c.in_default.ensures.cases (lit< tt) in
    ap Some c.from_vec.ensures ∙ last_read _ none c.loop-first.parts.items _ _ _ c.in_ok-push_component-2.ensures.1 c.in_ok-push_component-2.ensures.2 c.loop-first.invariant.1
