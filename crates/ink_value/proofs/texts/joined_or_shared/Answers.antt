use Rattle.std.proofs.Common.{◌≡◌, ◌∙◌, ◌≤◌, [], length, subst, sym}
use Rattle.ink_model.specs.declared.limits.TheConstants.{MAX_TEXT}
use Rattle.ink_value.proofs.Joined.{is_empty, joins_one, one_fits, with_none, with_none_before}
use Rattle.ink_value.proofs.texts.joined_or_shared.Goals as goal

pub returns-then-before-le-MAX_TEXT-clause-result : goal.returns-then-before-le-MAX_TEXT-clause-result
returns-then-before-le-MAX_TEXT-clause-result c =
    let none : c.args.right.now ≡ [] = sym c.as_str-behind.ensures ∙ is_empty c.as_str-behind.result.now (sym c.is_empty.ensures ∙ c.if-is_empty.true) in
    let few : length c.args.left.now ≤ MAX_TEXT = subst (λ t. length t ≤ MAX_TEXT) c.as_str-before.ensures c.if-before-le-MAX_TEXT.true in
    joins_one c.args.left.now c.args.right.now c.args.left.now c.in_ok-share.field-0 (with_none c.args.left.now c.args.right.now none) few c.in_ok-share.ensures

pub returns-in_err-share-clause-memory : goal.returns-in_err-share-clause-memory
returns-in_err-share-clause-memory c long =
    let none : c.args.right.now ≡ [] = sym c.as_str-behind.ensures ∙ is_empty c.as_str-behind.result.now (sym c.is_empty.ensures ∙ c.if-is_empty.true) in
    let few : length c.args.left.now ≤ MAX_TEXT = subst (λ t. length t ≤ MAX_TEXT) c.as_str-before.ensures c.if-before-le-MAX_TEXT.true in
    absurd (one_fits c.args.left.now c.args.right.now c.args.left.now (with_none c.args.left.now c.args.right.now none) few long)

pub returns-then-behind-le-MAX_TEXT-clause-result : goal.returns-then-behind-le-MAX_TEXT-clause-result
returns-then-behind-le-MAX_TEXT-clause-result c =
    let none : c.args.left.now ≡ [] = sym c.as_str-before.ensures ∙ is_empty c.as_str-before.result.now (sym c.is_empty-2.ensures ∙ c.if-is_empty-2.true) in
    let few : length c.args.right.now ≤ MAX_TEXT = subst (λ t. length t ≤ MAX_TEXT) c.as_str-behind.ensures c.if-behind-le-MAX_TEXT.true in
    joins_one c.args.left.now c.args.right.now c.args.right.now c.in_ok-share-2.field-0 (with_none_before c.args.left.now c.args.right.now none) few c.in_ok-share-2.ensures

pub returns-in_err-share-2-clause-memory : goal.returns-in_err-share-2-clause-memory
returns-in_err-share-2-clause-memory c long =
    let none : c.args.left.now ≡ [] = sym c.as_str-before.ensures ∙ is_empty c.as_str-before.result.now (sym c.is_empty-2.ensures ∙ c.if-is_empty-2.true) in
    let few : length c.args.right.now ≤ MAX_TEXT = subst (λ t. length t ≤ MAX_TEXT) c.as_str-behind.ensures c.if-behind-le-MAX_TEXT.true in
    absurd (one_fits c.args.left.now c.args.right.now c.args.right.now (with_none_before c.args.left.now c.args.right.now none) few long)
