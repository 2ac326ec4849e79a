use Rattle.std.proofs.Common.{◌+◌, drop, reverse, ◌≤◌, ◌∙◌, ap, arith, length, subst, sym}
use Rattle.std.proofs.lemmas.Result.{err_from_is_err_and}
use Rattle.ink_choice.proofs.Offered.{some_tag, next_tag}
use Rattle.std.proofs.lemmas.List.{length_push}
use Rattle.ink_choice.proofs.operands.push_tags.Goals as goal

pub returns-in_err-push-in-Some-Tag-clause-memory : goal.returns-in_err-push-in-Some-Tag-clause-memory
returns-in_err-push-in-Some-Tag-clause-memory c =
    let vs = reverse c.args.stack.now.items in
    let p = err_from_is_err_and c.from_residual-in_err-push-in-Some-Tag.result c.from_residual-in_err-push-in-Some-Tag.ensures.1 in
    rw p.1 (some_tag (drop c.loop-depth.depth vs) (drop c.args.from vs) c.in-Some-Tag.field-0.now c.in-Some-Tag.tag (drop (c.loop-depth.depth + 1) vs) c.args.tags.now.items c.loop-depth.tags.items
    c.in-Some-Tag.ensures.value c.in-Some-Tag.field-0-is c.loop-depth.invariant.0 c.loop-depth.invariant.1)

pub returns-in_err-tag-in-Some-Tag-clause-memory : goal.returns-in_err-tag-in-Some-Tag-clause-memory
returns-in_err-tag-in-Some-Tag-clause-memory c =
    let vs = reverse c.args.stack.now.items in
    let p = err_from_is_err_and c.from_residual.result c.from_residual.ensures.1 in
    rw p.1 (some_tag (drop c.loop-depth.depth vs) (drop c.args.from vs) c.in-Some-Tag.field-0.now c.in-Some-Tag.tag (drop (c.loop-depth.depth + 1) vs) c.args.tags.now.items c.loop-depth.tags.items
    c.in-Some-Tag.ensures.value c.in-Some-Tag.field-0-is c.loop-depth.invariant.0 c.loop-depth.invariant.1)

pub loop-depth-preserved : goal.loop-depth-preserved
loop-depth-preserved c =
    let vs = reverse c.args.stack.now.items in (
      subst (λ n. length c.args.tags.now.items ≤ n) (sym (ap length c.in_ok-push-in-Some-Tag.ensures.items ∙ length_push c.loop-depth.tags.items c.in_ok-tag-in-Some-Tag.tag)) (omega (arith, c.loop-depth.invariant.0)),
      next_tag (drop c.loop-depth.depth vs) c.in-Some-Tag.field-0.now c.in-Some-Tag.tag c.in_ok-tag-in-Some-Tag.tag (drop (c.loop-depth.depth + 1) vs) _ c.loop-depth.tags.items c.push.new.self.items
          c.in-Some-Tag.ensures.value c.in-Some-Tag.field-0-is c.in_ok-tag-in-Some-Tag.ensures c.in_ok-push-in-Some-Tag.ensures.items c.loop-depth.invariant.1,
    )
