use Rattle.std.proofs.Common.{codes, subst}
use Rattle.ink_tokens.specs.Tokens.{Added}
use Rattle.ink_tokens.proofs.Adding.{after}
use Rattle.ink_parts.proofs.Texts.{row_tokens, temps_end, temps_more}
use Rattle.ink_parts.proofs.frames.put_temps.Goals as goal

pub returns : goal.returns
returns c = temps_end (codes "temps") c.args.rows.now c.loop-row.row-index c.put-3.result _ _ _ c.loop-row-test.false c.loop-row.invariant c.put-3.ensures

pub loop-row-preserved : goal.loop-row-preserved
loop-row-preserved c =
    temps_more (codes "temps") c.args.rows.now c.loop-row.row-index c.row-item.result _ _ _ c.loop-row-test.true c.loop-row.invariant
    (subst (λ r. Added c.loop-row.out c.put_member.new.out (row_tokens r)) c.row-item.is (rw c.as_str.ensures at c.in_ok-put_member.ensures))

pub loop-row-init : goal.loop-row-init
loop-row-init c = after c.in_ok-put.ensures c.in_ok-put-2.ensures
