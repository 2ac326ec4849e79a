use Rattle.std.proofs.Common.{◌≡◌, ◌∙◌, ◌∷◌, ◌++◌, ◌+◌, [], Some, None, ap, arith, length, subst, sym}
use Rattle.std.proofs.lemmas.List.{length-append}
use Rattle.ink_vars.specs.Slots.{AreCounts, rows_from}
use Rattle.ink_vars.proofs.Numbered.{count_more, more_room}
use Rattle.ink_restore.proofs.Numbering.{counts_last, rows_last}
use Rattle.ink_restore.proofs.counting.put_last.Goals as goal

pub loop-slots-preserved : goal.loop-slots-preserved
loop-slots-preserved c =
    let old = c.loop-slots.slots.items in
    let items : c.push.new.self.items ≡ old ++ None ∷ [] = c.in_ok-push.ensures.items in
    record {
      rows = ap (rows_from 0) items ∙ more_room 0 1 old ∙ c.loop-slots.invariant.rows;
      counts = λ h. subst AreCounts (sym items) (count_more 1 old (c.loop-slots.invariant.counts h));
      most = omega (arith, ap length items ∙ length-append old (None ∷ []), c.loop-slots-test.true, c.len.ensures);
    }

pub returns-clause-rows : goal.returns-clause-rows
returns-clause-rows c =
    let old = c.loop-slots.slots.items in
    let items : c.push-2.new.self.items ≡ old ++ Some c.args.count ∷ [] = c.in_ok-push-2.ensures.items in
    let full : 0 + length old ≡ c.args.number = omega (arith, c.loop-slots-test.false, c.loop-slots.invariant.most, c.len.ensures) in
    ap (rows_from 0) items ∙ rows_last 0 old c.args.count ∙ ap (λ n. rows_from 0 old ++ (n, c.args.count) ∷ []) full
    ∙ ap (λ rs. rs ++ (c.args.number, c.args.count) ∷ []) c.loop-slots.invariant.rows

pub returns-clause-counts : goal.returns-clause-counts
returns-clause-counts c =
    let old = c.loop-slots.slots.items in
    let items : c.push-2.new.self.items ≡ old ++ Some c.args.count ∷ [] = c.in_ok-push-2.ensures.items in
    λ h most. subst AreCounts (sym items) (counts_last old c.args.count (c.loop-slots.invariant.counts h) most)
