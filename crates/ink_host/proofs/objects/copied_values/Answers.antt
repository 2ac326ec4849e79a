use Rattle.ink_host.proofs.Copies.{copied_more}
use Rattle.ink_host.proofs.objects.copied_values.Goals as goal

pub loop-value-preserved : goal.loop-value-preserved
loop-value-preserved c =
    copied_more c.args.values.now c.loop-value.copies.items c.push.new.self.items c.value-item.result c.in_ok-clone_in.field-0 c.loop-value.value-index
    c.loop-value.invariant c.in_ok-clone_in.ensures.copy c.value-item.is c.loop-value-test.true c.in_ok-push.ensures.items
