use Rattle.std.proofs.Common.{ap, arith, length, option_to_list, refl, reverse}
use Rattle.ink_stack.proofs.Common.{length-append}
use Rattle.ink_stack.proofs.Tops.{dropped_is}
use Rattle.ink_stack.proofs.threads.drop_any.Goals as goal

pub returns : goal.returns
returns g c =
    let t = c.args.running.now.thread in
    let rest = c.pop.new.self.items in
    let dropped = dropped_is t c.in-Some.next rest c.args.below.now.items c.in-Some.ensures.items in
    rw c.replace-ended.ensures.after
    (record {
      dropped = rw dropped refl;
      new = rw dropped (ap (λ u. record { thread = u; below = reverse rest }) c.run.ensures.thread);
      within = c.run.ensures.within;
      fewer = omega (arith, ap length c.pop.ensures.items, length-append rest (option_to_list c.pop.result));
      room = c.pop.ensures.capacity;
    })
