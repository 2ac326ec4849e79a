use Rattle.std.proofs.Common.{◌∙◌, [], ◌∷◌, ap, arith, refl, reverse, vec_capacity, vec_len}
use Rattle.ink_stack.proofs.Common.{reverse-append, threads_in}
use Rattle.ink_stack.proofs.Holding.{room-refl, room-same, running-back, room-under}
use Rattle.ink_stack.proofs.Lengths.{room_behind}
use Rattle.ink_stack.proofs.Reversing.{popped_gone}
use Rattle.ink_stack.proofs.undo.put_one_back.Goals as goal

pub returns-in-Placed : goal.returns-in-Placed
returns-in-Placed g c = let p = running-back _ _ c.args.below.now.items (vec_capacity c.args.below.now) c.put.ensures in rw c.in-Placed.is (record { threads = p.0; room = p.1 })

pub returns-in-Gone : goal.returns-in-Gone
returns-in-Gone g c = let p = running-back _ _ c.args.below.now.items (vec_capacity c.args.below.now) c.ungo.ensures in rw c.in-Gone.is (record { threads = p.0; room = p.1 })

pub returns-in-Evaluating : goal.returns-in-Evaluating
returns-in-Evaluating g c = let p = running-back _ _ c.args.below.now.items (vec_capacity c.args.below.now) c.set_mode.ensures in rw c.in-Evaluating.is (record { threads = p.0; room = p.1 })

pub returns-in-Fresh : goal.returns-in-Fresh
returns-in-Fresh g c = let p = running-back _ _ c.args.below.now.items (vec_capacity c.args.below.now) c.freshen.ensures in rw c.in-Fresh.is (record { threads = p.0; room = p.1 })

pub returns-in-Temp : goal.returns-in-Temp
returns-in-Temp g c = let p = running-back _ _ c.args.below.now.items (vec_capacity c.args.below.now) c.put_temp_back.ensures in rw c.in-Temp.is (record { threads = p.0; room = p.1 })

pub returns-in-FramePushed : goal.returns-in-FramePushed
returns-in-FramePushed g c = let p = running-back _ _ c.args.below.now.items (vec_capacity c.args.below.now) c.unpush.ensures in rw c.in-FramePushed.is (record { threads = p.0; room = p.1 })

pub returns-in-FramePopped : goal.returns-in-FramePopped
returns-in-FramePopped g c = let p = running-back _ _ c.args.below.now.items (vec_capacity c.args.below.now) c.unpop.ensures in rw c.in-FramePopped.is (record { threads = p.0; room = p.1 })

pub returns-in-Numbered : goal.returns-in-Numbered
returns-in-Numbered g c = let p = running-back _ _ c.args.below.now.items (vec_capacity c.args.below.now) c.put_number_back.ensures in rw c.in-Numbered.is (record { threads = p.0; room = p.1 })

pub returns-in-ThreadPopped : goal.returns-in-ThreadPopped
returns-in-ThreadPopped g c =
    let items = c.args.below.now.items in
    let under = c.replace-under.result in
    let top = c.in-ThreadPopped.top.thread in
    let after = c.replace-under.ensures.after in
    rw c.in-ThreadPopped.is (record {
      threads = ap (λ v. threads_in v c.push_reserved.new.self.items) after
          ∙ ap (λ ts. record { thread = top; below = ts })
          (ap reverse c.push_reserved.ensures.items ∙ reverse-append items (under.thread ∷ []) ∙ ap (λ v. v.thread ∷ reverse items) c.replace-under.ensures.value);
      room = record { frames = room-same _ _ (ap (λ v. v.room) after); threads = omega (arith, c.push_reserved.ensures.capacity) };
    })

pub returns-in-Replaced : goal.returns-in-Replaced
returns-in-Replaced g c = rw c.in-Replaced.is (record { threads = refl; room = record { frames = room-refl _; threads = omega arith } })

pub push_reserved-requires : goal.push_reserved-requires
push_reserved-requires g c =
    room_behind c.args.below.now (vec_capacity c.args.below.now)
    (room-under c.args.pair c.in-ThreadPopped.top (record { frames = c.args.running.now.room; threads = vec_capacity c.args.below.now }) (threads_in c.args.running.now c.args.below.now.items) c.in-ThreadPopped.is c.requires)

pub returns-in-ThreadPushed-clause-threads : goal.returns-in-ThreadPushed-clause-threads
returns-in-ThreadPushed-clause-threads g c =
    rw c.in-ThreadPushed.is (ap (λ ts. record { thread = c.args.running.now.thread; below = ts })
    (popped_gone c.args.below.now.items c.pop-copy.new.self.items c.pop-copy.result (vec_len c.args.below.now) c.args.below.now.ok.0 c.pop-copy.ensures.items c.pop-copy.ensures.rest))
