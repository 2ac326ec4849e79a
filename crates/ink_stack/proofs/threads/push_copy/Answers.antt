use Rattle.std.proofs.Common.{arith, ◌∙◌, ◌++◌, [], ◌∷◌, ap, subst}
use Rattle.ink_stack.proofs.Common.{OnTrue_at, length-reverse, threads_in, doubled, Grows}
use Rattle.ink_stack.proofs.Plain.{plain_fork}
use Rattle.ink_stack.proofs.Tops.{doubled_full, doubled_refused, doubled_done}
use Rattle.ink_stack.proofs.threads.push_copy.Goals as goal

pub returns-then-len-clause-threads : goal.returns-then-len-clause-threads
returns-then-len-clause-threads g c =
    let items = c.args.below.now.items in
    doubled_full (threads_in c.args.running.now items) (omega (arith, length-reverse items, c.args.below.now.ok.0))

pub returns-in_default-clause-threads : goal.returns-in_default-clause-threads
returns-in_default-clause-threads g c =
    let items = c.args.below.now.items in
    rw c.reserve.ensures.items (doubled_refused (threads_in c.args.running.now items) (omega (arith, length-reverse items, c.args.below.now.ok.0)))

-- ---- any thread

pub returns-then-not-is_plain-clause-threads : goal.returns-then-not-is_plain-clause-threads
returns-then-not-is_plain-clause-threads g c =
    let t = c.args.running.now in
    subst (λ items. Grows (doubled (threads_in t items)) (threads_in t items) (threads_in t c.push_any.new.below.items) c.push_any.result) c.reserve.ensures.items c.push_any.ensures.threads

-- ---- a frame alone

pub with_fork-requires : goal.with_fork-requires
with_fork-requires g c = c.none.ensures ∙ plain_fork c.args.running.now.thread (OnTrue_at c.if-not-is_plain.false c.is_plain.ensures)

pub returns-clause-threads : goal.returns-clause-threads
returns-clause-threads g c =
    let items = c.args.below.now.items in
    let copy = c.with_fork.result.thread in
    let more = c.push_reserved.ensures.items ∙ ap (λ ts. ts ++ copy ∷ []) c.reserve.ensures.items in
    doubled_done c.args.running.now.thread copy items c.push_reserved.new.self.items tt (omega (arith, length-reverse items, c.args.below.now.ok.0)) more c.with_fork.ensures
