use Rattle.std.proofs.Common.{◌≡◌, ◌∙◌, ◌+◌, ◌<◌, [], ◌∷◌, ◌++◌, Ok, Err, ap, inl, inr, is_some, length, refl, rules, arith, sym, take}
use Rattle.ink_model.specs.Memory.Asks.{asks_for}
use Rattle.ink_model.specs.Values.Operator.{takes}
use Rattle.ink_model.specs.Values.Stack.{applied}
use Rattle.ink_model.specs.declared.fault.Fault.TheVariants.{OutOfMemory}
use Rattle.ink_trail.proofs.Undoing.{spare-trails, stood-trails, trails-unmarked}
use Rattle.ink_value.specs.Undo.{stack_back, stack_spare, stack_stood}
use Rattle.ink_value.proofs.Tops.{asks, counted, few_taken, makes, makes_none, too_few}
use Rattle.ink_value.proofs.Undoing.{same_trail, succeeded}
use Rattle.ink_value.proofs.stack.EvalStack.apply_values.Goals as goal

pub returns-in_default-clause-stack : goal.returns-in_default-clause-stack
returns-in_default-clause-stack c =
    let few : length c.args.self.now.items < takes c.args.operator = search (rules, arith) in
    (inr (too_few c.args.operator c.args.self.now.items few), refl)

pub returns-in-Ok-leave_marked-clause-stack : goal.returns-in-Ok-leave_marked-clause-stack
returns-in-Ok-leave_marked-clause-stack c =
    let vs = c.args.self.now.items in
    let enough : length vs ≡ c.in-Some.below + takes c.args.operator = counted c.len.result c.takes.result c.in-Some.below c.self.inside.items vs c.len.ensures (ap (λ s. s.items) c.self.view_is) c.in-Some.ensures ∙ ap (λ n. c.in-Some.below + n) c.takes.ensures in
    let same : c.deref.result.now ≡ vs = c.deref.ensures.value ∙ ap (λ s. s.items) c.self.view_is in
    let made : applied c.args.operator vs ≡ Ok (take c.in-Some.below vs ++ c.in-Ok.value ∷ []) = makes c.args.operator vs c.in-Some.below enough c.deref.result.now same c.in-Ok.value c.in-Ok.ensures.result in
    (made ∙ ap Ok (sym c.in-Ok-leave_marked.ensures.items), tt)

pub returns-in-Err-leave_marked-clause-stack : goal.returns-in-Err-leave_marked-clause-stack
returns-in-Err-leave_marked-clause-stack c =
    let vs = c.args.self.now.items in
    let enough : length vs ≡ c.in-Some.below + takes c.args.operator = counted c.len.result c.takes.result c.in-Some.below c.self.inside.items vs c.len.ensures (ap (λ s. s.items) c.self.view_is) c.in-Some.ensures ∙ ap (λ n. c.in-Some.below + n) c.takes.ensures in
    let same : c.deref.result.now ≡ vs = c.deref.ensures.value ∙ ap (λ s. s.items) c.self.view_is in
    let made : applied c.args.operator vs ≡ Ok (take c.in-Some.below vs ++ c.in-Ok.value ∷ []) = makes c.args.operator vs c.in-Some.below enough c.deref.result.now same c.in-Ok.value c.in-Ok.ensures.result in
    (inl (refl, ap asks_for made), c.in-Err-leave_marked.ensures.trail.0)

pub returns-else-is_marked-clause-stack : goal.returns-else-is_marked-clause-stack
returns-else-is_marked-clause-stack c =
    let vs = c.args.self.now.items in
    let enough : length vs ≡ c.in-Some.below + takes c.args.operator = counted c.len.result c.takes.result c.in-Some.below c.self.inside.items vs c.len.ensures (ap (λ s. s.items) c.self.view_is) c.in-Some.ensures ∙ ap (λ n. c.in-Some.below + n) c.takes.ensures in
    let same : c.deref.result.now ≡ vs = c.deref.ensures.value ∙ ap (λ s. s.items) c.self.view_is in
    let made : applied c.args.operator vs ≡ Ok (take c.in-Some.below vs ++ c.in-Ok.value ∷ []) = makes c.args.operator vs c.in-Some.below enough c.deref.result.now same c.in-Ok.value c.in-Ok.ensures.result in
    (made ∙ ap Ok (sym c.leave.ensures.items), tt)

pub returns-in-Err-clause-stack : goal.returns-in-Err-clause-stack
returns-in-Err-clause-stack c =
    let vs = c.args.self.now.items in
    let enough : length vs ≡ c.in-Some.below + takes c.args.operator = counted c.len.result c.takes.result c.in-Some.below c.self.inside.items vs c.len.ensures (ap (λ s. s.items) c.self.view_is) c.in-Some.ensures ∙ ap (λ n. c.in-Some.below + n) c.takes.ensures in
    let same : c.deref.result.now ≡ vs = c.deref.ensures.value ∙ ap (λ s. s.items) c.self.view_is in
    (makes_none c.args.operator vs c.in-Some.below enough c.deref.result.now same c.in-Err.fault c.in-Err.ensures.result, refl)

pub returns-in-Err-clause-memory : goal.returns-in-Err-clause-memory
returns-in-Err-clause-memory c h =
    let vs = c.args.self.now.items in
    let enough : length vs ≡ c.in-Some.below + takes c.args.operator = counted c.len.result c.takes.result c.in-Some.below c.self.inside.items vs c.len.ensures (ap (λ s. s.items) c.self.view_is) c.in-Some.ensures ∙ ap (λ n. c.in-Some.below + n) c.takes.ensures in
    let same : c.deref.result.now ≡ vs = c.deref.ensures.value ∙ ap (λ s. s.items) c.self.view_is in
    let short : c.in-Err.fault ≡ OutOfMemory = cc in
    inl (asks c.args.operator vs c.in-Some.below enough c.deref.result.now same (λ none. c.in-Err.ensures.memory none (ap Err short)))

pub leave-requires-clause-there : goal.leave-requires-clause-there
leave-requires-clause-there c =
    let enough = counted c.len.result c.takes.result c.in-Some.below c.self.inside.items c.args.self.now.items c.len.ensures (ap (λ s. s.items) c.self.view_is) c.in-Some.ensures in
    omega (arith, enough, c.takes.ensures, (few_taken c.args.operator).0)

pub leave-requires-clause-few : goal.leave-requires-clause-few
leave-requires-clause-few c =
    let enough = counted c.len.result c.takes.result c.in-Some.below c.self.inside.items c.args.self.now.items c.len.ensures (ap (λ s. s.items) c.self.view_is) c.in-Some.ensures in
    omega (arith, enough, c.takes.ensures, (few_taken c.args.operator).1)

pub leave_marked-requires-clause-there : goal.leave_marked-requires-clause-there
leave_marked-requires-clause-there c =
    let enough = counted c.len.result c.takes.result c.in-Some.below c.self.inside.items c.args.self.now.items c.len.ensures (ap (λ s. s.items) c.self.view_is) c.in-Some.ensures in
    omega (arith, enough, c.takes.ensures, (few_taken c.args.operator).0)

pub leave_marked-requires-clause-few : goal.leave_marked-requires-clause-few
leave_marked-requires-clause-few c =
    let enough = counted c.len.result c.takes.result c.in-Some.below c.self.inside.items c.args.self.now.items c.len.ensures (ap (λ s. s.items) c.self.view_is) c.in-Some.ensures in
    omega (arith, enough, c.takes.ensures, (few_taken c.args.operator).1)

pub returns-in-Ok-leave_marked-clause-memory : goal.returns-in-Ok-leave_marked-clause-memory
returns-in-Ok-leave_marked-clause-memory c short = absurd (succeeded _ _ short)

pub returns-in-Err-leave_marked-clause-memory : goal.returns-in-Err-leave_marked-clause-memory
returns-in-Err-leave_marked-clause-memory c short = inr c.in-Err-leave_marked.ensures.memory

pub returns-else-is_marked-clause-memory : goal.returns-else-is_marked-clause-memory
returns-else-is_marked-clause-memory c short = absurd (succeeded _ _ short)

pub returns-else-is_marked-clause-trail : goal.returns-else-is_marked-clause-trail
returns-else-is_marked-clause-trail c =
    trails-unmarked stack_back 2 _ _ _ _ (ap (λ s. is_some s.trail.undo) (sym c.self.view_is) ∙ sym c.is_marked.ensures ∙ c.if-is_marked.false)
    (same_trail c.args.self.now.trail c.leave.new.self.trail c.leave.ensures.trail)

pub returns-else-is_marked-clause-stood : goal.returns-else-is_marked-clause-stood
unfolding stack_stood
returns-else-is_marked-clause-stood c = stood-trails stack_back (returns-else-is_marked-clause-trail c)

pub returns-else-is_marked-clause-spare : goal.returns-else-is_marked-clause-spare
unfolding stack_spare
returns-else-is_marked-clause-spare c = spare-trails stack_back (returns-else-is_marked-clause-trail c)
