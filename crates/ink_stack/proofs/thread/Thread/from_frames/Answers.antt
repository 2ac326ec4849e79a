use Rattle.std.proofs.Common.{◌<◌, ◌∙◌, ap, subst, sym, ◌≡◌, ◌≢◌, ◌≤◌, None, OnErr, length, true, IfOk}
use Rattle.ink_model.specs.declared.limits.TheConstants.{MAX_FRAMES}
use Rattle.ink_stack.specs.Saving.{base_first}
use Rattle.ink_stack.proofs.Given.{many_frames, no_base, thread_given}
use Rattle.ink_stack.proofs.thread.Thread.from_frames.Goals.{else-base_first-via-then-base_first+else-len-le-MAX_FRAMES, else-base_first-via-else-base_first}
use Rattle.ink_stack.proofs.thread.Thread.from_frames.Goals as goal

pub returns-else-base_first-clause-thread : goal.returns-else-base_first-clause-thread
returns-else-base_first-clause-thread g c =
    elim c.else-base_first.branch [
      | else-base_first-via-then-base_first+else-len-le-MAX_FRAMES w ↦
          many_frames c.args.frames.items c.args.previous (subst (λ n. MAX_FRAMES < n) (w.len.ensures ∙ c.args.frames.ok.0) w.if-len-le-MAX_FRAMES.false)
      | else-base_first-via-else-base_first w ↦
          no_base c.args.frames.items c.args.previous (sym (c.base_first.ensures ∙ ap base_first c.as_slice.ensures.value) ∙ w.if-base_first.false)
    ]

pub returns-then-len-le-MAX_FRAMES-clause-memory : goal.returns-then-len-le-MAX_FRAMES-clause-memory
returns-then-len-le-MAX_FRAMES-clause-memory g c =
    let based : base_first c.args.frames.items ≡ true = sym (c.base_first.ensures ∙ ap base_first c.as_slice.ensures.value) ∙ c.if-base_first.true in
    let few : length c.args.frames.items ≤ MAX_FRAMES = subst (λ n. n ≤ MAX_FRAMES) (c.len.ensures ∙ c.args.frames.ok.0) c.if-len-le-MAX_FRAMES.true in
    subst (λ t. OnErr c.with.result ((1 < length c.args.frames.items) × (t ≢ None))) (thread_given c.args.frames.items c.args.previous based few) c.with.ensures.memory

pub returns-then-len-le-MAX_FRAMES-clause-thread : goal.returns-then-len-le-MAX_FRAMES-clause-thread
returns-then-len-le-MAX_FRAMES-clause-thread g c =
    let based : base_first c.args.frames.items ≡ true = sym (c.base_first.ensures ∙ ap base_first c.as_slice.ensures.value) ∙ c.if-base_first.true in
    let few : length c.args.frames.items ≤ MAX_FRAMES = subst (λ n. n ≤ MAX_FRAMES) (c.len.ensures ∙ c.args.frames.ok.0) c.if-len-le-MAX_FRAMES.true in
    subst (λ t. IfOk c.with.result (λ made. made ≡ t)) (thread_given c.args.frames.items c.args.previous based few) c.with.ensures.thread
