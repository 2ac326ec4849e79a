use Rattle.std.proofs.Common.{◌∙◌, ap, inl, inr, map, refl, subst, sym}
use Rattle.ink_restore.proofs.Common.{AllByRecursion, list_all, Global, Vec, ThreadsFit, place_of, story_tree, Spot, or_else}
use Rattle.ink_model.specs.Flow.Frames.{ThreadOf, map_thread, map_threads}
use Rattle.ink_restore.specs.Building.{Builds, FirstAsks, ThreadAsks, ThreadBuilds, ThreadsAsk, flows, placed}
use Rattle.ink_restore.proofs.Gathering.{below_refused, flow_refused, placed_refused, threads_built, top_refused}
use Rattle.ink_restore.proofs.Making.{built, never}
use Rattle.ink_stack.specs.Saving.{threads_from}
use Rattle.ink_stack.specs.Threads.{ThreadsView}
use Rattle.ink_restore.proofs.Asking.{below_asks, thread_so, top_asks}
use Rattle.ink_restore.proofs.threading.SavedThreadsBuilt.build.Goals as goal

pub returns-in_default-clause-builds : goal.returns-in_default-clause-builds
returns-in_default-clause-builds c =
    let s = story_tree c.args.tree.now in
    subst (λ t. ThreadsFit s t → ⊥) c.self.view_is
    (below_refused s c.self.inside.thread c.self.inside.below.items
    (never (λ (v : Vec (ThreadOf Spot) Global). map (map_thread (place_of s)) v.items) (AllByRecursion (ThreadBuilds s)) _ _ c.in_ok-below.field-0
    c.as_slice.ensures.value c.in_default.is c.in_ok-below.ensures.builds))

pub returns-then-not-all_placed-clause-builds : goal.returns-then-not-all_placed-clause-builds
returns-then-not-all_placed-clause-builds c =
    let s = story_tree c.args.tree.now in
    let rest = built (λ (v : Vec (ThreadOf Spot) Global). map (map_thread (place_of s)) v.items) (AllByRecursion (ThreadBuilds s)) _ c.self.inside.below.items c.in_ok-below.field-0 c.in-Some.below
    c.as_slice.ensures.value c.in-Some.is c.in_ok-below.ensures.builds in
    subst (λ t. ThreadsFit s t → ⊥) c.self.view_is
    (placed_refused s c.self.inside.thread c.self.inside.below.items c.in-Some.below.items rest.0
    (sym (c.all_placed.ensures ∙ ap (list_all placed) c.as_slice-2.ensures.value) ∙ c.if-not-all_placed.true))

pub returns-in_default-2-clause-builds : goal.returns-in_default-2-clause-builds
returns-in_default-2-clause-builds c =
    let s = story_tree c.args.tree.now in
    subst (λ t. ThreadsFit s t → ⊥) c.self.view_is
    (top_refused s c.self.inside.thread c.self.inside.below.items
    (never (map_thread (place_of s)) (ThreadBuilds s) _ _ c.in_ok-thread.field-0 refl c.in_default-2.is c.in_ok-thread.ensures.builds))

pub returns-then-not-flows-clause-builds : goal.returns-then-not-flows-clause-builds
returns-then-not-flows-clause-builds c =
    let s = story_tree c.args.tree.now in
    let rest = built (λ (v : Vec (ThreadOf Spot) Global). map (map_thread (place_of s)) v.items) (AllByRecursion (ThreadBuilds s)) _ c.self.inside.below.items c.in_ok-below.field-0 c.in-Some.below
    c.as_slice.ensures.value c.in-Some.is c.in_ok-below.ensures.builds in
    let top = built (map_thread (place_of s)) (ThreadBuilds s) c.self.inside.thread c.self.inside.thread c.in_ok-thread.field-0 c.in-Some-2.thread refl c.in-Some-2.is c.in_ok-thread.ensures.builds in
    subst (λ t. ThreadsFit s t → ⊥) c.self.view_is
    (flow_refused s c.self.inside.thread c.self.inside.below.items c.in-Some-2.thread c.in-Some.below.items top.0 rest.0
    (sym (c.flows.ensures ∙ ap (λ o. flows o c.as_slice-3.result.now) c.place.ensures ∙ ap (flows c.in-Some-2.thread.frame.place) c.as_slice-3.ensures.value) ∙ c.if-not-flows.true))

pub returns-clause-builds : goal.returns-clause-builds
returns-clause-builds c =
    let s = story_tree c.args.tree.now in
    let rest = built (λ (v : Vec (ThreadOf Spot) Global). map (map_thread (place_of s)) v.items) (AllByRecursion (ThreadBuilds s)) _ c.self.inside.below.items c.in_ok-below.field-0 c.in-Some.below
    c.as_slice.ensures.value c.in-Some.is c.in_ok-below.ensures.builds in
    let top = built (map_thread (place_of s)) (ThreadBuilds s) c.self.inside.thread c.self.inside.thread c.in_ok-thread.field-0 c.in-Some-2.thread refl c.in-Some-2.is c.in_ok-thread.ensures.builds in
    subst (λ t. Builds (λ (v : ThreadsView Spot). map_threads (place_of s) v.threads) (ThreadsFit s) t c.from_threads.result) c.self.view_is
    (threads_built s c.in-Some-2.thread c.in-Some.below.items c.self.inside.thread c.self.inside.below.items top rest
    (sym (c.all_placed.ensures ∙ ap (list_all placed) c.as_slice-2.ensures.value) ∙ c.if-not-all_placed.false)
    (sym (c.flows.ensures ∙ ap (λ o. flows o c.as_slice-3.result.now) c.place.ensures ∙ ap (flows c.in-Some-2.thread.frame.place) c.as_slice-3.ensures.value) ∙ c.if-not-flows.false)
    c.from_threads.result (c.from_threads.ensures.threads ∙ ap threads_from c.in_ok-push.ensures.items))

pub returns-in_err-below-clause-memory : goal.returns-in_err-below-clause-memory
returns-in_err-below-clause-memory c =
    let s = story_tree c.args.tree.now in
    or_else _ (subst (ThreadsAsk s) c.self.view_is (thread_so s _
    (below_asks (ThreadBuilds s) (ThreadAsks s) c.self.inside.thread c.self.inside.below.items
    (subst (FirstAsks (ThreadBuilds s) (ThreadAsks s)) c.as_slice.ensures.value c.in_err-below.ensures.memory))))

pub returns-in_err-thread-clause-memory : goal.returns-in_err-thread-clause-memory
returns-in_err-thread-clause-memory c =
    let s = story_tree c.args.tree.now in
    let rest = built (λ (v : Vec (ThreadOf Spot) Global). map (map_thread (place_of s)) v.items) (AllByRecursion (ThreadBuilds s)) _ c.self.inside.below.items c.in_ok-below.field-0 c.in-Some.below
    c.as_slice.ensures.value c.in-Some.is c.in_ok-below.ensures.builds in
    or_else _ (subst (ThreadsAsk s) c.self.view_is (thread_so s _
    (top_asks (ThreadBuilds s) (ThreadAsks s) c.self.inside.thread c.self.inside.below.items rest.1 (inr c.in_err-thread.ensures.memory))))

pub returns-in_err-push-clause-memory : goal.returns-in_err-push-clause-memory
returns-in_err-push-clause-memory c =
    let s = story_tree c.args.tree.now in
    let rest = built (λ (v : Vec (ThreadOf Spot) Global). map (map_thread (place_of s)) v.items) (AllByRecursion (ThreadBuilds s)) _ c.self.inside.below.items c.in_ok-below.field-0 c.in-Some.below
    c.as_slice.ensures.value c.in-Some.is c.in_ok-below.ensures.builds in
    let top = built (map_thread (place_of s)) (ThreadBuilds s) c.self.inside.thread c.self.inside.thread c.in_ok-thread.field-0 c.in-Some-2.thread refl c.in-Some-2.is c.in_ok-thread.ensures.builds in
    or_else _ (subst (ThreadsAsk s) c.self.view_is (thread_so s _
    (top_asks (ThreadBuilds s) (ThreadAsks s) c.self.inside.thread c.self.inside.below.items rest.1 (inl top.1))))
