use Rattle.std.proofs.Common.{◌≡◌, ◌∙◌, IfOk, List, ap, inl, inr, map, refl, reverse, subst, sym}
use Rattle.std.proofs.lemmas.Result.{IfOk-weaker}
use Rattle.ink_restore.proofs.Common.{AllByRecursion, list_all, Global, Vec, Part, place_of, story_tree, Spot, or_else}
use Rattle.ink_model.specs.Flow.Frames.{FrameOf, ThreadOf, map_frame, map_thread}
use Rattle.ink_restore.specs.Building.{Builds, FirstAsks, FrameAsks, FrameBuilds, ThreadAsks, ThreadBuilds}
use Rattle.ink_restore.proofs.Making.{built, never}
use Rattle.ink_restore.proofs.Standing.{below_refused, standing, standing_refused, thread_built}
use Rattle.ink_stack.specs.Saving.{thread_from}
use Rattle.ink_restore.proofs.Asking.{below_asks, top_asks}
use Rattle.ink_restore.proofs.framing.SavedThreadBuilt.build.Goals as goal

pub returns-in_default-2-clause-builds : goal.returns-in_default-2-clause-builds
returns-in_default-2-clause-builds c =
    let s = story_tree c.args.tree.now in
    subst (λ t. ThreadBuilds s t → ⊥) c.self.view_is
    (below_refused s c.self.inside.frame c.self.inside.below.items c.self.inside.previous
    (never (λ (v : Vec (FrameOf Spot) Global). map (map_frame (place_of s)) v.items) (AllByRecursion (FrameBuilds s)) _ _ c.in_ok-below.field-0
    c.as_slice.ensures.value c.in_default-2.is c.in_ok-below.ensures.builds))

pub returns-then-not-all_stand-clause-builds : goal.returns-then-not-all_stand-clause-builds
returns-then-not-all_stand-clause-builds c =
    let s = story_tree c.args.tree.now in
    let rest = built (λ (v : Vec (FrameOf Spot) Global). map (map_frame (place_of s)) v.items) (AllByRecursion (FrameBuilds s)) _ c.self.inside.below.items c.in_ok-below.field-0 c.in-Some-2.below
    c.as_slice.ensures.value c.in-Some-2.is c.in_ok-below.ensures.builds in
    subst (λ t. ThreadBuilds s t → ⊥) c.self.view_is
    (standing_refused s c.self.inside.frame c.in-Some-2.below.items c.self.inside.below.items c.self.inside.previous rest.0
    (sym (c.all_stand.ensures ∙ ap (list_all standing) c.as_slice-2.ensures.value) ∙ c.if-not-all_stand.true))

pub returns-clause-builds : goal.returns-clause-builds
returns-clause-builds c =
    let s = story_tree c.args.tree.now in
    let rest = built (λ (v : Vec (FrameOf Spot) Global). map (map_frame (place_of s)) v.items) (AllByRecursion (FrameBuilds s)) _ c.self.inside.below.items c.in_ok-below.field-0 c.in-Some-2.below
    c.as_slice.ensures.value c.in-Some-2.is c.in_ok-below.ensures.builds in
    let top = built (map_frame (place_of s)) (FrameBuilds s) c.self.inside.frame c.self.inside.frame c.in_ok-frame.field-0 c.in-Some-3.frame refl c.in-Some-3.is c.in_ok-frame.ensures.builds in
    let thread : ThreadOf (List Part) = record { frame = c.self.inside.frame; below = reverse c.self.inside.below.items; previous = c.self.inside.previous } in
    subst (λ t. IfOk c.from_frames.result (λ made. Builds (map_thread (place_of s)) (ThreadBuilds s) t made)) c.self.view_is
    (IfOk-weaker c.from_frames.result (λ made. made ≡ thread_from c.push.new.self.items c.in-Some.previous) (λ made. Builds (map_thread (place_of s)) (ThreadBuilds s) thread made)
    (λ made is. thread_built s c.in-Some-3.frame c.in-Some-2.below.items c.in-Some.previous c.self.inside.frame c.self.inside.below.items c.self.inside.previous top rest
    (sym (c.all_stand.ensures ∙ ap (list_all standing) c.as_slice-2.ensures.value) ∙ c.if-not-all_stand.false) c.in-Some.ensures made
    (is ∙ ap (λ fs. thread_from fs c.in-Some.previous) c.in_ok-push.ensures.items)) c.from_frames.ensures.thread)

pub returns-in_err-below-clause-memory : goal.returns-in_err-below-clause-memory
returns-in_err-below-clause-memory c =
    let s = story_tree c.args.tree.now in
    or_else _ (subst (ThreadAsks s) c.self.view_is (
      c.in-Some.ensures.1,
      below_asks (FrameBuilds s) (FrameAsks s) c.self.inside.frame c.self.inside.below.items
          (subst (FirstAsks (FrameBuilds s) (FrameAsks s)) c.as_slice.ensures.value c.in_err-below.ensures.memory),
    ))

pub returns-in_err-frame-clause-memory : goal.returns-in_err-frame-clause-memory
returns-in_err-frame-clause-memory c =
    let s = story_tree c.args.tree.now in
    let rest = built (λ (v : Vec (FrameOf Spot) Global). map (map_frame (place_of s)) v.items) (AllByRecursion (FrameBuilds s)) _ c.self.inside.below.items c.in_ok-below.field-0 c.in-Some-2.below
    c.as_slice.ensures.value c.in-Some-2.is c.in_ok-below.ensures.builds in
    or_else _ (subst (ThreadAsks s) c.self.view_is
    (c.in-Some.ensures.1, top_asks (FrameBuilds s) (FrameAsks s) c.self.inside.frame c.self.inside.below.items rest.1 (inr c.in_err-frame.ensures.memory)))

pub returns-in_err-push-clause-memory : goal.returns-in_err-push-clause-memory
returns-in_err-push-clause-memory c =
    let s = story_tree c.args.tree.now in
    let rest = built (λ (v : Vec (FrameOf Spot) Global). map (map_frame (place_of s)) v.items) (AllByRecursion (FrameBuilds s)) _ c.self.inside.below.items c.in_ok-below.field-0 c.in-Some-2.below
    c.as_slice.ensures.value c.in-Some-2.is c.in_ok-below.ensures.builds in
    let top = built (map_frame (place_of s)) (FrameBuilds s) c.self.inside.frame c.self.inside.frame c.in_ok-frame.field-0 c.in-Some-3.frame refl c.in-Some-3.is c.in_ok-frame.ensures.builds in
    or_else _ (subst (ThreadAsks s) c.self.view_is
    (c.in-Some.ensures.1, top_asks (FrameBuilds s) (FrameAsks s) c.self.inside.frame c.self.inside.below.items rest.1 (inl top.1)))

pub returns-clause-memory : goal.returns-clause-memory
returns-clause-memory c =
    let s = story_tree c.args.tree.now in
    let rest = built (λ (v : Vec (FrameOf Spot) Global). map (map_frame (place_of s)) v.items) (AllByRecursion (FrameBuilds s)) _ c.self.inside.below.items c.in_ok-below.field-0 c.in-Some-2.below
    c.as_slice.ensures.value c.in-Some-2.is c.in_ok-below.ensures.builds in
    let top = built (map_frame (place_of s)) (FrameBuilds s) c.self.inside.frame c.self.inside.frame c.in_ok-frame.field-0 c.in-Some-3.frame refl c.in-Some-3.is c.in_ok-frame.ensures.builds in
    or_else c.from_frames.result (subst (ThreadAsks s) c.self.view_is
    (c.in-Some.ensures.1, top_asks (FrameBuilds s) (FrameAsks s) c.self.inside.frame c.self.inside.below.items rest.1 (inl top.1)))
