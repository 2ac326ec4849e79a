-- What threads are made of.
use Rattle.std.proofs.Common.{◌≡◌, ◌∙◌, sym, ap, refl, subst, ◌≤◌, length, List, [], ◌∷◌, ◌++◌, map, reverse, Bool, true, false, nat_le, if◌then◌else◌, Option, Some, None, option_map}
use Rattle.ink_restore.proofs.Common.{reverse-append, AllByRecursion, list_all, StoryTree, Part, place_of, Spot}
use Rattle.ink_model.specs.Flow.Frames.{ThreadOf, ThreadsOf, map_thread, map_threads}
use Rattle.ink_model.specs.declared.limits.TheConstants.{MAX_THREADS}
use Rattle.ink_restore.specs.Building.{Builds, ThreadBuilds, flows, placed}
use Rattle.ink_restore.proofs.Standing.{any_place, both, each_reverse, each_reversed, is_within, long, some_mapped, some_place, within}
use Rattle.ink_model.specs.Save.Sound.{AnyPlace, FlowStands, ThreadStands, ThreadsFit}
use Rattle.ink_stack.proofs.Reversing.{map-reverse}
use Rattle.ink_stack.specs.Saving.{threads_from, threads_with}
use Rattle.ink_stack.specs.Threads.{ThreadsView}

module _ (s : StoryTree) where
  -- ---- threads that stand

  all_stand : (ts : List (ThreadOf Spot)) → AllByRecursion (ThreadBuilds s) (map (map_thread (place_of s)) ts) → list_all placed ts ≡ true
      → AllByRecursion (ThreadStands s) (map (map_thread (place_of s)) ts)
  all_stand [] h e = tt
  all_stand (t ∷ ts) h e =
      let p = both (placed t) (list_all placed ts) e in
      (record { thread = h.0.0; place = some_place s (option_map (place_of s) t.frame.place) h.0.1 (some_mapped (place_of s) t.frame.place ∙ p.0) }, all_stand ts h.1 p.1)

  stand_all : (ts : List (ThreadOf Spot)) → AllByRecursion (ThreadStands s) (map (map_thread (place_of s)) ts) → list_all placed ts ≡ true
  stand_all [] h = refl
  stand_all (t ∷ ts) h = rw (sym (some_mapped (place_of s) t.frame.place) ∙ (any_place s (option_map (place_of s) t.frame.place) h.0.place).1) (stand_all ts h.1)

  pub stand_build : (ts : List (ThreadOf (List Part))) → AllByRecursion (ThreadStands s) ts → AllByRecursion (ThreadBuilds s) ts
  stand_build [] h = tt
  stand_build (t ∷ ts) h = ((h.0.thread, (any_place s t.frame.place h.0.place).0), stand_build ts h.1)

  -- ---- flow

  flow_to : (o : Option Spot) (below : List (ThreadOf Spot)) → AnyPlace s (option_map (place_of s) o) → flows o below ≡ true
      → FlowStands s (option_map (place_of s) o) (reverse (map (map_thread (place_of s)) below))
  flow_to (Some p) below h e = h
  flow_to None [] h e = tt
  flow_to None (t ∷ ts) h e = absurd cc

  stopped_alone : (us : List (ThreadOf (List Part))) (u : ThreadOf (List Part)) → FlowStands s None (us ++ u ∷ []) → ⊥
  stopped_alone [] u h = h
  stopped_alone (v ∷ us) u h = h

  flow_from : (o : Option Spot) (below : List (ThreadOf Spot)) → FlowStands s (option_map (place_of s) o) (reverse (map (map_thread (place_of s)) below)) → flows o below ≡ true
  flow_from (Some p) below h = refl
  flow_from None [] h = refl
  flow_from None (t ∷ ts) h = absurd (stopped_alone (reverse (map (map_thread (place_of s)) ts)) (map_thread (place_of s) t)
      (subst (FlowStands s None) (reverse-append (map_thread (place_of s) t ∷ []) (map (map_thread (place_of s)) ts)) h))

  pub any_flow : (o : Option (List Part)) (us : List (ThreadOf (List Part))) → FlowStands s o us → AnyPlace s o
  any_flow None us h = tt
  any_flow (Some p) us h = h

module _ (s : StoryTree) (thread : ThreadOf Spot) (below : List (ThreadOf Spot)) where
  abbrev whole : ThreadsOf (List Part)
  whole = record { thread = map_thread (place_of s) thread; below = reverse (map (map_thread (place_of s)) below) }

  abbrev few : Bool
  few = nat_le (length (below ++ thread ∷ [])) MAX_THREADS

  threads_fit : ThreadBuilds s whole.thread → AllByRecursion (ThreadBuilds s) (map (map_thread (place_of s)) below) → list_all placed below ≡ true
      → flows thread.frame.place below ≡ true → few ≡ true → ThreadsFit s whole
  threads_fit t b all flow e = record {
    thread = t.0;
    below = each_reverse (ThreadStands s) (map (map_thread (place_of s)) below) (all_stand s below b all);
    flow = flow_to s thread.frame.place below t.1 flow;
    few = subst (λ n. n ≤ MAX_THREADS) (long (map_thread (place_of s)) below thread) (within (length (below ++ thread ∷ [])) MAX_THREADS e);
  }

  threads_are_few : ThreadsFit s whole → few ≡ true
  threads_are_few t = is_within (length (below ++ thread ∷ [])) MAX_THREADS (subst (λ n. n ≤ MAX_THREADS) (sym (long (map_thread (place_of s)) below thread)) t.few)

  threads_made : ThreadBuilds s whole.thread → AllByRecursion (ThreadBuilds s) (map (map_thread (place_of s)) below) → list_all placed below ≡ true
      → flows thread.frame.place below ≡ true → (e : Bool) → few ≡ e
      → Builds (map_threads (place_of s)) (ThreadsFit s) whole (if e then threads_with (reverse (below ++ thread ∷ [])) else None)
  threads_made t b all flow true e =
      subst (λ us. Builds (map_threads (place_of s)) (ThreadsFit s) whole (threads_with us)) (sym (reverse-append below (thread ∷ [])))
      (ap (λ us. record { thread = map_thread (place_of s) thread; below = us }) (map-reverse (map_thread (place_of s)) below), threads_fit t b all flow e)
  threads_made t b all flow false e = λ h. absurd (other (sym (threads_are_few h) ∙ e))
    where
      other : true ≡ false → ⊥
      other e = cc

-- threads as contracts see them
seen : (s : StoryTree) (ts : ThreadsOf (List Part)) (made : Option (ThreadsView Spot)) → Builds (map_threads (place_of s)) (ThreadsFit s) ts (option_map (λ v. v.threads) made)
    → Builds (λ (v : ThreadsView Spot). map_threads (place_of s) v.threads) (ThreadsFit s) ts made
seen s ts None h = h
seen s ts (Some v) h = h

pub threads_built : (s : StoryTree) (thread : ThreadOf Spot) (below : List (ThreadOf Spot)) (t : ThreadOf (List Part)) (ts : List (ThreadOf (List Part)))
    → (map_thread (place_of s) thread ≡ t) × ThreadBuilds s t → (map (map_thread (place_of s)) below ≡ ts) × AllByRecursion (ThreadBuilds s) ts → list_all placed below ≡ true
    → flows thread.frame.place below ≡ true → (made : Option (ThreadsView Spot)) → option_map (λ v. v.threads) made ≡ threads_from (below ++ thread ∷ [])
    → Builds (λ (v : ThreadsView Spot). map_threads (place_of s) v.threads) (ThreadsFit s) (record { thread = t; below = reverse ts }) made
threads_built s thread below t ts top rest all flow made is =
    seen s (record { thread = t; below = reverse ts }) made
    (subst (λ o. Builds (map_threads (place_of s)) (ThreadsFit s) (record { thread = t; below = reverse ts }) o) (sym is)
    (subst (λ w. Builds (map_threads (place_of s)) (ThreadsFit s) w (threads_from (below ++ thread ∷ [])))
    (ap (λ x. record { thread = x; below = reverse (map (map_thread (place_of s)) below) }) top.0 ∙ ap (λ x. record { thread = t; below = reverse x }) rest.0)
    (threads_made s thread below (subst (ThreadBuilds s) (sym top.0) top.1) (subst (λ us. AllByRecursion (ThreadBuilds s) us) (sym rest.0) rest.1) all flow
    (few s thread below) refl)))

-- ---- threads that do not fit

module _ (s : StoryTree) (t : ThreadOf (List Part)) (ts : List (ThreadOf (List Part))) where
  pub top_refused : (ThreadBuilds s t → ⊥) → ThreadsFit s (record { thread = t; below = reverse ts }) → ⊥
  top_refused never h = never (h.thread, any_flow s t.frame.place (reverse ts) h.flow)

  pub below_refused : (AllByRecursion (ThreadBuilds s) ts → ⊥) → ThreadsFit s (record { thread = t; below = reverse ts }) → ⊥
  below_refused never h = never (stand_build s ts (each_reversed (ThreadStands s) ts h.below))

  pub placed_refused : (below : List (ThreadOf Spot)) → map (map_thread (place_of s)) below ≡ ts → list_all placed below ≡ false
      → ThreadsFit s (record { thread = t; below = reverse ts }) → ⊥
  placed_refused below is none h =
      let stand = each_reversed (ThreadStands s) ts h.below in
      other (sym (stand_all s below (subst (λ us. AllByRecursion (ThreadStands s) us) (sym is) stand)) ∙ none)
    where
      other : true ≡ false → ⊥
      other e = cc

  pub flow_refused : (thread : ThreadOf Spot) (below : List (ThreadOf Spot)) → map_thread (place_of s) thread ≡ t → map (map_thread (place_of s)) below ≡ ts
      → flows thread.frame.place below ≡ false → ThreadsFit s (record { thread = t; below = reverse ts }) → ⊥
  flow_refused thread below same is none h =
      let flow = subst (λ us. FlowStands s (option_map (place_of s) thread.frame.place) (reverse us)) (sym is)
      (subst (λ u. FlowStands s u.frame.place (reverse ts)) (sym same) h.flow) in
      other (sym (flow_from s thread.frame.place below flow) ∙ none)
    where
      other : true ≡ false → ⊥
      other e = cc
