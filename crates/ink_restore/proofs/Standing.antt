-- What frames and threads are made of.
use Rattle.std.proofs.Common.{◌≡◌, ◌∙◌, sym, ap, refl, subst, ℕ, ◌+◌, ◌≤◌, length, List, [], ◌∷◌, ◌++◌, map, reverse, Bool, true, false, ◌&&◌, nat_le, if◌then◌else◌, Option, Some, None, is_some, is_none, IfSome, option_map, arith}
use Rattle.std.proofs.lemmas.Bool.{and_from}
use Rattle.std.proofs.lemmas.Bool.Decides.{nat_tests}
use Rattle.std.proofs.lemmas.List.{length-reverse, length-append, length-map, reverse-append, reverse-reverse}
use Rattle.ink_restore.proofs.Common.{AllByRecursion, list_all, StoryTree, Part, place_of, Spot}
use Rattle.ink_model.specs.Flow.Frames.{FrameOf, ThreadOf, map_frame, map_thread}
use Rattle.ink_model.specs.Variables.Store.{Values}
use Rattle.ink_model.specs.declared.frame.FrameKind.{FrameKind}
use Rattle.ink_model.specs.declared.limits.TheConstants.{MAX_FRAMES}
use Rattle.ink_restore.specs.Building.{Builds, FrameBuilds, ThreadBuilds}
use Rattle.ink_model.specs.Save.Sound.{AnyPlace, FrameStands, SomePlace}
use Rattle.ink_stack.proofs.Reversing.{map-reverse}
use Rattle.ink_stack.proofs.BaseTests.{base_is, based, based_from, based_to}
use Rattle.ink_stack.specs.Saving.{base_first, is_call, thread_from, thread_with}

pub same_list : {A : Type 0} → (xs : List A) → map (λ x. x) xs ≡ xs
same_list [] = refl
same_list (x ∷ xs) = ap (λ ys. x ∷ ys) (same_list xs)

-- ---- frames

-- the frame of these
abbrev pub frame_with : {P : Type 0} → FrameKind → Option P → Values → Bool → Bool → ℕ → FrameOf P
frame_with kind place temps evaluating fresh opened =
    record { kind = kind; place = place; temps = temps; evaluating = evaluating; fresh = fresh; depth = opened; enter = None }

-- ---- a list that is seen from its end

each_after : {A : Type 0} (P : A → Type 0) (xs ys : List A) → AllByRecursion P xs → AllByRecursion P ys → AllByRecursion P (xs ++ ys)
each_after P [] ys h k = k
each_after P (x ∷ xs) ys h k = (h.0, each_after P xs ys h.1 k)

pub each_reverse : {A : Type 0} (P : A → Type 0) (xs : List A) → AllByRecursion P xs → AllByRecursion P (reverse xs)
each_reverse P [] h = tt
each_reverse P (x ∷ xs) h = subst (λ ys. AllByRecursion P ys) (sym (reverse-append (x ∷ []) xs)) (each_after P (reverse xs) (x ∷ []) (each_reverse P xs h.1) (h.0, tt))

pub each_reversed : {A : Type 0} (P : A → Type 0) (xs : List A) → AllByRecursion P (reverse xs) → AllByRecursion P xs
each_reversed P xs h = subst (λ ys. AllByRecursion P ys) (reverse-reverse xs) (each_reverse P (reverse xs) h)

-- ---- frames that stand

pub both : (x y : Bool) → (x && y) ≡ true → (x ≡ true) × (y ≡ true)
both true y h = (refl, h)
both false y h = absurd cc

pub none_is : {A : Type 0} (o : Option A) → is_none o ≡ true → o ≡ None
none_is None h = refl
none_is (Some a) h = absurd cc

-- what holds of nothing made, and of something
pub whether : {A : Type 0} (P : Type 0) (o : Option A) → P → IfSome o (λ a. P)
whether P None h = tt
whether P (Some a) h = h

pub some_mapped : {A B : Type 0} (f : A → B) (o : Option A) → is_some (option_map f o) ≡ is_some o
some_mapped f None = refl
some_mapped f (Some a) = refl

pub some_place : (s : StoryTree) (o : Option (List Part)) → AnyPlace s o → is_some o ≡ true → SomePlace s o
some_place s None h e = absurd cc
some_place s (Some p) h e = h

pub any_place : (s : StoryTree) (o : Option (List Part)) → SomePlace s o → AnyPlace s o × (is_some o ≡ true)
any_place s None h = absurd h
any_place s (Some p) h = (h, refl)

abbrev pub standing : FrameOf Spot → Bool
standing f = is_some f.place

module _ (s : StoryTree) where
  all_stand : (fs : List (FrameOf Spot)) → AllByRecursion (FrameBuilds s) (map (map_frame (place_of s)) fs) → list_all standing fs ≡ true
      → AllByRecursion (FrameStands s) (map (map_frame (place_of s)) fs)
  all_stand [] h e = tt
  all_stand (f ∷ fs) h e =
      let p = both (standing f) (list_all standing fs) e in
      ((h.0.0, some_place s (option_map (place_of s) f.place) h.0.1 (some_mapped (place_of s) f.place ∙ p.0)), all_stand fs h.1 p.1)

  stand_all : (fs : List (FrameOf Spot)) → AllByRecursion (FrameStands s) (map (map_frame (place_of s)) fs) → list_all standing fs ≡ true
  stand_all [] h = refl
  stand_all (f ∷ fs) h = rw (sym (some_mapped (place_of s) f.place) ∙ (any_place s (option_map (place_of s) f.place) h.0.1).1) (stand_all fs h.1)

  pub stand_build : (fs : List (FrameOf (List Part))) → AllByRecursion (FrameStands s) fs → AllByRecursion (FrameBuilds s) fs
  stand_build [] h = tt
  stand_build (f ∷ fs) h = ((h.0.0, (any_place s f.place h.0.1).0), stand_build fs h.1)

-- ---- the base

based_mapped : {P Q : Type 0} (m : P → Q) (k : FrameKind) (fs : List (FrameOf P)) → based k (map (map_frame m) fs) ≡ based k fs
based_mapped m k [] = refl
based_mapped m k (f ∷ fs) = ap (λ b. is_call k && b) (based_mapped m f.kind fs)

-- ---- threads

pub within : (n m : ℕ) → nat_le n m ≡ true → n ≤ m
within n m h = grind (arith, nat_tests)

pub is_within : (n m : ℕ) → n ≤ m → nat_le n m ≡ true
is_within n m h = grind (arith, nat_tests)

pub long : {P Q : Type 0} (m : P → Q) (below : List P) (top : P) → length (below ++ top ∷ []) ≡ length (reverse (map m below)) + 1
long m below top = length-append below (top ∷ []) ∙ ap (λ n. n + 1) (sym (length-reverse (map m below) ∙ length-map below m))

module _ (s : StoryTree) (frame : FrameOf Spot) (below : List (FrameOf Spot)) (previous : Option Spot) where
  abbrev whole : ThreadOf (List Part)
  whole = record { frame = map_frame (place_of s) frame; below = reverse (map (map_frame (place_of s)) below); previous = option_map (place_of s) previous }

  abbrev fine : Bool
  fine = base_first (below ++ frame ∷ []) && nat_le (length (below ++ frame ∷ [])) MAX_FRAMES

  base_here : base_first (below ++ frame ∷ []) ≡ based frame.kind whole.below
  base_here =
      base_is below frame ∙ sym (based_mapped (place_of s) frame.kind (reverse below))
      ∙ ap (based frame.kind) (map-reverse (map_frame (place_of s)) below)

  thread_fits : FrameBuilds s whole.frame → AllByRecursion (FrameBuilds s) (map (map_frame (place_of s)) below) → list_all standing below ≡ true → AnyPlace s whole.previous
      → fine ≡ true → ThreadBuilds s whole
  thread_fits f b all v e =
      let p = both (base_first (below ++ frame ∷ [])) (nat_le (length (below ++ frame ∷ [])) MAX_FRAMES) e in (
        record {
          frame = f.0;
          below = each_reverse (FrameStands s) (map (map_frame (place_of s)) below) (all_stand s below b all);
          base = based_to frame.kind whole.below (sym base_here ∙ p.0);
          few = subst (λ n. n ≤ MAX_FRAMES) (long (map_frame (place_of s)) below frame) (within (length (below ++ frame ∷ [])) MAX_FRAMES p.1);
          previous = v;
        },
        f.1,
      )

  thread_is_fine : ThreadBuilds s whole → fine ≡ true
  thread_is_fine t =
      and_from (base_first (below ++ frame ∷ [])) (nat_le (length (below ++ frame ∷ [])) MAX_FRAMES)
      (base_here ∙ based_from frame.kind whole.below t.0.base)
      (is_within (length (below ++ frame ∷ [])) MAX_FRAMES (subst (λ n. n ≤ MAX_FRAMES) (sym (long (map_frame (place_of s)) below frame)) t.0.few))

  thread_made : FrameBuilds s whole.frame → AllByRecursion (FrameBuilds s) (map (map_frame (place_of s)) below) → list_all standing below ≡ true → AnyPlace s whole.previous
      → (e : Bool) → fine ≡ e → Builds (map_thread (place_of s)) (ThreadBuilds s) whole (if e then thread_with (reverse (below ++ frame ∷ [])) previous else None)
  thread_made f b all v true e =
      subst (λ fs. Builds (map_thread (place_of s)) (ThreadBuilds s) whole (thread_with fs previous)) (sym (reverse-append below (frame ∷ []))) (
        ap (λ fs. record { frame = map_frame (place_of s) frame; below = fs; previous = option_map (place_of s) previous }) (map-reverse (map_frame (place_of s)) below),
        thread_fits f b all v e,
      )
  thread_made f b all v false e = λ t. absurd (other (sym (thread_is_fine t) ∙ e))
    where
      other : true ≡ false → ⊥
      other e = cc

pub thread_built : (s : StoryTree) (frame : FrameOf Spot) (below : List (FrameOf Spot)) (previous : Option Spot) (f : FrameOf (List Part)) (fs : List (FrameOf (List Part))) (v : Option (List Part))
    → (map_frame (place_of s) frame ≡ f) × FrameBuilds s f → (map (map_frame (place_of s)) below ≡ fs) × AllByRecursion (FrameBuilds s) fs → list_all standing below ≡ true
    → (option_map (place_of s) previous ≡ v) × AnyPlace s v → (made : Option (ThreadOf Spot)) → made ≡ thread_from (below ++ frame ∷ []) previous
    → Builds (map_thread (place_of s)) (ThreadBuilds s) (record { frame = f; below = reverse fs; previous = v }) made
thread_built s frame below previous f fs v top rest all before made is =
    subst (λ o. Builds (map_thread (place_of s)) (ThreadBuilds s) (record { frame = f; below = reverse fs; previous = v }) o) (sym is)
    (subst (λ t. Builds (map_thread (place_of s)) (ThreadBuilds s) t (thread_from (below ++ frame ∷ []) previous))
    (ap (λ x. record { frame = x; below = reverse (map (map_frame (place_of s)) below); previous = option_map (place_of s) previous }) top.0
    ∙ ap (λ x. record { frame = f; below = reverse x; previous = option_map (place_of s) previous }) rest.0
    ∙ ap (λ x. record { frame = f; below = reverse fs; previous = x }) before.0)
    (thread_made s frame below previous (subst (FrameBuilds s) (sym top.0) top.1) (subst (λ gs. AllByRecursion (FrameBuilds s) gs) (sym rest.0) rest.1) all
    (subst (AnyPlace s) (sym before.0) before.1) (fine s frame below previous) refl))

-- ---- threads that do not fit

pub below_refused : (s : StoryTree) (f : FrameOf (List Part)) (fs : List (FrameOf (List Part))) (v : Option (List Part))
    → (AllByRecursion (FrameBuilds s) fs → ⊥) → ThreadBuilds s (record { frame = f; below = reverse fs; previous = v }) → ⊥
below_refused s f fs v never t = never (stand_build s fs (each_reversed (FrameStands s) fs t.0.below))

pub standing_refused : (s : StoryTree) (f : FrameOf (List Part)) (below : List (FrameOf Spot)) (fs : List (FrameOf (List Part))) (v : Option (List Part))
    → map (map_frame (place_of s)) below ≡ fs → list_all standing below ≡ false → ThreadBuilds s (record { frame = f; below = reverse fs; previous = v }) → ⊥
standing_refused s f below fs v is none t =
    let stand = each_reversed (FrameStands s) fs t.0.below in
    other (sym (stand_all s below (subst (λ gs. AllByRecursion (FrameStands s) gs) (sym is) stand)) ∙ none)
  where
    other : true ≡ false → ⊥
    other e = cc
