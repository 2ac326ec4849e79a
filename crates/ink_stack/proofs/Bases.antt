-- The base stays the bottom frame alone, and threads stay within their limit.
use Rattle.std.proofs.Common.{◌≡◌, ◌≢◌, ◌∙◌, ℕ, List, [], ◌∷◌, ◌++◌, true, false, Result, Ok, Err, OnOk, OnErr, ap, if◌then◌else◌, map, nat_eq, refl, reverse, subst, sym}
use Rattle.ink_stack.proofs.Common.{reverse-append, BaseFirst, FrameOf, ThreadOf, ThreadsOf, is_function, unnumbered_frame, name_order, with_row, Values, Fault, FrameKind, Value, frame_kind, Changes, Grows}
use Rattle.ink_model.specs.Flow.Threads.{stale, stale_run, top_result, with_row_in}
use Rattle.ink_model.specs.declared.frame.FrameKind.TheVariants.{Base}
use Rattle.ink_stack.specs.declared.frame.CallKind.{CallKind}
use Rattle.ink_stack.specs.declared.frame.CallKind.TheVariants as call

pub call_is : (k : CallKind) → frame_kind k ≢ Base
call_is call.Function e = absurd cc
call_is call.Tunnel e = absurd cc

module _ {P : Type 0} where
  -- a frame of the same kind is on top
  pub base_same : (k j : FrameKind) (fs : List (FrameOf P)) → j ≡ k → BaseFirst k fs → BaseFirst j fs
  base_same k j fs e h = subst (λ i. BaseFirst i fs) (sym e) h

  pub base_popped : (k : FrameKind) (fs : List (FrameOf P)) (f : FrameOf P) → BaseFirst k (reverse (fs ++ f ∷ [])) → BaseFirst f.kind (reverse fs)
  base_popped k fs f h = (subst (λ gs. BaseFirst k gs) (reverse-append fs (f ∷ [])) h).1

  pub stale_kind : (d : ℕ) (f : FrameOf P) → (stale d f).kind ≡ f.kind
  stale_kind d f = elim (nat_eq f.depth d) as (λ b. (if b then record f { fresh = false } else f).kind ≡ f.kind) [
    | true ↦ refl
    | false ↦ refl
  ]

  pub stale_temps : (d : ℕ) (f : FrameOf P) → (stale d f).temps ≡ f.temps
  stale_temps d f = elim (nat_eq f.depth d) as (λ b. (if b then record f { fresh = false } else f).temps ≡ f.temps) [
    | true ↦ refl
    | false ↦ refl
  ]

  pub base_stale : (d : ℕ) (k : FrameKind) (fs : List (FrameOf P)) → BaseFirst k fs → BaseFirst k (stale_run d fs)
  base_stale d k [] h = h
  base_stale d k (f ∷ fs) h = elim (is_function f.kind) as (λ b. BaseFirst k (if b then stale d f ∷ stale_run d fs else f ∷ fs)) [
    | true ↦ (h.0, base_same f.kind (stale d f).kind (stale_run d fs) (stale_kind d f) (base_stale d f.kind fs h.1))
    | false ↦ h
  ]

  pub base_unnumbered : (k : FrameKind) (fs : List (FrameOf P)) → BaseFirst k fs → BaseFirst k (map unnumbered_frame fs)
  base_unnumbered k [] h = h
  base_unnumbered k (f ∷ fs) h = (h.0, base_unnumbered f.kind fs h.1)

  -- a temporary has nothing to do with all else of a frame
  pub same_along : {U E A : Type 0} (get : FrameOf P → A) → ((f : FrameOf P) (rows : Values) → get (record f { temps = rows }) ≡ get f)
      → (r : Result U E) (name : List ℕ) (v : Value) (f g : FrameOf P) → OnOk r (g ≡ with_row_in name v f) → OnErr r (g ≡ f) → get g ≡ get f
  same_along get same (Ok u) name v f g made kept = ap get made ∙ same f (with_row name_order name v f.temps)
  same_along get same (Err e) name v f g made kept = ap get kept

  -- what becomes of the top thread becomes of the threads
  pub top_changes : {U : Type 0} (r : Result (ThreadOf P) Fault) (ts : ThreadsOf P) (new : ThreadOf P) (x : Result U Fault) → Changes r ts.thread new x
      → Changes (top_result r ts) ts (record ts { thread = new }) x
  top_changes (Ok t) ts new (Ok u) h = ap (λ t. record ts { thread = t }) h
  top_changes (Err g) ts new (Err f) h = (h.0, ap (λ t. record ts { thread = t }) h.1)
  top_changes r ts new x h = absurd h

  pub top_grows : {U : Type 0} (r : Result (ThreadOf P) Fault) (ts : ThreadsOf P) (new : ThreadOf P) (x : Result U Fault) → Grows r ts.thread new x
      → Grows (top_result r ts) ts (record ts { thread = new }) x
  top_grows (Ok t) ts new (Ok u) h = ap (λ t. record ts { thread = t }) h
  top_grows (Ok t) ts new (Err f) h = (h.0, ap (λ t. record ts { thread = t }) h.1)
  top_grows (Err g) ts new (Err f) h = (h.0, ap (λ t. record ts { thread = t }) h.1)
  top_grows r ts new x h = absurd h
