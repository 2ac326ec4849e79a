-- Calls that change threads, or what is written to, beside the definitions over places.
use Rattle.std.proofs.Common.{◌≡◌, ap, sym, subst, refl, inl, inr, ℕ, Bool, true, false, is_ok, Result, Ok, Err, IfErr}
use Rattle.ink_model.specs.Flow.Transfers.{Written, on_page, or_breaks}
use Rattle.ink_model.specs.Flow.Frames.{ThreadOf, ThreadsOf, map_thread, map_threads}
use Rattle.ink_model.specs.Memory.Refusals.{Gives, leaving}
use Rattle.ink_model.specs.Text.Output.{ends_function}
use Rattle.ink_model.specs.Text.Page.{Page}
use Rattle.ink_model.specs.Flow.Threads.{frame_popped, frame_pushed, top_result}
use Rattle.ink_model.specs.declared.fault.Fault.{Fault}
use Rattle.ink_model.specs.declared.frame.FrameKind.{FrameKind}
use Rattle.ink_model.specs.declared.frame.FrameKind.TheVariants.{Function}
use Rattle.ink_stack.specs.Outcomes.{Changes, Grows}
use Rattle.ink_model.proofs.Maps.{mapped, popped_map, pushed_map}
use Rattle.ink_moves.specs.Reaches.{PassesAs, left_asks}

-- ---- calls on threads do the same at other places

module _ {P Q : Type 0} (f : P → Q) where
  changes_map : {U : Type 0} (r : Result (ThreadOf P) Fault) (old new : ThreadsOf P) (result : Result U Fault) → Changes (top_result r old) old new result
      → Changes (top_result (mapped (map_thread f) r) (map_threads f old)) (map_threads f old) (map_threads f new) result
  changes_map (Ok t) old new (Ok u) h = ap (map_threads f) h
  changes_map (Err e) old new (Err g) h = (h.0, ap (map_threads f) h.1)
  changes_map r old new result h = absurd h

  grows_map : {U : Type 0} (r : Result (ThreadOf P) Fault) (old new : ThreadsOf P) (u : U) → Grows (top_result r old) old new (Ok u)
      → Grows (top_result (mapped (map_thread f) r) (map_threads f old)) (map_threads f old) (map_threads f new) (Ok u)
  grows_map (Ok t) old new u h = ap (map_threads f) h
  grows_map (Err e) old new u h = absurd h

  pub pops : {U : Type 0} (k : FrameKind) (d : ℕ) (old new : ThreadsOf P) (result : Result U Fault) → Changes (top_result (frame_popped k d old.thread) old) old new result
      → Changes (top_result (frame_popped k d (map_threads f old).thread) (map_threads f old)) (map_threads f old) (map_threads f new) result
  pops k d old new result h = subst (λ r. Changes (top_result r (map_threads f old)) (map_threads f old) (map_threads f new) result) (sym (popped_map f k d old.thread))
      (changes_map (frame_popped k d old.thread) old new result h)

  pub pushes : {U : Type 0} (k : FrameKind) (d : ℕ) (old new : ThreadsOf P) (u : U) → Grows (top_result (frame_pushed k d old.thread) old) old new (Ok u)
      → Grows (top_result (frame_pushed k d (map_threads f old).thread) (map_threads f old)) (map_threads f old) (map_threads f new) (Ok u)
  pushes k d old new u h = subst (λ r. Grows (top_result r (map_threads f old)) (map_threads f old) (map_threads f new) (Ok u)) (sym (pushed_map f k d old.thread))
      (grows_map (frame_pushed k d old.thread) old new u h)

-- ---- what is written

-- a page that a call leaves, among what is written to
pub gives_page : {A : Type 0} (w : Written) (page : Page) (rule : Result Page Fault) (result : Result A Fault) → Gives (leaving page result) rule
    → Gives (leaving (record w { page = page }) result) (on_page rule w)
gives_page w page rule (Ok a) h = ap (λ r. on_page r w) h
gives_page w page (Ok p) (Err f) (inl h) = inl h
gives_page w page (Err g) (Err f) (inl h) = inl h
gives_page w page rule (Err f) (inr h) = inr (ap (λ r. on_page r w) h)

-- ---- threads and what is written

module _ {P : Type 0} where
  -- after threads have changed something is written
  pub writes_beside : (ts : ThreadsOf P) (v : Written) (rule : Result Written Fault) (result : Result (Unit {0}) Fault) → Gives (leaving v result) rule
      → PassesAs true (or_breaks rule Err (λ u. Ok (ts, u))) ts v result
  writes_beside ts v rule (Ok u) h = subst (λ r. PassesAs true (or_breaks r Err (λ x. Ok (ts, x))) ts v (Ok u)) (sym h) (refl, refl)
  writes_beside ts v (Ok w) (Err f) (inl h) = (h.0, refl)
  writes_beside ts v (Err g) (Err f) (inl h) = inr (h.0, refl)
  writes_beside ts v rule (Err f) (inr h) = subst (λ r. PassesAs true (or_breaks r Err (λ x. Ok (ts, x))) ts v (Err f)) (sym h) (inl refl)

  -- The same of a mark, which asks for memory only where it has room: a limit is found before.
  marks_beside : (ts : ThreadsOf P) (w v : Written) (page : Result Page Fault) (result : Result (Unit {0}) Fault) → Gives (leaving v result) (on_page page w) → IfErr page (λ f. result ≡ Err f)
      → PassesAs (is_ok page) (or_breaks (on_page page w) Err (λ u. Ok (ts, u))) ts v result
  marks_beside ts w v (Ok page) result g limit = writes_beside ts v (Ok (record w { page = page })) result g
  marks_beside ts w v (Err e) result g limit = subst (PassesAs false (Err e) ts v) (sym limit) (inl refl)

  -- a frame was popped, and its mark written
  pub left_marked : {U : Type 0} (ts us : ThreadsOf P) (w v : Written) (r : Result (ThreadOf P) Fault) (u : U) (result : Result (Unit {0}) Fault)
      → Changes (top_result r ts) ts us (Ok u) → let page = ends_function ts.thread.frame.enter w.page in Gives (leaving v result) (on_page page w) → IfErr page (λ f. result ≡ Err f)
      → PassesAs (left_asks Function r ts.thread.frame w) (or_breaks r Err (λ t. or_breaks (on_page page w) Err (λ x. Ok (record ts { thread = t }, x)))) us v result
  left_marked ts us w v (Ok t) u result h g limit =
      let page = ends_function ts.thread.frame.enter w.page in
      subst (λ x. PassesAs (is_ok page) (or_breaks (on_page page w) Err (λ y. Ok (x, y))) us v result) h (marks_beside us w v page result g limit)
  left_marked ts us w v (Err e) u result h g limit = absurd h

  -- a frame that has none
  pub left_unmarked : {U : Type 0} (asks : Bool) (ts us : ThreadsOf P) (w : Written) (r : Result (ThreadOf P) Fault) (u : U) → Changes (top_result r ts) ts us (Ok u)
      → PassesAs asks (or_breaks r Err (λ t. Ok (record ts { thread = t }, w))) us w (Ok tt)
  left_unmarked asks ts us w (Ok t) u h = (h, refl)
  left_unmarked asks ts us w (Err e) u h = absurd h

  -- a frame that is not popped
  pub not_left : (k : FrameKind) (ts us : ThreadsOf P) (w : Written) (r : Result (ThreadOf P) Fault) (rule : Result Written Fault) (f : Fault)
      → Changes {U = Unit {0}} (top_result r ts) ts us (Err f) → PassesAs (left_asks k r ts.thread.frame w) (or_breaks r Err (λ t. or_breaks rule Err (λ x. Ok (record ts { thread = t }, x)))) us w (Err f)
  not_left k ts us w (Ok t) rule f h = absurd h
  not_left k ts us w (Err e) rule f h = inl h.0
