-- What each change of frames and threads puts back.
use Rattle.std.proofs.Common.{◌≡◌, ◌∙◌, ◌≤◌, ◌<◌, ◌+◌, MatchOption, arith, drop, length, option_to_list, ℕ, List, [], ◌∷◌, ◌++◌, Bool, true, false, Option, Some, None, Result, Ok, Err, ap, if◌then◌else◌, is_some, nat_eq, nat_lt, refl, reverse, subst, sym}
use Rattle.ink_stack.proofs.Common.{length-append, reverse-append, Fault, FrameKind, MAX_FRAMES, MAX_THREADS, RunningView, threads_in, HasGone, HasMode, threads_back, threads_spare, threads_stood, Changes, Grows, ThreadsPair}
use Rattle.ink_model.specs.Flow.Frames.{FrameOf, ThreadOf, ThreadsOf, gone, mode_in, on_top, put_in}
use Rattle.ink_model.specs.Flow.Threads.{back_to, doubled, frame_count, new_frame, number_in, frame_popped, frame_pushed, same_kind, thread_count}
use Rattle.ink_model.specs.declared.fault.Fault.TheVariants.{BadMode, BadPop, OutOfMemory, TooDeep}
use Rattle.ink_trail.proofs.Undoing.{none-stood, spare-notes, spare-trails, stood-kept, stood-none, stood-notes, stood-trails}
use Rattle.ink_trail.specs.Undo.{KeepsTrail, Notes, TrailView, Trails, spare, undone}
use Rattle.ink_stack.specs.Cells.{number_back, ungone, unpopped, unpushed}
use Rattle.ink_stack.specs.Threads.{ThreadsView}
use Rattle.ink_stack.specs.declared.undo.ThreadsPair.TheVariants.{Placed, Gone, Evaluating, Numbered, ThreadPushed, ThreadPopped}

-- a list without its last item, seen from its end
pub popped-drop : {X : Type 0} (xs rest : List X) (o : Option X) (n m : ℕ) → xs ≡ rest ++ option_to_list o → MatchOption o ((n ≡ 0) × (m ≡ 0)) (λ x. m + 1 ≡ n) → n ≡ length xs
    → reverse rest ≡ drop 1 (reverse xs)
popped-drop xs rest (Some x) n m is cases len = sym (ap (λ ys. drop 1 (reverse ys)) is ∙ ap (drop 1) (reverse-append rest (x ∷ [])))
popped-drop xs [] None n m is cases len = sym (ap (λ ys. drop 1 (reverse ys)) is)
popped-drop xs (y ∷ ys) None n m is cases len = absurd (omega (arith, cases.0, len, ap length is, length-append (y ∷ ys) []))

-- an item of a list, seen from its end
module _ {P : Type 0} where
  -- ---- fields of the top frame

  pub placed-back : (ts : ThreadsOf P) (p q : Option P) → q ≡ ts.thread.frame.place → threads_back (Placed q) (on_top (put_in p) ts) ≡ ts
  placed-back ts p q is = ap (λ x. on_top (put_in x) ts) is

  pub mode-back : (ts : ThreadsOf P) (b c : Bool) → c ≡ ts.thread.frame.evaluating → threads_back (Evaluating c) (on_top (mode_in b) ts) ≡ ts
  mode-back ts b c is = ap (λ x. on_top (mode_in x) ts) is

  pub numbered-back : (ts : ThreadsOf P) (n : ℕ) (o : Option ℕ) → o ≡ ts.thread.frame.enter → threads_back (Numbered o) (on_top (number_in n) ts) ≡ ts
  numbered-back ts n o is = ap (λ x. on_top (number_back x) ts) is

  pub gone-back : (ts : ThreadsOf P) (p q r : Option P) → q ≡ ts.thread.frame.place → r ≡ ts.thread.previous → threads_back (Gone q r) (on_top (gone p) ts) ≡ ts
  gone-back ts p q r place previous = ap (λ x. on_top (ungone x r) ts) place ∙ ap (λ x. on_top (ungone ts.thread.frame.place x) ts) previous

  -- what was noted last
  pub gone-is : (es : List (ThreadsPair P)) → HasGone es → (p : Option P) × (q : Option P) × (rest : List (ThreadsPair P)) × (es ≡ Gone p q ∷ rest)
  gone-is (Gone p q ∷ es) h = (p, q, es, refl)
  gone-is es h = absurd h

  -- that flow went was noted last
  pub gone-last : (ps before : List (ThreadsPair P)) (last : ThreadsPair P) (p q : Option P) → ps ≡ before ++ last ∷ [] → last ≡ Gone p q → HasGone (reverse ps)
  gone-last ps before last p q is went = rw (is, reverse-append before (last ∷ []), went) tt

  -- both places are put back already
  pub gone-noted : (p : Option P) (es : List (ThreadsPair P)) (ts : ThreadsOf P) → HasGone es → undone threads_back es (on_top (gone p) ts) ≡ undone threads_back es ts
  gone-noted p es ts h = rw (gone-is es h).3 refl

  pub mode-is : (es : List (ThreadsPair P)) → HasMode es → (p : Option P) × (q : Option P) × (b : Bool) × (rest : List (ThreadsPair P)) × (es ≡ Gone p q ∷ Evaluating b ∷ rest)
  mode-is (Gone p q ∷ Evaluating b ∷ es) h = (p, q, b, es, refl)
  mode-is es h = absurd h

  -- the mode was noted before that
  pub mode-last : (ps before earlier : List (ThreadsPair P)) (last mode : ThreadsPair P) (p q : Option P) (b : Bool) → ps ≡ before ++ last ∷ [] → last ≡ Gone p q
      → before ≡ earlier ++ mode ∷ [] → mode ≡ Evaluating b → HasMode (reverse ps)
  mode-last ps before earlier last mode p q b is went was noted = rw (is, reverse-append before (last ∷ []), went, was, reverse-append earlier (mode ∷ []), noted) tt

  -- the mode is put back already
  pub mode-noted : (b : Bool) (es : List (ThreadsPair P)) (ts : ThreadsOf P) → HasMode es → undone threads_back es (on_top (mode_in b) ts) ≡ undone threads_back es ts
  mode-noted b es ts h = rw (mode-is es h).4 refl

  -- ---- frames

  pub unpushed-grown : (k : FrameKind) (d : ℕ) (t new : ThreadOf P) {U : Type 0} (x : Result U Fault) (u : U) → x ≡ Ok u → Grows (frame_pushed k d t) t new x → unpushed new ≡ t
  unpushed-grown k d t new x u is h = by (nat_lt (frame_count t) MAX_FRAMES) (subst (λ y. Grows (frame_pushed k d t) t new y) is h)
    where
      by : (b : Bool) → Grows (if b then Ok (record t { frame = new_frame k t.frame.place d; below = t.frame ∷ t.below }) else Err TooDeep) t new (Ok u) → unpushed new ≡ t
      by true is = ap unpushed is
      by false is = absurd is

  pub unpopped-changed : (k : FrameKind) (d : ℕ) (t new : ThreadOf P) {U : Type 0} (x : Result U Fault) (u : U) → x ≡ Ok u → Changes (frame_popped k d t) t new x → unpopped t.frame new ≡ t
  unpopped-changed k d t new x u is h = by (same_kind t.frame.kind k) (subst (λ y. Changes (frame_popped k d t) t new y) is h)
    where
      to : (f : FrameOf P) (fs : List (FrameOf P)) → f ∷ fs ≡ t.below → (b : Bool) → Changes (if b then Ok (record t { frame = f; below = fs }) else Err BadMode) t new (Ok u) → unpopped t.frame new ≡ t
      to f fs is true h = ap (unpopped t.frame) h ∙ ap (λ gs. record t { below = gs }) is
      to f fs is false h = absurd h

      with_below : (fs : List (FrameOf P)) → fs ≡ t.below → Changes (back_to fs d t) t new (Ok u) → unpopped t.frame new ≡ t
      with_below [] is h = absurd h
      with_below (f ∷ fs) is h = to f fs is (nat_eq t.frame.depth d) h

      by : (b : Bool) → Changes (if b then back_to t.below d t else Err BadPop) t new (Ok u) → unpopped t.frame new ≡ t
      by true h = with_below t.below refl h
      by false h = absurd h

  -- ---- threads

  pub doubled-back : (ts new : ThreadsOf P) {U : Type 0} (x : Result U Fault) (u : U) → x ≡ Ok u → Grows (doubled ts) ts new x → threads_back ThreadPushed new ≡ ts
  doubled-back ts new x u is h = by (nat_lt (thread_count ts) MAX_THREADS) (subst (λ y. Grows (doubled ts) ts new y) is h)
    where
      by : (b : Bool) → Grows (if b then Ok (record ts { below = ts.thread ∷ ts.below }) else Err TooDeep) ts new (Ok u) → threads_back ThreadPushed new ≡ ts
      by true is = ap (threads_back ThreadPushed) is
      by false is = absurd is

  pub thread-popped-back : (top next : RunningView P) (t : ThreadOf P) (rest items : List (ThreadOf P)) → next.thread ≡ t → items ≡ rest ++ t ∷ []
      → threads_back (ThreadPopped top) (threads_in next rest) ≡ threads_in top items
  thread-popped-back top next t rest items same is =
      ap (λ u. record { thread = top.thread; below = u ∷ reverse rest }) same
      ∙ ap (λ us. record { thread = top.thread; below = us }) (sym (ap reverse is ∙ reverse-append rest (t ∷ [])))

  -- ---- what a mark keeps

  -- nothing has changed
  pub as-it-was : (was is : ThreadsOf P) (t : TrailView (ThreadsPair P)) → is ≡ was → (is ≡ was) × KeepsTrail t t
  as-it-was was is t same = (same, (refl, omega arith))

  -- but for room
  pub but-for-room : (was is : ThreadsOf P) (old new : TrailView (ThreadsPair P)) → is ≡ was → KeepsTrail old new → (is ≡ was) × KeepsTrail old new
  but-for-room was is old new same kept = (same, kept)

  pub few-of : (n : ℕ) (v : ThreadsView P) → spare v.trail < n → threads_spare v < n
  unfolding threads_spare
  few-of n v few = few

  -- changes that can be noted
  pub room-of : (n : ℕ) (v w : ThreadsView P) → v ≡ w → n ≤ threads_spare w → n ≤ spare v.trail
  unfolding threads_spare
  room-of n v w is room = subst (λ x. n ≤ threads_spare x) (sym is) room

  pub stood-of : (n : ℕ) (old new : ThreadsView P) → Trails threads_back n old.threads old.trail new.threads new.trail → threads_stood new ≡ threads_stood old
  unfolding threads_stood
  stood-of n old new p = stood-trails threads_back p

  pub spare-of : (n : ℕ) (old new : ThreadsView P) → Trails threads_back n old.threads old.trail new.threads new.trail → threads_spare old ≤ threads_spare new + n
  unfolding threads_spare
  spare-of n old new p = spare-trails threads_back p

  pub stood-noted : (n : ℕ) (old new : ThreadsView P) → Notes threads_back n old.threads old.trail new.threads new.trail → threads_stood new ≡ threads_stood old
  unfolding threads_stood
  stood-noted n old new p = stood-notes threads_back p

  pub spare-noted : (n : ℕ) (old new : ThreadsView P) → Notes threads_back n old.threads old.trail new.threads new.trail → threads_spare old ≤ threads_spare new + n
  unfolding threads_spare
  spare-noted n old new p = spare-notes threads_back p

  pub stood-same : (old new : ThreadsView P) → (new.threads ≡ old.threads) × KeepsTrail old.trail new.trail → threads_stood new ≡ threads_stood old
  unfolding threads_stood
  stood-same old new h = stood-kept threads_back old.threads new.threads old.trail new.trail h.0 h.1

  -- without a mark
  pub stood-unmarked : (old new : ThreadsView P) → threads_stood old ≡ None → new.trail.undo ≡ old.trail.undo → threads_stood new ≡ threads_stood old
  unfolding threads_stood
  stood-unmarked old new none same =
      stood-none threads_back new.trail new.threads (same ∙ none-stood threads_back old.trail old.threads none) ∙ sym none

  pub unmarked-stood : (v : ThreadsView P) → threads_stood v ≡ None → is_some v.trail.undo ≡ false
  unfolding threads_stood
  unmarked-stood v none = ap is_some (none-stood threads_back v.trail v.threads none)

-- ---- what a call did, by its result

-- an error changes nothing
pub changed-kept : {S U : Type 0} (r : Result S Fault) (old new : S) (x : Result U Fault) (f : Fault) → x ≡ Err f → Changes r old new x → new ≡ old
changed-kept (Ok s) old new (Err e) f is h = absurd h
changed-kept (Err g) old new (Err e) f is h = h.1
changed-kept r old new (Ok u) f is h = absurd (cc)

pub grown-kept : {S U : Type 0} (r : Result S Fault) (old new : S) (x : Result U Fault) (f : Fault) → x ≡ Err f → Grows r old new x → new ≡ old
grown-kept (Ok s) old new (Err e) f is h = h.1
grown-kept (Err g) old new (Err e) f is h = h.1
grown-kept r old new (Ok u) f is h = absurd (cc)

-- what was done is taken back for want of memory
pub grown-refused : {S U : Type 0} (r : Result S Fault) (old mid new : S) (x : Result U Fault) (u : U) → x ≡ Ok u → new ≡ old → Grows r old mid x → Grows {U = U} r old new (Err OutOfMemory)
grown-refused (Ok s) old mid new (Ok v) u is same h = ((refl, refl), same)
grown-refused (Err g) old mid new (Ok v) u is same h = absurd h
grown-refused r old mid new (Err e) u is same h = absurd (cc)

-- the same where another value is handed out
pub changed-ok : {S U V : Type 0} (r : Result S Fault) (old new : S) (x : Result U Fault) (u : U) (v : V) → x ≡ Ok u → Changes r old new x → Changes r old new (Ok v)
changed-ok (Ok s) old new (Ok w) u v is h = h
changed-ok (Err g) old new (Ok w) u v is h = absurd h
changed-ok r old new (Err e) u v is h = absurd (cc)

pub changed-err : {S U : Type 0} (V : Type 0) (r : Result S Fault) (old new : S) (x : Result U Fault) (f : Fault) → x ≡ Err f → Changes r old new x → Changes {U = V} r old new (Err f)
changed-err V (Ok s) old new (Err e) f is h = absurd h
changed-err V (Err g) old new (Err e) f is h = (cc (h.0), h.1)
changed-err V r old new (Ok u) f is h = absurd (cc)
