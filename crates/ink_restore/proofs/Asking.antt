-- Where memory is asked for: what fits asks, and of a list the first element.
use Rattle.std.proofs.Common.{◌≡◌, ◌⊎◌, inl, inr, sym, refl, subst, ℕ, ◌+◌, ◌<◌, length, List, [], ◌∷◌, ◌++◌, drop, get_or, reverse, IsTrue, true, true≢false}
use Rattle.ink_restore.proofs.Common.{drop_more, reverse-append, AllByRecursion, fits_text, ChoiceOf, FlowOf, Rows, ChoiceFits, FlowSound, ThreadStands, ThreadsFit, ValueFits, StoryTree, Part}
use Rattle.ink_model.specs.Flow.Frames.{ThreadOf, ThreadsOf}
use Rattle.ink_restore.specs.Asks.{FlowAsks, FlowsAsk, NamedAsks}
use Rattle.ink_restore.specs.Building.{ChoiceAsks, FirstAsks, FrameBuilds, ListAsks, ThreadAsks, ThreadBuilds, ThreadsAsk, bottom}
use Rattle.ink_restore.specs.Gathered.{FlowsFit, NamedSound, may_be_all}
use Rattle.ink_restore.proofs.Gathering as threads
use Rattle.ink_restore.proofs.Standing as frames
use Rattle.ink_restore.proofs.Standing.{any_place}

-- ---- lists

module _ {B : Type 0} (P Q : B → Type 0) where
  -- of a whole the first ones fit, and the next one fits, or asks
  first_of : (whole made : List B) (x : B) (rest : List B) → made ++ x ∷ rest ≡ whole → AllByRecursion P made → P x ⊎ Q x → FirstAsks P Q whole
  first_of whole [] x rest joined each h = subst (FirstAsks P Q) joined h
  first_of whole (m ∷ ms) x rest joined each h = subst (FirstAsks P Q) joined (inl each.0)

  pub first_at : (whole made : List B) (i : ℕ) (d : B) → i < length whole → made ++ drop i whole ≡ whole → AllByRecursion P made → P (get_or whole i d) ⊎ Q (get_or whole i d) → FirstAsks P Q whole
  first_at whole made i d lt joined each h =
      first_of whole made (get_or whole i d) (drop (i + 1) whole) (subst (λ rest. made ++ rest ≡ whole) (drop_more whole i d lt) joined) each h

  pub list_now : (xs : List B) (later : Type 0) → ((x : B) → P x → Q x) → FirstAsks P Q xs → ListAsks Q xs later
  list_now [] later so h = absurd h
  list_now (x ∷ xs) later so (inl h) = so x h
  list_now (x ∷ xs) later so (inr h) = h

  pub list_later : (xs : List B) (later : Type 0) → ((x : B) → P x → Q x) → AllByRecursion P xs → later → ListAsks Q xs later
  list_later [] later so each h = h
  list_later (x ∷ xs) later so each h = so x each.0

-- ---- the bottom one

bottom_last : {B : Type 0} (top : B) (ys : List B) (x : B) → bottom top (ys ++ x ∷ []) ≡ x
bottom_last top [] x = refl
bottom_last top (y ∷ ys) x = bottom_last y ys x

bottom_first : {B : Type 0} (top x : B) (xs : List B) → bottom top (reverse (x ∷ xs)) ≡ x
bottom_first top x xs = subst (λ ys. bottom top ys ≡ x) (sym (reverse-append (x ∷ []) xs)) (bottom_last top (reverse xs) x)

bottom_of : {B : Type 0} (P : B → Type 0) (b : B) (bs : List B) → P b → AllByRecursion P bs → P (bottom b bs)
bottom_of P b [] h each = h
bottom_of P b (c ∷ cs) h each = bottom_of P c cs each.0 each.1

module _ {B : Type 0} (P Q : B → Type 0) (top : B) where
  pub below_asks : (xs : List B) → FirstAsks P Q xs → P (bottom top (reverse xs)) ⊎ Q (bottom top (reverse xs))
  below_asks [] h = absurd h
  below_asks (x ∷ xs) h = subst (λ y. P y ⊎ Q y) (sym (bottom_first top x xs)) h

  pub top_asks : (xs : List B) → AllByRecursion P xs → P top ⊎ Q top → P (bottom top (reverse xs)) ⊎ Q (bottom top (reverse xs))
  top_asks [] each h = h
  top_asks (x ∷ xs) each h = subst (λ y. P y ⊎ Q y) (sym (bottom_first top x xs)) (inl each.0)

-- ---- what fits asks

module _ (s : StoryTree) where
  pub thread_asks : (t : ThreadOf (List Part)) → ThreadBuilds s t → ThreadAsks s t
  thread_asks t h = (h.0.previous, inl (bottom_of (FrameBuilds s) t.frame t.below (h.0.frame, h.1) (frames.stand_build s t.below h.0.below)))

  pub thread_so : (t : ThreadOf (List Part)) → ThreadBuilds s t ⊎ ThreadAsks s t → ThreadAsks s t
  thread_so t (inl h) = thread_asks t h
  thread_so t (inr h) = h

  pub stands_asks : (t : ThreadOf (List Part)) → ThreadStands s t → ThreadAsks s t
  stands_asks t h = thread_asks t (h.thread, (any_place s t.frame.place h.place).0)

  threads_ask : (ts : ThreadsOf (List Part)) → ThreadsFit s ts → ThreadsAsk s ts
  threads_ask ts h =
      thread_asks (bottom ts.thread ts.below)
      (bottom_of (ThreadBuilds s) ts.thread ts.below (h.thread, threads.any_flow s ts.thread.frame.place ts.below h.flow) (threads.stand_build s ts.below h.below))

  pub choice_asks : (c : ChoiceOf (List Part)) → ChoiceFits s c → ChoiceAsks s c
  choice_asks c h = (
    h.text,
    h.target,
    list_later (λ t. IsTrue (fits_text t)) (λ t. IsTrue (fits_text t)) c.tags (ThreadAsks s c.thread) (λ t k. k) h.tags (stands_asks c.thread h.thread),
  )

  pub flow_asks : (f : FlowOf (List Part)) → FlowSound s f → FlowAsks s f
  flow_asks f h =
      list_later (ValueFits s) (ValueFits s) f.stack (ListAsks (ChoiceAsks s) f.choices (ThreadsAsk s f.threads)) (λ v k. k) h.stack.each
      (list_later (ChoiceFits s) (ChoiceAsks s) f.choices (ThreadsAsk s f.threads) choice_asks h.choices.each (threads_ask f.threads h.threads))

  pub named_asks : (r : List ℕ × FlowOf (List Part)) → NamedSound s r → NamedAsks s r
  named_asks r h = (h.0, flow_asks r.1 h.1)

  -- where there are flows that may be all, and fit
  pub flows_ask : (flows : Rows (FlowOf (List Part))) → may_be_all flows ≡ true → FlowsFit s flows → FlowsAsk s flows
  flows_ask [] all fit = absurd (true≢false (sym all))
  flows_ask (r ∷ rs) all fit = named_asks r fit.each.0
