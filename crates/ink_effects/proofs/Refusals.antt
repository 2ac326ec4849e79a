-- Turn functions that were refused memory, call by call.
use Rattle.std.proofs.Common.{◌≡◌, ◌∙◌, ◌⊎◌, ap, inl, inr, refl, subst, sym, ℕ, List, [], ◌∷◌, Bool, true, false, bytes_eq, Option, Some, Result, Ok, Err, if◌then◌else◌}
use Rattle.std.proofs.lemmas.Slice.Eq.{bytes_eq-Decides}
use Rattle.ink_host.specs.Desk.{DeskView, Rows, at, counted, refusals_at, without}
use Rattle.ink_effects.proofs.Common.{Fault, OutOfMemory}
use Rattle.ink_effects.specs.Refusals.{KeepsRefusals, StepStopsAtRefusal, StopsAtRefusal, refusals_for}

-- what stands at a name stands there too without the row of another
at_without : {X : Type 0} (one name : List ℕ) (rows : Rows X) → bytes_eq name one ≡ false → at name (without one rows) ≡ at name rows
at_without one name [] other = refl
at_without {X} one name (r ∷ rows) other = by (bytes_eq one r.0) refl (at_without one name rows other)
  where
    by : (b : Bool) → bytes_eq one r.0 ≡ b → at name (without one rows) ≡ at name rows
        → at name (if b then rows else r ∷ without one rows) ≡ (if bytes_eq name r.0 then Some r.1 else at name rows)
    by true is more =
        let apart : bytes_eq name r.0 ≡ false = ap (bytes_eq name) (sym ((bytes_eq-Decides one r.0).0 is)) ∙ other in
        ap (λ b. if b then Some r.1 else at name rows) (sym apart)
    by false is more = ap (λ (o : Option X). if bytes_eq name r.0 then Some r.1 else o) more

at_others : {X : Type 0} (one name : List ℕ) (old new : Rows X) → without one new ≡ without one old → bytes_eq name one ≡ false → at name new ≡ at name old
at_others one name old new same other = sym (at_without one name new other) ∙ ap (at name) same ∙ at_without one name old other

module _ {P T W : Type 0} (refusals : T → ℕ) where
  -- nothing was called
  pub keeps_all : (desk : DeskView P T W) → KeepsRefusals refusals desk desk
  keeps_all desk name = refl

  pub keeps_then : (first old new : DeskView P T W) → KeepsRefusals refusals first old → KeepsRefusals refusals old new → KeepsRefusals refusals first new
  keeps_then first old new before more name = more name ∙ before name

  -- what one call does
  module _ (one : List ℕ) (old new : DeskView P T W) (same : without one new.functions ≡ without one old.functions) where
    others : (name : List ℕ) → bytes_eq name one ≡ false → refusals_for refusals new name ≡ refusals_for refusals old name
    others name other = ap (refusals_at refusals) (at_others one name old.functions new.functions same other)

    keeps_by : refusals_for refusals new one ≡ refusals_for refusals old one → KeepsRefusals refusals old new
    keeps_by kept name = by (bytes_eq name one) refl
      where
        by : (b : Bool) → bytes_eq name one ≡ b → refusals_for refusals new name ≡ refusals_for refusals old name
        by true is = subst (λ n. refusals_for refusals new n ≡ refusals_for refusals old n) (sym ((bytes_eq-Decides name one).0 is)) kept
        by false is = others name is

    pub called_so : {A : Type 0} (result : Result A Fault)
        → (refusals_for refusals new one ≡ refusals_for refusals old one) ⊎ ((result ≡ Err OutOfMemory) × (new.events ≡ old.events) × (refusals_for refusals new one ≡ counted (refusals_for refusals old one)))
        → StepStopsAtRefusal refusals old new result
    called_so (Ok a) (inl kept) = keeps_by kept
    called_so (Ok a) (inr h) = absurd (cc)
    called_so (Err f) (inl kept) = inl (keeps_by kept)
    called_so (Err f) (inr h) = let is : f ≡ OutOfMemory = cc in inr ((is, h.1), record { one = one; once = h.2; others = others })

  -- whatever it ends with
  pub stops_kept : {A : Type 0} (old new : DeskView P T W) (result : Result A Fault) → KeepsRefusals refusals old new → StepStopsAtRefusal refusals old new result
  stops_kept old new (Ok a) kept = kept
  stops_kept old new (Err f) kept = inl kept

  -- a run that ends with a step
  pub run_stops : (first old new : DeskView P T W) (f : Fault) → KeepsRefusals refusals first old → StopsAtRefusal refusals old new ((f ≡ OutOfMemory) × (new.events ≡ old.events)) → StopsAtRefusal refusals first new (f ≡ OutOfMemory)
  run_stops first old new f before (inl more) = inl (keeps_then first old new before more)
  run_stops first old new f before (inr h) =
      inr (h.0.0, record { one = h.1.one; once = h.1.once ∙ ap counted (before h.1.one); others = λ name other. h.1.others name other ∙ before name })

  -- where it was refused memory it ended so
  pub kept_unless : {A : Type 0} (old new : DeskView P T W) (result : Result A Fault) (f : Fault) → result ≡ Err f → (f ≡ OutOfMemory → ⊥) → StepStopsAtRefusal refusals old new result → KeepsRefusals refusals old new
  kept_unless old new (Ok a) f is other h = h
  kept_unless old new (Err e) f is other (inl kept) = kept
  kept_unless old new (Err e) f is other (inr h) = let same : e ≡ f = cc in absurd (other (sym same ∙ h.0.0))
