-- What performing does where a call of it fails.
use Rattle.std.proofs.Common.{◌≡◌, ap, sym, refl, subst, inl, inr, Result, Ok, Err, Bool, true, false, ◌||◌}
use Rattle.ink_effects.proofs.Common.{Fields, Effect, Moves, Stores, Fails, or_fault, StoryTree, Fault, OutOfMemory, Changes, Performs, Transfer}
use Rattle.ink_model.specs.Memory.Refusals.{Gives, Leaves}
use Rattle.ink_effects.specs.declared.transfer.Transfer.TheVariants as transfer

module _ (s : StoryTree) (asks : Bool) (new : Fields) where
  -- where memory was refused
  pub short : (e : Effect) → asks ≡ true → Performs s asks e new (Err OutOfMemory)
  short (Fails f) a = inr (refl, a)
  short e a = (refl, a)

  -- the fault of a call whose result goes into the effect
  pub refused : {A : Type 0} (rule : Result A Fault) (so : A → Effect) (f : Fault) → Gives {A = A} (Err f) rule → (f ≡ OutOfMemory → asks ≡ true)
      → Performs s asks (or_fault rule so) new (Err f)
  refused rule so f h allows = elim h [
    | inl oom ↦ subst (λ g. Performs s asks (or_fault rule so) new (Err g)) (sym oom.0) (short (or_fault rule so) (allows oom.0))
    | inr is ↦ subst (λ r. Performs s asks (or_fault r so) new (Err f)) (sym is) (inl refl)
  ]

-- a call that changes a stack or a page
pub operated : {S : Type 0} (asks : Bool) (rule : Result S Fault) (with : S → Fields) (old new : S) (result : Result (Unit {0}) Fault)
    → Leaves rule old new result → (result ≡ Err OutOfMemory → asks ≡ true) → Changes asks (or_fault rule (λ v. Moves (with v))) (with new) result
operated asks rule with old new (Ok u) h a s = subst (λ r. Performs s asks (or_fault r (λ v. Moves (with v))) (with new) (Ok transfer.Next)) (sym h.0) refl
operated asks rule with old new (Err f) h a s = refused s asks (with new) rule (λ v. Moves (with v)) f h.0 (λ is. a (ap Err is))

-- where more asks for memory
pub performs_where : (s : StoryTree) (few many : Bool) → (few ≡ true → many ≡ true) → (e : Effect) (new : Fields) (r : Result Transfer Fault) → Performs s few e new r → Performs s many e new r
performs_where s few many so (Fails g) new (Err f) h = elim h [ inl is ↦ inl is | inr refused ↦ inr (refused.0, so refused.1) ]
performs_where s few many so (Stores t f) new (Ok (transfer.Store a)) h = (h.0, λ is_new. so (h.1 is_new))
performs_where s few many so e new (Err f) h = (h.0, so h.1)
performs_where s few many so e new r h = h

pub performs_or : (s : StoryTree) (more asks : Bool) (e : Effect) (new : Fields) (r : Result Transfer Fault) → Performs s asks e new r → Performs s (more || asks) e new r
performs_or s true asks e new r h = performs_where s asks true (λ _. refl) e new r h
performs_or s false asks e new r h = h
