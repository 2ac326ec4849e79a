-- Content that leads elsewhere: diverts and calls.
use Rattle.std.proofs.Common.{◌≡◌, refl, subst, sym, inl, Bool, true, false, if◌then◌else◌, Result, Ok, Err}
use Rattle.ink_model.specs.Run.Effect.{Fields, Effect, Landing as Goal, Moves, Lands, Calls, or_fault}
use Rattle.ink_effects.proofs.Common.{StoryTree, Fault, Performs, landing_of, frame_kind, Landing, Transfer}
use Rattle.ink_stack.specs.declared.frame.CallKind.{CallKind}
use Rattle.ink_effects.specs.declared.transfer.Transfer.TheVariants as transfer

module _ (s : StoryTree) (asks : Bool) (new : Fields) where
  -- ---- conditions

  abbrev where_so : Result (Bool × Fields) Fault → (Fields → Effect) → Effect
  where_so x so = or_fault x (λ r. if r.0 then so r.1 else Moves r.1)

  pub performed : (x : Result (Bool × Fields) Fault) (so : Fields → Effect) (b : Bool) (r : Result Transfer Fault) → b ≡ true → Ok (b, new) ≡ x → Performs s asks (so new) new r
      → Performs s asks (where_so x so) new r
  performed x so b r true_is h p = subst (λ y. Performs s asks (where_so y so) new r) h (subst (λ w. Performs s asks (where_so (Ok (w, new)) so) new r) (sym true_is) p)

  pub passed : (x : Result (Bool × Fields) Fault) (so : Fields → Effect) (b : Bool) (to : Transfer) → to ≡ transfer.Next → b ≡ false → Ok (b, new) ≡ x → Performs s asks (where_so x so) new (Ok to)
  passed x so b to on false_is h =
      let moves : Performs s asks (where_so (Ok (b, new)) so) new (Ok transfer.Next) = subst (λ w. Performs s asks (where_so (Ok (w, new)) so) new (Ok transfer.Next)) (sym false_is) refl in
      subst (λ t. Performs s asks (where_so x so) new (Ok t)) (sym on) (subst (λ y. Performs s asks (where_so y so) new (Ok transfer.Next)) h moves)

  -- ---- where content leads

  pub lands_there : (to : Landing) (led : Result Goal Fault) → Ok (landing_of s to) ≡ led → Performs s asks (or_fault led (λ l. Lands l new)) new (Ok (transfer.Land to))
  lands_there to led h = subst (λ o. Performs s asks (or_fault o (λ l. Lands l new)) new (Ok (transfer.Land to))) h (refl, refl)

  pub calls_there : (k : CallKind) (to : Landing) (led : Result Goal Fault) → Ok (landing_of s to) ≡ led
      → Performs s asks (or_fault led (λ l. Calls (frame_kind k) l new)) new (Ok (transfer.Call k to))
  calls_there k to led h = subst (λ o. Performs s asks (or_fault o (λ l. Calls (frame_kind k) l new)) new (Ok (transfer.Call k to))) h (refl, refl, refl)

  pub leads_nowhere : (f : Fault) (led : Result Goal Fault) (so : Goal → Effect) → Err f ≡ led → Performs s asks (or_fault led so) new (Err f)
  leads_nowhere f led so h = subst (λ o. Performs s asks (or_fault o so) new (Err f)) h (inl refl)
