-- Turn functions that were refused memory, at the end of a command.
use Rattle.std.proofs.Common.{◌≡◌, ◌∙◌, ap, inl, inr, refl, subst, sym, ℕ, List}
use Rattle.ink_host.specs.Desk.{DeskView, at, refusals_at}
use Rattle.ink_model.specs.Protocol.Answer.{Reply, Breaks}
use Rattle.ink_player.proofs.Common.{Fault, OutOfMemory, Event}
use Rattle.ink_effects.specs.Refusals.{KeepsRefusals, StopsAtRefusal}
use Rattle.ink_player.specs.Standing.{CommandStopsAtRefusal}

module _ {P F O : Type 0} (refusals : F → ℕ) where
  pub none_called : (desk : DeskView P F O) → KeepsRefusals refusals desk desk
  none_called desk name = refl

  -- with the same functions
  pub kept_with : (first old new : DeskView P F O) → new.functions ≡ old.functions → KeepsRefusals refusals first old → KeepsRefusals refusals first new
  kept_with first old new same kept name = ap (λ rows. refusals_at refusals (at name rows)) same ∙ kept name

  -- whatever is answered
  pub replied : (old new : DeskView P F O) (reply : Reply) → KeepsRefusals refusals old new → CommandStopsAtRefusal refusals old new reply
  replied old new (Breaks f events) kept = inl kept
  replied old new reply kept = kept

  -- a fault of its run
  stops_with : (first old new : DeskView P F O) (ended : Type 0) → new.functions ≡ old.functions → StopsAtRefusal refusals first old ended → StopsAtRefusal refusals first new ended
  stops_with first old new ended same (inl kept) = inl (kept_with first old new same kept)
  stops_with first old new ended same (inr h) =
      let now = λ (name : List ℕ). ap (λ rows. refusals_at refusals (at name rows)) same in
      inr (h.0, record { one = h.1.one; once = now h.1.one ∙ h.1.once; others = λ name other. now name ∙ h.1.others name other })

  pub broke : (first old new : DeskView P F O) (f : Fault) (events : List Event) (reply : Reply) → reply ≡ Breaks f events → new.functions ≡ old.functions
      → StopsAtRefusal refusals first old (f ≡ OutOfMemory) → CommandStopsAtRefusal refusals first new reply
  broke first old new f events reply is same h = subst (CommandStopsAtRefusal refusals first new) (sym is) (stops_with first old new (f ≡ OutOfMemory) same h)
