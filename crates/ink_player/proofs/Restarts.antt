-- A restart, by what opening comes to.
use Rattle.std.proofs.Common.{◌≡◌, ap, refl, subst, sym, inl, inr, List, [], Ok}
use Rattle.ink_player.proofs.Common.{Reply, Refuses, Configuration, Bindings, Values, told, StoryTree, Refusal, Event}
use Rattle.ink_model.specs.Run.Flows.{Game, alone}
use Rattle.ink_model.specs.Memory.Refusals.{OpensShort}
use Rattle.ink_model.specs.Run.Opening.{opening}
use Rattle.ink_model.specs.Protocol.Session.{BeginsAnew, Restart, RestartsAs}
use Rattle.ink_model.specs.Protocol.State.{State, globals_of}
use Rattle.ink_model.specs.declared.fault.Refusal.TheVariants as refusal

module _ (s : StoryTree) (h : Bindings) (old : State) where
  -- with these globals before
  pub restart-opened : (c : Configuration) (start : Values) (es : List Event) (reply : Reply) (new : State) → opening s ≡ Ok c → globals_of old.condition ≡ start
      → (g : Game) → g ≡ alone c → BeginsAnew (told h.watches start c.shared.globals) g es old reply new → Restart s h es old reply new
  restart-opened c start es reply new opens were g is p =
      inl (subst (λ r. RestartsAs h r es old reply new) (sym opens)
      (subst (λ vs. BeginsAnew (told h.watches vs c.shared.globals) (alone c) es old reply new) (sym were) (subst (λ x. BeginsAnew (told h.watches start c.shared.globals) x es old reply new) is p)))

  -- memory was refused
  pub restart-refused : (r : Refusal) → r ≡ refusal.OutOfMemory → OpensShort s → Restart s h [] old (Refuses r) old
  restart-refused r is short = inr (short, refl, (ap Refuses is, refl))
