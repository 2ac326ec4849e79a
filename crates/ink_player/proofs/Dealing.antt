-- What a command does to the objects of a host.
use Rattle.std.proofs.Common.{◌≡◌, ap, refl, ℕ, List, [], Option, Some}
use Rattle.ink_player.proofs.Common.{DeskView, Watching, Called, Reply, Refuses, Command, Refusal, Event, Given}
use Rattle.ink_model.specs.Protocol.Command as command
use Rattle.ink_model.specs.declared.value.Value.{Value}
use Rattle.ink_player.specs.Standing.{CommandStopsAtRefusal, DeliveredBy, DeliveredOf, Scene, bindings, changed}
use Rattle.ink_player.proofs.Refusals.{kept_with, none_called, replied}
use Rattle.ink_player.proofs.Tellings.{bindings-same, once-none, run-none}

-- with the same functions
pub same_refusals : {P F O : Type 0} (refusals : F → ℕ) (a b : DeskView P F O) (reply : Reply) → b.functions ≡ a.functions → CommandStopsAtRefusal refusals a b reply
same_refusals refusals a b reply same = replied refusals a b reply (kept_with refusals a a b same (none_called refusals a))

module _ {P F O : Type 0} (turn_log : F → List Called) (refusals : F → ℕ) (state : O → Watching) where
  leaves : (k : Option Command) (old : Scene P F O) (r : Refusal) → DeliveredBy turn_log state k old [] (Refuses r) old
  leaves (Some command.Continue) old r = run-none turn_log state (changed old old) old.desk r
  leaves (Some command.Through) old r = run-none turn_log state (changed old old) old.desk r
  leaves (Some (command.Set name (Some value))) old r = once-none turn_log state old.desk
  leaves (Some (command.Load saved)) old r = once-none turn_log state old.desk
  leaves (Some command.Restart) old r = once-none turn_log state old.desk
  leaves k old r = (refl, refl)

  -- one that is refused, and nothing has changed
  pub untouched : (k : Option Command) (old : Scene P F O) (r : Refusal) → DeliveredOf turn_log refusals state k old [] (Refuses r) old
  untouched k old r = (leaves k old r, none_called refusals old.desk)

module _ {P F O : Type 0} (turn_log : F → List Called) (state : O → Watching) where
  -- names stay bound as they are, and the same are watched
  pub command_binds : (meaning : P → List Value → Option Given) (k : Option Command) (old : Scene P F O) (es : List Event) (reply : Reply) (new : Scene P F O) → DeliveredBy turn_log state k old es reply new
      → bindings meaning new.desk ≡ bindings meaning old.desk
  command_binds meaning (Some command.Continue) old es reply new h = bindings-same turn_log state meaning old.desk new.desk es h.grew
  command_binds meaning (Some command.Through) old es reply new h = bindings-same turn_log state meaning old.desk new.desk es h.grew
  command_binds meaning (Some (command.Set name (Some value))) old es reply new h = bindings-same turn_log state meaning old.desk new.desk es h.0
  command_binds meaning (Some (command.Load saved)) old es reply new h = bindings-same turn_log state meaning old.desk new.desk es h.0
  command_binds meaning (Some command.Restart) old es reply new h = bindings-same turn_log state meaning old.desk new.desk es h.0
  command_binds meaning k old es reply new h = ap (bindings meaning) h.1
