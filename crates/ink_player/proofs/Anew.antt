-- A player that goes on with another machine.
use Rattle.std.proofs.Common.{◌≡◌, ◌∙◌, ap, inl, refl, sym, List, [], Bool, true, Option, None, Ok}
use Rattle.ink_commands.specs.Telling.{TellsWatchers}
use Rattle.ink_player.proofs.Common.{DeskView, watches, Watching, Called, Configuration, told, Fault, Change, Event, Machine}
use Rattle.ink_model.specs.Protocol.Answer.{Acts, Reply}
use Rattle.ink_model.specs.Protocol.Session.{BeginsAnew, condition_told, reply_told}
use Rattle.ink_model.specs.Protocol.State.{Ready, globals_of}
use Rattle.ink_player.specs.Standing.{DeliveredOnce, PlayerView, condition_by, desk_of, fault_told, is_empty, state_of, story_of, told_from}
use Rattle.ink_player.proofs.Tellings.{globals-by, globals-told, none-left, told-done, told-state, with_parts}
use Rattle.ink_step.specs.Standing as step

module _ {P F O : Type 0} (turn_log : F → List Called) (state : O → Watching) (p : PlayerView P F O) (m : Machine) where
  abbrev before : Configuration
  before = step.config_of (story_of p) p.machine

  abbrev after : Configuration
  after = step.config_of (story_of p) m

  -- what watchers are told
  abbrev changes : List Change
  changes = told (watches p.desk.watchers) (step.globals_of p.machine) (step.globals_of m)

  from_state : (all : Bool) → changes ≡ told_from (desk_of p) (state_of p) (globals_of (condition_told all (Ready after)))
  from_state all =
      ap (λ vs. told (watches p.desk.watchers) vs (step.globals_of m)) (sym (globals-by p.broken before))
      ∙ ap (told (watches p.desk.watchers) (globals_of (state_of p).condition)) (sym (globals-told all after))

  -- watchers were told, and its events were taken
  pub begun-anew : (d1 d : DeskView P F O) (b : Option Fault) (all : Bool) (reply : Reply) → is_empty p.desk.events ≡ true
      → TellsWatchers {E = Unit {0}} turn_log state p.desk changes changes (Ok all) d1
      → reply ≡ reply_told all (Acts d1.events) d1.events → b ≡ fault_told all None → d ≡ record d1 { events = [] }
      → (es : List Event) × BeginsAnew changes (step.game_of (story_of p) m) es (state_of p) reply (state_of (with_parts p m d b))
      × DeliveredOnce turn_log state (told_from (desk_of p) (state_of p) (globals_of (state_of (with_parts p m d b)).condition)) (desk_of p) es reply d
  begun-anew d1 d b all reply none tells replies broken taken =
      let leaves = told-state p m d d1 b None all after refl broken taken refl in
      let done = told-done turn_log state changes (condition_by p.broken before) (Ready after) (step.aside_of (story_of p) (step.aside_in m)) (desk_of p) d1 d all reply (state_of (with_parts p m d b))
      (none-left p.desk.events none) tells replies leaves taken (told_from (desk_of p) (state_of p) (globals_of (state_of (with_parts p m d b)).condition))
      (from_state all ∙ ap (λ s. told_from (desk_of p) (state_of p) (globals_of s.condition)) (sym leaves)) in
      (done.0, inl done.1, done.2)
