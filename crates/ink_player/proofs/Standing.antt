-- A player stands sound and at rest after each command: by the law of ink_sound that says so of commands, and of opening.
use Rattle.std.proofs.Common.{◌≡◌, ◌∙◌, ◌||◌, ap, refl, subst, sym, inl, inr, ℕ, List, [], ◌∷◌, ◌++◌, Bool, true, false, Option, None, Some, is_some, Result, Ok, Err, is_ok}
use Rattle.ink_model.specs.Protocol.Answer.{Reply, Acts, Refuses, reply_of_landing}
use Rattle.ink_model.specs.Choices.Choosing.{open_choice}
use Rattle.ink_model.specs.Protocol.Command as command
use Rattle.ink_player.proofs.Common.{Command, State, Ready, Values, store, stored, StoryTree, Fault, OutOfMemory, Refusal, Event, Given, Machine, Extent}
use Rattle.ink_model.specs.Run.Configuration.{ChoiceOf, Configuration, can_go_on, settled, with_globals}
use Rattle.ink_model.specs.Host.Events.{Made, calls, later}
use Rattle.ink_model.specs.Run.Flows.{Game, alone, one_flow}
use Rattle.ink_model.specs.Host.Bindings.{Bindings, Bound, nothing_bound, value_given}
use Rattle.ink_model.specs.Run.Opening.{opening}
use Rattle.ink_model.specs.Run.Moments as run
use Rattle.ink_model.specs.Save.Reads as rules
use Rattle.ink_model.specs.Save.Sound.{AsideFits}
use Rattle.ink_model.specs.Protocol.Session.{Does, TellsDone, left_with, settable, telling}
use Rattle.ink_model.specs.Host.Told.{ToldAs, told}
use Rattle.ink_model.specs.Protocol.Turns.{ChoosesBy}
use Rattle.ink_model.specs.declared.place.Part.{Part}
use Rattle.ink_sound.specs.Kept.{ConditionFits, StateFits, StoryFits}
use Rattle.ink_sound.proofs.Going.{one_fits}
use Rattle.ink_sound.proofs.Sessions.{does_fit}
use Rattle.ink_step.specs.Marks.{Stood, choosing_lacks, entered_by, stood_of, turn_lacks, unmarked}
use Rattle.ink_step.specs.Steps.{Chooses}
use Rattle.ink_step.specs.Standing.{aside_in, aside_of, config_of, game_of}
use Rattle.ink_commands.proofs.Jumps.{turn_free}
use Rattle.ink_commands.proofs.Tellings.{nobody-told}
use Rattle.ink_commands.specs.Paths.{JumpsTo}
use Rattle.ink_commands.specs.States.{at_stamp, condition_by, state_in}
use Rattle.ink_look.specs.Extents.{EndsBy}
use Rattle.ink_look.specs.declared.passages.Extent.TheVariants as extent
use Rattle.ink_player.specs.Extents.{GoesOn}
use Rattle.ink_player.specs.Standing.{Stands, fault_told, is_empty}
use Rattle.ink_player.proofs.Tellings.{goes-where, sets}

-- names bound as they are, and nobody watches
abbrev unwatched : Bound → Bindings
unwatched b = record { functions = b; watches = λ name. false }

told_unwatched : (start now : Values) → told (λ name. false) start now ≡ []
told_unwatched start [] = refl
told_unwatched start (e ∷ now) = told_unwatched start now

-- a choice is taken, as a command
choice_taken : (s : StoryTree) (choice : Option (ChoiceOf (List Part))) (c d : Configuration) (r : Result (Unit {0}) Refusal) → Chooses s false choice c d r
    → ChoosesBy s choice c (at_stamp (Ready c) one_flow 0) (reply_of_landing r) (at_stamp (Ready d) one_flow 0)
choice_taken s None c d (Ok u) h = absurd h
choice_taken s None c d (Err r) h = (ap Refuses (elim h.0 [ inl is ↦ is | inr short ↦ absurd (let no = short.1 in cc) ]), ap (λ x. at_stamp (Ready x) one_flow 0) h.1)
choice_taken s (Some choice) c d (Ok u) h = inl (refl, ap (λ x. at_stamp (Ready x) one_flow 0) h)
choice_taken s (Some choice) c d (Err r) h = inr (h.0.1, (ap Refuses h.0.0, ap (λ x. at_stamp (Ready x) one_flow 0) h.1))

-- no mark stands where it is taken
pub chooses-free : (s : StoryTree) (m n : Machine) → stood_of m ≡ unmarked → stood_of n ≡ unmarked → (choice : Option (ChoiceOf (List Part))) (d : Configuration) (r : Result (Unit {0}) Refusal)
    → Chooses s (choosing_lacks s choice m n) choice (config_of s m) d r → Chooses s false choice (config_of s m) d r
chooses-free s m n free left choice d r h =
    let copies : is_some (stood_of m).choices ≡ false = ap (λ (x : Stood). is_some x.choices) free in
    subst (λ lacks. Chooses s lacks choice (config_of s m) d r) (ap (λ b. b || turn_lacks (entered_by s choice) n) copies ∙ turn_free (entered_by s choice) n left) h

-- what goes so far, as a command
abbrev going : Extent → Command
going extent.Line = command.Continue
going extent.Stop = command.Through

does_as : (s : StoryTree) (h : Bindings) (x : Extent) (es : List Event) (old : State) (reply : Reply) (new : State) → GoesOn x s h es old reply new → Does s h es (Some (going x)) old reply new
does_as s h extent.Line es old reply new goes = goes
does_as s h extent.Stop es old reply new goes = goes

-- a machine stands in a story as in one that is the same
pub game-as : (s t : StoryTree) (m : Machine) → s ≡ t → rules.Stands s (game_of s m) → rules.Stands t (game_of t m)
game-as s t m e h = subst (λ u. rules.Stands u (game_of u m)) e h

-- a machine with one flow
pub opened_alone : (s : StoryTree) (m : Machine) → aside_in m ≡ one_flow → game_of s m ≡ alone (config_of s m)
opened_alone s m e = ap (λ a. let g : Game = record { now = config_of s m; aside = aside_of s a } in g) e

pub alone-fits : (s : StoryTree) (m : Machine) → aside_in m ≡ one_flow → AsideFits s (aside_of s (aside_in m))
alone-fits s m e = subst (λ a. AsideFits s (aside_of s a)) (sym e) (one_fits s)

-- ---- what is left between calls

module _ (s : StoryTree) (story : StoryFits s) (opens : is_ok (opening s) ≡ true) where
  -- a fault broke it
  pub stands-broken : (m : Machine) (es : List Event) (b : Option Fault) (f : Fault) → is_empty es ≡ true → b ≡ Some f → stood_of m ≡ unmarked → AsideFits s (aside_of s (aside_in m))
      → Stands s es b m
  stands-broken m es b f none e free aside =
      record { taken = none; story = story; opens = opens; unmarked = free; fits = subst (λ x. ConditionFits s (condition_by x (config_of s m))) (sym e) tt; aside = aside }

  -- none did
  pub stands-free : (m : Machine) (es : List Event) (b : Option Fault) → is_empty es ≡ true → b ≡ None → stood_of m ≡ unmarked → ConditionFits s (Ready (config_of s m))
      → AsideFits s (aside_of s (aside_in m)) → Stands s es b m
  stands-free m es b none free mark fits aside =
      record { taken = none; story = story; opens = opens; unmarked = mark; fits = subst (λ x. ConditionFits s (condition_by x (config_of s m))) (sym free) fits; aside = aside }

  -- watchers were told, all of them or not
  pub stands-told : (m : Machine) (es : List Event) (all : Bool) (b old : Option Fault) → is_empty es ≡ true → old ≡ None → b ≡ fault_told all old
      → stood_of m ≡ unmarked → ConditionFits s (Ready (config_of s m)) → AsideFits s (aside_of s (aside_in m)) → Stands s es b m
  stands-told m es true b old none free e mark fits aside = stands-free m es b none (e ∙ free) mark fits aside
  stands-told m es false b old none free e mark fits aside = stands-broken m es b OutOfMemory none e mark aside

-- ---- commands that tell nobody and leave no mark

module _ (s : StoryTree) (m n : Machine) (es : List Event) (b : Option Fault) (reply : Reply) (kept : Stands s es b m) (mark : stood_of n ≡ unmarked) where
  stands-in : StateFits s (state_in s b n 0) → Stands s es b n
  stands-in fit = record { taken = kept.taken; story = kept.story; opens = kept.opens; unmarked = mark; fits = fit.condition; aside = fit.aside }

  stood : StateFits s (state_in s b m 0)
  stood = record { condition = kept.fits; aside = kept.aside }

  pub stands-after : (k : Command) → Does s (unwatched nothing_bound) [] (Some k) (state_in s b m 0) reply (state_in s b n 0) → Stands s es b n
  stands-after k does = stands-in (does_fit s kept.story (unwatched nothing_bound) [] (Some k) (state_in s b m 0) reply (state_in s b n 0) does stood)

  -- `jump`, for whose path memory may be refused
  pub stands-jumped : (path : List ℕ) → JumpsTo s path (state_in s b m 0) reply (state_in s b n 0) → Stands s es b n
  stands-jumped path (inl jumps) = stands-after (command.Jump path) (refl, jumps)
  stands-jumped path (inr fails) = stands-in (subst (StateFits s) (sym fails.1.1) stood)

module _ (s : StoryTree) (story : StoryFits s) where
  -- the same flows stand aside
  pub aside-stays : (m n : Machine) → aside_in n ≡ aside_in m → AsideFits s (aside_of s (aside_in m)) → AsideFits s (aside_of s (aside_in n))
  aside-stays m n e h = subst (λ a. AsideFits s (aside_of s a)) (sym e) h

  -- ---- commands, from where a player stands that is not broken

  pub free-stands : (b : Option Fault) (c : Configuration) → b ≡ None → ConditionFits s (condition_by b c) → ConditionFits s (Ready c)
  free-stands b c e h = subst (λ x. ConditionFits s (condition_by x c)) e h

  module _ (c : Configuration) (fits : ConditionFits s (Ready c)) where
    -- one that tells nobody
    does : (b : Bound) (es : List Event) (k : Command) (reply : Reply) (new : State) → Does s (unwatched b) es (Some k) (at_stamp (Ready c) one_flow 0) reply new → ConditionFits s new.condition
    does b es k reply new h = (does_fit s story (unwatched b) es (Some k) (at_stamp (Ready c) one_flow 0) reply new h (record { condition = fits; aside = one_fits s })).condition

    pub choose-stands : (n : ℕ) (d : Configuration) (r : Result (Unit {0}) Refusal) → Chooses s false (open_choice n c) c d r → ConditionFits s (Ready d)
    choose-stands n d r h = does nothing_bound [] (command.Choose n) (reply_of_landing r) (at_stamp (Ready d) one_flow 0) (refl, choice_taken s (open_choice n c) c d r h)

    pub set-stands : (name : List ℕ) (g : Given) → settable g ≡ true → is_some (stored name c.shared.globals) ≡ true
        → ConditionFits s (Ready (with_globals (store name (value_given g) c.shared.globals) c))
    set-stands name g e k =
        let new = with_globals (store name (value_given g) c.shared.globals) c in
        let done : TellsDone [] (Ready new) Acts [] [] (at_stamp (Ready c) one_flow 0) (Acts []) (at_stamp (Ready new) one_flow 0) =
        record { all = true; saw = []; telling = nobody-told 0; events = refl; replies = refl; leaves = refl } in
        does nothing_bound [] (command.Set name (Some g)) (Acts []) (at_stamp (Ready new) one_flow 0)
        (sets (unwatched nothing_bound) name c None one_flow 0 g [] (Acts []) (at_stamp (Ready new) one_flow 0) (value_given g) refl refl e k (inl done))

    -- it came to its end with a configuration, and left it settled
    pub run-stands : (x : Extent) (b : Bound) (made : List Made) (end d : Configuration) → can_go_on c ≡ true → EndsBy x s b c made (run.Kept end) → d ≡ settled end → ConditionFits s (Ready d)
    run-stands x b made end d goes ends is =
        let es = calls 0 made ++ [] in
        let old = at_stamp (Ready c) one_flow 0 in
        let new = left_with (Ready (settled end)) es old in
        let cs = told (λ name. false) c.shared.globals end.shared.globals in
        let done : TellsDone cs (Ready (settled end)) (telling end) (calls 0 made) es old (telling end es) new = record {
          all = true;
          saw = [];
          telling = subst (λ xs. ToldAs (later 0 (calls 0 made)) xs true []) (sym (told_unwatched c.shared.globals end.shared.globals)) (nobody-told (later 0 (calls 0 made)));
          events = refl;
          replies = refl;
          leaves = refl;
        } in
        subst (λ y. ConditionFits s (Ready y)) (sym is) (does b es (going x) (telling end es) new
        (does_as s (unwatched b) x es old (telling end es) new
        (goes-where s (unwatched b) None c one_flow 0 x es (telling end es) new true refl goes (made, inl (run.Kept end, ends, inl done)))))
