-- What a reading does, one deed after another, and what is shown of it (docs/READER.md, "What is shown").
use Rattle.std.specs.Prelude.{◌≡◌, ℕ, List, [], ◌∷◌, ◌++◌, Bool, true, Option, Some, Result, Ok, Err, codes}
use Rattle.std.specs.Io.KnownBytes.{Appends}
use Rattle.ink_host.specs.Desk.{DeskView}
use Rattle.ink_host.specs.Telling.{Watching}
use Rattle.ink_host.specs.declared.objects.Called.{Called}
use Rattle.ink_model.specs.Protocol.Answer.{Reply, Acts, Breaks, Counts, Refuses, Saves, Shows, Tells}
use Rattle.ink_model.specs.Protocol.Command as command
use Rattle.ink_model.specs.Protocol.Command.{Command}
use Rattle.ink_model.specs.Host.Bindings.{Bindings}
use Rattle.ink_model.specs.Protocol.Session.{Does}
use Rattle.ink_model.specs.Protocol.State.{State, is_running}
use Rattle.ink_model.specs.Story.Tree.{StoryTree}
use Rattle.ink_model.specs.Protocol.Turns.{ShowsChoices}
use Rattle.ink_model.specs.declared.fault.Refusal.{Refusal}
use Rattle.ink_model.specs.declared.host.Event.{Event}
use Rattle.ink_model.specs.declared.host.Given.{Given}
use Rattle.ink_model.specs.declared.passage.Shown.{Shown}
use Rattle.ink_model.specs.declared.value.Value.{Value}
use Rattle.ink_page.specs.Sentences.{fault_sentence, refusal_sentence}
use Rattle.ink_page.specs.Showing.{choices_shown, events_shown, passage_shown, said, value_shown}
use Rattle.ink_page.specs.declared.page.Look.{Look}
use Rattle.ink_player.specs.Standing.{DeliveredOf, PlayerView, bindings, desk_of, scene_of, state_of, story_of}
use Rattle.ink_reader.specs.Kept as shelf
use Rattle.ink_reader.specs.Notices.{Word, broke_before, broke_off, word_text}
use Rattle.ink_reader.specs.declared.shelf.NotKept.{NotKept}

pub data Deed : Type 0 where
  -- its player tells whether flow can go on
  Goes : Bool → Deed
  -- its player is given a command, and answers
  Gives : Command → Reply → Deed
  -- its player is asked for the choices that there are
  Offers : Result (List Shown) Refusal → Deed
  -- it asks for a line
  Asks : Deed
  -- it says words of its own
  Says : Word → Deed
  -- a save is brought to the shelf
  Keeps : List ℕ → Result (Unit {0}) NotKept → Deed
  -- the shelf is asked for the save
  Fetches : Result (Option (List ℕ)) NotKept → Deed

-- ---- what is shown

-- of an answer, and of a fault also how the story stands
abbrev pub reply_shown : Look → List ℕ → Reply → List ℕ
reply_shown look stands (Tells passage) = passage_shown look passage
reply_shown look stands (Acts events) = events_shown look events
reply_shown look stands (Shows value) = []
reply_shown look stands (Counts visits) = []
reply_shown look stands (Saves saved) = []
reply_shown look stands (Refuses r) = said look (refusal_sentence r)
reply_shown look stands (Breaks f events) = events_shown look events ++ (said look (fault_sentence f) ++ said look stands)

-- of the answer to a command: a value with its name; that a place could not be saved is said in words of its own
abbrev pub answer_shown : Look → Command → Reply → List ℕ
answer_shown look (command.Get name) (Shows value) = value_shown look name value
answer_shown look command.Save reply = []
answer_shown look command.Continue reply = reply_shown look broke_off reply
answer_shown look k reply = reply_shown look broke_before reply

-- of the choices: how the story ends, or why they cannot be shown, is said in words of its own
abbrev pub offer_shown : Look → Result (List Shown) Refusal → List ℕ
offer_shown look (Ok []) = []
offer_shown look (Ok (choice ∷ choices)) = choices_shown look (choice ∷ choices)
offer_shown look (Err r) = []

abbrev pub deed_shown : Look → Deed → List ℕ
deed_shown look (Goes more) = []
deed_shown look (Gives k reply) = answer_shown look k reply
deed_shown look (Offers shown) = offer_shown look shown
deed_shown look Asks = codes "> "
deed_shown look (Says word) = said look (word_text word)
deed_shown look (Keeps text answer) = []
deed_shown look (Fetches answer) = []

abbrev pub deeds_shown : Look → List Deed → List ℕ
deeds_shown look [] = []
deeds_shown look (d ∷ ds) = deed_shown look d ++ deeds_shown look ds

-- ---- what is done

-- by a player, with the events at it: nothing changes where it is only asked
abbrev pub IsDone : StoryTree → Bindings → List Event → Deed → State → State → Type 0
IsDone s h es (Gives k reply) old new = Does s h es (Some k) old reply new
IsDone s h es (Goes more) old new = (is_running old.condition ≡ more) × (es ≡ []) × (new ≡ old)
IsDone s h es (Offers shown) old new = ShowsChoices old shown × (es ≡ []) × (new ≡ old)
IsDone s h es Asks old new = (es ≡ []) × (new ≡ old)
IsDone s h es (Says word) old new = (es ≡ []) × (new ≡ old)
IsDone s h es (Keeps text answer) old new = (es ≡ []) × (new ≡ old)
IsDone s h es (Fetches answer) old new = (es ≡ []) × (new ≡ old)

abbrev pub AreDone : StoryTree → Bindings → List Event → List Deed → State → State → Type 0
AreDone s h es [] old new = (es ≡ []) × (new ≡ old)
AreDone s h es (d ∷ ds) old new = (mid : State) × (first : List Event) × (others : List Event)
    × (es ≡ first ++ others) × IsDone s h first d old mid × AreDone s h others ds mid new

-- by a shelf: it keeps what is brought to it, and hands out what it keeps, or fails
abbrev pub IsShelved : Option (Option (List ℕ)) → Deed → Option (Option (List ℕ)) → Type 0
IsShelved old (Keeps text answer) new = shelf.KeepsSave old new text answer
IsShelved old (Fetches answer) new = shelf.Fetches old answer × (new ≡ old)
IsShelved old (Goes more) new = new ≡ old
IsShelved old (Gives k reply) new = new ≡ old
IsShelved old (Offers shown) new = new ≡ old
IsShelved old Asks new = new ≡ old
IsShelved old (Says word) new = new ≡ old

abbrev pub AreShelved : Option (Option (List ℕ)) → List Deed → Option (Option (List ℕ)) → Type 0
AreShelved old [] new = new ≡ old
AreShelved old (d ∷ ds) new = (mid : Option (Option (List ℕ))) × IsShelved old d mid × AreShelved mid ds new

module _ {P F O : Type 0} (turn_log : F → List Called) (refusals : F → ℕ) (state : O → Watching) (s : StoryTree) (h : Bindings) where
  -- What deeds in turn did to the objects of a host: a command did this, by its own events and reply, and nothing else did anything.
  abbrev pub AreDelivered : (es : List Event) (ds : List Deed) (old new : State) → AreDone s h es ds old new → DeskView P F O → DeskView P F O → Type 0
  AreDelivered es [] old new done before after = after ≡ before
  AreDelivered es (Gives k reply ∷ ds) old new (mid, first, others, joined, does, done) before after =
      (between : DeskView P F O) × DeliveredOf turn_log refusals state (Some k) (record { state = old; desk = before }) first reply (record { state = mid; desk = between })
      × AreDelivered others ds mid new done between after
  AreDelivered es (d ∷ ds) old new (mid, first, others, joined, does, done) before after = AreDelivered others ds mid new done before after

module _ {P F O : Type 0} (meaning : P → List Value → Option Given) (turn_log : F → List Called) (refusals : F → ℕ) (state : O → Watching) where
  -- a player was given this command, its objects were called and told what happened at it, and it answered
  pub record Gave (old : PlayerView P F O) (k : Command) (reply : Reply) (new : PlayerView P F O) : Type 0 where
    pub events : List Event
    pub does : Does (story_of old) (bindings meaning (desk_of old)) events (Some k) (state_of old) reply (state_of new)
    pub dealt : DeliveredOf turn_log refusals state (Some k) (scene_of old) events reply (scene_of new)
    pub story : story_of new ≡ story_of old

  -- Between these two moments a reading did this and nothing else: its player was given these commands, in order, and its objects
  -- were called and told what happened at them; its shelf was asked this. Where all went well, just what is shown of that was
  -- written.
  pub record Played (look : Look) (old : PlayerView P F O) (ds : List Deed) (new : PlayerView P F O) (held held' : Option (List ℕ)) (kept kept' : Option (Option (List ℕ))) (well : Bool) : Type 0 where
    pub events : List Event
    pub done : AreDone (story_of old) (bindings meaning (desk_of old)) events ds (state_of old) (state_of new)
    pub dealt : AreDelivered turn_log refusals state (story_of old) (bindings meaning (desk_of old)) events ds (state_of old) (state_of new) done (desk_of old) (desk_of new)
    pub story : story_of new ≡ story_of old
    pub shelved : AreShelved kept ds kept'
    pub written : well ≡ true → Appends held held' (deeds_shown look ds)
