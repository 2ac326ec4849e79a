-- What playing a story over bytes does, and how it may end (docs/PROTOCOL.md, "Playing").
use Rattle.std.specs.Prelude.{◌≡◌, ◌<◌, ◌≤◌, ◌+◌, ◌-◌, ℕ, List, [], ◌∷◌, ◌++◌, length, false, ◌⊎◌, Option, Result, Ok, Err}
use Rattle.std.specs.Io.KnownBytes.{Appends, Consumes, IsAtEnd}
use Rattle.ink_json.specs.Reading.{IsRefusedBy}
use Rattle.ink_model.specs.Text.Bytes.{has_newline}
use Rattle.ink_model.specs.Story.Grammar.{here}
use Rattle.ink_model.specs.declared.limits.TheConstants.{MAX_STORY, MAX_INPUT}
use Rattle.ink_model.specs.Run.Configuration.{Configuration}
use Rattle.ink_model.specs.Run.Opening.{opening, opened}
use Rattle.ink_model.specs.Story.Acceptance.{accepted_story}
use Rattle.ink_model.specs.Host.Bindings.{Bindings}
use Rattle.ink_host.specs.Desk.{DeskView}
use Rattle.ink_host.specs.Telling.{Watching}
use Rattle.ink_host.specs.declared.objects.Called.{Called}
use Rattle.ink_model.specs.Variables.Store.{Values}
use Rattle.ink_model.specs.Story.Tree.{StoryTree}
use Rattle.ink_model.specs.declared.fault.Cause.TheVariants as cause
use Rattle.ink_model.specs.declared.fault.Fault.{Fault}
use Rattle.ink_model.specs.declared.fault.ReadRefusal.{ReadRefusal}
use Rattle.ink_player.specs.Serving.{RunEnds}
use Rattle.ink_protocol.specs.Spelled.{HasRoom}
use Rattle.ink_step.specs.Steps.{FailsToOpen}
use Rattle.ink_player.specs.Standing.{PlayerView, Scene, anew, desk_of, scene_of, state_of, story_of}
use Rattle.ink_player.specs.declared.end.PlayEnd.{PlayEnd}
use Rattle.ink_player.specs.declared.end.PlayFault.{PlayFault}
use Rattle.ink_player.specs.declared.end.PlayFault.TheVariants as play
use Rattle.ink_protocol.specs.declared.fault.RunFault.{RunFault}
use Rattle.ink_protocol.specs.declared.fault.RunFault.TheVariants as fault

-- The story is the first line, within its limit: up to its newline, with the session's input behind it, or up to the
-- reader's end.
pub record IsStoryLine (left : Option (List ℕ)) (bytes line input : List ℕ) : Type 0 where
  pub plain : has_newline line ≡ false
  pub within : length line ≤ MAX_STORY
  pub whole : (bytes ≡ line ++ 10 ∷ input) ⊎ ((bytes ≡ line) × (input ≡ []) × IsAtEnd left)

-- the story line spells this story
pub record BringsStory (left : Option (List ℕ)) (bytes : List ℕ) (tree : StoryTree) : Type 0 where
  pub line : List ℕ
  pub input : List ℕ
  pub story_line : IsStoryLine left bytes line input
  pub reads : accepted_story line ≡ Ok tree

-- the story ended what came: nothing was written, and no more was read than tells that a story is over its limit
pub record EndsEarly (bytes written : List ℕ) : Type 0 where
  pub nothing : written ≡ []
  pub bound : length bytes ≤ MAX_STORY + 1

-- the story is not accepted
abbrev pub IsRefused : List ℕ → ReadRefusal → Type 0
IsRefused line r = IsRefusedBy (accepted_story line) line r

-- The story was refused. Where it is over its limit, it is refused for that; and where memory was refused for a byte of it, for
-- that.
abbrev pub IsStoryRefused : Option (List ℕ) → List ℕ → ReadRefusal → Type 0
IsStoryRefused left bytes r =
    ((line : List ℕ) × (input : List ℕ) × IsStoryLine left bytes line input × IsRefused line r)
    ⊎ (((r ≡ here cause.OutOfMemory) × HasRoom MAX_STORY MAX_INPUT bytes bytes)
    ⊎ ((r ≡ here cause.Limit) × (has_newline bytes ≡ false) × (MAX_STORY < length bytes)))

pub record IsUnopened (left : Option (List ℕ)) (bytes : List ℕ) (f : Fault) : Type 0 where
  pub tree : StoryTree
  pub story : BringsStory left bytes tree
  pub globals : Values
  pub why : FailsToOpen tree f globals

module _ {P F O : Type 0} (turn_log : F → List Called) (refusals : F → ℕ) (state : O → Watching) (h : Bindings) (old : DeskView P F O) where
  -- The story was opened, and the lines behind it were served to the reader's end or to what ended the session. The input's
  -- limit counts the story and its newline. The desk is as the last line left it, with no event on it.
  pub record PlaysOn (left : Option (List ℕ)) (bytes written : List ℕ) (result : Result (Unit {0}) RunFault) (new : DeskView P F O) : Type 0 where
    pub tree : StoryTree
    pub story : BringsStory left bytes tree
    pub first : Configuration
    pub opens : opening tree ≡ Ok first
    pub last : Scene P F O
    pub ends : RunEnds turn_log refusals state tree h (MAX_INPUT - (length story.line + 1)) left story.input (record { state = opened first; desk = anew old }) written last result
    pub desk : new ≡ last.desk
    pub taken : new.events ≡ []

  -- Why a play failed, and what became of its desk: a story that is refused or cannot be opened leaves it alone, and so does a
  -- reader that fails within the story, which what came does not show over its limit; else a player had it.
  abbrev pub PlayFails : Option (List ℕ) → List ℕ → List ℕ → PlayFault → DeskView P F O → Type 0
  PlayFails left bytes written (play.Story r) new = EndsEarly bytes written × (new ≡ old) × IsStoryRefused left bytes r
  PlayFails left bytes written (play.Start f) new = EndsEarly bytes written × (new ≡ old) × IsUnopened left bytes f
  PlayFails left bytes written (play.Run f) new =
      (EndsEarly bytes written × (new ≡ old) × (f ≡ fault.Read) × (has_newline bytes ≡ false) × (length bytes ≤ MAX_STORY)) ⊎ PlaysOn left bytes written (Err f) new

  abbrev pub PlayEnds : Option (List ℕ) → List ℕ → List ℕ → Result (DeskView P F O) (PlayEnd P F O) → Type 0
  PlayEnds left bytes written (Ok new) = PlaysOn left bytes written (Ok tt) new
  PlayEnds left bytes written (Err e) = PlayFails left bytes written e.fault e.desk

  -- Which bytes were read, not more than one beyond those that an input may have, what was written, and how it ended.
  pub record Plays (left left' held held' : Option (List ℕ)) (result : Result (DeskView P F O) (PlayEnd P F O)) : Type 0 where
    pub bytes : List ℕ
    pub consumed : Consumes left left' bytes
    pub bound : length bytes ≤ MAX_INPUT + 1
    pub written : List ℕ
    pub appended : Appends held held' written
    pub ends : PlayEnds left' bytes written result

-- ---- parts of it

-- why there is no story line, as the fault of a play
abbrev pub play_fault : RunFault → PlayFault
play_fault fault.Read = play.Run fault.Read
play_fault fault.Write = play.Run fault.Write
play_fault fault.TooLong = play.Story (here cause.Limit)
play_fault fault.OutOfMemory = play.Story (here cause.OutOfMemory)

abbrev pub OpenFails : List ℕ → PlayFault → Type 0
OpenFails line (play.Story r) = IsRefused line r
OpenFails line (play.Start f) = (tree : StoryTree) × (accepted_story line ≡ Ok tree) × ((globals : Values) × FailsToOpen tree f globals)
OpenFails line (play.Run f) = ⊥

module _ {P F O : Type 0} where
  abbrev pub Opens : List ℕ → Result (PlayerView P F O) (PlayEnd P F O) → Type 0
  Opens line (Ok p) = (accepted_story line ≡ Ok (story_of p)) × ((c : Configuration) × (opening (story_of p) ≡ Ok c) × (state_of p ≡ opened c))
  Opens line (Err e) = OpenFails line e.fault

  -- ---- the desk that is handed back

  abbrev pub desk_left : Result (DeskView P F O) (PlayEnd P F O) → DeskView P F O
  desk_left (Ok desk) = desk
  desk_left (Err e) = e.desk

  -- the same of a play that ended with its player
  abbrev pub played : Result (PlayerView P F O) (PlayEnd P F O) → Result (DeskView P F O) (PlayEnd P F O)
  played (Ok p) = Ok (desk_of p)
  played (Err e) = Err e

  -- the player has it, with no event and the first stamp; or it is handed back as it was
  abbrev pub OpensDesk : DeskView P F O → Result (PlayerView P F O) (PlayEnd P F O) → Type 0
  OpensDesk desk (Ok p) = desk_of p ≡ anew desk
  OpensDesk desk (Err e) = e.desk ≡ desk

module _ {P F O : Type 0} (turn_log : F → List Called) (refusals : F → ℕ) (state : O → Watching) (h : Bindings) (old : DeskView P F O) where
  -- A player that played a story to the end has the story that was brought, and stands where its last line left it.
  abbrev pub StandsThere : {left left' held held' : Option (List ℕ)} (result : Result (PlayerView P F O) (PlayEnd P F O)) → Plays turn_log refusals state h old left left' held held' (played result) → Type 0
  StandsThere (Ok p) x = (story_of p ≡ x.ends.tree) × (scene_of p ≡ x.ends.last)
  StandsThere (Err e) x = Unit {0}

  -- what a play does whose player comes back
  abbrev pub PlaysToEnd : (left left' held held' : Option (List ℕ)) → Result (PlayerView P F O) (PlayEnd P F O) → Type 0
  PlaysToEnd left left' held held' result = (x : Plays turn_log refusals state h old left left' held held' (played result)) × StandsThere result x
