-- What a session over bytes does, and how it may end (docs/PROTOCOL.md, "Sessions").
use Rattle.std.specs.Prelude.{◌≡◌, ◌<◌, ◌≤◌, ◌+◌, ℕ, List, [], ◌∷◌, ◌++◌, length, true, false, ◌⊎◌, Option, Result, Ok, Err}
use Rattle.std.specs.List.{AllByRecursion}
use Rattle.std.specs.Io.KnownBytes.{Appends, Consumes, IsAtEnd}
use Rattle.ink_host.specs.Desk.{DeskView}
use Rattle.ink_host.specs.Telling.{Watching}
use Rattle.ink_host.specs.declared.objects.Called.{Called}
use Rattle.ink_model.specs.Protocol.Answer.{Reply, answer, answer_asks}
use Rattle.ink_model.specs.Text.Bytes.{has_newline}
use Rattle.ink_model.specs.Protocol.Command.{command_of, lines_of}
use Rattle.ink_model.specs.Protocol.Session.{Serves, Session}
use Rattle.ink_model.specs.Protocol.State.{State}
use Rattle.ink_model.specs.Host.Bindings.{Bindings}
use Rattle.ink_model.specs.Story.Tree.{StoryTree}
use Rattle.ink_model.specs.declared.host.Event.{Event}
use Rattle.ink_model.specs.declared.limits.TheConstants.{MAX_LINE}
use Rattle.ink_protocol.specs.Buffered.{Buffered}
use Rattle.ink_protocol.specs.Ends.{Falls}
use Rattle.ink_protocol.specs.Input.{Takes}
use Rattle.ink_protocol.specs.Spelled.{IsLine, Splits, IsFirst, IsLongLine, IsLongInput, HasRoom}
use Rattle.ink_protocol.specs.declared.fault.RunFault.{RunFault}
use Rattle.ink_protocol.specs.declared.fault.RunFault.TheVariants as fault
use Rattle.ink_player.specs.Standing.{DeliveredOf, Scene}
use Rattle.ink_player.specs.declared.session.Served.{Served}
use Rattle.ink_player.specs.declared.session.Served.TheVariants.{More, Done}

-- The answer that tells a reply is written; or its text finds no memory, or it is not all written.
abbrev pub IsTold : Reply → Option (List ℕ) → Option (List ℕ) → Result (Unit {0}) RunFault → Type 0
IsTold reply held held' (Ok x) = Appends held held' (answer reply)
IsTold reply held held' (Err fault.Read) = ⊥
IsTold reply held held' (Err fault.Write) = Falls held held' (answer reply)
IsTold reply held held' (Err fault.TooLong) = ⊥
IsTold reply held held' (Err fault.OutOfMemory) = (answer_asks reply ≡ true) × Appends held held' []

module _ {P F O : Type 0} (turn_log : F → List Called) (refusals : F → ℕ) (state : O → Watching) (s : StoryTree) (h : Bindings) where
  -- ---- lines that are served, with what is bound, by a player and the objects of its host

  -- one line, with this reply
  pub record ServesLineBy (line : List ℕ) (old : Scene P F O) (reply : Reply) (new : Scene P F O) : Type 0 where
    pub events : List Event
    pub serves : Serves s h events line old.state reply new.state
    pub dealt : DeliveredOf turn_log refusals state (command_of line) old events reply new

  -- What the lines of a session did to the objects, one after another: each by its own events and reply in that session.
  abbrev pub AreDelivered : (es : List Event) (lines : List (List ℕ)) (old : State) (written : List ℕ) (new : State) → Session s h es lines old written new → DeskView P F O → DeskView P F O → Type 0
  AreDelivered es [] old written new session before after = after ≡ before
  AreDelivered es (line ∷ lines) old written new (reply, mid, rest, first, others, joined, serves, writes, session) before after =
      (between : DeskView P F O) × DeliveredOf turn_log refusals state (command_of line) (record { state = old; desk = before }) first reply (record { state = mid; desk = between })
      × AreDelivered others lines mid rest new session between after

  -- These lines are a session, of which the objects were dealt with so.
  abbrev pub ServesLines : List (List ℕ) → Scene P F O → List ℕ → Scene P F O → Type 0
  ServesLines lines old written new = (es : List Event) × (session : Session s h es lines old.state written new.state) × AreDelivered es lines old.state written new.state session old.desk new.desk

  -- ---- how a session ends: from the scene old, with what is left of the reader, over the input, with what was written

  -- at the reader's end: every line was served
  pub record ServesAll (most : ℕ) (left : Option (List ℕ)) (input : List ℕ) (old : Scene P F O) (written : List ℕ) (new : Scene P F O) : Type 0 where
    pub at_end : IsAtEnd left
    pub within : length input ≤ most
    pub each : AllByRecursion IsLine (lines_of input)
    pub session : ServesLines (lines_of input) old written new

  -- Whole lines with which the input begins were served, and rest stands behind them: no more of it was read than tells that
  -- a line is over its limit.
  pub record ServesFront (input : List ℕ) (old : Scene P F O) (written : List ℕ) (new : Scene P F O) : Type 0 where
    pub lines : List (List ℕ)
    pub rest : List ℕ
    pub splits : Splits input lines rest
    pub room : length rest ≤ MAX_LINE + 1
    pub session : ServesLines lines old written new

  -- The reader failed: every line was served that came whole, and what was read shows neither the next line nor the input over
  -- its limit.
  pub record LosesReader (most : ℕ) (input : List ℕ) (old : Scene P F O) (written : List ℕ) (new : Scene P F O) : Type 0 where
    pub served : ServesFront input old written new
    pub plain : has_newline served.rest ≡ false
    pub in_line : length served.rest ≤ MAX_LINE
    pub in_input : length input ≤ most

  -- the next line, or the input, is over its limit: the lines before were served
  pub record GoesOver (most : ℕ) (input : List ℕ) (old : Scene P F O) (written : List ℕ) (new : Scene P F O) : Type 0 where
    pub served : ServesFront input old written new
    pub over : IsLongLine served.rest ⊎ IsLongInput most served.lines served.rest

  -- the first line of rest is served
  pub record ServesFirst (left : Option (List ℕ)) (rest : List ℕ) (old : Scene P F O) (reply : Reply) (new : Scene P F O) : Type 0 where
    pub line : List ℕ
    pub is_line : IsLine line
    pub first : IsFirst left rest line
    pub serves : ServesLineBy line old reply new

  -- Memory was refused: for a line, and the lines before it were served; or for an answer's text that is made in memory, and its
  -- command has taken effect too.
  pub record RunsOutOfMemory (most : ℕ) (left : Option (List ℕ)) (input : List ℕ) (old : Scene P F O) (written : List ℕ) (new : Scene P F O) : Type 0 where
    pub mid : Scene P F O
    pub served : ServesFront input old written mid
    pub next : (HasRoom MAX_LINE most input served.rest × (new ≡ mid)) ⊎ ((reply : Reply) × (answer_asks reply ≡ true) × ServesFirst left served.rest mid reply new)

  -- The writer failed or took no byte: the lines before were served, the next command has taken effect, and of its answer a
  -- front is written with something left behind it.
  pub record LosesWriter (left : Option (List ℕ)) (input : List ℕ) (old : Scene P F O) (written : List ℕ) (new : Scene P F O) : Type 0 where
    pub mid : Scene P F O
    pub answers : List ℕ
    pub served : ServesFront input old answers mid
    pub reply : Reply
    pub first : ServesFirst left served.rest mid reply new
    pub part : List ℕ
    pub unwritten : List ℕ
    pub whole : answer reply ≡ part ++ unwritten
    pub cut : 0 < length unwritten
    pub ends : written ≡ answers ++ part

  abbrev pub RunEnds : ℕ → Option (List ℕ) → List ℕ → Scene P F O → List ℕ → Scene P F O → Result (Unit {0}) RunFault → Type 0
  RunEnds most left input old written new (Ok x) = ServesAll most left input old written new
  RunEnds most left input old written new (Err fault.Read) = LosesReader most input old written new
  RunEnds most left input old written new (Err fault.Write) = LosesWriter left input old written new
  RunEnds most left input old written new (Err fault.TooLong) = GoesOver most input old written new
  RunEnds most left input old written new (Err fault.OutOfMemory) = RunsOutOfMemory most left input old written new

  -- A session of at most so many bytes, where `unread` stands before what the reader gives: which bytes were read, not more
  -- than one beyond those, what was written, and how it ended.
  pub record Runs (most : ℕ) (unread : List ℕ) (left left' held held' : Option (List ℕ)) (old new : Scene P F O) (result : Result (Unit {0}) RunFault) : Type 0 where
    pub bytes : List ℕ
    pub consumed : Consumes left left' bytes
    pub bound : length (unread ++ bytes) ≤ most + 1
    pub written : List ℕ
    pub appended : Appends held held' written
    pub ends : RunEnds most left' (unread ++ bytes) old written new result

  -- ---- parts of a session

  -- a line is answered, or its answer's text finds no memory, or the answer is not all written
  pub record Answered (line : List ℕ) (held held' : Option (List ℕ)) (old new : Scene P F O) : Type 0 where
    pub reply : Reply
    pub serves : ServesLineBy line old reply new
    pub appended : Appends held held' (answer reply)

  pub record Unanswered (line : List ℕ) (held held' : Option (List ℕ)) (old new : Scene P F O) : Type 0 where
    pub reply : Reply
    pub asks : answer_asks reply ≡ true
    pub serves : ServesLineBy line old reply new
    pub appended : Appends held held' []

  pub record HalfAnswered (line : List ℕ) (held held' : Option (List ℕ)) (old new : Scene P F O) : Type 0 where
    pub reply : Reply
    pub serves : ServesLineBy line old reply new
    pub falls : Falls held held' (answer reply)

  abbrev pub Answers : List ℕ → Option (List ℕ) → Option (List ℕ) → Scene P F O → Scene P F O → Result (Unit {0}) RunFault → Type 0
  Answers line held held' old new (Ok x) = Answered line held held' old new
  Answers line held held' old new (Err fault.Read) = ⊥
  Answers line held held' old new (Err fault.Write) = HalfAnswered line held held' old new
  Answers line held held' old new (Err fault.TooLong) = ⊥
  Answers line held held' old new (Err fault.OutOfMemory) = Unanswered line held held' old new

  -- a whole line was taken and answered
  pub record ServesLine (left left' held held' : Option (List ℕ)) (o n : Buffered) (old new : Scene P F O) : Type 0 where
    pub line : List ℕ
    pub is_line : IsLine line
    pub takes : Takes left left' o n (line ++ 10 ∷ [])
    pub answered : Answered line held held' old new

  -- one line, or the end of the session
  abbrev pub ServesNext : Option (List ℕ) → Option (List ℕ) → Option (List ℕ) → Option (List ℕ) → Buffered → Buffered → Scene P F O → Scene P F O → Result Served RunFault → Type 0
  ServesNext left left' held held' o n old new (Ok More) = ServesLine left left' held held' o n old new
  ServesNext left left' held held' o n old new (Ok Done) = Runs o.spare o.unread left left' held held' old new (Ok tt)
  ServesNext left left' held held' o n old new (Err f) = Runs o.spare o.unread left left' held held' old new (Err f)
