-- How a session goes on by a line, and how it ends.
use Rattle.std.proofs.Common.{◌≡◌, ◌⊎◌, ℕ, ◌+◌, ◌<◌, ◌≤◌, List, [], ◌∷◌, ◌++◌, length, true, false, cond, ◌==◌, Option, Result, Ok, Err, OnOk, ap, ◌∙◌, sym, refl, subst, inl, inr, arith, append_assoc, append-nil, length-append, Some}
use Rattle.std.specs.List.{AllByRecursion}
use Rattle.std.specs.Option.{option_map}
use Rattle.std.specs.Io.KnownBytes.{Appends, IsAtEnd}
use Rattle.std.proofs.KnownBytes.{Appends-nil, Appends-trans, Consumes-trans}
use Rattle.ink_player.proofs.Common.{Watching, Called, State, Bindings, StoryTree, Event, Buffered, Extent, RunFault}
use Rattle.ink_model.specs.Protocol.Answer.{Reply, Refuses, answer}
use Rattle.ink_model.specs.Text.Bytes.{has_newline, onto}
use Rattle.ink_model.specs.Protocol.Command as command
use Rattle.ink_model.specs.Protocol.Command.{Command, command_of, json_of, line_asks, lines_of}
use Rattle.ink_model.specs.Protocol.Session.{Does, Serves}
use Rattle.ink_model.specs.declared.fault.Refusal.TheVariants as refusal
use Rattle.ink_player.specs.Loading.{LoadsText}
use Rattle.ink_protocol.specs.Commands.{command_by}
use Rattle.ink_protocol.specs.declared.command.LineCommand.{LineCommand}
use Rattle.ink_protocol.specs.Ends.{Falls, WritesText}
use Rattle.ink_protocol.specs.Input.{Takes}
use Rattle.ink_protocol.specs.Lines.{TakesLine, GivesLine}
use Rattle.ink_player.specs.Extents.{GoesOn, running}
use Rattle.ink_look.specs.declared.passages.Extent.TheVariants as extent
use Rattle.ink_player.specs.Serving.{Answered, Answers, IsTold, RunEnds, Runs, ServesFront, ServesLine, ServesLineBy, ServesLines}
use Rattle.ink_player.specs.Standing.{CommandStopsAtRefusal, DeliveredByRun, DeliveredOf, Scene, changed}
use Rattle.ink_protocol.specs.Spelled.{IsLine, spelled, Splits, IsFirst, IsLongInput, HasRoom}
use Rattle.ink_model.specs.Protocol.Unread.{TextFails}
use Rattle.ink_model.specs.declared.limits.TheConstants.{MAX_LINE}
use Rattle.ink_protocol.specs.declared.fault.RunFault.TheVariants as fault
use Rattle.ink_protocol.proofs.Reading.{neither, has_room}

-- ---- lines of an input

pub lines_first : (line rest : List ℕ) → has_newline line ≡ false → lines_of (line ++ 10 ∷ rest) ≡ line ∷ lines_of rest
lines_first [] rest h = refl
lines_first (c ∷ cs) rest h =
    let both = neither (c == 10) (has_newline cs) h in
    ap (λ b. cond b ([] ∷ lines_of (cs ++ 10 ∷ rest)) (onto c (lines_of (cs ++ 10 ∷ rest)))) both.0 ∙ ap (onto c) (lines_first cs rest both.1)

pub lines_last : (line : List ℕ) → has_newline line ≡ false → 0 < length line → lines_of line ≡ line ∷ []
lines_last [] h k = let no : ⊥ = omega arith in absurd no
lines_last (c ∷ []) h k = ap (λ b. cond b ([] ∷ []) ((c ∷ []) ∷ [])) (neither (c == 10) false h).0
lines_last (c ∷ d ∷ ds) h k =
    let both = neither (c == 10) (has_newline (d ∷ ds)) h in
    ap (λ b. cond b ([] ∷ lines_of (d ∷ ds)) (onto c (lines_of (d ∷ ds)))) both.0 ∙ ap (onto c) (lines_last (d ∷ ds) both.1 (omega arith))

-- ---- one line before a session

splits_more : (line input : List ℕ) (served : List (List ℕ)) (rest : List ℕ) → IsLine line → Splits input served rest → Splits (line ++ 10 ∷ input) (line ∷ served) rest
splits_more line input served rest h p = record {
  whole = ap (λ l. line ++ 10 ∷ l) p.whole ∙ sym (append_assoc line (10 ∷ spelled served) rest);
  each = (h, p.each);
}

over_more : (most all : ℕ) (line : List ℕ) (served : List (List ℕ)) (rest : List ℕ) → most + (length line + 1) ≡ all → IsLongInput most served rest → IsLongInput all (line ∷ served) rest
over_more most all line served rest e p = record {
  front = p.front;
  more = p.more;
  whole = p.whole;
  plain = p.plain;
  count = omega (arith, p.count, length-append line (10 ∷ spelled served));
  long = p.long;
}

room_more : (most all : ℕ) (line input rest : List ℕ) → most + (length line + 1) ≡ all → HasRoom MAX_LINE most input rest → HasRoom MAX_LINE all (line ++ 10 ∷ input) rest
room_more most all line input rest e p = record {
  byte = p.byte;
  more = p.more;
  whole = p.whole;
  plain = p.plain;
  in_line = p.in_line;
  in_input = omega (arith, p.in_input, length-append line (10 ∷ input));
}

-- the last line, which ends at the reader's end
abbrev pub TakesLast : Option (List ℕ) → Option (List ℕ) → Buffered → Buffered → List ℕ → Type 0
TakesLast a b o n line = TakesLine a b o n (MAX_LINE + 1) line line × (length line ≤ MAX_LINE) × (n.unread ≡ []) × IsAtEnd b

all_taken : (line unread : List ℕ) → unread ≡ [] → line ++ unread ≡ line
all_taken line unread e = ap (λ l. line ++ l) e ∙ append-nil line

-- of a line and what stands behind it no more was read than tells that a line is over its limit
one_line_read : (a b : Option (List ℕ)) (o n : Buffered) (taken line : List ℕ) → length o.unread ≤ 4096 → TakesLine a b o n (MAX_LINE + 1) taken line → length (taken ++ n.unread) ≤ MAX_LINE + 1
one_line_read a b o n taken line few t = omega (arith, few, t.room, length-append taken n.unread)

module _ {P F O : Type 0} (turn_log : F → List Called) (refusals : F → ℕ) (state : O → Watching) where
  module _ (s : StoryTree) (host : Bindings) where
    abbrev Lines : List (List ℕ) → Scene P F O → List ℕ → Scene P F O → Type 0
    Lines lines old written new = ServesLines turn_log refusals state s host lines old written new

    abbrev Front : List ℕ → Scene P F O → List ℕ → Scene P F O → Type 0
    Front input old written new = ServesFront turn_log refusals state s host input old written new

    abbrev Ends : ℕ → Option (List ℕ) → List ℕ → Scene P F O → List ℕ → Scene P F O → Result (Unit {0}) RunFault → Type 0
    Ends most left input old written new r = RunEnds turn_log refusals state s host most left input old written new r

    abbrev Run : ℕ → List ℕ → Option (List ℕ) → Option (List ℕ) → Option (List ℕ) → Option (List ℕ) → Scene P F O → Scene P F O → Result (Unit {0}) RunFault → Type 0
    Run most unread a b h i old new r = Runs turn_log refusals state s host most unread a b h i old new r

    abbrev Line : List ℕ → Scene P F O → Reply → Scene P F O → Type 0
    Line line old reply new = ServesLineBy turn_log refusals state s host line old reply new

    abbrev Answer : List ℕ → Option (List ℕ) → Option (List ℕ) → Scene P F O → Scene P F O → Result (Unit {0}) RunFault → Type 0
    Answer line h i old new r = Answers turn_log refusals state s host line h i old new r

    -- no line, and one before others
    no_lines : (old : Scene P F O) → Lines [] old [] old
    no_lines old = ([], (refl, refl, refl), refl)

    one_more : (line : List ℕ) (lines : List (List ℕ)) (old mid new : Scene P F O) (reply : Reply) (written : List ℕ) → Line line old reply mid → Lines lines mid written new
        → Lines (line ∷ lines) old (answer reply ++ written) new
    one_more line lines old mid new reply written l p = (l.events ++ p.0, (reply, mid.state, written, l.events, p.0, refl, l.serves, refl, p.1), (mid.desk, l.dealt, p.2))

    module _ (line input : List ℕ) (old mid : Scene P F O) (reply : Reply) (is : IsLine line) (serves : Line line old reply mid) where
      abbrev front_more : (written : List ℕ) (new : Scene P F O) → Front input mid written new → Front (line ++ 10 ∷ input) old (answer reply ++ written) new
      front_more written new p = record {
        lines = line ∷ p.lines;
        rest = p.rest;
        splits = splits_more line input p.lines p.rest is p.splits;
        room = p.room;
        session = one_more line p.lines old mid new reply written serves p.session;
      }

      module _ (most all : ℕ) (left : Option (List ℕ)) (written : List ℕ) (new : Scene P F O) (e : most + (length line + 1) ≡ all) where
        ends_more : (r : Result (Unit {0}) RunFault) → Ends most left input mid written new r → Ends all left (line ++ 10 ∷ input) old (answer reply ++ written) new r
        ends_more (Ok x) p = record {
          at_end = p.at_end;
          within = omega (arith, p.within, length-append line (10 ∷ input));
          each = subst (AllByRecursion IsLine) (sym (lines_first line input is.plain)) (is, p.each);
          session = subst (λ ls. Lines ls old (answer reply ++ written) new) (sym (lines_first line input is.plain)) (one_more line (lines_of input) old mid new reply written serves p.session);
        }
        ends_more (Err fault.Read) p = record {
          served = front_more written new p.served;
          plain = p.plain;
          in_line = p.in_line;
          in_input = omega (arith, p.in_input, length-append line (10 ∷ input));
        }
        ends_more (Err fault.Write) p = record {
          mid = p.mid;
          answers = answer reply ++ p.answers;
          served = front_more p.answers p.mid p.served;
          reply = p.reply;
          first = p.first;
          part = p.part;
          unwritten = p.unwritten;
          whole = p.whole;
          cut = p.cut;
          ends = ap (λ l. answer reply ++ l) p.ends ∙ sym (append_assoc (answer reply) p.answers p.part);
        }
        ends_more (Err fault.TooLong) p = record {
          served = front_more written new p.served;
          over = elim p.over [ inl q ↦ inl q | inr q ↦ inr (over_more most all line p.served.lines p.served.rest e q) ];
        }
        ends_more (Err fault.OutOfMemory) p = record {
          mid = p.mid;
          served = front_more written p.mid p.served;
          next = elim p.next [ inl q ↦ inl (room_more most all line input p.served.rest e q.0, q.1) | inr q ↦ inr q ];
        }

  pub runs_more : (s t : StoryTree) (host same : Bindings) (a b c h i j : Option (List ℕ)) (o m : Buffered) (old mid new : Scene P F O) (r : Result (Unit {0}) RunFault)
      → ServesLine turn_log refusals state s host a b h i o m old mid → t ≡ s → same ≡ host → Run t same m.spare m.unread b c i j mid new r
      → Run s host o.spare o.unread a c h j old new r
  runs_more s t host same a b c h i j o m old mid new r l e k p =
      let q = subst (λ x. Run s x m.spare m.unread b c i j mid new r) k (subst (λ x. Run x same m.spare m.unread b c i j mid new r) e p) in
      let bytes : o.unread ++ (l.takes.got ++ q.bytes) ≡ l.line ++ 10 ∷ (m.unread ++ q.bytes) =
      sym (append_assoc o.unread l.takes.got q.bytes) ∙ ap (λ x. x ++ q.bytes) l.takes.bytes ∙ append_assoc (l.line ++ 10 ∷ []) m.unread q.bytes ∙ append_assoc l.line (10 ∷ []) (m.unread ++ q.bytes) in
      let count : m.spare + (length l.line + 1) ≡ o.spare = omega (arith, l.takes.count, length-append l.line (10 ∷ [])) in
      record {
        bytes = l.takes.got ++ q.bytes;
        consumed = Consumes-trans a b c l.takes.got q.bytes l.takes.consumed q.consumed;
        bound = omega (arith, q.bound, count, ap length bytes, length-append l.line (10 ∷ (m.unread ++ q.bytes)));
        written = answer l.answered.reply ++ q.written;
        appended = Appends-trans h i j (answer l.answered.reply) q.written l.answered.appended q.appended;
        ends = subst (λ x. Ends s host o.spare c x old (answer l.answered.reply ++ q.written) new r) (sym bytes)
            (ends_more s host l.line (m.unread ++ q.bytes) old mid l.answered.reply l.is_line l.answered.serves m.spare o.spare c q.written new count r q.ends);
      }

  -- ---- ends

  abbrev none_served : (s : StoryTree) (host : Bindings) (input : List ℕ) (old : Scene P F O) → length input ≤ MAX_LINE + 1 → Front s host input old [] old
  none_served s host input old room = record { lines = []; rest = input; splits = record { whole = refl; each = tt }; room = room; session = no_lines s host old }

  module _ (s : StoryTree) (host : Bindings) (a b h : Option (List ℕ)) (o n : Buffered) (bound : length n.unread ≤ n.spare + 1) (few : length o.unread ≤ 4096) (old : Scene P F O) where
    -- what was taken and what is left of what was read is the input
    runs_of : (i : Option (List ℕ)) (taken written : List ℕ) (new : Scene P F O) (r : Result (Unit {0}) RunFault)
        → Takes a b o n taken → Appends h i written → Ends s host o.spare b (taken ++ n.unread) old written new r → Run s host o.spare o.unread a b h i old new r
    runs_of i taken written new r t w p = record {
      bytes = t.got;
      consumed = t.consumed;
      bound = omega (arith, t.count, ap length t.bytes, length-append taken n.unread);
      written = written;
      appended = w;
      ends = subst (λ x. Ends s host o.spare b x old written new r) (sym t.bytes) p;
    }

    -- nothing was served
    ends_at : (part : List ℕ) (r : Result (Unit {0}) RunFault) → Takes a b o n part → Ends s host o.spare b (part ++ n.unread) old [] old r → Run s host o.spare o.unread a b h h old old r
    ends_at part r t p = runs_of h part [] old r t (Appends-nil h) p

    -- there is no line
    pub no_line : (f : RunFault) → GivesLine a b o n MAX_LINE (Err f) → Run s host o.spare o.unread a b h h old old (Err f)
    no_line fault.Read g =
        let t = g.0.takes in
        let all : g.0.part ++ n.unread ≡ g.0.part = all_taken g.0.part n.unread g.2 in
        ends_at g.0.part (Err fault.Read) t.takes (record {
          served = none_served s host _ old (one_line_read a b o n g.0.part g.0.part few t);
          plain = ap has_newline all ∙ t.plain;
          in_line = omega (arith, g.1, ap length all);
          in_input = omega (arith, t.takes.count, ap length all);
        })
    no_line fault.Write g = absurd g
    no_line fault.TooLong g =
        let t = g.0.takes in
        ends_at g.0.part (Err fault.TooLong) t.takes (record {
          served = none_served s host _ old (one_line_read a b o n g.0.part g.0.part few t);
          over = elim g.1 [
            | inl q ↦ inl (record { front = g.0.part; more = n.unread; whole = refl; plain = t.plain; long = q })
            | inr q ↦ inr (record { front = g.0.part; more = n.unread; whole = refl; plain = t.plain; count = omega (arith, t.takes.count, q.1); long = q.2 })
          ];
        })
    no_line fault.OutOfMemory g =
        let room = has_room a b o n MAX_LINE (omega (arith, few)) g in
        ends_at g.part (Err fault.OutOfMemory) g.takes.takes
        (record { mid = old; served = none_served s host _ old (omega (arith, room.in_line)); next = inl (room, refl) })

    pub no_last : (line : List ℕ) → TakesLast a b o n line → line ≡ [] → Run s host o.spare o.unread a b h h old old (Ok tt)
    no_last line t none =
        let lines : lines_of (line ++ n.unread) ≡ [] = ap lines_of (all_taken line n.unread t.2 ∙ none) in
        ends_at line (Ok tt) t.0.takes (record {
          at_end = t.3;
          within = omega (arith, t.0.takes.count, ap length (all_taken line n.unread t.2));
          each = subst (AllByRecursion IsLine) (sym lines) tt;
          session = subst (λ ls. Lines s host ls old [] old) (sym lines) (no_lines s host old);
        })

    module _ (i : Option (List ℕ)) (line : List ℕ) (new : Scene P F O) where
      -- a line was taken, and its answer not written
      unserved : (taken : List ℕ) (f : RunFault) → TakesLine a b o n (MAX_LINE + 1) taken line → length line ≤ MAX_LINE → IsFirst b (taken ++ n.unread) line → Answer s host line h i old new (Err f)
          → Run s host o.spare o.unread a b h i old new (Err f)
      unserved taken fault.Read t within first p = absurd p
      unserved taken fault.Write t within first p =
          runs_of i taken p.falls.part new (Err fault.Write) t.takes p.falls.appended (record {
            mid = old;
            answers = [];
            served = none_served s host _ old (one_line_read a b o n taken line few t);
            reply = p.reply;
            first = record { line = line; is_line = record { plain = t.plain; within = within }; first = first; serves = p.serves };
            part = p.falls.part;
            unwritten = p.falls.left;
            whole = p.falls.whole;
            cut = p.falls.some_left;
            ends = refl;
          })
      unserved taken fault.TooLong t within first p = absurd p
      unserved taken fault.OutOfMemory t within first p =
          runs_of i taken [] new (Err fault.OutOfMemory) t.takes p.appended (record {
            mid = old;
            served = none_served s host _ old (one_line_read a b o n taken line few t);
            next = inr (p.reply, p.asks, record { line = line; is_line = record { plain = t.plain; within = within }; first = first; serves = p.serves });
          })

      pub whole_unserved : (f : RunFault) → TakesLine a b o n (MAX_LINE + 1) (line ++ 10 ∷ []) line × length line ≤ MAX_LINE → Answer s host line h i old new (Err f)
          → Run s host o.spare o.unread a b h i old new (Err f)
      whole_unserved f t p = unserved (line ++ 10 ∷ []) f t.0 t.1 (inl (n.unread, append_assoc line (10 ∷ []) n.unread)) p

      pub last_unserved : (f : RunFault) → TakesLast a b o n line → 0 < length line → Answer s host line h i old new (Err f) → Run s host o.spare o.unread a b h i old new (Err f)
      last_unserved f t some p = unserved line f t.0 t.1 (inr (all_taken line n.unread t.2, some, t.3)) p

      pub last_served : TakesLast a b o n line → 0 < length line → Answered turn_log refusals state s host line h i old new → Run s host o.spare o.unread a b h i old new (Ok tt)
      last_served t some p =
          let lines : lines_of (line ++ n.unread) ≡ line ∷ [] = ap lines_of (all_taken line n.unread t.2) ∙ lines_last line t.0.plain some in
          let one : Lines s host (line ∷ []) old (answer p.reply) new =
          subst (λ w. Lines s host (line ∷ []) old w new) (append-nil (answer p.reply)) (one_more s host line [] old new new p.reply [] p.serves (no_lines s host new)) in
          runs_of i line (answer p.reply) new (Ok tt) t.0.takes p.appended (record {
            at_end = t.3;
            within = omega (arith, t.0.takes.count, ap length (all_taken line n.unread t.2));
            each = subst (AllByRecursion IsLine) (sym lines) (record { plain = t.0.plain; within = t.1 }, tt);
            session = subst (λ ls. Lines s host ls old (answer p.reply) new) (sym lines) one;
          })

  -- ---- one line's answer

  module _ (s : StoryTree) (host : Bindings) where
    pub answers_as : (text line : List ℕ) (h i : Option (List ℕ)) (old new : Scene P F O) (r : Result (Unit {0}) RunFault) → text ≡ line → Answer s host text h i old new r
        → Answer s host line h i old new r
    answers_as text line h i old new r e p = subst (λ l. Answer s host l h i old new r) e p

    -- the answer of the reply that a line came to is told
    pub answered_by : (line : List ℕ) (h i : Option (List ℕ)) (old new : Scene P F O) (r : Result (Unit {0}) RunFault) (reply : Reply)
        → Line s host line old reply new → IsTold reply h i r → Answer s host line h i old new r
    answered_by line h i old new (Ok x) reply p t = record { reply = reply; serves = p; appended = t }
    answered_by line h i old new (Err fault.Read) reply p t = absurd t
    answered_by line h i old new (Err fault.Write) reply p t = record { reply = reply; serves = p; falls = t }
    answered_by line h i old new (Err fault.TooLong) reply p t = absurd t
    answered_by line h i old new (Err fault.OutOfMemory) reply p t = record { reply = reply; asks = t.0; serves = p; appended = t.1 }

  -- with what is bound otherwise spelled
  pub runs_for : (s : StoryTree) (host same : Bindings) (most : ℕ) (unread : List ℕ) (a b h i : Option (List ℕ)) (old new : Scene P F O) (r : Result (Unit {0}) RunFault)
      → same ≡ host → Run s same most unread a b h i old new r → Run s host most unread a b h i old new r
  runs_for s host same most unread a b h i old new r e p = subst (λ x. Run s x most unread a b h i old new r) e p

  -- what a command came to, and what it did to the objects, by the line's command
  abbrev Came : StoryTree → Bindings → List Event → Option Command → Scene P F O → Reply → Scene P F O → Type 0
  Came s host es k old reply new = (Does s host es k old.state reply new.state ⊎ ((es ≡ []) × TextFails k old.state reply new.state)) × DeliveredOf turn_log refusals state k old es reply new

  pub came : (s : StoryTree) (host : Bindings) (es : List Event) (old : Scene P F O) (reply : Reply) (new : Scene P F O) (k j : Option LineCommand) → k ≡ j → Came s host es (option_map command_by j) old reply new
      → Came s host es (option_map command_by k) old reply new
  came s host es old reply new k j e p = subst (λ x. Came s host es (option_map command_by x) old reply new) (sym e) p

-- a text that was made, where it stands
pub made_as : {A E : Type 0} (r : Result A E) (items text answer : List ℕ) → text ≡ items → OnOk r (items ≡ answer) → OnOk r (text ≡ answer)
made_as (Ok v) items text answer same made = same ∙ made
made_as (Err e) items text answer same made = made

-- the text of a reply's answer is written, or a front of it
pub told_by : (h i : Option (List ℕ)) (r : Result (Unit {0}) RunFault) (reply : Reply) (text : List ℕ) → text ≡ answer reply → WritesText h i text r → IsTold reply h i r
told_by h i (Ok x) reply text e w = subst (Appends h i) e w
told_by h i (Err fault.Read) reply text e w = absurd w
told_by h i (Err fault.Write) reply text e w = subst (Falls h i) e w
told_by h i (Err fault.TooLong) reply text e w = absurd w
told_by h i (Err fault.OutOfMemory) reply text e w = absurd w

-- ---- one command

-- the JSON of a line is loaded, or memory was refused for it
pub text-came : (text : List ℕ) (s : StoryTree) (host : Bindings) (es : List Event) (old : State) (reply : Reply) (new : State) → LoadsText s host es text old reply new
    → Does s host es (Some (command.Load (json_of text))) old reply new ⊎ ((es ≡ []) × TextFails (Some (command.Load (json_of text))) old reply new)
text-came text s host es old reply new (inl loads) = inl loads
text-came text s host es old reply new (inr x) = inr (x.1, x.2)

serves_by : (s : StoryTree) (host : Bindings) (made : List Event) (line : List ℕ) (k : Option Command) (old : State) (reply : Reply) (new : State) → k ≡ command_of line → Does s host made k old reply new → Serves s host made line old reply new
unfolding Serves
serves_by s host made line k old reply new e p = inl (subst (λ x. Does s host made x old reply new) e p)

-- memory was refused for reading the path
path_unread : (s : StoryTree) (host : Bindings) (line : List ℕ) (k : Option Command) (old : State) (reply : Reply) (new : State) → k ≡ command_of line → TextFails k old reply new → Serves s host [] line old reply new
unfolding Serves
path_unread s host line k old reply new e p = inr (refl, inr (subst (λ x. TextFails x old reply new) e p))

pub serves_command : (s : StoryTree) (host : Bindings) (line : List ℕ) (k : Option Command) (old : State) (reply : Reply) (new : State) → k ≡ command_of line
    → (es : List Event) → Does s host es k old reply new ⊎ ((es ≡ []) × TextFails k old reply new) → Serves s host es line old reply new
serves_command s host line k old reply new e es (inl p) = serves_by s host es line k old reply new e p
serves_command s host line k old reply new e es (inr p) =
    subst (λ x. Serves s host x line old reply new) (sym p.0) (path_unread s host line k old reply new e p.1)

-- memory was refused for reading the line
pub serves_unread : (s : StoryTree) (host : Bindings) (line : List ℕ) (st : State) → line_asks line ≡ true → Serves s host [] line st (Refuses refusal.OutOfMemory) st
unfolding Serves
serves_unread s host line st h = inr (refl, inl (h, (refl, refl)))

-- a command that runs, so far as it goes
module _ {P F O : Type 0} (turn_log : F → List Called) (refusals : F → ℕ) (state : O → Watching) where
  pub runs_by : (s : StoryTree) (host : Bindings) (x : Extent) (line : List ℕ) (es : List Event) (old : Scene P F O) (reply : Reply) (new : Scene P F O) → Some (running x) ≡ command_of line
      → GoesOn x s host es old.state reply new.state → DeliveredByRun turn_log state (changed old new) old.desk es reply new.desk → CommandStopsAtRefusal refusals old.desk new.desk reply
      → ServesLineBy turn_log refusals state s host line old reply new
  runs_by s host extent.Line line es old reply new is goes dealt stops = record {
    events = es;
    serves = serves_by s host es line (Some command.Continue) old.state reply new.state is goes;
    dealt = subst (λ k. DeliveredOf turn_log refusals state k old es reply new) is (dealt, stops);
  }
  runs_by s host extent.Stop line es old reply new is goes dealt stops = record {
    events = es;
    serves = serves_by s host es line (Some command.Through) old.state reply new.state is goes;
    dealt = subst (λ k. DeliveredOf turn_log refusals state k old es reply new) is (dealt, stops);
  }

pub none_left : (l : List ℕ) → length l ≡ 0 → l ≡ []
none_left [] e = refl
none_left (x ∷ xs) e = let no : ⊥ = omega (arith, e) in absurd no
