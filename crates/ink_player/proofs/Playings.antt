-- How a play goes on from its story's line.
use Rattle.std.proofs.Common.{◌≡◌, ℕ, ◌+◌, ◌-◌, ◌<◌, ◌≤◌, List, [], ◌∷◌, ◌++◌, length, true, false, Option, Result, Ok, Err, ap, ◌∙◌, sym, refl, subst, inl, inr, arith, append_assoc, append-nil, length-append}
use Rattle.std.specs.Io.KnownBytes.{Consumes, IsAtEnd}
use Rattle.std.proofs.KnownBytes.{Appends-nil, Consumes-trans}
use Rattle.ink_model.specs.Text.Bytes.{has_newline}
use Rattle.ink_model.specs.declared.limits.TheConstants.{MAX_STORY, MAX_INPUT}
use Rattle.ink_model.specs.Run.Opening.{opened}
use Rattle.ink_player.proofs.Common.{Bindings, DeskView, Watching, Called, Buffered, PlayFault, RunFault, after_call}
use Rattle.ink_player.proofs.Endings.{fails_once}
use Rattle.ink_protocol.specs.Input.{Takes}
use Rattle.ink_protocol.specs.Lines.{TakesLine, GivesLine}
use Rattle.ink_player.specs.Ends.{IsLastLine, PlayEndsOnce}
use Rattle.ink_player.specs.Playing.{IsStoryLine, PlaysOn, EndsEarly, PlayFails, PlayEnds, Plays, PlaysToEnd, play_fault, played, OpenFails, Opens, OpensDesk}
use Rattle.ink_player.specs.Serving.{RunEnds, Runs}
use Rattle.ink_protocol.specs.Spelled.{HasRoom}
use Rattle.ink_player.specs.Standing.{PlayerView, Scene, anew, scene_of, story_of}
use Rattle.ink_player.specs.declared.end.PlayEnd.{PlayEnd}
use Rattle.ink_player.specs.declared.end.PlayFault.TheVariants as play
use Rattle.ink_protocol.specs.declared.fault.RunFault.TheVariants as fault
use Rattle.ink_protocol.proofs.Reading.{has_room}
use Rattle.ink_player.proofs.Sessions.{none_left}

abbrev fresh : Buffered
fresh = record { unread = []; spare = MAX_INPUT }

got_is : (a b : Option (List ℕ)) (o n : Buffered) (taken : List ℕ) → o ≡ fresh → (t : Takes a b o n taken) → t.got ≡ taken ++ n.unread
got_is a b o n taken e t = sym (ap (λ z. z.unread ++ t.got) e) ∙ t.bytes

count_is : (a b : Option (List ℕ)) (o n : Buffered) (taken : List ℕ) → o ≡ fresh → Takes a b o n taken → n.spare + length taken ≡ MAX_INPUT
count_is a b o n taken e t = t.count ∙ ap (λ z. z.spare) e

-- no more was read than tells that the story is over its limit
story_bound : (a b : Option (List ℕ)) (o n : Buffered) (taken line : List ℕ) → o ≡ fresh → TakesLine a b o n (MAX_STORY + 1) taken line → length (taken ++ n.unread) ≤ MAX_STORY + 1
story_bound a b o n taken line e t = omega (arith, t.room, ap (λ z. length z.unread) e, length-append taken n.unread)

-- what a session may still read after the story and its newline
left_after : (a b : Option (List ℕ)) (o n : Buffered) (line : List ℕ) → o ≡ fresh → Takes a b o n (line ++ 10 ∷ []) → n.spare + (length line + 1) ≡ MAX_INPUT
left_after a b o n line e t = omega (arith, count_is a b o n (line ++ 10 ∷ []) e t, length-append line (10 ∷ []))

less_by : (m n : ℕ) → m + n ≡ MAX_INPUT → m ≡ MAX_INPUT - n
less_by m n h = omega (arith, h)

all_within : (spare : ℕ) (got line rest : List ℕ) → got ≡ line ++ 10 ∷ rest → length rest ≤ spare + 1 → spare + (length line + 1) ≡ MAX_INPUT → length got ≤ MAX_INPUT + 1
all_within spare got line rest same bound count = omega (arith, bound, count, ap length same, length-append line (10 ∷ rest))

none_within : (n : ℕ) → 0 ≤ n
none_within n = omega arith

early : (bytes : List ℕ) → length bytes ≤ MAX_STORY + 1 → EndsEarly bytes []
early bytes bound = record { nothing = refl; bound = bound }

pub opens_as : {P F O : Type 0} (text line : List ℕ) (r : Result (PlayerView P F O) (PlayEnd P F O)) → text ≡ line → Opens text r → Opens line r
opens_as text line r e p = subst (λ l. Opens l r) e p

-- a story that ended at its newline, or at the reader's end
abbrev pub TakesStory : Option (List ℕ) → Option (List ℕ) → Buffered → Buffered → List ℕ → Type 0
TakesStory a b o n line = TakesLine a b o n (MAX_STORY + 1) (line ++ 10 ∷ []) line × (length line ≤ MAX_STORY)

abbrev pub TakesAll : Option (List ℕ) → Option (List ℕ) → Buffered → Buffered → List ℕ → Type 0
TakesAll a b o n line = TakesLine a b o n (MAX_STORY + 1) line line × (length line ≤ MAX_STORY) × (n.unread ≡ []) × IsAtEnd b

-- all that came is the story
all_got : (a b : Option (List ℕ)) (o n : Buffered) (line : List ℕ) → o ≡ fresh → (t : TakesAll a b o n line) → t.0.takes.got ≡ line
all_got a b o n line e t = got_is a b o n line e t.0.takes ∙ ap (λ l. line ++ l) t.2 ∙ append-nil line

all_is : (a b : Option (List ℕ)) (o n : Buffered) (line : List ℕ) → TakesAll a b o n line → IsStoryLine b (line ++ n.unread) line []
all_is a b o n line t = record {
  plain = t.0.plain;
  within = t.1;
  whole = inr (ap (λ l. line ++ l) t.2 ∙ append-nil line, refl, t.3);
}

is_last_line : (a b : Option (List ℕ)) (o n : Buffered) (line : List ℕ) (f : PlayFault) → o ≡ fresh → TakesAll a b o n line → OpenFails line f → IsLastLine a b f
is_last_line a b o n line f e t p =
    (line, subst (λ l. Consumes a b l) (all_got a b o n line e t) t.0.takes.consumed, t.3, t.0.plain, t.1, p)

-- the source of a play without a session was at its end once
pub ends_last : {P F O : Type 0} (a b : Option (List ℕ)) (o n : Buffered) (line : List ℕ) (r : Result (PlayerView P F O) (PlayEnd P F O)) (was is : ℕ) → o ≡ fresh → TakesAll a b o n line → Opens line r
    → is ≡ after_call true was → PlayEndsOnce a b (played r) was is
ends_last a b o n line (Ok p) was is e t opens once = once
ends_last a b o n line (Err x) was is e t opens once = fails_once a b x.fault was is (is_last_line a b o n line x.fault e t opens) once

module _ {P F O : Type 0} (turn_log : F → List Called) (refusals : F → ℕ) (state : O → Watching) (host : Bindings) (old : DeskView P F O) where
  abbrev Played : Option (List ℕ) → Option (List ℕ) → Option (List ℕ) → Option (List ℕ) → Result (DeskView P F O) (PlayEnd P F O) → Type 0
  Played a b h i r = Plays turn_log refusals state host old a b h i r

  abbrev PlayedOn : Option (List ℕ) → Option (List ℕ) → Option (List ℕ) → Option (List ℕ) → Result (PlayerView P F O) (PlayEnd P F O) → Type 0
  PlayedOn a b h i r = PlaysToEnd turn_log refusals state host old a b h i r

  abbrev Opened : Option (List ℕ) → List ℕ → List ℕ → Result (Unit {0}) RunFault → DeskView P F O → Type 0
  Opened left bytes written r new = PlaysOn turn_log refusals state host old left bytes written r new

  -- ---- ends before a session

  fails_early : (left : Option (List ℕ)) (bytes line input : List ℕ) (f : PlayFault) (new : DeskView P F O) → IsStoryLine left bytes line input → length bytes ≤ MAX_STORY + 1
      → OpenFails line f → new ≡ old → PlayFails turn_log refusals state host old left bytes [] f new
  fails_early left bytes line input (play.Story r) new l bound p same = (early bytes bound, same, inl (line, input, l, p))
  fails_early left bytes line input (play.Start f) new l bound p same =
      (early bytes bound, same, record { tree = p.0; story = record { line = line; input = input; story_line = l; reads = p.1 }; globals = p.2.0; why = p.2.1 })
  fails_early left bytes line input (play.Run f) new l bound p same = absurd p

  plays_early : (a b h : Option (List ℕ)) (o n : Buffered) (taken : List ℕ) (r : Result (DeskView P F O) (PlayEnd P F O)) → o ≡ fresh → Takes a b o n taken → length (taken ++ n.unread) ≤ MAX_STORY + 1
      → PlayEnds turn_log refusals state host old b (taken ++ n.unread) [] r → Played a b h h r
  plays_early a b h o n taken r e t bound p = record {
    bytes = t.got;
    consumed = t.consumed;
    bound = omega (arith, bound, ap length (got_is a b o n taken e t));
    written = [];
    appended = Appends-nil h;
    ends = subst (λ l. PlayEnds turn_log refusals state host old b l [] r) (sym (got_is a b o n taken e t)) p;
  }

  no_story_for : (a b h : Option (List ℕ)) (o n : Buffered) (f : RunFault) → o ≡ fresh → GivesLine a b o n MAX_STORY (Err f)
      → Played a b h h (Err (record { fault = play_fault f; desk = old }))
  no_story_for a b h o n fault.Read e g =
      let t = g.0.takes in
      let bound = story_bound a b o n g.0.part g.0.part e t in
      let all : g.0.part ++ n.unread ≡ g.0.part = ap (λ l. g.0.part ++ l) g.2 ∙ append-nil g.0.part in
      plays_early a b h o n g.0.part _ e t.takes bound (inl (early _ bound, refl, refl, ap has_newline all ∙ t.plain, omega (arith, g.1, ap length all)))
  no_story_for a b h o n fault.Write e g = absurd g
  no_story_for a b h o n fault.TooLong e g =
      let t = g.0.takes in
      let bound = story_bound a b o n g.0.part g.0.part e t in
      let long = elim g.1 as (λ _. (has_newline (g.0.part ++ n.unread) ≡ false) × (MAX_STORY < length (g.0.part ++ n.unread))) [
        | inl more ↦
            let all : n.unread ≡ [] = none_left n.unread (omega (arith, more, bound, length-append g.0.part n.unread)) in
            (ap (λ l. has_newline (g.0.part ++ l)) all ∙ ap has_newline (append-nil g.0.part) ∙ t.plain, omega (arith, more, length-append g.0.part n.unread))
        | inr q ↦
            let no : ⊥ = omega (arith, q.0, q.1, count_is a b o n g.0.part e t.takes) in absurd no
      ] in
      plays_early a b h o n g.0.part _ e t.takes bound (early _ bound, refl, inr (inr (refl, long.0, long.1)))
  no_story_for a b h o n fault.OutOfMemory e g =
      let none : length o.unread ≡ 0 = ap (λ z. length z.unread) e in
      let bound : length (g.part ++ n.unread) ≤ MAX_STORY + 1 = omega (arith, g.takes.room, none, length-append g.part n.unread) in
      let w = subst (λ m. HasRoom MAX_STORY m (g.part ++ n.unread) (g.part ++ n.unread)) (ap (λ z. z.spare) e) (has_room a b o n MAX_STORY (omega (arith, none)) g) in
      plays_early a b h o n g.part _ e g.takes.takes bound (early _ bound, refl, inr (inl (refl, w)))

  pub no_story : (a b h : Option (List ℕ)) (o n : Buffered) (f : RunFault) (pf : PlayFault) → o ≡ fresh → GivesLine a b o n MAX_STORY (Err f) → pf ≡ play_fault f
      → PlayedOn a b h h (Err (record { fault = pf; desk = old }))
  no_story a b h o n f pf e g k =
      (subst (λ x. Played a b h h (Err (record { fault = x; desk = old }))) (sym k) (no_story_for a b h o n f e g), tt)

  pub unopened : (a b h : Option (List ℕ)) (o n : Buffered) (line : List ℕ) (x : PlayEnd P F O) → o ≡ fresh → TakesStory a b o n line → Opens line (Err x) → x.desk ≡ old
      → PlayedOn a b h h (Err x)
  unopened a b h o n line x e t p same =
      let bound = story_bound a b o n (line ++ 10 ∷ []) line e t.0 in (
        plays_early a b h o n (line ++ 10 ∷ []) (Err x) e t.0.takes bound
            (fails_early b _ line n.unread x.fault x.desk (record { plain = t.0.plain; within = t.1; whole = inl (append_assoc line (10 ∷ []) n.unread) }) bound p same),
        tt,
      )

  unopened_last : (a b h : Option (List ℕ)) (o n : Buffered) (line : List ℕ) (x : PlayEnd P F O) → o ≡ fresh → TakesAll a b o n line → Opens line (Err x) → x.desk ≡ old
      → PlayedOn a b h h (Err x)
  unopened_last a b h o n line x e t p same =
      let bound = story_bound a b o n line line e t.0 in
      (plays_early a b h o n line (Err x) e t.0.takes bound (fails_early b _ line [] x.fault x.desk (all_is a b o n line t) bound p same), tt)

  -- ---- a session after the story

  -- the player that was opened is as its story begins, and has the desk
  opened_scene : (p : PlayerView P F O) (line : List ℕ) (opens : Opens line (Ok p)) → p.desk ≡ anew old → scene_of p ≡ record { state = opened opens.1.0; desk = anew old }
  opened_scene p line opens desk =
      ap (λ s. let x : Scene P F O = record { state = s; desk = p.desk } in x) opens.1.2 ∙ ap (λ d. let x : Scene P F O = record { state = opened opens.1.0; desk = d } in x) desk

  -- there is nothing after it
  opened_last : (a b h : Option (List ℕ)) (o n : Buffered) (line : List ℕ) (p : PlayerView P F O) → o ≡ fresh → TakesAll a b o n line → Opens line (Ok p) → p.desk ≡ anew old
      → PlayedOn a b h h (Ok p)
  opened_last a b h o n line p e t opens begun = (
    record {
      bytes = t.0.takes.got;
      consumed = t.0.takes.consumed;
      bound = omega (arith, story_bound a b o n line line e t.0, ap length (got_is a b o n line e t.0.takes));
      written = [];
      appended = Appends-nil h;
      ends = record {
        tree = story_of p;
        story = record {
          line = line;
          input = [];
          story_line = record { plain = t.0.plain; within = t.1; whole = inr (all_got a b o n line e t, refl, t.3) };
          reads = opens.0;
        };
        first = opens.1.0;
        opens = opens.1.1;
        last = record { state = opened opens.1.0; desk = anew old };
        ends = record { at_end = t.3; within = none_within _; each = tt; session = ([], (refl, refl, refl), refl) };
        desk = begun;
        taken = ap (λ d. d.events) begun;
      };
    },
    (refl, opened_scene p line opens begun),
  )

  pub plays_last : (a b h : Option (List ℕ)) (o n : Buffered) (line : List ℕ) (r : Result (PlayerView P F O) (PlayEnd P F O)) → o ≡ fresh → TakesAll a b o n line → Opens line r → OpensDesk old r
      → PlayedOn a b h h r
  plays_last a b h o n line (Ok p) e t opens begun = opened_last a b h o n line p e t opens begun
  plays_last a b h o n line (Err x) e t opens same = unopened_last a b h o n line x e t opens same

  plays_from : (a b c h j : Option (List ℕ)) (o n : Buffered) (line : List ℕ) (p : PlayerView P F O) (last : Scene P F O) (d : DeskView P F O) (r : Result (Unit {0}) RunFault) (x : Result (DeskView P F O) (PlayEnd P F O))
      → o ≡ fresh → TakesStory a b o n line → Opens line (Ok p) → p.desk ≡ anew old → Runs turn_log refusals state (story_of p) host n.spare n.unread b c h j (scene_of p) last r
      → d.events ≡ [] → d ≡ last.desk → ((bytes written : List ℕ) → Opened c bytes written r d → PlayEnds turn_log refusals state host old c bytes written x)
      → Played a c h j x
  plays_from a b c h j o n line p last d r x e t opens begun q taken same into =
      let got = t.0.takes.got in
      let bytes : got ++ q.bytes ≡ line ++ 10 ∷ (n.unread ++ q.bytes) =
      ap (λ l. l ++ q.bytes) (got_is a b o n (line ++ 10 ∷ []) e t.0.takes) ∙ append_assoc (line ++ 10 ∷ []) n.unread q.bytes ∙ append_assoc line (10 ∷ []) (n.unread ++ q.bytes) in
      let count : n.spare + (length line + 1) ≡ MAX_INPUT = left_after a b o n line e t.0.takes in
      let most : n.spare ≡ MAX_INPUT - (length line + 1) = less_by n.spare (length line + 1) count in
      record {
        bytes = got ++ q.bytes;
        consumed = Consumes-trans a b c got q.bytes t.0.takes.consumed q.consumed;
        bound = all_within n.spare (got ++ q.bytes) line (n.unread ++ q.bytes) bytes q.bound count;
        written = q.written;
        appended = q.appended;
        ends = into (got ++ q.bytes) q.written (record {
          tree = story_of p;
          story = record {
            line = line;
            input = n.unread ++ q.bytes;
            story_line = record { plain = t.0.plain; within = t.1; whole = inl bytes };
            reads = opens.0;
          };
          first = opens.1.0;
          opens = opens.1.1;
          last = last;
          ends = subst (λ m. RunEnds turn_log refusals state (story_of p) host m c (n.unread ++ q.bytes) (record { state = opened opens.1.0; desk = anew old }) q.written last r) most
              (subst (λ s. RunEnds turn_log refusals state (story_of p) host n.spare c (n.unread ++ q.bytes) s q.written last r) (opened_scene p line opens begun) q.ends);
          desk = same;
          taken = taken;
        });
      }

  pub plays_on : (a b c h j : Option (List ℕ)) (o n : Buffered) (line : List ℕ) (p new : PlayerView P F O)
      → o ≡ fresh → TakesStory a b o n line → Opens line (Ok p) → p.desk ≡ anew old → Runs turn_log refusals state (story_of p) host n.spare n.unread b c h j (scene_of p) (scene_of new) (Ok tt)
      → new.desk.events ≡ [] → story_of new ≡ story_of p → PlayedOn a c h j (Ok new)
  unfolding plays_from
  plays_on a b c h j o n line p new e t opens begun q taken same =
      (plays_from a b c h j o n line p (scene_of new) new.desk (Ok tt) (Ok new.desk) e t opens begun q taken refl (λ bytes written y. y), (same, refl))

  pub plays_short : (a b c h j : Option (List ℕ)) (o n : Buffered) (line : List ℕ) (p : PlayerView P F O) (last : Scene P F O) (f : RunFault) (d : DeskView P F O)
      → o ≡ fresh → TakesStory a b o n line → Opens line (Ok p) → p.desk ≡ anew old → Runs turn_log refusals state (story_of p) host n.spare n.unread b c h j (scene_of p) last (Err f)
      → d.events ≡ [] → d ≡ last.desk → PlayedOn a c h j (Err (record { fault = play.Run f; desk = d }))
  plays_short a b c h j o n line p last f d e t opens begun q taken same =
      (plays_from a b c h j o n line p last d (Err f) (Err (record { fault = play.Run f; desk = d })) e t opens begun q taken same (λ bytes written y. inr y), tt)
