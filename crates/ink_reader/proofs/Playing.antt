-- What a reading does, one deed after another, and what is shown of it.
use Rattle.std.proofs.Common.{◌≡◌, ◌∙◌, ℕ, List, [], ◌∷◌, ◌++◌, Bool, true, false, Option, Some, Result, Ok, Err, OnErr, OnOk, is_ok, refl, sym, ap, subst, append_assoc, append-nil, true≢false, codes}
use Rattle.std.proofs.KnownBytes.{Appends-nil, Appends-trans}
use Rattle.ink_reader.proofs.Common.{Appends, Watching, Called, Reply, reply_of_halt, Bindings, StoryTree, Halt, Shown, said, Look, saving_told, unsaved_told, break_told, stop_told, NotKept, Told}
use Rattle.ink_host.specs.Desk.{DeskView}
use Rattle.ink_model.specs.Protocol.Command as command
use Rattle.ink_model.specs.Protocol.Command.{Command}
use Rattle.ink_model.specs.Protocol.Session.{Does}
use Rattle.ink_model.specs.Protocol.State.{State, is_running}
use Rattle.ink_model.specs.Protocol.Turns.{ShowsChoices}
use Rattle.ink_model.specs.declared.fault.Refusal.{Refusal}
use Rattle.ink_model.specs.declared.host.Event.{Event}
use Rattle.ink_model.specs.declared.host.Given.{Given}
use Rattle.ink_model.specs.declared.value.Value.{Value}
use Rattle.ink_protocol.specs.Ends.{WritesText}
use Rattle.ink_protocol.specs.declared.fault.RunFault.{RunFault}
use Rattle.ink_player.specs.Standing.{DeliveredBy, DeliveredOf, PlayerView, bindings, desk_of, scene_of, state_of, story_of}
use Rattle.ink_player.proofs.Dealing.{command_binds, same_refusals}
use Rattle.ink_reader.specs.Deeds.{AreDelivered, AreDone, AreShelved, Asks, Deed, Fetches, Gave, Gives, Goes, IsShelved, Keeps, Played, Says, answer_shown, deed_shown, deeds_shown, reply_shown}
use Rattle.ink_reader.specs.Kept as shelf
use Rattle.ink_reader.specs.Notices.{Word, broke_off, word_text}
use Rattle.ink_reader.proofs.Tellings.{break-dealt, break-done, break-shelved}

-- ---- more deeds

shown-append : (look : Look) (ds es : List Deed) → deeds_shown look (ds ++ es) ≡ deeds_shown look ds ++ deeds_shown look es
shown-append look [] es = refl
shown-append look (d ∷ ds) es = ap (λ x. deed_shown look d ++ x) (shown-append look ds es) ∙ sym (append_assoc (deed_shown look d) (deeds_shown look ds) (deeds_shown look es))

shelved-append : (ds more : List Deed) (old mid new : Option (Option (List ℕ))) → AreShelved old ds mid → AreShelved mid more new → AreShelved old (ds ++ more) new
shelved-append [] more old mid new a b = subst (λ k. AreShelved k more new) a b
shelved-append (d ∷ ds) more old mid new a b = (a.0, a.1, shelved-append ds more a.0 mid new a.2 b)

-- ---- what went well

pub on_ok : {T E X : Type 0} (r : Result T E) → OnOk r X → is_ok r ≡ true → X
on_ok (Ok x) h e = h
on_ok (Err x) h e = absurd (true≢false (sym e))

pub on_err : {T E X : Type 0} (r : Result T E) → OnErr r X → is_ok r ≡ false → X
on_err (Ok x) h e = absurd (true≢false e)
on_err (Err x) h e = h

-- a text was written, where that did not fail
pub written : (held held' : Option (List ℕ)) (text : List ℕ) (r : Result (Unit {0}) RunFault) → WritesText held held' text r → OnOk r (Appends held held' text)
written held held' text (Ok u) h = h
written held held' text (Err e) h = tt

-- more was written behind it
pub more-written : {T E : Type 0} (a b c : Option (List ℕ)) (text more : List ℕ) (r : Result T E) → Appends a b text → OnOk r (Appends b c more) → OnOk r (Appends a c (text ++ more))
more-written a b c text more (Ok x) p q = Appends-trans a b c text more p q
more-written a b c text more (Err e) p q = tt

-- it was the last that was written
pub last-written : {T E : Type 0} (held held' : Option (List ℕ)) (text : List ℕ) (r : Result T E) → OnOk r (Appends held held' text) → OnOk r (Appends held held' (text ++ []))
last-written held held' text r h = subst (λ w. OnOk r (Appends held held' w)) (sym (append-nil text)) h

-- ---- what deeds did to the objects of a host

module _ {P F O : Type 0} (turn_log : F → List Called) (refusals : F → ℕ) (state : O → Watching) (s : StoryTree) (h : Bindings) where
  -- these deeds were done, and did this to them
  abbrev Deals : List Event → List Deed → State → State → DeskView P F O → DeskView P F O → Type 0
  Deals es ds old new before after = (done : AreDone s h es ds old new) × AreDelivered turn_log refusals state s h es ds old new done before after

  deals-append : (es fs : List Event) (ds more : List Deed) (old mid new : State) (a b c : DeskView P F O) → Deals es ds old mid a b → Deals fs more mid new b c → Deals (es ++ fs) (ds ++ more) old new a c
  deals-append es fs [] more old mid new a b c x y =
      subst (λ l. Deals (l ++ fs) more old new a c) (sym x.0.0) (subst (λ st. Deals fs more st new a c) x.0.1 (subst (λ d. Deals fs more mid new d c) x.1 y))
  deals-append es fs (Gives k reply ∷ ds) more old mid new a b c ((there, first, others, joined, does, done), (between, dealt, rest)) y =
      let all = deals-append others fs ds more there mid new between b c (done, rest) y in
      ((there, first, others ++ fs, ap (λ l. l ++ fs) joined ∙ append_assoc first others fs, does, all.0), (between, dealt, all.1))
  deals-append es fs (d ∷ ds) more old mid new a b c ((there, first, others, joined, does, done), rest) y =
      let all = deals-append others fs ds more there mid new a b c (done, rest) y in
      ((there, first, others ++ fs, ap (λ l. l ++ fs) joined ∙ append_assoc first others fs, does, all.0), all.1)

  -- they leave bound what is bound, and watched what is watched
  deeds-bind : (meaning : P → List Value → Option Given) (es : List Event) (ds : List Deed) (old new : State) (done : AreDone s h es ds old new) (before after : DeskView P F O)
      → AreDelivered turn_log refusals state s h es ds old new done before after → bindings meaning after ≡ bindings meaning before
  deeds-bind meaning es [] old new done before after x = ap (bindings meaning) x
  deeds-bind meaning es (Gives k reply ∷ ds) old new (mid, first, others, joined, does, done) before after (between, dealt, rest) =
      deeds-bind meaning others ds mid new done between after rest
      ∙ command_binds turn_log state meaning (Some k) (record { state = old; desk = before }) first reply (record { state = mid; desk = between }) dealt.0
  deeds-bind meaning es (d ∷ ds) old new (mid, first, others, joined, does, done) before after rest = deeds-bind meaning others ds mid new done before after rest

module _ {P F O : Type 0} {meaning : P → List Value → Option Given} {turn_log : F → List Called} {refusals : F → ℕ} {state : O → Watching} where
  -- a command that may tell, one that leaves the functions as they were, one that leaves the desk, and one that changes nothing
  pub gave-run : {old new : PlayerView P F O} {k : Command} {reply : Reply} (es : List Event) → Does (story_of old) (bindings meaning (desk_of old)) es (Some k) (state_of old) reply (state_of new)
      → DeliveredOf turn_log refusals state (Some k) (scene_of old) es reply (scene_of new) → story_of new ≡ story_of old → Gave meaning turn_log refusals state old k reply new
  gave-run es does dealt story = record { events = es; does = does; dealt = dealt; story = story }

  pub gave-once : {old new : PlayerView P F O} {k : Command} {reply : Reply} (es : List Event) → Does (story_of old) (bindings meaning (desk_of old)) es (Some k) (state_of old) reply (state_of new)
      → DeliveredBy turn_log state (Some k) (scene_of old) es reply (scene_of new) → (desk_of new).functions ≡ (desk_of old).functions → story_of new ≡ story_of old
      → Gave meaning turn_log refusals state old k reply new
  gave-once {old} {new} {k} {reply} es does dealt functions story = gave-run es does (dealt, same_refusals refusals (desk_of old) (desk_of new) reply functions) story

  pub gave-kept : {old new : PlayerView P F O} {k : Command} {reply : Reply} → Does (story_of old) (bindings meaning (desk_of old)) [] (Some k) (state_of old) reply (state_of new)
      → DeliveredBy turn_log state (Some k) (scene_of old) [] reply (scene_of new) → desk_of new ≡ desk_of old → story_of new ≡ story_of old → Gave meaning turn_log refusals state old k reply new
  gave-kept {old} {new} {k} {reply} does dealt desk story = gave-once [] does dealt (ap (λ d. d.functions) desk) story

  pub gave-still : {p : PlayerView P F O} {k : Command} {reply : Reply} → Does (story_of p) (bindings meaning (desk_of p)) [] (Some k) (state_of p) reply (state_of p)
      → DeliveredBy turn_log state (Some k) (scene_of p) [] reply (scene_of p) → Gave meaning turn_log refusals state p k reply p
  gave-still does dealt = gave-kept does dealt refl refl

module _ {P F O : Type 0} {meaning : P → List Value → Option Given} {turn_log : F → List Called} {refusals : F → ℕ} {state : O → Watching} {look : Look} where
  -- ---- deeds that change nothing of a player

  played-still : {p : PlayerView P F O} {ds : List Deed} {held held' : Option (List ℕ)} {kept kept' : Option (Option (List ℕ))} {well : Bool}
      → Deals turn_log refusals state (story_of p) (bindings meaning (desk_of p)) [] ds (state_of p) (state_of p) (desk_of p) (desk_of p) → AreShelved kept ds kept' → (well ≡ true → Appends held held' (deeds_shown look ds))
      → Played meaning turn_log refusals state look p ds p held held' kept kept' well
  played-still deals shelved written = record { events = []; done = deals.0; dealt = deals.1; story = refl; shelved = shelved; written = written }

  pub played-none : {p : PlayerView P F O} {held : Option (List ℕ)} {kept : Option (Option (List ℕ))} {well : Bool} → Played meaning turn_log refusals state look p [] p held held kept kept well
  played-none {held = held} = played-still ((refl, refl), refl) refl (λ e. Appends-nil held)

  -- one of them, of which nothing is shown
  played-quiet : {p : PlayerView P F O} {d : Deed} {held : Option (List ℕ)} {kept kept' : Option (Option (List ℕ))} {well : Bool}
      → Deals turn_log refusals state (story_of p) (bindings meaning (desk_of p)) [] (d ∷ []) (state_of p) (state_of p) (desk_of p) (desk_of p) → IsShelved kept d kept' → deed_shown look d ≡ []
      → Played meaning turn_log refusals state look p (d ∷ []) p held held kept kept' well
  played-quiet {p} {d} {held} {kept} {kept'} deals shelved quiet =
      played-still deals (kept', shelved, refl) (λ e. subst (λ w. Appends held held w) (sym (append-nil (deed_shown look d) ∙ quiet)) (Appends-nil held))

  pub played-goes : {p : PlayerView P F O} {more : Bool} {held : Option (List ℕ)} {kept : Option (Option (List ℕ))} {well : Bool} → is_running (state_of p).condition ≡ more
      → Played meaning turn_log refusals state look p (Goes more ∷ []) p held held kept kept well
  played-goes {p} is = played-quiet ((state_of p, [], [], refl, (is, refl, refl), (refl, refl)), refl) refl refl

  pub played-asks : {T E : Type 0} {p : PlayerView P F O} {held held' : Option (List ℕ)} {kept : Option (Option (List ℕ))} (r : Result T E) → OnOk r (Appends held held' (codes "> "))
      → Played meaning turn_log refusals state look p (Asks ∷ []) p held held' kept kept (is_ok r)
  played-asks {p = p} {kept = kept} r h = played-still ((state_of p, [], [], refl, (refl, refl), (refl, refl)), refl) (kept, refl, refl) (on_ok r h)

  pub played-fetches : {p : PlayerView P F O} {answer : Result (Option (List ℕ)) NotKept} {held : Option (List ℕ)} {kept : Option (Option (List ℕ))} {well : Bool}
      → shelf.Fetches kept answer → Played meaning turn_log refusals state look p (Fetches answer ∷ []) p held held kept kept well
  played-fetches {p} fetches = played-quiet ((state_of p, [], [], refl, (refl, refl), (refl, refl)), refl) (fetches, refl) refl

  pub played-says : {T E : Type 0} {p : PlayerView P F O} {held held' : Option (List ℕ)} {kept : Option (Option (List ℕ))} {words : List ℕ} (r : Result T E) (word : Word)
      → words ≡ word_text word → OnOk r (Appends held held' (said look words)) → Played meaning turn_log refusals state look p (Says word ∷ []) p held held' kept kept (is_ok r)
  played-says {p = p} {held = held} {held' = held'} {kept = kept} r word is h =
      played-still ((state_of p, [], [], refl, (refl, refl), (refl, refl)), refl) (kept, refl, refl)
      (λ e. subst (λ w. Appends held held' w) (ap (λ w. said look w) is ∙ sym (append-nil (said look (word_text word)))) (on_ok r h e))

  -- the choices, or how the story ends, or why they are not there
  pub played-stop : {T E : Type 0} {p : PlayerView P F O} {held held' : Option (List ℕ)} {kept : Option (Option (List ℕ))} (r : Result T E) (how : Told) (shown : Result (List Shown) Refusal)
      → ShowsChoices (state_of p) shown → OnOk r (Appends held held' (deeds_shown look (stop_told how shown)))
      → Played meaning turn_log refusals state look p (stop_told how shown) p held held' kept kept (is_ok r)
  played-stop {p = p} {kept = kept} r how (Ok []) offers h =
      played-still ((state_of p, [], [], refl, (offers, refl, refl), (state_of p, [], [], refl, (refl, refl), (refl, refl))), refl) (kept, refl, (kept, refl, refl)) (on_ok r h)
  played-stop {p = p} {kept = kept} r how (Ok (choice ∷ choices)) offers h =
      played-still ((state_of p, [], [], refl, (offers, refl, refl), (refl, refl)), refl) (kept, refl, refl) (on_ok r h)
  played-stop {p = p} {kept = kept} r how (Err cause) offers h =
      played-still ((state_of p, [], [], refl, (offers, refl, refl), (state_of p, [], [], refl, (refl, refl), (refl, refl))), refl) (kept, refl, (kept, refl, refl)) (on_ok r h)

  -- a save was brought to the shelf, and what is said of that
  pub played-unsaved : {T E : Type 0} {p : PlayerView P F O} {text : List ℕ} {held held' : Option (List ℕ)} {kept kept' : Option (Option (List ℕ))} (r : Result T E) (answer : Result (Unit {0}) NotKept)
      → shelf.KeepsSave kept kept' text answer → OnOk r (Appends held held' (deeds_shown look (unsaved_told answer)))
      → Played meaning turn_log refusals state look p (Keeps text answer ∷ unsaved_told answer) p held held' kept kept' (is_ok r)
  played-unsaved {p = p} {kept' = kept'} r (Ok u) keeps h = played-still ((state_of p, [], [], refl, (refl, refl), (refl, refl)), refl) (kept', keeps, refl) (on_ok r h)
  played-unsaved {p = p} {kept' = kept'} r (Err cause) keeps h =
      played-still ((state_of p, [], [], refl, (refl, refl), (state_of p, [], [], refl, (refl, refl), (refl, refl))), refl) (kept', keeps, (kept', refl, refl)) (on_ok r h)

  pub played-saving : {T E : Type 0} {p : PlayerView P F O} {text : List ℕ} {held held' : Option (List ℕ)} {kept kept' : Option (Option (List ℕ))} (r : Result T E) (answer : Result (Unit {0}) NotKept)
      → shelf.KeepsSave kept kept' text answer → OnOk r (Appends held held' (deeds_shown look (saving_told answer)))
      → Played meaning turn_log refusals state look p (Keeps text answer ∷ saving_told answer) p held held' kept kept' (is_ok r)
  played-saving {p = p} {kept' = kept'} r (Ok u) keeps h =
      played-still ((state_of p, [], [], refl, (refl, refl), (state_of p, [], [], refl, (refl, refl), (refl, refl))), refl) (kept', keeps, (kept', refl, refl)) (on_ok r h)
  played-saving {p = p} {kept' = kept'} r (Err cause) keeps h =
      played-still ((state_of p, [], [], refl, (refl, refl), (state_of p, [], [], refl, (refl, refl), (refl, refl))), refl) (kept', keeps, (kept', refl, refl)) (on_ok r h)

  -- ---- a command

  -- whose answer is shown
  pub played-gives : {T E : Type 0} {old new : PlayerView P F O} {k : Command} {reply : Reply} {held held' : Option (List ℕ)} {kept : Option (Option (List ℕ))} (r : Result T E)
      → Gave meaning turn_log refusals state old k reply new → OnOk r (Appends held held' (answer_shown look k reply))
      → Played meaning turn_log refusals state look old (Gives k reply ∷ []) new held held' kept kept (is_ok r)
  played-gives {new = new} {k = k} {reply = reply} {held = held} {held' = held'} {kept = kept} r g shown = record {
    events = g.events;
    done = (state_of new, g.events, [], sym (append-nil g.events), g.does, (refl, refl));
    dealt = (desk_of new, g.dealt, refl);
    story = g.story;
    shelved = (kept, refl, refl);
    written = λ e. subst (λ w. Appends held held' w) (sym (append-nil (answer_shown look k reply))) (on_ok r shown e);
  }

  -- of whose answer nothing is shown
  pub played-hushed : {old new : PlayerView P F O} {k : Command} {reply : Reply} {held : Option (List ℕ)} {kept : Option (Option (List ℕ))} → answer_shown look k reply ≡ []
      → Gave meaning turn_log refusals state old k reply new → Played meaning turn_log refusals state look old (Gives k reply ∷ []) new held held kept kept true
  played-hushed {held = held} quiet g =
      let all : Result (Unit {0}) (Unit {0}) = Ok tt in played-gives all g (subst (λ w. Appends held held w) (sym quiet) (Appends-nil held))

  -- that broke off, and behind its answer it is said where it did
  pub played-break : {T E X : Type 0} {old new : PlayerView P F O} {held held' : Option (List ℕ)} {kept : Option (Option (List ℕ))} (r : Result T E) (x : Halt) (path : Result (Option (List ℕ)) X)
      → Gave meaning turn_log refusals state old command.Continue (reply_of_halt x) new → OnOk r (Appends held held' (reply_shown look broke_off (reply_of_halt x) ++ deeds_shown look (break_told (reply_of_halt x) path)))
      → Played meaning turn_log refusals state look old (Gives command.Continue (reply_of_halt x) ∷ break_told (reply_of_halt x) path) new held held' kept kept (is_ok r)
  played-break {old = old} {new = new} {kept = kept} r x path g shown = record {
    events = g.events;
    done = (state_of new, g.events, [], sym (append-nil g.events), g.does, break-done (story_of old) (bindings meaning (desk_of old)) (state_of new) x path);
    dealt = (desk_of new, g.dealt, break-dealt turn_log refusals state (story_of old) (bindings meaning (desk_of old)) (state_of new) x path (desk_of new));
    story = g.story;
    shelved = (kept, refl, break-shelved kept x path);
    written = on_ok r shown;
  }

  -- ---- what went well, and what failed

  -- these deeds were done, and something failed
  pub played-off : {old new : PlayerView P F O} {ds : List Deed} {held held' other : Option (List ℕ)} {kept kept' : Option (Option (List ℕ))} {well : Bool}
      → Played meaning turn_log refusals state look old ds new held held' kept kept' well → Played meaning turn_log refusals state look old ds new held other kept kept' false
  played-off p =
      record { events = p.events; done = p.done; dealt = p.dealt; story = p.story; shelved = p.shelved; written = λ e. absurd (true≢false (sym e)) }

  pub played-lost : {T E : Type 0} {r : Result T E} {e : E} {old new : PlayerView P F O} {ds : List Deed} {held held' other : Option (List ℕ)} {kept kept' : Option (Option (List ℕ))} {well : Bool} → r ≡ Err e
      → Played meaning turn_log refusals state look old ds new held held' kept kept' well → Played meaning turn_log refusals state look old ds new held other kept kept' (is_ok r)
  played-lost {old = old} {new = new} {ds = ds} {held = held} {other = other} {kept = kept} {kept' = kept'} is p =
      subst (λ well. Played meaning turn_log refusals state look old ds new held other kept kept' well) (sym (ap is_ok is)) (played-off p)

  -- it went well
  pub played-well : {T E : Type 0} {old new : PlayerView P F O} {ds : List Deed} {held held' : Option (List ℕ)} {kept kept' : Option (Option (List ℕ))} {r : Result T E} {x : T} → r ≡ Ok x
      → Played meaning turn_log refusals state look old ds new held held' kept kept' (is_ok r) → Played meaning turn_log refusals state look old ds new held held' kept kept' true
  played-well {old = old} {new = new} {ds = ds} {held = held} {held' = held'} {kept = kept} {kept' = kept'} is p =
      subst (λ w. Played meaning turn_log refusals state look old ds new held held' kept kept' w) (ap is_ok is) p

  -- first these deeds, then those
  pub played-played : {a b c : PlayerView P F O} {ds es : List Deed} {held mid held' : Option (List ℕ)} {kept there kept' : Option (Option (List ℕ))} {well : Bool}
      → Played meaning turn_log refusals state look a ds b held mid kept there true → Played meaning turn_log refusals state look b es c mid held' there kept' well
      → Played meaning turn_log refusals state look a (ds ++ es) c held held' kept kept' well
  played-played {a} {b} {c} {ds} {es} {held} {mid} {held'} {kept} {there} {kept'} p q =
      let same : bindings meaning (desk_of b) ≡ bindings meaning (desk_of a) =
      deeds-bind turn_log refusals state (story_of a) (bindings meaning (desk_of a)) meaning p.events ds (state_of a) (state_of b) p.done (desk_of a) (desk_of b) p.dealt in
      let those : Deals turn_log refusals state (story_of a) (bindings meaning (desk_of a)) q.events es (state_of b) (state_of c) (desk_of b) (desk_of c) =
      subst (λ h. Deals turn_log refusals state (story_of a) h q.events es (state_of b) (state_of c) (desk_of b) (desk_of c)) same
      (subst (λ s. Deals turn_log refusals state s (bindings meaning (desk_of b)) q.events es (state_of b) (state_of c) (desk_of b) (desk_of c)) p.story (q.done, q.dealt)) in
      let all = deals-append turn_log refusals state (story_of a) (bindings meaning (desk_of a)) p.events q.events ds es (state_of a) (state_of b) (state_of c) (desk_of a) (desk_of b) (desk_of c) (p.done, p.dealt) those in
      record {
        events = p.events ++ q.events;
        done = all.0;
        dealt = all.1;
        story = q.story ∙ p.story;
        shelved = shelved-append ds es kept there kept' p.shelved q.shelved;
        written = λ e. subst (λ w. Appends held held' w) (sym (shown-append look ds es))
            (Appends-trans held mid held' (deeds_shown look ds) (deeds_shown look es) (p.written refl) (q.written e));
      }
