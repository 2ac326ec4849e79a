-- Choices over spots and over places; where they lead.
use Rattle.std.proofs.Common.{◌≡◌, ◌∙◌, ◌⊎◌, inl, inr, ap, sym, refl, subst, ℕ, List, [], ◌∷◌, map, Bool, true, false, ◌||◌, if◌then◌else◌, slice_get, Option, Some, None, option_map, Ok, Err}
use Rattle.ink_choice.proofs.Nth.{taken_visible}
use Rattle.ink_step.proofs.Common.{Takes, ChoiceOf, Configuration, can_go_on, map_choice, entered_places, StoryTree, Fault, OutOfMemory, Part, or_first, or_more}
use Rattle.ink_model.specs.Choices.Making.{none_visible, only_invisible, choice_gone, visible}
use Rattle.ink_model.specs.Choices.Choosing.{chosen, default_asks, default_choice, jumped, open_choice, stopped_by, taken_up}
use Rattle.ink_model.specs.Variables.Counts.{CountsOf, one_more}
use Rattle.ink_model.specs.Run.Visits.{all_visited, entering_around, entering_asks}
use Rattle.ink_model.specs.declared.fault.Refusal.TheVariants as refusal
use Rattle.ink_model.proofs.Maps.{first_map, none_visible_map, nth_visible_map, only_invisible_map}
use Rattle.ink_step.specs.Steps.{Chooses, StepEnds}
use Rattle.ink_step.proofs.Follows.{ends_short, or_wider}
use Rattle.ink_moves.specs.declared.flow.StepEnd.TheVariants as ends

-- ---- what is taken

module _ {P : Type 0} where
  -- where there is an n-th visible one, it is taken
  pub takes_visible : (n : ℕ) (cs new : List (ChoiceOf P)) (x y : ChoiceOf P) → Some x ≡ slice_get (visible cs) n → Takes (choice_gone n cs) cs new (Ok (Some y)) → Some y ≡ slice_get (visible cs) n
  takes_visible n cs new x y h t = t.0 ∙ taken_visible n cs x (sym h) ∙ h

  pub takes_any : (n : ℕ) (cs new : List (ChoiceOf P)) (x : ChoiceOf P) → Some x ≡ slice_get (visible cs) n → Takes (choice_gone n cs) cs new (Ok None) → ⊥
  takes_any n cs new x h t = absurd (let no : None ≡ Some x = t.0 ∙ taken_visible n cs x (sym h) in cc)

  -- where none is visible, the first is
  first_taken : (cs : List (ChoiceOf P)) → none_visible cs ≡ true → option_map (λ r. r.0) (choice_gone 0 cs) ≡ slice_get cs 0
  first_taken [] h = refl
  first_taken (c ∷ cs) h = rw h refl

-- ---- under other places

module _ {P Q : Type 0} (f : P → Q) where
  none_of : (cs : List (ChoiceOf P)) → only_invisible cs ≡ true → none_visible cs ≡ true
  none_of [] h = refl
  none_of (c ∷ cs) h = h

  pub open_alike : (cs : List (ChoiceOf P)) (n : ℕ) (o : Option (ChoiceOf P)) → o ≡ slice_get (visible cs) n → slice_get (visible (map (map_choice f) cs)) n ≡ option_map (map_choice f) o
  open_alike cs n o h = nth_visible_map f cs n ∙ ap (option_map (map_choice f)) (sym h)

  pub no_default : (cs : List (ChoiceOf P)) → only_invisible cs ≡ false → default_choice (map (map_choice f) cs) ≡ None
  no_default cs h = ap (λ b. if b then option_map (λ r. r.0) (choice_gone 0 (map (map_choice f) cs)) else None) (only_invisible_map f cs ∙ h)

  pub is_default : (cs new : List (ChoiceOf P)) (x : ChoiceOf P) → only_invisible cs ≡ true → Takes (choice_gone 0 cs) cs new (Ok (Some x)) → default_choice (map (map_choice f) cs) ≡ Some (map_choice f x)
  is_default cs new x h t =
      let first : slice_get cs 0 ≡ Some x = sym (first_taken cs (none_of cs h)) ∙ sym t.0 in
      ap (λ b. if b then option_map (λ r. r.0) (choice_gone 0 (map (map_choice f) cs)) else None) (only_invisible_map f cs ∙ h)
      ∙ first_taken (map (map_choice f) cs) (none_visible_map f cs ∙ none_of cs h)
      ∙ first_map f cs ∙ ap (option_map (map_choice f)) first

-- ---- where flow stops

module _ (s : StoryTree) (pressed : Bool) (old new : Configuration) (d : Option (ChoiceOf (List Part))) where
  pub stays_stopped : d ≡ None → new ≡ old → StepEnds (pressed || default_asks s d old) (stopped_by s d old) old.shared.globals new (Ok ends.Stopped)
  stays_stopped none is = subst (λ o. StepEnds (pressed || default_asks s o old) (stopped_by s o old) old.shared.globals new (Ok ends.Stopped)) (sym none) is

  -- memory was refused for what a mark wants
  pub short_pressed : (fault : Fault) → fault ≡ OutOfMemory → pressed ≡ true → new.shared.globals ≡ old.shared.globals
      → StepEnds (pressed || default_asks s d old) (stopped_by s d old) old.shared.globals new (Err fault)
  short_pressed fault short is same = ends_short (pressed || default_asks s d old) (stopped_by s d old) old.shared.globals new fault (short, or_first pressed (default_asks s d old) is) same

  module _ (x : ChoiceOf (List Part)) (some : d ≡ Some x) where
    pub follows_default : new ≡ entering_around s (taken_up x old) → StepEnds (pressed || default_asks s d old) (stopped_by s d old) old.shared.globals new (Ok ends.Went)
    follows_default is = subst (λ o. StepEnds (pressed || default_asks s o old) (stopped_by s o old) old.shared.globals new (Ok ends.Went)) (sym some) is

    pub short_of_default : (fault : Fault) → fault ≡ OutOfMemory → (pressed || entering_asks s (taken_up x old)) ≡ true → new.shared.globals ≡ old.shared.globals
        → StepEnds (pressed || default_asks s d old) (stopped_by s d old) old.shared.globals new (Err fault)
    short_of_default fault short adds same =
        subst (λ o. StepEnds (pressed || default_asks s o old) (stopped_by s o old) old.shared.globals new (Err fault)) (sym some) ((short, adds), same)

-- ---- where a host chooses

-- what is lacked is told by the choice
module _ (s : StoryTree) (lacking : Option (ChoiceOf (List Part)) → Bool) (n : ℕ) (old new : Configuration) (stopped : can_go_on old ≡ false) where
  pub open_is : open_choice n old ≡ slice_get (visible old.flow.choices) n
  open_is = ap (λ b. if b then None else slice_get (visible old.flow.choices) n) stopped

  pub chooses_none : slice_get (visible old.flow.choices) n ≡ None → new ≡ old → Chooses s (lacking (open_choice n old)) (open_choice n old) old new (Err refusal.NotAChoice)
  chooses_none none is = subst (λ o. Chooses s (lacking o) o old new (Err refusal.NotAChoice)) (sym (open_is ∙ none)) (inl refl, is)

  module _ (x : ChoiceOf (List Part)) (some : slice_get (visible old.flow.choices) n ≡ Some x) where
    pub chooses_one : new ≡ entering_around s (chosen x old) → Chooses s (lacking (open_choice n old)) (open_choice n old) old new (Ok (tt {0}))
    chooses_one is = subst (λ o. Chooses s (lacking o) o old new (Ok (tt {0}))) (sym (open_is ∙ some)) is

    pub chooses_short : (lacking (Some x) || entering_asks s (chosen x old)) ≡ true → new ≡ old → Chooses s (lacking (open_choice n old)) (open_choice n old) old new (Err refusal.OutOfMemory)
    chooses_short adds is = subst (λ o. Chooses s (lacking o) o old new (Err refusal.OutOfMemory)) (sym (open_is ∙ some)) ((refl, adds), is)

-- the configuration that a choice took up, after the containers around had been entered in the next turn
module _ (s : StoryTree) (x : ChoiceOf (List Part)) (old mid : Configuration) (same : mid ≡ old) (counts : CountsOf (List Part)) (turn : ℕ) where
  abbrev up_in : Configuration → ℕ → CountsOf (List Part) → Configuration
  up_in c t cts = taken_up x (record c { shared = record c.shared { counts = cts; turn = t } })

  abbrev entered_by : List (List Part)
  entered_by = entered_places s x.thread.previous x.target

  pub chosen_lands : (new : Configuration) → new ≡ up_in mid turn counts → turn ≡ one_more mid.shared.turn → counts ≡ all_visited s turn entered_by mid.shared.counts
      → new ≡ entering_around s (chosen x old)
  chosen_lands new is next entering =
      is ∙ ap (up_in mid turn) entering ∙ ap (λ t. up_in mid t (all_visited s t entered_by mid.shared.counts)) next
      ∙ ap (λ c. up_in c (one_more c.shared.turn) (all_visited s (one_more c.shared.turn) entered_by c.shared.counts)) same

-- the configuration of a jump, with a turn and counts
abbrev pub jumped_in : List Part → Configuration → ℕ → CountsOf (List Part) → Configuration
jumped_in q c t cts = let d = jumped q c in record d { shared = record d.shared { counts = cts; turn = t } }

-- the same after the containers around had been entered in the next turn
module _ (s : StoryTree) (q : List Part) (old mid : Configuration) (same : mid ≡ old) (counts : CountsOf (List Part)) (turn : ℕ) where
  pub jump_lands : (new : Configuration) → new ≡ jumped_in q mid turn counts → turn ≡ one_more mid.shared.turn → counts ≡ all_visited s turn (entered_places s None q) mid.shared.counts
      → new ≡ entering_around s (jumped q old)
  jump_lands new is next entering =
      is ∙ ap (jumped_in q mid turn) entering ∙ ap (λ t. jumped_in q mid t (all_visited s t (entered_places s None q) mid.shared.counts)) next
      ∙ ap (λ c. entering_around s (jumped q c)) same

-- ---- memory that is refused

-- for a turn, before what it enters is known
pub turn_short : (a b c d : Bool) → a || (b || c) ≡ true → a || (b || (c || d)) ≡ true
turn_short true b c d h = refl
turn_short false b c d h = or_wider b c d h

-- for a row, or for notes of what is entered
pub asks_or_lacks : (a b c d e asking : Bool) → (asking ≡ true) ⊎ (e ≡ true) → (a || (b || (c || (d || e)))) || asking ≡ true
asks_or_lacks a b c d e asking (inl h) = or_more (a || (b || (c || (d || e)))) asking h
asks_or_lacks a b c d e asking (inr h) = or_first (a || (b || (c || (d || e)))) asking (or_more a (b || (c || (d || e))) (or_more b (c || (d || e)) (or_more c (d || e) (or_more d e h))))
