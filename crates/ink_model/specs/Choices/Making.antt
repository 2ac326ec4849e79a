-- Choices: what a choice point makes, and lists of what was made, over any kind of place (docs/CHOICES.md).
use Rattle.std.specs.Prelude.{ℕ, zero, suc, List, [], ◌∷◌, ◌++◌, length, map, reverse, Bool, true, false, not, ◌&&◌, ◌||◌, nat_lt, if◌then◌else◌, Option, Some, None, Result, Ok, Err}
use Rattle.std.specs.List.{list_all}
use Rattle.std.specs.Option.{option_map}
use Rattle.ink_model.specs.Flow.Frames.{ThreadOf}
use Rattle.ink_model.specs.Run.Configuration.{ChoiceOf}
use Rattle.ink_model.specs.Story.Flags.{has_choice_only_text, has_start_text, is_conditional, is_invisible_default, is_once_only}
use Rattle.ink_model.specs.Text.Bytes.{fits_text, is_blank, trimmed, without}
use Rattle.ink_model.specs.Values.Value.{is_true}
use Rattle.ink_model.specs.declared.fault.Fault.{Fault}
use Rattle.ink_model.specs.declared.fault.Fault.TheVariants.{BadOperands, StackEmpty, TooDeep}
use Rattle.ink_model.specs.declared.limits.TheConstants.{MAX_CHOICES}
use Rattle.ink_model.specs.declared.passage.Shown.{Shown}
use Rattle.ink_model.specs.declared.value.Value.{Value}
use Rattle.ink_model.specs.declared.value.Value.TheVariants.{Tag, Text}

-- ---- what is popped; here values are listed from the top of the stack down

-- a text, and its tags as they were written
pub record Words : Type 0 where
  pub text : List ℕ
  pub tags : List (List ℕ)

-- what a choice point pops, and what it leaves
pub record Operands : Type 0 where
  pub condition : Bool
  pub start : Words
  pub choice_only : Words
  pub left : List Value

-- the tags that come first, and what follows them
abbrev pub tags_first : List Value → List (List ℕ)
tags_first (Tag t ∷ vs) = t ∷ tags_first vs
tags_first vs = []

abbrev pub after_tags : List Value → List Value
after_tags (Tag t ∷ vs) = after_tags vs
after_tags vs = vs

-- a text, and the tags directly below it, of which the last one written is the first
abbrev pub pop_words : List Value → Result (Words × List Value) Fault
pop_words [] = Err StackEmpty
pop_words (Text t ∷ vs) = Ok (record { text = t; tags = reverse (tags_first vs) }, after_tags vs)
pop_words (v ∷ vs) = Err BadOperands

-- the same of a text that there may be
abbrev pub pop_any_words : Bool → List Value → Result (Words × List Value) Fault
pop_any_words false vs = Ok (record { text = []; tags = [] }, vs)
pop_any_words true vs = pop_words vs

-- a condition that there may be; what has none is as if it were true
abbrev pub pop_condition : Bool → List Value → Result (Bool × List Value) Fault
pop_condition false vs = Ok (true, vs)
pop_condition true [] = Err StackEmpty
pop_condition true (v ∷ vs) = looked_at (is_true v) vs
  where
    looked_at : Result Bool Fault → List Value → Result (Bool × List Value) Fault
    looked_at (Ok b) vs = Ok (b, vs)
    looked_at (Err f) vs = Err f

-- what comes of what was popped, or its fault
abbrev pub then_pop : {A B : Type 0} → Result A Fault → (A → Result B Fault) → Result B Fault
then_pop (Ok a) so = so a
then_pop (Err f) so = Err f

-- the condition, then the choice-only text, then the start text
abbrev pub operands : ℕ → List Value → Result Operands Fault
operands flags vs =
    then_pop (pop_condition (is_conditional flags) vs) (λ c.
    then_pop (pop_any_words (has_choice_only_text flags) c.1) (λ only.
    then_pop (pop_any_words (has_start_text flags) only.1) (λ start.
    Ok (record { condition = c.0; start = start.0; choice_only = only.0; left = start.1 }))))

-- ---- what is made

-- without the blanks at both ends
abbrev pub trimmed_text : List ℕ → List ℕ
trimmed_text t = trimmed is_blank (without is_blank t)

-- both texts, the start first
abbrev pub choice_text : Operands → List ℕ
choice_text o = trimmed_text (o.start.text ++ o.choice_only.text)

-- the tags of both, the start's first
abbrev pub choice_tags : Operands → List (List ℕ)
choice_tags o = o.start.tags ++ o.choice_only.tags

-- A choice is made, unless its condition is false, or it is offered once only and the container that its path leads to was visited
-- (`visited`, by `was_visited` of Run/Step/Choices.antt).
abbrev pub is_offered : ℕ → Bool → Bool → Bool
is_offered flags visited condition = condition && not (is_once_only flags && visited)

-- there is something in a list
abbrev pub has_any : {A : Type 0} → List A → Bool
has_any [] = false
has_any (x ∷ xs) = true

module _ {P : Type 0} where
  -- the choice, which keeps the thread that runs
  abbrev pub choice : ℕ → P → ThreadOf P → Operands → ChoiceOf P
  choice flags target thread o = record {
    text = choice_text o;
    tags = choice_tags o;
    target = target;
    hidden = is_invisible_default flags;
    thread = thread;
  }

  -- what a choice point makes of its operands, and the stack that it leaves, from the bottom; the text has to be within its limit
  abbrev pub choice_of : ℕ → P → Bool → ThreadOf P → Operands → Result (Option (ChoiceOf P) × List Value) Fault
  choice_of flags target visited thread o = if is_offered flags visited o.condition
      then (if fits_text (choice_text o) then Ok (Some (choice flags target thread o), reverse o.left) else Err TooDeep)
      else Ok (None, reverse o.left)

  -- the same of the stack, from the bottom
  abbrev pub make : ℕ → P → Bool → ThreadOf P → List Value → Result (Option (ChoiceOf P) × List Value) Fault
  make flags target visited thread stack = then_pop (operands flags (reverse stack)) (choice_of flags target visited thread)

  -- ---- where memory is asked for

  -- a copy of a thread: of more than one frame without temporaries
  abbrev pub thread_asks : ThreadOf P → Bool
  thread_asks t = has_any t.frame.temps || has_any t.below

  -- a choice that is made or copied: its text, its tags or its thread
  abbrev pub choice_asks : ChoiceOf P → Bool
  choice_asks c = has_any c.text || (has_any c.tags || thread_asks c.thread)

  -- what a choice point makes, where it makes a choice
  abbrev pub option_asks : Option (ChoiceOf P) → Bool
  option_asks None = false
  option_asks (Some c) = choice_asks c

  -- ---- lists of choices

  -- with one more, while there is room
  abbrev pub added : ChoiceOf P → List (ChoiceOf P) → Result (List (ChoiceOf P)) Fault
  added c cs = if nat_lt (length cs) MAX_CHOICES then Ok (cs ++ c ∷ []) else Err TooDeep

  abbrev pub visible : List (ChoiceOf P) → List (ChoiceOf P)
  visible [] = []
  visible (c ∷ cs) = if c.hidden then visible cs else c ∷ visible cs

  -- the visible ones, as they are shown
  abbrev pub shown_choice : ChoiceOf P → Shown
  shown_choice c = record { text = c.text; tags = c.tags }

  abbrev pub shown : List (ChoiceOf P) → List Shown
  shown cs = map shown_choice (visible cs)

  -- there is no visible one
  abbrev pub none_visible : List (ChoiceOf P) → Bool
  none_visible cs = list_all (λ c. c.hidden) cs

  -- there are choices, and no visible one
  abbrev pub only_invisible : List (ChoiceOf P) → Bool
  only_invisible cs = has_any cs && none_visible cs

  -- ---- taking one

  -- a choice can be taken where it is visible, and each can where none is
  abbrev pub can_take : List (ChoiceOf P) → ChoiceOf P → Bool
  can_take cs c = none_visible cs || not c.hidden

  abbrev pub behind : ChoiceOf P → ChoiceOf P × List (ChoiceOf P) → ChoiceOf P × List (ChoiceOf P)
  behind c r = (r.0, c ∷ r.1)

  -- the n-th of those that pass, counted from 0, and the others
  abbrev pub taken_of : (ChoiceOf P → Bool) → ℕ → List (ChoiceOf P) → Option (ChoiceOf P × List (ChoiceOf P))
  taken_of test n [] = None
  taken_of test zero (c ∷ cs) = if test c then Some (c, cs) else option_map (behind c) (taken_of test zero cs)
  taken_of test (suc n) (c ∷ cs) = option_map (behind c) (taken_of test (if test c then n else suc n) cs)

  -- the n-th visible one, or where none is visible the n-th
  abbrev pub choice_gone : ℕ → List (ChoiceOf P) → Option (ChoiceOf P × List (ChoiceOf P))
  choice_gone n cs = taken_of (can_take cs) n cs
