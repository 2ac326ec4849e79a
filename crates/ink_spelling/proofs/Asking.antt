-- Where reading asks for memory.
use Rattle.std.proofs.Common.{◌≡◌, ◌∙◌, ◌⊎◌, inl, inr, refl, sym, subst, ℕ, List, [], ◌∷◌, reverse, codes, Bool, true, false, ◌||◌, is_some, Option, Some, None, option_and_then, Result, Ok, Err, OnErr}
use Rattle.std.specs.Option.{option_map, option_or}
use Rattle.serde_json.specs.Data.{Data, array, object, string, Items, no_items, item, Members, member}
use Rattle.ink_model.specs.Run.Configuration.{ChoiceOf, Configuration}
use Rattle.ink_model.specs.Flow.Frames.{ThreadOf, ThreadsOf}
use Rattle.ink_model.specs.declared.place.Part.{Part}
use Rattle.ink_model.specs.declared.value.Value.{Value as Spelled}
use Rattle.ink_model.specs.Save.Asks.{both_ask, choice_asks, counts_ask, items_ask, list_asks, load_asks, members_ask, none_asks, pair_asks, rows_ask, spelled_asks, take_asks, text_asks, thread_asks, threads_ask, turn_asks, value_asks}
use Rattle.ink_spelling.proofs.Lists.{first_is, member_is}
use Rattle.json_tape.specs.Shape.{first_item, first_member}
use Rattle.ink_spelling.specs.Readings.{two_ask, two_in}
use Rattle.ink_model.specs.Save.Unspelled.{Layout, First, Second, Spelled as Game, all_of, choice_of, count_of, format_of, from_threads, from_turn, layout_of, list_of, next_named, pair_of, place_of, spelled_by, take, text_of, thread_in, threads_with, truth_of, unspelled_by, value_of}

or_true : (b : Bool) → b || true ≡ true
or_true true = refl
or_true false = refl

-- ---- lists

-- these are all elements, or memory was asked for
abbrev pub ItemsAsked : {A : Type 0} → (Data → Option A) → (Data → Bool) → Items → Items → Type 0
ItemsAsked f asks all left = (left ≡ all) ⊎ (items_ask f asks all ≡ true)

-- an element is kept
pub item_kept : {A : Type 0} (f : Data → Option A) (asks : Data → Bool) (all left : Items) (d : Data) (ds : Items) (x : A) → Some (d, ds) ≡ first_item left → Some x ≡ f d
    → ItemsAsked f asks all left → items_ask f asks all ≡ true
item_kept f asks all left d ds x h e (inl same) = subst (λ js. items_ask f asks js ≡ true) (sym (first_is left d ds h) ∙ same) (rw (sym e) (or_true (asks d)))
item_kept f asks all left d ds x h e (inr asked) = asked

-- ---- pairs

pub pair_asks_so : {A : Type 0} (f : Data → Option A) (asks second : Data → Bool) (ds : Items) → pair_asks f asks second (array ds) ≡ two_ask f asks second (two_in ds)
pair_asks_so f asks second no_items = refl
pair_asks_so f asks second (item d no_items) = refl
pair_asks_so f asks second (item d (item e no_items)) = refl
pair_asks_so f asks second (item d (item e (item h ds))) = refl

-- ---- rows of members

-- these are all members, or memory was asked for
abbrev pub RowsAsked : Members → Members → Type 0
RowsAsked all left = (left ≡ all) ⊎ (rows_ask all ≡ true)

module _ (all left : Members) (k : List ℕ) (d : Data) (ns : Members) (h : Some (k, (d, ns)) ≡ first_member left) where
  row_there : value_asks d || is_some (value_of d) ≡ true → RowsAsked all left → rows_ask all ≡ true
  row_there so (inl same) = subst (λ ms. rows_ask ms ≡ true) (sym (member_is left k d ns h) ∙ same) so
  row_there so (inr asked) = asked

  pub row_kept : (v : Spelled) → Some v ≡ value_of d → RowsAsked all left → rows_ask all ≡ true
  row_kept v e asked = row_there (rw (sym e) (or_true (value_asks d))) asked

-- what holds, holds at an error
pub or_else : {A E : Type 0} {P : Type 0} (r : Result A E) → P → OnErr r P
or_else (Ok a) h = tt
or_else (Err e) h = h

pub bind_some : {A B : Type 0} (o : Option A) (f : A → Option B) (y : B) → option_and_then f o ≡ Some y → (x : A) × (o ≡ Some x) × (f x ≡ Some y)
bind_some None f y e = absurd cc
bind_some (Some x) f y e = (x, refl, e)

module _ {A : Type 0} (f : Data → Option A) (asks : Data → Bool) where
  -- a value asks
  pub first_asks : (d : Data) (later : Bool) → asks d ≡ true → both_ask f asks d later ≡ true
  first_asks d later h = rw h refl

  -- a value is read, and what comes after it asks
  pub second_asks : (d : Data) (later : Bool) (x : A) → f d ≡ Some x → later ≡ true → both_ask f asks d later ≡ true
  second_asks d later x is h = rw is (rw h (or_true (asks d)))

  -- ---- what spells a configuration

  -- the first member is read, and what comes behind it asks
  through : {B : Type 0} (k : List ℕ) (so : A → Members → Option B) (later : Members → Bool) (ms : Members) (y : B) → take k f so ms ≡ Some y
      → ((x : A) (rest : Members) → so x rest ≡ Some y → later rest ≡ true) → take_asks k f asks later ms ≡ true
  through k so later ms y e behind =
      let found = bind_some (next_named k ms) _ y e in
      let read = bind_some (f found.0.0) (λ x. so x found.0.1) y found.2 in
      rw found.1 (second_asks found.0.0 (later found.0.1) read.0 read.1 (behind read.0 found.0.1 read.2))

  -- the first member is read, and asks
  there : {B : Type 0} (k : List ℕ) (so : A → Members → Option B) (later : Members → Bool) (ms : Members) (y : B) → take k f so ms ≡ Some y
      → ((d : Data) (x : A) (rest : Members) → f d ≡ Some x → so x rest ≡ Some y → asks d ≡ true) → take_asks k f asks later ms ≡ true
  there k so later ms y e asking =
      let found = bind_some (next_named k ms) _ y e in
      let read = bind_some (f found.0.0) (λ x. so x found.0.1) y found.2 in
      rw found.1 (first_asks found.0.0 (later found.0.1) (asking found.0.0 read.0 found.0.1 read.1 read.2))

  -- the first member is read, and what it is tells
  behind : {B : Type 0} (P : Type 0) (k : List ℕ) (so : A → Members → Option B) (ms : Members) (y : B) → take k f so ms ≡ Some y
      → ((x : A) (rest : Members) → so x rest ≡ Some y → P) → P
  behind P k so ms y e tells =
      let found = bind_some (next_named k ms) _ y e in
      let read = bind_some (f found.0.0) (λ x. so x found.0.1) y found.2 in
      tells read.0 found.0.1 read.2

  list_kept : (d : Data) (x : A) (xs : List A) → list_of f d ≡ Some (x ∷ xs) → list_asks f asks d ≡ true
  list_kept (array no_items) x xs e = absurd (let same : [] ≡ x ∷ xs = cc in cc)
  list_kept (array (item d ds)) x xs e =
      let found = bind_some (f d) (λ y. option_map (λ ys. y ∷ ys) (all_of f ds)) (x ∷ xs) e in
      rw found.1 (or_true (asks d))
  list_kept d x xs e = absurd cc

-- there are threads
abbrev Some_of : {A : Type 0} → List A → Type 0
Some_of [] = ⊥
Some_of (x ∷ xs) = Unit {0}

turned : (us : List (ThreadOf (List Part))) (ts : ThreadsOf (List Part)) → threads_with (reverse us) ≡ Some ts → Some_of us
turned [] ts e = absurd cc
turned (u ∷ us) ts e = tt

threads_there : (choices : List (ChoiceOf (List Part))) (globals : List (List ℕ × Spelled)) (safe : Bool) (stack : List Spelled) (threads : List (ThreadOf (List Part))) (ms : Members) (c : Configuration)
    → from_turn choices globals safe stack threads ms ≡ Some c → Some_of threads
threads_there choices globals safe stack threads ms c e =
    behind count_of none_asks (Some_of threads) (codes "turn") _ ms c e (λ turn rest e.
    behind (list_of (pair_of place_of count_of)) counts_ask (Some_of threads) (codes "turns") _ rest c e (λ turns rest e.
    behind (list_of (pair_of place_of count_of)) counts_ask (Some_of threads) (codes "visits") _ rest c e (λ visits rest e.
    let found = bind_some (threads_with (reverse threads)) _ c e in turned threads found.0 found.1)))

threads_kept : (us : List (ThreadOf (List Part))) (d : Data) → list_of thread_in d ≡ Some us → Some_of us → list_asks thread_in thread_asks d ≡ true
threads_kept [] d e h = absurd h
threads_kept (u ∷ us) d e h = list_kept thread_in thread_asks d u us e

threads_asked : (choices : List (ChoiceOf (List Part))) (globals : List (List ℕ × Spelled)) (safe : Bool) (stack : List Spelled) (ms : Members) (c : Configuration)
    → from_threads choices globals safe stack ms ≡ Some c → threads_ask ms ≡ true
threads_asked choices globals safe stack ms c e =
    there (list_of thread_in) (list_asks thread_in thread_asks) (codes "threads") _ turn_asks ms c e (λ d threads rest is e.
    threads_kept threads d is (threads_there choices globals safe stack threads rest c e))

-- what spells a configuration has a thread, which is kept
alone_asks : (ms : Members) (c : Configuration) → unspelled_by ms ≡ Some c → members_ask ms ≡ true
alone_asks ms c e =
    through (list_of choice_of) (list_asks choice_of choice_asks) (codes "choices") _ _ ms c e (λ choices rest e.
    through (format_of 1) none_asks (codes "format") _ _ rest c e (λ one rest e.
    through (list_of (pair_of text_of value_of)) (list_asks (pair_of text_of value_of) (pair_asks text_of text_asks value_asks)) (codes "globals") _ _ rest c e (λ globals rest e.
    through truth_of none_asks (codes "safe") _ _ rest c e (λ safe rest e.
    through (list_of value_of) (list_asks value_of value_asks) (codes "stack") _ threads_ask rest c e (λ stack rest e.
    threads_asked choices globals safe stack rest c e)))))

-- a text is kept
pub text_kept : (d : Data) (t : List ℕ) → text_of d ≡ Some t → text_asks d ≡ true
text_kept (string u) t e = refl
text_kept d t e = absurd cc

-- what spells flows has the current one's name
game_asks : (ms : Members) (x : Game) → spelled_by ms ≡ Some x → spelled_asks ms ≡ true
game_asks ms x e = there text_of text_asks (codes "current") _ none_asks ms x e (λ d t rest is e. text_kept d t is)

-- what spells something asks for memory
pub layouts_ask : (j : Data) (l : Layout) → layout_of j ≡ Some l → load_asks j ≡ true
layouts_ask (object ms) l e = by (spelled_by ms) refl (unspelled_by ms) refl e
  where
    by : (x : Option Game) → spelled_by ms ≡ x → (o : Option Configuration) → unspelled_by ms ≡ o → option_or (option_map Second x) (option_map First o) ≡ Some l → (spelled_asks ms || members_ask ms) ≡ true
    by (Some x) is o was e = rw (game_asks ms x is) refl
    by None is (Some c) was e = rw (alone_asks ms c was) (or_true (spelled_asks ms))
    by None is None was e = absurd cc
layouts_ask j l e = absurd cc
