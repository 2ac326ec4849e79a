-- The spelling of a sound game is read as that one, as a command leaves it.
use Rattle.std.proofs.Common.{slice_get, ◌≡◌, ◌∙◌, ap, sym, refl, inl, inr, arith, ℕ, ◌^◌, ℤ, pos, negsuc, List, [], ◌∷◌, ◌++◌, map, reverse, Bool, true, false, true≢false, cond, if◌then◌else◌, IsTrue, bytes_eq, Option, Some, None, is_none, is_some}
use Rattle.std.proofs.lemmas.Bool.{cases_Bool, cond_both, false_from_ne_true, lt-ltb}
use Rattle.std.proofs.lemmas.List.{map-append, reverse-append, reverse-reverse}
use Rattle.ink_sound.proofs.Common.{fits_text, and_parts, option_map, of_integer, flags_at, items_of, counts_visits, notes_turns, is_small, empty_page, StoryTree, at, value_data, FrameKind, Base, Part, Index, Name, Value, Each, Configuration, FlowOf, settled, unnumbered_choice, unnumbered_flow, Reads, Spells, AnyPlace, AsideFits, ChoiceFits, FlowSound, FlowStands, FrameFits, FrameStands, IsFrame, NamedFits, PlaceFits, RowCounts, RowFits, Sound, ThreadFits, ThreadStands, ValueFits}
use Rattle.serde_json.specs.Data.{Data, string}
use Rattle.ink_model.specs.Run.Flows.{Aside, Game, all_flows, alone, current_name, holes, is_flow_name}
use Rattle.ink_model.specs.Flow.Frames.{FrameOf, ThreadOf, unnumbered_frame, unnumbered_thread}
use Rattle.ink_model.specs.Variables.Named.{Rows, each, once, at as at_name}
use Rattle.ink_model.specs.Story.Path.{path_text}
use Rattle.ink_model.specs.declared.value.Value.TheVariants as value
use Rattle.ink_sound.specs.Kept.{AsideSound, PartsFit, StoryFits}
use Rattle.ink_model.specs.Save.Spelling.{choice_data, frame_data, global_data, kind_data, named_flow_data, old_spelling, part_data, place_or_null, row_data, spelling, temps_members, thread_data}
use Rattle.ink_model.specs.Save.Unspelled.{all_of, any_place_of, aside_but, choice_of, count_of, frame_of, game_spelled, game_with, kind_of, named_flow_of, number_integer, pair_of, part_of, place_of, rows_of, text_of, thread_in, unspelled, value_of}
use Rattle.ink_sound.proofs.Flows.{any_of}
use Rattle.ink_sound.proofs.Named.{its_name, same_name}
use Rattle.ink_sound.proofs.Narrow.{PartNarrow, place_narrow}
use Rattle.ink_sound.proofs.Offers.{each_reverse}
use Rattle.ink_sound.proofs.Places.{stands_fits}
use Rattle.ink_sound.proofs.Unspelling.{unspelled_reads}
use Rattle.ink_sound.proofs.Values.{each_of}

-- f reads what g spells, as it is by n
abbrev Back : {A : Type 0} → (Data → Option A) → (A → Data) → (A → A) → (A → Type 0) → Type 0
Back {A} f g n P = (x : A) → P x → f (g x) ≡ Some (n x)

abbrev same : {A : Type 0} → A → A
same x = x

module _ {A : Type 0} (f : Data → Option A) (g : A → Data) where
  all_back : (n : A → A) (P : A → Type 0) → Back f g n P → (xs : List A) → Each P xs → all_of f (items_of (map g xs)) ≡ Some (map n xs)
  all_back n P h [] k = refl
  all_back n P h (x ∷ xs) k = rw (h x k.0) (ap (option_map (λ ys. n x ∷ ys)) (all_back n P h xs k.1))

  list_back : (P : A → Type 0) → Back f g same P → (xs : List A) → Each P xs → all_of f (items_of (map g xs)) ≡ Some xs
  list_back P h [] k = refl
  list_back P h (x ∷ xs) k = rw (h x k.0) (ap (option_map (λ ys. x ∷ ys)) (list_back P h xs k.1))

map_turned : {A : Type 0} (n : A → A) (xs : List A) → reverse (map n (reverse xs)) ≡ map n xs
map_turned n xs = ap reverse (turned xs) ∙ reverse-reverse (map n xs)
  where
    turned : (ys : List _) → map n (reverse ys) ≡ reverse (map n ys)
    turned [] = refl
    turned (y ∷ ys) = ap (map n) (reverse-append (y ∷ []) ys) ∙ map-append n (reverse ys) (y ∷ []) ∙ ap (λ zs. zs ++ n y ∷ []) (turned ys) ∙ sym (reverse-append (n y ∷ []) (map n ys))

-- ---- values

small_back : (z : ℤ) → is_small z ≡ true → number_integer (of_integer z) ≡ Some z
small_back (pos n) h = rw h refl
small_back (negsuc n) h = rw h refl

kind_back : (k : FrameKind) → kind_of (kind_data k) ≡ Some k
kind_back Base = refl
kind_back k = refl

part_back : Back part_of part_data same PartNarrow
part_back (Index i) h = rw (lt-ltb i (2 ^ 32) h) refl
part_back (Name t) h = refl

module _ (s : StoryTree) where
  pub frame_small : (i : ℤ) → IsFrame i → is_small i ≡ true
  frame_small (pos n) h = h
  frame_small (negsuc n) h = absurd h

  value_back : Back value_of value_data same (ValueFits s)
  value_back (value.Int z) h = ap (option_map (λ y. value.Int y)) (small_back z h)
  value_back (value.Target p) h = rw (h.spelled, its_name (path_text p)) refl
  value_back (value.Pointer i n) h = rw (small_back i (frame_small i h)) refl
  value_back v h = refl

  temps_back : (rs : List (List ℕ × Value)) → Each (RowFits s) rs → rows_of (temps_members rs) ≡ Some rs
  temps_back [] h = refl
  temps_back (r ∷ rs) h = rw (value_back r.1 h.0) (ap (option_map (λ qs. r ∷ qs)) (temps_back rs h.1))

  module _ (story : StoryFits s) where
    -- ---- places

    place_back : (p : List Part) → PlaceFits s p → all_of part_of (items_of (map part_data p)) ≡ Some p
    place_back p h = list_back part_of part_data PartNarrow part_back p (place_narrow s story p h)

    any_place_back : (p : Option (List Part)) → AnyPlace s p → any_place_of (place_or_null p) ≡ Some p
    any_place_back None h = refl
    any_place_back (Some p) h = ap (option_map (λ q. Some q)) (place_back p h)

    -- ---- frames and threads

    abbrev pub FrameSpells : FrameOf (List Part) → Type 0
    FrameSpells f = FrameFits s f × AnyPlace s f.place

    frame_back : Back frame_of frame_data unnumbered_frame FrameSpells
    frame_back f h = rw (kind_back f.kind, any_place_back f.place h.1, temps_back f.temps h.0.each) refl

    pub record ThreadSpells (t : ThreadOf (List Part)) : Type 0 where
      pub frames : Each FrameSpells (t.frame ∷ t.below)
      pub previous : AnyPlace s t.previous

    thread_back : Back thread_in thread_data unnumbered_thread ThreadSpells
    thread_back t h =
        rw (
          all_back frame_of frame_data unnumbered_frame FrameSpells frame_back (reverse (t.frame ∷ t.below)) (each_reverse FrameSpells (t.frame ∷ t.below) h.frames),
          any_place_back t.previous h.previous,
          map_turned unnumbered_frame (t.frame ∷ t.below),
        ) refl

    thread_spells : (t : ThreadOf (List Part)) → ThreadFits s t → AnyPlace s t.frame.place → ThreadSpells t
    thread_spells t h k = record {
      frames = ((h.frame, k), each_of (FrameStands s) FrameSpells (λ f g. (g.0, any_of s f.place g.1)) t.below h.below);
      previous = h.previous;
    }

    pub thread_stands : (t : ThreadOf (List Part)) → ThreadStands s t → ThreadSpells t
    thread_stands t h = thread_spells t h.thread (any_of s t.frame.place h.place)

    flow_place : (o : Option (List Part)) (ts : List (ThreadOf (List Part))) → FlowStands s o ts → AnyPlace s o
    flow_place None ts h = tt
    flow_place (Some p) ts h = h

    -- ---- configurations

    choice_back : Back choice_of choice_data unnumbered_choice (ChoiceFits s)
    choice_back c h =
        let tags = list_back text_of string (λ t. IsTrue (fits_text t)) (λ t k. refl) c.tags h.tags in
        rw (tags, place_back c.target h.target, thread_back c.thread (thread_stands c.thread h.thread)) refl

    pub counted_stands : (flag : ℕ → Bool) (least : ℕ) (r : List Part × ℕ) → flag 0 ≡ false → RowCounts s flag least r → PlaceFits s r.0
    counted_stands flag least r none h = stands_fits s r.0 ((elim (at s r.0) as (λ o. flag (flags_at o) ≡ true → is_some o ≡ true) [ None ↦ λ e. absurd (true≢false (sym e ∙ none)) | Some t ↦ λ e. refl ]) h.flagged)

    choices_back : (f : FlowOf (List Part)) → FlowSound s f → all_of choice_of (items_of (map choice_data f.choices)) ≡ Some (map unnumbered_choice f.choices)
    choices_back f h = all_back choice_of choice_data unnumbered_choice (ChoiceFits s) choice_back f.choices h.choices.each

    stack_back : (f : FlowOf (List Part)) → FlowSound s f → all_of value_of (items_of (map value_data f.stack)) ≡ Some f.stack
    stack_back f h = list_back value_of value_data (ValueFits s) value_back f.stack h.stack.each

    pub threads_spell : (f : FlowOf (List Part)) → FlowSound s f → Each ThreadSpells (f.threads.thread ∷ f.threads.below)
    threads_spell f h = (
      thread_spells f.threads.thread h.threads.thread (flow_place f.threads.thread.frame.place f.threads.below h.threads.flow),
      each_of (ThreadStands s) ThreadSpells thread_stands f.threads.below h.threads.below,
    )

    threads_back : (f : FlowOf (List Part)) → FlowSound s f
        → all_of thread_in (items_of (map thread_data (reverse (f.threads.thread ∷ f.threads.below)))) ≡ Some (map unnumbered_thread (reverse (f.threads.thread ∷ f.threads.below)))
    threads_back f h =
        all_back thread_in thread_data unnumbered_thread ThreadSpells thread_back (reverse (f.threads.thread ∷ f.threads.below))
        (each_reverse ThreadSpells (f.threads.thread ∷ f.threads.below) (threads_spell f h))

    globals_back : (c : Configuration) → Sound s c → all_of (pair_of text_of value_of) (items_of (map global_data c.shared.globals)) ≡ Some c.shared.globals
    globals_back c h = list_back (pair_of text_of value_of) global_data (RowFits s) (λ e k. rw (value_back e.1 k) refl) c.shared.globals h.shared.globals.each

    counts_back : (flag : ℕ → Bool) (least : ℕ) (rows : List (List Part × ℕ)) → flag 0 ≡ false → Each (RowCounts s flag least) rows → all_of (pair_of place_of count_of) (items_of (map row_data rows)) ≡ Some rows
    counts_back flag least rows none h = list_back (pair_of place_of count_of) row_data (λ r. PlaceFits s r.0) (λ r k. rw (place_back r.0 k) refl) rows
        (each_of (RowCounts s flag least) (λ r. PlaceFits s r.0) (λ r k. counted_stands flag least r none k) rows h)

    -- layout 1
    old_back : (x : Configuration) → Sound s x → unspelled (old_spelling x) ≡ Some (alone (settled x))
    unfolding settled
    old_back x h =
        rw (
          choices_back x.flow h.flow,
          globals_back x h,
          stack_back x.flow h.flow,
          threads_back x.flow h.flow,
          counts_back notes_turns 0 x.shared.counts.turns refl h.shared.counts.turns.each,
          counts_back counts_visits 1 x.shared.counts.visits refl h.shared.counts.visits.each,
          map_turned unnumbered_thread (x.flow.threads.thread ∷ x.flow.threads.below),
        ) refl

    -- ---- layout 2

    abbrev settled_row : List ℕ × FlowOf (List Part) → List ℕ × FlowOf (List Part)
    settled_row r = (r.0, unnumbered_flow r.1)

    named_flow_back : Back named_flow_of named_flow_data settled_row (λ r. FlowSound s r.1)
    named_flow_back r h =
        rw (choices_back r.1 h, stack_back r.1 h, threads_back r.1 h, map_turned unnumbered_thread (r.1.threads.thread ∷ r.1.threads.below)) refl

    -- the flows that stand aside, without the numbers of Enters
    abbrev settled_aside : Aside → Aside
    settled_aside rows = each (option_map unnumbered_flow) rows

    abbrev settled_game : Game → Game
    settled_game g = record { now = settled g.now; aside = settled_aside g.aside }

    abbrev RowSound : List ℕ × Option (FlowOf (List Part)) → Type 0
    RowSound r = IsTrue (is_flow_name r.0) × PartsFit s r.1

    pub flows_sound : (f : FlowOf (List Part)) (rows : Aside) → FlowSound s f → Each RowSound rows → Each (λ r. FlowSound s r.1) (all_flows f rows)
    flows_sound f [] k h = tt
    flows_sound f ((n, None) ∷ rows) k h = (k, flows_sound f rows k h.1)
    flows_sound f ((n, Some x) ∷ rows) k h = (h.0.1, flows_sound f rows k h.1)

    module _ (f : FlowOf (List Part)) where
      -- as they are read
      abbrev read_flows : Aside → Rows (FlowOf (List Part))
      read_flows rows = map settled_row (all_flows f rows)

      -- where the current one's name stands nowhere
      others_back : (current : List ℕ) (rows : Aside) → holes rows ≡ 0 → is_none (at_name current rows) ≡ true → aside_but current (read_flows rows) ≡ settled_aside rows
      others_back current [] h k = refl
      others_back current ((n, None) ∷ rows) h k = absurd (omega arith)
      others_back current ((n, Some x) ∷ rows) h k = elim (cases_Bool (bytes_eq current n)) [
        | inl e ↦ absurd (true≢false (sym (rw e at k)))
        | inr e ↦ rw e (ap (λ l. (n, Some (unnumbered_flow x)) ∷ l) (others_back current rows h (rw e at k)))
      ]

      current_there : (rows : Aside) → holes rows ≡ 1 → is_none (at_name (current_name rows) rows) ≡ false
      current_there [] h = absurd (omega arith)
      current_there ((n, None) ∷ rows) h = ap (λ b. is_none (cond b (Some None) (at_name n rows))) (its_name n)
      current_there ((n, Some x) ∷ rows) h =
          cond_both (bytes_eq (current_name rows) n) (Some (Some x)) (at_name (current_name rows) rows) (λ o. is_none o ≡ false) (λ _. refl) (λ _. current_there rows h)

      -- the current one has another name than stands nowhere among them
      current_other : (n : List ℕ) (rows : Aside) → is_none (at_name n rows) ≡ true → holes rows ≡ 1 → bytes_eq (current_name rows) n ≡ false
      current_other n rows none h = false_from_ne_true (bytes_eq (current_name rows) n)
          (λ e. true≢false (sym (ap (λ m. is_none (at_name m rows)) (same_name (current_name rows) n e) ∙ none) ∙ current_there rows h))

      record Found (rows : Aside) : Type 0 where
        current : at_name (current_name rows) (read_flows rows) ≡ Some (unnumbered_flow f)
        others : aside_but (current_name rows) (read_flows rows) ≡ settled_aside rows

      flows_back : (rows : Aside) → once rows ≡ true → holes rows ≡ 1 → Found rows
      flows_back [] names h = absurd (omega arith)
      flows_back ((n, None) ∷ rows) names h = record {
        current = ap (λ b. cond b (Some (unnumbered_flow f)) (at_name n (read_flows rows))) (its_name n);
        others =
            ap (λ b. (n, if b then None else Some (unnumbered_flow f)) ∷ aside_but n (read_flows rows)) (its_name n)
            ∙ ap (λ l. (n, None) ∷ l) (others_back n rows (omega arith) (and_parts (is_none (at_name n rows)) (once rows) names).0);
      }
      flows_back ((n, Some x) ∷ rows) names h =
          let parts = and_parts (is_none (at_name n rows)) (once rows) names in
          let rest = flows_back rows parts.1 h in
          let other = current_other n rows parts.0 h in
          record {
            current = ap (λ b. cond b (Some (unnumbered_flow x)) (at_name (current_name rows) (read_flows rows))) other ∙ rest.current;
            others =
                ap (λ b. (n, if b then None else Some (unnumbered_flow x)) ∷ aside_but (current_name rows) (read_flows rows)) other
                ∙ ap (λ l. (n, Some (unnumbered_flow x)) ∷ l) rest.others;
          }

    -- what is read of the members of a spelling
    spelled_back : (g : Game) → Sound s g.now → Each RowSound g.aside → unspelled (spelling g)
        ≡ game_spelled (record { current = current_name g.aside; flows = read_flows g.now.flow g.aside; shared = g.now.shared })
    spelled_back g h k =
        rw (
          all_back named_flow_of named_flow_data settled_row (λ r. FlowSound s r.1) named_flow_back (all_flows g.now.flow g.aside) (flows_sound g.now.flow g.aside h.flow k),
          globals_back g.now h,
          counts_back notes_turns 0 g.now.shared.counts.turns refl h.shared.counts.turns.each,
          counts_back counts_visits 1 g.now.shared.counts.visits refl h.shared.counts.visits.each,
        ) refl

    pub spelling_back : (g : Game) → Sound s g.now → AsideSound s g.aside → unspelled (spelling g) ≡ Some (settled_game g)
    unfolding settled
    spelling_back g h k =
        let found = flows_back g.now.flow g.aside k.names k.current in
        spelled_back g h k.each
        ∙ ap (game_with (record { current = current_name g.aside; flows = read_flows g.now.flow g.aside; shared = g.now.shared })) found.current
        ∙ ap (λ rows. Some (record { now = record { flow = unnumbered_flow g.now.flow; shared = g.now.shared; page = empty_page }; aside = rows })) found.others

    -- ---- as which game a value reads

    rows_sound : (rows : Aside) → Each (NamedFits s) rows → Each RowSound rows
    rows_sound [] h = tt
    rows_sound ((n, None) ∷ rows) h = (h.0, rows_sound rows h.1)
    rows_sound ((n, Some f) ∷ rows) h = ((h.0.0, h.0.1.0), rows_sound rows h.1)

    pub aside_sound : (rows : Aside) → AsideFits s rows → AsideSound s rows
    aside_sound rows h = record { first = h.first; names = h.names; current = h.current; few = h.few; each = rows_sound rows h.each }

    rows_rest : (rows : Aside) → Each (NamedFits s) rows → settled_aside rows ≡ rows
    rows_rest [] h = refl
    rows_rest ((n, None) ∷ rows) h = ap (λ l. (n, None) ∷ l) (rows_rest rows h.1)
    rows_rest ((n, Some f) ∷ rows) h = (λ i. (n, Some (h.0.1.1 i)) ∷ rows_rest rows h.1 i)

    rows_fit : (rows : Aside) → Each RowSound rows → settled_aside rows ≡ rows → Each (NamedFits s) rows
    rows_fit [] h e = tt
    rows_fit ((n, None) ∷ rows) h e =
        let rest : settled_aside rows ≡ rows = cc in
        (h.0, rows_fit rows h.1 rest)
    rows_fit ((n, Some f) ∷ rows) h e =
        let here : Some (Some (unnumbered_flow f)) ≡ Some (Some f) = ap (λ (l : Aside). option_map (λ r. r.1) (slice_get l 0)) e in
        let first : unnumbered_flow f ≡ f = cc in
        let rest : settled_aside rows ≡ rows = cc in
        ((h.0.0, (h.0.1, first)), rows_fit rows h.1 rest)

    spells_back : (j : Data) (g : Game) → Spells j g → Sound s g.now → AsideSound s g.aside → unspelled j ≡ Some (settled_game g)
    spells_back j g (inl e) h k = ap unspelled e ∙ spelling_back g h k
    spells_back j g (inr e) h k = ap unspelled e.0 ∙ old_back g.now h ∙ ap (λ rows. Some (record { now = settled g.now; aside = settled_aside rows })) (sym e.1)

    pub reads_back : (j : Data) (g : Game) → Reads s j g → unspelled j ≡ Some g
    reads_back j g h =
        let rest = rows_rest g.aside h.stands.aside.each in
        spells_back j g h.spells h.stands.sound (aside_sound g.aside h.stands.aside) ∙ (λ i. Some (record { now = h.stands.rests i; aside = rest i }))

    pub reads_so : (j : Data) (g : Game) → unspelled j ≡ Some g → Sound s g.now → AsideSound s g.aside → Reads s j g
    reads_so j g e h k =
        let spells = unspelled_reads j g e k.current in
        let both : Some (settled_game g) ≡ Some g = sym (spells_back j g spells h k) ∙ e in
        let same : settled_game g ≡ g = cc in
        record {
          spells = spells;
          stands = record {
            sound = h;
            rests = ap (λ (m : Game). m.now) same;
            aside = record { first = k.first; names = k.names; current = k.current; few = k.few; each = rows_fit g.aside k.each (ap (λ (m : Game). m.aside) same) };
          };
        }

    -- a JSON value reads as one game
    pub reads_one : (j : Data) (g k : Game) → Reads s j g → Reads s j k → g ≡ k
    reads_one j g k h i = let both : Some g ≡ Some k = sym (reads_back j g h) ∙ reads_back j k i in cc
