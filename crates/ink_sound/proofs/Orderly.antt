-- The spelling of a sound game has small integers, and names that rise: so its text is read back.
use Rattle.std.proofs.Common.{IsTrue, lit≤, arith, ℕ, List, [], ◌∷◌, map, reverse, Option, Some, None, ◌≡◌, ◌∙◌, ap, sym, refl, ◌<◌, ◌^◌, ℤ, pos, negsuc, ◌++◌, append_assoc, codes, cond, Bool, true, false}
use Rattle.serde_json.specs.Data.{Data, string, object}
use Rattle.ink_sound.proofs.Common.{fits_text, and_from, and_parts, ChoiceOf, FlowOf, items_of, Game, all_flows, FrameOf, ThreadOf, value_data, FrameKind, Base, Part, Index, Name, Value, choice_data, frame_data, global_data, kind_data, named_flow_data, part_data, place_data, place_or_null, row_data, spelling, temps_members, thread_data, nat_tests, of_integer, counts_visits, notes_turns, is_small, StoryTree, Stands, StoryFits, Each, is_before, name_order, rows_rise, AnyPlace, ChoiceFits, FlowSound, PlaceFits, RowCounts, RowFits, ValueFits}
use Rattle.ink_model.specs.declared.value.Value.TheVariants as value
use Rattle.std.specs.Str.{is_utf8}
use Rattle.serde_json.specs.Written.{compact_text}
use Rattle.serde_json.proofs.OnLiterals.{serde_json_on_literals}
use Rattle.ink_model.specs.Protocol.Answer.{Saves, answer}
use Rattle.ink_model.specs.Protocol.Command.{Load, command_of, command_word, json_of}
use Rattle.ink_sound.proofs.Flat.{spelling_flat}
use Rattle.ink_sound.proofs.Narrow.{PartNarrow, place_narrow}
use Rattle.ink_sound.proofs.Offers.{each_reverse}
use Rattle.ink_sound.proofs.Rereading.{AreOrderly, InRange, IsOrderly, HasOrderly, is_first, names_rise, text_back}
use Rattle.ink_sound.proofs.Respelling.{FrameSpells, ThreadSpells, aside_sound, counted_stands, flows_sound, frame_small, thread_stands, threads_spell}

items_orderly : {A : Type 0} (f : A → Data) (P : A → Type 0) → ((x : A) → P x → IsOrderly (f x)) → (xs : List A) → Each P xs → AreOrderly (items_of (map f xs))
items_orderly f P h [] k = tt
items_orderly f P h (x ∷ xs) k = (h x k.0, items_orderly f P h xs k.1)

-- ---- values

small_range : (z : ℤ) → is_small z ≡ true → InRange (of_integer z)
small_range (pos n) h = grind (arith, nat_tests, h)
small_range (negsuc n) h = grind (arith, nat_tests, h)

kind_orderly : (k : FrameKind) → IsOrderly (kind_data k)
kind_orderly Base = tt
kind_orderly k = tt

part_orderly : (p : Part) → PartNarrow p → IsOrderly (part_data p)
part_orderly (Index i) h = omega (arith, h)
part_orderly (Name t) h = tt

first_name : (k : List ℕ) (rs : List (List ℕ × Value)) → is_before name_order k rs ≡ true → is_first k (temps_members rs) ≡ true
first_name k [] h = refl
first_name k (r ∷ rs) h = let parts = and_parts _ (is_before name_order k rs) h in and_from _ (is_first k (temps_members rs)) parts.0 (first_name k rs parts.1)

temps_rise : (rs : List (List ℕ × Value)) → rows_rise name_order rs ≡ true → names_rise (temps_members rs) ≡ true
temps_rise [] h = refl
temps_rise (r ∷ rs) h =
    let parts = and_parts (is_before name_order r.0 rs) (rows_rise name_order rs) h in
    and_from (is_first r.0 (temps_members rs)) (names_rise (temps_members rs)) (first_name r.0 rs parts.0) (temps_rise rs parts.1)

module _ (s : StoryTree) where
  value_orderly : (v : Value) → ValueFits s v → IsOrderly (value_data v)
  value_orderly (value.Int z) h = small_range z h
  value_orderly (value.Target p) h = (refl, (tt, tt))
  value_orderly (value.Pointer i n) h = (refl, (small_range i (frame_small s i h), (tt, tt)))
  value_orderly (value.Tag t) h = (refl, (tt, tt))
  value_orderly v h = tt

  temps_orderly : (rs : List (List ℕ × Value)) → Each (RowFits s) rs → HasOrderly (temps_members rs)
  temps_orderly [] h = tt
  temps_orderly (r ∷ rs) h = (value_orderly r.1 h.0, temps_orderly rs h.1)

  module _ (story : StoryFits s) where
    -- ---- places

    place_orderly : (p : List Part) → PlaceFits s p → IsOrderly (place_data p)
    place_orderly p h = items_orderly part_data PartNarrow part_orderly p (place_narrow s story p h)

    null_orderly : (p : Option (List Part)) → AnyPlace s p → IsOrderly (place_or_null p)
    null_orderly None h = tt
    null_orderly (Some p) h = place_orderly p h

    row_orderly : (flag : ℕ → Bool) (least : ℕ) (r : List Part × ℕ) → flag 0 ≡ false → RowCounts s flag least r → IsOrderly (row_data r)
    row_orderly flag least r none h = (place_orderly r.0 (counted_stands s story flag least r none h), (omega (arith, h.most), tt))

    -- ---- frames, threads and choices

    frame_orderly : (f : FrameOf (List Part)) → FrameSpells s story f → IsOrderly (frame_data f)
    frame_orderly f h =
        let opened : f.depth < 2 ^ 64 = omega (arith, h.0.depth) in
        let temps : IsOrderly (object (temps_members f.temps)) = (temps_rise f.temps h.0.rise, temps_orderly f.temps h.0.each) in
        (refl, (opened, (tt, (tt, (kind_orderly f.kind, (null_orderly f.place h.1, (temps, tt)))))))

    thread_orderly : (t : ThreadOf (List Part)) → ThreadSpells s story t → IsOrderly (thread_data t)
    thread_orderly t h =
        let fs = t.frame ∷ t.below in
        let frames = items_orderly frame_data (FrameSpells s story) frame_orderly (reverse fs) (each_reverse (FrameSpells s story) fs h.frames) in
        (refl, (frames, (null_orderly t.previous h.previous, tt)))

    choice_orderly : (c : ChoiceOf (List Part)) → ChoiceFits s c → IsOrderly (choice_data c)
    choice_orderly c h =
        let thread = thread_orderly c.thread (thread_stands s story c.thread h.thread) in
        let tags = items_orderly string (λ t. IsTrue (fits_text t)) (λ t k. tt) c.tags h.tags in
        (refl, (tt, (tags, (place_orderly c.target h.target, (tt, (thread, tt))))))

    -- ---- games

    named_flow_orderly : (r : List ℕ × FlowOf (List Part)) → FlowSound s r.1 → IsOrderly (named_flow_data r)
    named_flow_orderly r h =
        let choices = items_orderly choice_data (ChoiceFits s) choice_orderly r.1.choices h.choices.each in
        let stack = items_orderly value_data (ValueFits s) value_orderly r.1.stack h.stack.each in
        let ts = r.1.threads.thread ∷ r.1.threads.below in
        let threads = items_orderly thread_data (ThreadSpells s story) thread_orderly (reverse ts) (each_reverse (ThreadSpells s story) ts (threads_spell s story r.1 h)) in
        (refl, (choices, (tt, (tt, (stack, (threads, tt))))))

    spelling_orderly : (g : Game) → Stands s g → IsOrderly (spelling g)
    spelling_orderly g h =
        let shared = h.sound.shared in
        let rows = flows_sound s story g.now.flow g.aside h.sound.flow (aside_sound s story g.aside h.aside).each in
        let flows = items_orderly named_flow_data (λ r. FlowSound s r.1) named_flow_orderly (all_flows g.now.flow g.aside) rows in
        let globals = items_orderly global_data (RowFits s) (λ e k. (tt, (value_orderly e.1 k, tt))) g.now.shared.globals shared.globals.each in
        let turn : g.now.shared.turn < 2 ^ 64 = omega (arith, shared.turn) in
        let turns = items_orderly row_data (RowCounts s notes_turns 0) (λ r k. row_orderly notes_turns 0 r refl k) g.now.shared.counts.turns shared.counts.turns.each in
        let visits = items_orderly row_data (RowCounts s counts_visits 1) (λ r k. row_orderly counts_visits 1 r refl k) g.now.shared.counts.visits shared.counts.visits.each in
        (refl, (tt, (flows, (lit≤ tt, (globals, (turn, (turns, (visits, tt))))))))

    pub spelled_back : (g : Game) → Stands s g → json_of (compact_text (spelling g)) ≡ Some (spelling g)
    unfolding json_of
    spelled_back g h = text_back (spelling g) (spelling_orderly g h) (omega (arith, (spelling_flat g).0))

-- ---- lines

pub load_line : (j : Data) (c : ℕ) (cs : List ℕ) → compact_text j ≡ c ∷ cs → json_of (compact_text j) ≡ Some j → is_utf8 (codes "load " ++ compact_text j) ≡ true
    → command_of (codes "load " ++ compact_text j) ≡ Some (Load (Some j))
unfolding command_of
load_line j c cs some reads is_text =
    let line = codes "load " ++ compact_text j in
    ap (λ b. cond b (command_word line) None) is_text
    ∙ ap (λ text. command_word (codes "load " ++ text)) some ∙ ap (λ text. Some (Load (json_of text))) (sym some) ∙ ap (λ o. Some (Load o)) reads

pub saved_answer : (j : Data) → answer (Saves j) ≡ codes "{\"saved\":" ++ (compact_text j ++ codes "}\n")
unfolding answer serde_json_on_literals
saved_answer j = ap (λ text. codes "{\"saved\":" ++ text) (append_assoc (compact_text j) (125 ∷ []) (10 ∷ []))
