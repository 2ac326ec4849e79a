-- A save that a player gives tells where it stands.
use Rattle.std.proofs.Common.{◌≡◌, ◌∙◌, ap, sym, refl, arith, ℕ, ◌^◌, List, [], ◌∷◌, ◌++◌, map, reverse, codes, Bool, true, false, true≢false, bytes_eq, cond, if◌then◌else◌, inl, inr, Option, Some, None, is_none, option_map, option_and_then}
use Rattle.std.proofs.lemmas.Bool.{cond_both, lt-ltb}
use Rattle.std.proofs.lemmas.List.{reverse-append}
use Rattle.std.specs.List.{AllByRecursion as Each}
use Rattle.ink_reader.proofs.Common.{Data, Saves, StoryTree}
use Rattle.serde_json.specs.Find.{get}
use Rattle.ink_model.specs.Run.Configuration.{Configuration, FlowOf}
use Rattle.ink_model.specs.Host.Events.{items_of}
use Rattle.ink_model.specs.Run.Flows.{Aside, all_flows, current_name, holes}
use Rattle.ink_model.specs.Flow.Frames.{ThreadsOf}
use Rattle.ink_model.specs.Variables.Named.{at, once}
use Rattle.ink_model.specs.Save.Sound.{AnyPlace, FlowStands, ThreadsFit}
use Rattle.ink_model.specs.Save.Spelling.{frame_data, named_flow_data, part_data, place_or_null, spelling, thread_data}
use Rattle.ink_model.specs.Save.Unspelled.{all_of, part_of, place_of}
use Rattle.ink_model.specs.Protocol.Session.{SavesFrom}
use Rattle.ink_model.specs.Protocol.State.{Condition, Ready, Broken}
use Rattle.ink_model.specs.declared.place.Part.{Part}
use Rattle.ink_model.specs.declared.place.Part.TheVariants.{Index, Name}
use Rattle.ink_sound.specs.Kept.{ConditionFits, StoryFits}
use Rattle.ink_sound.proofs.Named.{its_name, same_name}
use Rattle.ink_sound.proofs.Narrow.{PartNarrow, place_narrow}
use Rattle.std.proofs.lemmas.Bool.{and_parts}
use Rattle.ink_reader.specs.Whereabouts.{SavesTellPlaces, flow_named, last_in, last_item, path_of, path_to, stands_at, top_frame}

-- ---- the current flow

-- one of the names stands nowhere but at the current flow
there : (rows : Aside) → holes rows ≡ 1 → is_none (at (current_name rows) rows) ≡ false
there [] h = absurd (omega arith)
there ((n, None) ∷ rows) h = ap (λ b. is_none (cond b (Some None) (at n rows))) (its_name n)
there ((n, Some x) ∷ rows) h =
    cond_both (bytes_eq (current_name rows) n) (Some (Some x)) (at (current_name rows) rows) (λ o. is_none o ≡ false) (λ _. refl) (λ _. there rows h)

other : (n : List ℕ) (rows : Aside) → is_none (at n rows) ≡ true → holes rows ≡ 1 → bytes_eq (current_name rows) n ≡ false
other n rows none h = by (bytes_eq (current_name rows) n) refl
  where
    by : (b : Bool) → bytes_eq (current_name rows) n ≡ b → bytes_eq (current_name rows) n ≡ false
    by true e = absurd (true≢false (sym (ap (λ m. is_none (at m rows)) (same_name (current_name rows) n e) ∙ none) ∙ there rows h))
    by false e = e

flow_found : (f : FlowOf (List Part)) (rows : Aside) → once rows ≡ true → holes rows ≡ 1
    → flow_named (current_name rows) (items_of (map named_flow_data (all_flows f rows))) ≡ Some (named_flow_data (current_name rows, f))
flow_found f [] names h = absurd (omega arith)
flow_found f ((n, None) ∷ rows) names h =
    ap (λ b. if b then Some (named_flow_data (n, f)) else flow_named n (items_of (map named_flow_data (all_flows f rows)))) (its_name n)
flow_found f ((n, Some x) ∷ rows) names h =
    ap (λ b. if b then Some (named_flow_data (n, x)) else flow_named (current_name rows) (items_of (map named_flow_data (all_flows f rows))))
    (other n rows (and_parts (is_none (at n rows)) (once rows) names).0 h)
    ∙ flow_found f rows (and_parts (is_none (at n rows)) (once rows) names).1 h

-- ---- what is last

last_behind : {A : Type 0} (g : A → Data) (xs : List A) (x : A) → last_item (items_of (map g (xs ++ x ∷ []))) ≡ Some (g x)
last_behind g [] x = refl
last_behind g (y ∷ []) x = refl
last_behind g (y ∷ z ∷ zs) x = last_behind g (z ∷ zs) x

last_first : {A : Type 0} (g : A → Data) (x : A) (xs : List A) → last_item (items_of (map g (reverse (x ∷ xs)))) ≡ Some (g x)
last_first g x xs = ap (λ ys. last_item (items_of (map g ys))) (reverse-append (x ∷ []) xs) ∙ last_behind g (reverse xs) x

top : (n : List ℕ) (f : FlowOf (List Part)) → top_frame (named_flow_data (n, f)) ≡ Some (frame_data f.threads.thread.frame)
top n f =
    ap (λ thread. option_and_then (last_in (codes "frames")) thread) (last_first thread_data f.threads.thread f.threads.below)
    ∙ last_first frame_data f.threads.thread.frame f.threads.thread.below

-- ---- its place

parts_back : (p : List Part) → Each PartNarrow p → all_of part_of (items_of (map part_data p)) ≡ Some p
parts_back [] h = refl
parts_back (Index i ∷ p) h = rw (lt-ltb i (2 ^ 32) h.0) (ap (option_map (λ q. Index i ∷ q)) (parts_back p h.1))
parts_back (Name n ∷ p) h = ap (option_map (λ q. Name n ∷ q)) (parts_back p h.1)

place_back : (s : StoryTree) → StoryFits s → (p : Option (List Part)) → AnyPlace s p → place_of (place_or_null p) ≡ p
place_back s story None h = refl
place_back s story (Some p) h = parts_back p (place_narrow s story p h)

save_tells : (s : StoryTree) → StoryFits s → (c : Configuration) (rows : Aside) → once rows ≡ true → holes rows ≡ 1 → AnyPlace s c.flow.threads.thread.frame.place
    → path_of (spelling (record { now = c; aside = rows })) ≡ option_map path_to c.flow.threads.thread.frame.place
save_tells s story c rows names one_hole fits =
    ap (λ flow. option_map path_to (option_and_then place_of (option_and_then (get (codes "place")) (option_and_then top_frame flow)))) (flow_found c.flow rows names one_hole)
    ∙ ap (λ frame. option_map path_to (option_and_then place_of (option_and_then (get (codes "place")) frame))) (top (current_name rows) c.flow)
    ∙ ap (option_map path_to) (place_back s story c.flow.threads.thread.frame.place fits)

place_fits : (s : StoryTree) (ts : ThreadsOf (List Part)) → ThreadsFit s ts → AnyPlace s ts.thread.frame.place
place_fits s ts h = by ts.thread.frame.place h.flow
  where
    by : (p : Option (List Part)) → FlowStands s p ts.below → AnyPlace s p
    by None k = tt
    by (Some p) k = k

pub saves_tell : SavesTellPlaces
saves_tell s story old new fits j save = by old.condition fits.condition save
  where
    by : (k : Condition) → ConditionFits s k → SavesFrom k old (Saves j) new → path_of j ≡ stands_at k
    by (Broken f globals) h e = absurd cc
    by (Ready c) h (inl e) =
        let spelled : spelling (record { now = c; aside = old.aside }) ≡ j = cc in
        ap path_of (sym spelled) ∙ save_tells s story c old.aside fits.aside.names fits.aside.current (place_fits s c.flow.threads h.0.flow.threads)
    by (Ready c) h (inr e) = absurd cc
