-- What is read of a save has no frame with the number of an Enter.
use Rattle.std.proofs.Common.{◌≡◌, ◌∙◌, ap, refl, sym, subst, ℕ, List, [], ◌∷◌, ◌++◌, map, reverse, codes, Bool, Option, Some, None, IfSome, Result, Ok, Err, IfOk}
use Rattle.std.proofs.lemmas.List.{map-append, reverse-append}
use Rattle.std.specs.List.{AllByRecursion as Each}
use Rattle.std.specs.Option.{option_map, option_or}
use Rattle.serde_json.specs.Data.{Data, array, object, Items, no_items, item, Members, no_members, member}
use Rattle.ink_model.specs.Run.Configuration.{ChoiceOf, Configuration, FlowOf, settled, unnumbered_choice, unnumbered_flow}
use Rattle.ink_model.specs.Flow.Frames.{FrameOf, ThreadOf, ThreadsOf, unnumbered_frame, unnumbered_thread, unnumbered_threads}
use Rattle.ink_model.specs.Text.Output.{empty_page}
use Rattle.ink_model.specs.declared.place.Part.{Part}
use Rattle.ink_model.specs.declared.value.Value.{Value}
use Rattle.ink_model.specs.Save.Reads.{Rests}
use Rattle.ink_model.specs.Save.Unspelled.{Layout, First, Second, Spelled, all_of, any_place_of, choice_of, closed, count_of, format_of, frame_of, kind_of, layout_by, list_of, named_flow_of, next_named, pair_of, place_of, spelled_by, take, temps_of, text_of, thread_in, thread_with, threads_with, truth_of, unspelled_by, value_of}
use Rattle.ink_spelling.specs.Layouts.{Rest, layout_as}
use Rattle.ink_spelling.specs.declared.layout.SavedLayout.{SavedLayout}
use Rattle.ink_spelling.proofs.Asking.{bind_some}

-- ---- members and lists

closed_is : {B : Type 0} (y z : B) (ms : Members) → closed y ms ≡ Some z → y ≡ z
closed_is y z no_members e = cc
closed_is y z (member k d ms) e = absurd cc

-- the first member is read, and what it is and what comes behind it tells
taken : {A B : Type 0} (P : Type 0) (k : List ℕ) (f : Data → Option A) (so : A → Members → Option B) (ms : Members) (y : B) → take k f so ms ≡ Some y
    → ((d : Data) (x : A) (rest : Members) → f d ≡ Some x → so x rest ≡ Some y → P) → P
taken P k f so ms y e tells =
    let found = bind_some (next_named k ms) _ y e in
    let read = bind_some (f found.0.0) (λ x. so x found.0.1) y found.2 in
    tells found.0.0 read.0 found.0.1 read.1 read.2

map_some : {A B : Type 0} (o : Option A) (f : A → B) (y : B) → option_map f o ≡ Some y → (x : A) × (o ≡ Some x) × (f x ≡ y)
map_some None f y e = absurd cc
map_some (Some x) f y e = (x, refl, cc)

module _ {A : Type 0} (f : Data → Option A) (P : A → Type 0) (h : (d : Data) (x : A) → f d ≡ Some x → P x) where
  all_hold : (ds : Items) (xs : List A) → all_of f ds ≡ Some xs → Each P xs
  all_hold no_items xs e = let same : [] ≡ xs = cc in subst (Each P) same tt
  all_hold (item d ds) xs e =
      let first = bind_some (f d) (λ x. option_map (λ ys. x ∷ ys) (all_of f ds)) xs e in
      let rest = map_some (all_of f ds) (λ ys. first.0 ∷ ys) xs first.2 in
      subst (Each P) rest.2 (h d first.0 first.1, all_hold ds rest.0 rest.1)

  each_read : (d : Data) (xs : List A) → list_of f d ≡ Some xs → Each P xs
  each_read (array ds) xs e = all_hold ds xs e
  each_read d xs e = absurd cc

-- what n leaves as it is
each_same : {A : Type 0} (n : A → A) (xs : List A) → Each (λ x. n x ≡ x) xs → map n xs ≡ xs
each_same n [] h = refl
each_same n (x ∷ xs) h = ap (λ y. y ∷ map n xs) h.0 ∙ ap (λ ys. x ∷ ys) (each_same n xs h.1)

turned : {A : Type 0} (n : A → A) (xs : List A) → Each (λ x. n x ≡ x) xs → map n (reverse xs) ≡ reverse xs
turned n [] h = refl
turned n (x ∷ xs) h =
    ap (map n) (reverse-append (x ∷ []) xs) ∙ map-append n (reverse xs) (x ∷ []) ∙ ap (λ ys. ys ++ n x ∷ []) (turned n xs h.1)
    ∙ ap (λ y. reverse xs ++ y ∷ []) h.0 ∙ sym (reverse-append (x ∷ []) xs)

-- ---- frames and threads

frame_same : (d : Data) (f : FrameOf (List Part)) → frame_of d ≡ Some f → unnumbered_frame f ≡ f
frame_same (object ms) f e =
    let P : Type 0 = unnumbered_frame f ≡ f in
    taken P (codes "depth") count_of _ ms f e (λ d opened rest is e.
    taken P (codes "eval") truth_of _ rest f e (λ d evaluating rest is e.
    taken P (codes "fresh") truth_of _ rest f e (λ d fresh rest is e.
    taken P (codes "kind") kind_of _ rest f e (λ d kind rest is e.
    taken P (codes "place") any_place_of _ rest f e (λ d place rest is e.
    taken P (codes "temps") temps_of _ rest f e (λ d temps rest is e.
    subst (λ g. unnumbered_frame g ≡ g) (closed_is _ f rest e) refl))))))
frame_same d f e = absurd cc

with_frames : (fs : List (FrameOf (List Part))) (p : Option (List Part)) (t : ThreadOf (List Part)) → map unnumbered_frame fs ≡ fs → thread_with fs p ≡ Some t → unnumbered_thread t ≡ t
with_frames [] p t h e = absurd cc
with_frames (f ∷ fs) p t h e =
    let same : record { frame = f; below = fs; previous = p } ≡ t = cc in
    let top : unnumbered_frame f ≡ f = cc in
    let below : map unnumbered_frame fs ≡ fs = cc in
    subst (λ u. unnumbered_thread u ≡ u) same
    (λ i. record { frame = top i; below = below i; previous = p })

thread_same : (d : Data) (t : ThreadOf (List Part)) → thread_in d ≡ Some t → unnumbered_thread t ≡ t
thread_same (object ms) t e =
    let P : Type 0 = unnumbered_thread t ≡ t in
    taken P (codes "frames") (list_of frame_of) _ ms t e (λ d fs rest is e.
    taken P (codes "previous") any_place_of _ rest t e (λ there p rest at e.
    let made = bind_some (thread_with (reverse fs) p) (λ u. closed u rest) t e in
    subst (λ u. unnumbered_thread u ≡ u) (closed_is made.0 t rest made.2)
    (with_frames (reverse fs) p made.0 (turned unnumbered_frame fs (each_read frame_of (λ f. unnumbered_frame f ≡ f) frame_same d fs is)) made.1)))
thread_same d t e = absurd cc

with_threads : (us : List (ThreadOf (List Part))) (ts : ThreadsOf (List Part)) → map unnumbered_thread us ≡ us → threads_with us ≡ Some ts → unnumbered_threads ts ≡ ts
with_threads [] ts h e = absurd cc
with_threads (u ∷ us) ts h e =
    let same : record { thread = u; below = us } ≡ ts = cc in
    let top : unnumbered_thread u ≡ u = cc in
    let below : map unnumbered_thread us ≡ us = cc in
    subst (λ vs. unnumbered_threads vs ≡ vs) same
    (λ i. record { thread = top i; below = below i })

threads_same : (d : Data) (us : List (ThreadOf (List Part))) (ts : ThreadsOf (List Part)) → list_of thread_in d ≡ Some us → threads_with (reverse us) ≡ Some ts → unnumbered_threads ts ≡ ts
threads_same d us ts is e = with_threads (reverse us) ts (turned unnumbered_thread us (each_read thread_in (λ t. unnumbered_thread t ≡ t) thread_same d us is)) e

-- ---- choices and flows

choice_same : (d : Data) (c : ChoiceOf (List Part)) → choice_of d ≡ Some c → unnumbered_choice c ≡ c
choice_same (object ms) c e =
    let P : Type 0 = unnumbered_choice c ≡ c in
    taken P (codes "hidden") truth_of _ ms c e (λ d hidden rest is e.
    taken P (codes "tags") (list_of text_of) _ rest c e (λ d tags rest is e.
    taken P (codes "target") place_of _ rest c e (λ d target rest is e.
    taken P (codes "text") text_of _ rest c e (λ d text rest is e.
    taken P (codes "thread") thread_in _ rest c e (λ d thread rest is e.
    subst (λ x. unnumbered_choice x ≡ x) (closed_is _ c rest e)
    (ap (λ t. record { text = text; tags = tags; target = target; hidden = hidden; thread = t }) (thread_same d thread is)))))))
choice_same d c e = absurd cc

choices_same : (d : Data) (cs : List (ChoiceOf (List Part))) → list_of choice_of d ≡ Some cs → map unnumbered_choice cs ≡ cs
choices_same d cs is = each_same unnumbered_choice cs (each_read choice_of (λ c. unnumbered_choice c ≡ c) choice_same d cs is)

flow_same : (choices : List (ChoiceOf (List Part))) (safe : Bool) (stack : List Value) (ts : ThreadsOf (List Part)) → map unnumbered_choice choices ≡ choices → unnumbered_threads ts ≡ ts
    → (let f : FlowOf (List Part) = record { threads = ts; stack = stack; choices = choices; safe = safe } in unnumbered_flow f ≡ f)
flow_same choices safe stack ts h k =
    λ i. record { threads = k i; stack = stack; choices = h i; safe = safe }

named_same : (d : Data) (r : List ℕ × FlowOf (List Part)) → named_flow_of d ≡ Some r → unnumbered_flow r.1 ≡ r.1
named_same (object ms) r e =
    let P : Type 0 = unnumbered_flow r.1 ≡ r.1 in
    taken P (codes "choices") (list_of choice_of) _ ms r e (λ offered choices rest made e.
    taken P (codes "name") text_of _ rest r e (λ d name rest is e.
    taken P (codes "safe") truth_of _ rest r e (λ d safe rest is e.
    taken P (codes "stack") (list_of value_of) _ rest r e (λ d stack rest is e.
    taken P (codes "threads") (list_of thread_in) _ rest r e (λ d threads rest is e.
    let found = bind_some (threads_with (reverse threads)) _ r e in
    subst (λ q. unnumbered_flow q.1 ≡ q.1) (closed_is _ r rest found.2)
    (flow_same choices safe stack found.0 (choices_same offered choices made) (threads_same d threads found.0 is found.1)))))))
named_same d r e = absurd cc

-- ---- layouts

first_rests : (ms : Members) (c : Configuration) → unspelled_by ms ≡ Some c → Rests c
unfolding settled
first_rests ms c e =
    let P : Type 0 = Rests c in
    taken P (codes "choices") (list_of choice_of) _ ms c e (λ offered choices rest made e.
    taken P (codes "format") (format_of 1) _ rest c e (λ d one rest is e.
    taken P (codes "globals") (list_of (pair_of text_of value_of)) _ rest c e (λ d globals rest is e.
    taken P (codes "safe") truth_of _ rest c e (λ d safe rest is e.
    taken P (codes "stack") (list_of value_of) _ rest c e (λ d stack rest is e.
    taken P (codes "threads") (list_of thread_in) _ rest c e (λ there threads rest run e.
    taken P (codes "turn") count_of _ rest c e (λ d turn rest is e.
    taken P (codes "turns") (list_of (pair_of place_of count_of)) _ rest c e (λ d turns rest is e.
    taken P (codes "visits") (list_of (pair_of place_of count_of)) _ rest c e (λ d visits rest is e.
    let found = bind_some (threads_with (reverse threads)) _ c e in
    subst Rests (closed_is _ c rest found.2)
    (ap (λ f. record { flow = f; shared = record { globals = globals; counts = record { visits = visits; turns = turns }; turn = turn }; page = empty_page })
    (flow_same choices safe stack found.0 (choices_same offered choices made) (threads_same there threads found.0 run found.1))))))))))))

second_rests : (ms : Members) (x : Spelled) → spelled_by ms ≡ Some x → Each (λ r. unnumbered_flow r.1 ≡ r.1) x.flows
second_rests ms x e =
    let P : Type 0 = Each (λ r. unnumbered_flow r.1 ≡ r.1) x.flows in
    taken P (codes "current") text_of _ ms x e (λ d current rest is e.
    taken P (codes "flows") (list_of named_flow_of) _ rest x e (λ there flows rest made e.
    taken P (codes "format") (format_of 2) _ rest x e (λ d two rest is e.
    taken P (codes "globals") (list_of (pair_of text_of value_of)) _ rest x e (λ d globals rest is e.
    taken P (codes "turn") count_of _ rest x e (λ d turn rest is e.
    taken P (codes "turns") (list_of (pair_of place_of count_of)) _ rest x e (λ d turns rest is e.
    taken P (codes "visits") (list_of (pair_of place_of count_of)) _ rest x e (λ d visits rest is e.
    subst (λ y. Each (λ r. unnumbered_flow r.1 ≡ r.1) y.flows) (closed_is _ x rest e)
    (each_read named_flow_of (λ r. unnumbered_flow r.1 ≡ r.1) named_same there flows made))))))))

layout_rests : (ms : Members) (l : Layout) → layout_by ms ≡ Some l → Rest l
layout_rests ms l e = by (spelled_by ms) refl (unspelled_by ms) refl e
  where
    by : (x : Option Spelled) → spelled_by ms ≡ x → (o : Option Configuration) → unspelled_by ms ≡ o → option_or (option_map Second x) (option_map First o) ≡ Some l → Rest l
    by (Some x) is o was e = let same : Second x ≡ l = cc in subst Rest same (second_rests ms x is)
    by None is (Some c) was e = let same : First c ≡ l = cc in subst Rest same (first_rests ms c was)
    by None is None was e = absurd cc

-- of what members spell
pub read_rests : {E : Type 0} (ms : Members) (r : Result (Option SavedLayout) E) → IfOk r (λ saved. option_map layout_as saved ≡ layout_by ms) → IfOk r (λ saved. IfSome saved (λ l. Rest (layout_as l)))
read_rests ms (Ok None) h = tt
read_rests ms (Ok (Some l)) h = layout_rests ms (layout_as l) (sym h)
read_rests ms (Err e) h = tt
