-- A spelling nests at most ten deep, and has no float.
use Rattle.std.proofs.Common.{◌≡◌, ◌≤◌, refl, arith, lit≤, ℕ, ℤ, pos, negsuc, List, [], ◌∷◌, map, reverse, false, Option, Some, None}
use Rattle.serde_json.specs.Data.{Data, Items, Members, number, string, depth, items_depth, members_depth}
use Rattle.ink_sound.proofs.Common.{of_integer, ChoiceOf, FlowOf, items_of, Game, all_flows, FrameOf, ThreadOf, value_data, FrameKind, Base, Part, Index, Name, Value, choice_data, frame_data, global_data, kind_data, named_flow_data, part_data, place_data, place_or_null, row_data, spelling, temps_members, thread_data}
use Rattle.serde_json.specs.Written.{has_float, items_have_float, members_have_float}
use Rattle.ink_model.specs.declared.value.Value.TheVariants as value

record Flat (n : ℕ) (d : Data) : Type 0 where
  deep : depth d ≤ n
  plain : has_float d ≡ false

record AreFlat (n : ℕ) (ds : Items) : Type 0 where
  deep : items_depth ds ≤ n
  plain : items_have_float ds ≡ false

record HasFlat (n : ℕ) (ms : Members) : Type 0 where
  deep : members_depth ms ≤ n
  plain : members_have_float ms ≡ false

items_flat : {A : Type 0} (f : A → Data) (n : ℕ) → ((x : A) → Flat n (f x)) → (xs : List A) → AreFlat n (items_of (map f xs))
items_flat f n h [] = record { deep = omega arith; plain = refl }
items_flat f n h (x ∷ xs) =
    let a = h x in
    let b = items_flat f n h xs in record { deep = grind (arith, a.deep, b.deep); plain = rw (a.plain, b.plain) refl }

integer_plain : (z : ℤ) → has_float (number (of_integer z)) ≡ false
integer_plain (pos n) = refl
integer_plain (negsuc n) = refl

value_flat : (v : Value) → Flat 1 (value_data v)
value_flat (value.Int z) = record { deep = lit≤ tt; plain = integer_plain z }
value_flat (value.Pointer i n) = record { deep = lit≤ tt; plain = rw (integer_plain i) refl }
value_flat v = record { deep = lit≤ tt; plain = refl }

part_flat : (p : Part) → Flat 0 (part_data p)
part_flat (Index i) = record { deep = lit≤ tt; plain = refl }
part_flat (Name n) = record { deep = lit≤ tt; plain = refl }

place_flat : (p : List Part) → Flat 1 (place_data p)
place_flat p = let a = items_flat part_data 0 part_flat p in record { deep = omega (arith, a.deep); plain = a.plain }

null_flat : (p : Option (List Part)) → Flat 1 (place_or_null p)
null_flat None = record { deep = lit≤ tt; plain = refl }
null_flat (Some p) = place_flat p

kind_flat : (k : FrameKind) → Flat 0 (kind_data k)
kind_flat Base = record { deep = lit≤ tt; plain = refl }
kind_flat k = record { deep = lit≤ tt; plain = refl }

temps_flat : (rs : List (List ℕ × Value)) → HasFlat 1 (temps_members rs)
temps_flat [] = record { deep = lit≤ tt; plain = refl }
temps_flat (r ∷ rs) =
    let a = value_flat r.1 in
    let b = temps_flat rs in record { deep = omega (arith, a.deep, b.deep); plain = rw (a.plain, b.plain) refl }

frame_flat : (f : FrameOf (List Part)) → Flat 3 (frame_data f)
frame_flat f =
    let a = kind_flat f.kind in
    let b = null_flat f.place in
    let c = temps_flat f.temps in record { deep = omega (arith, a.deep, b.deep, c.deep); plain = rw (a.plain, b.plain, c.plain) refl }

thread_flat : (t : ThreadOf (List Part)) → Flat 5 (thread_data t)
thread_flat t =
    let a = items_flat frame_data 3 frame_flat (reverse (t.frame ∷ t.below)) in
    let b = null_flat t.previous in record { deep = omega (arith, a.deep, b.deep); plain = rw (a.plain, b.plain) refl }

choice_flat : (c : ChoiceOf (List Part)) → Flat 6 (choice_data c)
choice_flat c =
    let a = items_flat string 0 (λ t. record { deep = lit≤ tt; plain = refl }) c.tags in
    let b = place_flat c.target in
    let t = thread_flat c.thread in record { deep = omega (arith, a.deep, b.deep, t.deep); plain = rw (a.plain, b.plain, t.plain) refl }

global_flat : (e : List ℕ × Value) → Flat 2 (global_data e)
global_flat e = let a = value_flat e.1 in record { deep = omega (arith, a.deep); plain = rw (a.plain) refl }

row_flat : (r : List Part × ℕ) → Flat 2 (row_data r)
row_flat r = let a = place_flat r.0 in record { deep = omega (arith, a.deep); plain = rw (a.plain) refl }

named_flow_flat : (r : List ℕ × FlowOf (List Part)) → Flat 8 (named_flow_data r)
named_flow_flat r =
    let a = items_flat choice_data 6 choice_flat r.1.choices in
    let b = items_flat value_data 1 value_flat r.1.stack in
    let t = items_flat thread_data 5 thread_flat (reverse (r.1.threads.thread ∷ r.1.threads.below)) in
    record { deep = omega (arith, a.deep, b.deep, t.deep); plain = rw (a.plain, b.plain, t.plain) refl }

-- so its text reads back: a text may nest to 127
pub spelling_flat : (g : Game) → (depth (spelling g) ≤ 10) × (has_float (spelling g) ≡ false)
spelling_flat g =
    let a = items_flat named_flow_data 8 named_flow_flat (all_flows g.now.flow g.aside) in
    let b = items_flat global_data 2 global_flat g.now.shared.globals in
    let t = items_flat row_data 2 row_flat g.now.shared.counts.turns in
    let v = items_flat row_data 2 row_flat g.now.shared.counts.visits in
    (omega (arith, a.deep, b.deep, t.deep, v.deep), rw (a.plain, b.plain, t.plain, v.plain) refl)
