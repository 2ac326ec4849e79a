-- Visits and turns by number, as a machine keeps them, and by place, as the definitions do.
use Rattle.std.proofs.Common.{◌≡◌, ◌∙◌, ap, sym, refl, inl, inr, ◌⊎◌, ℕ, suc, ◌+◌, ◌*◌, ◌^◌, ◌<◌, ◌≤◌, List, [], ◌∷◌, length, Bool, true, false, true≢false, ◌&&◌, nat_lt, if◌then◌else◌, Option, Some, None, is_some, unwrap_or, Ok, Err, not, ◌||◌, pos, arith}
use Rattle.std.proofs.lemmas.Bool.Decides.{nat_tests}
use Rattle.std.specs.Cmp.{IsTotalOrder, nat_cmp_is, ranked}
use Rattle.std.specs.FinMap.{nat_cmp-IsAntisymmetric}
use Rattle.std.specs.Ordering.{nat_cmp, match_ordering, ordering_reverse}
use Rattle.std.specs.declared.cmp.Ordering.{Ordering}
use Rattle.std.specs.declared.cmp.Ordering.TheVariants.{Less, Equal, Greater}
use Rattle.ink_model.specs.Variables.Counts.{CountsOf, adds_row, counts, one_more, turns_from, turns_since, visited, visits_at, visits_of}
use Rattle.ink_model.specs.Run.Entered.{flags_at, listed_if}
use Rattle.ink_model.specs.Story.Flags.{counts_visits, notes_turns}
use Rattle.ink_model.specs.Story.Places.{places}
use Rattle.ink_model.specs.Variables.Rows.{map_keys, place_order, row, with_row}
use Rattle.ink_model.specs.Story.Path.{is_container}
use Rattle.ink_model.specs.Story.Tree.{StoryTree, leaf, container, at}
use Rattle.ink_model.specs.Run.Visits.{adds_rows, all_visited}
use Rattle.ink_model.specs.declared.fault.Fault.TheVariants.{NotCounted}
use Rattle.ink_effects.proofs.Common.{Part, counts_spare, counts_stood}
use Rattle.ink_effects.specs.Standing.{counts_in, rows_below, rows_in}
use Rattle.ink_model.proofs.Maps.{KeepsPlace, row_map, with_row_map}
use Rattle.ink_tree.specs.Kept.{leaf_in}
use Rattle.ink_tree.specs.Nodes.{NumbersInOrder, node_place}
use Rattle.ink_model.proofs.Orders.{place_total}
use Rattle.ink_vars.proofs.Marks.{counts_free}
use Rattle.ink_vars.specs.Views.{CountsView}

-- ---- rows below a number

row_by : (k n : ℕ) (r : ℕ × ℕ) (rs : List (ℕ × ℕ)) (b : Bool) → nat_lt r.0 k ≡ b → n < k → row nat_cmp n (rows_below k rs) ≡ row nat_cmp n rs
    → row nat_cmp n (if b then r ∷ rows_below k rs else []) ≡ row nat_cmp n (r ∷ rs)
row_by k n r rs true e h below = ap (λ o. match_ordering (nat_cmp n r.0) None (Some r.1) o) below
row_by k n r rs false e h below =
    let before : n < r.0 = grind (arith, nat_tests, e, h) in
    ap (λ o. match_ordering o None (Some r.1) (row nat_cmp n rs)) (nat_cmp_is n r.0 Less before)

row_below : (k n : ℕ) (rows : List (ℕ × ℕ)) → n < k → row nat_cmp n (rows_below k rows) ≡ row nat_cmp n rows
row_below k n [] h = refl
row_below k n (r ∷ rs) h = row_by k n r rs (nat_lt r.0 k) refl h (row_below k n rs h)

put_by : (k n v : ℕ) (r : ℕ × ℕ) (rs : List (ℕ × ℕ)) (o : Ordering) (b : Bool) → nat_cmp n r.0 ≡ o → nat_lt r.0 k ≡ b → nat_lt n k ≡ true
    → rows_below k (with_row nat_cmp n v rs) ≡ with_row nat_cmp n v (rows_below k rs)
    → rows_below k (with_row nat_cmp n v (r ∷ rs)) ≡ with_row nat_cmp n v (rows_below k (r ∷ rs))
put_by k n v r rs Less true c e h below = rw (c, e, h) (rw c refl)
put_by k n v r rs Less false c e h below = rw (c, e, h) refl
put_by k n v r rs Equal true c e h below = rw (c, e, h) (rw c refl)
put_by k n v r rs Equal false c e h below =
    absurd (true≢false (sym h ∙ ap (λ m. nat_lt m k) (nat_cmp-IsAntisymmetric n r.0 c) ∙ e))
put_by k n v r rs Greater true c e h below = rw (c, e) (rw c (ap (λ rows. r ∷ rows) below))
put_by k n v r rs Greater false c e h below =
    let after : r.0 < n = ranked n r.0 Greater (sym c) in
    let never : nat_lt r.0 k ≡ true = grind (arith, nat_tests, h, after) in
    absurd (true≢false (sym never ∙ e))

put_below : (k n v : ℕ) (rows : List (ℕ × ℕ)) → nat_lt n k ≡ true → rows_below k (with_row nat_cmp n v rows) ≡ with_row nat_cmp n v (rows_below k rows)
put_below k n v [] h = rw h refl
put_below k n v (r ∷ rs) h = put_by k n v r rs (nat_cmp n r.0) (nat_lt r.0 k) refl refl h (put_below k n v rs h)

-- ---- rows of a story's contents

module _ (s : StoryTree) (ordered : NumbersInOrder s) (n : ℕ) (is_node : n < length (places s)) where
  abbrev many : ℕ
  many = length (places s)

  abbrev place : ℕ → List Part
  place m = node_place s (record { number = m })

  within : nat_lt n many ≡ true
  within = grind (arith, nat_tests, is_node)

  keeps_by : (r : ℕ × ℕ) (rs : List (ℕ × ℕ)) (b : Bool) → nat_lt r.0 many ≡ b → KeepsPlace nat_cmp place_order place n (rows_below many rs)
      → KeepsPlace nat_cmp place_order place n (if b then r ∷ rows_below many rs else [])
  keeps_by r rs true e below =
      let is_row : r.0 < many = grind (arith, nat_tests, e) in
      (ordered (record { number = n }) (record { number = r.0 }) is_node is_row, below)
  keeps_by r rs false e below = tt

  keeps : (rows : List (ℕ × ℕ)) → KeepsPlace nat_cmp place_order place n (rows_below many rows)
  keeps [] = tt
  keeps (r ∷ rs) = keeps_by r rs (nat_lt r.0 many) refl (keeps rs)

  row_in : (rows : List (ℕ × ℕ)) → row place_order (place n) (rows_in s rows) ≡ row nat_cmp n rows
  row_in rows = row_map nat_cmp place_order place n (rows_below many rows) (keeps rows) ∙ row_below many n rows is_node

  put_in : (v : ℕ) (rows : List (ℕ × ℕ)) → with_row place_order (place n) v (rows_in s rows) ≡ rows_in s (with_row nat_cmp n v rows)
  put_in v rows = with_row_map nat_cmp place_order place n v (rows_below many rows) (keeps rows) ∙ ap (map_keys place) (sym (put_below many n v rows within))

  put_if : (b : Bool) (v w : ℕ) (rows : List (ℕ × ℕ)) → v ≡ w
      → (if b then with_row place_order (place n) v (rows_in s rows) else rows_in s rows) ≡ rows_in s (if b then with_row nat_cmp n w rows else rows)
  put_if true v w rows e = ap (λ u. with_row place_order (place n) u (rows_in s rows)) e ∙ put_in w rows
  put_if false v w rows e = refl

  module _ (c : CountsOf ℕ) where
    visits_in : visits_at place_order (place n) (counts_in s c) ≡ visits_at nat_cmp n c
    visits_in = ap (λ o. unwrap_or o 0) (row_in c.visits)

    -- of a content by its place, with its flags
    module _ (flags : ℕ) (q : List Part) (f : ℕ) (at_place : place n ≡ q) (has : flags ≡ f) where
      pub counted_at : visits_of nat_cmp n flags c ≡ visits_of place_order q f (counts_in s c)
      counted_at =
          ap (λ v. if counts_visits flags then Ok (pos v) else Err NotCounted) (sym visits_in)
          ∙ ap (λ p. visits_of place_order p flags (counts_in s c)) at_place ∙ ap (λ g. visits_of place_order q g (counts_in s c)) has

      pub noted_at : (turn : ℕ) → turns_since nat_cmp n flags turn c ≡ turns_since place_order q f turn (counts_in s c)
      noted_at turn =
          ap (λ o. if notes_turns flags then Ok (turns_from o turn) else Err NotCounted) (sym (row_in c.turns))
          ∙ ap (λ p. turns_since place_order p flags turn (counts_in s c)) at_place ∙ ap (λ g. turns_since place_order q g turn (counts_in s c)) has

      pub visited_at : (turn : ℕ) → counts_in s (visited nat_cmp n flags true turn c) ≡ visited place_order q f true turn (counts_in s c)
      visited_at turn =
          let visits = put_if (counts flags true && counts_visits flags) (one_more (visits_at place_order (place n) (counts_in s c))) (one_more (visits_at nat_cmp n c)) c.visits (ap one_more visits_in) in
          let turns = put_if (counts flags true && notes_turns flags) turn turn c.turns refl in
          sym (ap (λ vs. record { visits = vs; turns = (visited place_order (place n) flags true turn (counts_in s c)).turns }) visits
          ∙ ap (λ ts. record { visits = (counts_in s (visited nat_cmp n flags true turn c)).visits; turns = ts }) turns)
          ∙ ap (λ p. visited place_order p flags true turn (counts_in s c)) at_place ∙ ap (λ g. visited place_order q g true turn (counts_in s c)) has

      pub adds_at : adds_row nat_cmp n flags c ≡ adds_row place_order q f (counts_in s c)
      adds_at =
          ap (λ o. (counts_visits flags && not (is_some o)) || (notes_turns flags && not (is_some (row nat_cmp n c.turns)))) (sym (row_in c.visits))
          ∙ ap (λ o. (counts_visits flags && not (is_some (row place_order (place n) (rows_in s c.visits)))) || (notes_turns flags && not (is_some o))) (sym (row_in c.turns))
          ∙ ap (λ p. adds_row place_order p flags (counts_in s c)) at_place ∙ ap (λ g. adds_row place_order q g (counts_in s c)) has

-- ---- a row that is there stays there

alike : {K : Type 0} (compare : K → K → Ordering) (total : IsTotalOrder compare) (p q k : K) → compare q k ≡ Equal → compare p q ≡ compare p k
alike compare total p q k e = total.antisymm p q ∙ ap ordering_reverse (total.congr q k p e) ∙ sym (total.antisymm p k)

module _ {K V : Type 0} (compare : K → K → Ordering) (total : IsTotalOrder compare) where
  same_some : (o : Ordering) (v w : V) (rest : Option V) → is_some (match_ordering o None (Some v) rest) ≡ is_some (match_ordering o None (Some w) rest)
  same_some Less v w rest = refl
  same_some o v w rest = refl

  kept_after : (p q k : K) (v w : V) (rest : Option V) (o : Ordering) → compare p q ≡ o → compare q k ≡ Less
      → is_some (match_ordering (compare p k) None (Some w) rest) ≡ true → is_some (match_ordering o None (Some v) (match_ordering (compare p k) None (Some w) rest)) ≡ true
  kept_after p q k v w rest Less e before h =
      absurd (true≢false (sym h ∙ ap (λ o. is_some (match_ordering o None (Some w) rest)) (total.trans p q k e before)))
  kept_after p q k v w rest Equal e before h = refl
  kept_after p q k v w rest Greater e before h = h

  kept_further : (w : V) (rest more : Option V) (o : Ordering) → (is_some rest ≡ true → is_some more ≡ true)
      → is_some (match_ordering o None (Some w) rest) ≡ true → is_some (match_ordering o None (Some w) more) ≡ true
  kept_further w rest more Less on h = h
  kept_further w rest more Equal on h = refl
  kept_further w rest more Greater on h = on h

  kept_by : (p q : K) (v : V) (r : K × V) (rs : List (K × V)) (o : Ordering) → compare q r.0 ≡ o → (is_some (row compare p rs) ≡ true → is_some (row compare p (with_row compare q v rs)) ≡ true)
      → is_some (row compare p (r ∷ rs)) ≡ true → is_some (row compare p (match_ordering o ((q, v) ∷ r ∷ rs) ((q, v) ∷ rs) (r ∷ with_row compare q v rs))) ≡ true
  kept_by p q v r rs Less e on h = kept_after p q r.0 v r.1 (row compare p rs) (compare p q) refl e h
  kept_by p q v r rs Equal e on h =
      ap (λ o. is_some (match_ordering o None (Some v) (row compare p rs))) (alike compare total p q r.0 e) ∙ same_some (compare p r.0) v r.1 (row compare p rs) ∙ h
  kept_by p q v r rs Greater e on h = kept_further r.1 (row compare p rs) (row compare p (with_row compare q v rs)) (compare p r.0) on h

  kept : (p q : K) (v : V) (rows : List (K × V)) → is_some (row compare p rows) ≡ true → is_some (row compare p (with_row compare q v rows)) ≡ true
  kept p q v [] h = absurd (true≢false (sym h))
  kept p q v (r ∷ rs) h = kept_by p q v r rs (compare q r.0) refl (kept p q v rs) h

  kept_if : (b : Bool) (p q : K) (v : V) (rows : List (K × V)) → is_some (row compare p rows) ≡ true → is_some (row compare p (if b then with_row compare q v rows else rows)) ≡ true
  kept_if true p q v rows h = kept p q v rows h
  kept_if false p q v rows h = h

-- ---- and so no more rows are missing after a visit

fewer : (x y : Bool) → (x ≡ true → y ≡ true) → not y ≡ true → not x ≡ true
fewer true y on h = absurd (true≢false (sym h ∙ ap not (on refl)))
fewer false y on h = refl

and_still : (a x y : Bool) → (x ≡ true → y ≡ true) → (a && x) ≡ true → (a && y) ≡ true
and_still true x y on h = on h
and_still false x y on h = h

or_second : (a b : Bool) → b ≡ true → (a || b) ≡ true
or_second true b h = refl
or_second false b h = h

or_still : (a b x y : Bool) → (a ≡ true → x ≡ true) → (b ≡ true → y ≡ true) → (a || b) ≡ true → (x || y) ≡ true
or_still true b x y first on h = ap (λ z. z || y) (first refl)
or_still false b true y first on h = refl
or_still false b false y first on h = on h

module _ (p q : List Part) (f g turn : ℕ) (c : CountsOf (List Part)) where
  abbrev after : CountsOf (List Part)
  after = visited place_order q g true turn c

  adds_less : adds_row place_order p f after ≡ true → adds_row place_order p f c ≡ true
  adds_less = or_still _ _ _ _
      (and_still (counts_visits f) _ _ (fewer _ _ (kept_if place_order place_total (counts g true && counts_visits g) p q (one_more (visits_at place_order q c)) c.visits)))
      (and_still (notes_turns f) _ _ (fewer _ _ (kept_if place_order place_total (counts g true && notes_turns g) p q turn c.turns)))

module _ (s : StoryTree) (q : List Part) (g turn : ℕ) (c : CountsOf (List Part)) where
  rows_less : (ps : List (List Part)) → adds_rows s ps (visited place_order q g true turn c) ≡ true → adds_rows s ps c ≡ true
  rows_less [] h = h
  rows_less (p ∷ ps) h = or_still _ _ _ _ (adds_less p q (flags_at (at s p)) g turn c) (rows_less ps) h

-- ---- containers that are entered one after another

-- what was entered so far, and what is still entered, is all that is entered
abbrev pub StillEnters : StoryTree → ℕ → List (List Part) → CountsOf ℕ → List (List Part) → CountsOf ℕ → Type 0
StillEnters s turn all old rest now =
    (all_visited s turn rest (counts_in s now) ≡ all_visited s turn all (counts_in s old))
    × (adds_rows s rest (counts_in s now) ≡ true → adds_rows s all (counts_in s old) ≡ true)

module _ (s : StoryTree) (turn : ℕ) (all : List (List Part)) (old : CountsOf ℕ) where
  pub enters_more : (p : List Part) (rest more : List (List Part)) (now : CountsOf ℕ) → rest ≡ p ∷ more → StillEnters s turn all old rest now
      → (new : CountsOf ℕ) → counts_in s new ≡ visited place_order p (flags_at (at s p)) true turn (counts_in s now) → StillEnters s turn all old more new
  enters_more p rest more now is still new visit = (
    ap (all_visited s turn more) visit ∙ ap (λ ps. all_visited s turn ps (counts_in s now)) (sym is) ∙ still.0,
    λ h. still.1 (ap (λ ps. adds_rows s ps (counts_in s now)) is
        ∙ or_second (adds_row place_order p (flags_at (at s p)) (counts_in s now)) _
        (rows_less s p (flags_at (at s p)) turn (counts_in s now) more (ap (adds_rows s more) (sym visit) ∙ h))),
  )

  -- one that is still entered lacks memory
  pub enters_adds : (p : List Part) (rest more : List (List Part)) (now : CountsOf ℕ) → rest ≡ p ∷ more → StillEnters s turn all old rest now
      → adds_row place_order p (flags_at (at s p)) (counts_in s now) ≡ true → adds_rows s all (counts_in s old) ≡ true
  enters_adds p rest more now is still adds = still.1 (ap (λ ps. adds_rows s ps (counts_in s now)) is ∙ ap (λ b. b || adds_rows s more (counts_in s now)) adds)

-- a content that holds no other, by index, where it is entered as a container
module _ (s : StoryTree) (p : List Part) (c : CountsOf (List Part)) where
  last_adds_by : (o : Option StoryTree) → at s p ≡ o → leaf_in o ≡ None → adds_row place_order p (flags_at (at s p)) c ≡ true
      → adds_rows s (listed_if (is_container o) p []) c ≡ true
  last_adds_by None is none adds = absurd (true≢false (sym adds ∙ ap (λ o. adds_row place_order p (flags_at o) c) is))
  last_adds_by (Some (leaf l)) is none adds = absurd cc
  last_adds_by (Some (container name flags content named)) is none adds = ap (λ b. b || false) adds

  pub last_adds : leaf_in (at s p) ≡ None → adds_row place_order p (flags_at (at s p)) c ≡ true → adds_rows s (listed_if (is_container (at s p)) p []) c ≡ true
  last_adds = last_adds_by (at s p) refl

-- the first of these that are entered
module _ (s : StoryTree) (turn : ℕ) (p : List Part) (all more : List (List Part)) (is : all ≡ p ∷ more) (old : CountsOf ℕ) where
  pub first_adds : adds_row place_order p (flags_at (at s p)) (counts_in s old) ≡ true → adds_rows s all (counts_in s old) ≡ true
  first_adds adds =
      ap (λ ps. adds_rows s ps (counts_in s old)) is
      ∙ ap (λ b. b || adds_rows s more (counts_in s old)) adds

  pub first_entered : (new : CountsOf ℕ) → counts_in s new ≡ visited place_order p (flags_at (at s p)) true turn (counts_in s old) → StillEnters s turn all old more new
  first_entered = enters_more s turn all old p all more old is (refl, λ h. h)

-- ---- where a mark stands

-- where there is room for the notes, a visit lacks memory for a row
pub lacks_row : (A B : Type 0) (v : CountsView) → (A → B) → 2 ≤ counts_spare v → A ⊎ (counts_spare v < 2) → B
lacks_row A B v on room (inl h) = on h
lacks_row A B v on room (inr few) = absurd (omega arith)

-- there is room for a visit where there is room for more, or no mark stands
pub has_room : (v : CountsView) (n m : ℕ) → n ≡ suc m → (is_some (counts_stood v) ≡ true → 4 * n ≤ counts_spare v) → 2 ≤ counts_spare v
has_room v n m is room = by (counts_stood v) refl
  where
    by : (o : Option (CountsOf ℕ)) → counts_stood v ≡ o → 2 ≤ counts_spare v
    by (Some c) stood = let enough : 4 * n ≤ counts_spare v = room (ap is_some stood) in omega arith
    by None stood = let free : 2 ^ 64 ≤ counts_spare v = counts_free v stood in omega arith

-- after a visit and others, as many as there was room for, there is room to take it back
pub room_back : (old mid new : CountsView) (n m : ℕ) → (is_some (counts_stood old) ≡ true → 4 * n ≤ counts_spare old) → n ≡ suc m → counts_spare old ≤ counts_spare mid + 2
    → counts_spare mid ≤ counts_spare new + 4 * m → counts_stood new ≡ counts_stood old → 2 ≤ counts_spare new
room_back old mid new n m room is visit others mark = by (counts_stood old) refl
  where
    by : (o : Option (CountsOf ℕ)) → counts_stood old ≡ o → 2 ≤ counts_spare new
    by (Some c) stood = let enough : 4 * n ≤ counts_spare old = room (ap is_some stood) in omega arith
    by None stood = let free : 2 ^ 64 ≤ counts_spare new = counts_free new (mark ∙ stood) in omega arith
