-- Rows by name, one behind another.
use Rattle.std.proofs.Common.{◌≡◌, ◌∙◌, sym, ap, refl, ℕ, suc, List, [], ◌∷◌, ◌++◌, Bool, true, false, true≢false, ◌&&◌, bytes_eq, if◌then◌else◌, Option, Some, None, is_none}
use Rattle.std.proofs.lemmas.Bool.{and_from}
use Rattle.std.proofs.lemmas.List.{map-append}
use Rattle.std.proofs.lemmas.Slice.Eq.{bytes_eq-Decides}
use Rattle.ink_restore.proofs.Common.{FlowOf, Rows, at, once, aside_but, Part}
use Rattle.ink_model.specs.Run.Flows.{begins_with_default, holes}
use Rattle.ink_restore.specs.Gathered.{first_is_default}
use Rattle.ink_restore.proofs.Standing.{both}

pub same_names : (k l : List ℕ) → bytes_eq k l ≡ true → k ≡ l
same_names k l e = (bytes_eq-Decides k l).0 e

pub differ : (k l : List ℕ) → bytes_eq k l ≡ false → bytes_eq l k ≡ false
differ k l h = by (bytes_eq l k) refl
  where
    by : (b : Bool) → bytes_eq l k ≡ b → bytes_eq l k ≡ false
    by true e = absurd (true≢false (sym ((bytes_eq-Decides k l).1 (sym (same_names l k e))) ∙ h))
    by false e = e

-- ---- what stands at a name

module _ {X : Type 0} where
  pub at_behind : (name : List ℕ) (xs ys : Rows X) → at name xs ≡ None → at name (xs ++ ys) ≡ at name ys
  at_behind name [] ys h = refl
  at_behind name (x ∷ xs) ys h = by (bytes_eq name x.0) h (at_behind name xs ys)
    where
      by : (b : Bool) → (if b then Some x.1 else at name xs) ≡ None → (at name xs ≡ None → at name (xs ++ ys) ≡ at name ys) → (if b then Some x.1 else at name (xs ++ ys)) ≡ at name ys
      by true h so = absurd cc
      by false h so = so h

  pub at_front : (name : List ℕ) (xs ys : Rows X) (x : X) → at name xs ≡ Some x → at name (xs ++ ys) ≡ Some x
  at_front name [] ys x h = absurd cc
  at_front name (r ∷ xs) ys x h = by (bytes_eq name r.0) h (at_front name xs ys x)
    where
      by : (b : Bool) → (if b then Some r.1 else at name xs) ≡ Some x → (at name xs ≡ Some x → at name (xs ++ ys) ≡ Some x) → (if b then Some r.1 else at name (xs ++ ys)) ≡ Some x
      by true h so = h
      by false h so = so h

  -- a name stands among rows that begin at it somewhere
  stands_there : (zs : Rows X) (r : List ℕ × X) (ys : Rows X) (name : List ℕ) → name ≡ r.0 → is_none (at name (zs ++ r ∷ ys)) ≡ false
  stands_there [] r ys name same = let eq : bytes_eq name r.0 ≡ true = (bytes_eq-Decides name r.0).1 same in rw eq refl
  stands_there (z ∷ zs) r ys name same = past (bytes_eq name z.0) (stands_there zs r ys name same)
    where
      past : (b : Bool) → is_none (at name (zs ++ r ∷ ys)) ≡ false → is_none (if b then Some z.1 else at name (zs ++ r ∷ ys)) ≡ false
      past true k = refl
      past false k = k

  -- one more row of another name
  pub once_more : (xs : Rows X) (r : List ℕ × X) → once xs ≡ true → at r.0 xs ≡ None → once (xs ++ r ∷ []) ≡ true
  once_more [] r h none = refl
  once_more (x ∷ xs) r h none =
      let parts = both (is_none (at x.0 xs)) (once xs) h in
      by (bytes_eq r.0 x.0) refl none (at x.0 xs) refl parts.0 (once_more xs r parts.1)
    where
      alone : (b : Bool) → bytes_eq x.0 r.0 ≡ b → bytes_eq r.0 x.0 ≡ false → is_none (at x.0 (r ∷ [])) ≡ true
      alone true e k = absurd (true≢false (sym e ∙ differ r.0 x.0 k))
      alone false e k = rw e refl

      by : (b : Bool) → bytes_eq r.0 x.0 ≡ b → (if b then Some x.1 else at r.0 xs) ≡ None → (o : Option X) → at x.0 xs ≡ o → is_none o ≡ true → (at r.0 xs ≡ None → once (xs ++ r ∷ []) ≡ true)
          → (is_none (at x.0 (xs ++ r ∷ [])) && once (xs ++ r ∷ [])) ≡ true
      by true e k o is first so = absurd cc
      by false e k (Some y) is first so = absurd cc
      by false e k None is first so = and_from _ _ (ap is_none (at_behind x.0 xs (r ∷ []) is) ∙ alone (bytes_eq x.0 r.0) refl e) (so k)

  pub once_twice : (xs : Rows X) (r : List ℕ × X) (ys : Rows X) → is_none (at r.0 xs) ≡ false → once (xs ++ r ∷ ys) ≡ true → ⊥
  once_twice [] r ys h o = absurd (true≢false h)
  once_twice (x ∷ xs) r ys h o =
      let parts = both (is_none (at x.0 (xs ++ r ∷ ys))) (once (xs ++ r ∷ ys)) o in
      by (bytes_eq r.0 x.0) refl h parts.0 (λ k. once_twice xs r ys k parts.1)
    where
      by : (b : Bool) → bytes_eq r.0 x.0 ≡ b → is_none (if b then Some x.1 else at r.0 xs) ≡ false → is_none (at x.0 (xs ++ r ∷ ys)) ≡ true → (is_none (at r.0 xs) ≡ false → ⊥) → ⊥
      by true e h first so = absurd (true≢false (sym first ∙ stands_there xs r ys x.0 (sym (same_names r.0 x.0 e))))
      by false e h first so = so h

-- ---- flows, but for the current one

abbrev FlowHere : Type 0
FlowHere = FlowOf (List Part)

module _ (cur : List ℕ) where
  pub but_append : (xs : Rows FlowHere) (r : List ℕ × FlowHere) → aside_but cur (xs ++ r ∷ []) ≡ aside_but cur xs ++ (r.0, if bytes_eq cur r.0 then None else Some r.1) ∷ []
  but_append xs r = map-append _ xs (r ∷ [])

  -- a name stands there exactly where it did
  pub at_but : (name : List ℕ) (xs : Rows FlowHere) → is_none (at name (aside_but cur xs)) ≡ is_none (at name xs)
  at_but name [] = refl
  at_but name (x ∷ xs) = by (bytes_eq name x.0) (at_but name xs)
    where
      by : (b : Bool) → is_none (at name (aside_but cur xs)) ≡ is_none (at name xs)
          → is_none (if b then Some (if bytes_eq cur x.0 then None else Some x.1) else at name (aside_but cur xs)) ≡ is_none (if b then Some x.1 else at name xs)
      by true h = refl
      by false h = h

  pub once_but : (xs : Rows FlowHere) → once (aside_but cur xs) ≡ once xs
  once_but [] = refl
  once_but (x ∷ xs) = ap (λ b. b && once (aside_but cur xs)) (at_but x.0 xs) ∙ ap (λ b. is_none (at x.0 xs) && b) (once_but xs)

  pub begins_but : (xs : Rows FlowHere) → begins_with_default (aside_but cur xs) ≡ first_is_default xs
  begins_but [] = refl
  begins_but (x ∷ xs) = refl

  no_hole : (xs : Rows FlowHere) → at cur xs ≡ None → holes (aside_but cur xs) ≡ 0
  no_hole [] h = refl
  no_hole (x ∷ xs) h = by (bytes_eq cur x.0) h (no_hole xs)
    where
      by : (b : Bool) → (if b then Some x.1 else at cur xs) ≡ None → (at cur xs ≡ None → holes (aside_but cur xs) ≡ 0)
          → (if is_none (if b then None else Some x.1) then suc (holes (aside_but cur xs)) else holes (aside_but cur xs)) ≡ 0
      by true h so = absurd cc
      by false h so = so h

  -- one name has nothing, that of the current flow
  pub one_hole : (xs : Rows FlowHere) (f : FlowHere) → once xs ≡ true → at cur xs ≡ Some f → holes (aside_but cur xs) ≡ 1
  one_hole [] f o h = absurd cc
  one_hole (x ∷ xs) f o h =
      let parts = both (is_none (at x.0 xs)) (once xs) o in
      by (bytes_eq cur x.0) refl h parts.0 (one_hole xs f parts.1)
    where
      nothing : (o : Option FlowHere) → at x.0 xs ≡ o → is_none o ≡ true → bytes_eq cur x.0 ≡ true → at cur xs ≡ None
      nothing None is k e = ap (λ n. at n xs) (same_names cur x.0 e) ∙ is
      nothing (Some g) is k e = absurd (true≢false (sym k))

      by : (b : Bool) → bytes_eq cur x.0 ≡ b → (if b then Some x.1 else at cur xs) ≡ Some f → is_none (at x.0 xs) ≡ true → (at cur xs ≡ Some f → holes (aside_but cur xs) ≡ 1)
          → (if is_none (if b then None else Some x.1) then suc (holes (aside_but cur xs)) else holes (aside_but cur xs)) ≡ 1
      by true e h none so = ap suc (no_hole xs (nothing (at x.0 xs) refl none e))
      by false e h none so = so h
