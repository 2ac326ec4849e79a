-- Rows of flows: what going to one and taking one away leaves of them.
use Rattle.std.proofs.Common.{◌≡◌, ◌∙◌, ap, refl, sym, subst, ℕ, List, [], ◌∷◌, ◌++◌, Bool, true, false, bytes_eq, IsTrue, is_none, is_some, unwrap_or, option_and_then, if◌then◌else◌, Option, Some, None}
use Rattle.std.proofs.lemmas.Slice.Eq.{bytes_eq-Decides}
use Rattle.std.specs.Bool.{one_answer}
use Rattle.ink_model.specs.Run.Flows.{AsideOf, begins_with_default, default_flow, filled, flow_named}
use Rattle.ink_model.specs.Variables.Named.{at, put, without}

pub same_name : (a b : List ℕ) → bytes_eq a b ≡ true → a ≡ b
same_name a b h = (bytes_eq-Decides a b).0 h

-- the same, the other way round
pub same_way : (a b : List ℕ) → bytes_eq b a ≡ true → bytes_eq a b ≡ true
same_way a b h = (bytes_eq-Decides a b).1 (sym (same_name b a h))

pub other_way : (a b : List ℕ) → bytes_eq b a ≡ false → bytes_eq a b ≡ false
other_way a b h = one_answer {P = a ≡ b} (bytes_eq a b) (bytes_eq b a) (bytes_eq-Decides a b) ((λ k. sym ((bytes_eq-Decides b a).0 k)), (λ k. (bytes_eq-Decides b a).1 (sym k))) ∙ h

module _ {F : Type 0} where
  -- ---- the first flow

  pub begins_without : (name : List ℕ) (rows : AsideOf F) → bytes_eq name default_flow ≡ false → IsTrue (begins_with_default rows) → IsTrue (begins_with_default (without name rows))
  begins_without name [] other h = absurd (cc)
  begins_without name (r ∷ rows) other h = by (bytes_eq name r.0) refl
    where
      by : (b : Bool) → bytes_eq name r.0 ≡ b → IsTrue (begins_with_default (if b then rows else r ∷ without name rows))
      by true is = absurd (let never = subst (λ n. bytes_eq n default_flow ≡ true) (sym (same_name name r.0 is)) h in cc)
      by false is = h

  pub begins_more : (more rows : AsideOf F) → IsTrue (begins_with_default rows) → IsTrue (begins_with_default (rows ++ more))
  begins_more more [] h = absurd (cc)
  begins_more more (r ∷ rows) h = h

  -- ---- what stands at a name

  pub there_filled : (name : List ℕ) (f : F) (rows : AsideOf F) → is_some (at name (filled f rows)) ≡ is_some (at name rows)
  there_filled name f [] = refl
  there_filled name f (r ∷ rows) = by (is_none r.1) (bytes_eq name r.0) (there_filled name f rows)
    where
      by : (hole b : Bool) → is_some (at name (filled f rows)) ≡ is_some (at name rows)
          → is_some (at name (if hole then (r.0, Some f) ∷ rows else r ∷ filled f rows)) ≡ is_some (at name (r ∷ rows))
      by true b more = there (bytes_eq name r.0)
        where
          there : (b : Bool) → is_some (if b then Some (Some f) else at name rows) ≡ is_some (if b then Some r.1 else at name rows)
          there true = refl
          there false = refl
      by false b more = there (bytes_eq name r.0)
        where
          there : (b : Bool) → is_some (if b then Some r.1 else at name (filled f rows)) ≡ is_some (if b then Some r.1 else at name rows)
          there true = refl
          there false = more

  -- ---- a flow that is made, which is not there before

  pub at_last : (name : List ℕ) (x : Option F) (rows : AsideOf F) → at name rows ≡ None → at name (rows ++ (name, x) ∷ []) ≡ Some x
  at_last name x [] h = ap (λ b. if b then Some x else None) ((bytes_eq-Decides name name).1 refl)
  at_last name x (r ∷ rows) h = by (bytes_eq name r.0) refl (at_last name x rows)
    where
      by : (b : Bool) → bytes_eq name r.0 ≡ b → (at name rows ≡ None → at name (rows ++ (name, x) ∷ []) ≡ Some x) → (if bytes_eq name r.0 then Some r.1 else at name (rows ++ (name, x) ∷ [])) ≡ Some x
      by true is more = let never = sym (ap (λ b. if b then Some r.1 else at name rows) is) ∙ h in absurd (cc)
      by false is more = ap (λ b. if b then Some r.1 else at name (rows ++ (name, x) ∷ [])) is ∙ more (sym (ap (λ b. if b then Some r.1 else at name rows) is) ∙ h)

  pub put_absent : (name : List ℕ) (x : Option F) (rows : AsideOf F) → at name rows ≡ None → put name x rows ≡ rows ++ (name, x) ∷ []
  put_absent name x [] h = refl
  put_absent name x (r ∷ rows) h = by (bytes_eq name r.0) refl (put_absent name x rows)
    where
      by : (b : Bool) → bytes_eq name r.0 ≡ b → (at name rows ≡ None → put name x rows ≡ rows ++ (name, x) ∷ [])
          → (if bytes_eq name r.0 then (r.0, x) ∷ rows else r ∷ put name x rows) ≡ r ∷ (rows ++ (name, x) ∷ [])
      by true is more = let never = sym (ap (λ b. if b then Some r.1 else at name rows) is) ∙ h in absurd (cc)
      by false is more = ap (λ b. if b then (r.0, x) ∷ rows else r ∷ put name x rows) is ∙ ap (λ rs. r ∷ rs) (more (sym (ap (λ b. if b then Some r.1 else at name rows) is) ∙ h))

  pub put_last : (name : List ℕ) (x y : Option F) (rows : AsideOf F) → at name rows ≡ None → put name y (rows ++ (name, x) ∷ []) ≡ put name y rows
  put_last name x y [] h = ap (λ b. if b then (name, y) ∷ [] else (name, x) ∷ (name, y) ∷ []) ((bytes_eq-Decides name name).1 refl)
  put_last name x y (r ∷ rows) h = by (bytes_eq name r.0) refl (put_last name x y rows)
    where
      by : (b : Bool) → bytes_eq name r.0 ≡ b → (at name rows ≡ None → put name y (rows ++ (name, x) ∷ []) ≡ put name y rows)
          → (if bytes_eq name r.0 then (r.0, y) ∷ (rows ++ (name, x) ∷ []) else r ∷ put name y (rows ++ (name, x) ∷ [])) ≡ (if bytes_eq name r.0 then (r.0, y) ∷ rows else r ∷ put name y rows)
      by true is more = let never = sym (ap (λ b. if b then Some r.1 else at name rows) is) ∙ h in absurd (cc)
      by false is more = ap (λ b. if b then (r.0, y) ∷ (rows ++ (name, x) ∷ []) else r ∷ put name y (rows ++ (name, x) ∷ [])) is
          ∙ ap (λ rs. r ∷ rs) (more (sym (ap (λ b. if b then Some r.1 else at name rows) is) ∙ h))
          ∙ sym (ap (λ b. if b then (r.0, y) ∷ rows else r ∷ put name y rows) is)

  -- it has parts, so that the current flow is the same
  pub filled_last : (f : F) (name : List ℕ) (x : F) (rows : AsideOf F) → filled f (rows ++ (name, Some x) ∷ []) ≡ filled f rows ++ (name, Some x) ∷ []
  filled_last f name x [] = refl
  filled_last f name x (r ∷ rows) = by (is_none r.1) (filled_last f name x rows)
    where
      by : (b : Bool) → filled f (rows ++ (name, Some x) ∷ []) ≡ filled f rows ++ (name, Some x) ∷ []
          → (if b then (r.0, Some f) ∷ (rows ++ (name, Some x) ∷ []) else r ∷ filled f (rows ++ (name, Some x) ∷ [])) ≡ (if b then (r.0, Some f) ∷ rows else r ∷ filled f rows) ++ (name, Some x) ∷ []
      by true more = refl
      by false more = ap (λ rs. r ∷ rs) more

  none_filled : (name : List ℕ) (f : F) (rows : AsideOf F) → at name rows ≡ None → at name (filled f rows) ≡ None
  none_filled name f rows h = none_of (at name (filled f rows)) (there_filled name f rows ∙ ap is_some h)
    where
      none_of : (o : Option (Option F)) → is_some o ≡ false → o ≡ None
      none_of None e = refl
      none_of (Some x) e = absurd (cc)

  -- what is found at a name, or this
  abbrev named_by : F → Option (Option F) → F
  named_by z o = unwrap_or (option_and_then (λ x. x) o) z

  pub named_last : (name : List ℕ) (f x y : F) (rows : AsideOf F) → at name rows ≡ None → flow_named name y (filled f (rows ++ (name, Some x) ∷ [])) ≡ flow_named name x (filled f rows)
  named_last name f x y rows h =
      ap (λ rs. flow_named name y rs) (filled_last f name x rows)
      ∙ ap (named_by y) (at_last name (Some x) (filled f rows) (none_filled name f rows h))
      ∙ sym (ap (named_by x) (none_filled name f rows h))

  pub gone_last : (name : List ℕ) (f x : F) (rows : AsideOf F) → at name rows ≡ None → put name None (filled f (rows ++ (name, Some x) ∷ [])) ≡ put name None (filled f rows)
  gone_last name f x rows h = ap (λ rs. put name None rs) (filled_last f name x rows) ∙ put_last name (Some x) None (filled f rows) (none_filled name f rows h)
