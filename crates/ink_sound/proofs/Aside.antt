-- Flows by name, whatever a flow is: what going to one and taking one away keep.
use Rattle.std.proofs.Common.{◌≡◌, ◌∙◌, ap, sym, refl, ℕ, suc, List, [], ◌∷◌, ◌++◌, length, Bool, true, false, true≢false, cond, if◌then◌else◌, bytes_eq, Option, Some, None, is_none, is_some, unwrap_or, inl, inr, arith}
use Rattle.ink_sound.proofs.Common.{cases_Bool, cond_both}
use Rattle.ink_model.specs.Run.Flows.{AsideOf, FlowsOf, all_flows, begins_with_default, current_name, default_flow, dropped, filled, flow_named, goes_to, holes}
use Rattle.ink_model.specs.Variables.Named.{Rows, at, once, put, without}
use Rattle.ink_sound.specs.Beside.{with_last}
use Rattle.ink_sound.proofs.Named.{each_of_others, its_name, same_name}
use Rattle.ink_sound.proofs.Rows.{some_alike}

-- the flow that is always there has its name
default_is : (n : List ℕ) → bytes_eq n default_flow ≡ true → bytes_eq default_flow n ≡ true
default_is n h = ap (bytes_eq default_flow) (same_name n default_flow h) ∙ its_name default_flow

as_none : {X Y : Type 0} (o : Option X) (p : Option Y) → is_some o ≡ is_some p → is_none o ≡ is_none p
as_none None None h = refl
as_none (Some x) (Some y) h = refl
as_none o p h = absurd cc

module _ {F : Type 0} where
  -- ---- the current one is put aside

  same_all : (f g : F) (rows : AsideOf F) → holes rows ≡ 0 → all_flows f rows ≡ all_flows g rows
  same_all f g [] h = refl
  same_all f g ((n, None) ∷ rows) h = absurd (omega arith)
  same_all f g ((n, Some x) ∷ rows) h = ap (λ l. (n, x) ∷ l) (same_all f g rows h)

  pub filled_all : (f g : F) (rows : AsideOf F) → holes rows ≡ 1 → all_flows g (filled f rows) ≡ all_flows f rows
  filled_all f g [] h = refl
  filled_all f g ((n, None) ∷ rows) h = ap (λ l. (n, f) ∷ l) (same_all g f rows (omega arith))
  filled_all f g ((n, Some x) ∷ rows) h = ap (λ l. (n, x) ∷ l) (filled_all f g rows h)

  pub filled_holes : (f : F) (rows : AsideOf F) → holes rows ≡ 1 → holes (filled f rows) ≡ 0
  filled_holes f [] h = absurd (omega arith)
  filled_holes f ((n, None) ∷ rows) h = omega arith
  filled_holes f ((n, Some x) ∷ rows) h = filled_holes f rows h

  pub filled_at : (f : F) (n : List ℕ) (rows : AsideOf F) → is_some (at n (filled f rows)) ≡ is_some (at n rows)
  filled_at f n [] = refl
  filled_at f n ((m, None) ∷ rows) = some_alike (bytes_eq n m) (Some f) None (at n rows) (at n rows) refl
  filled_at f n ((m, Some x) ∷ rows) = some_alike (bytes_eq n m) (Some x) (Some x) (at n (filled f rows)) (at n rows) (filled_at f n rows)

  pub filled_once : (f : F) (rows : AsideOf F) → once (filled f rows) ≡ once rows
  filled_once f ((n, Some x) ∷ rows) = rw (as_none (at n (filled f rows)) (at n rows) (filled_at f n rows), filled_once f rows) refl
  filled_once f rows = refl

  pub filled_length : (f : F) (rows : AsideOf F) → length (filled f rows) ≡ length rows
  filled_length f ((n, Some x) ∷ rows) = ap suc (filled_length f rows)
  filled_length f rows = refl

  pub filled_first : (f : F) (rows : AsideOf F) → begins_with_default (filled f rows) ≡ begins_with_default rows
  filled_first f ((n, None) ∷ rows) = refl
  filled_first f rows = refl

  -- ---- a flow is taken, and nothing stands at its name

  pub put_holes : (name : List ℕ) (rows : AsideOf F) → holes rows ≡ 0 → holes (put name None rows) ≡ 1
  put_holes name [] h = refl
  put_holes name ((n, None) ∷ rows) h = absurd (omega arith)
  put_holes name ((n, Some x) ∷ rows) h =
      cond_both (bytes_eq name n) ((n, None) ∷ rows) ((n, Some x) ∷ put name None rows) (λ l. holes l ≡ 1) (λ _. omega arith) (λ _. put_holes name rows h)

  pub put_current : (name : List ℕ) (rows : AsideOf F) → holes rows ≡ 0 → current_name (put name None rows) ≡ name
  put_current name [] h = refl
  put_current name ((n, None) ∷ rows) h = absurd (omega arith)
  put_current name ((n, Some x) ∷ rows) h =
      cond_both (bytes_eq name n) ((n, None) ∷ rows) ((n, Some x) ∷ put name None rows) (λ l. current_name l ≡ name) (λ e. sym (same_name name n e)) (λ _. put_current name rows h)

  pub put_first : (name : List ℕ) (x : Option F) (rows : AsideOf F) → begins_with_default rows ≡ true → begins_with_default (put name x rows) ≡ true
  put_first name x [] h = absurd (true≢false (sym h))
  put_first name x (r ∷ rows) h = cond_both (bytes_eq name r.0) ((r.0, x) ∷ rows) (r ∷ put name x rows) (λ l. begins_with_default l ≡ true) (λ _. h) (λ _. h)

  behind : (first last : List ℕ × F) (rows : Rows F) (b : Bool) → first ∷ (if b then rows else rows ++ last ∷ []) ≡ (if b then first ∷ rows else (first ∷ rows) ++ last ∷ [])
  behind first last rows true = refl
  behind first last rows false = refl

  put_all : (fresh g : F) (name : List ℕ) (left : AsideOf F) → holes left ≡ 0
      → all_flows (flow_named name fresh left) (put name None left) ≡ with_last name fresh (all_flows g left)
  put_all fresh g name [] h = refl
  put_all fresh g name ((n, None) ∷ rows) h = absurd (omega arith)
  put_all fresh g name ((n, Some x) ∷ rows) h = elim (cases_Bool (bytes_eq name n)) [
    | inl e ↦ rw e (ap (λ l. (n, x) ∷ l) (same_all x g rows h))
    | inr e ↦ rw e (ap (λ l. (n, x) ∷ l) (put_all fresh g name rows h) ∙ behind (n, x) (name, fresh) (all_flows g rows) (is_some (at name (all_flows g rows))))
  ]

  pub going_all : (fresh : F) (name : List ℕ) (fs : FlowsOf F) → holes fs.aside ≡ 1
      → all_flows (goes_to fresh name fs).current (goes_to fresh name fs).aside ≡ with_last name fresh (all_flows fs.current fs.aside)
  going_all fresh name fs h =
      put_all fresh fs.current name (filled fs.current fs.aside) (filled_holes fs.current fs.aside h) ∙ ap (with_last name fresh) (filled_all fs.current fs.current fs.aside h)

  pub going_current : (fresh : F) (name : List ℕ) (fs : FlowsOf F) → holes fs.aside ≡ 1 → current_name (goes_to fresh name fs).aside ≡ name
  going_current fresh name fs h = put_current name (filled fs.current fs.aside) (filled_holes fs.current fs.aside h)

  -- ---- a flow is taken away

  none_left : (name : List ℕ) (rows : AsideOf F) → holes rows ≡ 0 → holes (without name rows) ≡ 0
  none_left name [] h = refl
  none_left name ((n, None) ∷ rows) h = absurd (omega arith)
  none_left name ((n, Some x) ∷ rows) h = cond_both (bytes_eq name n) rows ((n, Some x) ∷ without name rows) (λ l. holes l ≡ 0) (λ _. h) (λ _. none_left name rows h)

  -- the current one is another
  pub without_holes : (name : List ℕ) (rows : AsideOf F) → holes rows ≡ 1 → bytes_eq name (current_name rows) ≡ false → holes (without name rows) ≡ 1
  without_holes name [] h other = absurd (omega arith)
  without_holes name ((n, None) ∷ rows) h other =
      let none : holes rows ≡ 0 = omega arith in
      let left : holes (without name rows) ≡ 0 = none_left name rows none in
      ap (λ b. holes (cond b rows ((n, None) ∷ without name rows))) other ∙ ap suc left
  without_holes name ((n, Some x) ∷ rows) h other =
      cond_both (bytes_eq name n) rows ((n, Some x) ∷ without name rows) (λ l. holes l ≡ 1) (λ _. h) (λ _. without_holes name rows h other)

  pub without_first : (name : List ℕ) (rows : AsideOf F) → begins_with_default rows ≡ true → bytes_eq name default_flow ≡ false → begins_with_default (without name rows) ≡ true
  without_first name [] h other = absurd (true≢false (sym h))
  without_first name (r ∷ rows) h other =
      let first : bytes_eq name r.0 ≡ false = ap (bytes_eq name) (same_name r.0 default_flow h) ∙ other in
      ap (λ b. begins_with_default (cond b rows (r ∷ without name rows))) first ∙ h

  pub default_there : (rows : AsideOf F) → begins_with_default rows ≡ true → is_some (at default_flow rows) ≡ true
  default_there [] h = absurd (true≢false (sym h))
  default_there (r ∷ rows) h = ap (λ b. is_some (cond b (Some r.1) (at default_flow rows))) (default_is r.0 h)

  default_last : (fresh f : F) (rows : AsideOf F) → begins_with_default rows ≡ true → with_last default_flow fresh (all_flows f rows) ≡ all_flows f rows
  default_last fresh f [] h = absurd (true≢false (sym h))
  default_last fresh f (r ∷ rows) h =
      let all : Rows F = all_flows f (r ∷ rows) in
      ap (λ b. if is_some (cond b (Some (unwrap_or r.1 f)) (at default_flow (all_flows f rows))) then all else all ++ (default_flow, fresh) ∷ []) (default_is r.0 h)

  pub dropped_all : (fresh : F) (name : List ℕ) (fs : FlowsOf F) → holes fs.aside ≡ 1 → begins_with_default fs.aside ≡ true
      → all_flows (dropped fresh name fs).current (dropped fresh name fs).aside ≡ without name (all_flows fs.current fs.aside)
  dropped_all fresh name fs h first = cond_both (bytes_eq name (current_name fs.aside)) (goes_to fresh default_flow fs) fs
      (λ (gs : FlowsOf F). all_flows gs.current (without name gs.aside) ≡ without name (all_flows fs.current fs.aside))
      (λ _. each_of_others (λ o. unwrap_or o (goes_to fresh default_flow fs).current) name (goes_to fresh default_flow fs).aside
      ∙ ap (without name) (going_all fresh default_flow fs h ∙ default_last fresh fs.current fs.aside first))
      (λ _. each_of_others (λ o. unwrap_or o fs.current) name fs.aside)
