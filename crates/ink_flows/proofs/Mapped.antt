-- Rows of flows, by what each flow stands for.
use Rattle.std.proofs.Common.{◌≡◌, ◌∙◌, ap, refl, sym, ℕ, suc, List, [], ◌∷◌, ◌++◌, length, Bool, true, false, bytes_eq, is_none, is_some, if◌then◌else◌, Option, Some, None}
use Rattle.std.specs.Option.{option_map}
use Rattle.ink_model.specs.Run.Flows.{AsideOf, current_name, filled, holes}
use Rattle.ink_model.specs.Variables.Named.{at, each, names, put, without}

module _ {F G : Type 0} (g : F → G) where
  abbrev pub seen : AsideOf F → AsideOf G
  seen rows = each (option_map g) rows

  hole_seen : (o : Option F) → is_none (option_map g o) ≡ is_none o
  hole_seen None = refl
  hole_seen (Some f) = refl

  pub at_seen : (name : List ℕ) (rows : AsideOf F) → at name (seen rows) ≡ option_map (option_map g) (at name rows)
  at_seen name [] = refl
  at_seen name (r ∷ rows) = by (bytes_eq name r.0) (at_seen name rows)
    where
      by : (b : Bool) → at name (seen rows) ≡ option_map (option_map g) (at name rows)
          → (if b then Some (option_map g r.1) else at name (seen rows)) ≡ option_map (option_map g) (if b then Some r.1 else at name rows)
      by true more = refl
      by false more = more

  pub there_seen : (name : List ℕ) (rows : AsideOf F) → is_some (at name (seen rows)) ≡ is_some (at name rows)
  there_seen name rows = ap is_some (at_seen name rows) ∙ by (at name rows)
    where
      by : (o : Option (Option F)) → is_some (option_map (option_map g) o) ≡ is_some o
      by None = refl
      by (Some x) = refl

  pub put_seen : (name : List ℕ) (x : Option F) (rows : AsideOf F) → seen (put name x rows) ≡ put name (option_map g x) (seen rows)
  put_seen name x [] = refl
  put_seen name x (r ∷ rows) = by (bytes_eq name r.0) (put_seen name x rows)
    where
      by : (b : Bool) → seen (put name x rows) ≡ put name (option_map g x) (seen rows)
          → seen (if b then (r.0, x) ∷ rows else r ∷ put name x rows) ≡ (if b then (r.0, option_map g x) ∷ seen rows else (r.0, option_map g r.1) ∷ put name (option_map g x) (seen rows))
      by true more = refl
      by false more = ap (λ rs. (r.0, option_map g r.1) ∷ rs) more

  pub without_seen : (name : List ℕ) (rows : AsideOf F) → seen (without name rows) ≡ without name (seen rows)
  without_seen name [] = refl
  without_seen name (r ∷ rows) = by (bytes_eq name r.0) (without_seen name rows)
    where
      by : (b : Bool) → seen (without name rows) ≡ without name (seen rows)
          → seen (if b then rows else r ∷ without name rows) ≡ (if b then seen rows else (r.0, option_map g r.1) ∷ without name (seen rows))
      by true more = refl
      by false more = ap (λ rs. (r.0, option_map g r.1) ∷ rs) more

  pub more_seen : (rows : AsideOf F) (name : List ℕ) (x : Option F) → seen (rows ++ (name, x) ∷ []) ≡ seen rows ++ (name, option_map g x) ∷ []
  more_seen [] name x = refl
  more_seen (r ∷ rows) name x = ap (λ rs. (r.0, option_map g r.1) ∷ rs) (more_seen rows name x)

  pub filled_seen : (f : F) (rows : AsideOf F) → seen (filled f rows) ≡ filled (g f) (seen rows)
  filled_seen f [] = refl
  filled_seen f (r ∷ rows) = by (is_none r.1) (filled_seen f rows) ∙ ap (λ b. if b then (r.0, Some (g f)) ∷ seen rows else (r.0, option_map g r.1) ∷ filled (g f) (seen rows)) (sym (hole_seen r.1))
    where
      by : (b : Bool) → seen (filled f rows) ≡ filled (g f) (seen rows)
          → seen (if b then (r.0, Some f) ∷ rows else r ∷ filled f rows) ≡ (if b then (r.0, Some (g f)) ∷ seen rows else (r.0, option_map g r.1) ∷ filled (g f) (seen rows))
      by true more = refl
      by false more = ap (λ rs. (r.0, option_map g r.1) ∷ rs) more

  pub current_seen : (rows : AsideOf F) → current_name (seen rows) ≡ current_name rows
  current_seen [] = refl
  current_seen (r ∷ rows) = ap (λ b. if b then r.0 else current_name (seen rows)) (hole_seen r.1) ∙ ap (λ n. if is_none r.1 then r.0 else n) (current_seen rows)

  -- at as many names nothing stands
  pub holes_seen : (rows : AsideOf F) → holes (seen rows) ≡ holes rows
  holes_seen [] = refl
  holes_seen ((n, None) ∷ rows) = ap suc (holes_seen rows)
  holes_seen ((n, Some f) ∷ rows) = holes_seen rows

  pub length_seen : (rows : AsideOf F) → length (seen rows) ≡ length rows
  length_seen [] = refl
  length_seen (r ∷ rows) = ap suc (length_seen rows)

  pub names_seen : (rows : AsideOf F) → names (seen rows) ≡ names rows
  names_seen [] = refl
  names_seen (r ∷ rows) = ap (λ ns. r.0 ∷ ns) (names_seen rows)
