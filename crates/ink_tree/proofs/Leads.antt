-- Where components lead that stand in a text, one after another.
use Rattle.std.proofs.Common.{◌≡◌, ◌≢◌, ◌⊎◌, ◌∙◌, ℕ, List, [], ◌∷◌, Bool, cond, Option, Some, None, inl, inr, refl, sym, ap, option_map, option_and_then}
use Rattle.ink_tree.proofs.Common.{none-some, same_Some, component, components, ends_in_index, read_path, stepped, target, walked, StoryTree, Part, Index, Name}
use Rattle.ink_model.specs.declared.place.Path.{Path}
use Rattle.ink_path.specs.Components.{path_of}
use Rattle.ink_tree.specs.Leads.{LastLeads, Leads, LeadsBy}
use Rattle.ink_tree.specs.declared.leading.Lead.{Lead}

-- of texts of which there is one there is no component, or one at least
some_component : (r : List ℕ) (rs : List (List ℕ)) → (components (r ∷ rs) ≡ None) ⊎ ((d : Part) × (ds : List Part) × (components (r ∷ rs) ≡ Some (d ∷ ds)))
some_component r rs = by (component r) (components rs)
  where
    by : (o : Option Part) (os : Option (List Part)) → (option_and_then (λ p. option_map (λ ps. p ∷ ps) os) o ≡ None) ⊎ ((d : Part) × (ds : List Part) × (option_and_then (λ p. option_map (λ ps. p ∷ ps) os) o ≡ Some (d ∷ ds)))
    by None os = inl refl
    by (Some p) None = inl refl
    by (Some p) (Some ps) = inr (p, ps, refl)

index_last : (c d : Part) (ds : List Part) → ends_in_index (c ∷ d ∷ ds) ≡ ends_in_index (d ∷ ds)
index_last (Index i) d ds = refl
index_last (Name n) d ds = refl

-- the components of which the first is known
module _ (text : List ℕ) (rest : List (List ℕ)) (c : Part) (read : component text ≡ Some c) where
  with_first : components (text ∷ rest) ≡ option_map (λ ps. c ∷ ps) (components rest)
  with_first = ap (option_and_then (λ p. option_map (λ ps. p ∷ ps) (components rest))) read

  module _ (s : StoryTree) (p : List Part) where
    -- with more to come, they lead where those behind lead from the next place
    pub steps_on : (o : Option (List Part)) → rest ≢ [] → o ≡ stepped s p c
        → option_and_then (walked s p) (components (text ∷ rest)) ≡ option_and_then (λ q. option_and_then (walked s q) (components rest)) o
    steps_on o some step = ap (option_and_then (walked s p)) with_first ∙ by rest some
      where
        nowhere : (o : Option (List Part)) → None ≡ option_and_then (λ q. option_and_then (walked s q) None) o
        nowhere None = refl
        nowhere (Some q) = refl

        by : (rest : List (List ℕ)) → rest ≢ []
            → option_and_then (walked s p) (option_map (λ ps. c ∷ ps) (components rest)) ≡ option_and_then (λ q. option_and_then (walked s q) (components rest)) o
        by [] some = absurd (some refl)
        by (r ∷ rs) some = elim (some_component r rs) [
          | inl none ↦ rw none (nowhere o)
          | inr (d, ds, is) ↦ rw is (ap (option_and_then (λ q. walked s q (d ∷ ds))) (sym step))
        ]

    -- the last one leads where they all do
    pub ends : (whole : Option (List Part)) (all : List (List ℕ)) (from : List Part) (l : Option Lead) → rest ≡ [] → LastLeads s p c l
        → option_and_then (walked s p) (components (text ∷ rest)) ≡ option_and_then (walked s from) (components all)
        → ((ps : List Part) → components all ≡ Some ps → (qs : List Part) × (components (text ∷ rest) ≡ Some qs) × (ends_in_index ps ≡ ends_in_index qs))
        → LeadsBy s from all l
    ends whole all from l none last so_far index = by l last
      where
        alone : components (text ∷ rest) ≡ Some (c ∷ [])
        alone = with_first ∙ ap (λ rs. option_map (λ ps. c ∷ ps) (components rs)) none

        leads_all : option_and_then (walked s from) (components all) ≡ walked s p (c ∷ [])
        leads_all = sym so_far ∙ ap (option_and_then (walked s p)) alone

        by : (l : Option Lead) → LastLeads s p c l → LeadsBy s from all l
        by None is = leads_all ∙ is
        by (Some l) (is, same) = (leads_all ∙ is, λ ps e. let (qs, now, alike) = index ps e in alike ∙ ap ends_in_index (sym (same_Some (c ∷ []) qs (sym alone ∙ now))) ∙ same)

  -- and their last one is the last of those behind
  pub index_on : (ps : List Part) → rest ≢ [] → components (text ∷ rest) ≡ Some ps → (qs : List Part) × (components rest ≡ Some qs) × (ends_in_index ps ≡ ends_in_index qs)
  index_on ps some e = by rest some (sym with_first ∙ e)
    where
      by : (rest : List (List ℕ)) → rest ≢ [] → option_map (λ ps. c ∷ ps) (components rest) ≡ Some ps → (qs : List Part) × (components rest ≡ Some qs) × (ends_in_index ps ≡ ends_in_index qs)
      by [] some e = absurd (some refl)
      by (r ∷ rs) some e = elim (some_component r rs) [
        | inl none ↦ absurd (none-some ps (rw none at e))
        | inr (d, ds, is) ↦ (d ∷ ds, is, ap ends_in_index (sym (same_Some (c ∷ d ∷ ds) ps (rw is at e))) ∙ index_last c d ds)
      ]

-- a path leads where its components do
pub path_leads : (s : StoryTree) (p start : List Part) (text : List ℕ) (relative : Bool) (texts : List (List ℕ)) (l : Option Lead) → read_path text ≡ path_of relative texts
    → start ≡ cond relative p [] → LeadsBy s start texts l → Leads s p text l
unfolding target
path_leads s p start text relative texts l read from leads_by = by (components texts) l refl leads_by
  where
    of_parts : List Part → Path
    of_parts ps = record { relative = relative; parts = ps }

    by : (o : Option (List Part)) (l : Option Lead) → components texts ≡ o → LeadsBy s start texts l → Leads s p text l
    by None None e is = ap (option_and_then (target s p)) (read ∙ ap (option_map of_parts) e)
    by (Some ps) None e is =
        ap (option_and_then (target s p)) (read ∙ ap (option_map of_parts) e) ∙ ap (λ q. walked s q ps) (sym from) ∙ sym (ap (option_and_then (walked s start)) e) ∙ is
    by None (Some l) e (is, index) = absurd (none-some _ (sym (ap (option_and_then (walked s start)) e) ∙ is))
    by (Some ps) (Some l) e (is, index) =
        (of_parts ps, read ∙ ap (option_map of_parts) e, ap (λ q. walked s q ps) (sym from) ∙ sym (ap (option_and_then (walked s start)) e) ∙ is, index ps e)
