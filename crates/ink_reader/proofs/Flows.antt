-- Looking for a flow, and for what is last.
use Rattle.std.proofs.Common.{◌≡◌, ◌∙◌, ℕ, suc, ◌+◌, ◌-◌, ◌<◌, ◌≤◌, List, [], ◌∷◌, length, drop, get_or, false, Option, Some, None, option_map, Bor, if◌then◌else◌, ap, refl, sym, arith}
use Rattle.std.specs.List.{slice_get}
use Rattle.std.specs.Option.{option_copied}
use Rattle.std.proofs.lemmas.List.{at_drop_more, at_drop_all}
use Rattle.serde_json.specs.Data.{Data}
use Rattle.serde_json.specs.View.{items_view, view}
use Rattle.serde_json.specs.declared.value.Value.{Value}
use Rattle.serde_json.proofs.Views.{view_of_ref}
use Rattle.ink_reader.specs.Whereabouts.{flow_named, is_named, last_item}

last_got : (vs : List Value) → option_map view (slice_get vs (length vs - 1)) ≡ last_item (items_view vs)
last_got [] = refl
last_got (v ∷ []) = refl
last_got (v ∷ w ∷ vs) =
    let more : suc (suc (length vs)) - 1 ≡ suc (suc (length vs) - 1) = omega arith in ap (λ i. option_map view (slice_get (v ∷ w ∷ vs) i)) more ∙ last_got (w ∷ vs)

pub last_is : (vs : List Value) (r : Option (Bor Value)) → option_copied r ≡ slice_get vs (length vs - 1) → option_map (λ j. view j.now) r ≡ last_item (items_view vs)
last_is vs r h = view_of_ref r ∙ ap (option_map view) h ∙ last_got vs

-- of the flows that are left
abbrev pub left : List ℕ → List Value → Option Data
left name vs = flow_named name (items_view vs)

pub left_more : (name : List ℕ) (vs : List Value) (i : ℕ) (d : Value) (whole : Option Data) → i < length vs → is_named name (view (get_or vs i d)) ≡ false → left name (drop i vs) ≡ whole
    → left name (drop (i + 1) vs) ≡ whole
left_more name vs i d whole lt e h =
    sym (ap (λ b. if b then Some (view (get_or vs i d)) else left name (drop (i + 1) vs)) e) ∙ sym (at_drop_more (left name) vs i d lt) ∙ h

pub left_none : (name : List ℕ) (vs : List Value) (i : ℕ) (whole : Option Data) → length vs ≤ i → left name (drop i vs) ≡ whole → None ≡ whole
left_none name vs i whole le h = sym (at_drop_all (left name) vs i le) ∙ h
