-- A path that was read reads the same from its written form.
use Rattle.std.proofs.Common.{◌≡◌, ℕ, zero, suc, ◌<◌, ◌^◌, nat_lt, Bool, true, false, cond, List, [], ◌∷◌, ◌++◌, map, length, decimal, refl, sym, ap, ◌∙◌, arith, inl, inr, Option, Some, None}
use Rattle.std.specs.List.{list_all}
use Rattle.std.specs.Option.{option_map, option_and_then}
use Rattle.std.proofs.lemmas.Bool.{cases_Bool, cond-true, cond-false, eqb-false, ltb-true, lt-ltb, ne_eqb}
use Rattle.std.proofs.lemmas.Fmt.{digits_decimal, digits_value-decimal, decimal_nonempty}
use Rattle.std.proofs.lemmas.List.{append-nil}
use Rattle.std.proofs.lemmas.Option.{none-some, same_Some, cond_some}
use Rattle.std.proofs.lemmas.Str.Parse.{not_in_digits}
use Rattle.ink_model.specs.Text.Bytes.{onto, pieces, joined, is_digit, is_dot, number_from}
use Rattle.ink_model.specs.Story.Path.{component, components, path_with, read_path, part_text, path_text}
use Rattle.ink_model.specs.declared.place.Part.{Part}
use Rattle.ink_model.specs.declared.place.Part.TheVariants.{Index, Name}
use Rattle.ink_model.specs.declared.place.Path.{Path}
use Rattle.ink_path.specs.Laws.{ReadsBack}
use Rattle.ink_path.proofs.Reading.{NoDot, numerals, one_piece, first_piece}

-- ---- a component

-- its text holds no dot, and reads as the component
record IsRead (p : Part) : Type 0 where
  no_dot : NoDot (part_text p)
  same : component (part_text p) ≡ Some p

filled_component : (cs : List ℕ) → 0 < length cs → component cs ≡ cond (list_all is_digit cs) (cond (nat_lt (number_from 0 cs) (2 ^ 31)) (Some (Index (number_from 0 cs))) None) (Some (Name cs))
filled_component [] h = absurd (omega arith)
filled_component (c ∷ cs) h = refl

index_reads : (n : ℕ) → n < 2 ^ 31 → component (decimal n) ≡ Some (Index n)
index_reads n h =
    let wide : n < 2 ^ 64 = omega arith in
    filled_component (decimal n) (decimal_nonempty n wide)
    ∙ rw (digits_decimal numerals n wide, digits_value-decimal numerals n wide, lt-ltb n (2 ^ 31) h) refl

index_is_read : (n : ℕ) → n < 2 ^ 31 → IsRead (Index n)
index_is_read n h = record {
  no_dot = not_in_digits numerals (decimal n) 46 (digits_decimal numerals n (omega arith)) (λ r. omega (arith, r.0));
  same = index_reads n h;
}

-- a component that was read
component_is_read : (cs : List ℕ) (p : Part) → NoDot cs → component cs ≡ Some p → IsRead p
component_is_read [] p none e = absurd (none-some p e)
component_is_read (c ∷ cs) p none e =
    let n = number_from 0 (c ∷ cs) in
    let index = cond (nat_lt n (2 ^ 31)) (Some (Index n)) None in
    elim (cases_Bool (list_all is_digit (c ∷ cs))) [
      | inl d ↦
          let (small, same) = cond_some (nat_lt n (2 ^ 31)) (Index n) p (sym (cond-true (list_all is_digit (c ∷ cs)) index (Some (Name (c ∷ cs))) d) ∙ e) in
          rw (sym same) (index_is_read n (ltb-true n (2 ^ 31) small))
      | inr d ↦
          let named : component (c ∷ cs) ≡ Some (Name (c ∷ cs)) = cond-false (list_all is_digit (c ∷ cs)) index (Some (Name (c ∷ cs))) d in
          rw (sym (same_Some (Name (c ∷ cs)) p (sym named ∙ e))) (record { no_dot = none; same = named })
    ]

-- ---- components

abbrev EachNoDot : List (List ℕ) → Type 0
EachNoDot [] = Unit
EachNoDot (cs ∷ rest) = NoDot cs × EachNoDot rest

abbrev EachRead : List Part → Type 0
EachRead [] = Unit
EachRead (p ∷ ps) = IsRead p × EachRead ps

no_dot_onto : (c : ℕ) (cs : List ℕ) → is_dot c ≡ false → NoDot cs → NoDot (c ∷ cs)
no_dot_onto c cs e none zero l = λ h. eqb-false c 46 e h
no_dot_onto c cs e none (suc i) l = none i (omega arith)

no_dots_onto : (c : ℕ) (ps : List (List ℕ)) → is_dot c ≡ false → EachNoDot ps → EachNoDot (onto c ps)
no_dots_onto c [] e h = (no_dot_onto c [] e (λ i l. absurd (omega arith)), tt)
no_dots_onto c (p ∷ ps) e (h, hs) = (no_dot_onto c p e h, hs)

pieces_no_dot : (cs : List ℕ) → EachNoDot (pieces is_dot cs)
pieces_no_dot [] = ((λ i l. absurd (omega arith)), tt)
pieces_no_dot (c ∷ cs) =
    elim (cases_Bool (is_dot c)) [
      | inl e ↦ rw e ((λ i l. absurd (omega arith)), pieces_no_dot cs)
      | inr e ↦ rw e (no_dots_onto c (pieces is_dot cs) e (pieces_no_dot cs))
    ]

-- the parts of what was read
first_component : (o : Option Part) (rest : Option (List Part)) (ps : List Part) → option_and_then (λ p. option_map (λ qs. p ∷ qs) rest) o ≡ Some ps
    → (p : Part) × (qs : List Part) × (o ≡ Some p) × (rest ≡ Some qs) × (p ∷ qs ≡ ps)
first_component None rest ps e = absurd (none-some ps e)
first_component (Some p) None ps e = absurd (none-some ps e)
first_component (Some p) (Some qs) ps e = (p, qs, refl, refl, same_Some (p ∷ qs) ps e)

components_are_read : (css : List (List ℕ)) (ps : List Part) → EachNoDot css → components css ≡ Some ps → EachRead ps
components_are_read [] ps h e = rw (sym (same_Some [] ps e)) tt
components_are_read (cs ∷ css) ps (h, hs) e =
    let (p, qs, first, rest, all) = first_component (component cs) (components css) ps e in
    rw (sym all) (component_is_read cs p h first, components_are_read css qs hs rest)

-- what is written of components reads as they
written_components : (p : Part) (ps : List Part) → EachRead (p ∷ ps) → components (pieces is_dot (joined 46 (map part_text (p ∷ ps)))) ≡ Some (p ∷ ps)
written_components p [] (h, hs) = ap components (one_piece (part_text p) h.no_dot) ∙ rw h.same refl
written_components p (q ∷ qs) (h, hs) =
    ap components (first_piece (part_text p) (joined 46 (map part_text (q ∷ qs))) h.no_dot)
    ∙ ap (λ o. option_and_then (λ r. option_map (λ rs. r ∷ rs) (components (pieces is_dot (joined 46 (map part_text (q ∷ qs)))))) o) h.same
    ∙ ap (option_map (λ rs. p ∷ rs)) (written_components q qs hs)

-- ---- paths

pub some_piece : (cs : List ℕ) → (p : List ℕ) × (ps : List (List ℕ)) × (pieces is_dot cs ≡ p ∷ ps)
some_piece [] = ([], [], refl)
some_piece (c ∷ cs) =
    let (p, ps, e) = some_piece cs in
    elim (cases_Bool (is_dot c)) [ inl d ↦ rw d ([], pieces is_dot cs, refl) | inr d ↦ rw d (c ∷ p, ps, ap (onto c) e) ]

begins_with : (cs rest : List ℕ) (p : Part) → NoDot cs → component cs ≡ Some p → read_path (cs ++ rest) ≡ path_with false (cs ++ rest)
unfolding read_path
begins_with [] rest p none e = absurd (none-some p e)
begins_with (c ∷ cs) rest p none e = rw (ne_eqb c 46 (none 0 (omega arith))) refl

-- what is written of a component does not begin with a dot
begins : (p : Part) (rest : List ℕ) → IsRead p → read_path (part_text p ++ rest) ≡ path_with false (part_text p ++ rest)
begins p rest h = begins_with (part_text p) rest p h.no_dot h.same

joined_begins : (x : List ℕ) (xs : List (List ℕ)) → (rest : List ℕ) × (joined 46 (x ∷ xs) ≡ x ++ rest)
joined_begins x [] = ([], sym (append-nil x))
joined_begins x (y ∷ ys) = (46 ∷ joined 46 (y ∷ ys), refl)

abbrev path_of : Bool → List Part → Path
path_of relative ps = record { relative = relative; parts = ps }

written_path : (relative : Bool) (p : Part) (ps : List Part) → EachRead (p ∷ ps) → read_path (path_text (path_of relative (p ∷ ps))) ≡ Some (path_of relative (p ∷ ps))
unfolding read_path
written_path true p ps h = ap (option_map (path_of true)) (written_components p ps h)
written_path false p ps h =
    let (rest, e) = joined_begins (part_text p) (map part_text ps) in
    ap read_path e ∙ begins p rest h.0 ∙ ap (path_with false) (sym e) ∙ ap (option_map (path_of false)) (written_components p ps h)

written_parts : (relative : Bool) (text : List ℕ) (ps : List Part) → components (pieces is_dot text) ≡ Some ps → read_path (path_text (path_of relative ps)) ≡ Some (path_of relative ps)
written_parts relative text ps e =
    let (piece, others, some) = some_piece text in
    let (q, qs, first, rest, all) = first_component (component piece) (components others) ps (sym (ap components some) ∙ e) in
    let each : EachRead ps = components_are_read (pieces is_dot text) ps (pieces_no_dot text) e in
    rw (sym all) (written_path relative q qs (rw (sym all) at each))

written_with : (relative : Bool) (text : List ℕ) (o : Option (List Part)) (p : Path) → components (pieces is_dot text) ≡ o → option_map (path_of relative) o ≡ Some p → read_path (path_text p) ≡ Some p
written_with relative text None p h e = absurd (none-some p e)
written_with relative text (Some ps) p h e = rw (sym (same_Some (path_of relative ps) p e)) (written_parts relative text ps h)

pub reads_back : (p : Path) → ReadsBack p
unfolding read_path
reads_back p [] e = absurd (none-some p e)
reads_back p (c ∷ cs) e =
    elim (cases_Bool (is_dot c)) [
      | inl d ↦ written_with true cs _ p refl (sym (cond-true (is_dot c) (path_with true cs) (path_with false (c ∷ cs)) d) ∙ e)
      | inr d ↦ written_with false (c ∷ cs) _ p refl (sym (cond-false (is_dot c) (path_with true cs) (path_with false (c ∷ cs)) d) ∙ e)
    ]
