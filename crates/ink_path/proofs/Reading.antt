-- Components between dots, read from the first on.
use Rattle.std.proofs.Common.{◌≡◌, ◌≢◌, ℕ, suc, ◌+◌, ◌<◌, ◌≤◌, ◌^◌, nat_lt, Bool, true, false, true≢false, ◌&&◌, cond, is_some, List, [], ◌∷◌, ◌++◌, length, get_or, drop, refl, sym, ap, ◌∙◌, arith, rules, Option, Some, None}
use Rattle.std.specs.List.{list_all}
use Rattle.std.specs.Option.{option_map, option_and_then}
use Rattle.std.proofs.lemmas.Bool.{ne_eqb}
use Rattle.std.specs.Str.{IsUtf8}
use Rattle.std.proofs.lemmas.List.{append_assoc, drop_at, length-append}
use Rattle.std.proofs.lemmas.Str.{IsUtf8-drop, IsCharBoundary-after_ascii}
use Rattle.std.proofs.lemmas.Str.Parse.{IsNumeralModel, numerals_by_fold}
use Rattle.ink_model.specs.Text.Bytes.{onto, pieces, is_digit, is_dot, number_from}
use Rattle.ink_model.specs.Story.Path.{component, components, path_with, read_path}
use Rattle.ink_model.specs.declared.place.Part.{Part}
use Rattle.ink_model.specs.declared.place.Part.TheVariants.{Index, Name}
use Rattle.ink_model.specs.declared.place.Path.{Path}
use Rattle.ink_path.specs.Components.{behind_dot, is_relative}
use Rattle.ink_path.specs.Laws.{index_of}

-- ---- indexes

pub numerals : IsNumeralModel (λ ds. list_all is_digit ds ≡ true) (number_from 0)
numerals = numerals_by_fold _ (search rules) number_from (search rules)

pub small_index : (cs : List ℕ) (n : ℕ) → n ≡ number_from 0 cs → n ≤ 2147483647 → Some n ≡ index_of cs
small_index cs n e h = rw e (grind arith)

pub large_index : (cs : List ℕ) → 2147483648 ≤ number_from 0 cs → None ≡ index_of cs
large_index cs h = grind arith

-- ---- a component

pub is_index : (cs : List ℕ) → 0 < length cs → list_all is_digit cs ≡ true → component cs ≡ option_map (λ i. Index i) (index_of cs)
is_index [] filled digits = absurd (omega arith)
is_index (c ∷ cs) filled digits = rw digits (indexed (nat_lt (number_from 0 (c ∷ cs)) (2 ^ 31)))
  where
    indexed : (b : Bool) → cond b (Some (Index (number_from 0 (c ∷ cs)))) None ≡ option_map (λ i. Index i) (cond b (Some (number_from 0 (c ∷ cs))) None)
    indexed true = refl
    indexed false = refl

pub is_name : (cs : List ℕ) → 0 < length cs → list_all is_digit cs ≡ false → component cs ≡ Some (Name cs)
is_name [] filled named = absurd (omega arith)
is_name (c ∷ cs) filled named = rw named refl

mapped : (o : Option ℕ) → is_some (option_map (λ i. Index i) o) ≡ is_some o
mapped None = refl
mapped (Some i) = refl

pub index_stands : (cs : List ℕ) → 0 < length cs → list_all is_digit cs ≡ true → is_some (component cs) ≡ is_some (index_of cs)
index_stands cs filled digits = ap is_some (is_index cs filled digits) ∙ mapped (index_of cs)

-- ---- pieces between dots

abbrev pub NoDot : List ℕ → Type 0
NoDot cs = (i : ℕ) → i < length cs → get_or cs i 0 ≢ 46

no_dot_first : (c : ℕ) (cs : List ℕ) → NoDot (c ∷ cs) → is_dot c ≡ false
no_dot_first c cs h = ne_eqb c 46 (h 0 (omega arith))

no_dot_rest : (c : ℕ) (cs : List ℕ) → NoDot (c ∷ cs) → NoDot cs
no_dot_rest c cs h = λ i l. h (suc i) (omega arith)

pub one_piece : (cs : List ℕ) → NoDot cs → pieces is_dot cs ≡ cs ∷ []
one_piece [] h = refl
one_piece (c ∷ cs) h = rw (no_dot_first c cs h) (ap (onto c) (one_piece cs (no_dot_rest c cs h)))

pub first_piece : (cs others : List ℕ) → NoDot cs → pieces is_dot (cs ++ 46 ∷ others) ≡ cs ∷ pieces is_dot others
first_piece [] others h = refl
first_piece (c ∷ cs) others h = rw (no_dot_first c cs h) (ap (onto c) (first_piece cs others (no_dot_rest c cs h)))

at_dot : (cs others : List ℕ) → get_or (cs ++ 46 ∷ others) (length cs) 0 ≡ 46
at_dot [] others = refl
at_dot (c ∷ cs) others = at_dot cs others

past_dot : (cs others : List ℕ) → drop (length cs + 1) (cs ++ 46 ∷ others) ≡ others
past_dot cs others = ap (drop (length cs + 1)) (sym (append_assoc cs (46 ∷ []) others)) ∙ drop_at (cs ++ 46 ∷ []) others (length cs + 1) (length-append cs (46 ∷ []))

pub utf8_behind : (cs first others : List ℕ) → IsUtf8 cs → cs ≡ first ++ 46 ∷ others → IsUtf8 others
utf8_behind cs first others u split =
    let v : IsUtf8 (first ++ 46 ∷ others) = rw split at u in
    let long : length first < length (first ++ 46 ∷ others) = omega (arith, length-append first (46 ∷ others)) in
    rw (past_dot first others) at (IsUtf8-drop (first ++ 46 ∷ others) (length first + 1) v
    (IsCharBoundary-after_ascii (first ++ 46 ∷ others) (length first) v long (omega (arith, at_dot first others))))

-- ---- components in order

-- components behind those that were read
abbrev pub behind : List Part → Option (List Part) → Option (List Part)
behind ps rest = option_map (λ qs. ps ++ qs) rest

behind_one : (ps : List Part) (p : Part) (rest : Option (List Part)) → behind (ps ++ p ∷ []) rest ≡ behind ps (option_map (λ qs. p ∷ qs) rest)
behind_one ps p None = refl
behind_one ps p (Some qs) = ap Some (append_assoc ps (p ∷ []) qs)

-- the first of several components, and the rest
module _ (cs first others : List ℕ) (split : cs ≡ first ++ 46 ∷ others) (none : NoDot first) where
  cut_off : components (pieces is_dot cs) ≡ option_and_then (λ p. option_map (λ qs. p ∷ qs) (components (pieces is_dot others))) (component first)
  cut_off = ap (λ ds. components (pieces is_dot ds)) split ∙ ap components (first_piece first others none)

  pub both_stand : is_some (components (pieces is_dot cs)) ≡ (is_some (component first) && is_some (components (pieces is_dot others)))
  both_stand = ap is_some cut_off ∙ both (component first) (components (pieces is_dot others))
    where
      both : (o : Option Part) (rest : Option (List Part)) → is_some (option_and_then (λ p. option_map (λ qs. p ∷ qs) rest) o) ≡ (is_some o && is_some rest)
      both None rest = refl
      both (Some p) None = refl
      both (Some p) (Some qs) = refl

  pub next_read : (ps new : List Part) (p : Part) (all : Option (List Part)) → Some p ≡ component first → new ≡ ps ++ p ∷ []
      → behind ps (components (pieces is_dot cs)) ≡ all → behind new (components (pieces is_dot others)) ≡ all
  next_read ps new p all read more so_far =
      ap (λ qs. behind qs (components (pieces is_dot others))) more ∙ behind_one ps p (components (pieces is_dot others))
      ∙ ap (behind ps) (sym (cut_off ∙ ap (option_and_then (λ q. option_map (λ qs. q ∷ qs) (components (pieces is_dot others)))) (sym read))) ∙ so_far

-- the last one
module _ (cs : List ℕ) (none : NoDot cs) where
  last_alone : components (pieces is_dot cs) ≡ option_map (λ p. p ∷ []) (component cs)
  last_alone = ap components (one_piece cs none) ∙ alone (component cs)
    where
      alone : (o : Option Part) → option_and_then (λ p. Some (p ∷ [])) o ≡ option_map (λ p. p ∷ []) o
      alone None = refl
      alone (Some p) = refl

  pub last_stands : is_some (components (pieces is_dot cs)) ≡ is_some (component cs)
  last_stands = ap is_some last_alone ∙ some (component cs)
    where
      some : (o : Option Part) → is_some (option_map (λ p. p ∷ []) o) ≡ is_some o
      some None = refl
      some (Some p) = refl

  pub last_read : (ps new : List Part) (p : Part) (all : Option (List Part)) → Some p ≡ component cs → new ≡ ps ++ p ∷ []
      → behind ps (components (pieces is_dot cs)) ≡ all → Some new ≡ all
  last_read ps new p all read more so_far =
      let cut : components (pieces is_dot cs) ≡ Some (p ∷ []) = last_alone ∙ ap (option_map (λ q. q ∷ [])) (sym read) in
      ap Some more ∙ sym (ap (behind ps) cut) ∙ so_far

-- what is left is as good as the whole
pub left_stands : (ps : List Part) (rest all : Option (List Part)) → behind ps rest ≡ all → is_some all ≡ true → is_some rest ≡ true
left_stands ps None all is h = absurd (true≢false (sym h ∙ ap is_some (sym is)))
left_stands ps (Some qs) all is h = refl

-- and so is what stands first in it
pub first_stands : (a b : Bool) (whole : Bool) → whole ≡ (a && b) → whole ≡ true → a ≡ true
first_stands true b whole is h = refl
first_stands false b whole is h = sym is ∙ h

-- ---- paths

pub absolute : (cs : List ℕ) → ((rest : List ℕ) → cs ≢ 46 ∷ rest) → read_path cs ≡ path_with false cs
unfolding read_path
absolute [] h = refl
absolute (c ∷ cs) h = rw (ne_eqb c 46 (λ e. h cs (ap (λ d. d ∷ cs) e))) refl

-- no dot stands in front of it
pub not_relative : (cs : List ℕ) → ((rest : List ℕ) → cs ≢ 46 ∷ rest) → false ≡ is_relative cs
not_relative [] h = refl
not_relative (c ∷ cs) h = sym (ne_eqb c 46 (λ e. h cs (ap (λ d. d ∷ cs) e)))

pub all_behind : (cs : List ℕ) → ((rest : List ℕ) → cs ≢ 46 ∷ rest) → cs ≡ behind_dot cs
all_behind [] h = refl
all_behind (c ∷ cs) h = rw (ne_eqb c 46 (λ e. h cs (ap (λ d. d ∷ cs) e))) refl

pub no_path : (p : Option Path) → is_some p ≡ false → p ≡ None
no_path None h = refl
no_path (Some p) h = absurd (cc)
