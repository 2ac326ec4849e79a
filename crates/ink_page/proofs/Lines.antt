-- Lines of marks: how they are written, and how wide they are.
use Rattle.std.proofs.Common.{◌≡◌, ◌∙◌, ◌+◌, ◌≤◌, ◌<◌, ℕ, zero, suc, List, [], ◌∷◌, ◌++◌, Bool, true, false, not, refl, sym, ap, arith, append_assoc, replicate, length, encode_utf8_all, inl, inr}
use Rattle.std.proofs.lemmas.Bool.{and_from, and_parts}
use Rattle.std.proofs.lemmas.List.Folds.{list_all-append}
use Rattle.std.proofs.lemmas.Str.{encode_ascii}
use Rattle.std.proofs.lemmas.Bool.Decides.{nat_tests}
use Rattle.std.specs.List.{list_all}
use Rattle.std.specs.Char.{is_control}
use Rattle.std.specs.Str.{all_scalars}
use Rattle.unicode_width.specs.Width.{char_width}
use Rattle.ink_page.specs.Lines.{AreLines, FitsColumns, IsLine, Mark, Letter, Dim, Undim, lines_broken, is_plain, widest, width, written}
use Rattle.ink_page.specs.Sheet.{columns_of}

-- ---- one behind another

pub written-append : (a b : List Mark) → written (a ++ b) ≡ written a ++ written b
written-append [] b = refl
written-append (Letter c ∷ a) b = ap (λ l. c ∷ l) (written-append a b)
written-append (Dim ∷ a) b = ap (λ l. 27 ∷ 91 ∷ 50 ∷ 109 ∷ l) (written-append a b)
written-append (Undim ∷ a) b = ap (λ l. 27 ∷ 91 ∷ 48 ∷ 109 ∷ l) (written-append a b)

pub width-append : (a b : List Mark) → width (a ++ b) ≡ width a + width b
width-append [] b = omega arith
width-append (Letter c ∷ a) b = let more = width-append a b in omega arith
width-append (Dim ∷ a) b = width-append a b
width-append (Undim ∷ a) b = width-append a b

pub widest-behind : (a b : List Mark) → widest b ≤ widest (a ++ b)
widest-behind [] b = omega arith
widest-behind (Letter c ∷ a) b = let more = widest-behind a b in omega arith
widest-behind (Dim ∷ a) b = widest-behind a b
widest-behind (Undim ∷ a) b = widest-behind a b

pub widest-before : (a b : List Mark) → widest a ≤ widest (a ++ b)
widest-before [] b = omega arith
widest-before (Letter c ∷ a) b = let more = widest-before a b in omega arith
widest-before (Dim ∷ a) b = widest-before a b
widest-before (Undim ∷ a) b = widest-before a b

pub broken-push : (ls : List (List Mark)) (l : List Mark) → lines_broken (ls ++ l ∷ []) ≡ lines_broken ls ++ (written l ++ 10 ∷ [])
broken-push [] l = refl
broken-push (m ∷ ls) l = ap (λ x. written m ++ 10 ∷ x) (broken-push ls l) ∙ sym (append_assoc (written m) (10 ∷ lines_broken ls) (written l ++ 10 ∷ []))

pub lines-push : (dims : Bool) (columns margin : ℕ) (ls : List (List Mark)) (l : List Mark) → AreLines dims columns margin ls → IsLine dims columns margin l → AreLines dims columns margin (ls ++ l ∷ [])
lines-push dims columns margin [] l all last = (last, tt)
lines-push dims columns margin (m ∷ ls) l all last = (all.0, lines-push dims columns margin ls l all.1 last)

pub plain-append : (dims : Bool) (a b : List Mark) → list_all (is_plain dims) a ≡ true → list_all (is_plain dims) b ≡ true → list_all (is_plain dims) (a ++ b) ≡ true
plain-append dims a b ha hb = list_all-append (is_plain dims) a b ∙ and_from (list_all (is_plain dims) a) (list_all (is_plain dims) b) ha hb

pub scalars-append : (cs ds : List ℕ) → all_scalars cs ≡ true → all_scalars ds ≡ true → all_scalars (cs ++ ds) ≡ true
scalars-append [] ds hc hd = hd
scalars-append (c ∷ cs) ds hc hd =
    let both = and_parts _ _ hc in and_from _ _ both.0 (scalars-append cs ds both.1 hd)

-- what fits, fits behind more
pub fits-behind : (columns margin n : ℕ) (a b : List Mark) → FitsColumns columns margin b n → FitsColumns columns margin (a ++ b) n
fits-behind columns margin n a b (inl h) = inl h
fits-behind columns margin n a b (inr h) = let more = widest-behind a b in inr (omega arith)

-- and with more behind it
pub fits-before : (columns margin n : ℕ) (a b : List Mark) → FitsColumns columns margin a n → FitsColumns columns margin (a ++ b) n
fits-before columns margin n a b (inl h) = inl h
fits-before columns margin n a b (inr h) = let more = widest-before a b in inr (omega arith)

-- ---- printable characters of ASCII

abbrev pub ArePrintable : List ℕ → Type 0
ArePrintable [] = Unit {0}
ArePrintable (b ∷ bs) = (32 ≤ b) × (b < 127) × ArePrintable bs

abbrev pub letters : List ℕ → List Mark
letters [] = []
letters (c ∷ cs) = Letter c ∷ letters cs

pub letters-written : (cs : List ℕ) → written (letters cs) ≡ cs
letters-written [] = refl
letters-written (c ∷ cs) = ap (λ l. c ∷ l) (letters-written cs)

pub one_column : (c : ℕ) → 32 ≤ c → c < 127 → columns_of c ≡ 1
unfolding char_width
one_column c low high = grind (arith, nat_tests)

pub no_control : (c : ℕ) → 32 ≤ c → c < 127 → is_control c ≡ false
no_control c low high = grind (arith, nat_tests)

pub printable-width : (cs : List ℕ) → ArePrintable cs → width (letters cs) ≡ length cs
printable-width [] h = refl
printable-width (c ∷ cs) h = let one = one_column c h.0 h.1 in let more = printable-width cs h.2 in omega arith

pub printable-plain : (dims : Bool) (cs : List ℕ) → ArePrintable cs → list_all (is_plain dims) (letters cs) ≡ true
printable-plain dims [] h = refl
printable-plain dims (c ∷ cs) h = and_from _ _ (ap not (no_control c h.0 h.1)) (printable-plain dims cs h.2)

pub printable-scalars : (cs : List ℕ) → ArePrintable cs → all_scalars cs ≡ true
printable-scalars [] h = refl
printable-scalars (c ∷ cs) h = and_from _ _ (grind (arith, nat_tests)) (printable-scalars cs h.2)

pub printable-encoded : (cs : List ℕ) → ArePrintable cs → encode_utf8_all cs ≡ cs
printable-encoded [] h = refl
printable-encoded (c ∷ cs) h = (λ k. encode_ascii c (omega arith) k ++ printable-encoded cs h.2 k)

-- the sign that what comes is dimmed, or no longer
pub sign-encoded : (cs : List ℕ) → ArePrintable cs → encode_utf8_all (27 ∷ cs) ≡ 27 ∷ cs
sign-encoded cs h = (λ k. encode_ascii 27 (omega arith) k ++ printable-encoded cs h k)

pub newline-encoded : encode_utf8_all (10 ∷ []) ≡ 10 ∷ []
newline-encoded = (λ k. encode_ascii 10 (omega arith) k ++ [])

pub blanks : (n : ℕ) → ArePrintable (replicate n 32)
blanks zero = tt
blanks (suc n) = (omega arith, omega arith, blanks n)
