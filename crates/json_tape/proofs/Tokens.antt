-- A text has no more tokens than bytes.
use Rattle.std.proofs.Common.{◌≡◌, ℕ, suc, ◌+◌, ◌≤◌, List, [], ◌∷◌, length, Bool, true, false, refl, arith}
use Rattle.json.specs.Token.{Token, begin_object, end_object, begin_array, end_array, key, string, bad}
use Rattle.json.specs.Lex.{tokens, lex, lex_byte, class, Class, quote, operator, Mode, between, in_word, in_string, in_escape, Lexeme, token, comma, colon, punctuate, place_token, if_allowed, may_begin, may_close, begins_colon, Place, fresh, after_value, after_comma, after_key}

-- ---- a lexeme takes a byte

lexemes : (m : Mode) (c : Class) (x : ℕ) (xs : List ℕ) (k : Mode → List Lexeme) (n : ℕ) → ((next : Mode) → length (k next) ≤ n) → length (lex_byte m c x xs k) ≤ suc n
lexemes between quote x xs k n h = omega (arith, h in_string)
lexemes between c x xs k n h = omega (arith, h between, h in_word)
lexemes in_word operator x xs k n h = omega (arith, h between)
lexemes in_word c x xs k n h = omega (arith, h between, h in_word)
lexemes in_string quote x xs k n h = omega (arith, h between)
lexemes in_string c x xs k n h = omega (arith, h in_string, h in_escape)
lexemes in_escape c x xs k n h = omega (arith, h in_string)

lex_length : (xs : List ℕ) (m : Mode) → length (lex m xs) ≤ length xs
unfolding lex
lex_length [] m = omega arith
lex_length (x ∷ xs) m = lexemes m (class x) x xs (λ next. lex next xs) (length xs) (lex_length xs)

-- ---- and no token more than one

allowed : (b : Bool) (t : Token) (k : Place → List Token) (p : Place) (n : ℕ) → length (k p) ≤ n → length (if_allowed b t k p) ≤ suc n
allowed true t k p n h = omega arith
allowed false t k p n h = omega arith

-- a key is followed by a colon, which is no token
placed : (p : Place) (t : Token) (b : Bool) (k : Place → List Token) (n : ℕ) → length (k fresh) ≤ n → length (k after_value) ≤ n → (b ≡ true → length (k after_key) ≤ n) → length (place_token p t b k) ≤ suc n
placed p begin_object b k n f v h = allowed (may_begin p) begin_object k fresh n f
placed p end_object b k n f v h = allowed (may_close p) end_object k after_value n v
placed p begin_array b k n f v h = allowed (may_begin p) begin_array k fresh n f
placed p end_array b k n f v h = allowed (may_close p) end_array k after_value n v
placed p (key s) b k n f v h = omega arith
placed p (string s) true k n f v h = allowed (may_begin p) (key s) k after_key n (h refl)
placed p bad b k n f v h = omega arith
placed p t b k n f v h = allowed (may_begin p) t k after_value n v

-- behind a comma or a key a text may end with one bad token more
abbrev more : Place → ℕ
more after_comma = 1
more after_key = 1
more p = 0

one_token : (ls : List Lexeme) (p : Place) (t : Token) → length (punctuate fresh ls) ≤ length ls + 0 → length (punctuate after_value ls) ≤ length ls + 0 → (begins_colon ls ≡ true → length (punctuate after_key ls) ≤ length ls)
    → length (place_token p t (begins_colon ls) (λ next. punctuate next ls)) ≤ suc (length ls)
one_token ls p t f v h = placed p t (begins_colon ls) (λ next. punctuate next ls) (length ls) (omega arith) (omega arith) h

mutual
  unfolding punctuate

  punctuated : (ls : List Lexeme) (p : Place) → length (punctuate p ls) ≤ length ls + more p
  punctuated [] fresh = omega arith
  punctuated (token t ∷ ls) p = omega (arith, one_token ls p t (punctuated ls fresh) (punctuated ls after_value) (before_colon ls))
  punctuated (comma ∷ ls) after_value = omega (arith, punctuated ls after_comma)
  punctuated (colon ∷ ls) after_key = omega (arith, punctuated ls fresh)
  punctuated ls p = omega arith

  before_colon : (ls : List Lexeme) → begins_colon ls ≡ true → length (punctuate after_key ls) ≤ length ls
  before_colon (colon ∷ ls) h = omega (arith, punctuated ls fresh)
  before_colon ls h = absurd cc

pub fewer_tokens : (text : List ℕ) → length (tokens text) ≤ length text
fewer_tokens text = omega (arith, punctuated (lex between text) fresh, lex_length text between)
