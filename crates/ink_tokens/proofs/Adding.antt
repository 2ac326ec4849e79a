-- Tokens, one behind another, and the text that they come to.
use Rattle.std.proofs.Common.{◌≡◌, ◌∙◌, refl, sym, ap, subst, ℕ, ◌≤◌, ℤ, pos, negsuc, List, [], ◌∷◌, ◌++◌, length, take, map, flat_map, Result, Ok, Err, OnOk, append_assoc, append-nil, decimal}
use Rattle.std.proofs.lemmas.List.{take_all}
use Rattle.std.specs.Fmt.{signed_decimal}
use Rattle.json.specs.Print.{print}
use Rattle.json.specs.Token.{Token}
use Rattle.json.specs.Token as token
use Rattle.json.specs.Tree.{items_tokens}
use Rattle.json.specs.Written.{Written, Writes}
use Rattle.serde_json.specs.Data.{Data, array, number}
use Rattle.serde_json.specs.Find.{of_integer}
use Rattle.serde_json.specs.Written.{compact_text, items_outline}
use Rattle.serde_json.proofs.Texts.{print-outline}
use Rattle.ink_model.specs.Host.Events.{items_of}
use Rattle.ink_tokens.specs.Tokens.{Added, data_tokens}

-- ---- tokens

pub added_one : {E : Type 0} (r : Result (Unit {0}) E) (a b : Written) (t : Token) → Writes r a b t → OnOk r (Added a b (t ∷ []))
added_one (Ok x) a b t w = record { tokens = w.ok; before = w.room.0 }
added_one (Err e) a b t w = tt

pub added_integer : {E : Type 0} (r : Result (Unit {0}) E) (a b : Written) (z : ℤ) → Writes r a b (token.number (signed_decimal z)) → OnOk r (Added a b (data_tokens (number (of_integer z))))
added_integer r a b (pos n) w = added_one r a b (token.number (signed_decimal (pos n))) w
added_integer r a b (negsuc n) w = added_one r a b (token.number (signed_decimal (negsuc n))) w

pub added_natural : {E : Type 0} (r : Result (Unit {0}) E) (a b : Written) (n : ℕ) → Writes r a b (token.number (decimal n)) → OnOk r (Added a b (data_tokens (number (of_integer (pos n)))))
added_natural r a b n w = added_one r a b (token.number (decimal n)) w

pub after : {a b c : Written} {xs ys : List Token} → Added a b xs → Added b c ys → Added a c (xs ++ ys)
after {a = a} {xs = xs} {ys = ys} h k = record {
  tokens = k.tokens ∙ ap (λ ts. ts ++ ys) h.tokens ∙ append_assoc a.tokens xs ys;
  before = k.before ∙ h.before;
}

pub finally : {E : Type 0} (r : Result (Unit {0}) E) (a b c : Written) (xs ys : List Token) → Added a b xs → OnOk r (Added b c ys) → OnOk r (Added a c (xs ++ ys))
finally (Ok x) a b c xs ys h k = after h k
finally (Err e) a b c xs ys h k = tt

-- ---- lists

pub items_are : (ds : List Data) → items_tokens (items_outline (items_of ds)) ≡ flat_map data_tokens ds ++ token.end_array ∷ []
items_are [] = refl
items_are (d ∷ ds) = ap (λ l. data_tokens d ++ l) (items_are ds) ∙ sym (append_assoc (data_tokens d) (flat_map data_tokens ds) (token.end_array ∷ []))

-- the front of a list, as it is written
abbrev pub list_front : {A : Type 0} → (A → Data) → List A → List Token
list_front json items = token.begin_array ∷ flat_map data_tokens (map json items)

pub list_ends : {A E : Type 0} (json : A → Data) (items : List A) (i : ℕ) (r : Result (Unit {0}) E) (a b c : Written) → length items ≤ i
    → Added a b (list_front json (take i items)) → OnOk r (Added b c (token.end_array ∷ [])) → OnOk r (Added a c (data_tokens (array (items_of (map json items)))))
list_ends json items i r a b c h before now =
    let all : take i items ≡ items = take_all i items h in
    subst (λ ts. OnOk r (Added a c ts)) (ap (λ l. token.begin_array ∷ (flat_map data_tokens (map json l) ++ token.end_array ∷ [])) all
    ∙ ap (λ l. token.begin_array ∷ l) (sym (items_are (map json items))))
    (finally r a b c (list_front json (take i items)) (token.end_array ∷ []) before now)

pub more_items : {A : Type 0} (json : A → Data) (xs : List A) (x : A) → flat_map data_tokens (map json (xs ++ x ∷ [])) ≡ flat_map data_tokens (map json xs) ++ data_tokens (json x)
more_items json [] x = append-nil (data_tokens (json x))
more_items json (y ∷ ys) x =
    ap (λ l. data_tokens (json y) ++ l) (more_items json ys x) ∙ sym (append_assoc (data_tokens (json y)) (flat_map data_tokens (map json ys)) (data_tokens (json x)))

-- a list whose items were written one behind another
pub list_whole : {A E : Type 0} (json : A → Data) (items : List A) (r : Result (Unit {0}) E) (a b c d : Written) → Added a b (token.begin_array ∷ [])
    → Added b c (flat_map data_tokens (map json items)) → OnOk r (Added c d (token.end_array ∷ [])) → OnOk r (Added a d (data_tokens (array (items_of (map json items)))))
list_whole json items r a b c d opened all closed =
    subst (λ ts. OnOk r (Added a d ts)) (ap (λ l. token.begin_array ∷ l) (sym (items_are (map json items))))
    (finally r a b d (token.begin_array ∷ []) (flat_map data_tokens (map json items) ++ token.end_array ∷ []) opened
    (finally r b c d (flat_map data_tokens (map json items)) (token.end_array ∷ []) all closed))

-- ---- the text

-- what a writer that had no token has written of a value is its compact text
pub printed_tokens : (d : Data) (start end : Written) (text : List ℕ) → start.tokens ≡ [] → Added start end (data_tokens d) → text ≡ print end.tokens → text ≡ compact_text d
printed_tokens d start end text none added is = is ∙ ap print (added.tokens ∙ ap (λ ts. ts ++ data_tokens d) none) ∙ print-outline d

-- the same of one that had nothing
pub text_from_tokens : (d : Data) (start end : Written) (text : List ℕ) → start.before ≡ [] → start.tokens ≡ [] → Added start end (data_tokens d)
    → text ≡ end.before ++ print end.tokens → text ≡ compact_text d
text_from_tokens d start end text none no_tokens added is =
    printed_tokens d start end text no_tokens added (is ∙ ap (λ b. b ++ print end.tokens) (added.before ∙ none))
