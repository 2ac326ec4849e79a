-- Values are listed one after another.
use Rattle.std.proofs.Common.{◌≡◌, ◌∙◌, refl, sym, ap, subst, ℕ, ◌+◌, ◌<◌, ◌≤◌, suc, add-one, List, [], ◌∷◌, ◌++◌, length, drop, get_or, codes, Bool, true, false, append_assoc, append-nil, Result, Ok, Err, IfOk, OnOk, is_ok, if◌then◌else◌, String, Global, string_bytes}
use Rattle.std.proofs.Math.Seq.{drop-cons}
use Rattle.std.proofs.lemmas.List.{drop_all}
use Rattle.json.specs.Print.{print}
use Rattle.json.specs.Written.{Written}
use Rattle.serde_json.specs.Written.{comma_if, compact_text}
use Rattle.ink_model.specs.Protocol.ValueJson.{value_data}
use Rattle.ink_model.specs.declared.value.Value.{Value}
use Rattle.ink_page.specs.Page.{line_page}
use Rattle.ink_page.specs.Question.{listed, question_page}
use Rattle.ink_page.specs.declared.page.Look.{Look}
use Rattle.ink_tokens.specs.Tokens.{Added, data_tokens}
use Rattle.ink_tokens.proofs.Adding.{printed_tokens}

-- values as JSON with commas between them, and one before them where another stands before
abbrev pub listed_behind : Bool → List Value → List ℕ
listed_behind follows [] = []
listed_behind follows (v ∷ vs) = comma_if follows ++ listed (v ∷ vs)

pub listed_from_start : (vs : List Value) → listed_behind false vs ≡ listed vs
listed_from_start [] = refl
listed_from_start (v ∷ vs) = refl

-- the first value, and the others behind it
first_listed : (v : Value) (vs : List Value) → listed (v ∷ vs) ≡ compact_text (value_data v) ++ listed_behind true vs
first_listed v [] = sym (append-nil (compact_text (value_data v)))
first_listed v (w ∷ vs) = refl

-- one more, and what is still to come behind it
pub one_value : (text : List ℕ) (follows : Bool) (i : ℕ) (vs : List Value) (v : Value) (a b all : List ℕ) → i < length vs → v ≡ get_or vs i v
    → a ≡ text ++ comma_if follows → b ≡ a ++ compact_text (value_data v) → text ++ listed_behind follows (drop i vs) ≡ all → b ++ listed_behind true (drop (i + 1) vs) ≡ all
one_value text follows i vs v a b all h is comma put was =
    let value : List ℕ = compact_text (value_data v) in
    let others : List Value = drop (i + 1) vs in
    let rest : List ℕ = listed_behind true others in
    let next : drop i vs ≡ v ∷ others = drop-cons vs i v h ∙ ap (λ w. w ∷ drop (suc i) vs) (sym is) ∙ ap (λ n. v ∷ drop n vs) (sym (add-one i)) in
    ap (λ l. l ++ rest) (put ∙ ap (λ l. l ++ value) comma) ∙ append_assoc (text ++ comma_if follows) value rest ∙ append_assoc text (comma_if follows) (value ++ rest)
    ∙ ap (λ l. text ++ (comma_if follows ++ l)) (sym (first_listed v others)) ∙ ap (λ ws. text ++ listed_behind follows ws) (sym next) ∙ was

-- no more
pub no_value : (text : List ℕ) (follows : Bool) (i : ℕ) (vs : List Value) (all : List ℕ) → length vs ≤ i → text ++ listed_behind follows (drop i vs) ≡ all → text ≡ all
no_value text follows i vs all h was = sym (append-nil text) ∙ ap (λ ws. text ++ listed_behind follows ws) (sym (drop_all i vs h)) ∙ was

-- a value's text goes behind a text
pub value_pushed : {E : Type 0} (r : Result (Unit {0}) E) (v : Value) (start end : Written) (a b text : List ℕ) → start.tokens ≡ [] → Added start end (data_tokens (value_data v))
    → text ≡ print end.tokens → b ≡ (if is_ok r then a ++ text else a) → OnOk r (b ≡ a ++ compact_text (value_data v))
value_pushed (Ok x) v start end a b text none added is pushed = pushed ∙ ap (λ t. a ++ t) (printed_tokens (value_data v) start end text none added is)
value_pushed (Err e) v start end a b text none added is pushed = tt

-- a name, a bracket, the values and a bracket are what is asked
pub question_shown : {E : Type 0} (look : Look) (r : Result (String Global) E) (name : List ℕ) (vs : List Value) (a b c d : List ℕ) → a ≡ name → b ≡ a ++ codes "("
    → c ≡ b ++ listed vs → d ≡ c ++ codes ")" → IfOk r (λ page. string_bytes page ≡ line_page look d []) → IfOk r (λ page. string_bytes page ≡ question_page look name vs)
question_shown look r name vs a b c d named opened put closed =
    let begun : c ≡ (name ++ codes "(") ++ listed vs = put ∙ ap (λ l. l ++ listed vs) (opened ∙ ap (λ l. l ++ codes "(") named) in
    subst (λ text. IfOk r (λ page. string_bytes page ≡ line_page look text []))
    (closed ∙ ap (λ l. l ++ codes ")") begun ∙ append_assoc (name ++ codes "(") (listed vs) (codes ")") ∙ append_assoc name (codes "(") (listed vs ++ codes ")"))
