-- The text of events, and of answers that tell them.
use Rattle.std.proofs.Common.{◌≡◌, ◌∙◌, sym, ap, refl, Result, Ok, Err, OnOk, ℕ, List, [], ◌∷◌, ◌++◌, map, append_assoc, codes, decimal, Bool, true, false, Option, Some, None}
use Rattle.serde_json.specs.Data.{array, string}
use Rattle.serde_json.specs.Written.{compact_text, items_text}
use Rattle.serde_json.proofs.OnLiterals.{serde_json_on_literals}
use Rattle.ink_model.specs.Host.Events.{call_data, event_data}
use Rattle.ink_model.specs.Protocol.Answer.{Acts, Breaks, Tells, answer, fault_name, items_of, shown_data}
use Rattle.ink_model.specs.Protocol.ValueJson.{value_data}
use Rattle.ink_model.specs.declared.fault.Fault.{Fault}
use Rattle.ink_model.specs.declared.host.Event.{Event}
use Rattle.ink_model.specs.declared.host.Event.TheVariants as event
use Rattle.ink_model.specs.declared.host.Given.{Given}
use Rattle.ink_model.specs.declared.passage.Passage.{Passage}
use Rattle.ink_model.specs.declared.passage.Shown.{Shown}
use Rattle.ink_model.specs.declared.value.Value.{Value}
use Rattle.ink_protocol.proofs.Answering.{ends_line}
use Rattle.ink_protocol.specs.Answers.{flags_text, loud_middle, outcome_text, passage_line}

-- a text, and then the rest
pub behind : {A E : Type 0} (r : Result A E) (line one all front rest : List ℕ) → one ≡ line ++ front → OnOk r (all ≡ one ++ rest) → OnOk r (all ≡ line ++ (front ++ rest))
behind (Ok v) line one all front rest first more = more ∙ ap (λ l. l ++ rest) first ∙ append_assoc line front rest
behind (Err e) line one all front rest first more = more

-- texts one behind another
module _ {A E : Type 0} (r : Result A E) (line a b c d e one two three four all : List ℕ) (first : one ≡ line ++ a) (second : two ≡ one ++ b) (third : three ≡ two ++ c) (fourth : four ≡ three ++ d) where
  pub five : OnOk r (all ≡ four ++ e) → OnOk r (all ≡ line ++ (a ++ (b ++ (c ++ (d ++ e)))))
  five last = behind r line one all a (b ++ (c ++ (d ++ e))) first (behind r one two all b (c ++ (d ++ e)) second (behind r two three all c (d ++ e) third (behind r three four all d e fourth last)))

  pub six : (f last_but_one : List ℕ) → last_but_one ≡ four ++ e → OnOk r (all ≡ last_but_one ++ f) → OnOk r (all ≡ line ++ (a ++ (b ++ (c ++ (d ++ (e ++ f))))))
  six f last_but_one fifth last =
      behind r line one all a (b ++ (c ++ (d ++ (e ++ f)))) first (behind r one two all b (c ++ (d ++ (e ++ f))) second (behind r two three all c (d ++ (e ++ f)) third
      (behind r three four all d (e ++ f) fourth (behind r four last_but_one all e f fifth last))))

-- ---- events

pub call_text : (name : List ℕ) (arguments : List Value) (gave : Option Given) (n : ℕ) → compact_text (call_data name arguments gave n)
    ≡ codes "{\"args\":[" ++ (items_text false (items_of (map value_data arguments)) ++ (codes ",\"call\":" ++ (compact_text (string name) ++ (outcome_text gave ++ (codes ",\"stamp\":" ++ (decimal n ++ codes "}"))))))
unfolding serde_json_on_literals
call_text name arguments (Some g) n = refl
call_text name arguments None n = refl

pub saw_text : (name : List ℕ) (n : ℕ) (v : Value) → compact_text (event_data (event.Saw name n v))
    ≡ codes "{\"saw\":" ++ (compact_text (string name) ++ ((codes ",\"stamp\":" ++ (decimal n ++ codes ",\"value\":")) ++ (compact_text (value_data v) ++ codes "}")))
unfolding serde_json_on_literals
saw_text name n v = ap (λ t. codes "{\"saw\":" ++ (compact_text (string name) ++ (codes ",\"stamp\":" ++ t))) (sym (append_assoc (decimal n) (codes ",\"value\":") (compact_text (value_data v) ++ codes "}")))

-- ---- answers

pub acts_answer : (es : List Event) → answer (Acts es) ≡ codes "{\"events\":[" ++ (items_text false (items_of (map event_data es)) ++ codes "}\n")
unfolding answer serde_json_on_literals
acts_answer es = ap (λ t. codes "{\"events\":[" ++ t) (append_assoc (items_text false (items_of (map event_data es))) (125 ∷ []) (10 ∷ []))

pub fault_answer : (f : Fault) (es : List Event) → answer (Breaks f es)
    ≡ codes "{\"events\":[" ++ (items_text false (items_of (map event_data es)) ++ (codes ",\"fault\":" ++ (compact_text (string (fault_name f)) ++ codes "}\n")))
unfolding answer serde_json_on_literals
fault_answer f es =
    let name = compact_text (string (fault_name f)) in
    ap (λ t. codes "{\"events\":[" ++ t)
    (append_assoc (items_text false (items_of (map event_data es))) (codes ",\"fault\":" ++ (name ++ 125 ∷ [])) (10 ∷ [])
    ∙ ap (λ t. items_text false (items_of (map event_data es)) ++ (codes ",\"fault\":" ++ t)) (append_assoc name (125 ∷ []) (10 ∷ [])))

-- the text of a choice
pub choice_text : (choice : Shown) → compact_text (shown_data choice)
    ≡ codes "{\"tags\":[" ++ (items_text false (items_of (map string choice.tags)) ++ (codes ",\"text\":" ++ (compact_text (string choice.text) ++ codes "}")))
unfolding serde_json_on_literals
choice_text choice = refl

-- ---- passages

middle_opens : (events flags tags rest : List ℕ) → (events ++ (flags ++ (tags ++ codes ",\"text\":"))) ++ rest ≡ events ++ (flags ++ (tags ++ (codes ",\"text\":" ++ rest)))
middle_opens events flags tags rest =
    append_assoc events (flags ++ (tags ++ codes ",\"text\":")) rest
    ∙ ap (λ t. events ++ t) (append_assoc flags (tags ++ codes ",\"text\":") rest ∙ ap (λ t. flags ++ t) (append_assoc tags (codes ",\"text\":") rest))

abbrev passage : List Shown → List Event → List (List ℕ) → List ℕ → Bool → Bool → Passage
passage choices events tags text loose more = record { text = text; tags = tags; choices = choices; events = events; more = more; loose = loose }

module _ (choices : List Shown) (events : List Event) (tags : List (List ℕ)) (text : List ℕ) where
  abbrev list : List ℕ
  list = compact_text (array (items_of (map shown_data choices)))

  told : (flags : List ℕ) → codes "{\"choices\":" ++ ((list ++ (codes ",\"events\":[" ++ (items_text false (items_of (map event_data events)) ++ (flags ++ (items_text false (items_of (map string tags)) ++ (codes ",\"text\":" ++ (compact_text (string text) ++ 125 ∷ []))))))) ++ 10 ∷ [])
      ≡ codes "{\"choices\":" ++ (list ++ ((codes ",\"events\":[" ++ (items_text false (items_of (map event_data events)) ++ (flags ++ (items_text false (items_of (map string tags)) ++ codes ",\"text\":")))) ++ (compact_text (string text) ++ codes "}\n")))
  told flags =
      let es : List ℕ = items_text false (items_of (map event_data events)) in
      let ts : List ℕ = items_text false (items_of (map string tags)) in
      ap (λ t. codes "{\"choices\":" ++ ((list ++ (codes ",\"events\":[" ++ t)) ++ 10 ∷ [])) (sym (middle_opens es flags ts (compact_text (string text) ++ 125 ∷ [])))
      ∙ ends_line list (codes ",\"events\":[" ++ (es ++ (flags ++ (ts ++ codes ",\"text\":")))) (compact_text (string text))

  told_answer : (loose more : Bool) → answer (Tells (passage choices events tags text loose more)) ≡ passage_line (passage choices events tags text loose more) (loud_middle (passage choices events tags text loose more))
  unfolding answer serde_json_on_literals
  told_answer false false = told (flags_text false false)
  told_answer false true = told (flags_text false true)
  told_answer true false = told (flags_text true false)
  told_answer true true = told (flags_text true true)

-- the answer that tells any passage
pub loud_line : (p : Passage) → answer (Tells p) ≡ passage_line p (loud_middle p)
loud_line p = told_answer p.choices p.events p.tags p.text p.loose p.more
