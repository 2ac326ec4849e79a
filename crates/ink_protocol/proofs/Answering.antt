-- The text of answers.
use Rattle.std.proofs.Common.{◌≡◌, ◌∙◌, ◌<◌, ◌≤◌, add-one, drop, get_or, suc, refl, sym, ap, Result, Ok, Err, OnOk, is_ok, if◌then◌else◌, ℕ, ℤ, pos, negsuc, ◌+◌, ◌-◌, List, [], ◌∷◌, ◌++◌, length, take, map, append_assoc, arith, codes, Bool, true, false}
use Rattle.std.proofs.Math.Seq.{drop-cons, take-append_seam}
use Rattle.std.proofs.lemmas.Grind.{flat_map-append}
use Rattle.std.proofs.lemmas.List.{drop_all, length-append}
use Rattle.std.specs.Fmt.{signed_decimal}
use Rattle.json.specs.Print.{print, quoted, escape, escape_byte}
use Rattle.json.specs.Written.{Written}
use Rattle.serde_json.specs.Data.{Data, array, string}
use Rattle.serde_json.specs.Written.{comma_if, compact_text, items_text}
use Rattle.serde_json.proofs.OnLiterals.{serde_json_on_literals}
use Rattle.ink_model.specs.Protocol.ValueJson.{value_data}
use Rattle.ink_model.specs.Protocol.Answer.{Reply, Counts, Saves, Shows, Tells, items_of, reply_data, shown_data, answer}
use Rattle.ink_model.specs.declared.passage.Passage.{Passage}
use Rattle.ink_model.specs.declared.passage.Shown.{Shown}
use Rattle.ink_model.specs.declared.value.Value.TheVariants as value
use Rattle.ink_protocol.specs.Answers.{choices_front, passage_line, quiet_middle}
use Rattle.ink_tokens.specs.Tokens.{Added, data_tokens}
use Rattle.ink_tokens.proofs.Adding.{printed_tokens, text_from_tokens}

-- what a writer that had nothing has written of a reply, and a newline, is its answer
pub answer_from_tokens : (r : Reply) (start end : Written) (text line : List ℕ) → start.before ≡ [] → start.tokens ≡ [] → Added start end (data_tokens (reply_data r))
    → text ≡ end.before ++ print end.tokens → line ≡ text ++ 10 ∷ [] → line ≡ answer r
unfolding answer
answer_from_tokens r start end text line none no_tokens added is ends =
    ends ∙ ap (λ t. t ++ 10 ∷ []) (text_from_tokens (reply_data r) start end text none no_tokens added is)

-- the answer that shows a number
pub number_answer : (z : ℤ) → answer (Shows (value.Int z)) ≡ codes "{\"value\":" ++ (signed_decimal z ++ codes "}\n")
unfolding answer serde_json_on_literals
number_answer (pos n) = ap (λ t. codes "{\"value\":" ++ t) (append_assoc (signed_decimal (pos n)) (125 ∷ []) (10 ∷ []))
number_answer (negsuc n) = ap (λ t. codes "{\"value\":" ++ t) (append_assoc (signed_decimal (negsuc n)) (125 ∷ []) (10 ∷ []))

-- the answer that tells how often a container was visited
pub visits_answer : (z : ℤ) → answer (Counts z) ≡ codes "{\"visits\":" ++ (signed_decimal z ++ codes "}\n")
unfolding answer serde_json_on_literals
visits_answer (pos n) = ap (λ t. codes "{\"visits\":" ++ t) (append_assoc (signed_decimal (pos n)) (125 ∷ []) (10 ∷ []))
visits_answer (negsuc n) = ap (λ t. codes "{\"visits\":" ++ t) (append_assoc (signed_decimal (negsuc n)) (125 ∷ []) (10 ∷ []))

-- the answer that has a save
pub saved_answer : (d : Data) → answer (Saves d) ≡ codes "{\"saved\":" ++ (compact_text d ++ codes "}\n")
unfolding answer serde_json_on_literals
saved_answer d = ap (λ t. codes "{\"saved\":" ++ t) (append_assoc (compact_text d) (125 ∷ []) (10 ∷ []))

-- what a writer has written of a value, behind what stood there before
pub text_behind : (d : Data) (start end : Written) (before text : List ℕ) → start.before ≡ before → start.tokens ≡ [] → Added start end (data_tokens d)
    → text ≡ end.before ++ print end.tokens → text ≡ before ++ compact_text d
text_behind d start end before text had none added is =
    is ∙ ap (λ b. b ++ print end.tokens) (added.before ∙ had) ∙ ap (λ t. before ++ t) (printed_tokens d start end (print end.tokens) none added refl)

-- the text of a string and a newline, and a close, where that of the string stands already, without the quote behind it
pub newline_after : (before front short close line : List ℕ) → short ≡ before ++ 34 ∷ escape front → line ≡ short ++ (codes "\\n\"" ++ close) → line ≡ before ++ (quoted (front ++ 10 ∷ []) ++ close)
unfolding escape_byte
newline_after before front short close line kept ends =
    let again : short ++ codes "\\n\"" ≡ before ++ quoted (front ++ 10 ∷ []) = ap (λ l. l ++ codes "\\n\"") kept ∙ append_assoc before (34 ∷ escape front) (codes "\\n\"")
    ∙ ap (λ e. before ++ 34 ∷ e) (sym (ap (λ e. e ++ 34 ∷ []) (flat_map-append escape_byte front (10 ∷ [])) ∙ append_assoc (escape front) (92 ∷ 110 ∷ []) (34 ∷ []))) in
    ends ∙ sym (append_assoc short (codes "\\n\"") close) ∙ ap (λ l. l ++ close) again ∙ append_assoc before (quoted (front ++ 10 ∷ [])) close

-- the same: a newline in the place of the quote behind the string, the quote again, and the close
pub newline_behind : (before front all short line close : List ℕ) (len : ℕ) → all ≡ before ++ quoted front → len ≡ length all → short ≡ take (len - 1) all → line ≡ short ++ (codes "\\n\"" ++ close)
    → line ≡ before ++ (quoted (front ++ 10 ∷ []) ++ close)
newline_behind before front all short line close len written count cut ends =
    let body : List ℕ = before ++ 34 ∷ escape front in
    let whole : all ≡ body ++ 34 ∷ [] = written ∙ sym (append_assoc before (34 ∷ escape front) (34 ∷ [])) in
    let same : length all ≡ length body + 1 = ap length whole ∙ length-append body (34 ∷ []) in
    let shorter : len - 1 ≡ length body = omega (arith, count, same) in
    let kept : short ≡ body = cut ∙ ap (λ n. take n all) shorter ∙ ap (λ l. take (length body) l) whole ∙ take-append_seam body (34 ∷ []) in
    newline_after before front short close line kept ends

-- ---- choices

-- a choice of a text alone that stands in JSON as it is
pub plain_choice : (text : List ℕ) → escape text ≡ text → compact_text (shown_data (record { tags = []; text = text })) ≡ codes "{\"tags\":[],\"text\":\"" ++ (text ++ codes "\"}")
unfolding serde_json_on_literals
plain_choice text plain = ap (λ t. codes "{\"tags\":[],\"text\":\"" ++ t) (append_assoc (escape text) (34 ∷ []) (125 ∷ []) ∙ ap (λ t. t ++ codes "\"}") plain)

pub choice_of : (choice : Shown) (text : List ℕ) → choice.tags ≡ [] → text ≡ choice.text → shown_data choice ≡ shown_data (record { tags = []; text = text })
choice_of choice text none same = ap (λ ts. shown_data (record choice { tags = ts })) none ∙ ap (λ t. shown_data (record { tags = []; text = t })) (sym same)

-- ---- lists

module _ {A : Type 0} (json : A → Data) where
  -- one more, and what is still to come behind it
  pub one_item : (line : List ℕ) (later : Bool) (i : ℕ) (xs : List A) (x : A) (a b all : List ℕ) → i < length xs → x ≡ get_or xs i x
      → a ≡ line ++ comma_if later → b ≡ a ++ compact_text (json x) → line ++ items_text later (items_of (map json (drop i xs))) ≡ all
      → b ++ items_text true (items_of (map json (drop (i + 1) xs))) ≡ all
  one_item line later i xs x a b all h is comma put was =
      let text : List ℕ = compact_text (json x) in
      let rest : List ℕ = items_text true (items_of (map json (drop (i + 1) xs))) in
      let next : drop i xs ≡ x ∷ drop (i + 1) xs = drop-cons xs i x h ∙ ap (λ y. y ∷ drop (suc i) xs) (sym is) ∙ ap (λ n. x ∷ drop n xs) (sym (add-one i)) in
      ap (λ l. l ++ rest) (put ∙ ap (λ l. l ++ text) comma) ∙ append_assoc (line ++ comma_if later) text rest ∙ append_assoc line (comma_if later) (text ++ rest)
      ∙ ap (λ ys. line ++ items_text later (items_of (map json ys))) (sym next) ∙ was

  -- no more
  pub last_item : (line : List ℕ) (later : Bool) (i : ℕ) (xs : List A) (end all : List ℕ) → length xs ≤ i → end ≡ line ++ 93 ∷ []
      → line ++ items_text later (items_of (map json (drop i xs))) ≡ all → end ≡ all
  last_item line later i xs end all h ends was = ends ∙ ap (λ ys. line ++ items_text later (items_of (map json ys))) (sym (drop_all i xs h)) ∙ was

-- ---- values

-- the text of an integer
pub integer_text : (z : ℤ) → compact_text (value_data (value.Int z)) ≡ signed_decimal z
integer_text (pos n) = refl
integer_text (negsuc n) = refl

-- of a string that stands in JSON as it is
pub plain_string : (text : List ℕ) → escape text ≡ text → compact_text (string text) ≡ codes "\"" ++ (text ++ codes "\"")
plain_string text plain = ap (λ t. 34 ∷ (t ++ 34 ∷ [])) plain

-- ---- passages

abbrev quiet : List Shown → List ℕ → Bool → Bool → Passage
quiet choices text loose more = record { text = text; tags = []; choices = choices; events = []; more = more; loose = loose }

-- a newline behind the last bracket
pub ends_line : (list middle text : List ℕ) → codes "{\"choices\":" ++ ((list ++ (middle ++ (text ++ 125 ∷ []))) ++ 10 ∷ []) ≡ codes "{\"choices\":" ++ (list ++ (middle ++ (text ++ codes "}\n")))
ends_line list middle text = ap (λ t. codes "{\"choices\":" ++ t)
    (append_assoc list (middle ++ (text ++ 125 ∷ [])) (10 ∷ []) ∙ ap (λ t. list ++ t) (append_assoc middle (text ++ 125 ∷ []) (10 ∷ []) ∙ ap (λ t. middle ++ t) (append_assoc text (125 ∷ []) (10 ∷ []))))

quiet_answer : (choices : List Shown) (text : List ℕ) (loose more : Bool) → answer (Tells (quiet choices text loose more)) ≡ passage_line (quiet choices text loose more) (quiet_middle loose more)
unfolding answer serde_json_on_literals
quiet_answer choices text false false = ends_line (compact_text (array (items_of (map shown_data choices)))) (quiet_middle false false) (compact_text (string text))
quiet_answer choices text false true = ends_line (compact_text (array (items_of (map shown_data choices)))) (quiet_middle false true) (compact_text (string text))
quiet_answer choices text true false = ends_line (compact_text (array (items_of (map shown_data choices)))) (quiet_middle true false) (compact_text (string text))
quiet_answer choices text true true = ends_line (compact_text (array (items_of (map shown_data choices)))) (quiet_middle true true) (compact_text (string text))

-- the answer that tells a passage without events and tags
pub quiet_line : (p : Passage) → p.events ≡ [] → p.tags ≡ [] → answer (Tells p) ≡ passage_line p (quiet_middle p.loose p.more)
quiet_line p events tags =
    ap (λ es. answer (Tells (record p { events = es }))) events ∙ ap (λ ts. answer (Tells (record p { events = []; tags = ts }))) tags ∙ quiet_answer p.choices p.text p.loose p.more

-- its line, put together piece by piece
pub passage_from : (p : Passage) (choices : List Shown) (text middle a b : List ℕ) → choices ≡ p.choices → text ≡ p.text → a ≡ choices_front choices → b ≡ a ++ middle
    → passage_line p middle ≡ b ++ (compact_text (string text) ++ codes "}\n")
passage_from p choices text middle a b same_choices same_text front told =
    let start : List ℕ = codes "{\"choices\":" in
    let list : List ℕ = compact_text (array (items_of (map shown_data p.choices))) in
    let closed : List ℕ = compact_text (string p.text) ++ codes "}\n" in
    let b_is : b ≡ (start ++ list) ++ middle = told ∙ ap (λ x. x ++ middle) (front ∙ ap choices_front same_choices) in
    sym (ap (λ t. b ++ (compact_text (string t) ++ codes "}\n")) same_text ∙ ap (λ x. x ++ closed) b_is ∙ append_assoc (start ++ list) middle closed ∙ append_assoc start list (middle ++ closed))

-- ---- texts that are written where memory is found

-- what was written is there
pub on_ok : {A E : Type 0} (r : Result A E) (new written old : List ℕ) → new ≡ (if is_ok r then written else old) → OnOk r (new ≡ written)
on_ok (Ok v) new written old is = is
on_ok (Err e) new written old is = tt

-- a text that is made is the answer too that is this text
pub made_as : {A E : Type 0} (r : Result A E) (items text answer : List ℕ) → OnOk r (items ≡ text) → answer ≡ text → OnOk r (items ≡ answer)
made_as (Ok v) items text answer made same = made ∙ sym same
made_as (Err e) items text answer made same = made

-- a text between two others
pub between : {A E : Type 0} (r : Result A E) (line front text end one two all : List ℕ) → one ≡ line ++ front → two ≡ one ++ text → OnOk r (all ≡ two ++ end)
    → OnOk r (all ≡ line ++ (front ++ (text ++ end)))
between r line front text end one two all first second last =
    made_as r all (two ++ end) _ last
    (sym (ap (λ l. l ++ end) (second ∙ ap (λ l. l ++ text) first) ∙ append_assoc (line ++ front) text end ∙ append_assoc line front (text ++ end)))
