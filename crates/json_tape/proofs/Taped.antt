-- The nodes that a tape keeps, as they grow.
use Rattle.std.proofs.Common.{◌≡◌, ℕ, zero, suc, ◌<◌, ◌≤◌, List, [], ◌∷◌, ◌++◌, length, get_or, slice_set, true, false, Result, Ok, Err, OnErr, OnOk, refl, ap, ap₂, ◌∙◌, arith}
use Rattle.std.proofs.lemmas.List.{length-append, get_or_push}
use Rattle.json_tape.proofs.Common.{Bor, Node}
use Rattle.json.specs.declared.tape.Node.TheVariants as nodes
use Rattle.json_tape.specs.Tape.{node_of, has_text, text_node, nodes_of, TextsFit, AreNodes, IsOpening, leading_to}
use Rattle.json_tape.specs.declared.tape.Tag.{Tag}
use Rattle.json_tape.specs.declared.tape.Tag.TheVariants.{Object, Array, Key, String, Number}

abbrev Texts : Type 0
Texts = List (Bor (List ℕ))

-- ---- how many there are

pub as_many : (count : ℕ) (tags : List Tag) (numbers : List ℕ) → TextsFit count tags numbers → length numbers ≡ length tags
as_many count [] [] f = refl
as_many count (t ∷ ts) (n ∷ ns) f = ap suc (as_many count ts ns f.1)
as_many count tags numbers f = absurd f

pub many_nodes : (texts : Texts) (count : ℕ) (tags : List Tag) (numbers : List ℕ) → TextsFit count tags numbers → length (nodes_of texts tags numbers) ≡ length tags
many_nodes texts count [] [] f = refl
many_nodes texts count (t ∷ ts) (n ∷ ns) f = ap suc (many_nodes texts count ts ns f.1)
many_nodes texts count tags numbers f = absurd f

-- ---- one more

fits_more : (count : ℕ) (tags : List Tag) (numbers : List ℕ) (tag : Tag) (number : ℕ) → TextsFit count tags numbers → (has_text tag ≡ true → number < count) → TextsFit count (tags ++ tag ∷ []) (numbers ++ number ∷ [])
fits_more count [] [] tag number f h = (h, tt)
fits_more count (t ∷ ts) (n ∷ ns) tag number f h = (f.0, fits_more count ts ns tag number f.1 h)
fits_more count tags numbers tag number f h = absurd f

fits_longer : (count more : ℕ) (tags : List Tag) (numbers : List ℕ) → count ≤ more → TextsFit count tags numbers → TextsFit more tags numbers
fits_longer count more [] [] le f = tt
fits_longer count more (t ∷ ts) (n ∷ ns) le f = (λ h. (let below = f.0 h in omega arith), fits_longer count more ts ns le f.1)
fits_longer count more tags numbers le f = absurd f

nodes_more : (texts : Texts) (count : ℕ) (tags : List Tag) (numbers : List ℕ) (tag : Tag) (number : ℕ) → TextsFit count tags numbers
    → nodes_of texts (tags ++ tag ∷ []) (numbers ++ number ∷ []) ≡ nodes_of texts tags numbers ++ node_of texts tag number ∷ []
nodes_more texts count [] [] tag number f = refl
nodes_more texts count (t ∷ ts) (n ∷ ns) tag number f = ap (λ l. node_of texts t n ∷ l) (nodes_more texts count ts ns tag number f.1)
nodes_more texts count tags numbers tag number f = absurd f

text_stays : (texts : Texts) (text d : Bor (List ℕ)) (n : ℕ) → n < length texts → get_or (texts ++ text ∷ []) n d ≡ get_or texts n d
text_stays [] text d n h = let never : ⊥ = omega arith in absurd never
text_stays (x ∷ xs) text d zero h = refl
text_stays (x ∷ xs) text d (suc n) h = text_stays xs text d n (omega arith)

node_stays : (texts : Texts) (text : Bor (List ℕ)) (t : Tag) (n : ℕ) → (has_text t ≡ true → n < length texts) → node_of (texts ++ text ∷ []) t n ≡ node_of texts t n
node_stays texts text Key n h = ap nodes.Key (text_stays texts text _ n (h refl))
node_stays texts text String n h = ap nodes.String (text_stays texts text _ n (h refl))
node_stays texts text Number n h = ap nodes.Number (text_stays texts text _ n (h refl))
node_stays texts text t n h = refl

nodes_stay : (texts : Texts) (text : Bor (List ℕ)) (tags : List Tag) (numbers : List ℕ) → TextsFit (length texts) tags numbers → nodes_of (texts ++ text ∷ []) tags numbers ≡ nodes_of texts tags numbers
nodes_stay texts text [] [] f = refl
nodes_stay texts text (t ∷ ts) (n ∷ ns) f = ap₂ (λ x l. x ∷ l) (node_stays texts text t n f.0) (nodes_stay texts text ts ns f.1)
nodes_stay texts text tags numbers f = absurd f

plain_node : (texts : Texts) (t : Tag) (n : ℕ) → has_text t ≡ false → node_of texts t n ≡ node_of [] t n
plain_node texts Key n h = absurd cc
plain_node texts String n h = absurd cc
plain_node texts Number n h = absurd cc
plain_node texts t n h = refl

last_text : (texts : Texts) (text d : Bor (List ℕ)) → get_or (texts ++ text ∷ []) (length texts) d ≡ text
last_text texts text d = get_or_push texts text d (length texts) refl

last_node : (texts : Texts) (text : Bor (List ℕ)) (t : Tag) → has_text t ≡ true → node_of (texts ++ text ∷ []) t (length texts) ≡ text_node t text
last_node texts text Key h = ap nodes.Key (last_text texts text _)
last_node texts text String h = ap nodes.String (last_text texts text _)
last_node texts text Number h = ap nodes.Number (last_text texts text _)
last_node texts text t h = absurd cc

module _ (texts : Texts) (tags : List Tag) (numbers : List ℕ) (tag : Tag) (are : AreNodes texts tags numbers) where
  pub plain_pushed : (number : ℕ) → has_text tag ≡ false → AreNodes texts (tags ++ tag ∷ []) (numbers ++ number ∷ [])
  plain_pushed number plain = record {
    fit = fits_more (length texts) tags numbers tag number are.fit (λ h. (let never : ⊥ = cc in absurd never));
    few = omega (arith, are.few, length-append tags (tag ∷ []));
  }

  pub plain_nodes : (number : ℕ) → has_text tag ≡ false → nodes_of texts (tags ++ tag ∷ []) (numbers ++ number ∷ []) ≡ nodes_of texts tags numbers ++ node_of [] tag number ∷ []
  plain_nodes number plain = nodes_more texts (length texts) tags numbers tag number are.fit ∙ ap (λ x. nodes_of texts tags numbers ++ x ∷ []) (plain_node texts tag number plain)

  pub text_pushed : (text : Bor (List ℕ)) → AreNodes (texts ++ text ∷ []) (tags ++ tag ∷ []) (numbers ++ length texts ∷ [])
  text_pushed text =
      let longer = length-append texts (text ∷ []) in
      record {
        fit = fits_more _ tags numbers tag (length texts) (fits_longer (length texts) _ tags numbers (omega arith) are.fit) (λ h. omega arith);
        few = omega (arith, are.few, length-append tags (tag ∷ []));
      }

  pub text_nodes : (text : Bor (List ℕ)) → has_text tag ≡ true
      → nodes_of (texts ++ text ∷ []) (tags ++ tag ∷ []) (numbers ++ length texts ∷ []) ≡ nodes_of texts tags numbers ++ text_node tag text ∷ []
  text_nodes text some =
      let longer = length-append texts (text ∷ []) in
      nodes_more (texts ++ text ∷ []) _ tags numbers tag (length texts) (fits_longer (length texts) (length (texts ++ text ∷ [])) tags numbers (omega arith) are.fit)
      ∙ ap₂ (λ l x. l ++ x ∷ []) (nodes_stay texts text tags numbers are.fit) (last_node texts text tag some)

  -- one that names a text which is there
  pub again_pushed : (number : ℕ) → number < length texts → AreNodes texts (tags ++ tag ∷ []) (numbers ++ number ∷ [])
  again_pushed number there = record {
    fit = fits_more (length texts) tags numbers tag number are.fit (λ h. there);
    few = omega (arith, are.few, length-append tags (tag ∷ []));
  }

  pub again_nodes : (number : ℕ) → nodes_of texts (tags ++ tag ∷ []) (numbers ++ number ∷ []) ≡ nodes_of texts tags numbers ++ node_of texts tag number ∷ []
  again_nodes number = nodes_more texts (length texts) tags numbers tag number are.fit

-- ---- a tag and its number that are put, or not

module _ {A E : Type 0} (r : Result A E) (texts : Texts) (tags new_tags : List Tag) (numbers new_numbers : List ℕ) (tag : Tag) (number : ℕ)
    (has_tag : OnOk r (new_tags ≡ tags ++ tag ∷ [])) (has_number : OnOk r (new_numbers ≡ numbers ++ number ∷ [])) where
  pub put_are : OnErr r ((new_tags ≡ tags) × (new_numbers ≡ numbers)) → AreNodes texts tags numbers → AreNodes texts (tags ++ tag ∷ []) (numbers ++ number ∷ []) → AreNodes texts new_tags new_numbers
  put_are kept are more = (elim r as (λ s. OnOk s (new_tags ≡ tags ++ tag ∷ []) → OnOk s (new_numbers ≡ numbers ++ number ∷ []) → OnErr s ((new_tags ≡ tags) × (new_numbers ≡ numbers)) → AreNodes texts new_tags new_numbers)
      [ Ok a ↦ λ p q k. rw (p, q) more | Err e ↦ λ p q k. rw (k.0, k.1) are ]) has_tag has_number kept

  pub put_nodes : (all : List Node) → nodes_of texts (tags ++ tag ∷ []) (numbers ++ number ∷ []) ≡ all → OnOk r (nodes_of texts new_tags new_numbers ≡ all)
  put_nodes all is = (elim r as (λ s. OnOk s (new_tags ≡ tags ++ tag ∷ []) → OnOk s (new_numbers ≡ numbers ++ number ∷ []) → OnOk s (nodes_of texts new_tags new_numbers ≡ all))
      [ Ok a ↦ λ p q. rw (p, q) is | Err e ↦ λ p q. tt ]) has_tag has_number

-- ---- a bracket that leads elsewhere

led : (texts : Texts) (t : Tag) (m n : ℕ) → IsOpening (node_of texts t m) → (has_text t ≡ false) × (node_of texts t n ≡ leading_to n (node_of texts t m))
led texts Object m n h = (refl, refl)
led texts Array m n h = (refl, refl)
led texts t m n h = absurd h

pub opening_within : (ns : List Node) (at : ℕ) → IsOpening (get_or ns at nodes.Null) → at < length ns
opening_within [] at h = absurd h
opening_within (x ∷ xs) zero h = omega arith
opening_within (x ∷ xs) (suc at) h = omega (arith, opening_within xs at h)

leads : (texts : Texts) (count : ℕ) (tags : List Tag) (numbers : List ℕ) (at n : ℕ) → TextsFit count tags numbers → IsOpening (get_or (nodes_of texts tags numbers) at nodes.Null)
    → TextsFit count tags (slice_set numbers at n)
    × (nodes_of texts tags (slice_set numbers at n) ≡ slice_set (nodes_of texts tags numbers) at (leading_to n (get_or (nodes_of texts tags numbers) at nodes.Null)))
leads texts count [] ns at n f h = absurd h
leads texts count (t ∷ ts) [] at n f h = absurd f
leads texts count (t ∷ ts) (m ∷ ns) zero n f h =
    let now = led texts t m n h in
    ((λ some. (let never : ⊥ = cc in absurd never), f.1), ap (λ x. x ∷ nodes_of texts ts ns) now.1)
leads texts count (t ∷ ts) (m ∷ ns) (suc at) n f h =
    let more = leads texts count ts ns at n f.1 h in
    ((f.0, more.0), ap (λ l. node_of texts t m ∷ l) more.1)

module _ (texts : Texts) (tags : List Tag) (numbers : List ℕ) (at n : ℕ) (are : AreNodes texts tags numbers) (opening : IsOpening (get_or (nodes_of texts tags numbers) at nodes.Null)) where
  pub led_nodes : AreNodes texts tags (slice_set numbers at n)
  led_nodes = record { fit = (leads texts (length texts) tags numbers at n are.fit opening).0; few = are.few }

  pub led_is : nodes_of texts tags (slice_set numbers at n) ≡ slice_set (nodes_of texts tags numbers) at (leading_to n (get_or (nodes_of texts tags numbers) at nodes.Null))
  led_is = (leads texts (length texts) tags numbers at n are.fit opening).1

pub still_opening : (ns : List Node) (x : Node) (at : ℕ) → IsOpening (get_or ns at nodes.Null) → get_or (ns ++ x ∷ []) at nodes.Null ≡ get_or ns at nodes.Null
still_opening [] x at h = absurd h
still_opening (y ∷ ys) x zero h = refl
still_opening (y ∷ ys) x (suc at) h = still_opening ys x at h

-- ---- the node at a place

pub node_at : (texts : Texts) (count : ℕ) (tags : List Tag) (numbers : List ℕ) (at : ℕ) (t : Tag) (n : ℕ) → TextsFit count tags numbers → at < length tags
    → (get_or (nodes_of texts tags numbers) at nodes.Null ≡ node_of texts (get_or tags at t) (get_or numbers at n)) × (has_text (get_or tags at t) ≡ true → get_or numbers at n < count)
node_at texts count [] ns at t n f h = let never : ⊥ = omega arith in absurd never
node_at texts count (x ∷ ts) [] at t n f h = absurd f
node_at texts count (x ∷ ts) (m ∷ ns) zero t n f h = (refl, f.0)
node_at texts count (x ∷ ts) (m ∷ ns) (suc at) t n f h = node_at texts count ts ns at t n f.1 (omega arith)
