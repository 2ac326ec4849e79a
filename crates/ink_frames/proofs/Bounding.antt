-- How many headers and temporaries there are, and what there is room for.
use Rattle.std.proofs.Common.{◌≡◌, ◌<◌, ◌≤◌, ◌+◌, ℕ, List, [], ◌∷◌, ◌++◌, Vec, ap, arith, length, map, set, take, vec_capacity, vec_len}
use Rattle.std.proofs.lemmas.List.{length-append, length-map, length-set, length-take-le}
use Rattle.ink_frames.proofs.Common.{Values}
use Rattle.ink_frames.specs.declared.frame.Header.{Header}

module _ {P : Type 0} where
  -- as many others in the place of these
  pub within_again : (ls own new news : List (Header P)) (m n : ℕ) → length new ≡ length ls → length news ≡ length own
      → (m ≤ length (ls ++ own)) × (length (ls ++ own) ≤ n) → (m ≤ length (new ++ news)) × (length (new ++ news) ≤ n)
  within_again ls own new news m n first second h =
      let long : length (new ++ news) ≡ length (ls ++ own) = omega (arith, first, second, length-append ls own, length-append new news) in
      (omega (arith, long, h.0), omega (arith, long, h.1))

  -- another one in the place of one
  pub within_put : (ls own hs : List (Header P)) (i : ℕ) (x : Header P) (m k n : ℕ) → ls ++ own ≡ hs → n ≡ k
      → (m ≤ length hs) × (length hs ≤ k) → (m ≤ length (ls ++ set own i x)) × (length (ls ++ set own i x) ≤ n)
  within_put ls own hs i x m k n all same h =
      let long : length (ls ++ set own i x) ≡ length hs = omega (arith, ap length all, length-append ls own, length-append ls (set own i x), length-set own i x) in
      (omega (arith, long, h.0), omega (arith, long, h.1, same))

  -- the same ones, with as much room or more
  pub within_more : (ls own news : List (Header P)) (ts kept : List Values) (k n : ℕ) → news ≡ own → kept ≡ ts → k ≤ n
      → (length ts ≤ length (ls ++ own)) × (length (ls ++ own) ≤ k) → (length kept ≤ length (ls ++ news)) × (length (ls ++ news) ≤ n)
  within_more ls own news ts kept k n same temps more h =
      let long : length (ls ++ news) ≡ length (ls ++ own) = omega (arith, ap length same, length-append ls own, length-append ls news) in
      (omega (arith, long, ap length temps, h.0), omega (arith, long, h.1, more))

  -- the lower ones are no more than all
  pub below_all : (ls own : List (Header P)) (m n : ℕ) → m ≡ length ls → length (ls ++ own) ≤ n → m ≤ n
  below_all ls own m n is few = omega (arith, is, length-append ls own, few)

  -- ---- the last one is taken

  pub both_counted : {L : Type 0} (ls : List (Header P)) (own : Vec (Header P) L) (m n : ℕ) → m ≡ length ls → n ≡ vec_len own → m + n ≡ length (ls ++ own.items)
  both_counted ls own m n first second = omega (arith, first, second, own.ok.0, length-append ls own.items)

  pub left_most : (all hs : List (Header P)) (x : Header P) (m n : ℕ) → all ≡ hs ++ x ∷ [] → n ≡ length hs → m ≤ length all → m ≤ n + 1
  left_most all hs x m n is many most = omega (arith, ap length is, length-append hs (x ∷ []), many, most)

  pub left_few : (all hs : List (Header P)) (x : Header P) (n k : ℕ) → all ≡ hs ++ x ∷ [] → n ≡ length hs → length all ≤ k → n < k
  left_few all hs x n k is many most = omega (arith, ap length is, length-append hs (x ∷ []), many, most)

  pub left_within : (all hs : List (Header P)) (x : Header P) (m n j k : ℕ) → all ≡ hs ++ x ∷ [] → n ≡ length hs → m ≤ n → length all ≤ k → j ≡ k → (m ≤ length hs) × (length hs ≤ j)
  left_within all hs x m n j k is many few most same = (omega (arith, many, few), omega (arith, ap length is, length-append hs (x ∷ []), most, same))

  pub none_within : (all hs : List (Header P)) (m j k : ℕ) → all ≡ [] → hs ≡ [] → j ≡ k → (m ≤ length all) × (length all ≤ k) → (m ≤ length hs) × (length hs ≤ j)
  none_within all hs m j k before after same h = (omega (arith, ap length before, ap length after, h.0), omega (arith, ap length before, ap length after, h.1, same))

  -- ---- headers as they are seen

  pub seen_inside : (f : Header P → Header P) (hs now first : List (Header P)) (i : ℕ) → map f hs ≡ now → first ≡ hs → i < length now → i < length first
  seen_inside f hs now first i seen is inside = omega (arith, ap length seen, length-map hs f, ap length is, inside)

  pub seen_fit : (f : Header P → Header P) (hs now first own : List (Header P)) (n : ℕ) → map f hs ≡ now → first ≡ hs → length (now ++ own) ≤ n → length own + length first ≤ n
  seen_fit f hs now first own n seen is room = omega (arith, ap length seen, length-map hs f, ap length is, length-append now own, room)

  -- so many of them are put into a list that has room for them and for others
  pub first_fit : {L : Type 0} (v : Vec (Header P) L) (kept first : List (Header P)) (m k n : ℕ) → v.items ≡ [] → first ≡ take m kept → m ≤ length kept → n ≡ m + k → n ≤ vec_capacity v
      → length v.items + length first ≤ vec_capacity v
  first_fit v kept first m k n none is few many room = omega (arith, ap length none, ap length is, length-take-le m kept few, many, room)

  pub others_fit : {L : Type 0} (v w : Vec (Header P) L) (f : Header P → Header P) (kept first : List (Header P)) (m k n : ℕ) → v.items ≡ [] → first ≡ take m kept → m ≤ length kept → n ≡ m + k
      → n ≤ vec_capacity v → w.items ≡ v.items ++ map f first → vec_capacity w ≡ vec_capacity v → length w.items + k ≤ vec_capacity w
  others_fit v w f kept first m k n none is few many room pushed same =
      omega (arith, ap length none, ap length is, length-take-le m kept few, many, room, ap length pushed, length-append v.items (map f first), length-map first f, same)

  -- they and others are as many as were counted
  pub all_there : (f k : Header P → Header P) (kept first firsts more all : List (Header P)) (m n : ℕ) → first ≡ take m kept → m ≤ length kept → firsts ≡ map f first → all ≡ firsts ++ map k more
      → n ≡ m + length more → length all ≡ n
  all_there f k kept first firsts more all m n is few first_pushed pushed many =
      omega (arith, ap length is, length-take-le m kept few, ap length first_pushed, length-map first f, ap length pushed, length-append firsts (map k more), length-map more k, many)

-- one more is put behind others, and those behind it are there still
pub mapped_fit : {A L : Type 0} (f : A → A) (v : Vec A L) (old more : List A) (i k n : ℕ) → v.items ≡ old ++ map f (take i more) → i < length more → length old + length more ≤ k → n ≡ k → vec_len v < n
mapped_fit f v old more i k n is inside room same =
    omega (arith, v.ok.0, ap length is, length-append old (map f (take i more)), length-map (take i more) f, length-take-le i more (omega (arith, inside)), inside, room, same)

pub behind_others : {A L : Type 0} (v w : Vec A L) (xs : List A) (k : ℕ) → w.items ≡ v.items ++ xs → k ≡ vec_len v → k ≤ vec_len w
behind_others v w xs k is many = omega (arith, v.ok.0, w.ok.0, ap length is, length-append v.items xs, many)
