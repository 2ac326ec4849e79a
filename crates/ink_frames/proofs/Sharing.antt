-- Frames by their headers, of which the lowest are shared.
use Rattle.std.proofs.Common.{◌≡◌, ◌∙◌, ◌<◌, ◌≤◌, ◌+◌, ◌-◌, ℕ, zero, suc, List, [], ◌∷◌, ◌++◌, Bool, true, false, ap, append_assoc, arith, get_or, length, map, refl, set, subst, sym, take}
use Rattle.std.proofs.lemmas.List.{get_or-append_right, get_or-map, get_or_append_left, length-append, length-map, set-append_right, take_all}
use Rattle.std.specs.Bool.{OnFalse, OnTrue}
use Rattle.ink_frames.proofs.Common.{FrameOf, Values, stale, with_fresh}
use Rattle.ink_frames.proofs.Flat.{framed_length, header_set, framed_at, temps_at}
use Rattle.ink_frames.specs.Frames.{as_seen, frame_with, framed, unnumbered}
use Rattle.ink_frames.specs.declared.frame.Header.{Header}

module _ {P : Type 0} where
  -- how many there are
  pub counted : (ls own : List (Header P)) (ts : List Values) (m n : ℕ) → m ≡ length ls → n ≡ length own → m + n ≡ length (framed (ls ++ own) ts)
  counted ls own ts m n first second = omega (arith, first, second, length-append ls own, framed_length (ls ++ own) ts)

  pub all_counted : (ls own : List (Header P)) (ts : List Values) (fs : List (FrameOf P)) (n : ℕ) → framed (ls ++ own) ts ≡ fs → n ≡ length fs → n ≡ length ls + length own
  all_counted ls own ts fs n is h = omega (arith, h, ap length is, length-append ls own, framed_length (ls ++ own) ts)

  pub inside_all : (hs : List (Header P)) (ts : List Values) (fs : List (FrameOf P)) (i : ℕ) → framed hs ts ≡ fs → i < length fs → i < length hs
  inside_all hs ts fs i is h = omega (arith, framed_length hs ts, ap length is, h)

  -- the header at an index is that of the frame there
  pub header_shared : (ls own : List (Header P)) (ts : List Values) (i n : ℕ) (d : FrameOf P) (x : Header P) → n ≡ length ls → i < n → x ≡ get_or ls i x
      → get_or (framed (ls ++ own) ts) i d ≡ frame_with x (get_or (framed (ls ++ own) ts) i d).temps
  header_shared ls own ts i n d x is below there =
      let inside : i < length (ls ++ own) = omega (arith, is, below, length-append ls own) in
      framed_at (ls ++ own) ts i d x inside ∙ ap (λ h. frame_with h (get_or ts i [])) (get_or_append_left ls own x i (omega (arith, is, below)) ∙ sym there)
      ∙ ap (λ rows. frame_with x rows) (sym (temps_at (ls ++ own) ts i d inside))

  pub header_own : (ls own : List (Header P)) (ts : List Values) (i n : ℕ) (d : FrameOf P) (x : Header P) → n ≡ length ls → n ≤ i → i < length (ls ++ own) → x ≡ get_or own (i - n) x
      → get_or (framed (ls ++ own) ts) i d ≡ frame_with x (get_or (framed (ls ++ own) ts) i d).temps
  header_own ls own ts i n d x is above inside there =
      framed_at (ls ++ own) ts i d x inside ∙ ap (λ h. frame_with h (get_or ts i [])) (get_or-append_right ls own n i x (sym is) above ∙ sym there)
      ∙ ap (λ rows. frame_with x rows) (sym (temps_at (ls ++ own) ts i d inside))

  -- the index among those that are not shared
  pub own_inside : (ls own hs : List (Header P)) (i k : ℕ) → ls ++ own ≡ hs → length ls + k ≡ i → i < length hs → k < length own
  own_inside ls own hs i k all at inside = omega (arith, ap length all, length-append ls own, at, inside)

  pub own_set : (ls own hs : List (Header P)) (i k : ℕ) (x : Header P) → ls ++ own ≡ hs → length ls + k ≡ i → ls ++ set own k x ≡ set hs i x
  own_set ls own hs i k x all at =
      let same : i - length ls ≡ k = omega (arith, at) in
      ap (λ j. ls ++ set own j x) (sym same) ∙ sym (set-append_right ls own (length ls) i x refl (omega (arith, at))) ∙ ap (λ gs. set gs i x) all

  pub own_got : (ls own hs : List (Header P)) (i k : ℕ) (e : Header P) → ls ++ own ≡ hs → length ls + k ≡ i → get_or own k e ≡ get_or hs i e
  own_got ls own hs i k e all at =
      let same : i - length ls ≡ k = omega (arith, at) in
      ap (λ j. get_or own j e) (sym same) ∙ sym (get_or-append_right ls own (length ls) i e refl (omega (arith, at))) ∙ ap (λ gs. get_or gs i e) all

  -- another header in the place of one
  pub header_put : (change : FrameOf P → FrameOf P) (hs : List (Header P)) (ts : List Values) (i : ℕ) (x h : Header P) (d : FrameOf P) → i < length hs
      → ((rows : Values) → frame_with x rows ≡ change (frame_with h rows)) → get_or (framed hs ts) i d ≡ frame_with h (get_or (framed hs ts) i d).temps
      → framed (set hs i x) ts ≡ set (framed hs ts) i (change (get_or (framed hs ts) i d))
  header_put change hs ts i x h d inside made is =
      header_set hs ts i x
      ∙ ap (λ f. set (framed hs ts) i f) (ap (λ rows. frame_with x rows) (sym (temps_at hs ts i d inside)) ∙ made (get_or (framed hs ts) i d).temps ∙ ap change (sym is))

  -- a header that ends a frame's freshness, or does not, says the same of its frame
  pub stale_kept : (depth : ℕ) (h : Header P) (f : FrameOf P) (ended : Bool) → f ≡ frame_with h f.temps → ended ≡ false
      → ((rows : Values) → OnFalse ended (stale depth (frame_with h rows) ≡ frame_with h rows)) → stale depth f ≡ f
  stale_kept depth h f ended is not kept = ap (stale depth) is ∙ subst (λ b. OnFalse b (stale depth (frame_with h f.temps) ≡ frame_with h f.temps)) not (kept f.temps) ∙ sym is

  pub stale_ended : (depth : ℕ) (h : Header P) (f : FrameOf P) (ended : Bool) → f ≡ frame_with h f.temps → ended ≡ true
      → ((rows : Values) → OnTrue ended (with_fresh true (stale depth (frame_with h rows)) ≡ frame_with h rows)) → with_fresh true (stale depth f) ≡ f
  stale_ended depth h f ended is so was =
      ap (λ g. with_fresh true (stale depth g)) is ∙ subst (λ b. OnTrue b (with_fresh true (stale depth (frame_with h f.temps)) ≡ frame_with h f.temps)) so (was f.temps) ∙ sym is

  -- a copy of both
  pub both_are : (lowest ls headers own : List (Header P)) → lowest ≡ ls → headers ≡ own → lowest ++ headers ≡ ls ++ own
  both_are lowest ls headers own first second = ap (λ hs. hs ++ headers) first ∙ ap (λ hs. ls ++ hs) second

  -- one more
  pub own_more : (ls own new : List (Header P)) (x : Header P) → new ≡ own ++ x ∷ [] → ls ++ new ≡ (ls ++ own) ++ x ∷ []
  own_more ls own new x is = ap (λ hs. ls ++ hs) is ∙ sym (append_assoc ls own (x ∷ []))

-- headers as they are seen
module _ {P : Type 0} where
  pub unnumbered_seen : (b : Bool) (hs : List (Header P)) → map (as_seen true) hs ≡ map unnumbered (map (as_seen b) hs)
  unnumbered_seen b [] = refl
  unnumbered_seen true (h ∷ hs) = ap (λ xs. unnumbered h ∷ xs) (unnumbered_seen true hs)
  unnumbered_seen false (h ∷ hs) = ap (λ xs. unnumbered h ∷ xs) (unnumbered_seen false hs)

  all_seen : (hs : List (Header P)) → map (as_seen false) hs ≡ hs
  all_seen [] = refl
  all_seen (h ∷ hs) = ap (λ xs. h ∷ xs) (all_seen hs)

  -- the last one
  pub last_seen : (f : Header P → Header P) (hs : List (Header P)) (i : ℕ) (x : Header P) → i < length hs → x ≡ get_or (map f (take (suc i) hs)) i x
      → map f (take (suc i) hs) ≡ map f (take i hs) ++ x ∷ []
  last_seen f [] i x inside is = absurd (omega arith)
  last_seen f (h ∷ hs) zero x inside is = ap (λ y. y ∷ []) (sym is)
  last_seen f (h ∷ hs) (suc i) x inside is = ap (λ xs. f h ∷ xs) (last_seen f hs i x (omega arith) is)

  -- one of them
  pub seen_at : (f : Header P → Header P) (hs now first : List (Header P)) (i : ℕ) (x y d : Header P) → map f hs ≡ now → first ≡ hs → i < length now → y ≡ get_or first i y → x ≡ f y → x ≡ get_or now i d
  seen_at f hs now first i x y d seen is inside there made =
      let within : i < length hs = omega (arith, ap length seen, length-map hs f, inside) in
      made ∙ ap f (there ∙ ap (λ xs. get_or xs i y) is) ∙ sym (get_or-map f hs i y d within) ∙ ap (λ xs. get_or xs i d) seen

  -- they and more, put into one list of which all are seen
  pub more_seen : (b : Bool) (hs more all : List (Header P)) (n : ℕ) → all ≡ map (as_seen b) hs ++ map (as_seen false) more → n ≡ length hs + length more
      → map (as_seen false) (take n all) ≡ map (as_seen b) hs ++ more
  more_seen b hs more all n is many =
      let whole : all ≡ map (as_seen b) hs ++ more = is ∙ ap (λ xs. map (as_seen b) hs ++ xs) (all_seen more) in
      let few : length all ≤ n = omega (arith, ap length whole, length-append (map (as_seen b) hs) more, length-map hs (as_seen b), many) in
      all_seen (take n all) ∙ take_all n all few ∙ whole
