-- Choices of which the first have no number of an Enter.
use Rattle.std.proofs.Common.{◌≡◌, ◌∙◌, ◌≤◌, ◌<◌, ◌+◌, ◌-◌, ℕ, zero, suc, true, List, [], ◌∷◌, ◌++◌, Result, Ok, Err, ap, append-nil, arith, drop, get_or, length, length-drop, map, refl, set, sym, take}
use Rattle.std.proofs.Math.Seq.{take-suc}
use Rattle.std.proofs.lemmas.List.{drop_all, take_all}
use Rattle.std.specs.List.{remove}
use Rattle.std.specs.Result.{OnErr}
use Rattle.ink_model.specs.Choices.Making.{has_any}
use Rattle.ink_model.specs.Run.Configuration.{ChoiceOf, unnumbered_choice}
use Rattle.ink_model.specs.Flow.Frames.{FrameOf, unnumbered_frame}
use Rattle.ink_choice.specs.Choices.{Settled}

module _ {P : Type 0} where
  pub settled-within : (n : ℕ) (cs : List (ChoiceOf P)) → Settled n cs → n ≤ length cs
  settled-within zero cs h = omega arith
  settled-within (suc n) [] h = absurd h
  settled-within (suc n) (c ∷ cs) h = omega (arith, settled-within n cs h.1)

  -- ---- a change of the list

  pub settled-added : (n : ℕ) (cs ds : List (ChoiceOf P)) → Settled n cs → Settled n (cs ++ ds)
  settled-added zero cs ds h = tt
  settled-added (suc n) [] ds h = absurd h
  settled-added (suc n) (c ∷ cs) ds h = (h.0, settled-added n cs ds h.1)

  pub settled-removed : (m n i : ℕ) (cs : List (ChoiceOf P)) → m ≤ n → m ≤ i → Settled n cs → Settled m (remove cs i)
  settled-removed zero n i cs few before h = tt
  settled-removed (suc m) zero i cs few before h = absurd (omega arith)
  settled-removed (suc m) (suc n) i [] few before h = absurd h
  settled-removed (suc m) (suc n) zero (c ∷ cs) few before h = absurd (omega arith)
  settled-removed (suc m) (suc n) (suc i) (c ∷ cs) few before h = (h.0, settled-removed m n i cs (omega arith) (omega arith) h.1)

  -- ---- a walk

  frames_twice : (fs : List (FrameOf P)) → map unnumbered_frame (map unnumbered_frame fs) ≡ map unnumbered_frame fs
  frames_twice [] = refl
  frames_twice (f ∷ fs) = ap (λ gs. unnumbered_frame f ∷ gs) (frames_twice fs)

  choice_twice : (c : ChoiceOf P) → unnumbered_choice (unnumbered_choice c) ≡ unnumbered_choice c
  choice_twice c = ap (λ fs. record c { thread = record c.thread { frame = unnumbered_frame c.thread.frame; below = fs } }) (frames_twice c.thread.below)

  pub settled-all : (cs : List (ChoiceOf P)) → Settled (length cs) (map unnumbered_choice cs)
  settled-all [] = tt
  settled-all (c ∷ cs) = (choice_twice c, settled-all cs)

  -- from the first on that may have one
  settled-walk : (n : ℕ) (cs : List (ChoiceOf P)) → Settled n cs → take n cs ++ map unnumbered_choice (drop n cs) ≡ map unnumbered_choice cs
  settled-walk zero cs h = refl
  settled-walk (suc n) [] h = absurd h
  settled-walk (suc n) (c ∷ cs) h = ap (λ d. d ∷ (take n cs ++ map unnumbered_choice (drop n cs))) (sym h.0) ∙ ap (λ ds. unnumbered_choice c ∷ ds) (settled-walk n cs h.1)

  pub settled-walked : (n : ℕ) (cs seen new : List (ChoiceOf P)) → seen ≡ cs → new ≡ take n seen ++ map unnumbered_choice (drop n seen) → Settled n cs → new ≡ map unnumbered_choice cs
  settled-walked n cs seen new same is h = is ∙ ap (λ ds. take n ds ++ map unnumbered_choice (drop n ds)) same ∙ settled-walk n cs h

-- ---- a walk through a list, and through the end of one

walked-at : {X : Type 0} (f : X → X) (xs : List X) (i : ℕ) (d y : X) → i < length xs → y ≡ f (get_or xs i d) → take (suc i) (set xs i y) ++ map f (drop (suc i) (set xs i y)) ≡ take i xs ++ map f (drop i xs)
walked-at f [] i d y within is = absurd (omega arith)
walked-at f (x ∷ xs) zero d y within is = ap (λ z. z ∷ map f xs) is
walked-at f (x ∷ xs) (suc i) d y within is = ap (λ zs. x ∷ zs) (walked-at f xs i d y (omega arith) is)

pub walked-on : {X : Type 0} (f : X → X) (xs : List X) (i : ℕ) (d y : X) → i < length xs → y ≡ f (get_or xs i d) → take (i + 1) (set xs i y) ++ map f (drop (i + 1) (set xs i y)) ≡ take i xs ++ map f (drop i xs)
walked-on f xs i d y within is =
    let next : i + 1 ≡ suc i = omega arith in
    ap (λ k. take k (set xs i y) ++ map f (drop k (set xs i y))) next ∙ walked-at f xs i d y within is

pub walked-all : {X : Type 0} (f : X → X) (xs : List X) (i : ℕ) → length xs ≤ i → take i xs ++ map f (drop i xs) ≡ xs
walked-all f xs i all = rw (drop_all i xs all, take_all i xs all) (append-nil xs)

pub walked-end : {X : Type 0} (f : X → X) (xs new : List X) (i : ℕ) → i ≤ length xs → new ≡ map f (take (length xs - i) (drop i xs)) → take i xs ++ (new ++ drop (length xs - i) (drop i xs)) ≡ take i xs ++ map f (drop i xs)
walked-end f xs new i within is =
    let left : length (drop i xs) ≤ length xs - i = omega (arith, length-drop i xs) in
    ap (λ zs. take i xs ++ zs) (ap (λ zs. new ++ zs) (drop_all (length xs - i) (drop i xs) left) ∙ append-nil new ∙ is ∙ ap (map f) (take_all (length xs - i) (drop i xs) left))

-- ---- copies of a list, one after another

pub copied-on : {X : Type 0} (xs copies new : List X) (i : ℕ) (copy item : X) → i < length xs → new ≡ copies ++ copy ∷ [] → copies ≡ take i xs → copy ≡ item → item ≡ get_or xs i item → new ≡ take (i + 1) xs
copied-on xs copies new i copy item within pushed before same is =
    let next : i + 1 ≡ suc i = omega arith in
    pushed ∙ ap (λ cs. cs ++ copy ∷ []) before ∙ ap (λ c. take i xs ++ c ∷ []) (same ∙ is) ∙ sym (take-suc xs i item within) ∙ ap (λ k. take k xs) (sym next)

pub copied-all : {X : Type 0} (xs seen copies : List X) (i : ℕ) → seen ≡ xs → length seen ≤ i → copies ≡ take i seen → copies ≡ xs
copied-all xs seen copies i same all is = is ∙ take_all i seen all ∙ same

-- where one is left there are some
pub asks-within : {X A E : Type 0} (r : Result A E) (xs seen : List X) (i : ℕ) → seen ≡ xs → i < length seen → OnErr r (has_any xs ≡ true)
asks-within (Ok a) xs seen i same within = tt
asks-within (Err e) [] seen i same within = absurd (omega (arith, within, ap (λ ys. length ys) same))
asks-within (Err e) (x ∷ xs) seen i same within = refl
