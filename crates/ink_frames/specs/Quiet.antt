-- What a thread keeps in mind of the frames below its top one.
use Rattle.std.specs.Prelude.{◌≡◌, ◌≤◌, ◌<◌, ⊤, ℕ, zero, suc, List, [], ◌∷◌, true, Option, None, IfSome, IsSomeAnd}
use Rattle.ink_model.specs.Flow.Frames.{FrameOf, is_function}

-- of the function frames that come first each fresh one was pushed where fewer sections were open
abbrev pub IsQuiet : {P : Type 0} → ℕ → List (FrameOf P) → Type 0
IsQuiet n [] = ⊤
IsQuiet n (f ∷ fs) = is_function f.kind ≡ true → (f.fresh ≡ true → f.depth < n) × IsQuiet n fs

-- a number, where there is one, that holds with a function frame nearest: it is not below the one that holds without it
abbrev pub Covers : {P : Type 0} → Option ℕ → FrameOf P → Option ℕ → Type 0
Covers old f new = IfSome new (λ n. is_function f.kind ≡ true → (f.fresh ≡ true → f.depth < n) × IsSomeAnd old (λ m. m ≤ n))

-- the first ones, so many, do not have the number of their Enter
abbrev pub Settled : {P : Type 0} → ℕ → List (FrameOf P) → Type 0
Settled zero fs = ⊤
Settled (suc n) [] = ⊥
Settled (suc n) (f ∷ fs) = (f.enter ≡ None) × Settled n fs
