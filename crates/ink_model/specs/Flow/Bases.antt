-- The base of a thread (docs/FRAMES.md, "Frames").
use Rattle.std.specs.Prelude.{◌≡◌, ◌≢◌, List, [], ◌∷◌}
use Rattle.ink_model.specs.Flow.Frames.{FrameOf}
use Rattle.ink_model.specs.declared.frame.FrameKind.{FrameKind}
use Rattle.ink_model.specs.declared.frame.FrameKind.TheVariants.{Base}

-- Of a frame of a kind and those below it, the nearest first, the bottom one alone is the base.
abbrev pub BaseFirst : {P : Type 0} → FrameKind → List (FrameOf P) → Type 0
BaseFirst k [] = k ≡ Base
BaseFirst k (f ∷ fs) = (k ≢ Base) × BaseFirst f.kind fs
