-- Frames and threads as they are given: the bottom one first.
use Rattle.std.specs.Prelude.{List, [], ◌∷◌, length, reverse, Bool, false, not, ◌&&◌, nat_le, if◌then◌else◌, Option, Some, None}
use Rattle.std.specs.List.{list_all}
use Rattle.ink_model.specs.Flow.Frames.{FrameOf, ThreadOf, ThreadsOf}
use Rattle.ink_model.specs.Flow.Threads.{same_kind}
use Rattle.ink_model.specs.declared.frame.FrameKind.{FrameKind}
use Rattle.ink_model.specs.declared.frame.FrameKind.TheVariants.{Base}
use Rattle.ink_model.specs.declared.limits.TheConstants.{MAX_FRAMES, MAX_THREADS}

-- anything but the base
abbrev pub is_call : FrameKind → Bool
is_call k = not (same_kind k Base)

module _ {P : Type 0} where
  -- the first alone is the base
  abbrev pub base_first : List (FrameOf P) → Bool
  base_first [] = false
  base_first (f ∷ fs) = not (is_call f.kind) && list_all (λ g. is_call g.kind) fs

  -- a thread of these frames, the top one first
  abbrev pub thread_with : List (FrameOf P) → Option P → Option (ThreadOf P)
  thread_with [] previous = None
  thread_with (f ∷ fs) previous = Some (record { frame = f; below = fs; previous = previous })

  -- the same of frames of which the bottom one is first, within their limit
  abbrev pub thread_from : List (FrameOf P) → Option P → Option (ThreadOf P)
  thread_from fs previous = if base_first fs && nat_le (length fs) MAX_FRAMES then thread_with (reverse fs) previous else None

  -- these threads, the top one first
  abbrev pub threads_with : List (ThreadOf P) → Option (ThreadsOf P)
  threads_with [] = None
  threads_with (t ∷ ts) = Some (record { thread = t; below = ts })

  -- the same of threads of which the bottom one is first, within their limit
  abbrev pub threads_from : List (ThreadOf P) → Option (ThreadsOf P)
  threads_from ts = if nat_le (length ts) MAX_THREADS then threads_with (reverse ts) else None
