-- Frames that are pushed and popped, threads that are copied and dropped, and freshness, each proved by computation (docs/FRAMES.md).
use Rattle.std.specs.Prelude.{◌≡◌, ℕ, [], ◌∷◌, refl, replicate, true, false, Some, None, Ok, Err, is_ok}
use Rattle.ink_model.specs.Flow.Frames.{FrameOf, ThreadOf, ThreadsOf, base_frame, fresh_depth}
use Rattle.ink_model.specs.Flow.Threads.{doubled, dropped, new_frame, frame_popped, frame_pushed, staled}
use Rattle.ink_model.specs.declared.fault.Fault.TheVariants as fault
use Rattle.ink_model.specs.declared.frame.FrameKind.{FrameKind}
use Rattle.ink_model.specs.declared.frame.FrameKind.TheVariants as kind

-- ---- pushing and popping

abbrev here : ThreadOf ℕ
here = record { frame = base_frame (Some 7); below = []; previous = Some 6 }

-- a frame that is pushed stands where its caller does, and a function is fresh
abbrev frame_of : FrameKind → ℕ → FrameOf ℕ
frame_of k d = new_frame k (Some 7) d

abbrev called : FrameKind → ℕ → ThreadOf ℕ
called k d = record { frame = frame_of k d; below = base_frame (Some 7) ∷ []; previous = Some 6 }

a_push : frame_pushed kind.Function 2 here ≡ Ok (called kind.Function 2)
a_push = refl

fresh_where_it_was_pushed : fresh_depth (frame_of kind.Function 2) ≡ Some 2
fresh_where_it_was_pushed = refl

a_tunnel_is_never_fresh : fresh_depth (frame_of kind.Tunnel 2) ≡ None
a_tunnel_is_never_fresh = refl

a_pop : frame_popped kind.Function 2 (called kind.Function 2) ≡ Ok here
a_pop = refl

-- the wrong kind comes before the sections that are open
the_wrong_kind : frame_popped kind.Tunnel 1 (called kind.Function 2) ≡ Err fault.BadPop
the_wrong_kind = refl

a_section_too_many : frame_popped kind.Function 3 (called kind.Function 2) ≡ Err fault.BadMode
a_section_too_many = refl

the_only_frame : frame_popped kind.Base 0 here ≡ Err fault.BadPop
the_only_frame = refl

-- the most frames and threads, and one more
abbrev deep : ℕ → ThreadOf ℕ
deep n = record { frame = base_frame (Some 7); below = replicate n (base_frame (Some 7)); previous = None }

the_last_frame : is_ok (frame_pushed kind.Tunnel 0 (deep 998)) ≡ true
the_last_frame = refl

a_frame_too_many : frame_pushed kind.Tunnel 0 (deep 999) ≡ Err fault.TooDeep
a_frame_too_many = refl

abbrev wide : ℕ → ThreadsOf ℕ
wide n = record { thread = here; below = replicate n here }

the_last_thread : is_ok (doubled (wide 98)) ≡ true
the_last_thread = refl

a_thread_too_many : doubled (wide 99) ≡ Err fault.TooDeep
a_thread_too_many = refl

a_thread_is_dropped : dropped (wide 2) ≡ Some (wide 1)
a_thread_is_dropped = refl

the_last_one_stays : dropped (wide 0) ≡ None
the_last_one_stays = refl

-- ---- freshness

abbrev stale_frame : ℕ → FrameOf ℕ
stale_frame d = record (frame_of kind.Function d) { fresh = false }

-- a text ends that of the functions below, past one of another section, and up to a frame of another kind
freshness_ends : staled 0 (record {
  frame = frame_of kind.Function 0;
  below = frame_of kind.Function 1 ∷ frame_of kind.Function 0 ∷ frame_of kind.Tunnel 0 ∷ frame_of kind.Function 0 ∷ [];
  previous = None;
}) ≡ record {
  frame = stale_frame 0;
  below = frame_of kind.Function 1 ∷ stale_frame 0 ∷ frame_of kind.Tunnel 0 ∷ frame_of kind.Function 0 ∷ [];
  previous = None;
}
freshness_ends = refl

-- a tunnel on top does not shield the functions directly below it
below_a_tunnel : (staled 0 (record { frame = frame_of kind.Tunnel 0; below = frame_of kind.Function 0 ∷ []; previous = None })).below ≡ stale_frame 0 ∷ []
below_a_tunnel = refl
