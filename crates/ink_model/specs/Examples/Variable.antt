-- Variables that are read, assigned and declared through pointers, each proved by computation (docs/VARIABLES.md).
use Rattle.std.specs.Prelude.{◌≡◌, ℕ, pos, negsuc, List, [], ◌∷◌, refl, codes, None, Some, Ok, Err}
use Rattle.ink_model.specs.Flow.Frames.{FrameOf, ThreadOf, base_frame}
use Rattle.ink_model.specs.Variables.Access.{assign, declare, point, read}
use Rattle.ink_model.specs.Variables.Store.{Values}
use Rattle.ink_model.specs.declared.fault.Fault.TheVariants as fault
use Rattle.ink_model.specs.declared.scope.Scope.TheVariants as scope
use Rattle.ink_model.specs.declared.value.Value.{Value}
use Rattle.ink_model.specs.declared.value.Value.TheVariants.{Int, Pointer}

abbrev frame_of : Values → FrameOf ℕ
frame_of rows = record (base_frame (Some 7)) { temps = rows }

-- two frames: the bottom one has these temporaries, and the one on top those
abbrev thread_of : Values → Values → ThreadOf ℕ
thread_of bottom top = record { frame = frame_of top; below = frame_of bottom ∷ []; previous = None }

abbrev pub one : List ℕ → Value → Values
one name v = (name, v) ∷ []

abbrev pub a : List ℕ
a = codes "a"

abbrev b : List ℕ
b = codes "b"

abbrev five : Value
five = Int (pos 5)

abbrev six : Value
six = Int (pos 6)

-- ---- names

a_global_comes_first : read (one a five) (thread_of [] (one a six)) a ≡ Ok five
a_global_comes_first = refl

-- another frame's temporary is not seen by its name
a_temporary_of_the_top_frame : read [] (thread_of (one a five) (one b six)) b ≡ Ok six
a_temporary_of_the_top_frame = refl

a_temporary_below : read [] (thread_of (one a five) (one b six)) a ≡ Ok (Int (pos 0))
a_temporary_below = refl

nothing_to_assign : assign [] (thread_of (one a five) []) a six ≡ Err fault.NoTemp
nothing_to_assign = refl

a_global_is_assigned : assign (one a five) (thread_of [] (one a five)) a six ≡ Ok (one a six, thread_of [] (one a five))
a_global_is_assigned = refl

-- ---- pointers

-- a parameter by reference, two calls deep
through_two_pointers : read [] (thread_of (one a five) (one b (Pointer (pos 1) a))) b ≡ Ok five
through_two_pointers = refl

written_through : assign [] (thread_of (one a five) (one b (Pointer (pos 1) a))) b six ≡ Ok ([], thread_of (one a six) (one b (Pointer (pos 1) a)))
written_through = refl

to_a_global : assign (one a five) (thread_of [] (one b (Pointer (pos 0) a))) b six ≡ Ok (one a six, thread_of [] (one b (Pointer (pos 0) a)))
to_a_global = refl

a_frame_that_is_gone : read [] (thread_of (one a five) (one b (Pointer (pos 3) a))) b ≡ Err fault.BadPointer
a_frame_that_is_gone = refl

a_global_that_is_absent : assign [] (thread_of (one a five) (one b (Pointer (pos 0) a))) b six ≡ Err fault.BadPointer
a_global_that_is_absent = refl

-- the frame stands, but lacks the name
read_where_it_lacks : read [] (thread_of [] (one b (Pointer (pos 1) a))) b ≡ Ok (Int (pos 0))
read_where_it_lacks = refl

assigned_where_it_lacks : assign [] (thread_of [] (one b (Pointer (pos 1) a))) b six ≡ Err fault.NoTemp
assigned_where_it_lacks = refl

-- ---- chains, of at most three pointers where there are two frames

abbrev c : List ℕ
c = codes "c"

abbrev chain : Value → Values
chain v = (a, Pointer (pos 2) b) ∷ (b, Pointer (pos 2) c) ∷ (c, v) ∷ []

the_longest_chain : read (one (codes "x") (Pointer (pos 2) a)) (thread_of [] (chain five)) (codes "x") ≡ Ok five
the_longest_chain = refl

one_pointer_more : read (one (codes "x") (Pointer (pos 2) a)) (thread_of [] (chain (Pointer (pos 0) (codes "y")))) (codes "x") ≡ Err fault.BadPointer
one_pointer_more = refl

round_and_round : assign (one a (Pointer (pos 0) a)) (thread_of [] []) a five ≡ Err fault.BadPointer
round_and_round = refl

-- ---- declaring

the_last_pointer_is_kept : declare [] (thread_of (one a five) (one a (Pointer (pos 1) a))) scope.Global b (Pointer (pos 2) a)
    ≡ Ok (one b (Pointer (pos 1) a), thread_of (one a five) (one a (Pointer (pos 1) a)))
the_last_pointer_is_kept = refl

-- a pointer that leads nowhere is kept as it is
kept_as_it_is : declare [] (thread_of [] []) scope.Temporary b (Pointer (pos 9) a) ≡ Ok ([], thread_of [] (one b (Pointer (pos 9) a)))
kept_as_it_is = refl

too_long_to_declare : declare (one a (Pointer (pos 0) a)) (thread_of [] []) scope.Temporary b (Pointer (pos 0) a) ≡ Err fault.BadPointer
too_long_to_declare = refl

-- a global that is there keeps its place, and what it held is not followed
declared_again : declare ((a, Pointer (pos 0) b) ∷ (b, five) ∷ []) (thread_of [] []) scope.Global a six
    ≡ Ok ((a, six) ∷ (b, five) ∷ [], thread_of [] [])
declared_again = refl

-- a temporary may have the name of a global, which hides it
declared_beside : declare (one a five) (thread_of [] []) scope.Temporary a six ≡ Ok (one a five, thread_of [] (one a six))
declared_beside = refl

-- ---- pointers that are pushed

to_the_top_frame : point (thread_of (one a five) (one b six)) (negsuc 0) b ≡ Pointer (pos 2) b
to_the_top_frame = refl

else_to_the_globals : point (thread_of (one a five) (one b six)) (negsuc 0) a ≡ Pointer (pos 0) a
else_to_the_globals = refl

as_it_is_written : point (thread_of [] (one b six)) (pos 1) b ≡ Pointer (pos 1) b
as_it_is_written = refl
