-- Where flow goes among frames and threads, over any kind of place (docs/FRAMES.md).
use Rattle.std.specs.Prelude.{ℕ, List, [], ◌∷◌, length, Bool, not, nat_eq, if◌then◌else◌, Option, Some, None, is_some, option_and_then, Result, Ok, Err}
use Rattle.ink_model.specs.Flow.Frames.{FrameOf, ThreadOf, ThreadsOf, gone, is_function, on_top, put_in}
use Rattle.ink_model.specs.Flow.Threads.{doubled, dropped, number_in, frame_popped, frame_pushed}
use Rattle.ink_model.specs.Text.Output.{begins_function, ends_function, is_line}
use Rattle.ink_model.specs.Text.Page.{Page}
use Rattle.ink_model.specs.Values.Stack as stack
use Rattle.ink_model.specs.declared.fault.Fault.{Fault}
use Rattle.ink_model.specs.declared.fault.Fault.TheVariants.{BadMode, BadPop, StopInString}
use Rattle.ink_model.specs.declared.frame.FrameKind.{FrameKind}
use Rattle.ink_model.specs.declared.frame.FrameKind.TheVariants.{Function}
use Rattle.ink_model.specs.declared.value.Value.{Value}
use Rattle.ink_model.specs.declared.value.Value.TheVariants.{Void}

-- what is written to where a frame is pushed or popped
pub record Written : Type 0 where
  pub stack : List Value
  pub page : Page

-- flow is at a place, or has stopped; or a fault came
pub data Reached (P : Type 0) : Type 0 where
  Reaches : (threads : ThreadsOf P) → (written : Written) → Reached P
  Halts : (threads : ThreadsOf P) → (written : Written) → Reached P
  Breaks : (fault : Fault) → Reached P

-- a thread comes to its next place, or to its end; or a fault came
pub data Ending (P : Type 0) : Type 0 where
  Continues : (thread : ThreadOf P) → (written : Written) → Ending P
  Finishes : (thread : ThreadOf P) → (written : Written) → Ending P
  Collapses : (fault : Fault) → Ending P

-- what comes of a result, or of its fault
abbrev pub or_breaks : {A B : Type 0} → Result A Fault → (Fault → B) → (A → B) → B
or_breaks (Ok a) breaks so = so a
or_breaks (Err f) breaks so = breaks f

abbrev pub on_page : Result Page Fault → Written → Result Written Fault
on_page (Ok page) w = Ok (record w { page = page })
on_page (Err f) w = Err f

abbrev pub on_stack : Result (List Value) Fault → Written → Result Written Fault
on_stack (Ok vs) w = Ok (record w { stack = vs })
on_stack (Err f) w = Err f

-- so many strings and tags are open
abbrev pub depth_of : Written → ℕ
depth_of w = length w.page.sections

-- a function has an Enter; a tunnel has none
abbrev pub enter_for : FrameKind → Written → Result Written Fault
enter_for Function w = on_page (begins_function w.page) w
enter_for k w = Ok w

-- and so it has a Leave
abbrev pub leave_for : FrameKind → Option ℕ → Written → Result Written Fault
leave_for Function number w = on_page (ends_function number w.page) w
leave_for k number w = Ok w

-- void for a caller that evaluates
abbrev pub void_for : Bool → Written → Result Written Fault
void_for evaluating w = if evaluating then on_stack (stack.pushed Void w.stack) w else Ok w

module _ {P : Type 0} where
  -- flow stops, unless a string or a tag is open
  abbrev pub halt : ThreadsOf P → Written → Reached P
  halt ts w = if is_line w.page.sections then Halts ts w else Breaks StopInString

  abbrev pub reach : P → ThreadsOf P → Written → Reached P
  reach q ts w = Reaches (on_top (gone (Some q)) ts) w

  -- ---- calls

  abbrev pub number_for : FrameKind → Written → ThreadOf P → ThreadOf P
  number_for Function w t = number_in w.page.next_enter t
  number_for k w t = t

  -- a frame is pushed, and flow lands in it
  abbrev pub called : FrameKind → P → ThreadsOf P → Written → Reached P
  called k q ts w = or_breaks (frame_pushed k (depth_of w) ts.thread) Breaks (λ t.
      or_breaks (enter_for k w) Breaks (λ after. reach q (record ts { thread = number_for k w t }) after))

  -- ---- ends

  abbrev pub or_end : Option P → ThreadOf P → Written → Ending P → Ending P
  or_end (Some q) t w end = Continues (gone (Some q) t) w
  or_end None t w end = end

  abbrev pub thread_of : FrameOf P → List (FrameOf P) → Option P → ThreadOf P
  thread_of f fs o = record { frame = f; below = fs; previous = o }

  abbrev pub on_ending : Ending P → List (ThreadOf P) → (ThreadOf P → Written → Reached P) → Reached P
  on_ending (Continues t w) us end = Reaches (record { thread = t; below = us }) w
  on_ending (Finishes t w) us end = end t w
  on_ending (Collapses f) us end = Breaks f

-- after: what comes after each place
module _ {P : Type 0} (after : P → Option P) where
  -- off the end of a function its caller goes on after the call
  abbrev pub frames_on : FrameOf P → List (FrameOf P) → Option P → Written → Ending P
  frames_on f [] o w = or_end (option_and_then after f.place) (thread_of f [] o) w
      (if is_function f.kind then Collapses BadPop else Finishes (thread_of f [] o) w)
  frames_on f (g ∷ gs) o w = or_end (option_and_then after f.place) (thread_of f (g ∷ gs) o) w
      (if is_function f.kind then
      if nat_eq f.depth (depth_of w) then
      or_breaks (leave_for Function f.enter w) Collapses (λ v. or_breaks (void_for g.evaluating v) Collapses (λ u. frames_on g gs o u))
      else Collapses BadMode
      else Finishes (thread_of f (g ∷ gs) o) w)

  -- off the end of a thread the one below goes on after its place; the last one stops
  abbrev pub threads_on : ThreadOf P → List (ThreadOf P) → Written → Reached P
  threads_on t [] w = on_ending (frames_on t.frame t.below t.previous w) [] (λ u v. halt (record { thread = gone None u; below = [] }) v)
  threads_on t (u ∷ us) w = on_ending (frames_on t.frame t.below t.previous w) (u ∷ us) (λ ended v. threads_on u us v)

  abbrev pub moved_on : ThreadsOf P → Written → Reached P
  moved_on ts w = threads_on ts.thread ts.below w

  -- ---- returns, threads, `done`

  abbrev pub reach_or_on : Option P → ThreadsOf P → Written → Reached P
  reach_or_on None ts w = moved_on ts w
  reach_or_on (Some q) ts w = reach q ts w

  -- a frame of a kind is popped, and flow goes on after its call, or lands elsewhere
  abbrev pub returned : FrameKind → Option P → ThreadsOf P → Written → Reached P
  returned k to ts w = or_breaks (frame_popped k (depth_of w) ts.thread) Breaks (λ t.
      or_breaks (leave_for k ts.thread.frame.enter w) Breaks (λ left. reach_or_on to (record ts { thread = t }) left))

  abbrev pub doubled_in : Reached P → Reached P
  doubled_in (Reaches ts w) = or_breaks (doubled ts) Breaks (λ us. Reaches us w)
  doubled_in (Halts ts w) = Halts ts w
  doubled_in (Breaks f) = Breaks f

  -- `thread`: flow goes on, and then the top thread is there twice
  abbrev pub forked : ThreadsOf P → Written → Reached P
  forked ts w = doubled_in (moved_on ts w)

  abbrev pub done_by : Option (ThreadsOf P) → ThreadsOf P → Written → Reached P
  done_by None ts w = halt (on_top (put_in None) ts) w
  done_by (Some below) ts w = moved_on below w

  -- `done`: the top thread is dropped, and the one below goes on; in the last one flow stops where it is
  abbrev pub done : ThreadsOf P → Written → Reached P
  done ts w = done_by (dropped ts) ts w

abbrev pub is_last : {P : Type 0} → ThreadsOf P → Bool
is_last ts = not (is_some (dropped ts))
