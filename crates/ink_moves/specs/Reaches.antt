-- How flow goes on, beside the definitions: its results, and where memory may be refused on the way.
use Rattle.std.specs.Prelude.{◌≡◌, Bool, true, false, Result, Ok, Err}
use Rattle.ink_model.specs.Flow.Transfers.{Written, Reached, Reaches, Halts, Breaks, depth_of, enter_for, leave_for, number_for, or_breaks, void_for}
use Rattle.ink_model.specs.Flow.Frames.{FrameOf, ThreadOf, ThreadsOf}
use Rattle.ink_model.specs.Memory.Moves.{has_end_room}
use Rattle.ink_model.specs.Memory.Refusals.{ByRule, LacksMemory}
use Rattle.ink_model.specs.Flow.Threads.{frame_popped}
use Rattle.ink_model.specs.declared.fault.Fault.{Fault}
use Rattle.ink_model.specs.declared.frame.FrameKind.{FrameKind}
use Rattle.ink_model.specs.declared.frame.FrameKind.TheVariants.{Function}
use Rattle.ink_out.specs.Writing.{Writing}
use Rattle.ink_moves.specs.declared.flow.StepEnd.{StepEnd}
use Rattle.ink_moves.specs.declared.flow.StepEnd.TheVariants as ends
use Rattle.ink_value.specs.Stack.{Stack}

-- what flow writes to
abbrev pub written : Stack → Writing → Written
written stack output = record { stack = stack.items; page = output.page }

-- flow went on
abbrev pub went : StepEnd → Bool
went ends.Went = true
went end = false

-- where flow is, or the fault that came
abbrev pub reached_result : {P : Type 0} → Reached P → Result (Reached P) Fault
reached_result (Breaks g) = Err g
reached_result r = Ok r

-- flow went on there, or stopped there
abbrev pub Arrives : {P : Type 0} → ThreadsOf P → Written → Reached P → StepEnd → Type 0
Arrives threads written (Reaches ts w) ends.Went = (threads ≡ ts) × (written ≡ w)
Arrives threads written (Halts ts w) ends.Stopped = (threads ≡ ts) × (written ≡ w)
Arrives threads written r end = ⊥

-- Flow went where the definition says. Where it asks for memory, it may have faulted with OutOfMemory instead.
abbrev pub ReachesAs : {P : Type 0} → Bool → Reached P → ThreadsOf P → Written → Result StepEnd Fault → Type 0
ReachesAs asks r threads written result = ByRule (LacksMemory asks) (Arrives threads written) (λ why. why) (reached_result r) result

-- ---- frames that are pushed and popped

-- The same of a call that changes threads, and what is written to, on the way.
abbrev pub PassesAs : {P : Type 0} → Bool → Result (ThreadsOf P × Written) Fault → ThreadsOf P → Written → Result (Unit {0}) Fault → Type 0
PassesAs asks rule threads written result = ByRule (LacksMemory asks) (λ r u. (threads ≡ r.0) × (written ≡ r.1)) (λ why. why) rule result

-- a frame that can be popped asks for memory where it is a function's, whose mark has room
abbrev pub left_asks : {P : Type 0} → FrameKind → Result (ThreadOf P) Fault → FrameOf P → Written → Bool
left_asks Function (Ok t) f w = has_end_room f w
left_asks k r f w = false

module _ {P : Type 0} where
  -- the frame that was pushed has its mark
  abbrev pub frame_entered : FrameKind → ThreadsOf P → Written → Result (ThreadsOf P × Written) Fault
  frame_entered k ts w = or_breaks (enter_for k w) Err (λ v. Ok (record ts { thread = number_for k w ts.thread }, v))

  -- a frame of a kind is popped, with its mark
  abbrev pub left : FrameKind → ThreadsOf P → Written → Result (ThreadsOf P × Written) Fault
  left k ts w = or_breaks (frame_popped k (depth_of w) ts.thread) Err (λ t.
      or_breaks (leave_for k ts.thread.frame.enter w) Err (λ v. Ok (record ts { thread = t }, v)))

  -- void for the caller, where it evaluates
  abbrev pub void_given : ThreadsOf P × Written → Result (ThreadsOf P × Written) Fault
  void_given r = or_breaks (void_for r.0.thread.frame.evaluating r.1) Err (λ v. Ok (r.0, v))

  -- off the end of a function
  abbrev pub off_function : ThreadsOf P → Written → Result (ThreadsOf P × Written) Fault
  off_function ts w = or_breaks (left Function ts w) Err void_given
