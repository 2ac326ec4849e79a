-- The effects of calls, tunnels and returns (docs/FRAMES.md).
use Rattle.std.specs.Prelude.{List, Bool, Option, Some, None, option_map, Result, Ok, Err, ok_or}
use Rattle.ink_model.specs.Run.Effect.{Context, Fields, Effect, Landing, Calls, Returns, or_fault, popping}
use Rattle.ink_model.specs.Run.Step.Diverts.{landing_by, led_to, where_true}
use Rattle.ink_model.specs.Story.Tree.{StoryTree}
use Rattle.ink_model.specs.declared.content.Destination.{Destination}
use Rattle.ink_model.specs.declared.fault.Fault.{Fault}
use Rattle.ink_model.specs.declared.fault.Fault.TheVariants.{BadPop, BadTarget}
use Rattle.ink_model.specs.declared.frame.FrameKind.{FrameKind}
use Rattle.ink_model.specs.declared.frame.FrameKind.TheVariants.{Function, Tunnel}
use Rattle.ink_model.specs.declared.place.Part.{Part}
use Rattle.ink_model.specs.declared.value.Value.{Value}
use Rattle.ink_model.specs.declared.value.Value.TheVariants as value

-- a call or a tunnel leads as a divert does, in a frame of its own
abbrev pub call_to : FrameKind → StoryTree → List Part → Context → Destination → Fields → Effect
call_to k s p seen to f = or_fault (led_to s p seen to f.globals) (λ l. Calls k l f)

abbrev pub call : FrameKind → StoryTree → List Part → Context → Destination → Bool → Fields → Effect
call k s p seen to conditional f = where_true conditional f (call_to k s p seen to)

abbrev pub return_function : Fields → Effect
return_function f = Returns Function None f

-- Where a tunnel leads back to by what it gives: void is after its call, a target the very place that it names. `returned` of
-- Flow/Transfers.antt pops its frame and goes there.
abbrev pub return_landing : StoryTree → Value → Result (Option Landing) Fault
return_landing s value.Void = Ok None
return_landing s (value.Target path) = ok_or (option_map (λ l. Some l) (landing_by s (value.Target path))) BadTarget
return_landing s v = Err BadPop

abbrev pub return_tunnel : StoryTree → Fields → Effect
return_tunnel s f = popping f (λ v left. or_fault (return_landing s v) (λ to. Returns Tunnel to left))
