-- What frames are pushed for.
use Rattle.ink_model.specs.declared.frame.FrameKind.{FrameKind}
use Rattle.ink_model.specs.declared.frame.FrameKind.TheVariants.{Function, Tunnel}
use Rattle.ink_stack.specs.declared.frame.CallKind.{CallKind}
use Rattle.ink_stack.specs.declared.frame.CallKind.TheVariants as call

abbrev pub frame_kind : CallKind → FrameKind
frame_kind call.Function = Function
frame_kind call.Tunnel = Tunnel
