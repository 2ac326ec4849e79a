-- Names that several files of proofs here use.
pub use Rattle.ink_check.specs.Standing.{story_tree}
pub use Rattle.ink_effects.specs.Asked.{Answers, visits_in}
pub use Rattle.ink_effects.specs.Performs.{Changes, Performs, fields, landing_of, moving, leading}
pub use Rattle.ink_effects.specs.Standing.{counts_in, Rest, seen_by}
pub use Rattle.ink_effects.specs.declared.transfer.Landing.{Landing}
pub use Rattle.ink_effects.specs.declared.transfer.Transfer.{Transfer}
pub use Rattle.ink_host.proofs.Laws.{grew-none}
pub use Rattle.ink_host.specs.Telling.{log_of}
pub use Rattle.ink_model.specs.Flow.Frames.{ThreadsOf}
pub use Rattle.ink_model.specs.Memory.Asks.{has_room}
pub use Rattle.ink_model.specs.Memory.Refusals.{Leaves, given_asks}
pub use Rattle.ink_model.specs.Run.Configuration.{ChoiceOf}
pub use Rattle.ink_model.specs.Run.Effect.{Effect, Fields, Moves, or_fault, pushing, Fails, Stores}
pub use Rattle.ink_model.specs.Run.Step.Diverts.{landing_by, led_by, led_to}
pub use Rattle.ink_model.specs.Run.Step.Host.{has_string}
pub use Rattle.ink_model.specs.Run.Visits.{adds_rows}
pub use Rattle.ink_model.specs.Story.Tree.{StoryTree, at, leaf}
pub use Rattle.ink_model.specs.Text.Page.{Page}
pub use Rattle.ink_model.specs.Values.Stack.{popped, pushed}
pub use Rattle.ink_model.specs.Variables.Access.{read}
pub use Rattle.ink_model.specs.Variables.Store.{Values}
pub use Rattle.ink_model.specs.declared.content.Leaf.{Leaf}
pub use Rattle.ink_model.specs.declared.fault.Fault.{Fault}
pub use Rattle.ink_model.specs.declared.fault.Fault.TheVariants.{BadTarget, OutOfMemory, TooDeep}
pub use Rattle.ink_model.specs.declared.host.Given.{Given}
pub use Rattle.ink_model.specs.declared.limits.TheConstants.{MAX_STACK}
pub use Rattle.ink_model.specs.declared.place.Part.{Part}
pub use Rattle.ink_model.specs.declared.value.Value.{Value}
pub use Rattle.ink_stack.specs.Calls.{frame_kind}
pub use Rattle.ink_tree.specs.Nodes.{place_of, node_place}
pub use Rattle.ink_tree.specs.Walks.{still_entered}
pub use Rattle.ink_tree.specs.declared.spot.Spot.{Spot}
unfoldable pub use Rattle.ink_value.specs.Undo.{stack_stood}
pub use Rattle.ink_vars.proofs.Either.{on_err}
unfoldable pub use Rattle.ink_vars.specs.Undo.{counts_spare, counts_stood}
