-- Names that several files of proofs here use.
pub use Rattle.ink_check.specs.Standing.{story_tree}
pub use Rattle.ink_choice.specs.Outcomes.{Takes}
pub use Rattle.ink_choice.specs.Undo.{choices_stood}
pub use Rattle.ink_effects.proofs.Bools.{or_first, or_more}
pub use Rattle.ink_effects.proofs.Refusals.{stops_kept, keeps_all}
pub use Rattle.ink_effects.specs.External.{call_of}
pub use Rattle.ink_effects.specs.Performs.{Performs, storing_in, unstored, AsksToStore}
pub use Rattle.ink_effects.specs.declared.transfer.Transfer.{Transfer}
pub use Rattle.ink_host.proofs.Laws.{grew-none}
pub use Rattle.ink_host.specs.Desk.{bound_by}
pub use Rattle.ink_host.specs.Telling.{log_of}
pub use Rattle.ink_model.specs.Choices.Choosing.{following, default_asks, default_choice, stopped_by, following_asks}
pub use Rattle.ink_model.specs.Flow.Frames.{ThreadOf, map_threads}
pub use Rattle.ink_model.specs.Flow.Threads.{frame_count}
pub use Rattle.ink_model.specs.Flow.Transfers.{moved_on}
pub use Rattle.ink_model.specs.Host.Bindings.{Bound}
pub use Rattle.ink_model.specs.Memory.Asks.{acting_asks, content_asks}
unfoldable pub use Rattle.ink_model.specs.Memory.Asks.{asks}
pub use Rattle.ink_model.specs.Memory.Moves.{move_asks, landed_asks}
pub use Rattle.ink_model.specs.Memory.Refusals.{LacksMemory}
pub use Rattle.ink_model.specs.Run.Configuration.{Configuration, map_choice, ChoiceOf, can_go_on, current_place}
pub use Rattle.ink_model.specs.Run.Effect.{Effect, context_of, fields_of, Fields}
pub use Rattle.ink_model.specs.Run.Entered.{entered_places}
pub use Rattle.ink_model.specs.Run.Move.{Next, Outcome, going, move, written_in, Stop, Faults, landing_outcome, reached_in}
pub use Rattle.ink_model.specs.Run.Place.{next_place}
unfoldable pub use Rattle.ink_model.specs.Run.Place.{content_place}
pub use Rattle.ink_model.specs.Run.Step.{acted, Stepped, Comes, Wants, effect, step_at, gone_in, performed}
unfoldable pub use Rattle.ink_model.specs.Run.Step.{step}
pub use Rattle.ink_model.specs.Run.Step.Host.{Call, call_at}
pub use Rattle.ink_model.specs.Run.Visits.{all_visited, entering_around, adds_rows, around}
pub use Rattle.ink_model.specs.Story.Tree.{StoryTree, leaf, container, at}
pub use Rattle.ink_model.specs.Values.Stack.{popped}
pub use Rattle.ink_model.specs.Variables.Counts.{CountsOf}
pub use Rattle.ink_model.specs.Variables.Store.{Values, stored}
pub use Rattle.ink_model.specs.declared.content.Leaf.{Leaf}
pub use Rattle.ink_model.specs.declared.fault.Fault.{Fault}
pub use Rattle.ink_model.specs.declared.fault.Fault.TheVariants.{OutOfMemory}
pub use Rattle.ink_model.specs.declared.host.Event.{Event}
pub use Rattle.ink_model.specs.declared.host.Given.{Given}
pub use Rattle.ink_model.specs.declared.limits.TheConstants.{MAX_STEPS}
pub use Rattle.ink_model.specs.declared.place.Part.{Part}
pub use Rattle.ink_model.specs.declared.value.Value.{Value}
pub use Rattle.ink_moves.specs.Reaches.{ReachesAs}
pub use Rattle.ink_moves.specs.declared.flow.StepEnd.{StepEnd}
pub use Rattle.ink_stack.specs.Undo.{threads_stood, threads_spare}
pub use Rattle.ink_step.specs.Marks.{takes_there, Stood, stood_of, keeps_mark, landing_lacks, presses}
unfoldable pub use Rattle.ink_step.specs.Marks.{takes_first, pressed}
pub use Rattle.ink_step.specs.Standing.{counts_in, config_of, aside_in, start_of}
pub use Rattle.ink_step.specs.Steps.{StepEnds, EndsPlainly, StepMakes, step_end}
pub use Rattle.ink_step.specs.declared.machine.Machine.{Machine}
pub use Rattle.ink_tree.specs.Kept.{leaf_in}
pub use Rattle.ink_tree.specs.Nodes.{place_of}
pub use Rattle.ink_tree.specs.declared.spot.Spot.{Spot}
pub use Rattle.ink_value.specs.Undo.{stack_stood}
pub use Rattle.ink_vars.specs.Undo.{counts_stood, globals_stood, counts_spare}
