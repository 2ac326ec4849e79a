-- Names that several files of proofs here use.
pub use Rattle.ink_check.specs.Standing.{story_tree}
pub use Rattle.ink_commands.specs.States.{at_stamp}
pub use Rattle.ink_host.specs.Desk.{DeskView, watches, Resting}
pub use Rattle.ink_host.specs.Telling.{Watching, rests}
pub use Rattle.ink_host.specs.declared.objects.Called.{Called}
pub use Rattle.ink_look.specs.declared.passages.Extent.{Extent}
pub use Rattle.ink_model.specs.Host.Bindings.{Bindings, value_given}
pub use Rattle.ink_model.specs.Host.Told.{told}
pub use Rattle.ink_model.specs.Protocol.Answer.{Reply, Refuses, reply_of_events}
pub use Rattle.ink_model.specs.Protocol.Command.{Command, json_of, command_of}
pub use Rattle.ink_model.specs.Protocol.State.{Ready, State}
pub use Rattle.ink_model.specs.Run.Configuration.{Configuration}
pub use Rattle.ink_model.specs.Story.Tree.{StoryTree}
pub use Rattle.ink_model.specs.Variables.Store.{Values, store, stored}
pub use Rattle.ink_model.specs.declared.fault.Fault.{Fault}
pub use Rattle.ink_model.specs.declared.fault.Fault.TheVariants.{OutOfMemory}
pub use Rattle.ink_model.specs.declared.fault.Refusal.{Refusal}
pub use Rattle.ink_model.specs.declared.host.Change.{Change}
pub use Rattle.ink_model.specs.declared.host.Event.{Event}
pub use Rattle.ink_model.specs.declared.host.Given.{Given}
pub use Rattle.ink_model.specs.declared.limits.TheConstants.{MAX_STORY}
pub use Rattle.ink_player.specs.Loading.{TextReadsAsState}
pub use Rattle.ink_player.specs.Serving.{Answers}
pub use Rattle.ink_player.specs.Standing.{PlayerView, condition_by, desk_of, is_empty, state_of, story_of, Scene, bindings, scene_of, Stands, aside_seen}
pub use Rattle.ink_player.specs.declared.end.PlayFault.{PlayFault}
pub use Rattle.ink_protocol.specs.Buffered.{Buffered}
pub use Rattle.ink_protocol.specs.Ends.{after_call, is_read, is_write}
pub use Rattle.ink_protocol.specs.declared.fault.RunFault.{RunFault}
pub use Rattle.ink_sound.specs.Kept.{ConditionFits, StoryFits}
pub use Rattle.ink_step.specs.Standing.{globals_of, config_of, game_of}
pub use Rattle.ink_step.specs.declared.machine.Machine.{Machine}
pub use Rattle.serde_json.specs.Data.{null}
