-- Names that several files of proofs here use.
pub use Rattle.std.proofs.KnownBytes.{Appends-trans}
pub use Rattle.std.proofs.lemmas.Result.{err_from_is_err_and}
pub use Rattle.std.specs.Io.KnownBytes.{Appends}
pub use Rattle.ink_host.specs.Telling.{Watching}
pub use Rattle.ink_host.specs.declared.objects.Called.{Called}
pub use Rattle.ink_model.specs.Host.Bindings.{Bindings}
pub use Rattle.ink_model.specs.Protocol.Answer.{Reply, Refuses, Tells, reply_of_halt, Saves}
pub use Rattle.ink_model.specs.Protocol.State.{State}
pub use Rattle.ink_model.specs.Story.Tree.{StoryTree}
pub use Rattle.ink_model.specs.declared.fault.Halt.{Halt}
pub use Rattle.ink_model.specs.declared.passage.Shown.{Shown}
pub use Rattle.ink_page.specs.Showing.{said}
pub use Rattle.ink_page.specs.Typed.{asked_by}
pub use Rattle.ink_page.specs.declared.page.Look.{Look}
pub use Rattle.ink_player.proofs.Tellings.{if-ok}
pub use Rattle.ink_player.specs.Standing.{state_of, story_of}
pub use Rattle.ink_reader.specs.Course.{saving_told, unsaved_told, places_of, SavesItself}
pub use Rattle.ink_reader.specs.Deeds.{Deed, Fetches, Gives, Says, Asks, Keeps}
pub use Rattle.ink_reader.specs.Notices.{Refused}
pub use Rattle.ink_reader.specs.Steps.{break_told, stop_told}
pub use Rattle.ink_reader.specs.declared.shelf.NotKept.{NotKept}
pub use Rattle.ink_reader.specs.declared.telling.Told.{Told}
pub use Rattle.serde_json.specs.Data.{Data}
pub use Rattle.serde_json.specs.View.{view}
