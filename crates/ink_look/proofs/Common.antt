-- Names that several files of proofs here use.
pub use Rattle.ink_check.specs.Standing.{story_tree}
pub use Rattle.ink_effects.specs.Refusals.{RunStopsAtRefusal}
pub use Rattle.ink_host.specs.Desk.{bound_by}
pub use Rattle.ink_host.specs.Telling.{log_of}
pub use Rattle.ink_look.specs.Said.{said_asks}
unfoldable pub use Rattle.ink_look.specs.Said.{said}
pub use Rattle.ink_look.specs.declared.looking.Looked.{Looked}
pub use Rattle.ink_look.specs.declared.said.Said.{Said}
pub use Rattle.ink_model.specs.Host.Bindings.{Bound}
pub use Rattle.ink_model.specs.Memory.Asks.{asks}
pub use Rattle.ink_model.specs.Run.Configuration.{Configuration}
unfoldable pub use Rattle.ink_model.specs.Run.Step.{step}
pub use Rattle.ink_model.specs.Story.Tree.{StoryTree}
pub use Rattle.ink_model.specs.declared.fault.Fault.{Fault}
pub use Rattle.ink_model.specs.declared.fault.Fault.TheVariants.{OutOfMemory}
pub use Rattle.ink_model.specs.declared.host.Event.{Event}
pub use Rattle.ink_model.specs.declared.host.Given.{Given}
pub use Rattle.ink_step.specs.Marks.{config_back}
pub use Rattle.ink_step.specs.Standing.{config_of}
