-- The configuration that a machine's parts are of.
use Rattle.ink_model.specs.Run.Configuration.{Configuration}
use Rattle.ink_model.specs.Story.Tree.{StoryTree}
use Rattle.ink_step.specs.Standing.{flow_of, shared_of}
use Rattle.ink_step.specs.declared.parts.Fields.{Fields}
use Rattle.ink_step.specs.declared.parts.Parts.{Parts}

abbrev pub config_of_fields : StoryTree → Fields → Configuration
config_of_fields s m = record { flow = flow_of s m.flow; shared = shared_of s m.shared; page = m.output.page }

-- the same of what is lent
abbrev pub config_of_parts : StoryTree → Parts → Configuration
config_of_parts s m = record { flow = flow_of s m.flow.now; shared = shared_of s m.shared.now; page = m.output.now.page }
