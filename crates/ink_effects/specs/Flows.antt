-- What a content sees and changes of a flow.
use Rattle.std.specs.Prelude.{◌≡◌, Bool, ◌&&◌, ◌||◌, is_some}
use Rattle.ink_choice.specs.Undo.{choices_stood}
use Rattle.ink_flows.specs.declared.flow.Flow.{Flow}
use Rattle.ink_model.specs.Memory.Refusals.{leaf_asks}
use Rattle.ink_model.specs.Run.Effect.{Context, Effect, Fields}
use Rattle.ink_model.specs.Run.Step.{leaf_effect}
use Rattle.ink_model.specs.Story.Tree.{StoryTree}
use Rattle.ink_model.specs.Text.Page.{Page}
use Rattle.ink_model.specs.Variables.Store.{Values}
use Rattle.ink_model.specs.declared.content.Leaf.{Leaf}
use Rattle.ink_effects.specs.Marks.{takes_value}
use Rattle.ink_effects.specs.Performs.{fields_in}
use Rattle.ink_effects.specs.Standing.{rest_in, seen_by}
use Rattle.ink_effects.specs.declared.shared.Shared.{Shared}
use Rattle.ink_stack.specs.Undo.{threads_stood}
use Rattle.ink_tree.specs.Nodes.{place_of}
use Rattle.ink_tree.specs.declared.spot.Spot.{Spot}
use Rattle.ink_value.specs.Undo.{stack_stood}

-- what a content may look at and not change
abbrev pub seen_in : StoryTree → Flow → Shared → Context
seen_in s flow shared = seen_by s flow.threads.threads (rest_in flow.choices.items shared)

-- the fields of a flow's top frame and of its stack, with those beside them
abbrev pub fields_of_flow : Flow → Page → Values → Fields
fields_of_flow flow page globals = fields_in flow.threads.threads.thread.frame flow.stack.items page globals

-- the effect of a content at a place of a flow
abbrev pub leaf_effect_in : StoryTree → Spot → Leaf → Flow → Page → Shared → Effect
leaf_effect_in s here content flow page shared = leaf_effect s (place_of s here) (seen_in s flow shared) content (fields_of_flow flow page shared.globals.rows)

-- it asks for memory there, or the mark of the stack makes it ask
abbrev pub leaf_asks_in : StoryTree → Spot → Leaf → Flow → Page → Shared → Bool
leaf_asks_in s here content flow page shared =
    (takes_value content && is_some (stack_stood flow.stack)) || leaf_asks s (place_of s here) (seen_in s flow shared) content (fields_of_flow flow page shared.globals.rows)

-- Each part of a flow keeps what stood at its mark.
abbrev pub KeepsMarks : Flow → Flow → Type 0
KeepsMarks old new =
    (threads_stood new.threads ≡ threads_stood old.threads) × (stack_stood new.stack ≡ stack_stood old.stack) × (choices_stood new.choices ≡ choices_stood old.choices)
