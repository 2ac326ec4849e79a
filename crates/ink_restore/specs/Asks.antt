-- Where memory is asked for to make again what a save spells: once the first part that is kept fits.
use Rattle.std.specs.Prelude.{◌≡◌, ℕ, ◌≤◌, List, IsTrue, true}
use Rattle.ink_model.specs.Run.Configuration.{FlowOf, SharedOf}
use Rattle.ink_model.specs.Variables.Counts.{CountsOf}
use Rattle.ink_model.specs.Story.Flags.{counts_visits, notes_turns}
use Rattle.ink_model.specs.Run.Flows.{is_flow_name}
use Rattle.ink_model.specs.Variables.Named.{Rows}
use Rattle.ink_model.specs.Save.Sound.{RowCounts, RowFits, ValueFits}
use Rattle.ink_model.specs.Save.Unspelled.{Layout}
use Rattle.ink_model.specs.Save.Unspelled as spelled
use Rattle.ink_model.specs.Story.Tree.{StoryTree}
use Rattle.ink_model.specs.declared.limits.TheConstants.{MAX_COUNT}
use Rattle.ink_model.specs.declared.place.Part.{Part}
use Rattle.ink_restore.specs.Building.{ChoiceAsks, ListAsks, ThreadsAsk}
use Rattle.ink_restore.specs.Gathered.{may_be_all}

-- for counts: the first visits are a container's; where there are none, the first turn is
abbrev pub CountsAsk : StoryTree → CountsOf (List Part) → Type 0
CountsAsk s c = ListAsks (RowCounts s counts_visits 1) c.visits (ListAsks (RowCounts s notes_turns 0) c.turns ⊥)

-- for what flows share: the turn is within its limit, and the first global fits; where there are none, the counts ask
abbrev pub SharedAsks : StoryTree → SharedOf (List Part) → Type 0
SharedAsks s sh = (sh.turn ≤ MAX_COUNT) × ListAsks (RowFits s) sh.globals (CountsAsk s sh.counts)

-- for a flow: the first value on its stack fits; where there is none, its first choice asks; where there is none, its threads do
abbrev pub FlowAsks : StoryTree → FlowOf (List Part) → Type 0
FlowAsks s f = ListAsks (ValueFits s) f.stack (ListAsks (ChoiceAsks s) f.choices (ThreadsAsk s f.threads))

-- for a flow by its name: it may have it, and asks
abbrev pub NamedAsks : StoryTree → List ℕ × FlowOf (List Part) → Type 0
NamedAsks s r = IsTrue (is_flow_name r.0) × FlowAsks s r.1

-- for flows: the first one asks
abbrev pub FlowsAsk : StoryTree → Rows (FlowOf (List Part)) → Type 0
FlowsAsk s flows = ListAsks (NamedAsks s) flows ⊥

-- for a save: its one flow asks, or its flows may be all, and the first one asks
abbrev pub LayoutAsks : StoryTree → Layout → Type 0
LayoutAsks s (spelled.First c) = FlowAsks s c.flow
LayoutAsks s (spelled.Second x) = (may_be_all x.flows ≡ true) × FlowsAsk s x.flows
