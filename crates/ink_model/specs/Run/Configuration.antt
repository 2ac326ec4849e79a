-- A configuration: all that a saved game holds without the flows aside, and the text being written (docs/RUNNING.md, "Configurations").
use Rattle.std.specs.Prelude.{ℕ, List, [], map, Bool, true, false, Option, Some, None, is_some}
use Rattle.ink_model.specs.Flow.Frames.{ThreadOf, ThreadsOf, map_thread, map_threads, base_threads, gone, place_in, on_top, put_in, unnumbered_thread, unnumbered_threads}
use Rattle.ink_model.specs.Variables.Counts.{CountsOf, one_more}
pub use Rattle.ink_model.specs.Text.Page.{Page, Section, SectionKind, string_section, tag_section}
use Rattle.ink_model.specs.Run.Place.{start_place}
use Rattle.ink_model.specs.Story.Tree.{StoryTree}
use Rattle.ink_model.specs.Variables.Rows.{map_keys}
use Rattle.ink_model.specs.Variables.Store.{Values}
use Rattle.ink_model.specs.declared.place.Part.{Part}
use Rattle.ink_model.specs.declared.value.Value.{Value}

-- ---- over any kind of place

-- hidden: an invisible default
pub record ChoiceOf (P : Type 0) : Type 0 where
  pub text : List ℕ
  pub tags : List (List ℕ)
  pub target : P
  pub hidden : Bool
  pub thread : ThreadOf P

-- what a flow has of its own; the evaluation stack from the bottom
pub record FlowOf (P : Type 0) : Type 0 where
  pub threads : ThreadsOf P
  pub stack : List Value
  pub choices : List (ChoiceOf P)
  pub safe : Bool

-- what all flows share; globals in order of declaration, visits and turns by place (Variables/Counts.antt)
pub record SharedOf (P : Type 0) : Type 0 where
  pub globals : Values
  pub counts : CountsOf P
  pub turn : ℕ

pub record ConfigurationOf (P : Type 0) : Type 0 where
  pub flow : FlowOf P
  pub shared : SharedOf P
  pub page : Page

abbrev pub Configuration : Type 0
Configuration = ConfigurationOf (List Part)

-- ---- the same at other places

module _ {P Q : Type 0} (f : P → Q) where
  abbrev pub map_choice : ChoiceOf P → ChoiceOf Q
  map_choice c = record { text = c.text; tags = c.tags; target = f c.target; hidden = c.hidden; thread = map_thread f c.thread }

  abbrev pub map_flow : FlowOf P → FlowOf Q
  map_flow a = record { threads = map_threads f a.threads; stack = a.stack; choices = map map_choice a.choices; safe = a.safe }

  abbrev pub map_counts : CountsOf P → CountsOf Q
  map_counts a = record { visits = map_keys f a.visits; turns = map_keys f a.turns }

  abbrev pub map_shared : SharedOf P → SharedOf Q
  map_shared a = record { globals = a.globals; counts = map_counts a.counts; turn = a.turn }

  abbrev pub map_configuration : ConfigurationOf P → ConfigurationOf Q
  map_configuration c = record { flow = map_flow c.flow; shared = map_shared c.shared; page = c.page }

-- ---- parts of a configuration

module _ {P : Type 0} where
  abbrev pub current_place : ConfigurationOf P → Option P
  current_place c = place_in c.flow.threads

  -- flow has not stopped
  abbrev pub can_go_on : ConfigurationOf P → Bool
  can_go_on c = is_some (current_place c)

  abbrev pub with_threads : ThreadsOf P → ConfigurationOf P → ConfigurationOf P
  with_threads ts c = record c { flow = record c.flow { threads = ts } }

  -- the top frame at a place, or at none; the previous place stays
  abbrev pub put_at : Option P → ConfigurationOf P → ConfigurationOf P
  put_at p c = with_threads (on_top (put_in p) c.flow.threads) c

  -- flow moves from a place to another, or to none
  abbrev pub moved : P → Option P → ConfigurationOf P → ConfigurationOf P
  moved from to c = with_threads (on_top (gone to) (on_top (put_in (Some from)) c.flow.threads)) c

  abbrev pub with_safe : Bool → ConfigurationOf P → ConfigurationOf P
  with_safe b c = record c { flow = record c.flow { safe = b } }

  abbrev pub with_globals : Values → ConfigurationOf P → ConfigurationOf P
  with_globals vs c = record c { shared = record c.shared { globals = vs } }

  abbrev pub with_counts : CountsOf P → ConfigurationOf P → ConfigurationOf P
  with_counts counts c = record c { shared = record c.shared { counts = counts } }

  abbrev pub with_choices : List (ChoiceOf P) → ConfigurationOf P → ConfigurationOf P
  with_choices choices c = record c { flow = record c.flow { choices = choices } }

  -- another turn begins; the number of turns stays at its most
  abbrev pub next_turn : ConfigurationOf P → ConfigurationOf P
  next_turn c = record c { shared = record c.shared { turn = one_more c.shared.turn } }

  -- `end`: flow stops safely, and of threads and choices nothing is left
  abbrev pub ended : ConfigurationOf P → ConfigurationOf P
  ended c = record c { flow = record { threads = base_threads None; stack = c.flow.stack; choices = []; safe = true } }

  -- as a running command begins
  abbrev pub begun : ConfigurationOf P → ConfigurationOf P
  begun c = with_safe false c

  abbrev pub unnumbered_choice : ChoiceOf P → ChoiceOf P
  unnumbered_choice c = record c { thread = unnumbered_thread c.thread }

  abbrev pub unnumbered_flow : FlowOf P → FlowOf P
  unnumbered_flow f = record f { threads = unnumbered_threads f.threads; choices = map unnumbered_choice f.choices }

  -- as a running command ends: the text was taken, and no frame has the number of an Enter
  unfoldable pub settled : ConfigurationOf P → ConfigurationOf P
  settled c = record c { flow = unnumbered_flow c.flow; page = record { line = []; sections = []; next_enter = 0 } }

  -- a flow in which nothing has happened yet, at a place
  abbrev pub fresh_flow : P → FlowOf P
  fresh_flow p = record { threads = base_threads (Some p); stack = []; choices = []; safe = false }

  -- nothing has happened yet, and flow stands at a place
  unfoldable pub fresh_at : P → ConfigurationOf P
  fresh_at p = record {
    flow = fresh_flow p;
    shared = record { globals = []; counts = record { visits = []; turns = [] }; turn = 0 };
    page = record { line = []; sections = []; next_enter = 0 };
  }

-- the start of a story, with these globals
unfoldable pub start : StoryTree → Values → Configuration
start s globals = with_globals globals (fresh_at (start_place s))
