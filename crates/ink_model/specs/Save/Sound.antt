-- What is asked of a game that is saved or loaded (docs/SAVES.md). Each one that a session comes to has it.
use Rattle.std.specs.Prelude.{◌≡◌, ℕ, ◌≤◌, ℤ, pos, negsuc, List, [], ◌∷◌, length, Bool, true, false, not, ◌&&◌, IsTrue, Option, Some, None, is_some}
use Rattle.std.specs.List.{AllByRecursion as Each}
use Rattle.ink_model.specs.Flow.Bases.{BaseFirst}
use Rattle.ink_model.specs.Flow.Frames.{FrameOf, ThreadOf, ThreadsOf, place_in}
use Rattle.ink_model.specs.Flow.Threads.{frame_count, thread_count}
use Rattle.ink_model.specs.Run.Configuration.{ChoiceOf, Configuration, FlowOf, SharedOf, unnumbered_flow}
use Rattle.ink_model.specs.Run.Entered.{flags_at}
use Rattle.ink_model.specs.Run.Flows.{Aside, begins_with_default, holes, is_flow_name}
use Rattle.ink_model.specs.Story.Flags.{counts_visits, notes_turns}
use Rattle.ink_model.specs.Story.Leaves.{is_small}
use Rattle.ink_model.specs.Story.Path.{is_place, path_text, read_path, target}
use Rattle.ink_model.specs.Story.Tree.{StoryTree, at}
use Rattle.ink_model.specs.Text.Bytes.{fits_text}
use Rattle.ink_model.specs.Text.Page.{Page}
use Rattle.ink_model.specs.Variables.Counts.{CountsOf}
use Rattle.ink_model.specs.Variables.Named.{once}
use Rattle.ink_model.specs.Variables.Rows.{name_order, place_order, rows_rise}
use Rattle.ink_model.specs.Variables.Store.{Values, stored}
use Rattle.ink_model.specs.declared.limits.TheConstants.{MAX_CHOICES, MAX_COUNT, MAX_FLOWS, MAX_FRAMES, MAX_SECTIONS, MAX_STACK, MAX_THREADS}
use Rattle.ink_model.specs.declared.place.Part.{Part}
use Rattle.ink_model.specs.declared.place.Path.{Path}
use Rattle.ink_model.specs.declared.value.Value.{Value}
use Rattle.ink_model.specs.declared.value.Value.TheVariants as value

-- ---- values

-- a target is from the root, leads somewhere, and is read from its text
pub record PathFits (s : StoryTree) (path : Path) : Type 0 where
  pub absolute : path.relative ≡ false
  pub leads : is_some (target s [] path) ≡ true
  pub spelled : read_path (path_text path) ≡ Some path

-- the number of the globals or of a frame, of 32 bits
abbrev pub IsFrame : ℤ → Type 0
IsFrame (pos n) = IsTrue (is_small (pos n))
IsFrame (negsuc n) = ⊥

-- an integer has 32 bits, a text is within its limit
abbrev pub ValueFits : StoryTree → Value → Type 0
ValueFits s (value.Int z) = IsTrue (is_small z)
ValueFits s (value.Bool b) = Unit {0}
ValueFits s (value.Text t) = IsTrue (fits_text t)
ValueFits s (value.Target path) = PathFits s path
ValueFits s (value.Pointer frame name) = IsFrame frame
ValueFits s value.Void = Unit {0}
ValueFits s (value.Tag t) = IsTrue (fits_text t)

-- what a name has
abbrev pub RowFits : StoryTree → List ℕ × Value → Type 0
RowFits s r = ValueFits s r.1

pub record StackFits (s : StoryTree) (vs : List Value) : Type 0 where
  pub each : Each (ValueFits s) vs
  pub few : length vs ≤ MAX_STACK

-- no name stands twice
abbrev pub names_once : Values → Bool
names_once [] = true
names_once (e ∷ es) = not (is_some (stored e.0 es)) && names_once es

pub record GlobalsFit (s : StoryTree) (vs : Values) : Type 0 where
  pub once : IsTrue (names_once vs)
  pub each : Each (RowFits s) vs

-- ---- places

-- content of the story, or a container's end
abbrev pub PlaceFits : StoryTree → List Part → Type 0
PlaceFits s p = IsTrue (is_place s p)

-- a place of the story, or none
abbrev pub AnyPlace : StoryTree → Option (List Part) → Type 0
AnyPlace s None = Unit {0}
AnyPlace s (Some p) = PlaceFits s p

-- a place of the story
abbrev pub SomePlace : StoryTree → Option (List Part) → Type 0
SomePlace s None = ⊥
SomePlace s (Some p) = PlaceFits s p

-- ---- frames and threads

-- temporaries rise by name, and no more sections were open at the push than may be
pub record FrameHolds (s : StoryTree) (temps : List (List ℕ × Value)) (opened : ℕ) : Type 0 where
  pub rise : IsTrue (rows_rise name_order temps)
  pub each : Each (RowFits s) temps
  pub depth : opened ≤ MAX_SECTIONS

abbrev pub FrameFits : StoryTree → FrameOf (List Part) → Type 0
FrameFits s f = FrameHolds s f.temps f.depth

-- a frame that is at a place
abbrev pub FrameStands : StoryTree → FrameOf (List Part) → Type 0
FrameStands s f = FrameFits s f × SomePlace s f.place

-- the frames below the top one are at places
pub record ThreadFits (s : StoryTree) (t : ThreadOf (List Part)) : Type 0 where
  pub frame : FrameFits s t.frame
  pub below : Each (FrameStands s) t.below
  pub base : BaseFirst t.frame.kind t.below
  pub few : frame_count t ≤ MAX_FRAMES
  pub previous : AnyPlace s t.previous

-- a thread that is at a place
pub record ThreadStands (s : StoryTree) (t : ThreadOf (List Part)) : Type 0 where
  pub thread : ThreadFits s t
  pub place : SomePlace s t.frame.place

-- flow is at a place, or has stopped in one thread
abbrev pub FlowStands : StoryTree → Option (List Part) → List (ThreadOf (List Part)) → Type 0
FlowStands s (Some p) below = PlaceFits s p
FlowStands s None [] = Unit {0}
FlowStands s None (t ∷ ts) = ⊥

-- the threads below the top one are at places
pub record ThreadsFit (s : StoryTree) (ts : ThreadsOf (List Part)) : Type 0 where
  pub thread : ThreadFits s ts.thread
  pub below : Each (ThreadStands s) ts.below
  pub flow : FlowStands s (place_in ts) ts.below
  pub few : thread_count ts ≤ MAX_THREADS

-- ---- choices and counts

pub record ChoiceFits (s : StoryTree) (c : ChoiceOf (List Part)) : Type 0 where
  pub text : IsTrue (fits_text c.text)
  pub tags : Each (λ t. IsTrue (fits_text t)) c.tags
  pub target : PlaceFits s c.target
  pub thread : ThreadStands s c.thread

pub record ChoicesFit (s : StoryTree) (cs : List (ChoiceOf (List Part))) : Type 0 where
  pub each : Each (ChoiceFits s) cs
  pub few : length cs ≤ MAX_CHOICES

-- the container has the flag, and its count is not below the least nor above the most
pub record RowCounts (s : StoryTree) (flag : ℕ → Bool) (least : ℕ) (r : List Part × ℕ) : Type 0 where
  pub flagged : IsTrue (flag (flags_at (at s r.0)))
  pub least_is : least ≤ r.1
  pub most : r.1 ≤ MAX_COUNT

pub record RowsCount (s : StoryTree) (flag : ℕ → Bool) (least : ℕ) (rows : List (List Part × ℕ)) : Type 0 where
  pub rise : IsTrue (rows_rise place_order rows)
  pub each : Each (RowCounts s flag least) rows

pub record CountsFit (s : StoryTree) (c : CountsOf (List Part)) : Type 0 where
  pub visits : RowsCount s counts_visits 1 c.visits
  pub turns : RowsCount s notes_turns 0 c.turns

-- ---- configurations

-- what a flow has of its own
pub record FlowSound (s : StoryTree) (f : FlowOf (List Part)) : Type 0 where
  pub threads : ThreadsFit s f.threads
  pub stack : StackFits s f.stack
  pub choices : ChoicesFit s f.choices

-- what all flows share
pub record SharedSound (s : StoryTree) (sh : SharedOf (List Part)) : Type 0 where
  pub globals : GlobalsFit s sh.globals
  pub counts : CountsFit s sh.counts
  pub turn : sh.turn ≤ MAX_COUNT

pub record PageFits (page : Page) : Type 0 where
  pub few : length page.sections ≤ MAX_SECTIONS

pub record Sound (s : StoryTree) (c : Configuration) : Type 0 where
  pub flow : FlowSound s c.flow
  pub shared : SharedSound s c.shared
  pub page : PageFits c.page

-- ---- flows

-- a flow that stands aside is sound, and no frame of it has the number of an Enter
abbrev pub FlowStandsAside : StoryTree → Option (FlowOf (List Part)) → Type 0
FlowStandsAside s None = Unit {0}
FlowStandsAside s (Some f) = FlowSound s f × (unnumbered_flow f ≡ f)

-- a flow's name and parts
abbrev pub NamedFits : StoryTree → List ℕ × Option (FlowOf (List Part)) → Type 0
NamedFits s r = IsTrue (is_flow_name r.0) × FlowStandsAside s r.1

pub record AsideFits (s : StoryTree) (rows : Aside) : Type 0 where
  pub first : IsTrue (begins_with_default rows)
  pub names : IsTrue (once rows)
  pub current : holes rows ≡ 1
  pub few : length rows ≤ MAX_FLOWS
  pub each : Each (NamedFits s) rows
