-- What holds of stories, effects and moments where configurations are sound: the parts of the proof that each step keeps them so.
use Rattle.std.specs.Prelude.{◌≡◌, ◌≢◌, ◌<◌, ◌≤◌, ◌^◌, List, length, IsTrue, Option, Some, None, Result, Ok, Err}
use Rattle.std.specs.List.{AllByRecursion as Each}
use Rattle.ink_model.specs.Text.Bytes.{fits_text}
use Rattle.ink_model.specs.Run.Configuration.{Configuration, FlowOf}
use Rattle.ink_model.specs.Run.Effect.{Context, Effect, Fields, Moves, Stores, Offers, Lands, Calls, Returns, Forks, Done, Ends, Fails}
use Rattle.ink_model.specs.Flow.Transfers.{Written, Reached, Reaches, Halts, Breaks, Ending, Continues, Finishes, Collapses}
use Rattle.ink_model.specs.Run.Flows.{Aside, begins_with_default, holes, is_flow_name}
use Rattle.ink_model.specs.Flow.Frames.{place_in}
use Rattle.ink_model.specs.Story.Leaves.{is_small}
use Rattle.ink_model.specs.Run.Move.{Outcome, Next, Stop, Faults, place_to}
use Rattle.ink_model.specs.Variables.Named.{once}
use Rattle.ink_model.specs.Run.Moments.{Moment, At, Stopped, Faulted, Waits}
use Rattle.ink_model.specs.Protocol.State.{State, Condition, Ready, Broken}
use Rattle.ink_model.specs.Run.Step.{Stepped, Comes, Wants}
use Rattle.ink_model.specs.Run.Step.Diverts.{path_of}
use Rattle.ink_model.specs.Run.Step.Host.{CallEffect, Acts, Suspends}
use Rattle.ink_model.specs.Story.Tree.{StoryTree, leaf, container, Trees, no_trees, tree, Keyed, no_keys, key, at, width}
use Rattle.ink_model.specs.declared.content.Leaf.{Leaf}
use Rattle.ink_model.specs.declared.content.Leaf.TheVariants as leaves
use Rattle.ink_model.specs.declared.fault.Fault.{Fault}
use Rattle.ink_model.specs.declared.frame.FrameKind.TheVariants.{Base}
use Rattle.ink_model.specs.declared.limits.TheConstants.{MAX_COUNT, MAX_FLOWS}
use Rattle.ink_model.specs.declared.place.Part.{Part}
use Rattle.ink_model.specs.declared.value.Value.TheVariants as value
use Rattle.ink_model.specs.Save.Reads.{Rests}
use Rattle.ink_model.specs.Save.Sound.{AnyPlace, AsideFits, ChoicesFit, CountsFit, FlowSound, GlobalsFit, PageFits, PlaceFits, Sound, SomePlace, StackFits, ThreadStands, ThreadsFit, ValueFits}

-- ---- stories

-- a text within its limit, an integer and a pointer's number of 32 bits, a target that leads somewhere
abbrev pub LeafFits : StoryTree → Leaf → Type 0
LeafFits s (leaves.Text t) = IsTrue (fits_text t)
LeafFits s (leaves.Tag t) = IsTrue (fits_text t)
LeafFits s (leaves.Int z) = IsTrue (is_small z)
LeafFits s (leaves.Pointer name frame) = IsTrue (is_small frame)
LeafFits s (leaves.Target text) = ValueFits s (value.Target (path_of text))
LeafFits s l = Unit {0}

-- what is asked of a story: an accepted one has it
pub record StoryFits (s : StoryTree) : Type 0 where
  pub leaf_fits : (p : List Part) (l : Leaf) → at s p ≡ Some (leaf l) → LeafFits s l
  pub narrow : (p : List Part) → width (at s p) < 2 ^ 32

-- ---- results

-- P of what a result gives
abbrev pub Gives : {A : Type 0} → (A → Type 0) → Result A Fault → Type 0
Gives P (Ok a) = P a
Gives P (Err f) = Unit {0}

abbrev pub Finds : {A : Type 0} → (A → Type 0) → Option A → Type 0
Finds P (Some a) = P a
Finds P None = Unit {0}

-- ---- effects

pub record FieldsFit (s : StoryTree) (f : Fields) : Type 0 where
  pub stack : StackFits s f.stack
  pub globals : GlobalsFit s f.globals
  pub page : PageFits f.page

pub record ContextFits (s : StoryTree) (seen : Context) : Type 0 where
  pub thread : ThreadStands s seen.thread
  pub choices : ChoicesFit s seen.choices
  pub counts : CountsFit s seen.counts
  pub turn : seen.turn ≤ MAX_COUNT

abbrev pub EffectFits : StoryTree → Effect → Type 0
EffectFits s (Moves f) = FieldsFit s f
EffectFits s (Stores t f) = ThreadStands s t × FieldsFit s f
EffectFits s (Offers choices f) = ChoicesFit s choices × FieldsFit s f
EffectFits s (Lands to f) = PlaceFits s to.place × FieldsFit s f
EffectFits s (Calls k to f) = (k ≢ Base) × PlaceFits s to.place × FieldsFit s f
EffectFits s (Returns k to f) = AnyPlace s (place_to to) × FieldsFit s f
EffectFits s (Forks f) = FieldsFit s f
EffectFits s (Done f) = FieldsFit s f
EffectFits s (Ends f) = FieldsFit s f
EffectFits s (Fails fault) = Unit {0}

-- what a call of an external function comes to
abbrev pub CallFits : StoryTree → CallEffect → Type 0
CallFits s (Acts e) = EffectFits s e
CallFits s (Suspends name arguments f) = FieldsFit s f

-- ---- flow

pub record WrittenFits (s : StoryTree) (w : Written) : Type 0 where
  pub stack : StackFits s w.stack
  pub page : PageFits w.page

abbrev pub ReachedFits : StoryTree → Reached (List Part) → Type 0
ReachedFits s (Reaches ts w) = ThreadsFit s ts × SomePlace s (place_in ts) × WrittenFits s w
ReachedFits s (Halts ts w) = ThreadsFit s ts × WrittenFits s w
ReachedFits s (Breaks f) = Unit {0}

abbrev pub EndingFits : StoryTree → Ending (List Part) → Type 0
EndingFits s (Continues t w) = ThreadStands s t × WrittenFits s w
EndingFits s (Finishes t w) = ThreadStands s t × WrittenFits s w
EndingFits s (Collapses f) = Unit {0}

-- ---- outcomes

-- flow is at a place
abbrev pub Runs : StoryTree → Configuration → Type 0
Runs s c = Sound s c × SomePlace s c.flow.threads.thread.frame.place

abbrev pub OutcomeFits : StoryTree → Outcome → Type 0
OutcomeFits s (Next c) = Runs s c
OutcomeFits s (Stop c) = Sound s c
OutcomeFits s (Faults f) = Unit {0}

abbrev pub SteppedFits : StoryTree → Stepped → Type 0
SteppedFits s (Comes outcome) = OutcomeFits s outcome
SteppedFits s (Wants name arguments f c) = FieldsFit s f × Runs s c

-- ---- runs

abbrev pub MomentFits : StoryTree → Moment → Type 0
MomentFits s (At c left made) = Sound s c
MomentFits s (Stopped c left made) = Sound s c
MomentFits s (Faulted f c left made) = Sound s c
MomentFits s (Waits name made) = Unit {0}

-- ---- between commands

-- of a state between commands
abbrev pub ConditionFits : StoryTree → Condition → Type 0
ConditionFits s (Ready c) = Sound s c × Rests c
ConditionFits s (Broken f globals) = Unit {0}

-- the flows that stand aside fit, also where a fault came
pub record StateFits (s : StoryTree) (st : State) : Type 0 where
  pub condition : ConditionFits s st.condition
  pub aside : AsideFits s st.aside

-- ---- games that are read

-- what a flow that stands aside has of its own, whatever numbers its frames have
abbrev pub PartsFit : StoryTree → Option (FlowOf (List Part)) → Type 0
PartsFit s None = Unit {0}
PartsFit s (Some f) = FlowSound s f

-- what is asked of the flows that were read, which are at rest
pub record AsideSound (s : StoryTree) (rows : Aside) : Type 0 where
  pub first : IsTrue (begins_with_default rows)
  pub names : IsTrue (once rows)
  pub current : holes rows ≡ 1
  pub few : length rows ≤ MAX_FLOWS
  pub each : Each (λ r. IsTrue (is_flow_name r.0) × PartsFit s r.1) rows

-- ---- stories that are read

-- a text within its limit, numbers of 32 bits
abbrev pub TextsFit : Leaf → Type 0
TextsFit (leaves.Text t) = IsTrue (fits_text t)
TextsFit (leaves.Tag t) = IsTrue (fits_text t)
TextsFit (leaves.Int z) = IsTrue (is_small z)
TextsFit (leaves.Pointer name frame) = IsTrue (is_small frame)
TextsFit l = Unit {0}

abbrev mutual
  pub TreeFits : StoryTree → Type 0
  TreeFits (leaf l) = TextsFit l
  TreeFits (container name flags content named) = TreesFit content × KeyedFit named

  pub TreesFit : Trees → Type 0
  TreesFit no_trees = Unit {0}
  TreesFit (tree t ts) = TreeFits t × TreesFit ts

  pub KeyedFit : Keyed → Type 0
  KeyedFit no_keys = Unit {0}
  KeyedFit (key k t ks) = TreeFits t × KeyedFit ks

-- P of what a result gives, whatever its errors are
abbrev pub Yields : {A E : Type 0} → (A → Type 0) → Result A E → Type 0
Yields P (Ok a) = P a
Yields P (Err e) = Unit {0}
