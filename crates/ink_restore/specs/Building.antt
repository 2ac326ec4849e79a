-- What is made of what a save spells.
use Rattle.std.specs.Prelude.{◌≡◌, ◌≤◌, ◌⊎◌, List, [], ◌∷◌, Bool, true, false, Option, Some, None, is_some, IsTrue}
use Rattle.ink_model.specs.Text.Bytes.{fits_text}
use Rattle.ink_model.specs.Run.Configuration.{ChoiceOf}
use Rattle.ink_model.specs.Flow.Frames.{FrameOf, ThreadOf, ThreadsOf}
use Rattle.ink_model.specs.Story.Tree.{StoryTree}
use Rattle.ink_model.specs.declared.limits.TheConstants.{MAX_SECTIONS}
use Rattle.ink_model.specs.declared.place.Part.{Part}
use Rattle.ink_model.specs.Save.Sound.{AnyPlace, FrameFits, PlaceFits, RowFits, ThreadFits}
use Rattle.ink_tree.specs.declared.spot.Spot.{Spot}

-- what is made stands for it in the story, and it fits; where nothing is made it does not
abbrev pub Builds : {A B : Type 0} → (A → B) → (B → Type 0) → B → Option A → Type 0
Builds in_story fits b None = fits b → ⊥
Builds in_story fits b (Some a) = (in_story a ≡ b) × fits b

-- a frame at a place of the story, or at none
abbrev pub FrameBuilds : StoryTree → FrameOf (List Part) → Type 0
FrameBuilds s f = FrameFits s f × AnyPlace s f.place

-- a thread whose top frame is at one, or at none
abbrev pub ThreadBuilds : StoryTree → ThreadOf (List Part) → Type 0
ThreadBuilds s t = ThreadFits s t × AnyPlace s t.frame.place

-- memory is asked for, for a list: its first element fits, or asks for some
abbrev pub FirstAsks : {B : Type 0} → (B → Type 0) → (B → Type 0) → List B → Type 0
FirstAsks fits asks [] = ⊥
FirstAsks fits asks (b ∷ bs) = fits b ⊎ asks b

-- for a frame: there are few sections, its place is one of the story, or none, and its first temporary fits
abbrev pub FrameAsks : StoryTree → FrameOf (List Part) → Type 0
FrameAsks s f = (f.depth ≤ MAX_SECTIONS) × AnyPlace s f.place × FirstAsks (RowFits s) (RowFits s) f.temps

-- of a top one and those below it, the nearest first, the bottom one
abbrev pub bottom : {B : Type 0} → B → List B → B
bottom b [] = b
bottom b (c ∷ cs) = bottom c cs

-- for a thread: its previous place is one of the story, or none, and its bottom frame fits, or asks
abbrev pub ThreadAsks : StoryTree → ThreadOf (List Part) → Type 0
ThreadAsks s t = AnyPlace s t.previous × (FrameBuilds s (bottom t.frame t.below) ⊎ FrameAsks s (bottom t.frame t.below))

-- for threads: the bottom one asks
abbrev pub ThreadsAsk : StoryTree → ThreadsOf (List Part) → Type 0
ThreadsAsk s ts = ThreadAsks s (bottom ts.thread ts.below)

-- for a list and what comes after it: its first element asks; where it has none, what comes after it does
abbrev pub ListAsks : {B : Type 0} → (B → Type 0) → List B → Type 0 → Type 0
ListAsks asks [] later = later
ListAsks asks (b ∷ bs) later = asks b

-- for a choice: its text is within the limit, its target is a place of the story, and its first tag is within the limit; where it
-- has none, its thread asks
abbrev pub ChoiceAsks : StoryTree → ChoiceOf (List Part) → Type 0
ChoiceAsks s c = IsTrue (fits_text c.text) × PlaceFits s c.target × ListAsks (λ t. IsTrue (fits_text t)) c.tags (ThreadAsks s c.thread)

-- a thread is at a place
abbrev pub placed : ThreadOf Spot → Bool
placed t = is_some t.frame.place

-- flow is at a place, or has stopped in one thread
abbrev pub flows : Option Spot → List (ThreadOf Spot) → Bool
flows (Some p) below = true
flows None [] = true
flows None (t ∷ ts) = false
