-- What performing a content does, beside its effect.
use Rattle.std.specs.Prelude.{◌≡◌, ⊤, ℕ, List, length, map, Bool, true, false, Option, Some, None, is_some, option_map, Result, Ok, Err}
use Rattle.ink_model.specs.Run.Configuration.{ChoiceOf, map_choice, with_globals}
use Rattle.ink_model.specs.Run.Effect.{Fields, Effect, Landing as Goal, Moves, Stores, Offers, Lands, Calls, Returns, Forks, Done, Ends, Fails}
use Rattle.ink_model.specs.Flow.Frames.{FrameOf, ThreadOf, ThreadsOf, fresh_depth, map_threads, mode_in, on_top}
use Rattle.ink_model.specs.Memory.Refusals.{ByRule, LacksMemory}
use Rattle.ink_model.specs.Run.Move.{Outcome, Next, Stop}
use Rattle.ink_model.specs.Text.Page.{Page}
use Rattle.ink_model.specs.Variables.Store.{Values, store, stored}
use Rattle.ink_model.specs.Story.Tree.{StoryTree}
use Rattle.ink_model.specs.declared.fault.Fault.{Fault}
use Rattle.ink_model.specs.declared.frame.FrameKind.TheVariants.{Tunnel}
use Rattle.ink_model.specs.declared.value.Value.{Value}
use Rattle.ink_model.specs.declared.place.Part.{Part}
use Rattle.ink_effects.specs.declared.transfer.Landing.{Landing}
use Rattle.ink_effects.specs.declared.transfer.Transfer.{Transfer}
use Rattle.ink_effects.specs.declared.transfer.Transfer.TheVariants as transfer
use Rattle.ink_stack.specs.Calls.{frame_kind}
use Rattle.ink_stack.specs.declared.frame.CallKind.{CallKind}
use Rattle.ink_tree.specs.Nodes.{place_of}
use Rattle.ink_tree.specs.declared.spot.Spot.{Spot}
use Rattle.ink_vars.specs.Outcomes.{name_of}

-- where no text was written
abbrev pub fields : Bool → Option ℕ → List Value → Page → Values → Fields
fields evaluating fresh stack page globals =
    record { evaluating = evaluating; fresh = fresh; wrote = None; stack = stack; page = page; globals = globals }

-- the same of the top frame
abbrev pub fields_in : {P : Type 0} → FrameOf P → List Value → Page → Values → Fields
fields_in frame stack page globals = fields frame.evaluating (fresh_depth frame) stack page globals

-- a text was written in the open section
abbrev pub with_text : Fields → Fields
with_text f = record f { wrote = Some (length f.page.sections) }

-- a landing, at the place that its spot stands for
abbrev pub landing_of : StoryTree → Landing → Goal
landing_of s to = record { place = place_of s to.place; enters = to.enters }

-- where content leads, in the same way
abbrev pub led_as : StoryTree → Result Landing Fault → Result Goal Fault
led_as s (Ok to) = Ok (landing_of s to)
led_as s (Err f) = Err f

-- where a tunnel goes back to, in the same way
abbrev pub led_back_as : StoryTree → Result (Option Landing) Fault → Result (Option Goal) Fault
led_back_as s (Ok to) = Ok (option_map (landing_of s) to)
led_back_as s (Err f) = Err f

-- an effect, or its fault
abbrev pub effect_result : Effect → Result Effect Fault
effect_result (Fails g) = Err g
effect_result e = Ok e

-- Performing that leaves this transfer has the effect: it leaves the effect's fields, but for the end of freshness that a text
-- makes, and for a global that is stored last, which asks for memory where it is new. Temporaries are stored at once
-- (`stored_by`).
abbrev pub HasEffect : StoryTree → Bool → Fields → Effect → Transfer → Type 0
HasEffect s asks new (Moves f) transfer.Next = new ≡ f
HasEffect s asks new (Moves f) transfer.Wrote = f ≡ with_text new
HasEffect s asks new (Stores t f) transfer.Next = new ≡ f
HasEffect s asks new (Stores t f) (transfer.Store a) = (f ≡ record new { globals = store (name_of a.name) a.value new.globals }) × (is_some (stored (name_of a.name) new.globals) ≡ false → asks ≡ true)
HasEffect s asks new (Offers choices f) transfer.Next = new ≡ f
HasEffect s asks new (Lands l f) (transfer.Land to) = (l ≡ landing_of s to) × (new ≡ f)
HasEffect s asks new (Calls k l f) (transfer.Call kind to) = (k ≡ frame_kind kind) × (l ≡ landing_of s to) × (new ≡ f)
HasEffect s asks new (Returns k to f) (transfer.Return kind back) = (k ≡ kind) × (to ≡ option_map (landing_of s) back) × (new ≡ f)
HasEffect s asks new (Forks f) transfer.Fork = new ≡ f
HasEffect s asks new (Done f) transfer.Done = new ≡ f
HasEffect s asks new (Ends f) transfer.End = new ≡ f
HasEffect s asks new e t = ⊥

-- Performing has an effect, or is its fault. Where it asks for memory it may be OutOfMemory instead.
abbrev pub Performs : StoryTree → Bool → Effect → Fields → Result Transfer Fault → Type 0
Performs s asks e new result = ByRule (LacksMemory asks) (HasEffect s asks new) (λ why. why) (effect_result e) result

-- the thread that runs, with the temporaries of an effect
abbrev pub stored_by : Effect → ThreadOf (List Part) → ThreadOf (List Part)
stored_by (Stores t f) u = t
stored_by e u = u

-- an effect that stores something asks for memory
abbrev pub AsksToStore : Effect → Bool → Type 0
AsksToStore (Stores t f) asks = asks ≡ true
AsksToStore e asks = ⊤

-- An effect that stores a global, before that is done: the globals are still these.
abbrev pub unstored : Values → Effect → Effect
unstored globals (Stores t f) = Stores t (record f { globals = globals })
unstored globals e = e

-- with the globals that an effect stores
abbrev pub storing_in : Effect → Outcome → Outcome
storing_in (Stores t f) (Next c) = Next (with_globals f.globals c)
storing_in (Stores t f) (Stop c) = Stop (with_globals f.globals c)
storing_in e o = o

-- the choices, with those of an effect
abbrev pub offered_by : Effect → List (ChoiceOf (List Part)) → List (ChoiceOf (List Part))
offered_by (Offers choices f) old = choices
offered_by e old = old

-- Performing keeps the choices, but for those that an effect offers.
abbrev pub KeepsChoices : StoryTree → Effect → List (ChoiceOf Spot) → List (ChoiceOf Spot) → Type 0
KeepsChoices s e old new = map (map_choice (place_of s)) new ≡ offered_by e (map (map_choice (place_of s)) old)

-- Performing keeps the threads, but for the mode of the top frame, and for temporaries that an effect stores.
abbrev pub KeepsThreads : StoryTree → Effect → ThreadsOf Spot → ThreadsOf Spot → Type 0
KeepsThreads s e old new = map_threads (place_of s) new ≡ on_top (mode_in new.thread.frame.evaluating) (on_top (stored_by e) (map_threads (place_of s) old))

-- flow goes where a transfer says after what was done without a fault
abbrev pub leading : Result (Unit {0}) Fault → Transfer → Result Transfer Fault
leading (Ok u) to = Ok to
leading (Err f) to = Err f

-- it goes on
abbrev pub moving : Result (Unit {0}) Fault → Result Transfer Fault
moving outcome = leading outcome transfer.Next

-- it lands where a divert leads, or goes on
abbrev pub diverting : Result (Option Landing) Fault → Result Transfer Fault
diverting (Ok None) = Ok transfer.Next
diverting (Ok (Some to)) = Ok (transfer.Land to)
diverting (Err f) = Err f

-- or where a call leads, in a frame of its kind
abbrev pub calling : CallKind → Result (Option Landing) Fault → Result Transfer Fault
calling kind (Ok None) = Ok transfer.Next
calling kind (Ok (Some to)) = Ok (transfer.Call kind to)
calling kind (Err f) = Err f

-- it goes back to where a tunnel leads
abbrev pub returning : Result (Option Landing) Fault → Result Transfer Fault
returning (Ok to) = Ok (transfer.Return Tunnel to)
returning (Err f) = Err f

-- the same of what may have written a text
abbrev pub after_text : Result Bool Fault → Result Transfer Fault
after_text (Ok true) = Ok transfer.Wrote
after_text (Ok false) = Ok transfer.Next
after_text (Err f) = Err f

-- Performs, of a content after which flow goes on.
abbrev pub Changes : Bool → Effect → Fields → Result (Unit {0}) Fault → Type 0
Changes asks e new result = (s : StoryTree) → Performs s asks e new (moving result)

-- The same of one that tells whether it wrote a text.
abbrev pub PerformsText : Bool → Effect → Fields → Result Bool Fault → Type 0
PerformsText asks e new result = (s : StoryTree) → Performs s asks e new (after_text result)
