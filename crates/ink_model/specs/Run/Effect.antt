-- What a content does: to the fields that it touches, and how flow goes from there (docs/RUNNING.md, "Steps").
use Rattle.std.specs.Prelude.{ℕ, List, length, Bool, true, false, nat_eq, Option, Some, None, Result, Ok, Err}
use Rattle.ink_model.specs.Flow.Frames.{ThreadOf, fresh_depth, mode_in, on_top}
use Rattle.ink_model.specs.Flow.Threads.{staled}
use Rattle.ink_model.specs.Run.Configuration.{ChoiceOf, Configuration, ConfigurationOf, with_globals, with_threads}
use Rattle.ink_model.specs.Text.Page.{Page}
use Rattle.ink_model.specs.Values.Stack.{popped, pushed}
use Rattle.ink_model.specs.Variables.Counts.{CountsOf}
use Rattle.ink_model.specs.Variables.Store.{Values}
use Rattle.ink_model.specs.declared.fault.Fault.{Fault}
use Rattle.ink_model.specs.declared.fault.Fault.TheVariants.{StackEmpty}
use Rattle.ink_model.specs.declared.frame.FrameKind.{FrameKind}
use Rattle.ink_model.specs.declared.place.Part.{Part}
use Rattle.ink_model.specs.declared.value.Value.{Value}

-- What content may look at and change: the top frame's mode and freshness, the stack, the page and the globals. fresh: the
-- section in which the top frame is a fresh function; wrote: the section in which a Text was written, which ends freshness.
pub record Fields : Type 0 where
  pub evaluating : Bool
  pub fresh : Option ℕ
  pub wrote : Option ℕ
  pub stack : List Value
  pub page : Page
  pub globals : Values

-- What content may look at beside these, and not change: the thread that runs, for its temporaries and for a choice's copy;
-- the choices that were made; visits and turns, and the number of the turn.
pub record Context : Type 0 where
  pub thread : ThreadOf (List Part)
  pub choices : List (ChoiceOf (List Part))
  pub counts : CountsOf (List Part)
  pub turn : ℕ

abbrev pub context_of : Configuration → Context
context_of c = record { thread = c.flow.threads.thread; choices = c.flow.choices; counts = c.shared.counts; turn = c.shared.turn }

module _ {P : Type 0} where
  abbrev pub fields_of : ConfigurationOf P → Fields
  fields_of c = record {
    evaluating = c.flow.threads.thread.frame.evaluating;
    fresh = fresh_depth c.flow.threads.thread.frame;
    wrote = None;
    stack = c.flow.stack;
    page = c.page;
    globals = c.shared.globals;
  }

  abbrev pub with_stack : List Value → ConfigurationOf P → ConfigurationOf P
  with_stack vs c = record c { flow = record c.flow { stack = vs } }

  abbrev pub with_mode : Bool → ConfigurationOf P → ConfigurationOf P
  with_mode b c = with_threads (on_top (mode_in b) c.flow.threads) c

  abbrev pub with_page : Page → ConfigurationOf P → ConfigurationOf P
  with_page page c = record c { page = page }

  abbrev pub with_thread : ThreadOf P → ConfigurationOf P → ConfigurationOf P
  with_thread t c = with_threads (on_top (λ u. t) c.flow.threads) c

  abbrev pub with_staleness : Option ℕ → ConfigurationOf P → ConfigurationOf P
  with_staleness None c = c
  with_staleness (Some depth) c = with_threads (on_top (staled depth) c.flow.threads) c

  abbrev pub with_fields : Fields → ConfigurationOf P → ConfigurationOf P
  with_fields f c = with_page f.page (with_globals f.globals (with_stack f.stack (with_staleness f.wrote (with_mode f.evaluating c))))

-- the top frame is a function that is fresh in the open section
abbrev pub is_fresh_at : Option ℕ → ℕ → Bool
is_fresh_at None n = false
is_fresh_at (Some depth) n = nat_eq depth n

abbrev pub is_fresh : Fields → Bool
is_fresh f = is_fresh_at f.fresh (length f.page.sections)

-- where flow lands; enters: whether that enters containers around the place
pub record Landing : Type 0 where
  pub place : List Part
  pub enters : Bool

-- Flow moves on after its place, or does that with these variables in its thread, or with these choices; it lands at another place, or lands there in
-- a frame of its own; it comes back from such a frame, to after its call or to a place; it goes on in two threads; it is done
-- with its thread, or ends; or a fault comes.
pub data Effect : Type 0 where
  Moves : (after : Fields) → Effect
  Stores : (thread : ThreadOf (List Part)) → (after : Fields) → Effect
  Offers : (choices : List (ChoiceOf (List Part))) → (after : Fields) → Effect
  Lands : (to : Landing) → (after : Fields) → Effect
  Calls : (kind : FrameKind) → (to : Landing) → (after : Fields) → Effect
  Returns : (kind : FrameKind) → (to : Option Landing) → (after : Fields) → Effect
  Forks : (after : Fields) → Effect
  Done : (after : Fields) → Effect
  Ends : (after : Fields) → Effect
  Fails : (fault : Fault) → Effect

-- ---- parts of effects

-- what comes of a result, or its fault
abbrev pub or_fault : {A : Type 0} → Result A Fault → (A → Effect) → Effect
or_fault (Ok a) so = so a
or_fault (Err f) so = Fails f

-- the same of what was found, where nothing is a fault
abbrev pub or_else : {A : Type 0} → Fault → Option A → (A → Effect) → Effect
or_else f None so = Fails f
or_else f (Some a) so = so a

abbrev pub popping : Fields → (Value → Fields → Effect) → Effect
popping f so = or_else StackEmpty (popped f.stack) (λ r. so r.0 (record f { stack = r.1 }))

abbrev pub pushing : Value → Fields → Effect
pushing v f = or_fault (pushed v f.stack) (λ vs. Moves (record f { stack = vs }))

-- the page as it is after a call that writes
abbrev pub writing : Result Page Fault → Fields → Effect
writing r f = or_fault r (λ page. Moves (record f { page = page }))

-- the section in which a Text was written, if any was
abbrev pub wrote_in : Bool → Page → Option ℕ
wrote_in true page = Some (length page.sections)
wrote_in false page = None

-- the same of a call that writes a text or a value
abbrev pub writing_text : Bool → Result Page Fault → Fields → Effect
writing_text has_text r f = or_fault r (λ page. Moves (record f { page = page; wrote = wrote_in has_text page }))
