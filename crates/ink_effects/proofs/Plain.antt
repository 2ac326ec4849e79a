-- Effects that store nothing and offer nothing: those of control content, and of calls.
use Rattle.std.proofs.Common.{◌≡◌, ap, refl, ℕ, ℤ, List, Bool, true, false, if◌then◌else◌, Option, Some, None, OnOk, Result, Ok, Err, reverse}
use Rattle.ink_model.specs.Story.Acceptance.{lands, leads}
use Rattle.ink_model.specs.Choices.Making.{added, make}
use Rattle.ink_effects.proofs.Common.{ChoiceOf, Values, StoryTree, read, Leaf, Fault, Part, Value, place_of, Spot}
use Rattle.ink_model.specs.Run.Effect.{Context, Fields, Effect, Stores, Offers, or_else, or_fault, pushing, writing, writing_text}
use Rattle.ink_model.specs.Flow.Frames.{ThreadOf, ThreadsOf, map_threads, mode_in, on_top}
use Rattle.ink_model.specs.Text.Output.{closes_string, opens, writes_tag}
use Rattle.ink_model.specs.Text.Page.{Page, tag_section}
use Rattle.ink_model.specs.Story.Path.{above}
use Rattle.ink_model.specs.Values.Stack.{applied, popped, pushed}
use Rattle.ink_model.specs.Run.Step.{control_effect, leaf_effect}
use Rattle.ink_model.specs.Run.Step.Calls.{call, return_landing}
use Rattle.ink_model.specs.Run.Step.Choices.{offer, offering, was_visited}
use Rattle.ink_model.specs.Run.Step.Counts.{asking, pushing_count, turns_there, visits_there}
use Rattle.ink_model.specs.Run.Step.Diverts.{condition, landing_by, led_to, where_true}
use Rattle.ink_model.specs.Run.Step.Evaluation.{output_popped, push_value}
use Rattle.ink_model.specs.Run.Step.Text.{closed_tag, in_tag, keeps_tag, write_tag}
use Rattle.ink_model.specs.Run.Step.Variables.{assign, declare, storing}
use Rattle.ink_model.specs.declared.content.Control.{Control}
use Rattle.ink_model.specs.declared.content.Control.TheVariants as control
use Rattle.ink_model.specs.declared.content.Destination.{Destination}
use Rattle.ink_model.specs.declared.content.Leaf.TheVariants as leaves
use Rattle.ink_model.specs.declared.fault.Fault.TheVariants.{BadTarget, StackEmpty}
use Rattle.ink_model.specs.declared.frame.FrameKind.{FrameKind}
use Rattle.ink_model.specs.declared.frame.FrameKind.TheVariants.{Function, Tunnel}
use Rattle.ink_model.specs.declared.scope.Scope.{Scope}
use Rattle.ink_model.specs.declared.value.Value.TheVariants as value
use Rattle.ink_effects.specs.Frequents.{leaf_of}
use Rattle.ink_effects.specs.Performs.{AsksToStore, KeepsThreads, KeepsChoices}
use Rattle.ink_effects.specs.declared.frequent.Frequent.{Frequent}
use Rattle.ink_effects.specs.declared.frequent.Frequent.TheVariants as frequent

abbrev pub IsPlain : Effect → Type 0
IsPlain (Stores t f) = ⊥
IsPlain (Offers choices f) = ⊥
IsPlain e = Unit {0}

pub plain_if : (b : Bool) (e d : Effect) → IsPlain e → IsPlain d → IsPlain (if b then e else d)
plain_if true e d h k = h
plain_if false e d h k = k

pub plain_or : {A : Type 0} (r : Result A Fault) (so : A → Effect) → ((a : A) → IsPlain (so a)) → IsPlain (or_fault r so)
plain_or (Ok a) so plain = plain a
plain_or (Err f) so plain = tt

pub plain_else : {A : Type 0} (f : Fault) (o : Option A) (so : A → Effect) → ((a : A) → IsPlain (so a)) → IsPlain (or_else f o so)
plain_else f None so plain = tt
plain_else f (Some a) so plain = plain a

-- ---- what they keep

module _ (s : StoryTree) where
  -- threads, but for the mode
  pub keeps_plain : (e : Effect) (old new : ThreadsOf Spot) → IsPlain e → new ≡ on_top (mode_in new.thread.frame.evaluating) old → KeepsThreads s e old new
  keeps_plain (Stores t f) old new plain h = absurd plain
  keeps_plain e old new plain h = ap (map_threads (place_of s)) h

  pub offers_plain : (e : Effect) (choices : List (ChoiceOf Spot)) → IsPlain e → KeepsChoices s e choices choices
  offers_plain (Offers cs f) choices plain = absurd plain
  offers_plain e choices plain = refl

-- and store nothing
pub stores_plain : (e : Effect) (asks : Bool) → IsPlain e → AsksToStore e asks
stores_plain (Stores t f) asks plain = absurd plain
stores_plain e asks plain = tt

-- ---- control content

push_plain : (v : Value) (f : Fields) → IsPlain (pushing v f)
push_plain v f = plain_or (pushed v f.stack) _ (λ vs. tt)

write_plain : (r : Result Page Fault) (f : Fields) → IsPlain (writing r f)
write_plain r f = plain_or r _ (λ page. tt)

text_plain : (has_text : Bool) (r : Result Page Fault) (f : Fields) → IsPlain (writing_text has_text r f)
text_plain has_text r f = plain_or r _ (λ page. tt)

output_plain : (top : Option (Value × List Value)) (f : Fields) → IsPlain (output_popped top f)
output_plain None f = tt
output_plain (Some r) f = text_plain _ _ (record f { stack = r.1 })

module _ (s : StoryTree) (seen : Context) where
  count_plain : (r : Result ℤ Fault) (f : Fields) → IsPlain (pushing_count s seen r f)
  count_plain r f = plain_or r _ (λ z. push_plain (value.Int z) f)

  asking_plain : (so : List Part → Result ℤ Fault) (f : Fields) → IsPlain (asking s seen so f)
  asking_plain so f = plain_else _ (popped f.stack) _ (λ r. plain_else _ (landing_by s r.0) _ (λ to. count_plain (so to.place) _))

pub control_plain : (s : StoryTree) (p : List Part) (seen : Context) (o : Control) (f : Fields) → IsPlain (control_effect s p seen o f)
control_plain s p seen control.BeginEval f = plain_if f.evaluating _ _ tt tt
control_plain s p seen control.EndEval f = plain_if f.evaluating _ _ tt tt
control_plain s p seen control.Out f = output_plain (popped f.stack) f
control_plain s p seen control.Pop f = plain_else _ (popped f.stack) _ (λ r. tt)
control_plain s p seen control.Duplicate f = plain_else _ (popped f.stack) _ (λ r. push_plain r.0 f)
control_plain s p seen control.BeginString f = plain_if f.evaluating _ _ (write_plain _ (record f { evaluating = false })) tt
control_plain s p seen control.EndString f = plain_or (closes_string f.page) _ (λ r. push_plain (value.Text r.0) (record f { page = r.1; evaluating = true }))
control_plain s p seen control.BeginTag f = plain_or (if in_tag f.page.sections then closed_tag f.stack f.page else Ok (f.stack, f.page)) _
    (λ r. write_plain (opens tag_section r.1) (record f { stack = r.0 }))
control_plain s p seen control.EndTag f = plain_or (closed_tag f.stack f.page) _ (λ r. tt)
control_plain s p seen control.ReturnTunnel f = plain_else _ (popped f.stack) _ (λ r. plain_or (return_landing s r.0) _ (λ to. tt))
control_plain s p seen control.ChoiceCount f = push_plain _ f
control_plain s p seen control.Turn f = push_plain _ f
control_plain s p seen control.Turns f = asking_plain s seen (turns_there s seen) f
control_plain s p seen control.ReadCount f = asking_plain s seen (visits_there s seen) f
control_plain s p seen control.Visit f = plain_else _ (above (reverse p)) _ (λ q. count_plain s seen _ f)
control_plain s p seen o f = tt

-- ---- a tag that is given whole

pub tag_plain : (t : List ℕ) (f : Fields) → IsPlain (write_tag t f)
tag_plain t f = plain_or (if in_tag f.page.sections then closed_tag f.stack f.page else Ok (f.stack, f.page)) _
    (λ r. plain_or (keeps_tag r.0 (writes_tag t r.1)) _ (λ q. tt))

-- ---- content that neither stores nor offers

abbrev pub IsPlainLeaf : Leaf → Type 0
IsPlainLeaf (leaves.Declare name) = ⊥
IsPlainLeaf (leaves.DeclareTemp name) = ⊥
IsPlainLeaf (leaves.Assign name) = ⊥
IsPlainLeaf (leaves.AssignTemp name) = ⊥
IsPlainLeaf (leaves.Choice text flags) = ⊥
IsPlainLeaf l = Unit {0}

value_plain : (v : Value) (f : Fields) → IsPlain (push_value v f)
value_plain v f = plain_if f.evaluating _ _ (push_plain v f) tt

where_plain : (conditional : Bool) (f : Fields) (so : Fields → Effect) → ((g : Fields) → IsPlain (so g)) → IsPlain (where_true conditional f so)
where_plain conditional f so plain = plain_or (condition conditional f) _ (λ r. plain_if r.0 (so r.1) _ (plain r.1) tt)

pub call_plain : (s : StoryTree) (p : List Part) (seen : Context) (k : FrameKind) (to : Destination) (conditional : Bool) (f : Fields) → IsPlain (call k s p seen to conditional f)
call_plain s p seen k to conditional f = where_plain conditional f _ (λ g. plain_or (led_to s p seen to g.globals) _ (λ l. tt))

pub leaf_plain : (s : StoryTree) (p : List Part) (seen : Context) (l : Leaf) (f : Fields) → IsPlainLeaf l → IsPlain (leaf_effect s p seen l f)
leaf_plain s p seen (leaves.Text t) f h = plain_if f.evaluating _ _ (push_plain (value.Text t) f) (text_plain _ _ f)
leaf_plain s p seen leaves.Newline f h = plain_if f.evaluating _ _ (push_plain _ f) (write_plain _ f)
leaf_plain s p seen leaves.Glue f h = plain_if f.evaluating _ _ tt (write_plain _ f)
leaf_plain s p seen (leaves.Tag t) f h = tag_plain t f
leaf_plain s p seen (leaves.Int z) f h = value_plain (value.Int z) f
leaf_plain s p seen (leaves.Bool truth) f h = value_plain (value.Bool truth) f
leaf_plain s p seen leaves.Void f h = value_plain value.Void f
leaf_plain s p seen (leaves.Target text) f h = value_plain _ f
leaf_plain s p seen (leaves.Control o) f h = control_plain s p seen o f
leaf_plain s p seen (leaves.Op o) f h = plain_or (applied o f.stack) _ (λ vs. tt)
leaf_plain s p seen (leaves.Divert to conditional) f h = where_plain conditional f _ (λ g. plain_or (led_to s p seen to g.globals) _ (λ l. tt))
leaf_plain s p seen (leaves.Declare name) f h = absurd h
leaf_plain s p seen (leaves.Assign name) f h = absurd h
leaf_plain s p seen (leaves.Variable name) f h = plain_or (read f.globals seen.thread name) _ (λ v. push_plain v f)
leaf_plain s p seen (leaves.Pointer name frame) f h = value_plain _ f
leaf_plain s p seen (leaves.Call to conditional) f h = call_plain s p seen Function to conditional f
leaf_plain s p seen (leaves.Tunnel to conditional) f h = call_plain s p seen Tunnel to conditional f
leaf_plain s p seen (leaves.External name arguments conditional) f h = tt
leaf_plain s p seen (leaves.DeclareTemp name) f h = absurd h
leaf_plain s p seen (leaves.AssignTemp name) f h = absurd h
leaf_plain s p seen (leaves.Count text) f h = plain_else _ (leads s p text) _ (λ q. count_plain s seen _ f)
leaf_plain s p seen (leaves.Choice text flags) f h = absurd h

-- ---- content that stores offers nothing

module _ (s : StoryTree) (choices : List (ChoiceOf Spot)) where
  abbrev OffersNone : Effect → Type 0
  OffersNone e = KeepsChoices s e choices choices

  stored_none : (r : Result (Values × ThreadOf (List Part)) Fault) (f : Fields) → OffersNone (storing r f)
  stored_none (Ok w) f = refl
  stored_none (Err e) f = refl

  popped_none : (o : Option (Value × List Value)) (so : Value × List Value → Effect) → ((r : Value × List Value) → OffersNone (so r)) → OffersNone (or_else StackEmpty o so)
  popped_none None so none = refl
  popped_none (Some r) so none = none r

  pub declare_offers_none : (scope : Scope) (name : List ℕ) (seen : Context) (f : Fields) → OffersNone (declare scope name seen f)
  declare_offers_none scope name seen f = popped_none (popped f.stack) _ (λ r. stored_none _ (record f { stack = r.1 }))

  pub assign_offers_none : (name : List ℕ) (seen : Context) (f : Fields) → OffersNone (assign name seen f)
  assign_offers_none name seen f = popped_none (popped f.stack) _ (λ r. stored_none _ (record f { stack = r.1 }))

-- ---- content that offers stores nothing

module _ (s : StoryTree) (threads : ThreadsOf Spot) where
  abbrev StoresNone : Effect → Type 0
  StoresNone e = KeepsThreads s e threads threads

  or_none : {A : Type 0} (r : Result A Fault) (so : A → Effect) → ((a : A) → StoresNone (so a)) → StoresNone (or_fault r so)
  or_none (Ok a) so none = none a
  or_none (Err f) so none = refl

  else_none : {A : Type 0} (f : Fault) (o : Option A) (so : A → Effect) → ((a : A) → StoresNone (so a)) → StoresNone (or_else f o so)
  else_none f None so none = refl
  else_none f (Some a) so none = none a

  offering_none : (p : List Part) (seen : Context) (o : Option (ChoiceOf (List Part))) (f : Fields) → StoresNone (offering s p seen o f)
  offering_none p seen None f = refl
  offering_none p seen (Some choice) f = or_none (added choice seen.choices) _ (λ choices. refl)

  pub offer_stores_none : (p : List Part) (seen : Context) (text : List ℕ) (flags : ℕ) (f : Fields) → StoresNone (offer s p seen text flags f)
  offer_stores_none p seen text flags f =
      else_none BadTarget (lands s p text) _ (λ q. or_none (make flags q (was_visited s p seen text flags) seen.thread f.stack) _ (λ r. offering_none p seen r.0 (record f { stack = r.1 })))

-- what holds whatever a call returns
pub when_ok : {A : Type 0} (r : Result A Fault) (B : Type 0) → B → OnOk r B
when_ok (Ok a) B b = b
when_ok (Err f) B b = tt

-- ---- content of the most frequent kinds

pub frequent_plain : (c : Frequent) → IsPlainLeaf (leaf_of c)
frequent_plain frequent.Newline = tt
frequent_plain (frequent.Int z) = tt
frequent_plain frequent.Void = tt
frequent_plain (frequent.Op o) = tt
frequent_plain (frequent.Variable name) = tt
frequent_plain frequent.BeginEval = tt
frequent_plain frequent.EndEval = tt
frequent_plain frequent.Pop = tt
frequent_plain frequent.Nop = tt
frequent_plain frequent.BeginString = tt
frequent_plain frequent.EndString = tt
frequent_plain frequent.BeginTag = tt
frequent_plain frequent.EndTag = tt
