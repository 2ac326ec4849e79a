-- What holds of a line's marks, and goes on to hold where marks are added, holds after a step.
use Rattle.std.proofs.Common.{inl, inr, ℕ, suc, ◌^◌, nat_lt, nat_eq, List, [], ◌∷◌, ◌++◌, length, Bool, true, false, ◌||◌, if◌then◌else◌, Option, Some, None, option_and_then, reverse, Result, Ok, Err, ℤ, pos}
use Rattle.std.specs.List.{list_all, list_any}
use Rattle.std.proofs.lemmas.Bool.{cases_Bool, cond_both}
use Rattle.ink_model.specs.Text.Bytes.{fits_text}
use Rattle.ink_model.specs.Text.Clean.{clean}
use Rattle.ink_model.specs.Run.Effect.{Effect, Moves, Stores, Offers, Lands, Calls, Returns, Forks, Done, Ends, Fails, Fields, Context, context_of, fields_of, is_fresh, with_fields, with_thread, or_else, or_fault, pushing, writing, writing_text}
use Rattle.ink_model.specs.Values.Stack.{applied, popped, pushed}
use Rattle.ink_model.specs.Host.Bindings.{Binding, Bound, fits_given, pure_function, turn_function, value_given}
use Rattle.ink_model.specs.Choices.Making.{added, make}
use Rattle.ink_model.specs.Run.Configuration.{ChoiceOf, Configuration, current_place, ended, with_choices, with_safe}
use Rattle.ink_model.specs.Choices.Choosing.{default_choice, following, stopped_by}
use Rattle.ink_model.specs.Flow.Transfers as flow
use Rattle.ink_model.specs.Flow.Transfers.{Written, Reached, Reaches, Halts, Breaks, Ending, Continues, Finishes, Collapses, called, reach, depth_of, done_by, doubled_in, enter_for, forked, frames_on, halt, leave_for, moved_on, on_ending, on_page, on_stack, or_breaks, or_end, reach_or_on, returned, thread_of, threads_on, void_for}
use Rattle.ink_model.specs.Run.Move.{going, may_enter, move, place_to, landed_in, reached_in, written_in}
use Rattle.ink_model.specs.Run.Moments.{answered}
use Rattle.ink_model.specs.Flow.Threads as threads
use Rattle.ink_model.specs.declared.frame.FrameKind.{FrameKind}
use Rattle.ink_model.specs.Flow.Frames.{FrameOf, ThreadOf, ThreadsOf, base_threads, gone, is_function, on_top, put_in}
use Rattle.ink_model.specs.declared.frame.FrameKind.TheVariants.{Function, Tunnel}
use Rattle.ink_model.specs.declared.scope.Scope.TheVariants.{Global, Temporary}
use Rattle.ink_model.specs.Variables.Access as variables
use Rattle.ink_model.specs.Run.Place.{content_place, knot, next_place}
use Rattle.ink_model.specs.Story.Path.{above}
use Rattle.ink_model.specs.Story.Acceptance.{lands, leads}
use Rattle.ink_model.specs.Run.Step.{Outcome, Next, Stop, Faults, Stepped, Comes, Wants, acted, call_made, control_effect, leaf_effect, effect, gone_in, performed, step, step_at}
use Rattle.ink_model.specs.Run.Step.Calls.{call_to, return_landing}
use Rattle.ink_model.specs.Run.Step.Choices.{offering, was_visited}
use Rattle.ink_model.specs.Run.Step.Counts.{asking, less_one, pushing_count, visits_at}
use Rattle.ink_model.specs.Run.Step.Evaluation.{output_popped, push_value}
use Rattle.ink_model.specs.Run.Step.Host.{Acts, Suspends, Call, CallEffect, answering, arguments_of, arguments_on, arguments_taken, call_at, call_bound, call_external, has_string, is_argument, or_fails}
use Rattle.ink_model.specs.Run.Step.Text.{begin_tag, in_tag, write_tag}
use Rattle.ink_model.specs.Story.Tree.{StoryTree, at, leaf}
use Rattle.ink_model.specs.declared.content.Control.{Control}
use Rattle.ink_model.specs.declared.content.Control.TheVariants as control
use Rattle.ink_model.specs.declared.content.Leaf.{Leaf}
use Rattle.ink_model.specs.declared.content.Leaf.TheVariants as leaves
use Rattle.ink_model.specs.declared.host.Given.{Given}
use Rattle.ink_model.specs.declared.place.Part.{Part}
use Rattle.ink_model.specs.Run.Step.Diverts.{condition, divert_to, landing_by, leaving_fields, led_to, truth_on, where_true}
use Rattle.ink_model.specs.Run.Step.Text.{beside, closed_tag, keeps_tag}
use Rattle.ink_model.specs.declared.value.Value.TheVariants as value
use Rattle.ink_model.specs.Text.Mark.{cut}
use Rattle.ink_model.specs.Text.Output.{begins_function, closes_string, closes_string_of, closes_tag, closes_tag_of, ends_function, is_crowded, is_line, is_string, is_text, let_through, noted_in, opens, tagged, with_next, writes_glue, writes_marks, writes_newline, writes_printed, writes_tag, writes_text, writes_value}
use Rattle.ink_model.specs.Text.Page.{Page, Section, SectionKind, string_section, tag_section}
use Rattle.ink_model.specs.Text.Shown.{shown_text}
use Rattle.ink_model.specs.Values.Value.{is_true, printed}
use Rattle.ink_model.specs.declared.fault.Fault.{Fault}
use Rattle.ink_model.specs.declared.fault.Fault.TheVariants.{BadMode, BadTarget, NotCounted, TooDeep, Unbound}
use Rattle.ink_model.specs.declared.limits.TheConstants.{MAX_SECTIONS}
use Rattle.ink_model.specs.declared.mark.Mark.{Mark}
use Rattle.ink_model.specs.declared.mark.Mark.TheVariants.{Newline, Glue, Tag, Enter, Leave}
use Rattle.ink_model.specs.declared.value.Value.{Value}

-- P of what a result gives
abbrev pub Gives : {A : Type 0} → (A → Type 0) → Result A Fault → Type 0
Gives P (Ok x) = P x
Gives P (Err f) = Unit {0}

module _ (Holds : List Mark → Type 0) (grow : (k ms : List Mark) → Holds k → Holds (k ++ ms)) where
  -- ---- pages

  abbrev pub PageHolds : Result Page Fault → Type 0
  PageHolds (Ok page) = Holds page.line
  PageHolds (Err f) = Unit {0}

  noted_holds : (ms line : List Mark) (sections : List Section) (n : ℕ) → Holds line → Holds (noted_in ms line sections n).line
  noted_holds ms line [] n h = grow line ms h
  noted_holds ms line (x ∷ rest) n h = h

  pub marks_holds : (ms : List Mark) (page : Page) → Holds page.line → PageHolds (writes_marks ms page)
  marks_holds ms page h = cond_both (is_crowded ms page) _ _ PageHolds (λ _. tt) (λ _. noted_holds ms page.line page.sections page.next_enter h)

  printed_holds : (fresh : Bool) (r : Result (List ℕ) Fault) (page : Page) → Holds page.line → PageHolds (writes_printed fresh r page)
  printed_holds fresh (Ok t) page h = marks_holds (let_through fresh (cut t)) page h
  printed_holds fresh (Err f) page h = tt

  begins_holds : (page : Page) → Holds page.line → PageHolds (begins_function page)
  begins_holds page h = cond_both (nat_lt (suc page.next_enter) (2 ^ 64)) _ _ PageHolds (λ _. marks_holds (Enter page.next_enter ∷ []) (with_next page) h) (λ _. tt)

  opens_holds : (k : SectionKind) (page : Page) → Holds page.line → PageHolds (opens k page)
  opens_holds k page h = cond_both (nat_lt (length page.sections) MAX_SECTIONS) _ _ PageHolds (λ _. h) (λ _. tt)

  -- what is beside a page
  abbrev Beside : {A : Type 0} → A × Page → Type 0
  Beside r = Holds r.1.line

  abbrev ClosedHolds : {A : Type 0} → Result (A × Page) Fault → Type 0
  ClosedHolds r = Gives Beside r

  string_holds : (page : Page) (sections : List Section) → Holds page.line → ClosedHolds (closes_string_of page sections)
  string_holds page [] h = tt
  string_holds page (x ∷ rest) h = elim x.kind as (λ k. ClosedHolds (closes_string_of page (record { kind = k; marks = x.marks } ∷ rest)))
      [ string_section ↦ cond_both (fits_text (shown_text x.marks)) _ _ (Gives Beside) (λ _. h) (λ _. tt) | tag_section ↦ tt ]

  tagged_holds : (t : List ℕ) (page : Page) → Holds page.line → ClosedHolds (tagged t page)
  tagged_holds t page h = elim (cases_Bool (list_any is_string page.sections)) [
    | inl d ↦ rw d h
    | inr d ↦ elim (cases_Bool (is_crowded (Tag t ∷ []) page)) [
      | inl e ↦ rw d (rw e tt)
      | inr e ↦ rw d (rw e (noted_holds (Tag t ∷ []) page.line page.sections page.next_enter h))
    ]
  ]

  tag_holds : (page : Page) (sections : List Section) → Holds page.line → ClosedHolds (closes_tag_of page sections)
  tag_holds page [] h = tt
  tag_holds page (x ∷ rest) h = elim x.kind as (λ k. ClosedHolds (closes_tag_of page (record { kind = k; marks = x.marks } ∷ rest))) [
    | string_section ↦ tt
    | tag_section ↦ cond_both (fits_text (clean (shown_text x.marks))) _ _ (Gives Beside) (λ _. tagged_holds (clean (shown_text x.marks)) (record page { sections = rest }) h) (λ _. tt)
  ]

  -- ---- effects

  abbrev pub EffectHolds : Effect → Type 0
  EffectHolds (Moves f) = Holds f.page.line
  EffectHolds (Stores t f) = Holds f.page.line
  EffectHolds (Offers choices f) = Holds f.page.line
  EffectHolds (Lands to f) = Holds f.page.line
  EffectHolds (Calls k to f) = Holds f.page.line
  EffectHolds (Returns k to f) = Holds f.page.line
  EffectHolds (Forks f) = Holds f.page.line
  EffectHolds (Done f) = Holds f.page.line
  EffectHolds (Ends f) = Holds f.page.line
  EffectHolds (Fails f) = Unit {0}

  fault_holds : {A : Type 0} → (r : Result A Fault) (so : A → Effect) → ((x : A) → EffectHolds (so x)) → EffectHolds (or_fault r so)
  fault_holds (Ok x) so h = h x
  fault_holds (Err f) so h = tt

  page_holds : (r : Result Page Fault) (so : Page → Effect) → PageHolds r → ((page : Page) → Holds page.line → EffectHolds (so page)) → EffectHolds (or_fault r so)
  page_holds (Ok page) so k h = h page k
  page_holds (Err f) so k h = tt

  given_holds : {A : Type 0} → (P : A → Type 0) (r : Result A Fault) (so : A → Effect) → Gives P r → ((x : A) → P x → EffectHolds (so x)) → EffectHolds (or_fault r so)
  given_holds P (Ok x) so k h = h x k
  given_holds P (Err f) so k h = tt

  else_holds : {A : Type 0} → (g : Fault) (o : Option A) (so : A → Effect) → ((x : A) → EffectHolds (so x)) → EffectHolds (or_else g o so)
  else_holds g None so h = tt
  else_holds g (Some x) so h = h x

  if_holds : (b : Bool) (d e : Effect) → EffectHolds d → EffectHolds e → EffectHolds (if b then d else e)
  if_holds b d e h k = cond_both b d e EffectHolds (λ _. h) (λ _. k)

  pushing_holds : (v : Value) (f : Fields) → Holds f.page.line → EffectHolds (pushing v f)
  pushing_holds v f h = fault_holds (pushed v f.stack) _ (λ vs. h)

  writing_holds : (r : Result Page Fault) (f : Fields) → PageHolds r → EffectHolds (writing r f)
  writing_holds r f k = page_holds r _ k (λ page h. h)

  -- what was found out, with fields that have the same page
  abbrev Leaves : {A : Type 0} → A × Fields → Type 0
  Leaves r = Holds r.1.page.line

  truth_holds : (o : Option (Value × List Value)) (f : Fields) → Holds f.page.line → Gives Leaves (truth_on o f)
  truth_holds None f h = tt
  truth_holds (Some r) f h = elim (is_true r.0) as (λ t. Gives Leaves (leaving_fields (record f { stack = r.1 }) t)) [ Ok x ↦ h | Err g ↦ tt ]

  condition_holds : (b : Bool) (f : Fields) → Holds f.page.line → Gives Leaves (condition b f)
  condition_holds b f h = cond_both b _ _ (Gives Leaves) (λ _. truth_holds (popped f.stack) f h) (λ _. h)

  where_holds : (b : Bool) (f : Fields) (so : Fields → Effect) → Holds f.page.line → ((g : Fields) → Holds g.page.line → EffectHolds (so g)) → EffectHolds (where_true b f so)
  where_holds b f so h k = given_holds Leaves (condition b f) _ (condition_holds b f h) (λ r x. if_holds r.0 (so r.1) (Moves r.1) (k r.1 x) x)

  keeps_tag_holds : (vs : List Value) (r : Result (Option (List ℕ) × Page) Fault) → ClosedHolds r → ClosedHolds (keeps_tag vs r)
  keeps_tag_holds vs (Ok (None, page)) h = h
  keeps_tag_holds vs (Ok (Some t, page)) h = elim (pushed (value.Tag t) vs) as (λ r. ClosedHolds (beside page r)) [ Ok us ↦ h | Err f ↦ tt ]
  keeps_tag_holds vs (Err f) h = tt

  closed_tag_holds : (vs : List Value) (page : Page) → Holds page.line → ClosedHolds (closed_tag vs page)
  closed_tag_holds vs page h = keeps_tag_holds vs (closes_tag page) (tag_holds page page.sections h)

  value_pushed_holds : (v : Value) (f : Fields) → Holds f.page.line → EffectHolds (push_value v f)
  value_pushed_holds v f h = if_holds f.evaluating (pushing v f) (Moves f) (pushing_holds v f h) h

  output_holds : (o : Option (Value × List Value)) (f : Fields) → Holds f.page.line → EffectHolds (output_popped o f)
  output_holds None f h = h
  output_holds (Some r) f h = page_holds (writes_value (is_fresh f) r.0 f.page) _ (printed_holds (is_fresh f) (printed r.0) f.page h) (λ page k. k)

  -- where a tag is on top it is closed
  no_tag_on_top_holds : (f : Fields) → Holds f.page.line → ClosedHolds (if in_tag f.page.sections then closed_tag f.stack f.page else Ok (f.stack, f.page))
  no_tag_on_top_holds f h = cond_both (in_tag f.page.sections) _ _ (Gives Beside) (λ _. closed_tag_holds f.stack f.page h) (λ _. h)

  whole_tag_holds : (t : List ℕ) (page : Page) → Holds page.line → ClosedHolds (writes_tag t page)
  whole_tag_holds t page h = cond_both (fits_text (clean t)) _ _ (Gives Beside) (λ _. tagged_holds (clean t) page h) (λ _. tt)

  write_tag_holds : (t : List ℕ) (f : Fields) → Holds f.page.line → EffectHolds (write_tag t f)
  write_tag_holds t f h = given_holds Beside (if in_tag f.page.sections then closed_tag f.stack f.page else Ok (f.stack, f.page)) _ (no_tag_on_top_holds f h)
      (λ x k. given_holds Beside (keeps_tag x.0 (writes_tag t x.1)) _ (keeps_tag_holds x.0 (writes_tag t x.1) (whole_tag_holds t x.1 k)) (λ y j. j))

  begin_tag_holds : (f : Fields) → Holds f.page.line → EffectHolds (begin_tag f)
  begin_tag_holds f h = given_holds Beside (if in_tag f.page.sections then closed_tag f.stack f.page else Ok (f.stack, f.page)) _ (no_tag_on_top_holds f h)
      (λ x k. page_holds (opens tag_section x.1) _ (opens_holds tag_section x.1 k) (λ page j. j))

  module _ (s : StoryTree) (seen : Context) where
    counting_holds : (r : Result ℤ Fault) (f : Fields) → Holds f.page.line → EffectHolds (pushing_count s seen r f)
    counting_holds r f h = fault_holds r _ (λ z. pushing_holds (value.Int z) f h)

    asking_holds : (so : List Part → Result ℤ Fault) (f : Fields) → Holds f.page.line → EffectHolds (asking s seen so f)
    asking_holds so f h = else_holds _ (popped f.stack) _ (λ r. else_holds BadTarget (landing_by s r.0) _ (λ to. counting_holds (so to.place) (record f { stack = r.1 }) h))

    offering_holds : (p : List Part) (o : Option (ChoiceOf (List Part))) (f : Fields) → Holds f.page.line → EffectHolds (offering s p seen o f)
    offering_holds p None f h = h
    offering_holds p (Some choice) f h = fault_holds (added choice seen.choices) _ (λ choices. h)

    answering_holds : (o : Option Given) (f : Fields) → Holds f.page.line → EffectHolds (answering o f)
    answering_holds None f h = tt
    answering_holds (Some g) f h = if_holds (fits_given g) (pushing (value_given g) f) (Fails TooDeep) (pushing_holds (value_given g) f h) tt

    -- what a call comes to
    abbrev pub CallHolds : CallEffect → Type 0
    CallHolds (Acts e) = EffectHolds e
    CallHolds (Suspends name arguments f) = Holds f.page.line

    fails_holds : {A : Type 0} → (r : Result (A × Fields) Fault) (so : A × Fields → CallEffect) → Gives Leaves r → ((x : A × Fields) → Leaves x → CallHolds (so x)) → CallHolds (or_fails r so)
    fails_holds (Ok x) so k h = h x k
    fails_holds (Err f) so k h = tt

    arguments_holds : (o : Option (List Value × List Value)) (f : Fields) → Holds f.page.line → Gives Leaves (arguments_of o f)
    arguments_holds None f h = tt
    arguments_holds (Some r) f h = cond_both (list_all is_argument r.0) _ _ (Gives Leaves) (λ _. h) (λ _. tt)

    bound_holds : (o : Option Binding) (name : List ℕ) (n : ℕ) (f : Fields) → Holds f.page.line → CallHolds (call_bound s o name n f)
    bound_holds None name n f h = else_holds Unbound (knot name s) _ (λ q. h)
    bound_holds (Some turn_function) name n f h = cond_both (has_string f.page.sections) _ _ CallHolds (λ _. tt)
        (λ _. fails_holds (arguments_taken n f) _ (arguments_holds (arguments_on n f.stack) f h) (λ r x. x))
    bound_holds (Some (pure_function answers)) name n f h = given_holds Leaves (arguments_taken n f) _ (arguments_holds (arguments_on n f.stack) f h) (λ r x. answering_holds (answers r.0) r.1 x)

    external_holds : (b : Bound) (k : Call) (f : Fields) → Holds f.page.line → CallHolds (call_external s b k.name k.arguments k.conditional f)
    external_holds b k f h = fails_holds (condition k.conditional f) _ (condition_holds k.conditional f h)
        (λ r x. cond_both r.0 _ _ CallHolds (λ _. bound_holds (b k.name) k.name k.arguments r.1 x) (λ _. x))

    control_holds : (p : List Part) (o : Control) (f : Fields) → Holds f.page.line → EffectHolds (control_effect s p seen o f)
    control_holds p control.BeginEval f h = if_holds f.evaluating (Fails BadMode) (Moves (record f { evaluating = true })) tt h
    control_holds p control.EndEval f h = if_holds f.evaluating (Moves (record f { evaluating = false })) (Fails BadMode) h tt
    control_holds p control.Out f h = output_holds (popped f.stack) f h
    control_holds p control.Pop f h = else_holds _ (popped f.stack) _ (λ r. h)
    control_holds p control.Duplicate f h = else_holds _ (popped f.stack) _ (λ r. pushing_holds r.0 f h)
    control_holds p control.BeginString f h = if_holds f.evaluating (writing (opens string_section f.page) (record f { evaluating = false })) (Fails BadMode)
        (writing_holds (opens string_section f.page) (record f { evaluating = false }) (opens_holds string_section f.page h)) tt
    control_holds p control.EndString f h = given_holds Beside (closes_string f.page) _ (string_holds f.page f.page.sections h) (λ x k. pushing_holds (value.Text x.0) (record f { page = x.1; evaluating = true }) k)
    control_holds p control.BeginTag f h = begin_tag_holds f h
    control_holds p control.EndTag f h = given_holds Beside (closed_tag f.stack f.page) _ (closed_tag_holds f.stack f.page h) (λ x k. k)
    control_holds p control.ReturnTunnel f h = else_holds _ (popped f.stack) _ (λ r. fault_holds (return_landing s r.0) _ (λ to. h))
    control_holds p control.ChoiceCount f h = pushing_holds (value.Int (pos (length seen.choices))) f h
    control_holds p control.Turn f h = pushing_holds (value.Int (pos seen.turn)) f h
    control_holds p control.Turns f h = asking_holds _ f h
    control_holds p control.ReadCount f h = asking_holds _ f h
    control_holds p control.Visit f h = else_holds NotCounted (above (reverse p)) _ (λ q. counting_holds (less_one s seen (visits_at s seen q)) f h)
    control_holds p o f h = h

    leaf_holds : (p : List Part) (l : Leaf) (f : Fields) → Holds f.page.line → EffectHolds (leaf_effect s p seen l f)
    leaf_holds p (leaves.Text t) f h = if_holds f.evaluating (pushing (value.Text t) f) (writing_text (list_any is_text (cut t)) (writes_text (is_fresh f) t f.page) f)
        (pushing_holds (value.Text t) f h) (page_holds (writes_text (is_fresh f) t f.page) _ (marks_holds (let_through (is_fresh f) (cut t)) f.page h) (λ page k. k))
    leaf_holds p leaves.Newline f h = if_holds f.evaluating (pushing (value.Text (10 ∷ [])) f) (writing (writes_newline (is_fresh f) f.page) f)
        (pushing_holds (value.Text (10 ∷ [])) f h) (writing_holds (writes_newline (is_fresh f) f.page) f (marks_holds (let_through (is_fresh f) (Newline ∷ [])) f.page h))
    leaf_holds p leaves.Glue f h = if_holds f.evaluating (Fails BadMode) (writing (writes_glue f.page) f) tt (writing_holds (writes_glue f.page) f (marks_holds (Glue ∷ []) f.page h))
    leaf_holds p (leaves.Tag t) f h = write_tag_holds t f h
    leaf_holds p (leaves.Control o) f h = control_holds p o f h
    leaf_holds p (leaves.Op o) f h = fault_holds (applied o f.stack) _ (λ vs. h)
    leaf_holds p (leaves.Divert to conditional) f h = where_holds conditional f (divert_to s p seen to) h (λ g x. fault_holds (led_to s p seen to g.globals) _ (λ l. x))
    leaf_holds p (leaves.Declare name) f h = else_holds _ (popped f.stack) _ (λ r. fault_holds (variables.declare f.globals seen.thread Global name r.0) _ (λ w. h))
    leaf_holds p (leaves.Assign name) f h = else_holds _ (popped f.stack) _ (λ r. fault_holds (variables.assign f.globals seen.thread name r.0) _ (λ w. h))
    leaf_holds p (leaves.DeclareTemp name) f h = else_holds _ (popped f.stack) _ (λ r. fault_holds (variables.declare f.globals seen.thread Temporary name r.0) _ (λ w. h))
    leaf_holds p (leaves.AssignTemp name) f h = else_holds _ (popped f.stack) _ (λ r. fault_holds (variables.assign f.globals seen.thread name r.0) _ (λ w. h))
    leaf_holds p (leaves.Variable name) f h = fault_holds (variables.read f.globals seen.thread name) _ (λ v. pushing_holds v f h)
    leaf_holds p (leaves.Call to conditional) f h = where_holds conditional f (call_to Function s p seen to) h (λ g x. fault_holds (led_to s p seen to g.globals) _ (λ l. x))
    leaf_holds p (leaves.Tunnel to conditional) f h = where_holds conditional f (call_to Tunnel s p seen to) h (λ g x. fault_holds (led_to s p seen to g.globals) _ (λ l. x))
    leaf_holds p (leaves.External name arguments conditional) f h = h
    leaf_holds p (leaves.Count text) f h = else_holds NotCounted (leads s p text) _ (λ q. counting_holds (visits_at s seen q) f h)
    leaf_holds p (leaves.Choice text flags) f h = else_holds BadTarget (lands s p text) _ (λ q. fault_holds (make flags q (was_visited s p seen text flags) seen.thread f.stack) _ (λ r. offering_holds p r.0 (record f { stack = r.1 }) h))
    leaf_holds p value f h = value_pushed_holds _ f h

    pub effect_holds : (p : List Part) (o : Option StoryTree) (f : Fields) → Holds f.page.line → EffectHolds (effect s p o seen f)
    effect_holds p (Some (leaf l)) f h = leaf_holds p l f h
    effect_holds p o f h = h

  -- ---- where flow goes

  abbrev WrittenHolds : Result Written Fault → Type 0
  WrittenHolds r = Gives (λ (w : Written). Holds w.page.line) r

  on_page_holds : (r : Result Page Fault) (w : Written) → PageHolds r → WrittenHolds (on_page r w)
  on_page_holds (Ok page) w h = h
  on_page_holds (Err f) w h = tt

  enter_holds : (k : FrameKind) (w : Written) → Holds w.page.line → WrittenHolds (enter_for k w)
  enter_holds Function w h = on_page_holds (begins_function w.page) w (begins_holds w.page h)
  enter_holds k w h = h

  leave_holds : (k : FrameKind) (n : Option ℕ) (w : Written) → Holds w.page.line → WrittenHolds (leave_for k n w)
  leave_holds Function n w h = on_page_holds (ends_function n w.page) w (marks_holds (Leave n ∷ []) w.page h)
  leave_holds k n w h = h

  void_holds : (b : Bool) (w : Written) → Holds w.page.line → WrittenHolds (void_for b w)
  void_holds true w h = elim (pushed value.Void w.stack) as (λ r. WrittenHolds (on_stack r w)) [ Ok vs ↦ h | Err f ↦ tt ]
  void_holds false w h = h

  module _ (after : List Part → Option (List Part)) where
    abbrev pub ReachedHolds : Reached (List Part) → Type 0
    ReachedHolds (Reaches ts w) = Holds w.page.line
    ReachedHolds (Halts ts w) = Holds w.page.line
    ReachedHolds (Breaks f) = Unit {0}

    abbrev EndingHolds : Ending (List Part) → Type 0
    EndingHolds (Continues t w) = Holds w.page.line
    EndingHolds (Finishes t w) = Holds w.page.line
    EndingHolds (Collapses f) = Unit {0}

    breaks_holds : {A : Type 0} → (r : Result A Fault) (so : A → Reached (List Part)) → ((x : A) → ReachedHolds (so x)) → ReachedHolds (or_breaks r Breaks so)
    breaks_holds (Ok x) so h = h x
    breaks_holds (Err f) so h = tt

    written_holds : (r : Result Written Fault) (so : Written → Reached (List Part)) → WrittenHolds r → ((w : Written) → Holds w.page.line → ReachedHolds (so w)) → ReachedHolds (or_breaks r Breaks so)
    written_holds (Ok w) so k h = h w k
    written_holds (Err f) so k h = tt

    collapses_holds : (r : Result Written Fault) (so : Written → Ending (List Part)) → WrittenHolds r → ((w : Written) → Holds w.page.line → EndingHolds (so w)) → EndingHolds (or_breaks r Collapses so)
    collapses_holds (Ok w) so k h = h w k
    collapses_holds (Err f) so k h = tt

    or_end_holds : (o : Option (List Part)) (t : ThreadOf (List Part)) (w : Written) (end : Ending (List Part)) → Holds w.page.line → EndingHolds end → EndingHolds (or_end o t w end)
    or_end_holds None t w end h k = k
    or_end_holds (Some q) t w end h k = h

    frames_holds : (f : FrameOf (List Part)) (fs : List (FrameOf (List Part))) (o : Option (List Part)) (w : Written) → Holds w.page.line → EndingHolds (frames_on after f fs o w)
    frames_holds f [] o w h = or_end_holds (option_and_then after f.place) (thread_of f [] o) w _ h (cond_both (is_function f.kind) _ _ EndingHolds (λ _. tt) (λ _. h))
    frames_holds f (g ∷ gs) o w h = or_end_holds (option_and_then after f.place) (thread_of f (g ∷ gs) o) w _ h
        (cond_both (is_function f.kind) _ _ EndingHolds (λ _. cond_both (nat_eq f.depth (depth_of w)) _ _ EndingHolds
        (λ _. collapses_holds (leave_for Function f.enter w) _ (leave_holds Function f.enter w h) (λ v i. collapses_holds (void_for g.evaluating v) _ (void_holds g.evaluating v i) (λ u j. frames_holds g gs o u j)))
        (λ _. tt)) (λ _. h))

    ending_holds : (e : Ending (List Part)) (us : List (ThreadOf (List Part))) (end : ThreadOf (List Part) → Written → Reached (List Part)) → EndingHolds e
        → ((t : ThreadOf (List Part)) (w : Written) → Holds w.page.line → ReachedHolds (end t w)) → ReachedHolds (on_ending e us end)
    ending_holds (Continues t w) us end h k = h
    ending_holds (Finishes t w) us end h k = k t w h
    ending_holds (Collapses f) us end h k = tt

    halt_holds : (ts : ThreadsOf (List Part)) (w : Written) → Holds w.page.line → ReachedHolds (halt ts w)
    halt_holds ts w h = cond_both (is_line w.page.sections) _ _ ReachedHolds (λ _. h) (λ _. tt)

    threads_holds : (t : ThreadOf (List Part)) (us : List (ThreadOf (List Part))) (w : Written) → Holds w.page.line → ReachedHolds (threads_on after t us w)
    threads_holds t [] w h = ending_holds (frames_on after t.frame t.below t.previous w) [] _ (frames_holds t.frame t.below t.previous w h) (λ u v k. halt_holds (record { thread = gone None u; below = [] }) v k)
    threads_holds t (u ∷ us) w h = ending_holds (frames_on after t.frame t.below t.previous w) (u ∷ us) _ (frames_holds t.frame t.below t.previous w h) (λ e v k. threads_holds u us v k)

    moved_holds : (ts : ThreadsOf (List Part)) (w : Written) → Holds w.page.line → ReachedHolds (moved_on after ts w)
    moved_holds ts w h = threads_holds ts.thread ts.below w h

    called_holds : (k : FrameKind) (q : List Part) (ts : ThreadsOf (List Part)) (w : Written) → Holds w.page.line → ReachedHolds (called k q ts w)
    called_holds k q ts w h = breaks_holds (threads.frame_pushed k (depth_of w) ts.thread) _ (λ t. written_holds (enter_for k w) _ (enter_holds k w h) (λ v j. j))

    reach_or_holds : (o : Option (List Part)) (ts : ThreadsOf (List Part)) (w : Written) → Holds w.page.line → ReachedHolds (reach_or_on after o ts w)
    reach_or_holds None ts w h = moved_holds ts w h
    reach_or_holds (Some q) ts w h = h

    returned_holds : (k : FrameKind) (to : Option (List Part)) (ts : ThreadsOf (List Part)) (w : Written) → Holds w.page.line → ReachedHolds (returned after k to ts w)
    returned_holds k to ts w h = breaks_holds (threads.frame_popped k (depth_of w) ts.thread) _ (λ t. written_holds (leave_for k ts.thread.frame.enter w) _ (leave_holds k ts.thread.frame.enter w h)
        (λ v j. reach_or_holds to (record ts { thread = t }) v j))

    doubled_holds : (r : Reached (List Part)) → ReachedHolds r → ReachedHolds (doubled_in after r)
    doubled_holds (Reaches ts w) h = breaks_holds (threads.doubled ts) _ (λ us. h)
    doubled_holds r h = h

    forked_holds : (ts : ThreadsOf (List Part)) (w : Written) → Holds w.page.line → ReachedHolds (forked after ts w)
    forked_holds ts w h = doubled_holds (moved_on after ts w) (moved_holds ts w h)

    done_by_holds : (o : Option (ThreadsOf (List Part))) (ts : ThreadsOf (List Part)) (w : Written) → Holds w.page.line → ReachedHolds (done_by after o ts w)
    done_by_holds None ts w h = halt_holds (on_top (put_in None) ts) w h
    done_by_holds (Some below) ts w h = moved_holds below w h

  -- ---- steps

  abbrev pub OutcomeHolds : Outcome → Type 0
  OutcomeHolds (Next d) = Holds d.page.line
  OutcomeHolds (Stop d) = Holds d.page.line
  OutcomeHolds (Faults f) = Unit {0}

  abbrev pub SteppedHolds : Stepped → Type 0
  SteppedHolds (Comes o) = OutcomeHolds o
  SteppedHolds (Wants name arguments f d) = Holds f.page.line

  module _ (s : StoryTree) where
    reached_holds : (c : Configuration) (r : Reached (List Part)) → ReachedHolds (next_place s) r → OutcomeHolds (reached_in c r)
    reached_holds c (Reaches ts w) h = h
    reached_holds c (Halts ts w) h = h
    reached_holds c (Breaks f) h = tt

    landed_holds : (b : Bool) (c : Configuration) (r : Reached (List Part)) → ReachedHolds (next_place s) r → OutcomeHolds (landed_in s b c r)
    landed_holds true c (Reaches ts w) h = h
    landed_holds true c (Halts ts w) h = h
    landed_holds true c (Breaks f) h = tt
    landed_holds false c r h = reached_holds c r h

    moves : (c : Configuration) → Holds c.page.line → OutcomeHolds (going (moved_on (next_place s)) c)
    moves c h = reached_holds c (moved_on (next_place s) c.flow.threads (written_in c)) (moved_holds (next_place s) c.flow.threads (written_in c) h)

    pub move_holds : (e : Effect) (c : Configuration) → EffectHolds e → OutcomeHolds (move s e c)
    move_holds (Moves f) c h = moves (with_fields f c) h
    move_holds (Stores t f) c h = moves (with_fields f (with_thread t c)) h
    move_holds (Offers choices f) c h = moves (with_fields f (with_choices choices c)) h
    move_holds (Lands to f) c h = let d = with_fields f c in landed_holds to.enters d (reach to.place d.flow.threads (written_in d)) h
    move_holds (Calls k to f) c h = let d = with_fields f c in landed_holds to.enters d _ (called_holds (next_place s) k to.place d.flow.threads (written_in d) h)
    move_holds (Returns k to f) c h = let d = with_fields f c in landed_holds (may_enter to) d _ (returned_holds (next_place s) k (place_to to) d.flow.threads (written_in d) h)
    move_holds (Forks f) c h = let d = with_fields f c in reached_holds d _ (forked_holds (next_place s) d.flow.threads (written_in d) h)
    move_holds (Done f) c h = let d = with_fields f c in reached_holds (with_safe (d.flow.safe || flow.is_last d.flow.threads) d) _
        (done_by_holds (next_place s) (threads.dropped d.flow.threads) d.flow.threads (written_in d) h)
    move_holds (Ends f) c h = let d = with_fields f c in reached_holds (ended d) (halt (base_threads None) (written_in d)) (halt_holds (next_place s) (base_threads None) (written_in d) h)
    move_holds (Fails f) c h = tt

    following_holds : (o : Outcome) → OutcomeHolds o → OutcomeHolds (following s o)
    following_holds (Stop c) h = elim (default_choice c.flow.choices) as (λ o. OutcomeHolds (stopped_by s o c)) [ None ↦ h | Some choice ↦ h ]
    following_holds o h = h

    pub acted_holds : (e : Effect) (c : Configuration) → EffectHolds e → OutcomeHolds (acted s e c)
    acted_holds e c h = following_holds (move s e c) (move_holds e c h)

    made_holds : (k : CallEffect) (c : Configuration) → CallHolds s (context_of c) k → SteppedHolds (call_made s k c)
    made_holds (Acts e) c h = acted_holds e c h
    made_holds (Suspends name arguments f) c h = h

    performed_holds : (b : Bound) (p : List Part) (found : Option StoryTree) (k : Option Call) (c : Configuration) → Holds c.page.line → SteppedHolds (performed s b p found k c)
    performed_holds b p found None c h = acted_holds (effect s p found (context_of c) (fields_of c)) c (effect_holds s (context_of c) p found (fields_of c) h)
    performed_holds b p found (Some k) c h = made_holds (call_external s b k.name k.arguments k.conditional (fields_of c)) c (external_holds s (context_of c) b k (fields_of c) h)

    -- each step keeps it
    pub step_holds : (b : Bound) (c : Configuration) → Holds c.page.line → SteppedHolds (step s b c)
    unfolding step
    step_holds b c h = by (current_place c)
      where
        by : (o : Option (List Part)) → SteppedHolds (step_at s b o c)
        by None = h
        by (Some p) = performed_holds b (content_place s p) (at s (content_place s p)) (call_at (at s (content_place s p))) (gone_in s p c) h

    -- and each answer
    pub answered_holds : (f : Fields) (c : Configuration) (gave : Option Given) → Holds f.page.line → OutcomeHolds (answered s f c gave)
    answered_holds f c gave h = acted_holds (answering gave f) c (answering_holds s (context_of c) gave f h)
