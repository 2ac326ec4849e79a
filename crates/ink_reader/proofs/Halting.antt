-- After an answer that is no passage, the story does not go on.
use Rattle.std.proofs.Common.{◌≡◌, ◌∙◌, List, [], Bool, true, false, MatchBool, ap, inl, inr, refl, sym, true≢false}
use Rattle.ink_reader.proofs.Common.{Reply, Refuses, Tells, reply_of_halt, Bindings, StoryTree, Halt}
use Rattle.ink_model.specs.Run.Configuration.{Configuration, can_go_on, settled}
use Rattle.ink_model.specs.Run.Moments.{Made, RunEnd, Kept, Broke}
use Rattle.ink_model.specs.Protocol.Session.{Continue, EndsAs, OnlyRefuses, RunsFrom, RunsLine, condition_told, reply_told, telling}
use Rattle.ink_model.specs.Protocol.State.{State, Condition, Ready, Broken, is_running}
use Rattle.ink_model.specs.Variables.Store.{Values}
use Rattle.ink_model.specs.declared.fault.Refusal.TheVariants as refusal
use Rattle.ink_model.specs.declared.fault.Halt.TheVariants as halt
use Rattle.ink_model.specs.declared.host.Event.{Event}

abbrev is_passage : Reply → Bool
is_passage (Tells p) = true
is_passage reply = false

no_passage : (x : Halt) → is_passage (reply_of_halt x) ≡ false
no_passage (halt.Refused r) = refl
no_passage (halt.Fault f es) = refl

module _ (s : StoryTree) (h : Bindings) (old : State) (new : State) (reply : Reply) (none : is_passage reply ≡ false) where
  ended : (start : Values) (end : RunEnd) (made : List Made) (es : List Event) → EndsAs h start end made es old reply new → is_running new.condition ≡ false
  ended start (Kept c) made es (inl t) = told t.all refl
    where
      told : (all : Bool) → t.all ≡ all → is_running new.condition ≡ false
      told true e = absurd (true≢false (sym (ap is_passage t.replies ∙ ap (λ b. is_passage (reply_told b (telling c es) es)) e) ∙ none))
      told false e = ap (λ st. is_running st.condition) t.leaves ∙ ap (λ b. is_running (condition_told b (Ready (settled c)))) e
  ended start (Kept c) made es (inr b) = ap (λ st. is_running st.condition) b.1.2
  ended start (Broke f globals) made es b = ap (λ st. is_running st.condition) b.2

  ran : (c : Configuration) (made : List Made) (es : List Event) → RunsLine s h c made es old reply new → is_running new.condition ≡ false
  ran c made es (inl r) = ended c.shared.globals r.0 made es r.2
  ran c made es (inr r) = ap (λ st. is_running st.condition) r.2.2

  went : (c : Configuration) (es : List Event) (goes : Bool) → can_go_on c ≡ goes → old.condition ≡ Ready c
      → MatchBool goes ((made : List Made) × RunsLine s h c made es old reply new) ((es ≡ []) × OnlyRefuses (Refuses refusal.CannotContinue) old reply new) → is_running new.condition ≡ false
  went c es true e k r = ran c r.0 es r.1
  went c es false e k r = ap (λ st. is_running st.condition) r.1.1 ∙ ap is_running k ∙ e

  from : (es : List Event) (k : Condition) → old.condition ≡ k → RunsFrom (RunsLine s h) es k old reply new → is_running new.condition ≡ false
  from es (Broken f globals) k r = ap (λ st. is_running st.condition) r.1.1 ∙ ap is_running k
  from es (Ready c) k r = went c es (can_go_on c) refl k r

-- of a line
pub halted : (s : StoryTree) (h : Bindings) (es : List Event) (old new : State) (x : Halt) → Continue s h es old (reply_of_halt x) new → is_running new.condition ≡ false
halted s h es old new x c = from s h old new (reply_of_halt x) (no_passage x) es old.condition refl c
