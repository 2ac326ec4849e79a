-- Going to a flow, and taking one away, by what flows stand for.
use Rattle.std.proofs.Common.{◌≡◌, ◌∙◌, ap, refl, sym, ℕ, List, [], ◌∷◌, ◌++◌, Bool, true, false, bytes_eq, IsTrue, unwrap_or, option_and_then, if◌then◌else◌, Some, None}
use Rattle.std.specs.Option.{option_map}
use Rattle.ink_flows.specs.Standing.{CurrentAt, NamedAt, aside_of, flow_of, flows_of, listed}
use Rattle.ink_flows.specs.declared.flow.Flow.{Flow}
use Rattle.ink_model.specs.Run.Configuration.{FlowOf}
use Rattle.ink_model.specs.Run.Flows.{AsideOf, FlowsOf, begins_with_default, current_name, default_flow, dropped, filled, goes_to, one_flow}
use Rattle.ink_model.specs.Variables.Named.{at, put, without}
use Rattle.ink_model.specs.Story.Tree.{StoryTree}
use Rattle.ink_model.specs.declared.place.Part.{Part}
use Rattle.ink_flows.proofs.Current.{at_filled, current_as, named_as, stays_aside, stays_there}
use Rattle.ink_flows.proofs.Laws.{begins_without, gone_last, named_last, other_way, same_way}
use Rattle.ink_flows.proofs.Mapped.{at_seen, current_seen, filled_seen, more_seen, put_seen, without_seen}

flows_as : {F : Type 0} {a b : F} {x y : AsideOf F} → a ≡ b → x ≡ y → ◌≡◌ {A = FlowsOf F} (record { current = a; aside = x }) (record { current = b; aside = y })
flows_as {F} {a} {b} {x} {y} e k = ap (λ f. let fs : FlowsOf F = record { current = f; aside = x } in fs) e ∙ ap (λ r. let fs : FlowsOf F = record { current = b; aside = r } in fs) k

-- ---- the first flow is there

pub listed_begins : (rows : AsideOf Flow) → IsTrue (begins_with_default rows) → listed rows ≡ rows
listed_begins [] h = absurd (cc)
listed_begins (r ∷ rows) h = refl

pub begins_listed : (rows : AsideOf Flow) → IsTrue (begins_with_default rows) → IsTrue (begins_with_default (listed rows))
begins_listed rows h = rw (listed_begins rows h) h

pub default_at : (rows : AsideOf Flow) → IsTrue (begins_with_default rows) → NamedAt default_flow 0 rows
default_at [] h = absurd (cc)
default_at (r ∷ rows) h = same_way default_flow r.0 h

-- of no row but that of the one flow
pub without_listed : (name : List ℕ) (rows : AsideOf Flow) → bytes_eq name default_flow ≡ false → IsTrue (begins_with_default (listed rows)) → listed (without name rows) ≡ without name (listed rows)
without_listed name [] other h = sym (ap (λ b. if b then [] else one_flow) other)
without_listed name (r ∷ rows) other h = listed_begins (without name (r ∷ rows)) (begins_without name (r ∷ rows) other h)

-- ---- by what they stand for

module _ (s : StoryTree) where
  -- to one that stands aside
  pub gone_at : (name : List ℕ) (f g : Flow) (x : FlowOf (List Part)) (rows : AsideOf Flow) → at name rows ≡ Some (Some g)
      → flows_of s g (put name None (filled f rows)) ≡ goes_to x name (flows_of s f rows)
  gone_at name f g x rows there =
      let seen = at_filled name (flow_of s f) (flow_of s g) (aside_of s rows) (at_seen (flow_of s) name rows ∙ ap (option_map (option_map (flow_of s))) there) in
      flows_as (sym (ap (λ o. unwrap_or (option_and_then (λ y. y) o) x) seen)) (put_seen (flow_of s) name None (filled f rows) ∙ ap (put name None) (filled_seen (flow_of s) f rows))

  -- to the current one
  pub stayed : (i : ℕ) (name : List ℕ) (f : Flow) (x : FlowOf (List Part)) (rows : AsideOf Flow) → CurrentAt i rows → NamedAt name i rows → flows_of s f rows ≡ goes_to x name (flows_of s f rows)
  stayed i name f x rows h k =
      let current = current_as (flow_of s) i rows h in
      let named = named_as (flow_of s) name i rows k in
      sym (flows_as (ap (λ o. unwrap_or (option_and_then (λ y. y) o) x) (stays_there i (aside_of s rows) name (flow_of s f) current named))
      (stays_aside i (aside_of s rows) name (flow_of s f) current named))

  absent_seen : (name : List ℕ) (rows : AsideOf Flow) → at name rows ≡ None → at name (aside_of s rows) ≡ None
  absent_seen name rows h = at_seen (flow_of s) name rows ∙ ap (option_map (option_map (flow_of s))) h

  -- to one that was made
  pub gone_made : (name : List ℕ) (f made : Flow) (x y : FlowOf (List Part)) (rows : AsideOf Flow) → at name rows ≡ None → flow_of s made ≡ x
      → goes_to y name (flows_of s f (rows ++ (name, Some made) ∷ [])) ≡ goes_to x name (flows_of s f rows)
  gone_made name f made x y rows absent same =
      ap (λ r. let fs : FlowsOf (FlowOf (List Part)) = record { current = flow_of s f; aside = r } in goes_to y name fs)
      (more_seen (flow_of s) rows name (Some made) ∙ ap (λ z. aside_of s rows ++ (name, Some z) ∷ []) same)
      ∙ flows_as (named_last name (flow_of s f) x y (aside_of s rows) (absent_seen name rows absent)) (gone_last name (flow_of s f) x (aside_of s rows) (absent_seen name rows absent))

  -- ---- taking one away

  pub other_dropped : (name : List ℕ) (f : Flow) (x : FlowOf (List Part)) (rows : AsideOf Flow) → bytes_eq (current_name rows) name ≡ false
      → flows_of s f (without name rows) ≡ dropped x name (flows_of s f rows)
  other_dropped name f x rows other = flows_as refl (without_seen (flow_of s) name rows) ∙ by (bytes_eq name (current_name (aside_of s rows))) (other_way name (current_name (aside_of s rows)) (ap (λ n. bytes_eq n name) (current_seen (flow_of s) rows) ∙ other))
    where
      by : (b : Bool) → b ≡ false → ◌≡◌ {A = FlowsOf (FlowOf (List Part))} (record { current = flow_of s f; aside = without name (aside_of s rows) })
          (let left = if b then goes_to x default_flow (flows_of s f rows) else flows_of s f rows in record { current = left.current; aside = without name left.aside })
      by true k = absurd (cc)
      by false k = refl

  pub current_dropped : (name : List ℕ) (f g : Flow) (x : FlowOf (List Part)) (rows left : AsideOf Flow) → bytes_eq (current_name rows) name ≡ true
      → flows_of s g left ≡ goes_to x default_flow (flows_of s f rows) → flows_of s g (without name left) ≡ dropped x name (flows_of s f rows)
  current_dropped name f g x rows left current gone =
      let named : bytes_eq (current_name (aside_of s rows)) name ≡ true = ap (λ n. bytes_eq n name) (current_seen (flow_of s) rows) ∙ current in
      flows_as refl (without_seen (flow_of s) name left)
      ∙ ap (λ fs. let rest : FlowsOf (FlowOf (List Part)) = record { current = fs.current; aside = without name fs.aside } in rest) gone
      ∙ ap (λ b. let fs = if b then goes_to x default_flow (flows_of s f rows) else flows_of s f rows in let rest : FlowsOf (FlowOf (List Part)) = record { current = fs.current; aside = without name fs.aside } in rest)
      (sym (same_way name (current_name (aside_of s rows)) named))
