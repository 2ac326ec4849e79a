-- All flows, as they are written.
use Rattle.std.proofs.Common.{◌≡◌, ◌∙◌, ap, refl, [], ◌∷◌, map, Option, Some, None, option_map, unwrap_or}
use Rattle.ink_flows.specs.Standing.{aside_of, flow_of}
use Rattle.ink_flows.specs.declared.flow.Flow.{Flow}
use Rattle.ink_model.specs.Host.Events.{items_of}
use Rattle.ink_model.specs.Run.Flows.{AsideOf, all_flows}
use Rattle.ink_model.specs.Save.Spelling.{list_data, named_flow_data}
use Rattle.ink_model.specs.Story.Tree.{StoryTree}
use Rattle.ink_parts.proofs.Common.{row_in, array}

module _ (s : StoryTree) (f : Flow) where
  or_else : (o : Option Flow) → flow_of s (unwrap_or o f) ≡ unwrap_or (option_map (flow_of s) o) (flow_of s f)
  or_else None = refl
  or_else (Some g) = refl

  rows_shown : (rows : AsideOf Flow) → map (row_in s f) rows ≡ map named_flow_data (all_flows (flow_of s f) (aside_of s rows))
  rows_shown [] = refl
  rows_shown (r ∷ rows) =
      ap (λ g. named_flow_data (r.0, g) ∷ map (row_in s f) rows) (or_else r.1)
      ∙ ap (λ ds. named_flow_data (r.0, unwrap_or (option_map (flow_of s) r.1) (flow_of s f)) ∷ ds) (rows_shown rows)

  pub flows_shown : (rows : AsideOf Flow) → list_data (row_in s f) rows ≡ list_data named_flow_data (all_flows (flow_of s f) (aside_of s rows))
  flows_shown rows = ap (λ ds. array (items_of ds)) (rows_shown rows)
