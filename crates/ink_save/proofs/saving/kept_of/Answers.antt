use Rattle.std.proofs.Common.{◌∙◌, ap, sym}
use Rattle.ink_flows.specs.Standing.{aside_of, flow_of}
use Rattle.ink_model.specs.Text.Output.{empty_page}
use Rattle.ink_parts.specs.Counted.{rows_at}
use Rattle.ink_step.specs.Standing.{rows_in}
use Rattle.ink_tree.specs.Nodes.{story_tree}
use Rattle.ink_save.proofs.saving.kept_of.Goals as goal

pub returns : goal.returns
returns c =
    let s = story_tree c.args.tree.now in
    let turns = ap (rows_at s) (sym c.own_slots.ensures) ∙ ap (rows_in s) c.turns.ensures in
    let visits = ap (rows_at s) (sym c.own_slots-2.ensures) ∙ ap (rows_in s) c.visits.ensures in
    λ i. record {
      now = record {
        flow = flow_of s c.args.flow.now;
        shared = record { globals = c.args.shared.now.globals.rows; counts = record { visits = visits i; turns = turns i }; turn = c.args.shared.now.turn };
        page = empty_page;
      };
      aside = aside_of s c.args.aside.now;
    }
