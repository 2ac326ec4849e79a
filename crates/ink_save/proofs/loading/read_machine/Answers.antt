use Rattle.std.proofs.Common.{◌∙◌, ap, sym}
use Rattle.ink_save.proofs.Reading.{found_of, none_of}
use Rattle.ink_spelling.proofs.Asking.{layouts_ask, or_else}
use Rattle.ink_spelling.specs.Layouts.{layout_as}
use Rattle.ink_tree.specs.Nodes.{story_tree}
use Rattle.std.specs.Option.{option_map}
use Rattle.ink_save.proofs.loading.read_machine.Goals as goal

pub returns-in-Some-clause-made : goal.returns-in-Some-clause-made
returns-in-Some-clause-made g c =
    found_of (story_tree c.args.tree.now) (g.J.Json.spells c.args.json) c.in-Some.saved c.build_machine.result (ap (option_map layout_as) (sym c.in-Some.is) ∙ c.in_ok-saved.ensures.saved) c.build_machine.ensures.made

pub returns-in-None-clause-made : goal.returns-in-None-clause-made
returns-in-None-clause-made g c =
    none_of (story_tree c.args.tree.now) (g.J.Json.spells c.args.json) (ap (option_map layout_as) (sym c.in-None.is) ∙ c.in_ok-saved.ensures.saved)

pub returns-in-Some-clause-memory : goal.returns-in-Some-clause-memory
returns-in-Some-clause-memory g c =
    or_else c.build_machine.result (layouts_ask (g.J.Json.spells c.args.json) (layout_as c.in-Some.saved) (sym c.in_ok-saved.ensures.saved ∙ ap (option_map layout_as) c.in-Some.is))
