use Rattle.std.proofs.Common.{◌≡◌, drop, length, map, take}
use Rattle.ink_model.specs.Story.Acceptance.{bad_places, counted_container, written_target}
use Rattle.ink_model.specs.Story.Places.{places}
use Rattle.ink_tree.specs.Nodes as nodes
use Rattle.ink_check.specs.Links.{counted_place, number_of, pushed_of, pushed_path, target_place}
use Rattle.ink_check.specs.Names.{names, names_from, variable_number}
use Rattle.ink_model.specs.Story.Tree.{at}
use Rattle.ink_check.proofs.Checked.{bad_from}
use Rattle.ink_check.proofs.checking.links_of.Given as goal

abbrev pub invariant-loop-number : goal.invariant-loop-number
invariant-loop-number l = record {
  many : length l.links ≡ l.number;
  good : bad_places (nodes.story_tree l.tree) ≡ bad_from (nodes.story_tree l.tree) l.number;
  leading : map (target_place (nodes.story_tree l.tree)) l.links ≡ map (written_target (nodes.story_tree l.tree)) (take l.number (places (nodes.story_tree l.tree)));
  counting : map (counted_place (nodes.story_tree l.tree)) l.links ≡ map (counted_container (nodes.story_tree l.tree)) (take l.number (places (nodes.story_tree l.tree)));
  pushing : map pushed_of l.links ≡ map (λ p. pushed_path (at (nodes.story_tree l.tree) p)) (take l.number (places (nodes.story_tree l.tree)));
  numbering : map number_of l.links ≡ map (variable_number (nodes.story_tree l.tree)) (take l.number (places (nodes.story_tree l.tree)));
  naming : names_from (nodes.story_tree l.tree) (drop l.number (places (nodes.story_tree l.tree))) l.names ≡ names (nodes.story_tree l.tree);
}
