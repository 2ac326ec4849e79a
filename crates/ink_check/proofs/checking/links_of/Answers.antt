use Rattle.std.proofs.Common.{◌≤◌, ◌∙◌, ◌∷◌, [], ap, length, arith, rules}
use Rattle.std.proofs.lemmas.List.{length-append}
use Rattle.std.proofs.lemmas.Result.{err_from_is_err_and}
use Rattle.ink_model.specs.Story.Acceptance.{counted_container, written_target}
use Rattle.ink_model.specs.Story.Places.{places}
use Rattle.ink_model.specs.Story.Tree.{at}
use Rattle.ink_tree.specs.Nodes.{story_tree}
use Rattle.ink_check.specs.Links.{counted_place, number_of, pushed_of, pushed_path, target_place}
use Rattle.ink_check.specs.Names.{names_from, variable_number}
use Rattle.ink_check.proofs.Checked.{all_bad, all_linked, first_bad, good_next, link_next, names_next, none_left, number_next}
use Rattle.ink_check.proofs.checking.links_of.Goals as goal

pub loop-number-init : goal.loop-number-init
loop-number-init c = record {
  many = ap length c.in_ok-links.ensures;
  good = all_bad _;
  leading = search rules;
  counting = search rules;
  pushing = search rules;
  numbering = search rules;
  naming = ap (λ ns. names_from (story_tree c.args.tree.now) (places (story_tree c.args.tree.now)) ns) c.requires;
}

pub returns-in_err-link-clause-err : goal.returns-in_err-link-clause-err
returns-in_err-link-clause-err c =
    let p = err_from_is_err_and c.from_residual-in_err-link.result c.from_residual-in_err-link.ensures.1 in
    rw (p.1, p.2) (first_bad _ c.node_link.new.names c.loop-number.number _ (omega arith) c.loop-number.invariant.good c.in_err-link.ensures.link)

pub loop-number-preserved : goal.loop-number-preserved
unfolding counted_container written_target
loop-number-preserved c = record {
  many = omega (arith, c.loop-number.invariant.many, ap length c.in_ok-add.ensures.ok, length-append c.loop-number.links (c.in_ok-link.link ∷ []));
  good = c.loop-number.invariant.good ∙ good_next _ c.loop-number.number (omega arith) c.in_ok-link.ensures.link.0;
  leading = link_next _ (target_place _) (written_target _) c.loop-number.number c.loop-number.links _ c.in_ok-link.link (omega arith) c.in_ok-link.ensures.link.1 c.in_ok-add.ensures.ok c.loop-number.invariant.leading;
  counting = link_next _ (counted_place _) (counted_container _) c.loop-number.number c.loop-number.links _ c.in_ok-link.link (omega arith) c.in_ok-link.ensures.link.2 c.in_ok-add.ensures.ok c.loop-number.invariant.counting;
  pushing = link_next _ pushed_of (λ p. pushed_path (at _ p)) c.loop-number.number c.loop-number.links _ c.in_ok-link.link (omega arith) c.in_ok-link.ensures.link.3 c.in_ok-add.ensures.ok c.loop-number.invariant.pushing;
  numbering = link_next _ number_of (variable_number _) c.loop-number.number c.loop-number.links _ c.in_ok-link.link (omega arith) (number_next _ c.loop-number.number c.loop-number.names _ c.in_ok-link.link (omega arith) c.in_ok-link.ensures.names c.in_ok-link.ensures.link.4 c.loop-number.invariant.naming) c.in_ok-add.ensures.ok c.loop-number.invariant.numbering;
  naming = names_next _ c.loop-number.number c.loop-number.names _ (omega arith) c.in_ok-link.ensures.names c.loop-number.invariant.naming;
}

end : (c : goal.After-trim) → length (places (story_tree c.args.tree.now)) ≤ c.loop-number.number
end c = omega (arith, c.loop-number-test.false, c.len-number-end.ensures.all)

pub returns-clause-good : goal.returns-clause-good
returns-clause-good c = c.loop-number.invariant.good ∙ none_left _ c.loop-number.number (end c)

pub returns-clause-leading : goal.returns-clause-leading
unfolding written_target
returns-clause-leading c = all_linked _ (target_place _) (written_target _) c.loop-number.number _ _ c.trim.ensures (end c) c.loop-number.invariant.leading

pub returns-clause-counting : goal.returns-clause-counting
unfolding counted_container
returns-clause-counting c = all_linked _ (counted_place _) (counted_container _) c.loop-number.number _ _ c.trim.ensures (end c) c.loop-number.invariant.counting

pub returns-clause-pushing : goal.returns-clause-pushing
returns-clause-pushing c = all_linked _ pushed_of (λ p. pushed_path (at _ p)) c.loop-number.number _ _ c.trim.ensures (end c) c.loop-number.invariant.pushing

pub returns-clause-numbering : goal.returns-clause-numbering
returns-clause-numbering c = all_linked _ number_of (variable_number _) c.loop-number.number _ _ c.trim.ensures (end c) c.loop-number.invariant.numbering
