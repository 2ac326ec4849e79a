use Rattle.std.proofs.Common.{◌∙◌, ◌+◌, ap, sym, subst, length, ◌∷◌, []}
use Rattle.ink_tree.proofs.Common.{length-append, AreLinked, IsLinked, story_tree, node_place}
use Rattle.ink_tree.proofs.Kept.{none_linked, all_more}
use Rattle.ink_tree.proofs.tree.Tree.link_all.Goals as goal

pub loop-number-init : goal.loop-number-init
loop-number-init c =
    let s = story_tree c.args.self.now in
    record {
      all = subst (AreLinked s) (sym c.in_ok-links.ensures.items) (none_linked s);
      many = ap length c.in_ok-links.ensures.items;
    }

pub loop-number-preserved : goal.loop-number-preserved
loop-number-preserved c =
    let s = story_tree c.args.self.now in
    let l = c.loop-number in
    let own = c.new_link-own.result in
    let more = c.in_ok-push.ensures.items in
    record {
      all = rw more (all_more l.links.items own (λ k. IsLinked s (node_place s (record { number = k }))) l.invariant.all
          (subst (λ k. IsLinked s (node_place s (record { number = k })) own) (sym l.invariant.many) c.new_link-own.ensures));
      many = ap length more ∙ length-append l.links.items (own ∷ []) ∙ ap (λ k. k + 1) l.invariant.many;
    }
