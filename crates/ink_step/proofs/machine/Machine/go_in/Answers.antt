use Rattle.std.proofs.Common.{ap, sym}
use Rattle.ink_step.proofs.Common.{all_visited, counts_in, stood_of}
use Rattle.ink_step.proofs.Goings.{goes_nowhere_in, passes_none, went_in}
use Rattle.ink_step.proofs.machine.Machine.go_in.Goals as goal
use Rattle.ink_tree.specs.Nodes.{place_of, story_tree}

pub returns-in_default-clause-here : goal.returns-in_default-clause-here
returns-in_default-clause-here c = let s = story_tree c.args.tree.now in goes_nowhere_in s (place_of s c.args.place) c.in_default.ensures

pub returns-in_default-clause-ok : goal.returns-in_default-clause-ok
returns-in_default-clause-ok c =
    let s = story_tree c.args.tree.now in
    let p = place_of s c.args.place in
    let machine = c.args.self.now in
    went_in s p machine c.args.place c.put.new.self.threads c.put.ensures.threads machine.shared.counts.rows (goes_nowhere_in s p c.in_default.ensures)
    (ap (λ ps. all_visited s machine.shared.turn ps (counts_in s machine.shared.counts.rows)) (sym (passes_none s p c.in_default.ensures)))

pub returns-in_default-clause-mark : goal.returns-in_default-clause-mark
returns-in_default-clause-mark c = ap (λ o. record (stood_of c.args.self.now) { threads = o }) c.put.ensures.stood
