use Rattle.std.proofs.Common.{◌≡◌, ◌∙◌, ◌-◌, ◌+◌, ◌<◌, ◌++◌, true, false, ap, arith, get_or, length, length-set, refl, reverse, set, subst, sym}
use Rattle.std.proofs.lemmas.List.{drop_all, get_or-set_same}
use Rattle.ink_stack.proofs.Common.{is_function, stale, Covers, IsQuiet}
use Rattle.ink_stack.proofs.Bases.{stale_kind}
use Rattle.ink_stack.proofs.Numbers.{some_frame}
use Rattle.ink_stack.proofs.Quietness.{quiet_end, quiet_step, quiet_stop}
use Rattle.ink_stack.proofs.Runs.{run_at, run_end, run_start, run_step, run_stop}
use Rattle.ink_stack.proofs.Settling.{settled_set, stale_number}
use Rattle.ink_stack.proofs.running.end_freshness_of.Goals as goal

pub loop-count-init : goal.loop-count-init
loop-count-init g c =
    let fs = c.args.frames.now.items in
    record {
      within = omega arith;
      run = ap (λ n. run_at c.args.depth n fs) c.len-count.ensures ∙ run_start c.args.depth fs;
      quiet = λ m more within quiet. subst (λ gs. IsQuiet m (reverse gs ++ more)) (sym (drop_all c.len-count.result fs (omega arith))) quiet;
      settled = λ n h. h;
      room = refl;
    }

pub returns-then-not-is_function-clause-run : goal.returns-then-not-is_function-clause-run
returns-then-not-is_function-clause-run g c =
    let fs = c.loop-count.frames.items in
    let n = c.loop-count.count in
    let inside : n - 1 < length fs = omega arith in
    let d = some_frame fs (omega arith) in
    let kind = c.is_function.ensures d in
    let other : is_function (get_or fs (n - 1) d).kind ≡ false = cc in
    let count : n ≡ n - 1 + 1 = omega arith in
    run_stop c.args.depth fs (n - 1) n d count inside other ∙ c.loop-count.invariant.run

pub returns-then-not-is_function-clause-quiet : goal.returns-then-not-is_function-clause-quiet
returns-then-not-is_function-clause-quiet g c =
    let fs = c.loop-count.frames.items in
    let n = c.loop-count.count in
    let inside : n - 1 < length fs = omega arith in
    let d = some_frame fs (omega arith) in
    let kind = c.is_function.ensures d in
    let other : is_function (get_or fs (n - 1) d).kind ≡ false = cc in
    let count : n ≡ n - 1 + 1 = omega arith in
    quiet_stop fs (n - 1) n d c.loop-count.quiet count inside other c.loop-count.invariant.quiet

pub returns-clause-run : goal.returns-clause-run
returns-clause-run g c =
    let fs = c.loop-count.frames.items in
    let none : c.loop-count.count ≡ 0 = omega arith in
    run_end c.args.depth fs ∙ ap (λ n. run_at c.args.depth n fs) (sym none) ∙ c.loop-count.invariant.run

pub returns-clause-quiet : goal.returns-clause-quiet
returns-clause-quiet g c =
    let fs = c.loop-count.frames.items in
    let none : c.loop-count.count ≡ 0 = omega arith in
    quiet_end fs c.loop-count.quiet (rw none at c.loop-count.invariant.quiet)

pub loop-count-preserved : goal.loop-count-preserved
loop-count-preserved g c =
    let fs = c.loop-count.frames.items in
    let n = c.loop-count.count in
    let depth = c.args.depth in
    let inside : n - 1 < length fs = omega arith in
    let d = some_frame fs (omega arith) in
    let kind = c.is_function.ensures d in
    let function : is_function (get_or fs (n - 1) d).kind ≡ true = cc in
    let count : n ≡ n - 1 + 1 = omega arith in
    let g = stale depth (get_or fs (n - 1) d) in
    let items : c.end_one-was.new.self.items ≡ set fs (n - 1) g = c.end_one-was.ensures.items d in
    let kept : is_function g.kind ≡ true = ap is_function (stale_kind depth (get_or fs (n - 1) d)) ∙ function in
    let covers = subst (λ f. Covers c.loop-count.quiet f c.quiet_above-quiet.result) (ap (λ gs. get_or gs (n - 1) d) items ∙ get_or-set_same fs (n - 1) g d inside) (c.quiet_above-quiet.ensures d) in
    record {
      within = rw items (rw length-set (omega arith));
      run = ap (λ gs. run_at depth (n - 1) gs) items ∙ run_step depth fs (n - 1) n d g count inside function refl ∙ c.loop-count.invariant.run;
      quiet = rw items (quiet_step fs (n - 1) n g c.loop-count.quiet c.quiet_above-quiet.result count inside kept covers c.loop-count.invariant.quiet);
      settled = λ m h. rw items (settled_set m fs (n - 1) d g (stale_number depth (get_or fs (n - 1) d)) (c.loop-count.invariant.settled m h));
      room = c.end_one-was.ensures.room ∙ c.loop-count.invariant.room;
    }

pub quiet_above-quiet-requires : goal.quiet_above-quiet-requires
quiet_above-quiet-requires g c =
    let fs = c.loop-count.frames.items in
    let n = c.loop-count.count in
    let d = some_frame fs (omega arith) in
    rw (c.end_one-was.ensures.items d) (rw length-set (omega arith))
