use Rattle.std.proofs.Common.{◌≡◌, ◌≤◌, ◌+◌, ◌-◌, [], ◌∷◌, ◌++◌, length, map, reverse, subst, sym, ◌∙◌, ap, arith, rules}
use Rattle.std.proofs.lemmas.Grind.{common_steps}
use Rattle.std.proofs.lemmas.List.{length-append, length-reverse}
use Rattle.ink_out.proofs.Common.{piece_mark, IsStateOf, Knows, Held, output_back, with_open, Wrote}
use Rattle.ink_out.proofs.Standing.{sees_more, knows_piece}
use Rattle.ink_out.proofs.Undoing.{goes-with, held_less, open_with, wrote_back}
use Rattle.ink_out.proofs.section.append.Goals as goal
use Rattle.ink_trail.proofs.Undoing.{trails-more, trails-one, trails-trails}

pub loop-piece-preserved : goal.loop-piece-preserved
loop-piece-preserved c =
    let inv = c.loop-piece.invariant in
    let marks = c.loop-piece.marks.items in
    let settled = c.loop-piece.settled.items in
    let mark = c.into_mark-mark.result in
    let state = c.loop-piece.state in
    let is : c.push_reserved.new.self.items ≡ marks ++ mark ∷ [] = search rules in
    let at : c.len.result ≡ length (reverse marks) = let len : c.len.result ≡ length marks = search rules in len ∙ sym (length-reverse marks) in
    record {
      next = tt;
      finite = tt;
      marks = grind (arith, common_steps);
      room = grind (arith, common_steps);
      settled = grind (arith, common_steps);
      few = grind (arith, common_steps);
      spares = grind (arith, common_steps);
      sees = λ h.
          let sees = inv.sees h in
          let knows : Knows c.args.enters.now (mark ∷ reverse marks) = rw c.into_mark-mark.ensures (knows_piece c.in-Some.piece c.args.enters.now (reverse marks) sees.knows) in
          rw is
          (sees_more marks settled c.settle.new.settled.items c.loop-piece.state c.add.new.self c.args.enters.now c.args.enters.now mark
          (search rules)
          (c.add.ensures (reverse marks) (reverse settled) at knows)
          knows sees);
      trail = λ page.
          let rest : length c.loop-piece.piece-iterator ≡ length c.next.new.self + 1 = grind (arith, common_steps) in
          rw is
          (trails-more output_back (length c.args.pieces.items - length c.loop-piece.piece-iterator + 1) _ _ _ _ _ (omega (arith, rest, inv.few))
          (trails-trails output_back _ 1 _ (with_open marks page) _ _ c.loop-piece.trail _ (inv.trail page)
          (trails-one output_back (Wrote state) 1 _ _ _ _ (omega arith) (wrote_back state marks mark page) c.note.ensures.undo c.note.ensures.room)));
      back = λ h page room held went.
          let all : marks ++ map piece_mark c.loop-piece.piece-iterator ≡ c.push_reserved.new.self.items ++ map piece_mark c.next.new.self = grind (arith, common_steps) in
          let less : length (marks ++ mark ∷ []) ≤ length (c.push_reserved.new.self.items ++ map piece_mark c.next.new.self) =
          omega (arith, length-append c.push_reserved.new.self.items (map piece_mark c.next.new.self), ap length is) in
          let sees = inv.sees h in
          rw (is, c.note.ensures.undo)
          (goes-with (Wrote state) 1 (with_open marks page) (with_open (marks ++ mark ∷ []) page) c.loop-piece.trail.undo room room (wrote_back state marks mark page)
          (held_less room (marks ++ mark ∷ []) _ page less held)
          (subst (λ ms. IsStateOf ms state) (sym (open_with marks page)) (reverse settled, sees.stands)) (omega arith)
          (inv.back h page room (subst (λ ms. Held room (with_open ms page)) (sym all) held) went));
    }

pub returns-clause-trail : goal.returns-clause-trail
returns-clause-trail c = λ page.
    let none : length c.loop-piece.piece-iterator ≡ 0 = grind (arith, common_steps) in
    trails-more output_back (length c.args.pieces.items - length c.loop-piece.piece-iterator) _ _ _ _ _ (omega (arith, none)) (c.loop-piece.invariant.trail page)
