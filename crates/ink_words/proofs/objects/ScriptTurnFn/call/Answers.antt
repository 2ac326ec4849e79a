use Rattle.std.proofs.Common.{◌≡◌, ◌∙◌, ◌∷◌, ◌++◌, [], refl, sym, Some}
use Rattle.ink_words.specs.Scripts.{noted}
use Rattle.ink_words.proofs.Scripted.{always_scripted, noted_after, of_answer, whole_after}
use Rattle.ink_words.proofs.objects.ScriptTurnFn.call.Goals as goal

pub invariant_of-self-2 : goal.invariant_of-self-2
invariant_of-self-2 c =
    let s = c.args.self.now in
    record {
      whole = whole_after s.arguments.items c.add_copies.new.copies.items c.args.arguments.now s.turns.items c.reserve.new.self.items c.push_reserved.new.self.items _
          s.whole refl c.in-Ok-add_copies.ensures.ok c.reserve.ensures.items c.push_reserved.ensures.items;
      scripted = always_scripted s.answers.items c.add_copies.new.copies.items c.push_reserved.new.self.items;
    }

pub returns-in-Some-clause-answer : goal.returns-in-Some-clause-answer
returns-in-Some-clause-answer c g is =
    let s = c.args.self.now in
    of_answer (λ a. noted s.answers.items c.add_copies.new.copies.items c.push_reserved.new.self.items ≡ noted s.answers.items s.arguments.items s.turns.items ++ record { stamp = c.args.stamp; arguments = c.args.arguments.now; gave = Some a } ∷ []) c.in-Some.given g is
    (noted_after s.answers.items c.deref.result.now s.arguments.items c.add_copies.new.copies.items c.args.arguments.now s.turns.items c.reserve.new.self.items c.push_reserved.new.self.items _ c.len-turn.result c.get.result _
    s.whole refl c.in-Ok-add_copies.ensures.ok c.reserve.ensures.items c.push_reserved.ensures.items c.get.ensures.lookup c.deref.ensures.value (c.len-turn.ensures ∙ s.turns.ok.0) (sym c.in-Some.is ∙ c.in-Ok.ensures))

pub returns-in-None-clause-refused : goal.returns-in-None-clause-refused
returns-in-None-clause-refused c is =
    let s = c.args.self.now in
    noted_after s.answers.items c.deref.result.now s.arguments.items c.add_copies.new.copies.items c.args.arguments.now s.turns.items c.reserve.new.self.items c.push_reserved.new.self.items _ c.len-turn.result c.get.result _
    s.whole refl c.in-Ok-add_copies.ensures.ok c.reserve.ensures.items c.push_reserved.ensures.items c.get.ensures.lookup c.deref.ensures.value (c.len-turn.ensures ∙ s.turns.ok.0) (sym c.in-None.is ∙ c.in-Ok.ensures)
