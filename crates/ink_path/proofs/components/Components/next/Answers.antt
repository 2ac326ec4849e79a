use Rattle.std.proofs.Common.{◌∙◌, ap, arith, length, sym, Some, None, lit<}
use Rattle.std.proofs.lemmas.Str.Pattern.{split_parts}
use Rattle.ink_model.specs.Text.Bytes.{pieces, is_dot}
use Rattle.ink_path.specs.Components.{texts_of}
use Rattle.ink_path.proofs.Reading.{first_piece, one_piece}
use Rattle.ink_path.proofs.components.Components.next.Goals as goal

pub returns-in-Some-clause-first : goal.returns-in-Some-clause-first
returns-in-Some-clause-first c =
    let (split, none) = split_parts 46 _ (Some (c.in-Some.first, c.in-Some.others)) c.in-Some.ensures.cases (lit< tt) in
    sym c.self.view_is ∙ ap texts_of c.in_ok-rest.was ∙ ap (pieces is_dot) split ∙ first_piece c.in-Some.first.now c.in-Some.others.now none

pub returns-in-Some-clause-shorter : goal.returns-in-Some-clause-shorter
returns-in-Some-clause-shorter c = omega (arith, ap length (returns-in-Some-clause-first c))

pub returns-in-None-clause-first : goal.returns-in-None-clause-first
returns-in-None-clause-first c =
    let none = split_parts 46 _ None c.in-None.ensures.cases (lit< tt) in
    sym c.self.view_is ∙ ap texts_of c.in_ok-rest.was ∙ one_piece c.in_ok-rest.rest.now none

pub returns-in-None-clause-shorter : goal.returns-in-None-clause-shorter
returns-in-None-clause-shorter c = omega (arith, ap length (returns-in-None-clause-first c))
