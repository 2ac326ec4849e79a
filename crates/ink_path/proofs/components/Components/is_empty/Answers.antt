use Rattle.std.proofs.Common.{◌≢◌, [], subst}
use Rattle.std.specs.Bool.{OnFalse}
use Rattle.ink_path.proofs.Lefts.{some_left}
use Rattle.ink_path.proofs.components.Components.is_empty.Goals as goal

pub returns-clause-some : goal.returns-clause-some
returns-clause-some c = subst (λ texts. OnFalse c.is_none.result (texts ≢ [])) c.self.view_is (some_left c.self.inside.rest c.is_none.result c.is_none.ensures)
