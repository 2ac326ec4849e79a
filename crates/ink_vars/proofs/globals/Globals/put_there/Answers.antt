use Rattle.ink_trail.proofs.Undoing.{stood-or-kept}
use Rattle.ink_vars.specs.Undo.{global_back, globals_stood}
use Rattle.std.proofs.Common.{◌∙◌, sym}
use Rattle.ink_vars.proofs.Either.{on_err}
use Rattle.ink_vars.proofs.globals.Globals.put_there.Goals as goal

pub returns-then-is_marked-clause-stood : goal.returns-then-is_marked-clause-stood
unfolding globals_stood
returns-then-is_marked-clause-stood c = stood-or-kept global_back c.put_marked_at.result 1 _ _ _ _ c.put_marked_at.ensures.trail

pub returns-then-is_marked-clause-memory : goal.returns-then-is_marked-clause-memory
returns-then-is_marked-clause-memory c = on_err c.put_marked_at.result (sym c.is_marked.ensures ∙ c.if-is_marked.true)
