use Rattle.ink_player.proofs.saving.loaded_text.Goals as goal

pub returns-in-Err-clause-finds : goal.returns-in-Err-clause-finds
returns-in-Err-clause-finds c = (c.in-Err.cause, c.save_refusal.ensures, c.in-Err.ensures.reads)
