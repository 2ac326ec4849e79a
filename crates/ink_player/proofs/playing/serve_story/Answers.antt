use Rattle.ink_player.proofs.playing.serve_story.Goals as goal

pub returns-in-Ok-clause-plays : goal.returns-in-Ok-clause-plays
returns-in-Ok-clause-plays g c = rw c.close.ensures.desk c.in-Ok.ensures.plays.0

pub returns-in-Ok-clause-rest : goal.returns-in-Ok-clause-rest
returns-in-Ok-clause-rest g c = rw c.close.ensures.desk c.in-Ok.ensures.rest
