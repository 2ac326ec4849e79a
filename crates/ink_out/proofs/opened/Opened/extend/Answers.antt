use Rattle.ink_out.proofs.opened.Opened.extend.Goals as goal

pub returns-clause-trail : goal.returns-clause-trail
returns-clause-trail c = λ page. rw (← c.self.view_is) (rw c.deref_mut.ensures.value at (c.extend.ensures.trail page))
