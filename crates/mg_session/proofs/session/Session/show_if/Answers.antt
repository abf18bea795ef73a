use Rattle.mg_session.proofs.session.Session.show_if.Goals as goal

pub returns-then-is_asked : goal.returns-then-is_asked
returns-then-is_asked g c = λ calls. rw c.if-is_asked.true (c.show.ensures calls)
