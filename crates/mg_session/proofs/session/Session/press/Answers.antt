use Rattle.mg_session.proofs.session.Session.press.Goals as goal

pub returns : goal.returns
returns g c = (_, _, c.take_key-course.ensures _, c.is_amid_keys.ensures, rw (← c.follows_key-is_asked.ensures) (c.show_if.ensures _))
