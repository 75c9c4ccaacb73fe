-- The state of a session.
use Rattle.net.specs.States.{State, view}
use Rattle.session.specs.declared.session.Session.{Session}

abbrev pub opened : Session → State
opened s = view s.net
