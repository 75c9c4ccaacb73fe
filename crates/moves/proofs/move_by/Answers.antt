use Rattle.moves.proofs.move_by.Goals as goal

pub returns-in-FusePlaces-clause-answer : goal.returns-in-FusePlaces-clause-answer
returns-in-FusePlaces-clause-answer c = rw c.in-FusePlaces.is c.fuse.ensures.answer
