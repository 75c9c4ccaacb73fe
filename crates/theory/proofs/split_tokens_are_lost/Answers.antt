use Rattle.theory.proofs.Mistakes.{split_tokens_are_lost}
use Rattle.theory.proofs.split_tokens_are_lost.Goals as goal

pub returns : goal.returns
returns c = split_tokens_are_lost
