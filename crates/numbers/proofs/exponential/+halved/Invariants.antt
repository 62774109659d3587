-- The measure is the number of halvings left.
use Rattle.numbers.proofs.exponential.+halved.Given as goal

abbrev pub decreases-halved : goal.decreases-halved
decreases-halved l = l.left
