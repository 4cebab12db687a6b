-- Each call of itself has one turn less to go.
use Rattle.minutes.proofs.+answer.Given as goal

abbrev pub decreases-answer : goal.decreases-answer
decreases-answer g l = l.again
