use Rattle.reversal.proofs.+copy.Given as goal

abbrev pub decreases-copy : goal.decreases-copy
decreases-copy l = l.e
