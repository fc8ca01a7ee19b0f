use Rattle.reversal.proofs.+reverse_path.Given as goal

abbrev pub decreases-reverse_path : goal.decreases-reverse_path
decreases-reverse_path l = l.e
