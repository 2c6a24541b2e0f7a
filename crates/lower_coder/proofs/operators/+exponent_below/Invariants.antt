use Rattle.lower_coder.proofs.operators.+exponent_below.Given as goal

abbrev pub decreases-exponent_below : goal.decreases-exponent_below
decreases-exponent_below l = l.bound
