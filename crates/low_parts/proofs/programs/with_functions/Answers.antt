use Rattle.low_parts.proofs.programs.with_functions.Goals as goal

pub invariant_of-result : goal.invariant_of-result
invariant_of-result c = record { is_low = c.requires }
