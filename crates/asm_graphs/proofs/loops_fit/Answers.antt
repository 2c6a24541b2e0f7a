use Rattle.asm_graphs.proofs.FittingLemmas.{fits}
use Rattle.asm_graphs.proofs.loops_fit.Goals as goal

pub returns : goal.returns
returns c = λ g l main image claims s ls h sys of shapes. fits g l main image claims s h sys ls of shapes
