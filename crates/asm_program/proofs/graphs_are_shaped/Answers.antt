use Rattle.asm_program.proofs.GraphLemmas.{shaped}
use Rattle.asm_program.proofs.graphs_are_shaped.Goals as goal

pub returns : goal.returns
returns c = λ m p ok. shaped m p ok
