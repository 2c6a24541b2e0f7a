-- The program that a value of the code stands for.
use Rattle.high_ir.specs.declared.high.High.{High}
use Rattle.high_ir.specs.Tree.{Program}
use Rattle.high_ir.specs.View.{program}

abbrev pub program_of : High → Program
program_of high = program high.functions.items high.objects.items high.main high.marks high.loops
