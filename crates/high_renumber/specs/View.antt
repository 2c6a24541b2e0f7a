-- What the code has, without where it lies in memory.
use Rattle.high_ir.specs.Tree.{Program}
use Rattle.high_ir.specs.View.{program}
use Rattle.high_renumber.specs.declared.loose.Loose.{Loose}

abbrev pub loose_program : Loose → Program
loose_program p = program p.functions.items p.objects.items p.main p.marks p.loops
