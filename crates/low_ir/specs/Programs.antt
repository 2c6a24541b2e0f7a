-- The program that a value of the code stands for.
use Rattle.low_ir.specs.declared.low.Low as lows
use Rattle.low_ir.specs.Code.{Low}
use Rattle.low_ir.specs.View.{program}

abbrev pub low_of : lows.Low → Low
low_of code = program code.functions.items code.claims.items code.objects.items code.main code.marks
