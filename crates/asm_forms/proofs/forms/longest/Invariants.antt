use Rattle.std.proofs.Common.{◌≡◌, ◌++◌, drop}
use Rattle.asm_forms.specs.Shorter.{functions_longest}
use Rattle.asm_forms.proofs.forms.longest.Given as goal

abbrev pub invariant-loop-blocks : goal.invariant-loop-blocks
invariant-loop-blocks l = l.new.items ++ functions_longest (drop l.blocks-index l.functions) ≡ functions_longest l.functions
