-- What a statement stands in, as the code has it.
use Rattle.types_rules.specs.StatementRules.{Within}
use Rattle.types_statement.specs.declared.checked.Within as code

abbrev pub within_said : code.Within → Within
within_said w = record { result = w.result; loop = w.in_loop; exit = w.has_exit }
