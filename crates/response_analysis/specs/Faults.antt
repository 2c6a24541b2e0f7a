-- Why there are no responses.
use Rattle.std.specs.Prelude.{List}
use Rattle.response_analysis.specs.declared.task.Task.{Task}
use Rattle.response_analysis.specs.declared.fault.TaskFault.{TaskFault}
use Rattle.response_analysis.specs.declared.fault.TaskFault.TheVariants.{Late, Memory}
use Rattle.response_analysis.specs.Equation.{IsFirstLate}

-- a fault has its cause; want of memory may come at any time
abbrev pub IsCause : List Task → TaskFault → Type 0
IsCause tasks (Late task) = IsFirstLate tasks task
IsCause tasks Memory = Unit {0}
