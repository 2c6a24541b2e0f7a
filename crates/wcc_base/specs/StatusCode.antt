-- The exit status of the process for each way in which a call ends.
use Rattle.std.specs.Prelude.{ℕ}
use Rattle.wcc_base.specs.declared.status.Status.{Status}
use Rattle.wcc_base.specs.declared.status.Status.TheVariants.{Done, Refused, Usage, Limit, ReadFault, WriteFault, Memory, No, Stopped}

abbrev pub code_of : Status → ℕ
code_of Done = 0
code_of (Refused code detail at) = 1
code_of Usage = 2
code_of (Limit which found) = 3
code_of ReadFault = 4
code_of WriteFault = 5
code_of Memory = 6
code_of (No code detail at) = 7
code_of (Stopped kind code at cycles) = 8
