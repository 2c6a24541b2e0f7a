-- What a fault below comes to as a cause: want of memory is the same one wherever it comes.
use Rattle.elf_image.specs.declared.fault.ElfFault.{ElfFault}
use Rattle.elf_image.specs.declared.fault.ElfFault.TheVariants as elf
use Rattle.code_flow.specs.declared.finding.CodeFault.{CodeFault}
use Rattle.code_flow.specs.declared.finding.CodeFault.TheVariants as code
use Rattle.report_reading.specs.declared.fault.ReportFault.{ReportFault}
use Rattle.report_reading.specs.declared.fault.ReportFault.TheVariants as reading
use Rattle.report_check.specs.declared.verdict.Cause.{Cause}
use Rattle.report_check.specs.declared.verdict.Cause.TheVariants.{NoImage, NoReport, BadClaim, NoCode, Memory}

abbrev pub image_cause : ElfFault → Cause
image_cause elf.NotElf = NoImage elf.NotElf
image_cause elf.WrongMachine = NoImage elf.WrongMachine
image_cause (elf.BadSegment index) = NoImage (elf.BadSegment index)
image_cause elf.Memory = Memory

abbrev pub report_cause : ReportFault → Cause
report_cause (reading.Line number) = NoReport (reading.Line number)
report_cause (reading.Number line) = NoReport (reading.Number line)
report_cause reading.Memory = Memory

abbrev pub code_cause : CodeFault → Cause
code_cause (code.BadClaim index) = BadClaim index
code_cause (code.NotCode at) = NoCode at
code_cause code.Memory = Memory
