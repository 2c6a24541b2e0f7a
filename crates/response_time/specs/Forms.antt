-- When a line says a task, behind tasks of some names: its form, and then the range of its number.
use Rattle.std.specs.Prelude.{◌≡◌, suc, ◌^◌, ◌&&◌, List, [], ◌∷◌, length, Bool, true, false, not, nat_le, codes, bytes_eq}
use Rattle.report_words.specs.Words.{Word, Line, is_name}
use Rattle.report_words.specs.Numbers.{is_number, number_of}
use Rattle.response_time.specs.declared.entry.Entry.{Entry}
use Rattle.response_time.specs.declared.fault.ListFault.{ListFault}
use Rattle.response_time.specs.declared.fault.ListFault.TheVariants as faults
use Rattle.response_time.specs.Entries.{is_file, task_line, IsEntry, is_among}

-- `task`, a name that is none of those, a number, and two names of files
abbrev pub has_form : List Word → Line → Bool
has_form names (tag ∷ name ∷ period ∷ image ∷ report ∷ []) = bytes_eq tag (codes "task") && (is_name name && (not (is_among names name) && (is_number period && (is_file image && is_file report))))
has_form names line = false

abbrev pub is_period : Word → Bool
is_period w = nat_le 1 (number_of w) && nat_le (number_of w) (10 ^ 12)

abbrev pub is_in_range : Line → Bool
is_in_range (tag ∷ name ∷ period ∷ rest) = is_period period
is_in_range line = true

-- the line says the task
pub record Says (names : List Word) (line : Line) (e : Entry) : Type 0 where
  pub line_is : task_line e ≡ line
  pub entry : IsEntry e
  pub other : is_among names e.name ≡ false

-- why it says none: lines are counted from 1
abbrev pub IsLineFault : List Word → Line → ListFault → Type 0
IsLineFault names line (faults.Line n) = (n ≡ suc (length names)) × (has_form names line ≡ false)
IsLineFault names line (faults.Number n) = (n ≡ suc (length names)) × (has_form names line ≡ true) × (is_in_range line ≡ false)
IsLineFault names line faults.Memory = Unit {0}
