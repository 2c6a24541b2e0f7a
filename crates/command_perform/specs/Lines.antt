-- The printed lines, each a row of words, numbers and addresses.
use Rattle.std.specs.Prelude.{ℕ, ℤ, ◌/◌, ◌%◌, List, [], ◌∷◌, Bool, true, false, ◌++◌, codes}
use Rattle.std.specs.Fmt.{decimal, signed_decimal}
use Rattle.std.specs.Char.{digit_char}
use Rattle.code_flow_answer.specs.declared.bounded.Kind.{Kind}
use Rattle.report_check.specs.Summaries.{kind_word}
use Rattle.rv_sim.specs.declared.ending.Ending.{Ending}
use Rattle.rv_sim.specs.declared.ending.Ending.TheVariants.{Exit, Trap, CycleLimit, OutputFull}
use Rattle.command_perform.specs.declared.lines.Part.{Part}
use Rattle.command_perform.specs.declared.lines.Part.TheVariants.{Word, Name, Number, Signed, Address}

-- eight hexadecimal digits in lower case
abbrev pub address_text : ℕ → List ℕ
address_text a =
    digit_char (a / 0x1000_0000 % 16) ∷ digit_char (a / 0x100_0000 % 16) ∷ digit_char (a / 0x10_0000 % 16) ∷ digit_char (a / 0x1_0000 % 16)
    ∷ digit_char (a / 0x1000 % 16) ∷ digit_char (a / 0x100 % 16) ∷ digit_char (a / 0x10 % 16) ∷ digit_char (a % 16) ∷ []

-- what a part of a line shows
abbrev pub shown : Part → List ℕ
shown (Word text) = text.now
shown (Name bytes) = bytes.now
shown (Number n) = decimal n
shown (Signed z) = signed_decimal z
shown (Address a) = address_text a

abbrev pub all_shown : List Part → List ℕ
all_shown [] = []
all_shown (p ∷ ps) = shown p ++ all_shown ps

-- a row of texts, one behind the other
abbrev pub row : List (List ℕ) → List ℕ
row [] = []
row (t ∷ ts) = t ++ row ts

-- the line of a bound
abbrev pub cycles_line : ℕ → Kind → List ℕ
cycles_line n kind = row (codes "cycles " ∷ decimal n ∷ codes " " ∷ kind_word kind ∷ codes "\n" ∷ [])

-- the word behind a bound that a flow reaches
abbrev pub greatest_text : Bool → List ℕ
greatest_text true = codes " greatest"
greatest_text false = []

-- the line of a bound that holds
abbrev pub yes_line : ℕ → Bool → List ℕ
yes_line cycles greatest = row (codes "yes " ∷ decimal cycles ∷ greatest_text greatest ∷ codes "\n" ∷ [])

-- the line of an exit
abbrev pub exit_line : ℤ → ℕ → List ℕ
exit_line value cycles = row (codes "exit " ∷ signed_decimal value ∷ codes " cycles " ∷ decimal cycles ∷ codes "\n" ∷ [])

-- the line of the response of a task
abbrev pub response_line : List ℕ → ℕ → List ℕ
response_line name response = row (codes "response " ∷ name ∷ codes " " ∷ decimal response ∷ codes "\n" ∷ [])

-- that of a task that is late, by the number of its line in the list
abbrev pub late_line : ℕ → List ℕ
late_line number = row (codes "late " ∷ decimal number ∷ codes "\n" ∷ [])

-- the line of a source that was made, of so many bytes
abbrev pub made_line : ℕ → List ℕ
made_line bytes = row (codes "made " ∷ decimal bytes ∷ codes " bytes\n" ∷ [])

-- the line of the run of its image, which exited with this value and put so many bytes
abbrev pub ran_line : ℕ → ℤ → ℕ → List ℕ
ran_line cycles value bytes = row (codes "ran " ∷ decimal cycles ∷ codes " exit " ∷ signed_decimal value ∷ codes " bytes " ∷ decimal bytes ∷ codes "\n" ∷ [])

-- the line of a source's run that is done: the value of main, and how many bytes were put
abbrev pub value_line : ℤ → ℕ → List ℕ
value_line value bytes = row (codes "value " ∷ signed_decimal value ∷ codes " bytes " ∷ decimal bytes ∷ codes "\n" ∷ [])

-- those of one that is undefined, and of one that breaks an annotation, at a place of the source
abbrev pub undefined_line : ℕ → ℕ → List ℕ
undefined_line rule at = row (codes "undefined " ∷ decimal rule ∷ codes " at " ∷ decimal at ∷ codes "\n" ∷ [])

abbrev pub broken_line : ℕ → List ℕ
broken_line at = row (codes "broken at " ∷ decimal at ∷ codes "\n" ∷ [])

-- the line of a run, by its ending
abbrev pub run_line : Ending → ℕ → ℕ → List ℕ
run_line (Exit value) pc cycles = exit_line value cycles
run_line (Trap at kind) pc cycles = row (codes "trap " ∷ decimal kind ∷ codes " at " ∷ address_text at ∷ codes " cycles " ∷ decimal cycles ∷ codes "\n" ∷ [])
run_line CycleLimit pc cycles = row (codes "limit at " ∷ address_text pc ∷ codes " cycles " ∷ decimal cycles ∷ codes "\n" ∷ [])
run_line OutputFull pc cycles = row (codes "full at " ∷ address_text pc ∷ codes " cycles " ∷ decimal cycles ∷ codes "\n" ∷ [])
