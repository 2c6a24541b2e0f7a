-- Lists of tasks: one line for each, and why a text is none.
use Rattle.std.specs.Prelude.{◌≡◌, ℕ, suc, ◌<◌, ◌≤◌, ◌⊎◌, List, ◌++◌, length, map, true, false}
use Rattle.report_words.specs.Words.{Word, lines_text}
use Rattle.report_words.specs.Splitting.{lacks, SplitsAt, words_of}
use Rattle.response_time.specs.declared.entry.Entry.{Entry}
use Rattle.response_time.specs.declared.fault.ListFault.{ListFault}
use Rattle.response_time.specs.declared.fault.ListFault.TheVariants as faults
use Rattle.response_time.specs.Entries.{task_line, names_of, AreEntries}
use Rattle.response_time.specs.Forms.{has_form, is_in_range}

-- the text is the lines of these tasks, of which there are 1 to 64
pub record IsList (text : List ℕ) (es : List Entry) : Type 0 where
  pub lines : text ≡ lines_text (map task_line es)
  pub entries : AreEntries es
  pub some : 0 < length es
  pub few : length es ≤ 64

-- no line ends in what is left, which is more than nothing, or all
pub record IsUnended (names : List Word) (rest : List ℕ) : Type 0 where
  pub lacking : lacks 10 rest ≡ true
  pub left : (0 < length rest) ⊎ (length names ≡ 0)

-- the next line is one too many, or hasn't the form
pub record IsMisformed (names : List Word) (rest : List ℕ) : Type 0 where
  pub line : List ℕ
  pub behind : List ℕ
  pub splits : SplitsAt 10 rest line behind
  pub wrong : (64 ≤ length names) ⊎ (has_form names (words_of line) ≡ false)

-- the next line has the form, and its number is out of range
pub record IsOutOfRange (names : List Word) (rest : List ℕ) : Type 0 where
  pub line : List ℕ
  pub behind : List ℕ
  pub splits : SplitsAt 10 rest line behind
  pub few : length names < 64
  pub form : has_form names (words_of line) ≡ true
  pub out : is_in_range (words_of line) ≡ false

-- what is left behind tasks of these names begins with no line of a task
abbrev pub Stops : List Word → List ℕ → ListFault → Type 0
Stops names rest (faults.Line n) = (n ≡ suc (length names)) × (IsUnended names rest ⊎ IsMisformed names rest)
Stops names rest (faults.Number n) = (n ≡ suc (length names)) × IsOutOfRange names rest
Stops names rest faults.Memory = ⊥

-- the first line that fails: those before it are lines of tasks
pub record FailsAt (text : List ℕ) (fault : ListFault) : Type 0 where
  pub entries : List Entry
  pub rest : List ℕ
  pub lines : text ≡ lines_text (map task_line entries) ++ rest
  pub are : AreEntries entries
  pub stops : Stops (names_of entries) rest fault

-- want of memory may come at any time
abbrev pub IsFault : List ℕ → ListFault → Type 0
IsFault text (faults.Line n) = FailsAt text (faults.Line n)
IsFault text (faults.Number n) = FailsAt text (faults.Number n)
IsFault text faults.Memory = Unit {0}
