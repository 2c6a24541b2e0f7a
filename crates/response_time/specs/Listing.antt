-- How far a list has been read.
use Rattle.std.specs.Prelude.{◌≡◌, ℕ, ◌≤◌, List, ◌++◌, length, map}
use Rattle.report_words.specs.Words.{lines_text}
use Rattle.response_time.specs.declared.entry.Entry.{Entry}
use Rattle.response_time.specs.Entries.{task_line, AreEntries}

-- the text is the lines of these tasks and what is left
pub record IsListing (text : List ℕ) (es : List Entry) (rest : List ℕ) : Type 0 where
  pub lines : text ≡ lines_text (map task_line es) ++ rest
  pub entries : AreEntries es
  pub few : length es ≤ 64
