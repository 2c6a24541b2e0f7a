-- How far a reader has come in a text.
use Rattle.std.specs.Prelude.{◌≡◌, ℕ, suc, ◌+◌, ◌<◌, ◌^◌, List, ◌∷◌, ◌++◌, length}
use Rattle.report_words.specs.Words.{Word, Line, line_text, lines_text}
use Rattle.report_rules.specs.Rules.{Rule}
use Rattle.report_rules.specs.declared.flaw.Flaw.{Flaw}
use Rattle.report_rules.specs.declared.flaw.Flaw.TheVariants as flaws
use Rattle.report_reading.specs.declared.fault.ReportFault.{ReportFault}
use Rattle.report_reading.specs.declared.fault.ReportFault.TheVariants as faults
use Rattle.report_reading.specs.Texts.{lines_of}
use Rattle.report_reading.specs.Sections.{Outcome, Fails, Goes, many}
use Rattle.report_reading.specs.Faults.{IsReportFault}

-- the number of the next line, and what is left of the text
pub record At : Type 0 where
  pub number : ℕ
  pub rest : List ℕ

abbrev pub at_of : ℕ → List ℕ → At
at_of number rest = record { number = number; rest = rest }

-- the numbers of all lines that are left, and of one more, are below 2^32
abbrev pub IsNumbered : At → Type 0
IsNumbered at = at.number + length at.rest < 2 ^ 32

-- the next line has that first word and these behind it
pub record IsNext (tag : Word) (at : At) (ws : List Word) (after : At) : Type 0 where
  pub lines : lines_of at.rest ≡ (tag ∷ ws) ∷ lines_of after.rest
  pub text : at.rest ≡ line_text (tag ∷ ws) ++ after.rest
  pub number : after.number ≡ suc at.number
  pub numbered : IsNumbered after

-- lines that were read from a place to another: what is left comes to the same, and this is their text
pub record IsRead (from to : At) (lines : List Line) : Type 0 where
  pub text : from.rest ≡ lines_text lines ++ to.rest
  pub count : to.number ≡ from.number + length lines
  pub numbered : IsNumbered to

-- where lines are read by an outcome, it is that of a state and the place behind them
pub record Passes {S : Type 0} (outcome : ℕ → List Line → Outcome S) (from : At) (s : S) (to : At) (lines : List Line) : Type 0 where
  pub goes : outcome from.number (lines_of from.rest) ≡ Goes s to.number (lines_of to.rest)
  pub read : IsRead from to lines

-- the same for some state
pub record PassesOn {S : Type 0} (outcome : ℕ → List Line → Outcome S) (from to : At) (lines : List Line) : Type 0 where
  pub state : S
  pub passes : Passes outcome from state to lines

-- some lines of a kind are read: those that are left come to the same
pub record IsPassing {S : Type 0} (r : Rule S) (first : S) (from : At) (s : S) (to : At) (lines : List Line) : Type 0 where
  pub same : many r first from.number (lines_of from.rest) ≡ many r s to.number (lines_of to.rest)
  pub read : IsRead from to lines

-- the fault of a line of that number with a flaw
abbrev pub fault_at : ℕ → Flaw → ReportFault
fault_at n flaws.Form = faults.Line n
fault_at n flaws.Range = faults.Number n
fault_at n flaws.Memory = faults.Memory

-- the lines stop at the fault, or memory ran out
abbrev pub Stops : {S : Type 0} → Outcome S → ReportFault → Type 0
Stops outcome (faults.Line n) = outcome ≡ Fails (faults.Line n)
Stops outcome (faults.Number n) = outcome ≡ Fails (faults.Number n)
Stops outcome faults.Memory = Unit {0}

-- the same of a whole text
abbrev pub StopsAt : List ℕ → ReportFault → Type 0
StopsAt text (faults.Line n) = IsReportFault text (faults.Line n)
StopsAt text (faults.Number n) = IsReportFault text (faults.Number n)
StopsAt text faults.Memory = Unit {0}
