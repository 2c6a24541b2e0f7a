-- What a report comes to in a few lines: its bound and kind, how many loop and fact lines it has, and the shares of its functions.
use Rattle.std.specs.Prelude.{◌≡◌, ℕ, List, [], ◌∷◌, length, map, codes}
use Rattle.std.specs.Fmt.{decimal, signed_decimal}
use Rattle.code_flow_answer.specs.declared.bounded.Kind.{Kind}
use Rattle.code_flow_answer.specs.declared.bounded.Kind.TheVariants.{Greatest, Empty, Wide, Spent}
use Rattle.report_words.specs.Words.{Word, Line, lines_text}
use Rattle.report_text.specs.declared.entries.Share.{Share}
use Rattle.report_text.specs.Reports.{Report}
use Rattle.report_text.specs.Lines.{share_name}
use Rattle.report_check.specs.Checks.{IsTextOf}

abbrev pub kind_word : Kind → Word
kind_word Greatest = codes "greatest"
kind_word Empty = codes "empty"
kind_word (Wide pivot) = codes "wide"
kind_word (Spent columns pivots) = codes "spent"

abbrev pub bound_line : Report → Line
bound_line r = codes "cycles" ∷ decimal r.cert.cycles ∷ kind_word r.kind ∷ []

abbrev pub count_line : Report → Line
count_line r = codes "loops" ∷ decimal (length r.claims.loops) ∷ codes "facts" ∷ decimal (length r.claims.facts) ∷ []

-- so many parts of the unit
abbrev pub share_line : (unit : ℕ) → Share → Line
share_line unit s = codes "share" ∷ share_name s.name ∷ signed_decimal s.part ∷ codes "over" ∷ decimal unit ∷ []

abbrev pub summary_lines : Report → List Line
summary_lines r = bound_line r ∷ count_line r ∷ map (share_line r.cert.flow.unit) r.shares

abbrev pub summary_text : Report → List ℕ
summary_text r = lines_text (summary_lines r)

-- the text is that of a report, and these are the lines of its summary
pub record IsSummary (text lines : List ℕ) : Type 0 where
  pub report : Report
  pub is_text : IsTextOf text report
  pub lines_are : lines ≡ summary_text report
