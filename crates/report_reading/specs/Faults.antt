-- The order of a report's lines, and the first of a text that fails.
use Rattle.std.specs.Prelude.{◌≡◌, ℕ, ◌==◌, ◌&&◌, List, Bool, false, if◌then◌else◌}
use Rattle.report_words.specs.Words.{Line}
use Rattle.report_rules.specs.Heads.{version_rule, cycles_rule, kind_rule, copy_rule, column_rule, end_rule}
use Rattle.report_rules.specs.ClaimRules.{exit_rule, never_rule, region_rule, loop_rule}
use Rattle.report_rules.specs.FactRules.{fact_rule}
use Rattle.report_rules.specs.CertRules.{scale_rule, potential_rule, unit_rule, flow_rule, share_rule}
use Rattle.report_reading.specs.declared.fault.ReportFault.{ReportFault}
use Rattle.report_reading.specs.declared.fault.ReportFault.TheVariants as faults
use Rattle.report_reading.specs.Texts.{lines_of, is_finished}
use Rattle.report_reading.specs.Sections.{Outcome, Fails, Goes, and_then, one, maybe, many, many_where}

-- what the first lines say: the version, and whether the kind is greatest
pub record Head : Type 0 where
  pub version : ℕ
  pub greatest : Bool

abbrev pub head : ℕ → List Line → Outcome Head
head n ls =
    and_then (maybe version_rule 1 n ls) (λ version n ls.
    and_then (one cycles_rule tt n ls) (λ s n ls.
    and_then (one kind_rule false n ls) (λ greatest n ls.
    Goes (record { version = version; greatest = greatest }) n ls)))

-- the state behind the claims is the number of facts
abbrev pub claims : ℕ → List Line → Outcome ℕ
claims n ls =
    and_then (many exit_rule 0 n ls) (λ s n ls.
    and_then (many never_rule 0 n ls) (λ s n ls.
    and_then (many region_rule (record { least = 0; end = 0 }) n ls) (λ s n ls.
    and_then (many loop_rule 0 n ls) (λ s n ls.
    many fact_rule 0 n ls))))

-- the names, the claims and the columns
abbrev pub middle : ℕ → List Line → Outcome ℕ
middle n ls =
    and_then (many copy_rule tt n ls) (λ s n ls.
    and_then (claims n ls) (λ facts n ls.
    many column_rule facts n ls))

-- the certificate's numbers, with a flow where the kind is greatest
abbrev pub certificate : Bool → ℕ → List Line → Outcome (Unit {0})
certificate greatest n ls =
    and_then (one scale_rule tt n ls) (λ s n ls.
    and_then (many potential_rule 0 n ls) (λ s n ls.
    and_then (one unit_rule greatest n ls) (λ s n ls.
    and_then (many_where greatest flow_rule (record { at = 0; number = 0 }) n ls) (λ s n ls.
    Goes tt n ls))))

-- nothing stands behind the last line
abbrev pub finish : ℕ → List Line → Outcome (Unit {0})
finish n ls = if is_finished ls then Goes tt n ls else Fails (faults.Line n)

-- the shares, where there may be some, and the last line
abbrev pub tail : Head → ℕ → List Line → Outcome (Unit {0})
tail h n ls =
    and_then (many_where ((h.version == 2) && h.greatest) share_rule 0 n ls) (λ s n ls.
    and_then (one end_rule tt n ls) (λ s n ls.
    finish n ls))

-- all lines of a report
abbrev pub whole : ℕ → List Line → Outcome (Unit {0})
whole n ls =
    and_then (head n ls) (λ h n ls.
    and_then (middle n ls) (λ s n ls.
    and_then (certificate h.greatest n ls) (λ s n ls.
    tail h n ls)))

-- the first line of the text that fails: in form or order, or by a number out of its range
abbrev pub IsReportFault : List ℕ → ReportFault → Type 0
IsReportFault text fault = whole 1 (lines_of text) ≡ Fails fault
