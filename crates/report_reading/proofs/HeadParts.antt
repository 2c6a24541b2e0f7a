-- The first lines, one behind the other.
use Rattle.std.proofs.Common.{ℕ, [], ◌∷◌, false, ap, ◌∙◌}
use Rattle.code_flow_answer.specs.declared.bounded.Kind.{Kind}
use Rattle.report_text.specs.Lines.{version_lines, cycles_line, kind_line}
use Rattle.report_rules.specs.Heads.{version_rule, cycles_rule, is_greatest_kind, kind_rule}
use Rattle.report_reading.specs.declared.fault.ReportFault.{ReportFault}
use Rattle.report_reading.specs.Texts.{lines_of}
use Rattle.report_reading.specs.Sections.{and_then, one, maybe}
use Rattle.report_reading.specs.Faults.{head}
use Rattle.report_reading.specs.Parts.{head_of}
use Rattle.report_reading.specs.Reading.{At, Passes, Stops}
use Rattle.report_reading.proofs.Stages.{after_kind, after_cycles, after_version}
use Rattle.report_reading.proofs.PassLemmas.{both_read, stops_first, stops_second}

pub head_passes : (from a b to : At) (v n : ℕ) (k : Kind) → Passes (maybe version_rule 1) from v a (version_lines v) → Passes (one cycles_rule tt) a tt b (cycles_line n ∷ []) → Passes (one kind_rule false) b (is_greatest_kind k) to (kind_line k ∷ [])
    → Passes head from (record { version = v; greatest = is_greatest_kind k }) to (head_of v n k)
head_passes from a b to v n k p q r = record {
  goes = ap (λ o. and_then o after_version) p.goes ∙ ap (λ o. and_then o (after_cycles v)) q.goes ∙ ap (λ o. and_then o (after_kind v)) r.goes;
  read = both_read from a to (version_lines v) (cycles_line n ∷ kind_line k ∷ []) p.read (both_read a b to (cycles_line n ∷ []) (kind_line k ∷ []) q.read r.read);
}

pub version_stops : (from : At) (fault : ReportFault) → Stops (maybe version_rule 1 from.number (lines_of from.rest)) fault → Stops (head from.number (lines_of from.rest)) fault
version_stops from fault s = stops_first (maybe version_rule 1 from.number (lines_of from.rest)) after_version fault s

pub cycles_stops : (from a : At) (v : ℕ) (fault : ReportFault) → Passes (maybe version_rule 1) from v a (version_lines v) → Stops (one cycles_rule tt a.number (lines_of a.rest)) fault → Stops (head from.number (lines_of from.rest)) fault
cycles_stops from a v fault p s = stops_second (maybe version_rule 1) after_version from v a (version_lines v) fault p (stops_first (one cycles_rule tt a.number (lines_of a.rest)) (after_cycles v) fault s)

pub kind_stops : (from a b : At) (v n : ℕ) (fault : ReportFault) → Passes (maybe version_rule 1) from v a (version_lines v) → Passes (one cycles_rule tt) a tt b (cycles_line n ∷ []) → Stops (one kind_rule false b.number (lines_of b.rest)) fault → Stops (head from.number (lines_of from.rest)) fault
kind_stops from a b v n fault p q s =
    stops_second (maybe version_rule 1) after_version from v a (version_lines v) fault p
    (stops_second (one cycles_rule tt) (after_cycles v) a tt b (cycles_line n ∷ []) fault q (stops_first (one kind_rule false b.number (lines_of b.rest)) (after_kind v) fault s))
