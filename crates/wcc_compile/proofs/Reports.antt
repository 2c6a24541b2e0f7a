-- The report that is put together.
use Rattle.std.proofs.Common.{refl, subst}
use Rattle.rv_core.specs.Table.{Table}
use Rattle.code_flow_system.specs.Certificates.{IsInForm}
use Rattle.facts_front.specs.declared.reading.Source.{Source}
use Rattle.report_text.specs.Forms.{IsReport}
use Rattle.compile_stages.specs.declared.made.Made.{Made}
use Rattle.compile_report_law.specs.Laws.{ReportedAreReports}
use Rattle.compile_report.specs.declared.finding.Found.{Found}
use Rattle.compile_report.specs.declared.telling.Told.{Told}
use Rattle.compile_report.specs.Found.{HasBound, IsTold, joined_report}
use Rattle.compile_report.specs.Sources.{IsMadeOf, IsReportOn, names_of, tree_of}

module _ (t : Table) (s : Source) (m : Made) (told : Told) (found : Found) (is_told : IsTold s m told) (has : HasBound t s m told.claims found) where
  pub is_reported : IsReportOn t s m (joined_report told found)
  is_reported =
      let own = has.is_system in
      record {
        version = refl;
        lines = is_told.lined;
        claims = is_told.handed;
        restricted = is_told.restricted;
        system = has.system;
        is_system = own;
        form = subst (λ l. IsInForm l found.bounded.cert) own.same_claims has.bound.form;
        accepted = has.bound.accepted;
        columns = has.bound.columns;
        kind = has.bound.kind;
        shared = has.bound.shared;
      }

  -- and it has the form of one
  pub is_report : ReportedAreReports → IsMadeOf s m → IsReport (joined_report told found)
  is_report law made = law made.text (names_of s) (tree_of s) s.facts m t (joined_report told found) made.is_source made.is_made is_reported
