use Rattle.std.proofs.Common.{◌^◌, ◌≤◌, sym, subst}
use Rattle.rv_core.specs.Table.{table_of}
use Rattle.report_text.specs.Reports.{Report}
use Rattle.compile_report.specs.Sources.{IsReportOn}
use Rattle.wcc_compile.proofs.Reports.{is_report, is_reported}
use Rattle.wcc_compile.proofs.stages.reported.Goals as goal

pub find-requires-clause-claims : goal.find-requires-clause-claims
find-requires-clause-claims c = (c.in_ok-told.told.lines.items, c.in_ok-told.ensures)

pub joined-requires : goal.joined-requires
joined-requires c =
    is_report (table_of c.args.costs.now) c.args.source.now c.args.made.now c.in_ok-told.told c.in-Ok.found c.in_ok-told.ensures c.in-Ok.ensures c.reported_are_reports.ensures c.requires

pub returns-in-Ok-clause-reported : goal.returns-in-Ok-clause-reported
returns-in-Ok-clause-reported c =
    let t = table_of c.args.costs.now in
    let s = c.args.source.now in
    let m = c.args.made.now in
    subst (IsReportOn t s m) (sym c.joined.ensures.report) (is_reported t s m c.in_ok-told.told c.in-Ok.found c.in_ok-told.ensures c.in-Ok.ensures)

pub returns-in-Ok-clause-cycles : goal.returns-in-Ok-clause-cycles
returns-in-Ok-clause-cycles c = subst (λ (r : Report). r.cert.cycles ≤ 2 ^ 62) (sym c.joined.ensures.report) c.in-Ok.ensures.bound.cycles
