use Rattle.std.proofs.Common.{map, subst}
use Rattle.rv_core.specs.Table.{table_of}
use Rattle.compile_report_law.specs.Reported.{AreShared}
use Rattle.report_shares.specs.Shares.{with_sum}
use Rattle.compile_report.proofs.finding.find_in.Goals as goal

pub returns-in-Ok : goal.returns-in-Ok
returns-in-Ok c =
    let found = c.in-Ok.ensures in
    let bounded = c.in-Ok.bounded in
    record {
      form = found.found.form;
      accepted = found.found.accepted;
      columns = found.found.columns;
      kind = found.found.kind;
      shared = subst (λ l. AreShared bounded.kind (map (with_sum (table_of c.args.costs.now) c.args.system.now bounded.cert.flow.parts) l) c.shared-shares.result.items) c.in_ok-ranges.ensures c.shared-shares.ensures;
      cycles = found.cycles;
    }
