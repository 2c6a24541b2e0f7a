use Rattle.std.proofs.Common.{◌≡◌, All, map, sym, ap, subst}
use Rattle.std.specs.Prelude.{IfOk}
use Rattle.rv_core.specs.Table.{table_of}
use Rattle.code_flow_system.specs.declared.cert.Cert.{Cert}
use Rattle.code_flow_system.specs.Certificates.{PartsAscend}
use Rattle.claims_definition.specs.declared.item.LaidItem.{LaidItem}
use Rattle.claims_definition.specs.Movables.{movable_of}
use Rattle.report_text.specs.Reports.{Report}
use Rattle.spm_placement.specs.Gains.{HasFewVisits, gained}
use Rattle.compile_report.proofs.gaining.gains_by.Goals as goal

-- the certificate that is read is that of the report

pub gains-requires-clause-ascending : goal.gains-requires-clause-ascending
gains-requires-clause-ascending c = subst (λ (cert : Cert). PartsAscend cert.flow.parts) (sym (ap (λ (r : Report). r.cert) c.report.view_is)) c.requires.ascending

pub gains-requires-clause-few : goal.gains-requires-clause-few
gains-requires-clause-few c =
    subst (λ (cert : Cert). All (λ (i : LaidItem). HasFewVisits cert.flow.parts (movable_of i)) c.args.items.now) (sym (ap (λ (r : Report). r.cert) c.report.view_is)) c.requires.few

pub returns-clause-values : goal.returns-clause-values
returns-clause-values c =
    subst (λ (cert : Cert). IfOk c.gains.result (λ gains. gains.items ≡ map (λ (i : LaidItem). gained (table_of c.args.costs.now) cert.flow.parts (movable_of i)) c.args.items.now)) (ap (λ (r : Report). r.cert) c.report.view_is)
    c.gains.ensures.values
