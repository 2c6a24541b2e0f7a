use Rattle.std.proofs.Common.{sym, subst}
use Rattle.rv_core.specs.Table.{table_of}
use Rattle.code_flow_system.specs.declared.cert.Cert.{Cert}
use Rattle.code_flow_system.specs.Certificates.{Accepts, IsInForm}
use Rattle.path_cert.proofs.BoundLemmas.{all_greatest}
use Rattle.path_search.specs.Kinds.{SaysOne}
use Rattle.path_search.proofs.SearchLemmas.{says_one}
use Rattle.path_search.proofs.bounding.bound.Goals as goal

pub kind_of-kind-requires : goal.kind_of-kind-requires
kind_of-kind-requires c = subst (λ (x : Cert). SaysOne x.mark) (sym c.in_ok-cert.ensures) (says_one (table_of c.args.costs.now) c.args.system.now c.args.shapes.now c.args.spans.now c.is_boundable.ensures.limited.whole)

pub returns-clause-form : goal.returns-clause-form
returns-clause-form c = subst (IsInForm c.args.system.now.claims) (sym c.in_ok-cert.ensures) (all_greatest (table_of c.args.costs.now) c.args.system.now c.args.shapes.now c.args.spans.now c.is_boundable.ensures).0

pub returns-clause-accepted : goal.returns-clause-accepted
returns-clause-accepted c = subst (Accepts (table_of c.args.costs.now) c.args.system.now) (sym c.in_ok-cert.ensures) (all_greatest (table_of c.args.costs.now) c.args.system.now c.args.shapes.now c.args.spans.now c.is_boundable.ensures).1
