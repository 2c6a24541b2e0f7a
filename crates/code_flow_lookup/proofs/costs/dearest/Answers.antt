use Rattle.std.proofs.Common.{◌∙◌, ap, ◌+◌, false}
use Rattle.std.specs.Prelude.{max}
use Rattle.rv_core.specs.declared.regions.Region.TheVariants.{Flash, Spm, Ram}
use Rattle.rv_core.specs.Rows.{row_of}
use Rattle.rv_core.specs.Table.{table_of, fetch_cost, class_cost}
use Rattle.code_flow_lookup.specs.Lines.{may_by}
use Rattle.code_flow_lookup.proofs.LineLemmas.{max_three, dearest_by, some_named}
use Rattle.code_flow_lookup.proofs.costs.dearest.Goals as goal

pub returns : goal.returns
returns c =
    c.max-2.ensures
    ∙ ap (λ n. max c.cost_under-flash.result n) c.max.ensures
    ∙ max_three _ _ _ _ _ _ c.cost_under-flash.ensures c.cost_under-spm.ensures c.cost_under-ram.ensures
    ∙ dearest_by (may_by c.args.line Flash) (may_by c.args.line Spm) (may_by c.args.line Ram) (table_of c.args.costs.now) (fetch_cost (table_of c.args.costs.now) c.args.fetch + class_cost (table_of c.args.costs.now) (row_of c.args.instr.now.op).class false) (some_named c.args.line c.requires.filled)
