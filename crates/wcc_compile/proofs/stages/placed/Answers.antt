use Rattle.std.proofs.Common.{sym, subst}
use Rattle.rv_core.specs.Table.{table_of}
use Rattle.spm_placement.specs.Sets.{AreBest}
use Rattle.wcc_compile.specs.Built.{gains_of}
use Rattle.wcc_compile.proofs.Steps.{none_left, stays}
use Rattle.wcc_compile.proofs.stages.placed.Goals as goal

-- where nothing is chosen
pub returns-then-is_empty-clause-laid : goal.returns-then-is_empty-clause-laid
returns-then-is_empty-clause-laid c =
    let options = c.args.options.now in
    let b = c.args.first in
    let v = c.in-Ok.numbers in
    stays options c.args.source.now b c.requires.first
    (subst (AreBest (gains_of (table_of options.costs) b) options.spm) (none_left _ v.items c.is_empty.result v.ok.0 c.is_empty.ensures c.if-is_empty.true) c.in-Ok.ensures)

pub last-requires-clause-best : goal.last-requires-clause-best
last-requires-clause-best c =
    let options = c.args.options.now in
    subst (AreBest (gains_of (table_of options.costs) c.args.first) options.spm) (sym c.deref.ensures.value) c.in-Ok.ensures
