use Rattle.std.proofs.Common.{arith, refl}
use Rattle.rv_core.specs.Table.{table_of}
use Rattle.report_shares.proofs.FillLemmas.{sum_small}
use Rattle.report_shares.proofs.filling.sum_between.Goals as goal

pub returns-in-None : goal.returns-in-None
returns-in-None c =
    let small = sum_small (table_of c.args.costs.now) c.args.system.now c.args.flow.now.parts c.args.share.now.first c.args.share.now.end c.requires.small in
    let wide = c.in-None.ensures.none.0 refl in absurd (omega arith)
