use Rattle.code_flow_system.specs.Counts.{count}
use Rattle.code_flow_system.specs.Certificates.{listed}
use Rattle.path_fact_columns.proofs.CountLemmas.{counts_positive, left_small, right_small}
use Rattle.path_fact_columns.proofs.counting.total_of.Goals as goal

pub side-requires-clause-small : goal.side-requires-clause-small
side-requires-clause-small c =
    let x = listed c.args.parts.now in
    let ms = c.args.system.now.moves in
    left_small (count x ms) (counts_positive x ms) c.args.fact.now c.requires.natural c.requires.small

pub side-requires-2-clause-small : goal.side-requires-2-clause-small
side-requires-2-clause-small c =
    let x = listed c.args.parts.now in
    let ms = c.args.system.now.moves in
    right_small (count x ms) (counts_positive x ms) c.args.fact.now c.requires.natural c.requires.small
