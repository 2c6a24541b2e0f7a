use Rattle.rv_core.specs.Table.{table_of}
use Rattle.path_enum.proofs.SearchLemmas.{began_state}
use Rattle.path_enum.proofs.searching.search.Goals as goal

pub rounds-init : goal.rounds-init
rounds-init c =
    let g = c.in_ok-state.state in
    began_state (table_of c.args.searched.costs.now) c.args.searched.system.now c.args.searched.shapes.now c.args.searched.spans.now c.args.first g c.args.tried.items c.requires.first c.requires.tried c.in_ok-state.ensures.columns c.in_ok-state.ensures.asked c.in_ok-state.ensures.least c.in_ok-state.ensures.made c.in_ok-state.ensures.tried
