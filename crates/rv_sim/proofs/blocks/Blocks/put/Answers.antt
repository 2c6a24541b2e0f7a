use Rattle.std.proofs.Common.{sym}
use Rattle.rv_sim.proofs.Finding.{stored-in}
use Rattle.rv_sim.proofs.blocks.Blocks.put.Goals as goal

pub returns : goal.returns
returns c =
    stored-in c.args.width c.args.self.now c.self.inside.blocks.items c.args.place.now c.args.at c.args.word c.index_mut-block.result.now c.put.new.self _
    c.self.view_is c.requires (sym c.index_mut-block.ensures.value) c.put.ensures
