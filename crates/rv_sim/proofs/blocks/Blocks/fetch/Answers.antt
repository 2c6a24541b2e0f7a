use Rattle.std.proofs.Common.{◌∙◌}
use Rattle.rv_sim.proofs.Finding.{fetches-aligned, fetches-unaligned}
use Rattle.rv_sim.proofs.blocks.Blocks.fetch.Goals as goal

pub returns-then-pc-eq0 : goal.returns-then-pc-eq0
returns-then-pc-eq0 c = fetches-aligned _ _ c.args.pc _ c.if-pc-eq0.true (c.deref.ensures.value ∙ c.self.view_is) c.fetch_from.ensures

pub returns-else-pc-eq0 : goal.returns-else-pc-eq0
returns-else-pc-eq0 c = fetches-unaligned c.args.self.now c.args.pc c.if-pc-eq0.false
