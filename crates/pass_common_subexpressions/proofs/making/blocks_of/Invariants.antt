use Rattle.std.proofs.Common.{map, take}
use Rattle.low_ir.specs.View.{block_of, claim_of}
use Rattle.pass_common_subexpressions_law.specs.Reloads.{BlocksReloaded}
use Rattle.pass_common_subexpressions.specs.Making.{facts_of, out_of}
use Rattle.pass_common_subexpressions.proofs.making.blocks_of.Given as goal

abbrev pub invariant-loop-number : goal.invariant-loop-number
invariant-loop-number l = BlocksReloaded (map claim_of l.claims) (out_of (map facts_of l.lists)) 0 (map block_of (take l.number l.blocks)) (map block_of l.made.items)
