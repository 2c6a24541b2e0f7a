use Rattle.std.proofs.Common.{◌≡◌, drop}
use Rattle.rv_core.specs.declared.row.Width.TheVariants.{Word}
use Rattle.rv_core.specs.Memory.{read_from}
use Rattle.rv_sim.proofs.fetching.fetch_from.Given as goal

-- the word isn't in the blocks so far
abbrev pub invariant-loop-block : goal.invariant-loop-block
invariant-loop-block l = read_from (λ b. b.exec) Word l.blocks l.pc ≡ read_from (λ b. b.exec) Word (drop l.block-index l.blocks) l.pc
