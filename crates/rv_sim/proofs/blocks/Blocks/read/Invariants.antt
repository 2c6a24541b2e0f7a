use Rattle.std.proofs.Common.{◌≡◌, drop}
use Rattle.rv_core.specs.Memory.{read_from}
use Rattle.rv_sim.proofs.blocks.Blocks.read.Given as goal

-- the number isn't in the blocks so far
abbrev pub invariant-loop-block : goal.invariant-loop-block
invariant-loop-block l = read_from (λ b. b.read) l.width l.self l.at ≡ read_from (λ b. b.read) l.width (drop l.block-index l.block-items) l.at
