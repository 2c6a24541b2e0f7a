-- A small number fits 128 bits.
use Rattle.std.proofs.Common.{ℤ, pos, negsuc, arith, FitsSigned}
use Rattle.std.specs.Int.{w128}
use Rattle.code_flow_system.specs.Certificates.{IsSmall}

pub small_fits : (z : ℤ) → IsSmall z → FitsSigned w128 z
small_fits (pos n) small = record { sfits = omega (arith, small) }
small_fits (negsuc n) small = record { sfits = omega (arith, small) }
