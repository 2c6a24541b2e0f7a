-- Places leave how large a program is, and how much of it may be executed, as they are.
use Rattle.std.specs.Prelude.{◌≡◌, ℕ, length, sum_by}
use Rattle.low_ir.specs.Code.{Function, Low, Note}
use Rattle.low_ir.specs.Places.{Placed}
use Rattle.low_ir.specs.Room.{reach, room, weight}
use Rattle.asm_program.specs.Functions.{PlacedFunction}

pub record KeepsRoom (p : Placed) (low : Low) : Type 0 where
  pub functions : length p.functions ≡ length low.functions
  pub loops : sum_by (λ (fn : PlacedFunction). length fn.loops) p.functions ≡ sum_by (λ (fn : Function ℕ Note). length fn.loops) low.functions
  pub room : room p ≡ room low
  pub weight : weight p ≡ weight low
  pub reach : (mark : ℕ) → reach p mark ≡ reach low mark
