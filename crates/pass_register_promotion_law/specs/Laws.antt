-- What a program keeps that has scalars in registers.
use Rattle.std.specs.Prelude.{ℕ, ◌<◌, ◌≤◌, ◌^◌, List, All}
use Rattle.low_ir.specs.Code.{Low}
use Rattle.low_ir.specs.Effects.{World}
use Rattle.low_ir.specs.Formed.{IsLow}
use Rattle.low_ir.specs.Room.{reach, weight}
use Rattle.low_ir.specs.Runs.{lrun}
use Rattle.low_ir.specs.Turns.{IsGood}
use Rattle.pass_constant_hoisting.specs.Carried.{Ends}
use Rattle.pass_register_promotion_law.specs.Paying.{IsPromoted}

-- each good run on bytes is one of the other program in some steps, with the same value and the same world: arrays, input that is left,
-- output and trace
abbrev pub PromotedCarries : Type 0
PromotedCarries = (q r : Low) → IsLow q → IsPromoted q r → (input : List ℕ) (n v : ℕ) (u : World) → All (λ c. c < 2 ^ 8) input → IsGood q (lrun q input n) v u → Ends r input v u

abbrev pub PromotedIsLow : Type 0
PromotedIsLow = (q r : Low) → IsPromoted q r → IsLow q → IsLow r

-- it executes no more instructions, and passes no mark more often
pub record CostsNoMore (q r : Low) : Type 0 where
  pub weight : weight r ≤ weight q
  pub reach : (mark : ℕ) → reach r mark ≤ reach q mark

abbrev pub PromotedCostsNoMore : Type 0
PromotedCostsNoMore = (q r : Low) → IsPromoted q r → CostsNoMore q r
