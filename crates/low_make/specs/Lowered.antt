-- The program in the low form that a program in the high form becomes.
use Rattle.std.specs.Prelude.{◌≡◌, ℕ, List}
use Rattle.high_ir.specs.Tree.{Program}
use Rattle.pass_constant_hoisting.specs.Holding.{held_program}
use Rattle.low_ir.specs.Code.{Low}
use Rattle.lower_definition.specs.Programs.{lowered}

-- the program, where some words of each function have registers; which ones is free
pub record IsLowered (p : Program) (q : Low) : Type 0 where
  pub words : List (List ℕ)
  pub same : q ≡ held_program words (lowered p)
