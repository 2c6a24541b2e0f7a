-- A function of a low program, and the function of the program that it comes from.
use Rattle.std.specs.Prelude.{◌≡◌, ℕ, ◌+◌, ◌*◌, ◌≤◌, map, Some, All, slice_get, sum_by}
use Rattle.high_ir.specs.Size.{operations}
use Rattle.high_ir.specs.Standing.{loops_of}
use Rattle.high_ir.specs.Tree as high
use Rattle.low_ir.specs.Code.{Address, Block, Function, Instr, Low, Note}
use Rattle.low_ir.specs.Formed.{addresses, opening}
use Rattle.lower_budget.specs.Costs.{bounded, marks_at}
use Rattle.lower_origins.specs.Reached.{IsReached}
use Rattle.lower_law.specs.Arrays.{IsAccess}

-- each access of a block
abbrev pub AccessesOf : high.Program → Low → ℕ → high.Function → Block ℕ Note → Type 0
AccessesOf p q f h b = All (λ (i : Instr ℕ Note). All (λ (a : Address ℕ). IsAccess p q f h a.base) (addresses i)) b.code

-- so many registers more a function may have than it is made with, and so many it may have in any case
abbrev pub spare_registers : ℕ
spare_registers = 256

abbrev pub registers_of : high.Function → ℕ
registers_of h = h.values + h.locals + h.arrays + 2 * operations h.body

pub record ComesFrom (p : high.Program) (q : Low) (fn : Function ℕ Note) : Type 0 where
  -- it has the opening mark of a function that calls reach from main
  pub number : ℕ
  pub function : high.Function
  pub there : slice_get p.functions number ≡ Some function
  pub reached : IsReached p number
  pub opens : opening fn ≡ Some number
  -- its loops have the numbers and the bounds of that function's, in the same order
  pub loops : map bounded fn.loops ≡ loops_of function.body
  -- beside its variables and the arrays that it takes it has at most two registers for each operation, and those that are spare
  pub registers : fn.size ≤ registers_of function + spare_registers
  -- its marks stand at no more places than it has operations, the opening mark included
  pub marks : sum_by marks_at fn.blocks ≤ operations function.body + 1
  pub accesses : All (AccessesOf p q number function) fn.blocks
