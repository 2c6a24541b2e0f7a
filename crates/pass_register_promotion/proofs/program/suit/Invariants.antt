use Rattle.std.proofs.Common.{◌≡◌, ◌<◌, ℕ, Some, map}
use Rattle.std.specs.Prelude.{slice_get}
use Rattle.low_ir.specs.Code.{Function, Note}
use Rattle.low_ir.specs.Programs.{low_of}
use Rattle.pass_register_promotion_law.specs.Promoting.{residents_at}
use Rattle.pass_register_promotion_law.specs.Suiting.{MayReside}
use Rattle.pass_register_promotion.specs.Residents.{of_function, row_of, table_of}
use Rattle.pass_register_promotion.proofs.program.suit.Given as goal

abbrev pub invariant-loop-function : goal.invariant-loop-function
invariant-loop-function l = record {
  number : l.number ≡ l.function-index;
  all : (f : ℕ) (fn : Function ℕ Note) → f < l.function-index → slice_get (low_of l.low).functions f ≡ Some fn → MayReside (low_of l.low) (table_of (map row_of l.rows)) f fn (residents_at (map of_function l.residents) f);
}
