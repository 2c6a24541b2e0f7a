use Rattle.std.proofs.Common.{subst, sym}
use Rattle.rv_core.specs.declared.row.Alu.TheVariants.{Difference, Product, ShiftLeft, Sum}
use Rattle.rv_core.specs.Arithmetic.{alu_value}
use Rattle.pass_dataflow_facts.specs.declared.facts.Origin.TheVariants.{Small}
use Rattle.pass_dataflow_transfer.specs.Learning.{GivesFrom}
use Rattle.pass_dataflow_transfer.proofs.Operators.{differences_small, products_small, shifts_small, sums_small}
use Rattle.pass_dataflow_transfer.proofs.Teaching.{below_from}
use Rattle.pass_dataflow_transfer.proofs.passing.origin_given.Goals as goal

pub returns-in-Sum : goal.returns-in-Sum
returns-in-Sum c = subst (λ op. GivesFrom op Small) (sym c.in-Sum.is) (λ m n. below_from (alu_value Sum m n) (sums_small m n))

pub returns-in-Difference : goal.returns-in-Difference
returns-in-Difference c = subst (λ op. GivesFrom op Small) (sym c.in-Difference.is) (λ m n. below_from (alu_value Difference m n) (differences_small m n))

pub returns-in-Product : goal.returns-in-Product
returns-in-Product c = subst (λ op. GivesFrom op Small) (sym c.in-Product.is) (λ m n. below_from (alu_value Product m n) (products_small m n))

pub returns-in-ShiftLeft : goal.returns-in-ShiftLeft
returns-in-ShiftLeft c = subst (λ op. GivesFrom op Small) (sym c.in-ShiftLeft.is) (λ m n. below_from (alu_value ShiftLeft m n) (shifts_small m n))
