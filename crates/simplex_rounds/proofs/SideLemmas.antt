-- The sides of facts are as many as they are counted, so that a round's table is as wide as its end is read.
use Rattle.std.proofs.Common.{◌≡◌, ℕ, ◌+◌, arith, ap, List, [], ◌∷◌, length, refl}
use Rattle.wcc_base.specs.declared.compare.Compare.{Compare}
use Rattle.wcc_base.specs.declared.compare.Compare.TheVariants.{AtMost, AtLeast, Equal}
use Rattle.code_flow_answer.specs.declared.bounded.Column.{Column}
use Rattle.simplex_rounds.specs.Starts.{sides_from, variables}
use Rattle.simplex_rounds.specs.Multiplied.{side_count}

pub sides-long : (n : ℕ) (os : List Compare) → length (sides_from n os) ≡ side_count os
sides-long n [] = refl
sides-long n (AtMost ∷ os) = let r = sides-long (n + 1) os in omega (arith, r)
sides-long n (AtLeast ∷ os) = let r = sides-long (n + 1) os in omega (arith, r)
sides-long n (Equal ∷ os) = let r = sides-long (n + 1) os in omega (arith, r)

pub variables_are : (cs : List Column) (os : List Compare) → variables cs (sides_from 0 os) ≡ (length cs + 1) + side_count os
variables_are cs os = ap (λ n. (length cs + 1) + n) (sides-long 0 os)
