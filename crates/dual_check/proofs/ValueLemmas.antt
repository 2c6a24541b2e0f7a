-- The value of the listed flow: no term of it is negative.
use Rattle.std.proofs.Common.{◌≡◌, ℕ, ◌+◌, ◌≤◌, ◌^◌, ℤ, pos, ◌*ℤ◌, ◌≤ℤ◌, arith, unsigned_abs, IsNone, ◌↔◌, Option}
use Rattle.std.proofs.lemmas.Int.{ints}
use Rattle.rv_core.specs.Table.{Table}
use Rattle.code_flow_system.specs.Systems.{System}
use Rattle.code_flow_system.specs.Counts.{Amounts, amount}
use Rattle.code_flow_system.specs.MoveCosts.{move_cost}
use Rattle.code_flow_system.specs.Flows.{price, value}
use Rattle.code_flow_system.specs.Certificates.{size_by}
use Rattle.dual_check.specs.declared.running.Running.{Running}
use Rattle.dual_check.proofs.SumLemmas.{size_of_positive}

pub value_size : (t : Table) (s : System) (x : Amounts) → pos (size_by (λ m. amount x m *ℤ price t s m) s.moves) ≡ value t s x
value_size t s x = size_of_positive (λ m. amount x m *ℤ price t s m) s.moves (λ m. product (x m.at m.number) (move_cost t s m))
  where
    product : (a b : ℕ) → pos 0 ≤ℤ (pos a *ℤ pos b)
    product a b = omega (arith, ints)

-- a sum from nothing is wide where the value is
pub wide_value : (sum : Option Running) (none size : ℕ) (v : ℤ) → none ≡ 0 → pos size ≡ v → (IsNone sum ↔ (2 ^ 126 ≤ none + size)) → IsNone sum ↔ (2 ^ 126 ≤ unsigned_abs v)
wide_value sum none size v e is n = (λ i. let k = n.0 i in omega (arith, ints, e, is, k), λ i. n.1 (omega (arith, ints, e, is, i)))
