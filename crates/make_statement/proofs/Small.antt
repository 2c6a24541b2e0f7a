-- Bounds of loops that are small enough for one start more.
use Rattle.std.proofs.Common.{ℕ, ◌-◌, inl, inr, List, length, All, sym, subst, arith}
use Rattle.std.proofs.Math.ListN.{get_or-eq_default}
use Rattle.std.proofs.lemmas.Bool.{cases_lt}
use Rattle.std.proofs.lemmas.List.Elements.{All-get_or}
use Rattle.facts_definitions.specs.Most.{bounds_at, no_bounds}
use Rattle.facts_definitions.specs.declared.facts.Bounds.{Bounds}
use Rattle.make_statement.specs.Planned.{IsSmall}

pub small_bounds : (bs : List Bounds) (number : ℕ) → All IsSmall bs → IsSmall (bounds_at bs number)
small_bounds bs number all = elim (cases_lt (number - 1) (length bs)) [
  | inl lt ↦ All-get_or IsSmall bs (number - 1) no_bounds lt all
  | inr le ↦ subst IsSmall (sym (get_or-eq_default bs no_bounds le)) (record { min = omega arith; max = omega arith })
]
