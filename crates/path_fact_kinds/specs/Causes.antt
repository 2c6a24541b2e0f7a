-- Why a search ends without the greatest flow.
use Rattle.std.specs.Prelude.{◌≡◌, ◌≢◌, ◌⊎◌, ℕ, ◌+◌, List, [], length, false, Contains}
use Rattle.rv_core.specs.Table.{Table}
use Rattle.code_flow_system.specs.Systems.{System}
use Rattle.code_flow_answer.specs.declared.bounded.Column.{Column}
use Rattle.simplex_rounds.specs.declared.weighing.Weight.{Weight}
use Rattle.simplex_tables.specs.declared.running.Ending.{Ending}
use Rattle.simplex_tables.specs.declared.running.Ending.TheVariants.{Second, First, TooWide, NoPivots, Unbounded}
use Rattle.simplex_tables.specs.Runs.{most_pivots}
use Rattle.simplex_rounds.specs.Limits.{is_narrow, all_narrow}
use Rattle.simplex_rounds.specs.Multiplied.{first_multipliers, second_multipliers, are_narrow}
use Rattle.simplex_rounds.specs.Weighted.{weights_of, denominator, numerator}
use Rattle.simplex_laws.specs.RoundLaws.{column_at}
use Rattle.path_fact_kinds.specs.Columns.{ops_of}
use Rattle.path_fact_kinds.specs.Searched.{last_round, Follows, AreSearched}

-- one more than the number of loops
abbrev pub loop_factor : System → ℕ
loop_factor s = length s.claims.loops + 1

-- a numerator of the weights is wide, or their common denominator
abbrev pub HasWideWeights : ℕ → ℕ → List Weight → Type 0
HasWideWeights n m ws = (is_narrow n m ≡ false) ⊎ ((w : Weight) × Contains ws w × (is_narrow n (numerator m w) ≡ false))

-- a product of the last pivot is too wide, or a number of the round's multipliers or weights is
abbrev pub EndsWide : System → List Column → Ending → Type 0
EndsWide s cs TooWide = Unit {0}
EndsWide s cs (Second b) = (are_narrow (loop_factor s) (second_multipliers (length cs) (ops_of s.claims.facts) b) ≡ false) ⊎ HasWideWeights (loop_factor s) (denominator 1 (weights_of (length cs) b.owns b.rows)) (weights_of (length cs) b.owns b.rows)
EndsWide s cs (First b) = all_narrow (loop_factor s) (first_multipliers (length cs) (ops_of s.claims.facts) (column_at cs 0).value b).facts ≡ false
EndsWide s cs NoPivots = ⊥
EndsWide s cs Unbounded = ⊥

-- the pivot is the last one of the rounds over the columns
pub record IsWide (t : Table) (s : System) (cs : List Column) (pivot : ℕ) : Type 0 where
  pub facts : s.claims.facts ≢ []
  pub searched : AreSearched t s cs
  pub number : pivot ≡ (last_round (ops_of s.claims.facts) cs).made
  pub ends : EndsWide s cs (last_round (ops_of s.claims.facts) cs).ending

-- all columns are there and another one would follow, or all pivots are made
pub record IsSpent (t : Table) (s : System) (cs : List Column) (columns pivots : ℕ) : Type 0 where
  pub facts : s.claims.facts ≢ []
  pub searched : AreSearched t s cs
  pub listed : columns ≡ length cs
  pub made : pivots ≡ (last_round (ops_of s.claims.facts) cs).made
  pub limit : ((columns ≡ 200) × ((c : Column) × Follows t s (length cs) (last_round (ops_of s.claims.facts) cs).ending c)) ⊎ (pivots ≡ most_pivots)
