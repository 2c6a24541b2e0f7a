-- The words of an object of file level, and what its initial values leave of others.
use Rattle.std.specs.Prelude.{◌≡◌, ℕ, List, ◌++◌, map, replicate, take, Option, Some, None, slice_get, slice_index_or}
use Rattle.meaning_semantics.specs.State.{State}
use Rattle.high_ir.specs.declared.object.Kind.{Kind}
use Rattle.high_ir.specs.Words.{converted}

-- the given words, with zeros behind them (C11 6.7.9, paragraph 21)
abbrev pub row_of : (values : List ℕ) → (size : ℕ) → List (Option ℕ)
row_of values size = take size (map Some values ++ replicate size (Some 0))

-- each word is one of the kind
pub record AreRanged (kind : Kind) (row : List (Option ℕ)) : Type 0 where
  pub by : (i w : ℕ) → slice_index_or row i None ≡ Some w → converted kind w ≡ w

-- a state that differs from another in one object
pub record Changes (object : ℕ) (before behind : State) : Type 0 where
  pub input : behind.input ≡ before.input
  pub output : behind.output ≡ before.output
  pub counts : behind.counts ≡ before.counts
  pub others : (o : ℕ) → (o ≡ object → ⊥) → slice_get behind.objects o ≡ slice_get before.objects o
