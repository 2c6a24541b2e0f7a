-- Comments (C11 6.4.9).
use Rattle.std.specs.Prelude.{◌≡◌, ℕ, ◌+◌, ◌<◌, ◌≤◌, ◌⊎◌, List, length, codes, slice_index}
use Rattle.c_tree.specs.Bytes.{Each, Stands}
use Rattle.c_lexer.specs.Bytes.{IsOnLine, EndsBefore}

-- a star with a slash behind it
abbrev pub EndsComment : List ℕ → ℕ → Type 0
EndsComment source last = (slice_index source last ≡ 42) × (slice_index source (last + 1) ≡ 47)

-- from a slash and a star through the first star and slash behind them
pub record IsBlockComment (source : List ℕ) (at end : ℕ) : Type 0 where
  pub begins : Stands source at (codes "/*")
  pub last : ℕ
  pub after : at + 2 ≤ last
  pub ends : end ≡ last + 2
  pub closed : EndsComment source last
  pub first : (i : ℕ) → at + 2 ≤ i → i < last → EndsComment source i → ⊥

-- from two slashes up to the end of the line
pub record IsLineComment (source : List ℕ) (at end : ℕ) : Type 0 where
  pub begins : Stands source at (codes "//")
  pub after : at + 2 ≤ end
  pub line : Each IsOnLine source at end
  pub whole : EndsBefore IsOnLine source end

abbrev pub IsComment : List ℕ → (at end : ℕ) → Type 0
IsComment source at end = (end ≤ length source) × (IsBlockComment source at end ⊎ IsLineComment source at end)
