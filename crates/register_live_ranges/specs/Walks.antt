-- A walk backward from the reads of one register.
use Rattle.std.specs.Prelude.{◌≡◌, ℕ, ◌<◌, ◌≤◌, ◌-◌, ◌==◌, nat_lt, Bool, false, if◌then◌else◌, List, [], ◌∷◌, ◌++◌, length, replicate, Option, Some, None, slice_index_or, slice_set}
use Rattle.register_live_ranges.specs.declared.accesses.Access.{Access}
use Rattle.register_live_ranges.specs.declared.interval.Interval.{Interval}
use Rattle.register_live_ranges.specs.declared.sources.Source.{Source}
use Rattle.register_live_ranges.specs.declared.walk.Latest.{Latest}
use Rattle.register_live_ranges.specs.Intervals.{widened}

-- by block, the register that was last found to be live at its beginning, and the last access on the walk; the blocks that are still
-- to be left; and the places that were found
pub record Walk : Type 0 where
  pub live : List ℕ
  pub latest : List Latest
  pub work : List ℕ
  pub found : Option Interval

-- the number of no register
abbrev pub no_register : ℕ
no_register = 0xFFFF_FFFF

abbrev pub no_latest : Latest
no_latest = record { register = no_register; at = 0 }

abbrev pub latest_at : Walk → ℕ → Latest
latest_at w b = slice_index_or w.latest b no_latest

-- a place is found, and so are those from one to before another
abbrev pub noted : ℕ → Walk → Walk
noted p w = record { live = w.live; latest = w.latest; work = w.work; found = Some (widened w.found p) }

abbrev pub lived : ℕ → ℕ → Walk → Walk
lived low high w = if nat_lt low high then noted (high - 1) (noted low w) else w

-- register v
module _ (v : ℕ) where
  abbrev pub is_live : Walk → ℕ → Bool
  is_live w b = slice_index_or w.live b no_register == v

  abbrev pub is_touched : Walk → ℕ → Bool
  is_touched w b = (latest_at w b).register == v

  -- where it was accessed last in block b; at first, where the block begins
  abbrev pub latest_in : Walk → ℕ → ℕ → ℕ
  latest_in w b s = if is_touched w b then (latest_at w b).at else s

  -- it is found to be live at the beginning of a block
  abbrev pub seen : ℕ → Walk → Walk
  seen b w = if is_live w b then w else record { live = slice_set w.live b v; latest = w.latest; work = w.work ++ b ∷ []; found = w.found }

  abbrev pub touched : ℕ → ℕ → Walk → Walk
  touched b p w = record { live = w.live; latest = slice_set w.latest b (record { register = v; at = p }); work = w.work; found = w.found }

  abbrev pub opened : Access → Walk → Walk
  opened a w = if is_touched w a.block then w else seen a.block w

  -- a read of it: it lives from the access before to the place before
  abbrev pub read : Access → Walk → Walk
  read a w = opened a (lived (latest_in w a.block a.first) a.at w)

  abbrev pub met : Access → Walk → Walk
  met a w = if a.writes then noted a.at w else read a w

  abbrev pub taken : Access → Walk → Walk
  taken a w = touched a.block a.at (met a w)

  abbrev pub all_taken : List Access → Walk → Walk
  all_taken [] w = w
  all_taken (a ∷ ls) w = all_taken ls (taken a w)

  -- it is live behind a block, and at its beginning where it isn't accessed there
  abbrev pub left : Source → Walk → Walk
  left x w = if is_touched w x.block then noted x.last (noted (latest_in w x.block x.first) w) else seen x.block (noted x.last (noted (latest_in w x.block x.first) w))

  abbrev pub all_left : List Source → Walk → Walk
  all_left [] w = w
  all_left (x ∷ xs) w = all_left xs (left x w)

-- so many blocks, and nothing was found
abbrev pub fresh : ℕ → Walk
fresh n = record { live = replicate n no_register; latest = replicate n no_latest; work = []; found = None }

-- with what is still to be left or was found taken away
abbrev pub restarted : Walk → Walk
restarted w = record { live = w.live; latest = w.latest; work = []; found = None }

-- no register from v on was seen
pub record IsFresh (n v size : ℕ) (w : Walk) : Type 0 where
  pub few : size ≤ no_register
  pub live : length w.live ≡ n
  pub latest : length w.latest ≡ n
  pub unseen : (b u : ℕ) → v ≤ u → u < size → is_live u w b ≡ false
  pub untouched : (b u : ℕ) → v ≤ u → u < size → is_touched u w b ≡ false
  pub work : w.work ≡ []
