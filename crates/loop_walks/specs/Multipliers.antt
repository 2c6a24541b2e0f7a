-- The multipliers of a loop's bounds, by what a turn gains.
use Rattle.std.specs.Prelude.{ℕ, ℤ, pos, negsuc, ◌+◌, ◌-◌, ◌/◌, ◌+ℤ◌, ◌-ℤ◌, ◌*ℤ◌, min, nat_le, unsigned_abs, if◌then◌else◌}
use Rattle.std.specs.Int.RustNames.{int_lt}
use Rattle.loop_walks.specs.declared.step.Loop.{Loop}
use Rattle.loop_walks.specs.declared.step.Pair.{Pair}
use Rattle.loop_walks.specs.Walks.{larger}

-- what further turns add to a header at first: each one of all where a turn gains, and each one that has to be where it loses, though no more than a block
abbrev pub first_weight : ℤ → Loop → ℤ → ℤ
first_weight low l g =
    if int_lt g (pos 0) then (if nat_le l.min 1 then pos 0 else larger low (g *ℤ (pos l.min -ℤ pos 1))) else g *ℤ (pos l.max -ℤ pos 1)

abbrev pub whole : ℤ → ℕ
whole (pos n) = n
whole (negsuc n) = 0

-- a number over another one that is one more than given, rounded up
abbrev pub over : ℕ → ℕ → ℕ
over n k = (n + k) / (k + 1)

-- of a turn that loses, which has to be made: what it loses, or as much as makes up for how far the header's worth is below that of its ways on
abbrev pub least_of : Loop → ℤ → ℤ → ℤ → ℕ
least_of l g e h = if nat_le l.min 1 then 0 else min (unsigned_abs g) (over (whole (e -ℤ h)) (l.min - 2))

-- g is what a turn gains, e the greatest worth of the header's ways on, and h the header's worth
abbrev pub pair_of : Loop → ℤ → ℤ → ℤ → Pair
pair_of l g e h = if int_lt g (pos 0) then record { least = pos (least_of l g e h); most = pos 0 } else record { least = pos 0; most = g }

-- what the multipliers add at the header
abbrev pub weight_of : Loop → Pair → ℤ
weight_of l p = (p.most *ℤ (pos l.max -ℤ pos 1)) -ℤ (p.least *ℤ (pos l.min -ℤ pos 1))

-- what the jump back is worth, by the header's worth and the multipliers
abbrev pub back_worth : Loop → ℤ → Pair → ℤ
back_worth l h p = ((l.price +ℤ h) +ℤ (p.least *ℤ pos l.min)) -ℤ (p.most *ℤ pos l.max)
