-- The weights of columns at the end of a round, and their least common denominator.
use Rattle.std.specs.Prelude.{ℕ, ◌-◌, ◌*◌, ◌/◌, ◌&&◌, nat_lt, nat_le, pos, unsigned_abs, List, [], ◌∷◌, Bool, if◌then◌else◌}
use Rattle.std.specs.Int.RustNames.{int_lt}
use Rattle.simplex_tables.specs.Rows.{Row, entry, gcd}
use Rattle.simplex_tables.specs.Choices.{right}
use Rattle.simplex_rounds.specs.declared.weighing.Weight.{Weight}

-- a fraction in lowest terms, as the weight of a column
abbrev pub lowest : ℕ → ℕ → ℕ → Weight
lowest column top bottom = record { column = column; top = top / gcd top bottom; bottom = bottom / gcd top bottom }

-- one of k columns owns the row, with a positive number
abbrev pub holds_weight : ℕ → ℕ → Row → Bool
holds_weight k o r = nat_lt 0 o && (nat_le o k && int_lt (pos 0) (entry r o))

-- the weight of a column that owns a row: the right side over its own number
abbrev pub weights_of : ℕ → List ℕ → List Row → List Weight
weights_of k [] rs = []
weights_of k (o ∷ os) [] = []
weights_of k (o ∷ os) (r ∷ rs) = if holds_weight k o r then lowest (o - 1) (unsigned_abs (right r)) (unsigned_abs (entry r o)) ∷ weights_of k os rs else weights_of k os rs

-- the least common multiple
abbrev pub multiple : ℕ → ℕ → ℕ
multiple m b = (m / gcd m b) * b

-- the least common denominator of weights, and of one of those before
abbrev pub denominator : ℕ → List Weight → ℕ
denominator m [] = m
denominator m (w ∷ ws) = denominator (multiple m w.bottom) ws

-- a weight's numerator over a denominator
abbrev pub numerator : ℕ → Weight → ℕ
numerator m w = w.top * (m / w.bottom)
