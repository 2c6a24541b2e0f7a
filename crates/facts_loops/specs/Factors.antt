-- The starts of a loop whose body is several starts of another (loop unrolling, with the starts that are left over peeled).
use Rattle.std.specs.Prelude.{◌≡◌, ℕ, ◌+◌, ◌-◌, ◌/◌, ◌%◌, ◌==◌, ◌<◌, max, Option, Some, None, if◌then◌else◌}
use Rattle.facts_definitions.specs.declared.facts.Starts.{Starts}

-- the starts that are peeled, so that the others are a multiple of k
abbrev pub peeled : ℕ → ℕ → ℕ
peeled most k = most % k

-- the starts behind the peeled ones, k at a time
abbrev pub split : Starts → ℕ → Starts
split s k = record { least = max 1 ((s.least - peeled s.most k + k - 1) / k); most = s.most / k }

-- a factor of 1 leaves a loop as it is
abbrev pub by_factor : Starts → ℕ → Starts
by_factor s k = if k == 1 then s else split s k

-- starts that a factor makes of those of a loop, where there is one
abbrev pub AreBy : Option Starts → ℕ → Starts → Type 0
AreBy None k left = ⊥
AreBy (Some old) k left = left ≡ by_factor old k

-- a loop that makes fewer starts
abbrev pub StartsFewer : Option Starts → ℕ → Type 0
StartsFewer None k = ⊥
StartsFewer (Some old) k = old.most < k
