-- Bounds of loops that can be kept.
use Rattle.std.specs.Prelude.{◌≡◌, ◌⊎◌, ℕ, ◌≤◌, All}
use Rattle.high_ir.specs.Standing.{Bounded, loops_in}
use Rattle.high_ir.specs.Tree as high
use Rattle.low_ir.specs.Code.{Function, Loop, Program}

-- a loop has to start no more often than it may, or may not start
abbrev pub CanKeep : (least most : ℕ) → Type 0
CanKeep least most = (least ≤ most) ⊎ (most ≡ 0)

abbrev pub IsKeepable : Bounded → Type 0
IsKeepable l = CanKeep l.bounds.least l.bounds.most

-- each loop of a program in the high form
abbrev pub HighTurns : high.Program → Type 0
HighTurns p = All IsKeepable (loops_in p.functions)

-- each loop of one in the low form, over virtual registers or over places
abbrev pub LowTurns : {R K : Type 0} → Program R K → Type 0
LowTurns {R} {K} p = All (λ (fn : Function R K). All (λ (l : Loop). CanKeep l.least l.most) fn.loops) p.functions
