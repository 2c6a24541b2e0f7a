-- What is checked of scalars that were chosen.
use Rattle.std.specs.Prelude.{◌≡◌, ℕ, ◌≤◌, List, length, Some, slice_get}
use Rattle.low_ir.specs.Code.{Function, Low, Note}
use Rattle.pass_register_promotion_law.specs.Paying.{own_weight, spare_registers}
use Rattle.pass_register_promotion_law.specs.Promoting.{Resident, residents_at}
use Rattle.pass_register_promotion_law.specs.Suiting.{AllMayReside, Table}

abbrev pub Suit : Low → Table → List (List Resident) → Type 0
Suit q table hss = AllMayReside q table hss

abbrev pub AreFew : List (List Resident) → Type 0
AreFew hss = (f : ℕ) → length (residents_at hss f) ≤ spare_registers

-- each function executes no more than the one beside it
abbrev pub ArePaidBeside : List (Function ℕ Note) → List (Function ℕ Note) → Type 0
ArePaidBeside new old = (f : ℕ) (fn gn : Function ℕ Note) → slice_get old f ≡ Some fn → slice_get new f ≡ Some gn → own_weight gn ≤ own_weight fn
