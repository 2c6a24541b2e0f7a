use Rattle.std.proofs.Common.{◌≡◌, ℕ, true, drop}
use Rattle.pass_register_promotion_law.specs.Suiting.{is_resident}
use Rattle.pass_register_promotion.specs.Residents.{residents_of, told_in}
use Rattle.pass_register_promotion.proofs.suiting.are_told.Given as goal

abbrev pub invariant-loop-resident : goal.invariant-loop-resident
invariant-loop-resident l = ((o : ℕ) → is_resident (residents_of (drop l.resident-index l.residents)) o ≡ true → told_in l.row o ≡ true) → (o : ℕ) → is_resident (residents_of l.residents) o ≡ true → told_in l.row o ≡ true
