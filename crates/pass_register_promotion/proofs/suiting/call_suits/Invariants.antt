use Rattle.std.proofs.Common.{◌≡◌, ℕ, true, false, drop}
use Rattle.pass_register_promotion_law.specs.Suiting.{is_resident}
use Rattle.pass_register_promotion.specs.Residents.{residents_of, told_in}
use Rattle.pass_register_promotion.proofs.suiting.call_suits.Given as goal

abbrev pub invariant-loop-resident : goal.invariant-loop-resident
invariant-loop-resident l = ((o : ℕ) → is_resident (residents_of (drop l.resident-index l.residents)) o ≡ true → told_in l.row o ≡ false) → (o : ℕ) → is_resident (residents_of l.residents) o ≡ true → told_in l.row o ≡ false
