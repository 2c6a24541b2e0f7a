use Rattle.std.proofs.Common.{◌≡◌, ℕ, true, false, drop}
use Rattle.low_ir.specs.Effects.{is_member}
use Rattle.pass_register_promotion_law.specs.Suiting.{is_resident}
use Rattle.pass_register_promotion.specs.Residents.{residents_of}
use Rattle.pass_register_promotion.proofs.suiting.has_none.Given as goal

abbrev pub invariant-loop-object : goal.invariant-loop-object
invariant-loop-object l = ((o : ℕ) → is_member (drop l.object-index l.claim) o ≡ true → is_resident (residents_of l.residents) o ≡ false) → (o : ℕ) → is_member l.claim o ≡ true → is_resident (residents_of l.residents) o ≡ false
