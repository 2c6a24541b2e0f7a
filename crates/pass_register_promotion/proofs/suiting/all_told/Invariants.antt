use Rattle.std.proofs.Common.{◌≡◌, ℕ, true, drop}
use Rattle.low_ir.specs.Effects.{is_member}
use Rattle.pass_register_promotion.specs.Residents.{told_in}
use Rattle.pass_register_promotion.proofs.suiting.all_told.Given as goal

abbrev pub invariant-loop-object : goal.invariant-loop-object
invariant-loop-object l = ((o : ℕ) → is_member (drop l.object-index l.claim) o ≡ true → told_in l.row o ≡ true) → (o : ℕ) → is_member l.claim o ≡ true → told_in l.row o ≡ true
