use Rattle.std.proofs.Common.{◌≡◌, ◌<◌, ℕ, true}
use Rattle.pass_register_promotion.specs.Residents.{told_in}
use Rattle.pass_register_promotion.proofs.suiting.row_told.Given as goal

abbrev pub invariant-loop-told : goal.invariant-loop-told
invariant-loop-told l = record {
  object : l.object ≡ l.told-index;
  all : (o : ℕ) → o < l.told-index → told_in l.callee o ≡ true → told_in l.caller o ≡ true;
}
