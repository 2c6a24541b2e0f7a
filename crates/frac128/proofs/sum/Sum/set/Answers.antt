use Rattle.std.proofs.Common.{◌≡◌, pos, arith, refl}
use Rattle.std.specs.Int.{w64}
use Rattle.std.proofs.lemmas.Int.{ints, to_z-of_z}
use Rattle.frac128.proofs.SumLemmas.{coefficient_in_gap, IsSum-remove, IsSum-set, IsSum-insert, SetsCoefficient-remove, SetsCoefficient-set, SetsCoefficient-insert}
use Rattle.frac128.proofs.sum.Sum.set.Goals as goal

-- the term of the address is taken out

pub invariant_of-self : goal.invariant_of-self
invariant_of-self c = rw c.remove.ensures.items (IsSum-remove c.self.inside.terms.items c.self.invariant c.args.at c.in-Ok.i (rw c.self.view_is c.in-Ok.ensures.found))

pub returns-in-Ok-clause-ok : goal.returns-in-Ok-clause-ok
returns-in-Ok-clause-ok c =
    let zero : c.args.number ≡ pos 0 = omega (arith, ints) in
    rw (c.remove.ensures.items, c.self.view_is, zero) (SetsCoefficient-remove c.args.self.now c.in-Ok.ensures.canonical c.args.at c.in-Ok.i c.in-Ok.ensures.found)

-- it is written over

pub invariant_of-self-in-Ok-2 : goal.invariant_of-self-in-Ok-2
invariant_of-self-in-Ok-2 c = IsSum-set c.self.inside.terms.items c.self.invariant c.args.at c.in-Ok.i (rw c.self.view_is c.in-Ok.ensures.found) _ (λ zero. c.if-number-eq0.false (omega (arith, ints)))

pub returns-in-Ok-2-clause-ok : goal.returns-in-Ok-2-clause-ok
returns-in-Ok-2-clause-ok c = rw (c.self.view_is, to_z-of_z w64 c.args.number c.ranges.number) (SetsCoefficient-set c.args.self.now c.in-Ok.ensures.canonical c.args.at c.in-Ok.i c.in-Ok.ensures.found c.args.number)

-- there is none, and none is wanted

pub returns-in-Err-clause-ok : goal.returns-in-Err-clause-ok
returns-in-Err-clause-ok c = record {
  here = let absent = coefficient_in_gap _ _ _ c.in-Err.ensures.absent in omega (arith, ints);
  others = λ q differs. refl;
}

-- it is put in the gap

pub invariant_of-self-in-Err-2 : goal.invariant_of-self-in-Err-2
invariant_of-self-in-Err-2 c =
    let items = rw c.if-is_err.ensures.negation at c.insert.ensures.items in
    rw items (IsSum-insert c.self.inside.terms.items c.args.at c.in-Err.field-0 (rw c.self.view_is c.in-Err.ensures.absent) _ c.self.invariant (λ zero. c.if-number-eq0-2.false (omega (arith, ints))))

pub returns-else-is_err-clause-ok : goal.returns-else-is_err-clause-ok
returns-else-is_err-clause-ok c =
    let items = rw c.if-is_err.ensures.negation at c.insert.ensures.items in
    rw (items, c.self.view_is, to_z-of_z w64 c.args.number c.ranges.number) (SetsCoefficient-insert c.args.self.now c.args.at c.in-Err.field-0 c.in-Err.ensures.absent c.args.number)
