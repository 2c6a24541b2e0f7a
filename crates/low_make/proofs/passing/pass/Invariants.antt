use Rattle.std.proofs.Common.{◌≡◌, ◌++◌, drop, take}
use Rattle.low_make.specs.View.{claims_of}
use Rattle.lower_definition.specs.Calls.{passed_to}
use Rattle.low_make.proofs.passing.pass.Given as goal

abbrev pub invariant-loop-i : goal.invariant-loop-i
invariant-loop-i l =
    let own = claims_of l.caller.own.now in
    take l.i (claims_of l.claims.items) ++ passed_to l.caller.objects own (drop l.i l.arrays) (drop l.i (claims_of l.claims.items))
    ≡ passed_to l.caller.objects own l.arrays (claims_of l.initial.claims.items)
