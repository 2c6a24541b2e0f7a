use Rattle.std.proofs.Common.{◌≡◌, ◌++◌, [], drop, length, map}
use Rattle.std.specs.List.{flat_map}
use Rattle.std.specs.Prelude.{slice_index_or}
use Rattle.high_ir.specs.Programs.{program_of}
use Rattle.low_ir.specs.View.{claim_of, function_of}
use Rattle.low_make.specs.View.{passed_of}
use Rattle.lower_definition.specs.Calls.{claims_among}
use Rattle.lower_definition.specs.Programs.{lowered_functions}
use Rattle.low_make.proofs.program.add_all.Given as goal

abbrev pub invariant-loop-f : goal.invariant-loop-f
invariant-loop-f l =
    let p = program_of l.making.program.now in
    let passed = passed_of l.making.passed.now in
    let order = l.making.order.now in
    record {
      functions : map function_of l.functions.items ++ lowered_functions p passed (length l.claims.items) (drop l.f-index order) ≡ map function_of l.initial.functions.items ++ lowered_functions p passed (length l.initial.claims.items) order;
      claims : map claim_of l.claims.items ++ flat_map (λ f. claims_among (slice_index_or passed f [])) (drop l.f-index order) ≡ map claim_of l.initial.claims.items ++ flat_map (λ f. claims_among (slice_index_or passed f [])) order;
    }
