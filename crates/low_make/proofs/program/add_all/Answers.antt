use Rattle.std.proofs.Common.{◌≡◌, ℕ, length, [], ◌∷◌, ◌+◌, ◌++◌, add-one, ap, drop, drop-cons, get_or, map, sym, ◌∙◌}
use Rattle.std.specs.List.{flat_map}
use Rattle.std.specs.Prelude.{slice_index_or}
use Rattle.high_ir.specs.Programs.{program_of}
use Rattle.low_ir.specs.View.{claim_of, function_of}
use Rattle.low_make.specs.View.{passed_of}
use Rattle.lower_definition.specs.Calls.{claims_among}
use Rattle.lower_definition.specs.Programs.{lowered_functions}
use Rattle.low_make.proofs.Adding.{claims_more, count_more, functions_more}
use Rattle.low_make.proofs.program.add_all.Goals as goal

pub loop-f-preserved : goal.loop-f-preserved
loop-f-preserved c =
    let making = c.args.making.now in
    let p = program_of making.program.now in
    let passed = passed_of making.passed.now in
    let order = making.order.now in
    let i = c.loop-f.f-index in
    let f = get_or order i 0 in
    let among = λ (g : ℕ). claims_among (slice_index_or passed g []) in
    let rest = drop (i + 1) order in
    let stood : f ∷ rest ≡ drop i order = ap (λ k. f ∷ drop k order) (add-one i) ∙ sym (drop-cons order i 0 c.loop-f-test.true) in
    let functions = map function_of c.loop-f.functions.items in
    let claims = map claim_of c.loop-f.claims.items in
    record {
      functions =
          functions_more p passed (length c.loop-f.claims.items) _ f functions _ rest c.in_ok-add.ensures.functions (count_more claim_of c.loop-f.claims.items _ (among f) c.in_ok-add.ensures.claims)
          ∙ ap (λ l. functions ++ lowered_functions p passed (length c.loop-f.claims.items) l) stood
          ∙ c.loop-f.invariant.functions;
      claims =
          claims_more among f claims _ rest c.in_ok-add.ensures.claims
          ∙ ap (λ l. claims ++ flat_map among l) stood
          ∙ c.loop-f.invariant.claims;
    }
