use Rattle.std.proofs.Common.{[], ◌∷◌, length, sym, ap, subst, arith, length-append}
use Rattle.types_tree.specs.View.{program_of as source_of}
use Rattle.high_ir.specs.Programs.{program_of}
use Rattle.high_pass.specs.Listing.{listing_of}
use Rattle.compile_high_definitions.specs.Carried.{IsPassed}
use Rattle.compile_high_law.proofs.Carried.{factors_wider}
use Rattle.wcc_compile.specs.Passes.{does}
use Rattle.wcc_compile.proofs.Rows.{begun_more, factors_few}
use Rattle.wcc_compile.proofs.high_passes.passed.Goals as goal

pub chain-requires-clause-lists : goal.chain-requires-clause-lists
chain-requires-clause-lists g c = c.requires.begun.carried.carries.lists

pub chain-requires-clause-factors : goal.chain-requires-clause-factors
chain-requires-clause-factors g c =
    let n = length c.args.stages.before.items in
    let place = c.requires.place in
    let few = c.requires.few in
    factors_wider _ 67108863 (listing_of c.args.stages.last.copies) (factors_few n (omega (arith, place, few))) c.requires.begun.carried.factors

pub returns-in_ok-stages-in-Ok-clause-begun : goal.returns-in_ok-stages-in-Ok-clause-begun
returns-in_ok-stages-in-Ok-clause-begun g c =
    let s = c.args.source.now in
    let old = c.args.stages in
    let new = c.in_ok-stages-in-Ok.stages in
    let grown = c.in_ok-stages-in-Ok.ensures in
    let chained = c.in-Ok.chained in
    let from = c.in-Ok.ensures in
    let before = program_of old.last.program in
    let whole = listing_of old.last.copies in
    let n = length old.before.items in
    let passed : IsPassed (does c.args.options.now n) before (program_of chained.step.program) whole (listing_of chained.whole) = record {
      step = listing_of chained.step.copies;
      does = subst (λ k. does c.args.options.now k before (program_of chained.step.program) (listing_of chained.step.copies)) (sym c.requires.place) (c.requires.does _ _ _ from.did);
      lawful = from.law;
      listed = from.composed;
      continues = from.continues;
    } in
    begun_more c.args.options.now s.typed.program.names.items (source_of s.typed.program) s.facts old new c.requires.begun grown.before new.last.program.is_high
    (subst (λ p. IsPassed (does c.args.options.now n) before p whole (listing_of new.last.copies)) (ap program_of (sym grown.program))
    (subst (λ l. IsPassed (does c.args.options.now n) before (program_of chained.step.program) whole l) (ap listing_of (sym grown.copies)) passed))

pub returns-in_ok-stages-in-Ok-clause-place : goal.returns-in_ok-stages-in-Ok-clause-place
returns-in_ok-stages-in-Ok-clause-place g c =
    let old = c.args.stages in
    let all = length-append old.before.items (old.last ∷ []) in
    let many = ap length c.in_ok-stages-in-Ok.ensures.before in
    let place = c.requires.place in
    omega (arith, all, many, place)
