use Rattle.std.proofs.Common.{◌++◌, [], ◌∷◌, List, length, sym, ap, subst}
use Rattle.types_tree.specs.View.{program_of as source_of}
use Rattle.high_ir.specs.declared.copies.Carried.{Carried}
use Rattle.high_ir.specs.Programs.{program_of}
use Rattle.high_pass.specs.Listing.{listing_of}
use Rattle.compile_high_definitions.specs.Carried.{IsCarried}
use Rattle.compile_high_law.proofs.Carried.{planned_carried}
use Rattle.wcc_compile.specs.Passes.{AreStages}
use Rattle.wcc_compile.proofs.high_passes.begun.Goals as goal

pub returns-clause-begun : goal.returns-clause-begun
returns-clause-begun c =
    let s = c.args.source.now in
    let names = s.typed.program.names.items in
    let tree = source_of s.typed.program in
    let plan = c.args.plan in
    λ options. record {
      stages = subst (λ (xs : List Carried). AreStages options names tree s.facts (xs ++ plan ∷ [])) (sym c.new.ensures.items) (c.requires.planned, tt);
      carried = subst (λ n. IsCarried names tree s.facts n (program_of plan.program) (listing_of plan.copies)) (sym (ap length c.new.ensures.items))
          (planned_carried c.requires.source.0 names tree s.facts (program_of plan.program) (listing_of plan.copies) c.requires.source.1 c.requires.planned);
    }
