use Rattle.std.proofs.Common.{◌≡◌}
use Rattle.facts_definitions.specs.FlowFacts.{main_of}
use Rattle.types_tree.specs.View.{program_of as source_of}
use Rattle.plan_carried.specs.Sources.{planned_listing}
use Rattle.plan_law.proofs.Sources.{checked}
use Rattle.plan_definition.specs.Programs.{program_planned}
use Rattle.high_ir.specs.Programs.{program_of}
use Rattle.high_ir.specs.declared.copies.Carried.{Carried}
use Rattle.high_pass.specs.Listing.{listing_of}
use Rattle.compile_high_definitions.specs.Carried.{IsPlanned}
use Rattle.wcc_compile.proofs.Both.{both}
use Rattle.wcc_compile.proofs.making.planned.Goals as goal

pub make-requires : goal.make-requires
make-requires c =
    let s = c.args.source.now in
    (checked c.requires.0 s.typed.program.names.items (source_of s.typed.program) s.facts c.requires.1).facts_are

pub returns : goal.returns
returns c =
    let s = c.args.source.now in
    let names = s.typed.program.names.items in
    let source = source_of s.typed.program in
    both c.make.result (λ (x : Carried). program_of x.program ≡ program_planned source s.facts (main_of source names)) (λ (x : Carried). listing_of x.copies ≡ planned_listing source s.facts)
    (λ (x : Carried). IsPlanned names source s.facts (program_of x.program) (listing_of x.copies)) (λ x is listed. record { program = is; listed = listed })
    c.make.ensures.planned c.make.ensures.listed
