use Rattle.std.proofs.Common.{ap, subst, sym, ◌∙◌}
use Rattle.facts_definitions.specs.FlowFacts.{main_of}
use Rattle.types_tree.specs.View.{program_of as source_of}
use Rattle.plan_carried.specs.Sources.{planned_listing}
use Rattle.plan_law.specs.Plans.{KeepsSource}
use Rattle.high_pass.specs.Listing.{listing_of}
use Rattle.plan_definition.specs.Programs.{program_planned}
use Rattle.high_make.specs.Trees.{FitsTree}
use Rattle.high_make.proofs.Keeps.{fits, keeps}
use Rattle.high_make.proofs.made.make.Goals as goal

pub returns-in-Ok-clause-keeps : goal.returns-in-Ok-clause-keeps
returns-in-Ok-clause-keeps c =
    let unit = c.args.unit.now in
    let names = unit.program.names.items in
    let source = source_of unit.program in
    let facts = c.args.facts.now in
    let made = listing_of c.in_ok-copies.copies in
    let copies = c.in_ok-copies.ensures ∙ ap (λ p. planned_listing (source_of p) facts) c.program.ensures.program in
    subst (λ p. ∥ KeepsSource names source facts p made ∥₁) (sym c.in-Ok.ensures)
    (subst (λ l. ∥ KeepsSource names source facts (program_planned source facts (main_of source names)) l ∥₁) (sym copies) (keeps names source facts unit.is_typed c.requires))

pub returns-in-Ok-clause-fits : goal.returns-in-Ok-clause-fits
returns-in-Ok-clause-fits c =
    let unit = c.args.unit.now in
    let names = unit.program.names.items in
    let source = source_of unit.program in
    subst (λ p. ∥ FitsTree names source p ∥₁) (sym c.in-Ok.ensures) (fits names source c.args.facts.now unit.is_typed c.requires)
