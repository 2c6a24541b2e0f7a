use Rattle.std.proofs.Common.{◌≡◌, ap, arith, subst, sym, ◌∙◌}
use Rattle.facts_definitions.specs.FlowFacts.{main_of}
use Rattle.types_tree.specs.View.{program_of as source_of}
use Rattle.high_ir.specs.Formed.{IsHigh}
use Rattle.plan_definition.specs.Programs.{program_planned}
use Rattle.high_make.proofs.Keeps.{is_high, small}
use Rattle.high_make.proofs.made.high.Goals as goal

pub program-requires : goal.program-requires
program-requires c = small c.args.unit.now.program.names.items (source_of c.args.unit.now.program) c.args.facts.now c.args.unit.now.is_typed c.requires

pub invariant_of-result : goal.invariant_of-result
invariant_of-result c =
    let unit = c.args.unit.now in
    let source = c.program-source.result.now in
    let facts = c.args.facts.now in
    let main : c.in_ok-main.main ≡ main_of (source_of source) source.names.items = omega (arith, c.in_ok-main.ensures, c.main_of.ensures) in
    let same = c.in_ok-functions.ensures c.in_ok-main.main ∙ ap (program_planned (source_of source) facts) main ∙ ap (λ p. program_planned (source_of p) facts (main_of (source_of p) p.names.items)) c.program-source.ensures.program in
    record { is_high = subst IsHigh (sym same) (is_high unit.program.names.items (source_of unit.program) facts unit.is_typed c.requires) }

pub returns : goal.returns
returns c =
    let source = c.program-source.result.now in
    let facts = c.args.facts.now in
    let main : c.in_ok-main.main ≡ main_of (source_of source) source.names.items = omega (arith, c.in_ok-main.ensures, c.main_of.ensures) in
    c.in_ok-functions.ensures c.in_ok-main.main ∙ ap (program_planned (source_of source) facts) main ∙ ap (λ p. program_planned (source_of p) facts (main_of (source_of p) p.names.items)) c.program-source.ensures.program
