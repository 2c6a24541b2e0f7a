-- The plan of a source keeps the limits, and passes keep them.
use Rattle.std.proofs.Common.{ℕ, ◌^◌, ◌≤◌, List, length, sym, ap, subst, arith}
use Rattle.std.proofs.lemmas.List.{length-map}
use Rattle.facts_definitions.specs.FlowFacts.{main_of}
use Rattle.facts_definitions.specs.declared.facts.Facts.{Facts}
use Rattle.facts_sources.specs.Sources.{IsSource}
use Rattle.types_tree.specs.Tree as typed
use Rattle.high_ir.specs.Tree as high
use Rattle.high_pass.specs.Law.{IsLawful, signature_of}
use Rattle.high_pass.specs.Listing.{Listing}
use Rattle.plan_definition.specs.Programs.{plan_of, program_planned}
use Rattle.plan_forms.proofs.FormedPrograms.{length_planned}
use Rattle.plan_formed.specs.Checked.{IsChecked}
use Rattle.plan_formed.proofs.Operations.{operations_few}
use Rattle.plan_formed.proofs.Planned.{planned_is_high}
use Rattle.plan_law.proofs.Bytes.{bytes_most}
use Rattle.plan_law.proofs.Sources.{checked}
use Rattle.compile_high_definitions.specs.Limits.{IsLimited, global_bytes}
use Rattle.compile_high_law.proofs.CarriedUnits.{few_functions, globals_few}

plan_limited : (names : List (List ℕ)) (program : typed.Program) (facts : Facts) → IsChecked names program facts → IsLimited (program_planned program facts (main_of program names))
plan_limited names program facts h =
    let planned = length_planned (plan_of program facts) program.variables facts.ranks.of_functions program.functions 0 in
    let few = subst (λ (q : typed.Program). length q.functions ≤ 256) (sym h.program_is) (few_functions names h.unit h.passes) in
    let globals = globals_few names h.unit h.passes program h.program_is in
    record {
      functions = omega (arith, planned, few);
      globals = omega (arith, globals);
      budgets = record { operations = operations_few names program facts h; depth = (planned_is_high names program facts h).depth; locals = bytes_most names program facts h };
    }

pub source_limited : (source : List ℕ) (names : List (List ℕ)) (program : typed.Program) (facts : Facts) → IsSource source names program facts → IsLimited (program_planned program facts (main_of program names))
source_limited source names program facts h = plan_limited names program facts (checked source names program facts h)

pub pass_limited : (old new : high.Program) (listing : Listing) → IsLawful old new listing → IsLimited old → IsLimited new
pass_limited old new listing lawful limited =
    let before = length-map old.functions signature_of in
    let after = length-map new.functions signature_of in
    let same = ap length lawful.functions in
    let few = limited.functions in
    record {
      functions = omega (arith, before, after, same, few);
      globals = subst (λ os. global_bytes os ≤ 2 ^ 18) (sym lawful.objects) limited.globals;
      budgets = lawful.budgets limited.budgets;
    }
