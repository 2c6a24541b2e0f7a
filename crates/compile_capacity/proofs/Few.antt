-- The loops of a source are numbered in its order, and it has as many as its plan.
use Rattle.std.proofs.Common.{◌≡◌, ℕ, ◌^◌, ◌<◌, List, length, map, sym, ap, ◌∙◌, subst, arith, All}
use Rattle.std.specs.List.{range_with_len}
use Rattle.std.proofs.lemmas.List.Elements.{All-map, All-same}
use Rattle.std.proofs.lemmas.List.FromFn.{get_or-range_with_len, length-range_with_len}
use Rattle.facts_definitions.specs.FlowFacts.{main_of}
use Rattle.facts_definitions.specs.declared.facts.Facts.{Facts}
use Rattle.types_tree.specs.Tree as c
use Rattle.plan_carried.specs.Sources.{source_behaviour}
use Rattle.plan_definition.specs.Programs.{plan_of, program_planned}
use Rattle.plan_formed.specs.Checked.{IsChecked}
use Rattle.plan_formed.proofs.Planned.{planned_is_high, program_numbered}
use Rattle.plan_carried.specs.Loops.{Planned, functions_loops, in_source}
use Rattle.plan_carried.proofs.LoopNumbers.{functions_order, number_of}
use Rattle.plan_carried.proofs.LoopSources.{functions_are}
use Rattle.plan_forms.specs.Numbers.{functions_loops as loops_count}
use Rattle.plan_forms.proofs.NumberedPrograms.{functions_count}
use Rattle.high_ir.specs.Formed.{IsHigh}
use Rattle.high_ir.specs.Standing.{Bounded}
use Rattle.high_ir.specs.Tree.{Program}
use Rattle.high_pass.proofs.Elements.{All-map_back}
use Rattle.compile_capacity.proofs.Nodes.{few_loops}

module _ (names : List (List ℕ)) (program : c.Program) (facts : Facts) (checked : IsChecked names program facts) where
  abbrev planned : Program
  planned = program_planned program facts (main_of program names)

  abbrev ls : List Planned
  ls = functions_loops facts.bounds program.functions

  abbrev count : ℕ
  count = loops_count program.functions

  is_high : IsHigh planned
  is_high = planned_is_high names program facts checked

  -- both sides have the numbers from 0 on
  as_many : count ≡ planned.loops
  as_many =
      let own = functions_count (plan_of program facts) program.variables facts.ranks.of_functions program.functions 0 0 (program_numbered names program facts checked) in
      sym (length-range_with_len 0 count) ∙ (ap length (sym own ∙ is_high.loops) ∙ length-range_with_len 0 planned.loops)

  abbrev IsFew : Bounded → Type 0
  IsFew l = l.id < 2 ^ 26

  numbers_few : All (λ x. x < 2 ^ 26) (map number_of ls)
  numbers_few =
      All-same (λ x. x < 2 ^ 26) (map number_of ls) (range_with_len 0 count) (functions_order facts.bounds program.functions 0 (program_numbered names program facts checked))
      (λ k d lt.
      let within : k < count = subst (λ n. k < n) (length-range_with_len 0 count) lt in
      let many = as_many in
      let few = few_loops planned is_high in
      let here = get_or-range_with_len 0 count k d within in
      omega (arith, within, many, few, here))

  pub source_loops_few : All IsFew (source_behaviour program names facts).loops
  source_loops_few =
      subst (λ (loops : List Bounded). All IsFew loops) (functions_are facts.bounds program.functions)
      (All-map IsFew in_source ls (All-map_back (λ x. x < 2 ^ 26) number_of ls numbers_few))
