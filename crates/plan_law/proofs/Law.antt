-- The plan of a source carries it.
use Rattle.std.proofs.Common.{◌≡◌, ℕ, ◌+◌, ◌≤◌, List, [], ◌∷◌, ◌++◌, None, length, refl, sym, ◌∙◌, subst, arith, All}
use Rattle.std.specs.List.{range_with_len}
use Rattle.std.specs.Prelude.{get_or, sum_by}
use Rattle.std.proofs.lemmas.List.Elements.{All-cons, All-map, All-nil}
use Rattle.std.proofs.lemmas.List.Sums.{sum_by-cons}
use Rattle.facts_definitions.specs.FlowFacts.{main_of}
use Rattle.facts_definitions.specs.declared.facts.Facts.{Facts}
use Rattle.meaning_semantics.specs.Runs.{start}
use Rattle.c_tree.specs.Tree.{TranslationUnit, Whole}
use Rattle.types_tree.specs.Tree.{Program}
use Rattle.types_rules.specs.Typed.{fault_of, typed_of}
use Rattle.types_calls.specs.Calls.{CallsDefined}
use Rattle.types_seen.proofs.Calls.{calls_defined}
use Rattle.types_rules.specs.Scope.{started}
use Rattle.types_rules.specs.Sights.{outline_of}
use Rattle.high_ir.specs.Runs.{hrun}
use Rattle.high_ir.specs.Tree as high
use Rattle.high_ir.specs.Weight.{reach}
use Rattle.plan_definition.specs.Programs.{program_planned}
use Rattle.high_pass.specs.Carries.{Carries, RunsAlike}
use Rattle.high_pass.specs.Law.{ReachWithin}
use Rattle.high_pass.specs.Listing.{LoopEntry, MarkEntry}
use Rattle.plan_forms.specs.Numbers.{FunctionsNumbered}
use Rattle.plan_formed.proofs.Units.{functions_numbered}
use Rattle.plan_law.proofs.Bytes.{bytes_most}
use Rattle.plan_formed.specs.Checked.{IsChecked}
use Rattle.plan_formed.proofs.Operations.{operations_few}
use Rattle.plan_formed.proofs.Planned.{planned_is_high}
use Rattle.plan_formed.proofs.Weights.{reach_most, weight_most}
use Rattle.plan_carried.specs.Loops.{Planned, functions_loops}
use Rattle.plan_runs.specs.Kept.{same_mark}
use Rattle.plan_runs.proofs.Main.{kept_runs}
use Rattle.plan_served.specs.Layouts.{layout_of, rest_of, signatures_of}
use Rattle.types_seen.specs.Units.{HasTree}
use Rattle.plan_served.proofs.Trees.{is_layout}
use Rattle.plan_served.proofs.Programs.{serves}
use Rattle.plan_served.proofs.Begins.{begins}
use Rattle.plan_carried.specs.Sources.{loop_entry, planned_listing, source_behaviour, source_marks, source_shown}
use Rattle.plan_carried.proofs.Carried.{carried}
use Rattle.plan_law.specs.Plans.{KeepsSource}

numbered : (names : List (List ℕ)) (unit : TranslationUnit ℕ) → FunctionsNumbered 0 (typed_of names unit).functions
numbered names (Whole items at) = functions_numbered items (started (outline_of names (Whole items at))) [] refl tt

calls : (names : List (List ℕ)) (unit : TranslationUnit ℕ) → fault_of names unit ≡ None → CallsDefined (typed_of names unit)
calls names (Whole items at) passes = calls_defined names items at passes

module _ (names : List (List ℕ)) (program : Program) (facts : Facts) (checked : IsChecked names program facts) where
  tree : HasTree names program
  tree = record { unit = checked.unit; passes = checked.passes; program_is = checked.program_is }

  -- each kept run is a good run of the plan, and shows the same
  pub runs_alike : (input : List ℕ) → RunsAlike (planned_listing program facts) (source_shown program names facts input) (hrun (program_planned program facts (main_of program names)) input)
  runs_alike input =
      kept_runs (layout_of program facts) (is_layout names program facts tree) (signatures_of program) (rest_of program facts) (program_planned program facts (main_of program names))
      (serves names program facts (main_of program names) tree (subst CallsDefined (sym checked.program_is) (calls names checked.unit checked.passes)) checked.facts_are) (λ bytes. start program (length facts.markers) bytes) (begins names program facts tree checked.facts_are) (facts.functions ++ facts.markers) facts.restrictions (planned_listing program facts) refl refl input

  pub planned_carries : Carries (source_behaviour program names facts) (program_planned program facts (main_of program names)) (planned_listing program facts)
  planned_carries =
      carried program names facts (planned_is_high names program facts checked) (subst (λ p. FunctionsNumbered 0 p.functions) (sym checked.program_is) (numbered names checked.unit)) runs_alike

  alone_sum : (f : ℕ → ℕ) (m : ℕ) → sum_by f (m ∷ []) ≡ f m
  alone_sum f m = sum_by-cons f m [] ∙ none (f m)
    where
      none : (a : ℕ) → a + 0 ≡ a
      none a = omega arith

  abbrev planned : high.Program
  planned = program_planned program facts (main_of program names)

  abbrev Reached : MarkEntry → Type 0
  Reached e = sum_by (reach planned) e.new ≤ facts.most

  marks_reached : ReachWithin (λ mark. facts.most) planned (planned_listing program facts)
  marks_reached = All-map Reached same_mark (range_with_len 0 (source_marks program facts))
      (λ i d lt. let m = get_or (range_with_len 0 (source_marks program facts)) i d in subst (λ n. n ≤ facts.most) (sym (alone_sum (reach planned) m)) (reach_most names program facts checked m))

  abbrev ls : List Planned
  ls = functions_loops facts.bounds program.functions

  abbrev IsOnce : LoopEntry → Type 0
  IsOnce e = All (λ l. l.factor ≤ 1) e.new

  once : (l : Planned) → IsOnce (loop_entry l)
  once l = All-cons (λ c. c.factor ≤ 1) (record { id = l.id; factor = 1 }) [] (omega arith) (All-nil (λ c. c.factor ≤ 1))

  pub planned_keeps : KeepsSource names program facts planned (planned_listing program facts)
  planned_keeps = record {
    is_high = planned_is_high names program facts checked;
    carries = planned_carries;
    factors = record { loops = All-map IsOnce loop_entry ls (λ i d lt. once (get_or ls i d)); nevers = All-nil (λ v. v.factor ≤ 1) };
    nevers = refl;
    weight = weight_most names program facts checked;
    reach = marks_reached;
    budgets = record { operations = operations_few names program facts checked; depth = (planned_is_high names program facts checked).depth; locals = bytes_most names program facts checked };
  }
