-- Facts that are given the bounds that are derived have them.
use Rattle.std.proofs.Common.{◌≡◌, refl, sym, ap, ◌∙◌, subst, ℕ, ◌+◌, List, [], Ok, All, zero-add}
use Rattle.std.specs.Prelude.{slice_get}
use Rattle.types_calls.specs.Calls.{graph_of}
use Rattle.types_calls.specs.Chains.{AreRanks}
use Rattle.facts_definitions.specs.FlowFacts.{AreFacts, facts_of, flow_facts}
use Rattle.facts_definitions.specs.Most.{bounds_at}
use Rattle.facts_definitions.specs.Sites.{sites_of}
use Rattle.facts_definitions.specs.declared.facts.Bounds.{Bounds}
use Rattle.facts_definitions.specs.declared.facts.Derived.{Derived}
use Rattle.facts_definitions.specs.declared.facts.Facts.{Facts}
use Rattle.types_calls.specs.declared.ranks.Ranks.{Ranks}
use Rattle.types_rules.specs.Scope.{Outline, started}
use Rattle.types_rules.specs.Sights.{outline_of}
use Rattle.types_rules.specs.Specifiers.{kind_spelled}
use Rattle.types_rules.specs.Typing.{typed_items}
use Rattle.c_tree.specs.Tree.{Row, External, Whole}
use Rattle.types_tree.specs.Tree as c
use Rattle.types_tree.specs.Tree.{Program}
use Rattle.plan_served.specs.Places.{AreBounds}
use Rattle.types_seen.proofs.Fronts.{defined}
use Rattle.types_seen.proofs.Units.{of_tree}
use Rattle.types_seen.specs.Fronts.{IsDefined, begun_by, behind}
use Rattle.types_seen.specs.Units.{HasTree, IsUnit}
use Rattle.plan_forms.specs.Numbers.{FunctionsNumbered}
use Rattle.plan_forms.specs.Numbers as numbers
use Rattle.plan_formed.proofs.Facts.{says}
use Rattle.plan_served.proofs.Sites.{bounds_body}
use Rattle.plan_formed.proofs.Standing.{items_numbered}
use Rattle.plan_formed.proofs.Units.{functions_numbered}
use Rattle.facts_loops.specs.CountingLoops.{derived_of, function_loops, loops_of}
use Rattle.facts_loops.specs.declared.form.LoopForm.{LoopForm}
use Rattle.counting_laws.specs.Wider.{HasDerived, HasOwn}
use Rattle.counting_laws.proofs.Gets.{FormGets, Found, all_found, functions_ascend, items_get, own_of}
use Rattle.plan_law.proofs.DerivedLists.{Each, all_of, each_both}
use Rattle.plan_law.proofs.Unbounded.{all_derived, each_of_functions}

module _ (outline : Outline) (items : Row (External ℕ)) (program : Program) (unit : IsUnit outline items program) (derived : List Derived) (bounds : List Bounds) (are : AreBounds derived bounds 0 (sites_of program)) where
  -- each loop has its bounds among those of the program
  all_get : Each (FormGets derived bounds program.variables) (loops_of program)
  all_get = each_of_functions (FormGets derived bounds program.variables) program.variables program.functions (λ g f e. of g f (defined outline items g f (ap (λ l. slice_get l g) (sym unit.functions_are) ∙ e)))
    where
      of : (g : ℕ) (f : c.Function) → IsDefined outline items g f → Each (FormGets derived bounds program.variables) (function_loops program.variables f)
      of g f x =
          let d = x.definition in
          let begun = begun_by d (behind outline x.front) in
          let body = typed_items (kind_spelled d.specifiers) d.body begun c.NoItem in
          subst (λ y. Each (FormGets derived bounds program.variables) (function_loops program.variables y)) (sym x.function_is)
          (items_get derived bounds program.variables body begun.loops (items_numbered (kind_spelled d.specifiers) d.body begun c.NoItem tt) (bounds_body outline items program unit derived bounds x.front d x.part are))

-- the bounds of facts are those of the program's sites
bounds_are : (program : Program) (names : List (List ℕ)) (ranks : Ranks) (derived : List Derived) (facts : Facts) → facts ≡ facts_of program names ranks derived → AreBounds derived facts.bounds 0 (sites_of program)
bounds_are program names ranks derived facts same = record {
  by = λ i b e. ap (λ (f : Facts). slice_get f.bounds (0 + i)) same ∙ ap (slice_get (facts_of program names ranks derived).bounds) (zero-add i) ∙ e;
}

-- they are facts, since the bounds that are derived are bounds for loops without a pragma
are_facts : (names : List (List ℕ)) (program : Program) (ranks : Ranks) (facts : Facts) → HasTree names program → AreRanks (graph_of program) ranks.of_functions → facts.ranks ≡ ranks → flow_facts program names ranks (derived_of program) ≡ Ok facts → AreFacts program names facts
are_facts names program ranks facts tree ranked same h =
    record {
      ranks = subst (λ (r : Ranks). AreRanks (graph_of program) r.of_functions) (sym same) ranked;
      derived = derived_of program;
      are_derived = all_derived names program tree;
      whole = subst (λ (r : Ranks). flow_facts program names r (derived_of program) ≡ Ok facts) (sym same) h;
    }

-- each loop finds the bounds that are derived for it
found_of : (outline : Outline) (items : Row (External ℕ)) (program : Program) → IsUnit outline items program → Each (Found (derived_of program)) (loops_of program)
found_of outline items program unit =
    let numbered = subst (FunctionsNumbered 0) (sym unit.functions_are) (functions_numbered items (started outline) [] refl tt) in
    all_found 0 (loops_of program) (0 + numbers.functions_loops program.functions) (functions_ascend program.variables program.functions 0 numbered)

pub all_find : (names : List (List ℕ)) (program : Program) → HasTree names program → All (Found (derived_of program)) (loops_of program)
all_find names program tree =
    let u = of_tree names program tree in
    all_of (Found (derived_of program)) (loops_of program) (found_of (outline_of names (Whole u.items u.at)) u.items program u.is_unit)

pub facts_have : (names : List (List ℕ)) (program : Program) (ranks : Ranks) (facts : Facts) → HasTree names program → AreRanks (graph_of program) ranks.of_functions → flow_facts program names ranks (derived_of program) ≡ Ok facts → HasDerived names program facts
facts_have names program ranks facts tree ranked h =
    let u = of_tree names program tree in
    let derived = derived_of program in
    let said = says program names ranks derived facts h in
    let are = are_facts names program ranks facts tree ranked (ap (λ (f : Facts). f.ranks) said.facts_are) h in
    let get = all_get (outline_of names (Whole u.items u.at)) u.items program u.is_unit derived facts.bounds (bounds_are program names ranks derived facts said.facts_are) in
    let found = found_of (outline_of names (Whole u.items u.at)) u.items program u.is_unit in
    record {
      tree = tree;
      are_facts = are;
      own = all_of (λ (l : LoopForm). HasOwn l.derived (bounds_at facts.bounds l.number)) (loops_of program)
          (each_both (FormGets derived facts.bounds program.variables) (Found derived) (λ (l : LoopForm). HasOwn l.derived (bounds_at facts.bounds l.number)) (λ l gets there. own_of facts.bounds derived program.variables l gets there) (loops_of program) get found);
    }
