-- A source that was read has a program that can be planned.
use Rattle.std.proofs.Common.{◌≡◌, ℕ, ◌≤◌, Bool, true, false, List, All, sym, ap, subst}
use Rattle.std.specs.Prelude.{Ok}
use Rattle.std.proofs.lemmas.List.Elements.{All-nil}
use Rattle.types_calls.specs.Calls.{graph_of}
use Rattle.types_calls.specs.Chains.{AreRanks}
use Rattle.facts_definitions.specs.FlowFacts.{AreFacts, IsDerived, flow_facts}
use Rattle.facts_definitions.specs.declared.facts.Facts.{Facts}
use Rattle.facts_sources.specs.Sources.{HasFacts, IsSource, derived_for}
use Rattle.c_tree.specs.Named.{named_unit}
use Rattle.c_tree.specs.Names.{name_of}
use Rattle.c_tree.specs.Size.{over, size_unit}
use Rattle.c_tree.specs.Tree.{TranslationUnit, Whole}
use Rattle.c_tree.proofs.NamedSizes.{size_externals_named}
use Rattle.types_tree.specs.Tree.{Program}
use Rattle.types_seen.specs.Units.{HasTree}
use Rattle.plan_law.proofs.Unbounded.{all_derived}
use Rattle.plan_formed.specs.Checked.{IsChecked}
use Rattle.plan_formed.proofs.Facts.{says}

-- names don't count
size_named : {N : Type 0} (f : ℕ → N) (unit : TranslationUnit ℕ) → size_unit (named_unit f unit) ≡ size_unit unit
size_named f (Whole items at) = ap over (size_externals_named f items)

-- bounds that are derived are bounds for loops without a pragma
are_derived : (derive : Bool) (names : List (List ℕ)) (program : Program) → HasTree names program → All (IsDerived program) (derived_for derive program)
are_derived true names program tree = all_derived names program tree
are_derived false names program tree = All-nil (IsDerived program)

are_facts : (derive : Bool) (program : Program) (names : List (List ℕ)) (facts : Facts) → HasTree names program → HasFacts derive program names facts → AreFacts program names facts
are_facts derive program names facts tree h =
    let derived = derived_for derive program in
    let same = sym (ap (λ x. x.ranks) (says program names h.ranks derived facts h.facts_are).facts_are) in
    record {
      ranks = subst (λ r. AreRanks (graph_of program) r.of_functions) same h.are_ranks;
      derived = derived;
      are_derived = are_derived derive names program tree;
      whole = subst (λ r. flow_facts program names r derived ≡ Ok facts) same h.facts_are;
    }

pub checked : (source : List ℕ) (names : List (List ℕ)) (program : Program) (facts : Facts) → IsSource source names program facts → IsChecked names program facts
checked source names program facts h =
    let p = h.has_program in
    record {
      unit = p.unit;
      passes = p.passes;
      program_is = p.program_is;
      shallow = subst (λ s. s.depth ≤ 256) (size_named (name_of names) p.unit) p.has.shallow;
      facts_are = are_facts h.derive program names facts (record { unit = p.unit; passes = p.passes; program_is = p.program_is }) h.has_facts;
    }
