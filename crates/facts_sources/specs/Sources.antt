-- A source with its typed program and its facts.
use Rattle.std.specs.Prelude.{◌≡◌, ℕ, ◌≤◌, Bool, true, false, List, [], None, Ok}
use Rattle.c_tree.specs.Formed.{IsTreeOf}
use Rattle.c_tree.specs.Names.{name_of, names_of_unit}
use Rattle.c_tree.specs.Named.{named_unit}
use Rattle.c_tree.specs.Said.{TokenList}
use Rattle.c_tree.specs.Size.{size_unit}
use Rattle.c_tree.specs.Spelling.{spoken}
use Rattle.c_tree.specs.Tree.{TranslationUnit}
use Rattle.c_lexer.specs.Cut.{HasTokens}
use Rattle.types_tree.specs.Tree.{Program}
use Rattle.types_calls.specs.Calls.{graph_of}
use Rattle.types_calls.specs.Chains.{AreRanks}
use Rattle.types_calls.specs.declared.ranks.Ranks.{Ranks}
use Rattle.types_rules.specs.Typed.{fault_of, typed_of}
use Rattle.facts_definitions.specs.FlowFacts.{flow_facts}
use Rattle.facts_definitions.specs.declared.facts.Derived.{Derived}
use Rattle.facts_definitions.specs.declared.facts.Facts.{Facts}
use Rattle.facts_loops.specs.CountingLoops.{derived_of}

-- the source's tokens are the spelling of this well-formed tree, which is at most 256 deep; its names are numbered in the order in which they first stand
pub record HasUnit (source : List ℕ) (names : List (List ℕ)) (unit : TranslationUnit ℕ) : Type 0 where
  pub tokens : TokenList
  pub of_source : tokens.source ≡ source
  pub has : HasTokens source tokens.list
  pub tree : IsTreeOf (named_unit (name_of names) unit) (spoken tokens)
  pub shallow : (size_unit (named_unit (name_of names) unit)).depth ≤ 256
  pub in_order : names ≡ names_of_unit (named_unit (name_of names) unit)

-- the tree fails no rule and is within the limits, and this is its typed form
pub record HasProgram (source : List ℕ) (names : List (List ℕ)) (program : Program) : Type 0 where
  pub unit : TranslationUnit ℕ
  pub has : HasUnit source names unit
  pub passes : fault_of names unit ≡ None
  pub program_is : program ≡ typed_of names unit

-- the bounds that are derived for counting loops without a pragma, where they are asked for
abbrev pub derived_for : (derive : Bool) → Program → List Derived
derived_for true program = derived_of program
derived_for false program = []

-- no function of the program reaches itself, each of its loops has a bound, and these are its facts
pub record HasFacts (derive : Bool) (program : Program) (names : List (List ℕ)) (facts : Facts) : Type 0 where
  pub ranks : Ranks
  pub are_ranks : AreRanks (graph_of program) ranks.of_functions
  pub facts_are : flow_facts program names ranks (derived_for derive program) ≡ Ok facts

-- where bounds are derived, or aren't
pub record IsSourceBy (derive : Bool) (source : List ℕ) (names : List (List ℕ)) (program : Program) (facts : Facts) : Type 0 where
  pub has_program : HasProgram source names program
  pub has_facts : HasFacts derive program names facts

-- in one of these ways
pub record IsSource (source : List ℕ) (names : List (List ℕ)) (program : Program) (facts : Facts) : Type 0 where
  pub derive : Bool
  pub has_program : HasProgram source names program
  pub has_facts : HasFacts derive program names facts
