-- How many operations the program of a source has.
use Rattle.std.specs.Prelude.{◌≡◌, ℕ, ◌*◌, ◌≤◌, List, None}
use Rattle.c_tree.specs.Size.{size_unit}
use Rattle.c_tree.specs.Tree.{TranslationUnit}
use Rattle.types_tree.specs.Tree as c
use Rattle.types_rules.specs.Typed.{fault_of, typed_of}
use Rattle.high_ir.specs.Size.{program_operations}
use Rattle.high_ir.specs.Tree.{Program}

-- a tree of the source, and at most six operations for each of its nodes
pub record FitsTree (names : List (List ℕ)) (source : c.Program) (p : Program) : Type 0 where
  pub unit : TranslationUnit ℕ
  pub passes : fault_of names unit ≡ None
  pub source_is : source ≡ typed_of names unit
  pub operations : program_operations p ≤ 6 * (size_unit unit).nodes
