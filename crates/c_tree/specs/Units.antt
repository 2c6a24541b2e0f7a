-- The tree of a unit.
use Rattle.std.specs.Prelude.{ℕ, List}
use Rattle.c_tree.specs.declared.unit.Unit.{Unit}
use Rattle.c_tree.specs.Named.{named_unit}
use Rattle.c_tree.specs.Names.{name_of}
use Rattle.c_tree.specs.Tree.{TranslationUnit}
use Rattle.c_tree.specs.View.{unit_of}

-- with the number of each name
abbrev pub tree_of : Unit → TranslationUnit ℕ
tree_of unit = unit_of unit.items.items unit.at

-- with the names themselves
abbrev pub named_tree_of : Unit → TranslationUnit (List ℕ)
named_tree_of unit = named_unit (name_of unit.names.items) (tree_of unit)
