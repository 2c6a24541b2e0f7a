-- What is said of an item, as the code has it, and of functions by their numbers.
use Rattle.std.specs.Prelude.{ℕ, List, Bool, false}
use Rattle.std.proofs.Math.ListN.{get_or}
use Rattle.facts_definitions.specs.Most.{declaration_most, label_most, statement_most}
use Rattle.facts_definitions.specs.Starts.{leaves}
use Rattle.facts_definitions.specs.declared.facts.Bounds.{Bounds}
use Rattle.types_tree.specs.View.{declaration_of, label_of, statement_of}
use Rattle.types_tree.specs.declared.statement.Item.{Item}
use Rattle.types_tree.specs.declared.statement.Item.TheVariants.{Declaration, Statement, Restriction, Label}

abbrev pub item_leaves : Bool → Item → Bool
item_leaves own (Declaration declaration) = false
item_leaves own (Statement statement) = leaves own (statement_of statement)
item_leaves own (Restriction pragma) = false
item_leaves own (Label label) = false

-- the number of a function, or 0
abbrev pub calls_by : List ℕ → ℕ → ℕ
calls_by calls function = get_or calls function 0

abbrev pub item_most : List Bounds → (ℕ → ℕ) → Item → ℕ
item_most bounds calls (Declaration declaration) = declaration_most bounds calls (declaration_of declaration)
item_most bounds calls (Statement statement) = statement_most bounds calls (statement_of statement)
item_most bounds calls (Restriction pragma) = 1
item_most bounds calls (Label label) = label_most calls (label_of label)
