-- What is said of an item, as the code has it.
use Rattle.std.specs.Prelude.{ℕ, List, [], Bool, false}
use Rattle.types_tree.specs.View.{declaration_of, statement_of}
use Rattle.types_tree.specs.declared.statement.Item.{Item}
use Rattle.types_tree.specs.declared.statement.Item.TheVariants.{Declaration, Statement, Restriction, Label}
use Rattle.types_tree.specs.declared.variable.Variable.{Variable}
use Rattle.facts_loops.specs.Changes.{declaration_changes, statement_changes}
use Rattle.facts_loops.specs.CountingLoops.{statement_loops}
use Rattle.facts_loops.specs.declared.form.LoopForm.{LoopForm}

abbrev pub item_changes : (object : ℕ) → Item → Bool
item_changes object (Declaration declaration) = declaration_changes object (declaration_of declaration)
item_changes object (Statement statement) = statement_changes object (statement_of statement)
item_changes object (Restriction pragma) = false
item_changes object (Label label) = false

abbrev pub item_loops : List Variable → Item → List LoopForm
item_loops variables (Declaration declaration) = []
item_loops variables (Statement statement) = statement_loops variables (statement_of statement)
item_loops variables (Restriction pragma) = []
item_loops variables (Label label) = []
