-- The calls in an item, as the code has it.
use Rattle.std.specs.Prelude.{ℕ, List, []}
use Rattle.types_calls.specs.Calls.{calls_below, declaration_calls, function_calls, label_calls, statement_calls}
use Rattle.types_tree.specs.View.{declaration_of, function_of, label_of, statement_of}
use Rattle.types_tree.specs.declared.external.Function as functions
use Rattle.types_tree.specs.declared.statement.Item.{Item}
use Rattle.types_tree.specs.declared.statement.Item.TheVariants.{Declaration, Statement, Restriction, Label}

abbrev pub item_calls : Item → List ℕ
item_calls (Declaration declaration) = declaration_calls (declaration_of declaration)
item_calls (Statement statement) = statement_calls (statement_of statement)
item_calls (Restriction pragma) = []
item_calls (Label label) = label_calls (label_of label)

-- those calls in a function that are of one of so many functions
abbrev pub kept_calls : ℕ → functions.Function → List ℕ
kept_calls count function = calls_below count (function_calls (function_of function))
