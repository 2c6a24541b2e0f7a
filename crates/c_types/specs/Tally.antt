-- What is counted, as the code has it.
use Rattle.c_tree.specs.View.{declaration_of, statement_of}
use Rattle.c_tree.specs.declared.statement.Item as items
use Rattle.types_rules.specs.Limits.{Tally, nothing_counted, one_restriction, tally_declaration, tally_statement}
use Rattle.c_types.specs.declared.tally.Tally as code

abbrev pub tally_said : code.Tally → Tally
tally_said t = record { functions = t.functions; parameters = t.parameters; markers = t.markers; restrictions = t.restrictions }

abbrev pub tally_item : items.Item → Tally
tally_item (items.Declaration declaration) = tally_declaration (declaration_of declaration)
tally_item (items.Statement statement) = tally_statement (statement_of statement)
tally_item (items.Restriction pragma) = one_restriction
tally_item (items.Label label) = nothing_counted
