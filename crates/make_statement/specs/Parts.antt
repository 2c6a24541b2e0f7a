-- The parts of a switch, as far as they are made.
use Rattle.std.specs.Prelude.{ℕ}
use Rattle.types_tree.specs.View.{declaration_of, statement_of}
use Rattle.types_tree.specs.declared.statement.Item.{Item}
use Rattle.types_tree.specs.declared.statement.Item.TheVariants as item
use Rattle.high_ir.specs.Tree.{Statements}
use Rattle.high_code.specs.Code.{joined}
use Rattle.plan_definition.specs.Statements as plans
use Rattle.plan_definition.specs.Statements.{and_before, at_label, declared, guarded, planned}
use Rattle.make_pieces.specs.View.{code_of}
use Rattle.make_statement.specs.declared.parts.Parts.{Parts}

-- all parts, where these are left
abbrev pub parts_of : (noted : ℕ) → Parts → plans.Parts → Statements
parts_of noted parts left = joined (code_of parts.done) (guarded noted parts.number (joined (code_of parts.part) left.before) left.behind)

-- what is left from an item on, whose label would have this number
abbrev pub item_parts : plans.Plan → (noted : ℕ) → Item → (number k : ℕ) → plans.Exits → plans.Parts → plans.Parts
item_parts plan noted (item.Declaration declaration) number k exits left = and_before (declared plan (declaration_of declaration) 0 k) left
item_parts plan noted (item.Statement statement) number k exits left = and_before (planned plan (statement_of statement) k exits) left
item_parts plan noted (item.Restriction pragma) number k exits left = left
item_parts plan noted (item.Label label) number k exits left = at_label noted number left

abbrev pub labels_in : Item → ℕ
labels_in (item.Declaration declaration) = 0
labels_in (item.Statement statement) = 0
labels_in (item.Restriction pragma) = 0
labels_in (item.Label label) = 1
