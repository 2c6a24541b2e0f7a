-- The sites in an item, as the code has it.
use Rattle.std.specs.Prelude.{List, [], ◌∷◌}
use Rattle.facts_definitions.specs.Sites.{declaration_sites, statement_sites}
use Rattle.facts_definitions.specs.declared.site.Site.{Site}
use Rattle.facts_definitions.specs.declared.site.Site.TheVariants as sites
use Rattle.types_tree.specs.View.{declaration_of, statement_of}
use Rattle.types_tree.specs.declared.statement.Item.{Item}
use Rattle.types_tree.specs.declared.statement.Item.TheVariants.{Declaration, Statement, Restriction, Label}
use Rattle.types_tree.specs.declared.variable.Variable.{Variable}

abbrev pub item_sites : List Variable → Item → List Site
item_sites variables (Declaration declaration) = declaration_sites variables (declaration_of declaration)
item_sites variables (Statement statement) = statement_sites variables (statement_of statement)
item_sites variables (Restriction pragma) = sites.Restriction pragma ∷ []
item_sites variables (Label label) = []
