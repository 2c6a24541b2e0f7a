-- What stands in a program that facts are read from, in source order: loops with or without a pragma, fillings, markers,
-- restrictions, and functions that are declared or defined.
use Rattle.std.specs.Prelude.{ℕ, ◌+◌, ◌-◌, List, [], ◌∷◌, ◌++◌, Option, Some, None, slice_get}
use Rattle.facts_definitions.specs.declared.site.Site.{Site}
use Rattle.facts_definitions.specs.declared.site.Site.TheVariants as sites
use Rattle.c_tree.specs.declared.pragma.Pragma.{Pragma}
use Rattle.types_tree.specs.declared.variable.Extent.{Extent}
use Rattle.types_tree.specs.declared.variable.Extent.TheVariants as extents
use Rattle.types_tree.specs.declared.variable.Variable.{Variable}
use Rattle.types_tree.specs.Tree.{Exprs, NoExpr, WithExpr, Initial, Absent, Value, Listed, Object, Declared, Declaration, Objects, Prototype, ForStart, NoStart, StartValue, StartDeclaration, Statement, Block, Empty, Evaluate, Marker, If, IfElse, While, Do, For, Switch, Break, Continue, Return, Items, NoItem, WithDeclaration, WithStatement, WithRestriction, WithLabel, Function, Defined, External, Restriction, Declaring, Defining, Program}

abbrev pub count_exprs : Exprs → ℕ
count_exprs NoExpr = 0
count_exprs (WithExpr e rest) = count_exprs rest + 1

-- the elements of an object
abbrev pub elements : Extent → ℕ
elements extents.Scalar = 1
elements (extents.Array count) = count
elements extents.Parameter = 0

abbrev pub elements_of : Option Variable → ℕ
elements_of None = 0
elements_of (Some variable) = elements variable.extent

abbrev pub filling_sites : (left : ℕ) → Option ℕ → List Site
filling_sites left None = []
filling_sites left (Some number) = sites.Filling number left ∷ []

-- a list leaves elements over, which are filled
abbrev pub initial_sites : (elements : ℕ) → Initial → List Site
initial_sites elements Absent = []
initial_sites elements (Value value) = []
initial_sites elements (Listed values comma filling) = filling_sites (elements - count_exprs values) filling

abbrev pub object_sites : List Variable → Object → List Site
object_sites variables (Declared object shape initial at) = initial_sites (elements_of (slice_get variables object)) initial

abbrev pub objects_sites : List Variable → List Object → List Site
objects_sites variables [] = []
objects_sites variables (object ∷ rest) = object_sites variables object ++ objects_sites variables rest

abbrev pub declaration_sites : List Variable → Declaration → List Site
declaration_sites variables (Objects specifiers objects at) = objects_sites variables objects
declaration_sites variables (Prototype specifiers name params at) = sites.Function (record { 0 = name }) ∷ []

abbrev pub start_sites : List Variable → ForStart → List Site
start_sites variables NoStart = []
start_sites variables (StartValue value) = []
start_sites variables (StartDeclaration declaration) = declaration_sites variables declaration

-- a loop of this number
abbrev pub loop_site : ℕ → Option Pragma → (at : ℕ) → Site
loop_site number None at = sites.Unbounded number at
loop_site number (Some pragma) at = sites.Bounded number pragma

abbrev mutual
  pub statement_sites : List Variable → Statement → List Site
  statement_sites variables (Block items at) = items_sites variables items
  statement_sites variables (Empty at) = []
  statement_sites variables (Evaluate value at) = []
  statement_sites variables (Marker number pragma) = sites.Marker pragma ∷ []
  statement_sites variables (If test first at) = statement_sites variables first
  statement_sites variables (IfElse test first second at) = statement_sites variables first ++ statement_sites variables second
  statement_sites variables (While number bound test body at) = loop_site number bound at ∷ statement_sites variables body
  statement_sites variables (Do number bound body test at) = loop_site number bound at ∷ statement_sites variables body
  statement_sites variables (For number bound start test step body at) = loop_site number bound at ∷ (start_sites variables start ++ statement_sites variables body)
  statement_sites variables (Switch test items at) = items_sites variables items
  statement_sites variables (Break at) = []
  statement_sites variables (Continue at) = []
  statement_sites variables (Return value at) = []

  pub items_sites : List Variable → Items → List Site
  items_sites variables NoItem = []
  items_sites variables (WithDeclaration declaration rest) = declaration_sites variables declaration ++ items_sites variables rest
  items_sites variables (WithStatement statement rest) = statement_sites variables statement ++ items_sites variables rest
  items_sites variables (WithRestriction pragma rest) = sites.Restriction pragma ∷ items_sites variables rest
  items_sites variables (WithLabel label rest) = items_sites variables rest

abbrev pub function_sites : List Variable → Option Function → List Site
function_sites variables None = []
function_sites variables (Some (Defined specifiers name name_at params first body body_at at)) = sites.Function (record { 0 = name }) ∷ items_sites variables body

abbrev pub external_sites : Program → External → List Site
external_sites program (Restriction pragma) = sites.Restriction pragma ∷ []
external_sites program (Declaring declaration) = declaration_sites program.variables declaration
external_sites program (Defining number) = function_sites program.variables (slice_get program.functions number)

abbrev pub externals_sites : Program → List External → List Site
externals_sites program [] = []
externals_sites program (external ∷ rest) = external_sites program external ++ externals_sites program rest

-- of the whole program
abbrev pub sites_of : Program → List Site
sites_of program = externals_sites program program.items
