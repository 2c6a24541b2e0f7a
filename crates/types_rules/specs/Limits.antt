-- The limits of a unit and the order of its faults.
use Rattle.std.specs.Prelude.{ℕ, ◌+◌, ◌*◌, nat_lt, if◌then◌else◌, List, [], ◌∷◌, Option, Some, None}
use Rattle.c_tree.specs.Size.{size_unit}
use Rattle.c_tree.specs.Tree.{Row, Nothing, Then, Param, Declaration, Objects, Prototype, ForStart, NoStart, StartValue, StartDeclaration, Statement, Block, Empty, Evaluate, Marker, If, IfElse, While, Do, For, Switch, Break, Continue, Return, Items, NoItem, AndDeclaration, AndStatement, AndRestriction, AndLabel, External, Restriction, Declaring, Function, TranslationUnit, Whole}
use Rattle.types_tree.specs.declared.variable.Duration.{Duration}
use Rattle.types_tree.specs.declared.variable.Duration.TheVariants.{Static, Automatic}
use Rattle.types_tree.specs.declared.variable.Extent.{Extent}
use Rattle.types_tree.specs.declared.variable.Extent.TheVariants.{Scalar, Array, Parameter}
use Rattle.types_tree.specs.declared.variable.Variable.{Variable}
use Rattle.types_value.specs.Kinds.{bytes}
use Rattle.types_value.specs.declared.kind.Kind.{Kind}
use Rattle.wcc_base.specs.Limits.{greatest_of}
use Rattle.wcc_base.specs.Sizes.{rounded}
use Rattle.wcc_base.specs.declared.limits.Bound.{Bound}
use Rattle.wcc_base.specs.declared.limits.Bound.TheVariants.{Nodes, Functions, Parameters, Markers, Restrictions, Globals, Locals}
use Rattle.types_rules.specs.DeclarationRules.{is_no_list}
use Rattle.types_rules.specs.Scope.{Outline, or_else, started}
use Rattle.types_rules.specs.Sights.{after_externals, first_fault, unit_nodes}
use Rattle.types_rules.specs.declared.fault.Fault.{Fault}
use Rattle.types_rules.specs.declared.fault.TypeFault.{TypeFault}
use Rattle.types_rules.specs.declared.fault.TypeFault.TheVariants.{Limit, Rule}

-- what a part of a unit has of what is counted; of the numbers of parameters the first above the limit
pub record Tally : Type 0 where
  pub functions : ℕ
  pub parameters : Option ℕ
  pub markers : ℕ
  pub restrictions : ℕ

abbrev pub nothing_counted : Tally
nothing_counted = record { functions = 0; parameters = None; markers = 0; restrictions = 0 }

abbrev pub one_function : Tally
one_function = record { functions = 1; parameters = None; markers = 0; restrictions = 0 }

abbrev pub one_marker : Tally
one_marker = record { functions = 0; parameters = None; markers = 1; restrictions = 0 }

abbrev pub one_restriction : Tally
one_restriction = record { functions = 0; parameters = None; markers = 0; restrictions = 1 }

-- of parts one behind the other
abbrev pub joined : Tally → Tally → Tally
joined s t = record {
  functions = s.functions + t.functions;
  parameters = or_else s.parameters t.parameters;
  markers = s.markers + t.markers;
  restrictions = s.restrictions + t.restrictions;
}

abbrev pub row_length : {A : Type 0} → Row A → ℕ
row_length Nothing = 0
row_length (Then front last) = row_length front + 1

abbrev pub parameter_count : {N : Type 0} → Row (Param N) → ℕ
parameter_count params = if is_no_list params then 0 else row_length params

abbrev pub over : Bound → ℕ → Option ℕ
over which n = if nat_lt (greatest_of which) n then Some n else None

abbrev pub tally_params : {N : Type 0} → Row (Param N) → Tally
tally_params params = record { functions = 0; parameters = over Parameters (parameter_count params); markers = 0; restrictions = 0 }

abbrev pub tally_declaration : {N : Type 0} → Declaration N → Tally
tally_declaration (Objects specifiers objects at) = nothing_counted
tally_declaration (Prototype specifiers name params at) = tally_params params

abbrev pub tally_start : {N : Type 0} → ForStart N → Tally
tally_start NoStart = nothing_counted
tally_start (StartValue value) = nothing_counted
tally_start (StartDeclaration declaration) = tally_declaration declaration

abbrev mutual
  pub tally_statement : {N : Type 0} → Statement N → Tally
  tally_statement (Block items at) = tally_items items
  tally_statement (Empty at) = nothing_counted
  tally_statement (Evaluate value at) = nothing_counted
  tally_statement (Marker pragma) = one_marker
  tally_statement (If test first at) = tally_statement first
  tally_statement (IfElse test first second at) = joined (tally_statement first) (tally_statement second)
  tally_statement (While bound test body at) = tally_statement body
  tally_statement (Do bound body test at) = tally_statement body
  tally_statement (For bound start test step body at) = joined (tally_start start) (tally_statement body)
  tally_statement (Switch test items at) = tally_items items
  tally_statement (Break at) = nothing_counted
  tally_statement (Continue at) = nothing_counted
  tally_statement (Return value at) = nothing_counted

  pub tally_items : {N : Type 0} → Items N → Tally
  tally_items NoItem = nothing_counted
  tally_items (AndDeclaration front declaration) = joined (tally_items front) (tally_declaration declaration)
  tally_items (AndStatement front statement) = joined (tally_items front) (tally_statement statement)
  tally_items (AndRestriction front pragma) = joined (tally_items front) one_restriction
  tally_items (AndLabel front label) = tally_items front

abbrev pub tally_external : {N : Type 0} → External N → Tally
tally_external (Restriction pragma) = one_restriction
tally_external (Declaring declaration) = tally_declaration declaration
tally_external (Function specifiers name name_at params body body_at at) = joined one_function (joined (tally_params params) (tally_items body))

abbrev pub tally_externals : {N : Type 0} → Row (External N) → Tally
tally_externals Nothing = nothing_counted
tally_externals (Then front last) = joined (tally_externals front) (tally_external last)

abbrev pub tally_unit : {N : Type 0} → TranslationUnit N → Tally
tally_unit (Whole items at) = tally_externals items

abbrev pub limit : Bound → Option ℕ → Option TypeFault
limit which None = None
limit which (Some found) = Some (Limit which found)

-- the first limit that is passed, of those that come before the rules
abbrev pub limits_before : (nodes : ℕ) → Tally → Option TypeFault
limits_before nodes t =
    or_else (limit Nodes (over Nodes nodes))
    (or_else (limit Functions (over Functions t.functions))
    (or_else (limit Parameters t.parameters)
    (or_else (limit Markers (over Markers t.markers))
    (limit Restrictions (over Restrictions t.restrictions)))))

-- the bytes of an object: 4 of a scalar or an array parameter, those of an array rounded up to a multiple of 4
abbrev pub object_bytes : Kind → Extent → ℕ
object_bytes kind Scalar = 4
object_bytes kind (Array count) = rounded (count * bytes kind)
object_bytes kind Parameter = 4

abbrev pub global_bytes_of : Duration → ℕ → ℕ
global_bytes_of Static n = n
global_bytes_of Automatic n = 0

abbrev pub local_bytes_of : Duration → ℕ → ℕ
local_bytes_of Static n = 0
local_bytes_of Automatic n = n

abbrev pub global_bytes : List Variable → ℕ
global_bytes [] = 0
global_bytes (v ∷ rest) = global_bytes_of v.duration (object_bytes v.kind v.extent) + global_bytes rest

abbrev pub local_bytes : List Variable → ℕ
local_bytes [] = 0
local_bytes (v ∷ rest) = local_bytes_of v.duration (object_bytes v.kind v.extent) + local_bytes rest

-- the first limit that is passed, of those that come behind the rules
abbrev pub limits_behind : List Variable → Option TypeFault
limits_behind variables = or_else (limit Globals (over Globals (global_bytes variables))) (limit Locals (over Locals (local_bytes variables)))

abbrev pub broken : Option Fault → Option TypeFault
broken None = None
broken (Some fault) = Some (Rule fault.rule fault.at)

abbrev pub variables_of : Outline → TranslationUnit ℕ → List Variable
variables_of outline (Whole items at) = (after_externals items (started outline)).variables

-- why a unit has no typed tree
abbrev pub unit_fault : Outline → TranslationUnit ℕ → Option TypeFault
unit_fault outline unit =
    or_else (limits_before (size_unit unit).nodes (tally_unit unit))
    (or_else (broken (first_fault (unit_nodes outline unit)))
    (limits_behind (variables_of outline unit)))
