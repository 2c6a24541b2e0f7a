-- What is visible at a node (C11 6.2.1), and the numbers that were given before it.
use Rattle.std.specs.Prelude.{ℕ, ◌+◌, nat_eq, Bool, true, false, ◌&&◌, not, if◌then◌else◌, List, [], ◌∷◌, ◌++◌, length, position, Option, Some, None}
use Rattle.std.specs.List.{list_any}
use Rattle.std.specs.Map.{lookup}
use Rattle.c_tree.specs.Tree.{Row, Nothing, Then}
use Rattle.types_tree.specs.declared.variable.Duration.{Duration}
use Rattle.types_tree.specs.declared.variable.Duration.TheVariants.{Static, Automatic}
use Rattle.types_tree.specs.declared.variable.Extent.{Extent}
use Rattle.types_tree.specs.declared.variable.Extent.TheVariants.{Scalar, Array, Parameter}
use Rattle.types_tree.specs.declared.variable.Variable.{Variable}
use Rattle.types_value.specs.Kinds.{same_kind}
use Rattle.types_value.specs.declared.kind.Kind.{Kind}
use Rattle.types_value.specs.declared.kind.Kind.TheVariants.{Int}
use Rattle.types_rules.specs.declared.scope.Binding.{Binding}
use Rattle.types_rules.specs.declared.scope.Binding.TheVariants.{Object, Function}
use Rattle.types_rules.specs.declared.scope.ParamType.{ParamType}
use Rattle.types_rules.specs.declared.scope.Routine.{Routine}

abbrev pub or_else : {A : Type 0} → Option A → Option A → Option A
or_else (Some x) o = Some x
or_else None o = o

-- what is known of a unit as a whole: the names of its functions in the order of their definitions, and three names by their numbers
pub record Outline : Type 0 where
  pub definitions : List ℕ
  pub main : ℕ
  pub getchar : ℕ
  pub putchar : ℕ

-- the names of one scope, each with what it stands for
abbrev pub Scope : Type 0
Scope = List (ℕ × Binding)

-- the innermost scope, and those around it, the outermost first; every function declared so far with its type, and the names
-- of those defined so far; the objects, loops and markers so far
pub record Around : Type 0 where
  pub outline : Outline
  pub outer : List Scope
  pub scope : Scope
  pub routines : List (ℕ × Routine)
  pub defined : List ℕ
  pub variables : List Variable
  pub loops : ℕ
  pub markers : ℕ

-- what a name stands for by a declaration in this very scope
abbrev pub found_here : ℕ → Around → Option Binding
found_here name a = lookup (nat_eq name) a.scope

-- an inner scope hides an outer one
abbrev pub found_outside : ℕ → List Scope → Option Binding
found_outside name [] = None
found_outside name (scope ∷ inner) = or_else (found_outside name inner) (lookup (nat_eq name) scope)

-- what a name stands for
abbrev pub found : ℕ → Around → Option Binding
found name a = or_else (found_here name a) (found_outside name a.outer)

-- the type of a function, wherever it was declared
abbrev pub routine_of : ℕ → Around → Option Routine
routine_of name a = lookup (nat_eq name) a.routines

abbrev pub params_of : Option Routine → List ParamType
params_of None = []
params_of (Some routine) = routine.params

abbrev pub result_of : Option Routine → Kind
result_of None = Int
result_of (Some routine) = routine.result

abbrev pub is_among : ℕ → List ℕ → Bool
is_among n ns = list_any (nat_eq n) ns

-- one more, unless it is among them
abbrev pub with_number : List ℕ → ℕ → List ℕ
with_number ns n = if list_any (nat_eq n) ns then ns else ns ++ n ∷ []

abbrev pub or_zero : Option ℕ → ℕ
or_zero None = 0
or_zero (Some n) = n

-- the place of a number in a list, counted from 0
abbrev pub index_of : ℕ → List ℕ → ℕ
index_of n ns = or_zero (position (nat_eq n) ns)

abbrev pub same_bool : Bool → Bool → Bool
same_bool true b = b
same_bool false b = not b

abbrev pub same_param : ParamType → ParamType → Bool
same_param p q = same_kind p.kind q.kind && same_bool p.is_array q.is_array && same_bool p.is_const q.is_const

abbrev pub same_params : List ParamType → List ParamType → Bool
same_params [] [] = true
same_params (p ∷ ps) (q ∷ qs) = same_param p q && same_params ps qs
same_params _ _ = false

-- whether two functions have one type
abbrev pub same_type : Routine → Routine → Bool
same_type f g = same_kind f.result g.result && same_params f.params g.params

abbrev pub is_array : Extent → Bool
is_array Scalar = false
is_array (Array count) = true
is_array Parameter = true

abbrev pub has_scope : List Scope → Bool
has_scope [] = false
has_scope (scope ∷ rest) = true

-- whether a node stands in a block, and not at file level
abbrev pub in_block : Around → Bool
in_block a = has_scope a.outer

-- what is declared at file level lives as long as the program (C11 6.2.4)
abbrev pub duration_in : (block : Bool) → Duration
duration_in false = Static
duration_in true = Automatic

-- a scope in which a name stands for this
abbrev pub bound : Scope → ℕ → Binding → Scope
bound [] name binding = (name, binding) ∷ []
bound (entry ∷ rest) name binding = if nat_eq name entry.0 then (entry.0, binding) ∷ rest else entry ∷ bound rest name binding

-- one object more, which has the next number and is visible from here on
abbrev pub with_object : ℕ → Kind → (const : Bool) → Extent → Around → Around
with_object name kind const extent a = record a {
  scope = bound a.scope name (Object (record { 0 = length a.variables }) kind const (is_array extent));
  variables = a.variables ++ record { name = record { 0 = name }; kind = kind; extent = extent; duration = duration_in (in_block a) } ∷ [];
}

abbrev pub with_type : Option Routine → ℕ → Routine → List (ℕ × Routine) → List (ℕ × Routine)
with_type None name routine routines = routines ++ (name, routine) ∷ []
with_type (Some known) name routine routines = routines

-- a function declared, which is visible from here on; its first declaration in the unit gives its type
abbrev pub with_routine : ℕ → Routine → Around → Around
with_routine name routine a = record a {
  scope = bound a.scope name Function;
  routines = with_type (routine_of name a) name routine a.routines;
}

-- a function defined
abbrev pub with_definition : ℕ → Around → Around
with_definition name a = record a { defined = with_number a.defined name }

-- one loop more
abbrev pub with_loop : Around → Around
with_loop a = record a { loops = a.loops + 1 }

-- one marker more
abbrev pub with_marker : Around → Around
with_marker a = record a { markers = a.markers + 1 }

-- within a block, which is a scope of its own
abbrev pub entered : Around → Around
entered a = record a { outer = a.outer ++ a.scope ∷ []; scope = [] }

abbrev pub innermost : List Scope → Scope
innermost [] = []
innermost (scope ∷ []) = scope
innermost (scope ∷ next ∷ rest) = innermost (next ∷ rest)

abbrev pub without_innermost : List Scope → List Scope
without_innermost [] = []
without_innermost (scope ∷ []) = []
without_innermost (scope ∷ next ∷ rest) = scope ∷ without_innermost (next ∷ rest)

-- behind a block, whose scope is gone
abbrev pub left : Around → Around
left a = record a { outer = without_innermost a.outer; scope = innermost a.outer }

-- `getchar` and `putchar` are declared beforehand
abbrev pub getchar_type : Routine
getchar_type = record { result = Int; params = [] }

abbrev pub putchar_type : Routine
putchar_type = record { result = Int; params = record { kind = Int; is_array = false; is_const = false } ∷ [] }

-- before the first node
abbrev pub nothing_yet : Outline → Around
nothing_yet outline = record { outline = outline; outer = []; scope = []; routines = []; defined = []; variables = []; loops = 0; markers = 0 }

abbrev pub started : Outline → Around
started outline = with_routine outline.putchar putchar_type (with_routine outline.getchar getchar_type (nothing_yet outline))

-- behind the parts of a row, each of which is seen behind those before it
abbrev pub after_row : {B : Type 0} → (B → Around → Around) → Row B → Around → Around
after_row step Nothing a = a
after_row step (Then front last) a = step last (after_row step front a)

-- what leaves nothing visible
abbrev pub unseen : {B : Type 0} → B → Around → Around
unseen x a = a
