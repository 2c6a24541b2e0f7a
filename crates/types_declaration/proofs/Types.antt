-- Lists of parameters and of their types.
use Rattle.std.proofs.Common.{◌≡◌, ◌≢◌, refl, ap, ◌∙◌, ℕ, suc, ◌≤◌, List, [], ◌∷◌, ◌++◌, length, map, Bool, true, false, ◌&&◌, arith}
use Rattle.std.proofs.lemmas.List.{append-nil}
use Rattle.c_tree.specs.Tree.{Row, Nothing, Then, Param}
use Rattle.c_tree.specs.View.{param_of as source_param, row_of}
use Rattle.c_tree.specs.declared.declaration.Param as sources
use Rattle.types_rules.specs.DeclarationRules.{is_no_list, param_type, param_types, types_of}
use Rattle.types_rules.specs.Scope.{same_param, same_params}
use Rattle.types_rules.specs.declared.scope.ParamType.{ParamType}

and-false : (b c : Bool) → false ≡ c → false ≡ (b && c)
and-false true c h = h
and-false false c h = refl

pub other_length : (ps qs : List ParamType) → length ps ≢ length qs → false ≡ same_params ps qs
other_length [] [] h = absurd (h refl)
other_length [] (q ∷ qs) h = refl
other_length (p ∷ ps) [] h = refl
other_length (p ∷ ps) (q ∷ qs) h = and-false (same_param p q) (same_params ps qs) (other_length ps qs (λ e. h (ap suc e)))

more_params : (front : Row (Param ℕ)) (a b : Param ℕ) (xs : List sources.Param) → false ≡ is_no_list (row_of source_param (Then (Then front a) b) xs)
more_params front a b [] = refl
more_params front a b (x ∷ xs) = more_params (Then front a) b (source_param x) xs

pub many_params : (xs : List sources.Param) → 2 ≤ length xs → false ≡ is_no_list (row_of source_param Nothing xs)
many_params [] h = absurd (omega (arith, h))
many_params (x ∷ []) h = absurd (omega (arith, h))
many_params (x ∷ y ∷ xs) h = more_params Nothing (source_param x) (source_param y) xs

abbrev pub type_of : sources.Param → ParamType
type_of param = param_type (source_param param)

pub param_types-row : (front : Row (Param ℕ)) (xs : List sources.Param) (rest : List ParamType) → param_types (row_of source_param front xs) rest ≡ param_types front (map type_of xs ++ rest)
param_types-row front [] rest = refl
param_types-row front (x ∷ xs) rest = param_types-row (Then front (source_param x)) xs rest

pub types_of-list : (xs : List sources.Param) → is_no_list (row_of source_param Nothing xs) ≡ false → types_of (row_of source_param Nothing xs) ≡ map type_of xs
types_of-list xs h = rw h (param_types-row Nothing xs [] ∙ append-nil (map type_of xs))
