-- The typed tree of a unit whose constants are words.
use Rattle.std.proofs.Common.{ℕ, List, [], ◌∷◌, length}
use Rattle.c_tree.specs.Tree.{Row, Nothing, Then, External, Restriction, Declaring, Function, TranslationUnit, Whole}
use Rattle.types_rules.specs.Scope.{Around, after_row, started}
use Rattle.types_rules.specs.Sights.{after_external, body_around, outline_of}
use Rattle.types_rules.specs.Specifiers.{kind_spelled}
use Rattle.types_rules.specs.Typing.{and_external, typed_declaration, typed_function, typed_row}
use Rattle.types_tree.specs.Tree as typed
use Rattle.types_rules.specs.Typed.{typed_of}
use Rattle.plan_law.specs.Words.{ExternalsWords, FunctionsWords, ProgramWords}
use Rattle.compile_high_law.specs.Trees.{ExternalTree, RowTree, UnitTree}
use Rattle.compile_high_law.proofs.Typing.{declaration_words, items_words}

functions_words : (items : Row (External ℕ)) (a : Around) (rest : List typed.Function) → RowTree ExternalTree items → FunctionsWords rest → FunctionsWords (typed_row after_external typed_function items a rest)
functions_words Nothing a rest h r = r
functions_words (Then front (Restriction pragma)) a rest h r = functions_words front a rest h.0 r
functions_words (Then front (Declaring declaration)) a rest h r = functions_words front a rest h.0 r
functions_words (Then front (Function specifiers name name_at params body body_at at)) a rest h r =
    let b = after_row after_external front a in
    functions_words front a (typed_function (Function specifiers name name_at params body body_at at) b rest) h.0 (items_words (kind_spelled specifiers) body (body_around specifiers name params b) typed.NoItem h.1 tt, r)

externals_words : (items : Row (External ℕ)) (a : Around) (rest : List typed.External) → RowTree ExternalTree items → ExternalsWords rest → ExternalsWords (typed_row after_external and_external items a rest)
externals_words Nothing a rest h r = r
externals_words (Then front (Restriction pragma)) a rest h r = externals_words front a (typed.Restriction pragma ∷ rest) h.0 r
externals_words (Then front (Declaring declaration)) a rest h r =
    let b = after_row after_external front a in
    externals_words front a (typed.Declaring (typed_declaration declaration b) ∷ rest) h.0 (declaration_words declaration b h.1, r)
externals_words (Then front (Function specifiers name name_at params body body_at at)) a rest h r =
    let b = after_row after_external front a in
    externals_words front a (typed.Defining (length b.defined) ∷ rest) h.0 r

pub unit_words : (names : List (List ℕ)) (unit : TranslationUnit ℕ) → UnitTree unit → ProgramWords (typed_of names unit)
unit_words names (Whole items at) h =
    let start = started (outline_of names (Whole items at)) in
    record { functions = functions_words items start [] h tt; externals = externals_words items start [] h tt }
