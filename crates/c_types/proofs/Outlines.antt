-- What is known of a unit as a whole, by its parts one after the other.
use Rattle.std.proofs.Common.{◌≡◌, refl, ap, ◌∙◌, ℕ, List, [], ◌∷◌}
use Rattle.c_tree.specs.Tree.{Row, Then, External}
use Rattle.c_tree.specs.View.{external_of, row_of}
use Rattle.c_tree.specs.declared.external.External as externals
use Rattle.c_tree.specs.declared.external.External.TheVariants as external
use Rattle.types_rules.specs.Scope.{Outline}
use Rattle.types_rules.specs.Sights.{definitions}
use Rattle.c_types.specs.Outline.{outline_from, with_external}

abbrev pub outlined : Row (External ℕ) → (main getchar putchar : ℕ) → Outline
outlined items main getchar putchar = record { definitions = definitions items; main = main; getchar = getchar; putchar = putchar }

outlined-one : (front : Row (External ℕ)) (x : externals.External) (main getchar putchar : ℕ) → with_external x (outlined front main getchar putchar) ≡ outlined (Then front (external_of x)) main getchar putchar
outlined-one front (external.Restriction pragma) main getchar putchar = refl
outlined-one front (external.Declaration declaration) main getchar putchar = refl
outlined-one front (external.Function function) main getchar putchar = refl

pub outline_from-row : (front : Row (External ℕ)) (xs : List externals.External) (main getchar putchar : ℕ) → outline_from xs (outlined front main getchar putchar) ≡ outlined (row_of external_of front xs) main getchar putchar
outline_from-row front [] main getchar putchar = refl
outline_from-row front (x ∷ xs) main getchar putchar = ap (outline_from xs) (outlined-one front x main getchar putchar) ∙ outline_from-row (Then front (external_of x)) xs main getchar putchar
