-- What is known of a unit as a whole, as one walk finds it.
use Rattle.std.specs.Prelude.{ℕ, List, [], ◌∷◌}
use Rattle.c_tree.specs.declared.external.External as externals
use Rattle.c_tree.specs.declared.external.External.TheVariants as external
use Rattle.types_rules.specs.Scope.{Outline, with_number}

-- with one more definition
abbrev pub with_defined : ℕ → Outline → Outline
with_defined name outline = record { definitions = with_number outline.definitions name; main = outline.main; getchar = outline.getchar; putchar = outline.putchar }

abbrev pub with_external : externals.External → Outline → Outline
with_external (external.Restriction pragma) outline = outline
with_external (external.Declaration declaration) outline = outline
with_external (external.Function function) outline = with_defined function.name.0 outline

abbrev pub outline_from : List externals.External → Outline → Outline
outline_from [] outline = outline
outline_from (x ∷ xs) outline = outline_from xs (with_external x outline)
