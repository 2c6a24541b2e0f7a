-- What the code has, without where it lies in memory.
use Rattle.std.specs.Prelude.{◌≡◌, ℕ, List, Option, map}
use Rattle.high_ir.specs.Tree.{Function}
use Rattle.high_ir.specs.View.{expr_of, function_of}
use Rattle.high_ir.specs.declared.expression.Expr as exprs
use Rattle.high_ir.specs.declared.high.Function as functions
use Rattle.high_ir.specs.declared.object.Base.{Base}
use Rattle.inliner.specs.Inlining as inlining
use Rattle.inliner.specs.Measures.{sizes_of}
use Rattle.inliner.specs.Moving as moving
use Rattle.inliner.specs.Opening.{Site}
use Rattle.inliner.specs.declared.inlining.Making.{Making}
use Rattle.inliner.specs.declared.moving.Place.{Place}
use Rattle.inliner.specs.declared.opening.Call.{Call}
use Rattle.inliner.specs.declared.walking.Scope.{Scope}

abbrev pub place_of : Place → moving.Place
place_of place = record { base = place.base; arrays = place.arrays.now; into = place.into }

abbrev pub site : ℕ → List exprs.Expr → List Base → Option ℕ → Site
site function values arrays into = record { function = function; values = map expr_of values; arrays = arrays; into = into }

abbrev pub site_of : Call → Site
site_of call = site call.function call.values.now call.arrays.now call.into

abbrev pub functions_of : List functions.Function → List Function
functions_of fs = map function_of fs

-- the sizes are those of the functions
abbrev pub IsSized : Scope → Type 0
IsSized scope = scope.sizes.now ≡ map sizes_of (functions_of scope.functions.now)

abbrev pub making_of : Making → inlining.Making
making_of making = record { functions = functions_of making.functions.items; used = making.used }

abbrev pub IsSizedMaking : Making → Type 0
IsSizedMaking making = making.sizes.items ≡ map sizes_of (functions_of making.functions.items)
