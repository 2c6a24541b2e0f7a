-- What is touched, one after another.
use Rattle.std.specs.Prelude.{ℕ, suc, List, [], ◌∷◌, ◌++◌, map}
use Rattle.low_ir.specs.declared.places.Place.{Place}
use Rattle.low_ir.specs.Code.{Instr, Function, Note}
use Rattle.low_ir.specs.Places.{Placed}
use Rattle.asm_program.specs.Frames.{Memory}
use Rattle.asm_code.specs.declared.scope.Scope.{Scope}
use Rattle.asm_code.specs.Scopes.{program}
use Rattle.claims_definition.specs.Touches.{Touch, instr_touches, function_touches}
use Rattle.claims_touches.specs.declared.touch.Touch as names
use Rattle.claims_touches.specs.declared.touch.Touch.TheVariants as named
use Rattle.claims_touches.specs.Named.{touch_in}

-- by the claims of the program that has a function
abbrev pub touches_in : Scope → List names.Touch → List Touch
touches_in s = map (touch_in (program s).claims)

-- of instructions, without an end
abbrev pub instrs_touches : Memory → Placed → ℕ → List (Instr Place (List ℕ)) → List Touch
instrs_touches m p f [] = []
instrs_touches m p f (i ∷ is) = instr_touches m p f i ++ instrs_touches m p f is

-- a block has an instruction of its own
abbrev pub filled_names : List names.Touch → List names.Touch
filled_names [] = named.Nothing ∷ []
filled_names (t ∷ ts) = t ∷ ts

-- of functions from number f on
abbrev pub each_touches : Memory → Placed → ℕ → List (Function ℕ Note) → List (List (List Touch))
each_touches m p f [] = []
each_touches m p f (fn ∷ fns) = function_touches m p f ∷ each_touches m p (suc f) fns
