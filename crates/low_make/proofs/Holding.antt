-- The parts of a program, with words in registers.
use Rattle.std.proofs.Common.{◌≡◌, ℕ, List, map, ap, ◌∙◌}
use Rattle.std.specs.Prelude.{Vec}
use Rattle.std.specs.Global.{Global}
use Rattle.high_ir.specs.Tree.{Program}
use Rattle.pass_constant_hoisting.specs.Holding.{held_functions, held_program}
use Rattle.low_ir.specs.Code.{Function, Low, Note}
use Rattle.low_ir.specs.declared.low.Function as functions
use Rattle.low_ir.specs.View.{claim_of, function_of, object_of, program}
use Rattle.low_make.specs.View.{parts_program}
use Rattle.low_make.specs.declared.program.Parts.{Parts}
use Rattle.lower_definition.specs.Programs.{lowered}

pub parts_held : (p : Program) (parts : Parts) (words : List (Vec ℕ Global)) (held fns : List functions.Function) → parts_program parts ≡ lowered p → fns ≡ parts.functions.items → map function_of held ≡ held_functions (map claim_of words) 0 (map function_of fns) → program held parts.claims.items parts.objects.items parts.main parts.marks ≡ held_program (map claim_of words) (lowered p)
parts_held p parts words held fns same are e =
    let made = e ∙ ap (λ xs. held_functions (map claim_of words) 0 (map function_of xs)) are in
    let with : List (Function ℕ Note) → Low = λ fns. record { functions = fns; claims = map claim_of parts.claims.items; objects = map object_of parts.objects.items; main = parts.main; marks = parts.marks } in
    ap with made ∙ ap (held_program (map claim_of words)) same
