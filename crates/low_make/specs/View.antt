-- What calls pass, without where it lies in memory.
use Rattle.std.specs.Prelude.{ℕ, List, map, Vec}
use Rattle.std.specs.Global.{Global}
use Rattle.low_ir.specs.Code.{Low}
use Rattle.low_ir.specs.View.{claim_of, program}
use Rattle.low_make.specs.declared.program.Parts.{Parts}

abbrev pub claims_of : List (Vec ℕ Global) → List (List ℕ)
claims_of claims = map claim_of claims

abbrev pub passed_of : List (Vec (Vec ℕ Global) Global) → List (List (List ℕ))
passed_of passed = map (λ (c : Vec (Vec ℕ Global) Global). claims_of c.items) passed

abbrev pub parts_program : Parts → Low
parts_program p = program p.functions.items p.claims.items p.objects.items p.main p.marks
