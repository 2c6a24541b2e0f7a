-- The pieces of the code, without where they lie in memory.
use Rattle.std.specs.Prelude.{ℕ, ◌+◌, [], ◌∷◌, ◌++◌, map}
use Rattle.low_ir.specs.View.{instr_of}
use Rattle.lower_definition.specs.Operators.{Code}
use Rattle.lower_definition.specs.Values.{Coded}
use Rattle.lower_coder.specs.declared.coder.Coder.{Coder}
use Rattle.lower_coder.specs.declared.coder.Few.{Few}
use Rattle.lower_coder.specs.declared.coder.Few.TheVariants.{One, Two, Lone, Four}

abbrev pub coded_of : Coder → Coded
coded_of c = record { code = map instr_of c.code.items; free = c.free }

abbrev pub few_code : Few → Code
few_code (One i) = instr_of i ∷ []
few_code (Two i j) = instr_of i ∷ instr_of j ∷ []
few_code (Lone i) = instr_of i ∷ []
few_code (Four i j k l) = instr_of i ∷ instr_of j ∷ instr_of k ∷ instr_of l ∷ []

-- how many registers of their own they need
abbrev pub few_needs : Few → ℕ
few_needs (One i) = 0
few_needs (Two i j) = 1
few_needs (Lone i) = 1
few_needs (Four i j k l) = 1

-- instructions behind others, and so many registers more
abbrev pub more : Coded → Code → ℕ → Coded
more c code n = record { code = c.code ++ code; free = c.free + n }
