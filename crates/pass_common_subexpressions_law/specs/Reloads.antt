-- Programs of which one has copies where the other one loads elements again, or computes values again.
use Rattle.std.specs.Prelude.{◌≡◌, ◌⊎◌, ℕ, suc, ◌<◌, List, [], ◌∷◌}
use Rattle.std.specs.List.{AllZip}
use Rattle.low_ir.specs.Code.{Register, Set, Instr, Do, End, Block, Function, Note, Low}
use Rattle.low_ir.specs.Formed.{LeadsOn}
use Rattle.pass_common_subexpressions_law.specs.Facts.{Fact, Known, Knows, KnowsNothing, Learns, giving}

abbrev pub Code : Type 0
Code = List (Instr ℕ Note)

-- by the number of a block, what is known at its beginning
abbrev pub Beginnings : Type 0
Beginnings = ℕ → Known

-- where a block ends so, all is known that is known at the beginning of each block to which it leads
abbrev pub Hands : Beginnings → End ℕ → Known → Type 0
Hands out end known = (n : ℕ) → LeadsOn end n → (f : Fact) → Knows (out n) f → Knows known f

-- a load or an operation, and a copy of the register that holds what it would give
pub record IsReload (known : Known) (i new : Instr ℕ Note) : Type 0 where
  pub fact : Fact
  pub into : ℕ
  pub knows : Knows known fact
  pub is : i ≡ Do (giving into fact.source)
  pub becomes : new ≡ Do (Set into (Register fact.register))

abbrev pub Becomes : Known → Instr ℕ Note → Instr ℕ Note → Type 0
Becomes known i new = (new ≡ i) ⊎ IsReload known i new

-- an instruction, and what became of it
pub record Steps (claims : List (List ℕ)) (rest : Known → Code → Type 0) (i : Instr ℕ Note) (known : Known) (code : Code) : Type 0 where
  pub new : Instr ℕ Note
  pub now : Known
  pub behind : Code
  pub is : code ≡ new ∷ behind
  pub becomes : Becomes known i new
  pub learns : Learns claims known i now
  pub goes_on : rest now behind

-- the rest of a block, in the first program and in the second
abbrev pub Follows : List (List ℕ) → Beginnings → End ℕ → Code → Known → Code → Type 0
Follows claims out end [] known code = (code ≡ []) × Hands out end known
Follows claims out end (i ∷ is) known code = Steps claims (Follows claims out end is) i known code

-- the block of this number
pub record BlockReloaded (claims : List (List ℕ)) (out : Beginnings) (n : ℕ) (b c : Block ℕ Note) : Type 0 where
  pub mark : c.mark ≡ b.mark
  pub end : c.end ≡ b.end
  pub code : Follows claims out b.end b.code (out n) c.code

-- blocks, of which the first one has this number
abbrev pub BlocksReloaded : List (List ℕ) → Beginnings → ℕ → List (Block ℕ Note) → List (Block ℕ Note) → Type 0
BlocksReloaded claims out n [] [] = Unit {0}
BlocksReloaded claims out n [] (c ∷ cs) = ⊥
BlocksReloaded claims out n (b ∷ bs) [] = ⊥
BlocksReloaded claims out n (b ∷ bs) (c ∷ cs) = BlockReloaded claims out n b c × BlocksReloaded claims out (suc n) bs cs

-- the registers that hold what is known are among so many
abbrev pub InRange : ℕ → Known → Type 0
InRange size known = (f : Fact) → Knows known f → f.register < size

-- a function begins with nothing known
pub record FunctionReloaded (claims : List (List ℕ)) (fn gn : Function ℕ Note) : Type 0 where
  pub out : Beginnings
  pub nothing : KnowsNothing (out 0)
  pub range : (n : ℕ) → InRange fn.size (out n)
  pub parameters : gn.parameters ≡ fn.parameters
  pub size : gn.size ≡ fn.size
  pub loops : gn.loops ≡ fn.loops
  pub blocks : BlocksReloaded claims out 0 fn.blocks gn.blocks

pub record IsReloaded (p q : Low) : Type 0 where
  pub functions : AllZip (FunctionReloaded p.claims) p.functions q.functions
  pub claims : q.claims ≡ p.claims
  pub objects : q.objects ≡ p.objects
  pub main : q.main ≡ p.main
  pub marks : q.marks ≡ p.marks

-- a program as it is, or with copies
abbrev pub MayBeReloaded : Low → Low → Type 0
MayBeReloaded p q = (q ≡ p) ⊎ IsReloaded p q
