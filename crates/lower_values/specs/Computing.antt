-- Instructions that only write registers: what they leave of a bank of them.
use Rattle.std.specs.Prelude.{◌≡◌, ◌≢◌, ℕ, ◌<◌, List, [], ◌∷◌, length, Option, Some, None, slice_index_or}
use Rattle.low_ir.specs.Code.{Operand, Register, Constant, Plain, Set, Operate, Point, Load, Store, Put, Get, Do, Call}
use Rattle.low_ir.specs.declared.run.Value.TheVariants.{Word}
use Rattle.low_ir.specs.Effects.{World, there, reads, dest, effect_of}
use Rattle.low_ir.specs.Runs.{Bank, virtual, values, write_to}
use Rattle.lower_definition.specs.Operators.{Code}

module _ (claims : List (List ℕ)) (u : World) where
  -- an instruction that reads and writes registers, in a world that it leaves as it is
  abbrev pub written_by : Plain ℕ → Bank → Option Bank
  written_by i s = there (effect_of claims i (values virtual s (reads i)) u) (λ e. write_to virtual s (dest i) e.value)

  abbrev pub after_instr : Plain ℕ → Bank → Option Bank
  after_instr (Set d x) s = written_by (Set d x) s
  after_instr (Operate operator d x y) s = written_by (Operate operator d x y) s
  after_instr (Point d a) s = written_by (Point d a) s
  after_instr (Load kind d a) s = written_by (Load kind d a) s
  after_instr (Store kind a x) s = None
  after_instr (Put x) s = None
  after_instr (Get d) s = None

  abbrev pub computed : Code → Bank → Option Bank
  computed [] s = Some s
  computed (Do i ∷ is) s = there (after_instr i s) (computed is)
  computed (Call into f args note ∷ is) s = None

-- an operand has a word
abbrev pub Has : Bank → Operand ℕ → ℕ → Type 0
Has s (Register r) v = slice_index_or s r None ≡ Some (Word v)
Has s (Constant w) v = w ≡ v

-- code that puts a word into the register d, and leaves all other registers below t as they are
pub record Puts (claims : List (List ℕ)) (u : World) (code : Code) (s : Bank) (t d v : ℕ) : Type 0 where
  pub store : Bank
  pub does : computed claims u code s ≡ Some store
  pub size : length store ≡ length s
  pub value : slice_index_or store d None ≡ Some (Word v)
  pub others : (q : ℕ) → q < t → q ≢ d → slice_index_or store q None ≡ slice_index_or s q None
