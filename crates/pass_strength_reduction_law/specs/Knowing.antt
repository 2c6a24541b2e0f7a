-- What is known of the registers of a function as a block goes on, and what instructions make of it.
use Rattle.std.specs.Prelude.{◌≡◌, ℕ, Bool, true, List, length, Option, Some, None, slice_set}
use Rattle.low_ir.specs.Code.{Plain, Instr, Do, Call, Note}
use Rattle.low_ir.specs.declared.run.Value.{Value}
use Rattle.low_ir.specs.declared.run.Value.TheVariants.{Word}
use Rattle.low_ir.specs.Effects.{World, Did, reads, dest, effect_of}
use Rattle.low_ir.specs.Runs.{Bank, values, virtual}

-- which stores keep to what is known
abbrev pub Knowing : Type 0
Knowing = Bank → Bool

-- a store of so many registers keeps to it
abbrev pub Keeps : ℕ → Knowing → Bank → Type 0
Keeps size at s = (length s ≡ size) × (at s ≡ true)

-- a store once a value was written, if it was wanted
abbrev pub with_value : Bank → Option ℕ → Value → Bank
with_value s None x = s
with_value s (Some d) x = slice_set s d (Some x)

-- what an instruction does in a store
abbrev pub done_by : List (List ℕ) → Plain ℕ → Bank → World → Option Did
done_by claims i s u = effect_of claims i (values virtual s (reads i)) u

-- whatever an instruction does where the first is known, the second is known behind it
abbrev pub Teaches : ℕ → List (List ℕ) → Plain ℕ → Knowing → Knowing → Type 0
Teaches size claims i at now = (s : Bank) (u : World) (did : Did) → Keeps size at s → done_by claims i s u ≡ Some did → now (with_value s (dest i) did.value) ≡ true

-- and whatever word a call gives
abbrev pub CallTeaches : ℕ → Option ℕ → Knowing → Knowing → Type 0
CallTeaches size d at now = (s : Bank) (v : ℕ) → Keeps size at s → now (with_value s d (Word v)) ≡ true

abbrev pub InstrTeaches : ℕ → List (List ℕ) → Instr ℕ Note → Knowing → Knowing → Type 0
InstrTeaches size claims (Do i) at now = Teaches size claims i at now
InstrTeaches size claims (Call d f args note) at now = CallTeaches size d at now

-- where this is known, the second instruction does under its claims what the first does under its own
abbrev pub DoesTheSame : ℕ → Knowing → List (List ℕ) → Plain ℕ → List (List ℕ) → Plain ℕ → Type 0
DoesTheSame size at claims i others j = (s : Bank) (u : World) (did : Did) → Keeps size at s → done_by claims i s u ≡ Some did → done_by others j s u ≡ Some did

-- an instruction gives a value, leaves the world as it is, and the second is known once the value was written
pub record Gives (claims : List (List ℕ)) (i : Plain ℕ) (into : ℕ) (now : Knowing) (s : Bank) (u : World) : Type 0 where
  pub value : Value
  pub is : done_by claims i s u ≡ Some (record { world = u; value = value })
  pub known : now (slice_set s into (Some value)) ≡ true

-- it does so wherever the first is known
abbrev pub AlwaysGives : ℕ → List (List ℕ) → Plain ℕ → ℕ → Knowing → Knowing → Type 0
AlwaysGives size claims i into at now = (s : Bank) (u : World) → Keeps size at s → Gives claims i into now s u
