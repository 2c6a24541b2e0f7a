-- What is known of registers, as lists.
use Rattle.std.specs.Prelude.{◌≡◌, ◌≢◌, ◌⊎◌, ℕ, ◌==◌, if◌then◌else◌, List, [], ◌∷◌, Option, Some, None, slice_index_or}
use Rattle.low_ir.specs.Code.{Block, Note}
use Rattle.pass_jump_threading_law.specs.Known.{Known, goal}
use Rattle.pass_jump_threading.specs.declared.facts.Fact.{Fact}

-- what the first fact on a register says
abbrev pub lookup : List Fact → Known
lookup [] r = None
lookup (f ∷ fs) r = if f.register == r then f.word else lookup fs r

abbrev pub or_else : Option ℕ → Option ℕ → Option ℕ
or_else None o = o
or_else (Some w) o = Some w

-- the words that registers have in the whole function, and what facts say of the others
abbrev pub known_in : List (Option ℕ) → List Fact → Known
known_in held facts r = or_else (slice_index_or held r None) (lookup facts r)

-- all that is held is known
abbrev pub Covers : List (Option ℕ) → Known → Type 0
Covers held known = (r w : ℕ) → slice_index_or held r None ≡ Some w → known r ≡ Some w

-- a fact beside what is known
abbrev pub IsTold : Option Fact → ℕ → ℕ → Type 0
IsTold None r w = ⊥
IsTold (Some f) r w = (r ≡ f.register) × (f.word ≡ Some w)

abbrev pub Known_or_told : Known → Option Fact → ℕ → ℕ → Type 0
Known_or_told known told r w = (known r ≡ Some w) ⊎ IsTold told r w

abbrev pub Says : Known → Option Fact → Fact → Type 0
Says known told f = (w : ℕ) → f.word ≡ Some w → Known_or_told known told f.register w

abbrev pub Begins : Known → Option Fact → Known → Type 0
Begins known told now = (r w : ℕ) → now r ≡ Some w → Known_or_told known told r w

abbrev pub with_word : Option ℕ → Fact → Fact
with_word o f = record { register = f.register; word = o }

-- another word in each fact on a register
abbrev pub rewritten_one : ℕ → Option ℕ → Fact → Fact
rewritten_one r o f = if f.register == r then with_word o f else f

-- what is written to a register is perhaps known, and of the others what was known
abbrev pub Learns : ℕ → Option ℕ → List Fact → List Fact → Type 0
Learns r o old new = (q w : ℕ) → lookup new q ≡ Some w → ((q ≡ r) × (o ≡ Some w)) ⊎ ((q ≢ r) × (lookup old q ≡ Some w))

-- a block that does nothing but go on to one block
pub record OnlyGoes (known : Known) (b : Block ℕ Note) (c : ℕ) : Type 0 where
  pub mark : b.mark ≡ None
  pub code : b.code ≡ []
  pub goes : goal known b.end ≡ Some c
