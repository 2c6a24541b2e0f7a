-- How the code of a block is made with copies in place of loads and operations.
use Rattle.std.specs.Prelude.{◌≡◌, ◌⊎◌, ◌==◌, ◌<◌, ℕ, if◌then◌else◌, List, [], ◌++◌, map, All, Option, Some, Vec, option_map, slice_index_or}
use Rattle.std.specs.Global.{Global}
use Rattle.low_ir.specs.Code.{End, Instr, Note}
use Rattle.low_ir.specs.Formed.{LeadsOn}
use Rattle.low_ir.specs.View.{address_of, operand_of}
use Rattle.pass_common_subexpressions_law.specs.Facts.{Loads, Fact, Keeps, Known, Knows, Computes, Source}
use Rattle.pass_common_subexpressions_law.specs.Reloads.{Beginnings, Code, Follows, Hands}
use Rattle.pass_common_subexpressions.specs.declared.facts.Fact as facts
use Rattle.pass_common_subexpressions.specs.declared.facts.Source.{Source as Source'}
use Rattle.pass_common_subexpressions.specs.declared.facts.Source.TheVariants.{Loads as Loads', Computes as Computes'}

-- a source as the code has it
abbrev pub source_of : Source' → Source
source_of (Loads' kind a) = Loads kind (address_of a)
source_of (Computes' operator x y) = Computes operator (operand_of x) (operand_of y)

-- and a fact
abbrev pub fact_of : facts.Fact → Fact
fact_of f = record { source = source_of f.source; register = f.register }

abbrev pub known_of : List (Option facts.Fact) → Known
known_of xs = map (option_map fact_of) xs

-- the facts of a list
abbrev pub facts_of : Vec facts.Fact Global → List facts.Fact
facts_of list = list.items

abbrev pub listed : List facts.Fact → Known
listed fs = map (λ f. Some (fact_of f)) fs

-- the list of a block; the first block has none
abbrev pub list_for : List (List facts.Fact) → ℕ → List facts.Fact
list_for lists n = if n == 0 then [] else slice_index_or lists n []

abbrev pub out_of : List (List facts.Fact) → Beginnings
out_of lists n = listed (list_for lists n)

-- what is known is in a list
abbrev pub AreOf : List facts.Fact → Known → Type 0
AreOf list known = (f : Fact) → Knows known f → Knows (listed list) f

-- each fact of a list is known
abbrev pub AreKnown : Known → List facts.Fact → Type 0
AreKnown known list = All (λ f. Knows known (fact_of f)) list

-- the facts of the lists of all blocks are known to which an end leads
pub record AreHanded (lists : List (List facts.Fact)) (end : End ℕ) (known : Known) : Type 0 where
  pub by : (n : ℕ) → LeadsOn end n → AreKnown known (list_for lists n)

-- the registers of the facts of a list are among so many
abbrev pub AreFew : ℕ → List facts.Fact → Type 0
AreFew size list = All (λ f. f.register < size) list

-- what is known was known before, and an instruction keeps it
abbrev pub AreKept : List (List ℕ) → Instr ℕ Note → Known → Known → Type 0
AreKept claims i known now = (f : Fact) → Knows now f → Knows known f × Keeps claims i f

-- what is known was known before, or is this fact
abbrev pub IsAdded : Fact → Known → Known → Type 0
IsAdded new known now = (f : Fact) → Knows now f → Knows known f ⊎ (f ≡ new)

-- the code of a block so far: with what follows for its rest it follows for all of it
abbrev pub IsMade : List (List ℕ) → Known → Code → Code → Known → Code → Type 0
IsMade claims begun whole rest known made = (out : Beginnings) (end : End ℕ) (js : Code) → Follows claims out end rest known js → Follows claims out end whole begun (made ++ js)

-- the whole code of a block, with what is known before and behind it
pub record IsCode (claims : List (List ℕ)) (code : Code) (begun now : Known) (made : Code) : Type 0 where
  pub by : (out : Beginnings) (end : End ℕ) → Hands out end now → Follows claims out end code begun made

-- a fact at a place of the table says what a source would give
pub record Answers (slot : Option facts.Fact) (source : Source) (r : ℕ) : Type 0 where
  pub fact : facts.Fact
  pub there : slot ≡ Some fact
  pub is : fact_of fact ≡ record { source = source; register = r }
