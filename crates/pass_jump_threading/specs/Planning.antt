-- What is planned for a function.
use Rattle.std.specs.Prelude.{◌≡◌, ℕ, zero, suc, Bool, true, List, [], ◌++◌, Option, Some, None, drop, length, slice_index_or}
use Rattle.low_ir.specs.Code.{Block, Function, Loop, Note}
use Rattle.pass_jump_threading_law.specs.Known.{Known}
use Rattle.pass_jump_threading_law.specs.Threads.{Blocks, Comes, Lands, Names, Plan}
use Rattle.pass_jump_threading.specs.declared.facts.Fact.{Fact}
use Rattle.pass_jump_threading.specs.declared.planning.Planned.{Planned}
use Rattle.pass_jump_threading.specs.declared.planning.Stay.{Stay}
use Rattle.pass_jump_threading.specs.Facts.{Begins, known_in}

abbrev pub name_by : Option Stay → Option ℕ
name_by None = None
name_by (Some s) = Some s.name

abbrev pub facts_by : Option Stay → List Fact
facts_by None = []
facts_by (Some s) = s.facts.items

abbrev pub name_in : List (Option Stay) → Names
name_in stays b = name_by (slice_index_or stays b None)

-- nothing is known where the first block begins
abbrev pub at_in : List (Option ℕ) → List (Option Stay) → ℕ → Known
at_in held stays zero r = None
at_in held stays (suc b) r = known_in held (facts_by (slice_index_or stays (suc b) None)) r

abbrev pub plan_of : Planned → Plan
plan_of p = record { name = name_in p.stays.items; at = at_in p.held.items p.stays.items }

-- loops see their headers and latches
abbrev pub IsSeen : List Bool → Loop → Type 0
IsSeen seen l = (slice_index_or seen l.header true ≡ true) × (slice_index_or seen l.latch true ≡ true)

-- where a way leads, and what is known there
pub record Leads (fn : Function ℕ Note) (known : Known) (b c : ℕ) : Type 0 where
  pub past : ℕ
  pub comes : Comes fn known past b c

pub record Landing (fn : Function ℕ Note) (p : Planned) (known : Known) (told : Option Fact) (b c : ℕ) : Type 0 where
  pub lands : Lands fn (plan_of p) known b c
  pub begins : Begins known told ((plan_of p).at lands.old)

-- blocks so far: with what is made of the rest, all are made
abbrev pub SoFar : Function ℕ Note → Plan → ℕ → List (Block ℕ Note) → Type 0
SoFar fn plan n made = (cs : List (Block ℕ Note)) → Blocks fn plan n (length made) (drop n fn.blocks) cs → Blocks fn plan 0 0 fn.blocks (made ++ cs)
