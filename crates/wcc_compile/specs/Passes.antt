-- The passes, and the programs of a source.
use Rattle.std.specs.Prelude.{ℕ, suc, zero, List, [], ◌∷◌, ◌++◌, length}
use Rattle.facts_definitions.specs.declared.facts.Facts.{Facts}
use Rattle.types_tree.specs.Tree as c
use Rattle.high_ir.specs.declared.copies.Carried.{Carried}
use Rattle.high_ir.specs.Programs.{program_of}
use Rattle.high_ir.specs.Tree.{Program}
use Rattle.high_pass.specs.Listing.{Listing, listing_of}
use Rattle.high_folded.specs.Done.{IsFolded}
use Rattle.high_unrolled.specs.Promise.{Unrolls}
use Rattle.inliner.specs.Sites.{Inlined}
use Rattle.promise_compiler.specs.declared.built.Options.{Options}
use Rattle.compile_high_definitions.specs.Carried.{IsCarried, IsPassed, IsPlanned}
use Rattle.compile_stages.specs.declared.made.Stages.{Stages}

-- what the pass at each place promises, where a source is compiled with these options
abbrev pub does : Options → ℕ → Program → Program → Listing → Type 0
does options zero old new copies = IsFolded old new copies
does options (suc zero) old new copies = Inlined options.inline old new copies
does options (suc (suc zero)) old new copies = Unrolls options.unroll old new copies
does options (suc (suc (suc zero))) old new copies = IsFolded old new copies
does options (suc (suc (suc (suc place)))) old new copies = ⊥

-- how many there are
abbrev pub passes : ℕ
passes = 4

-- what a pass that promises this made of a program with its copies of the source
abbrev pub IsStep : (Program → Program → Listing → Type 0) → Carried → Carried → Type 0
IsStep did old new = IsPassed did (program_of old.program) (program_of new.program) (listing_of old.copies) (listing_of new.copies)

-- what the passes from a place on made of a program, each of the one before it
abbrev pub ArePassed : Options → ℕ → Carried → List Carried → Type 0
ArePassed options place old [] = Unit {0}
ArePassed options place old (new ∷ rest) = IsStep (does options place) old new × ArePassed options (suc place) new rest

-- the plan of a source, and what passes made of it
abbrev pub AreStages : Options → List (List ℕ) → c.Program → Facts → List Carried → Type 0
AreStages options names source facts [] = ⊥
AreStages options names source facts (plan ∷ rest) = IsPlanned names source facts (program_of plan.program) (listing_of plan.copies) × ArePassed options 0 plan rest

abbrev pub stages_of : Stages → List Carried
stages_of s = s.before.items ++ s.last ∷ []

-- so many of them so far; the last program carries the source
pub record AreBegun (options : Options) (names : List (List ℕ)) (source : c.Program) (facts : Facts) (s : Stages) : Type 0 where
  pub stages : AreStages options names source facts (stages_of s)
  pub carried : IsCarried names source facts (length s.before.items) (program_of s.last.program) (listing_of s.last.copies)
