-- Sums and restrictions whose names are numbers of a list of names, as they are read.
use Rattle.std.specs.Prelude.{ℕ, ◌+◌, nat_le, if◌then◌else◌, List, ◌++◌, length, map, Option, Some, None}
use Rattle.facts_definitions.specs.FlowFacts.{term_of}
use Rattle.facts_definitions.specs.PragmaTexts.{WrittenSum, runs}
use Rattle.facts_definitions.specs.declared.facts.Restriction.{Restriction}
use Rattle.facts_definitions.specs.declared.facts.Term.{Term}
use Rattle.facts_pragma.specs.declared.sums.Sum.{Sum}
use Rattle.wcc_base.specs.declared.compare.Compare.{Compare}

-- a sum, and the runs behind it
pub record NumberedSum : Type 0 where
  pub terms : List Term
  pub rest : List (List ℕ)

-- terms before a sum
abbrev pub before : List Term → Option NumberedSum → Option NumberedSum
before terms None = None
before terms (Some sum) = Some (record { terms = terms ++ sum.terms; rest = sum.rest })

abbrev pub numbered : List (List ℕ) → Option WrittenSum → Option NumberedSum
numbered names None = None
numbered names (Some sum) = Some (record { terms = map (term_of names) sum.terms; rest = sum.rest })

abbrev pub read_sum : Option Sum → Option NumberedSum
read_sum None = None
read_sum (Some sum) = Some (record { terms = sum.terms.items; rest = runs sum.rest.now })

-- a comparison of sums with at most 64 terms in all
abbrev pub restricted : (left : List Term) → Compare → (right : List Term) → (at : ℕ) → Option Restriction
restricted left op right at = if nat_le (length left + length right) 64 then Some (record { left = left; op = op; right = right; at = at }) else None
