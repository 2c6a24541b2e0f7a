-- What the facts of a program say of it.
use Rattle.std.proofs.Common.{◌≡◌, ℕ, ◌^◌, Bool, true, false, List, Option, Some, None, refl}
use Rattle.std.specs.Prelude.{if◌then◌else◌, nat_lt, Result, Ok, Err}
use Rattle.facts_definitions.specs.FlowFacts.{bounds_in, facts_of, first_fault, flow_facts, known_of, most_main, unless_faulty, unless_too_often}
use Rattle.facts_definitions.specs.Most.{cut}
use Rattle.facts_definitions.specs.Sites.{sites_of}
use Rattle.facts_definitions.specs.declared.facts.Derived.{Derived}
use Rattle.facts_definitions.specs.declared.facts.Facts.{Facts}
use Rattle.facts_definitions.specs.declared.facts.FlowFault.{FlowFault}
use Rattle.facts_definitions.specs.declared.facts.FlowFault.TheVariants.{TooOften}
use Rattle.types_calls.specs.declared.ranks.Ranks.{Ranks}
use Rattle.types_tree.specs.Tree.{Program}

-- no site is at fault, and the facts are those of the program
pub record Says (program : Program) (names : List (List ℕ)) (ranks : Ranks) (derived : List Derived) (facts : Facts) : Type 0 where
  pub passes : first_fault (known_of program names derived) (sites_of program) ≡ None
  pub facts_are : facts ≡ facts_of program names ranks derived

abbrev Outcome : Type 0
Outcome = Result Facts FlowFault

abbrev ok : Facts → Outcome
ok x = Ok x

abbrev err : FlowFault → Outcome
err f = Err f

ok_is : (x y : Facts) → ok x ≡ ok y → y ≡ x
ok_is x y e = cc e

ok_err : (f : FlowFault) (x : Facts) → err f ≡ ok x → ⊥
ok_err f x e = cc e

pub says : (program : Program) (names : List (List ℕ)) (ranks : Ranks) (derived : List Derived) (facts : Facts) → flow_facts program names ranks derived ≡ Ok facts → Says program names ranks derived facts
says program names ranks derived facts h = of (first_fault (known_of program names derived) (sites_of program)) refl h
  where
    within : (b : Bool) → (if b then ok (facts_of program names ranks derived) else err (TooOften (cut (most_main program names (bounds_in program derived) ranks)))) ≡ ok facts → facts ≡ facts_of program names ranks derived
    within true e = ok_is (facts_of program names ranks derived) facts e
    within false e = absurd (ok_err (TooOften (cut (most_main program names (bounds_in program derived) ranks))) facts e)

    of : (o : Option FlowFault) → first_fault (known_of program names derived) (sites_of program) ≡ o → unless_faulty o (unless_too_often (most_main program names (bounds_in program derived) ranks) (facts_of program names ranks derived)) ≡ ok facts → Says program names ranks derived facts
    of None passes e = record { passes = passes; facts_are = within (nat_lt (most_main program names (bounds_in program derived) ranks) (2 ^ 40)) e }
    of (Some fault) passes e = absurd (ok_err fault facts e)
