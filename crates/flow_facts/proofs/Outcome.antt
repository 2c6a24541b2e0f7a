-- Which of the outcomes there is.
use Rattle.std.proofs.Common.{◌≡◌, refl, ap, ◌∙◌, sym, ℕ, ◌<◌, ◌≤◌, List, arith, Bool}
use Rattle.std.specs.Prelude.{◌^◌, None, Result, Ok, Err, if◌then◌else◌}
use Rattle.std.proofs.lemmas.Bool.{le-ltb, lt-ltb}
use Rattle.facts_definitions.specs.FlowFacts.{IsFlowFault, Known, bounds_in, bounds_of, facts_of, first_fault, flow_facts, known_of, most_main, unless_faulty, unless_too_often}
use Rattle.facts_definitions.specs.Most.{cut}
use Rattle.facts_definitions.specs.Sites.{sites_of}
use Rattle.facts_definitions.specs.declared.facts.Bounds.{Bounds}
use Rattle.facts_definitions.specs.declared.facts.Derived.{Derived}
use Rattle.facts_definitions.specs.declared.facts.Facts.{Facts}
use Rattle.facts_definitions.specs.declared.facts.FlowFault.{FlowFault}
use Rattle.facts_definitions.specs.declared.facts.FlowFault.TheVariants.{BadPragma, UnknownName, NoBound, TooOften, Memory}
use Rattle.types_calls.specs.declared.ranks.Ranks.{Ranks}
use Rattle.facts_definitions.specs.declared.site.Site.{Site}
use Rattle.types_tree.specs.Tree.{Program}
use Rattle.flow_facts.specs.Making.{facts_with, sound_outcome}

pub says : (fault : FlowFault) → IsFlowFault fault (Err fault)
says Memory = tt
says (BadPragma at) = refl
says (UnknownName at) = refl
says (NoBound at) = refl
says (TooOften most) = refl

few : (most : ℕ) (facts : Facts) → most < 2 ^ 40 → unless_too_often most facts ≡ Ok facts
few most facts h = ap (λ (b : Bool). if b then Ok facts else Err (TooOften (cut most))) (lt-ltb most (2 ^ 40) h)

many : (most : ℕ) (facts : Facts) → 2 ^ 40 ≤ most → unless_too_often most facts ≡ Err (TooOften (cut most))
many most facts h = ap (λ (b : Bool). if b then Ok facts else Err (TooOften (cut most))) (le-ltb most (2 ^ 40) h)

module _ (program : Program) (names : List (List ℕ)) (ranks : Ranks) (known : Known) (sites : List Site) (bounds : List Bounds) (most : ℕ) (e : sites ≡ sites_of program) (k : known ≡ known_of program names known.derived) (b : bounds ≡ bounds_of known.derived sites) (m : most ≡ cut (most_main program names bounds ranks)) where
  abbrev whole_most : ℕ
  whole_most = most_main program names (bounds_in program known.derived) ranks

  all_bounds : bounds ≡ bounds_in program known.derived
  all_bounds = b ∙ ap (bounds_of known.derived) e

  cut_most : most ≡ cut whole_most
  cut_most = m ∙ ap (λ x. cut (most_main program names x ranks)) all_bounds

  pub too_often : 2 ^ 40 ≤ most → Err (TooOften most) ≡ sound_outcome program names ranks known.derived
  too_often h =
      let c = cut_most in
      let great : 2 ^ 40 ≤ whole_most = omega (arith, h, c) in
      ap (λ n. Err (TooOften n)) c ∙ sym (many whole_most (facts_of program names ranks known.derived) great)

  pub sound_whole : most < 2 ^ 40 → Ok (facts_with known sites bounds ranks most) ≡ sound_outcome program names ranks known.derived
  sound_whole h =
      let c = cut_most in
      let small : whole_most < 2 ^ 40 = omega (arith, h, c) in
      let same : most ≡ whole_most = omega (arith, h, c) in
      ap (λ x. Ok (facts_with x sites bounds ranks most)) k
      ∙ ap (λ x. Ok (facts_with (known_of program names known.derived) x bounds ranks most)) e
      ∙ ap (λ x. Ok (facts_with (known_of program names known.derived) (sites_of program) x ranks most)) all_bounds
      ∙ ap (λ x. Ok (facts_with (known_of program names known.derived) (sites_of program) (bounds_in program known.derived) ranks x)) same
      ∙ sym (few whole_most (facts_of program names ranks known.derived) small)

-- without faults in pragmas and loops
pub faultless : (program : Program) (names : List (List ℕ)) (ranks : Ranks) (derived : List Derived) (known : Known) (sites : List Site) (outcome : Result Facts FlowFault) → sites ≡ sites_of program → known ≡ known_of program names derived → first_fault known sites ≡ None → outcome ≡ sound_outcome program names ranks known.derived → outcome ≡ flow_facts program names ranks derived
faultless program names ranks derived known sites outcome e k none o =
    let without : first_fault (known_of program names derived) (sites_of program) ≡ None =
    sym (ap (λ x. first_fault x sites) k ∙ ap (first_fault (known_of program names derived)) e) ∙ none in
    o ∙ ap (λ (x : Known). sound_outcome program names ranks x.derived) k ∙ sym (ap (λ f. unless_faulty f (sound_outcome program names ranks derived)) without)
