-- Restrictions by the numbers of their names.
use Rattle.std.proofs.Common.{◌≡◌, refl, ap, ◌∙◌, ℕ, List, [], ◌∷◌, map}
use Rattle.std.specs.Prelude.{◌&&◌, Option, Some, None}
use Rattle.facts_definitions.specs.FlowFacts.{Known, are_counted, id_in, is_counted, numbered_restriction, term_of, when_not}
use Rattle.facts_definitions.specs.FlowFacts as whole
use Rattle.facts_definitions.specs.PragmaTexts.{Written, WrittenTerm}
use Rattle.facts_definitions.specs.declared.facts.FlowFault.TheVariants.{UnknownName}
use Rattle.flow_facts.specs.Sums.{all_counted, restriction_fault}

all_counted-terms : (known : Known) (ts : List WrittenTerm) → all_counted known (map (term_of known.names) ts) ≡ are_counted known ts
all_counted-terms known [] = refl
all_counted-terms known (t ∷ ts) = ap (λ b. is_counted known (id_in known.names t.name) && b) (all_counted-terms known ts)

pub restriction_fault-numbered : (known : Known) (o : Option Written) (at : ℕ) → restriction_fault known (numbered_restriction known.names at o) at ≡ whole.restriction_fault known o at
restriction_fault-numbered known None at = refl
restriction_fault-numbered known (Some w) at =
    ap (λ b. when_not (b && all_counted known (map (term_of known.names) w.right)) (UnknownName at)) (all_counted-terms known w.left)
    ∙ ap (λ b. when_not (are_counted known w.left && b) (UnknownName at)) (all_counted-terms known w.right)
