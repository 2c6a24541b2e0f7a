-- What a plan keeps of its source, and what one more pass keeps of it.
use Rattle.std.proofs.Common.{ℕ, suc, ◌^◌, ◌<◌, ◌≤◌, List, sym, subst, arith, All, pow-suc}
use Rattle.facts_definitions.specs.declared.facts.Facts.{Facts}
use Rattle.facts_sources.specs.Sources.{IsSource}
use Rattle.types_tree.specs.Tree as c
use Rattle.plan_carried.specs.Sources.{planned_listing, source_behaviour}
use Rattle.plan_law.proofs.Sources.{checked}
use Rattle.high_ir.specs.Whole.{HasElements, IsWhole}
use Rattle.plan_formed.proofs.ElementPrograms.{plan_some}
use Rattle.plan_law.specs.Plans.{KeepsSource}
use Rattle.plan_law.proofs.Law.{planned_keeps}
use Rattle.high_ir.specs.Formed.{IsHigh}
use Rattle.high_ir.specs.Tree.{Object, Program}
use Rattle.high_pass.specs.Composing.{Continues}
use Rattle.high_pass.specs.Law.{FactorsWithin, IsLawful}
use Rattle.high_pass.specs.Listing.{Listing}
use Rattle.compile_high_law.proofs.Sources.{source_is_whole}
use Rattle.compile_high_definitions.specs.Limits.{IsLimited}
use Rattle.compile_high_law.proofs.Plans.{pass_limited, source_limited}
use Rattle.compile_high_definitions.specs.Carried.{IsCarried, IsPassed, IsPlanned}

pub planned_carried : (source : List ℕ) (names : List (List ℕ)) (program : c.Program) (facts : Facts) (p : Program) (listing : Listing) → IsSource source names program facts → IsPlanned names program facts p listing → IsCarried names program facts 0 p listing
planned_carried source names program facts p listing is planned =
    let checked_source = checked source names program facts is in
    let listed = subst (KeepsSource names program facts p) (sym planned.listed) (subst (λ q. KeepsSource names program facts q (planned_listing program facts)) (sym planned.program) (planned_keeps names program facts checked_source)) in
    record {
      is_high = listed.is_high;
      carries = listed.carries;
      factors = listed.factors;
      weight = listed.weight;
      reach = listed.reach;
      whole = subst IsWhole (sym planned.program) (source_is_whole source names program facts is);
      elements = subst HasElements (sym planned.program) (plan_some names program facts checked_source);
      limited = subst IsLimited (sym planned.program) (source_limited source names program facts is);
    }

pub pass_carried : (names : List (List ℕ)) (program : c.Program) (facts : Facts) (passes : ℕ) (old new : Program) (whole step made : Listing) → IsCarried names program facts passes old whole → IsHigh new → IsLawful old new step → Continues old new whole made → IsCarried names program facts (suc passes) new made
pass_carried names program facts passes old new whole step made before is_high lawful continues =
    let less = lawful.weight in
    let most = before.weight in
    record {
      is_high = is_high;
      carries = continues.carries (source_behaviour program names facts) before.carries;
      factors = subst (λ n. FactorsWithin n made) (sym (pow-suc 64 passes)) (continues.factors (64 ^ passes) before.factors);
      weight = omega (arith, less, most);
      reach = continues.reach (λ mark. facts.most) before.reach;
      whole = lawful.whole before.whole;
      elements = subst (λ (os : List Object). All (λ (o : Object). 0 < o.size) os) (sym lawful.objects) before.elements;
      limited = pass_limited old new step lawful before.limited;
    }

-- whatever the pass promises
pub passed_carried : (names : List (List ℕ)) (program : c.Program) (facts : Facts) (passes : ℕ) (did : Program → Program → Listing → Type 0) (old new : Program) (whole made : Listing) → IsCarried names program facts passes old whole → IsHigh new → IsPassed did old new whole made → IsCarried names program facts (suc passes) new made
passed_carried names program facts passes did old new whole made before is_high passed = pass_carried names program facts passes old new whole passed.step made before is_high passed.lawful passed.continues

-- a greater bound on factors
pub factors_wider : (n m : ℕ) (listing : Listing) → n ≤ m → FactorsWithin n listing → FactorsWithin m listing
factors_wider n m listing le h = record {
  loops = λ i d lt j e within. let few = h.loops i d lt j e within in omega (arith, few, le);
  nevers = λ i d lt. let few = h.nevers i d lt in omega (arith, few, le);
}
