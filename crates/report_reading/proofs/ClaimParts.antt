-- The claims, with the names and columns around them, one section behind the other.
use Rattle.std.proofs.Common.{◌≡◌, ℕ, ◌+◌, ◌<◌, ◌^◌, ℤ, List, [], ◌∷◌, ◌++◌, length, map, ap, ◌∙◌, arith}
use Rattle.code_flow_system.specs.Claims.{Claims, claim_count}
use Rattle.report_words.specs.Words.{Line}
use Rattle.report_text.specs.Lines.{exit_line, never_line, region_line, loop_line, fact_line, paired}
use Rattle.report_rules.specs.Heads.{copy_rule, column_rule}
use Rattle.report_rules.specs.ClaimRules.{exit_rule, never_rule, region_rule, loop_rule}
use Rattle.report_rules.specs.FactRules.{fact_rule}
use Rattle.report_reading.specs.declared.fault.ReportFault.{ReportFault}
use Rattle.report_reading.specs.Texts.{lines_of}
use Rattle.report_reading.specs.Sections.{and_then, many}
use Rattle.report_reading.specs.Faults.{claims, middle}
use Rattle.report_reading.specs.Parts.{claims_with}
use Rattle.report_reading.specs.Reading.{At, Passes, PassesOn, Stops}
use Rattle.report_reading.proofs.Stages.{after_loops, after_regions, after_nevers, after_exits, after_claims, after_names}
use Rattle.report_reading.proofs.PassLemmas.{both_read, stops_first, stops_second}

-- the places between the sections of the claims
pub record AreClaimsRead (from a b d e to : At) (c : Claims) (nevers : List ℤ) (loops : List (ℤ × ℤ)) (facts : List ℤ) : Type 0 where
  pub exits : PassesOn (many exit_rule 0) from a (map exit_line c.exits)
  pub nevers_by : PassesOn (many never_rule 0) a b (paired never_line c.nevers nevers)
  pub regions : PassesOn (many region_rule (record { least = 0; end = 0 })) b d (map region_line c.regions)
  pub loops_by : PassesOn (many loop_rule 0) d e (paired loop_line c.loops loops)
  pub facts_by : Passes (many fact_rule 0) e (length c.facts) to (paired fact_line c.facts facts)

pub claims_pass : (from a b d e to : At) (c : Claims) (nevers : List ℤ) (loops : List (ℤ × ℤ)) (facts : List ℤ) → AreClaimsRead from a b d e to c nevers loops facts → Passes claims from (length c.facts) to (claims_with c nevers loops facts)
claims_pass from a b d e to c nevers loops facts r = record {
  goes = ap (λ o. and_then o after_exits) r.exits.passes.goes ∙ ap (λ o. and_then o after_nevers) r.nevers_by.passes.goes ∙ ap (λ o. and_then o after_regions) r.regions.passes.goes ∙ ap (λ o. and_then o after_loops) r.loops_by.passes.goes ∙ r.facts_by.goes;
  read =
      both_read from a to (map exit_line c.exits) (paired never_line c.nevers nevers ++ (map region_line c.regions ++ (paired loop_line c.loops loops ++ paired fact_line c.facts facts))) r.exits.passes.read
      (both_read a b to (paired never_line c.nevers nevers) (map region_line c.regions ++ (paired loop_line c.loops loops ++ paired fact_line c.facts facts)) r.nevers_by.passes.read
      (both_read b d to (map region_line c.regions) (paired loop_line c.loops loops ++ paired fact_line c.facts facts) r.regions.passes.read
      (both_read d e to (paired loop_line c.loops loops) (paired fact_line c.facts facts) r.loops_by.passes.read r.facts_by.read)));
}

-- each line has a number, so there are fewer than 2^32 claims

mapped_length : {X : Type 0} → (f : X → Line) (xs : List X) → length (map f xs) ≡ length xs
mapped_length f [] = omega arith
mapped_length f (x ∷ xs) = omega (arith, mapped_length f xs)

paired_length : {X Y : Type 0} → (f : X → Y → Line) (xs : List X) (ys : List Y) → length ys ≡ length xs → length (paired f xs ys) ≡ length xs
paired_length f [] ys e = omega arith
paired_length f (x ∷ xs) [] e = absurd (omega (arith, e))
paired_length f (x ∷ xs) (y ∷ ys) e = omega (arith, paired_length f xs ys (omega (arith, e)))

pub few_claims : (from a b d e to : At) (c : Claims) (nevers : List ℤ) (loops : List (ℤ × ℤ)) (facts : List ℤ) → AreClaimsRead from a b d e to c nevers loops facts
    → length nevers ≡ length c.nevers → length loops ≡ length c.loops → length facts ≡ length c.facts → claim_count c < 2 ^ 32
few_claims from a b d e to c nevers loops facts r p q s =
    omega (
      arith,
      r.exits.passes.read.count,
      r.nevers_by.passes.read.count,
      r.regions.passes.read.count,
      r.loops_by.passes.read.count,
      r.facts_by.read.count,
      r.facts_by.read.numbered,
      mapped_length exit_line c.exits,
      paired_length never_line c.nevers nevers p,
      mapped_length region_line c.regions,
      paired_length loop_line c.loops loops q,
      paired_length fact_line c.facts facts s,
    )

-- where a section stops, so do the claims

pub exits_stop : (from : At) (fault : ReportFault) → Stops (many exit_rule 0 from.number (lines_of from.rest)) fault → Stops (claims from.number (lines_of from.rest)) fault
exits_stop from fault s = stops_first (many exit_rule 0 from.number (lines_of from.rest)) after_exits fault s

pub nevers_stop : (from a : At) (xs : List Line) (fault : ReportFault) → PassesOn (many exit_rule 0) from a xs → Stops (many never_rule 0 a.number (lines_of a.rest)) fault → Stops (claims from.number (lines_of from.rest)) fault
nevers_stop from a xs fault p s = stops_second (many exit_rule 0) after_exits from p.state a xs fault p.passes (stops_first (many never_rule 0 a.number (lines_of a.rest)) after_nevers fault s)

pub regions_stop : (from a b : At) (xs ys : List Line) (fault : ReportFault) → PassesOn (many exit_rule 0) from a xs → PassesOn (many never_rule 0) a b ys → Stops (many region_rule (record { least = 0; end = 0 }) b.number (lines_of b.rest)) fault → Stops (claims from.number (lines_of from.rest)) fault
regions_stop from a b xs ys fault p q s =
    stops_second (many exit_rule 0) after_exits from p.state a xs fault p.passes
    (stops_second (many never_rule 0) after_nevers a q.state b ys fault q.passes (stops_first (many region_rule (record { least = 0; end = 0 }) b.number (lines_of b.rest)) after_regions fault s))

pub loops_stop : (from a b d : At) (xs ys zs : List Line) (fault : ReportFault) → PassesOn (many exit_rule 0) from a xs → PassesOn (many never_rule 0) a b ys → PassesOn (many region_rule (record { least = 0; end = 0 })) b d zs
    → Stops (many loop_rule 0 d.number (lines_of d.rest)) fault → Stops (claims from.number (lines_of from.rest)) fault
loops_stop from a b d xs ys zs fault p q r s =
    stops_second (many exit_rule 0) after_exits from p.state a xs fault p.passes
    (stops_second (many never_rule 0) after_nevers a q.state b ys fault q.passes
    (stops_second (many region_rule (record { least = 0; end = 0 })) after_regions b r.state d zs fault r.passes (stops_first (many loop_rule 0 d.number (lines_of d.rest)) after_loops fault s)))

pub facts_stop : (from a b d e : At) (xs ys zs us : List Line) (fault : ReportFault) → PassesOn (many exit_rule 0) from a xs → PassesOn (many never_rule 0) a b ys → PassesOn (many region_rule (record { least = 0; end = 0 })) b d zs → PassesOn (many loop_rule 0) d e us
    → Stops (many fact_rule 0 e.number (lines_of e.rest)) fault → Stops (claims from.number (lines_of from.rest)) fault
facts_stop from a b d e xs ys zs us fault p q r t s =
    stops_second (many exit_rule 0) after_exits from p.state a xs fault p.passes
    (stops_second (many never_rule 0) after_nevers a q.state b ys fault q.passes
    (stops_second (many region_rule (record { least = 0; end = 0 })) after_regions b r.state d zs fault r.passes (stops_second (many loop_rule 0) after_loops d t.state e us fault t.passes s)))

-- the names, the claims and the columns

pub middle_passes : (from a b to : At) (facts : ℕ) (xs ys zs : List Line) → PassesOn (many copy_rule tt) from a xs → Passes claims a facts b ys → PassesOn (many column_rule facts) b to zs → PassesOn middle from to (xs ++ (ys ++ zs))
middle_passes from a b to facts xs ys zs p q r = record {
  state = r.state;
  passes = record {
    goes = ap (λ o. and_then o after_names) p.passes.goes ∙ ap (λ o. and_then o after_claims) q.goes ∙ r.passes.goes;
    read = both_read from a to xs (ys ++ zs) p.passes.read (both_read a b to ys zs q.read r.passes.read);
  };
}

pub names_stop : (from : At) (fault : ReportFault) → Stops (many copy_rule tt from.number (lines_of from.rest)) fault → Stops (middle from.number (lines_of from.rest)) fault
names_stop from fault s = stops_first (many copy_rule tt from.number (lines_of from.rest)) after_names fault s

pub claims_stop : (from a : At) (xs : List Line) (fault : ReportFault) → PassesOn (many copy_rule tt) from a xs → Stops (claims a.number (lines_of a.rest)) fault → Stops (middle from.number (lines_of from.rest)) fault
claims_stop from a xs fault p s = stops_second (many copy_rule tt) after_names from p.state a xs fault p.passes (stops_first (claims a.number (lines_of a.rest)) after_claims fault s)

pub columns_stop : (from a b : At) (facts : ℕ) (xs ys : List Line) (fault : ReportFault) → PassesOn (many copy_rule tt) from a xs → Passes claims a facts b ys → Stops (many column_rule facts b.number (lines_of b.rest)) fault → Stops (middle from.number (lines_of from.rest)) fault
columns_stop from a b facts xs ys fault p q s =
    stops_second (many copy_rule tt) after_names from p.state a xs fault p.passes (stops_second claims after_claims a facts b ys fault q s)
