-- What is left to read behind each section.
use Rattle.std.proofs.Common.{ℕ, List, Bool, false}
use Rattle.report_words.specs.Words.{Line}
use Rattle.report_rules.specs.Heads.{cycles_rule, kind_rule, column_rule, end_rule}
use Rattle.report_rules.specs.ClaimRules.{Reach, never_rule, region_rule, loop_rule}
use Rattle.report_rules.specs.FactRules.{fact_rule}
use Rattle.report_rules.specs.CertRules.{LeastMove, potential_rule, unit_rule, flow_rule}
use Rattle.report_reading.specs.Sections.{Outcome, Goes, and_then, one, many, many_where}
use Rattle.report_reading.specs.Faults.{Head, claims, middle, certificate, finish, tail}

abbrev pub after_kind : ℕ → Bool → ℕ → List Line → Outcome Head
after_kind version greatest n ls = Goes (record { version = version; greatest = greatest }) n ls

abbrev pub after_cycles : ℕ → Unit {0} → ℕ → List Line → Outcome Head
after_cycles version s n ls = and_then (one kind_rule false n ls) (after_kind version)

abbrev pub after_version : ℕ → ℕ → List Line → Outcome Head
after_version version n ls = and_then (one cycles_rule tt n ls) (after_cycles version)

abbrev pub after_loops : ℕ → ℕ → List Line → Outcome ℕ
after_loops s n ls = many fact_rule 0 n ls

abbrev pub after_regions : Reach → ℕ → List Line → Outcome ℕ
after_regions s n ls = and_then (many loop_rule 0 n ls) after_loops

abbrev pub after_nevers : ℕ → ℕ → List Line → Outcome ℕ
after_nevers s n ls = and_then (many region_rule (record { least = 0; end = 0 }) n ls) after_regions

abbrev pub after_exits : ℕ → ℕ → List Line → Outcome ℕ
after_exits s n ls = and_then (many never_rule 0 n ls) after_nevers

abbrev pub after_claims : ℕ → ℕ → List Line → Outcome ℕ
after_claims facts n ls = many column_rule facts n ls

abbrev pub after_names : Unit {0} → ℕ → List Line → Outcome ℕ
after_names s n ls = and_then (claims n ls) after_claims

abbrev pub after_parts : LeastMove → ℕ → List Line → Outcome (Unit {0})
after_parts s n ls = Goes tt n ls

abbrev pub after_unit : Bool → Bool → ℕ → List Line → Outcome (Unit {0})
after_unit greatest s n ls = and_then (many_where greatest flow_rule (record { at = 0; number = 0 }) n ls) after_parts

abbrev pub after_potentials : Bool → ℕ → ℕ → List Line → Outcome (Unit {0})
after_potentials greatest s n ls = and_then (one unit_rule greatest n ls) (after_unit greatest)

abbrev pub after_scale : Bool → Unit {0} → ℕ → List Line → Outcome (Unit {0})
after_scale greatest s n ls = and_then (many potential_rule 0 n ls) (after_potentials greatest)

abbrev pub after_end : Unit {0} → ℕ → List Line → Outcome (Unit {0})
after_end s n ls = finish n ls

abbrev pub after_shares : ℕ → ℕ → List Line → Outcome (Unit {0})
after_shares s n ls = and_then (one end_rule tt n ls) after_end

abbrev pub after_certificate : Head → Unit {0} → ℕ → List Line → Outcome (Unit {0})
after_certificate h s n ls = tail h n ls

abbrev pub after_middle : Head → ℕ → ℕ → List Line → Outcome (Unit {0})
after_middle h s n ls = and_then (certificate h.greatest n ls) (after_certificate h)

abbrev pub after_head : Head → ℕ → List Line → Outcome (Unit {0})
after_head h n ls = and_then (middle n ls) (after_middle h)
