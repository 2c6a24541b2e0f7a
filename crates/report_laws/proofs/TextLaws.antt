-- The text of a report is read to its end.
use Rattle.std.proofs.Common.{◌≡◌, ℕ, zero, suc, ◌<◌, ◌≤◌, ◌==◌, ◌&&◌, ◌⊎◌, inl, inr, List, [], ◌∷◌, ◌++◌, length, map, Bool, true, false, refl, sym, ap, subst, ◌∙◌, arith, codes, All}
use Rattle.std.specs.Fmt.{decimal}
use Rattle.std.proofs.lemmas.Bool.{false≢true}
use Rattle.std.proofs.lemmas.List.{append_assoc}
use Rattle.code_flow_system.specs.Claims.{AreSums}
use Rattle.code_flow_system.specs.declared.cert.Mark.{Mark}
use Rattle.code_flow_system.specs.declared.cert.Part.{Part}
use Rattle.code_flow_system.specs.Certificates.{FitsMark}
use Rattle.code_flow_answer.specs.declared.bounded.Kind.{Kind}
use Rattle.code_flow_answer.specs.declared.bounded.Kind.TheVariants.{Greatest, Empty, Wide, Spent}
use Rattle.report_words.specs.Words.{Word, Line}
use Rattle.report_text.specs.Reports.{Report}
use Rattle.report_text.specs.declared.entries.Share.{Share}
use Rattle.report_text.specs.Forms.{mark_of, MayShare, IsReport}
use Rattle.report_text.specs.Lines.{head_lines, claim_lines, cert_lines, version_lines, cycles_line, kind_line, copy_line, exit_line, never_line, region_line, loop_line, fact_line, paired, column_line, scale_line, potential_line, unit_line, flow_line, share_line, end_line, report_lines, report_text}
use Rattle.report_rules.specs.Rules.{Rule}
use Rattle.report_rules.specs.Heads.{version_rule, cycles_rule, is_greatest_kind, kind_rule, copy_rule, column_rule, end_rule}
use Rattle.report_rules.specs.ClaimRules.{exit_rule, never_rule, region_rule, loop_rule}
use Rattle.report_rules.specs.FactRules.{fact_rule}
use Rattle.report_rules.specs.CertRules.{IsUnit, scale_rule, potential_rule, unit_rule, flow_rule, share_rule}
use Rattle.report_rules.specs.WordTests.{same_word}
use Rattle.report_reading.specs.Texts.{lines_of}
use Rattle.report_reading.specs.Sections.{Outcome, Fails, Goes, many, many_where, one, maybe, starts}
use Rattle.report_reading.specs.Faults.{head, claims, middle, certificate, tail, whole, IsReportFault}
use Rattle.report_reading.specs.declared.fault.ReportFault.{ReportFault}
use Rattle.report_reading.proofs.Stages.{after_regions, after_nevers, after_exits, after_claims, after_names, after_parts, after_unit, after_potentials, after_scale, after_end, after_shares, after_kind, after_cycles, after_version, after_certificate, after_middle, after_head}
use Rattle.report_laws.specs.Typed.{IsTyped}
use Rattle.report_laws.proofs.Fine.{AreRead}
use Rattle.report_laws.proofs.Gone.{Gone, ended}
use Rattle.report_laws.proofs.HeadRows.{version_fine, cycles_fine, kind_fine, end_fine}
use Rattle.report_laws.proofs.RowLemmas.{scale_fine, unit_fine}
use Rattle.report_laws.proofs.ChainLemmas.{exits_read, nevers_read, regions_read, loops_read, potentials_read, parts_read, shares_read}
use Rattle.report_laws.proofs.SectionRows.{names_read, facts_fine, columns_read}
use Rattle.report_laws.proofs.ListLemmas.{longer}
use Rattle.report_laws.proofs.GoneLemmas.{gone_then, gone_at, gone_many, gone_one, gone_maybe, gone_without, skip_one, skip_map, skip_paired, lines_back, Plains, plains_both, plain_one, plain_many}

-- the lines from each section on

abbrev pub from_end : List Line
from_end = end_line ∷ ended

abbrev pub from_shares : Report → List Line
from_shares r = map share_line r.shares ++ from_end

abbrev pub from_parts : Report → List Line
from_parts r = map flow_line r.cert.flow.parts ++ from_shares r

abbrev pub from_unit : Report → List Line
from_unit r = unit_line r.cert.flow.unit ∷ from_parts r

abbrev pub from_potentials : Report → List Line
from_potentials r = map potential_line r.cert.potentials ++ from_unit r

abbrev pub from_scale : Report → List Line
from_scale r = scale_line r.cert.scale ∷ from_potentials r

abbrev pub from_columns : Report → List Line
from_columns r = map column_line r.columns ++ from_scale r

abbrev pub from_facts : Report → List Line
from_facts r = paired fact_line r.claims.facts r.cert.facts ++ from_columns r

abbrev pub from_loops : Report → List Line
from_loops r = paired loop_line r.claims.loops r.cert.loops ++ from_facts r

abbrev pub from_regions : Report → List Line
from_regions r = map region_line r.claims.regions ++ from_loops r

abbrev pub from_nevers : Report → List Line
from_nevers r = paired never_line r.claims.nevers r.cert.nevers ++ from_regions r

abbrev pub from_exits : Report → List Line
from_exits r = map exit_line r.claims.exits ++ from_nevers r

abbrev pub from_names : Report → List Line
from_names r = map copy_line r.names ++ from_exits r

abbrev pub from_cycles : Report → List Line
from_cycles r = cycles_line r.cert.cycles ∷ kind_line r.kind ∷ from_names r

abbrev pub from_version : Report → List Line
from_version r = version_lines r.version ++ from_cycles r

pub all_lines : (r : Report) → report_lines r ++ ended ≡ from_version r
all_lines r = simp append_assoc refl

-- there are lines, and the sections that are left don't begin with an earlier tag

pub some_parts : (r : Report) → 0 < length (from_parts r)
some_parts r = longer (map flow_line r.cert.flow.parts) (from_shares r) (longer (map share_line r.shares) from_end (omega arith))

pub some_columns : (r : Report) → 0 < length (from_columns r)
some_columns r = longer (map column_line r.columns) (from_scale r) (omega arith)

pub some_regions : (r : Report) → 0 < length (from_regions r)
some_regions r = longer (map region_line r.claims.regions) (from_loops r) (longer (paired loop_line r.claims.loops r.cert.loops) (from_facts r) (longer (paired fact_line r.claims.facts r.cert.facts) (from_columns r) (some_columns r)))

pub at_shares : (r : Report) (tag : Word) → same_word (codes "share") tag ≡ false → same_word (codes "end") tag ≡ false → starts tag (from_shares r) ≡ false
at_shares r tag share end = skip_map tag share_line r.shares from_end (λ s. share) (skip_one tag end_line ended end)

pub at_unit : (r : Report) (tag : Word) → same_word (codes "unit") tag ≡ false → starts tag (from_unit r) ≡ false
at_unit r tag unit = skip_one tag (unit_line r.cert.flow.unit) (from_parts r) unit

pub at_scale : (r : Report) (tag : Word) → same_word (codes "scale") tag ≡ false → starts tag (from_scale r) ≡ false
at_scale r tag scale = skip_one tag (scale_line r.cert.scale) (from_potentials r) scale

pub at_columns : (r : Report) (tag : Word) → same_word (codes "column") tag ≡ false → same_word (codes "scale") tag ≡ false → starts tag (from_columns r) ≡ false
at_columns r tag column scale = skip_map tag column_line r.columns (from_scale r) (λ c. column) (at_scale r tag scale)

pub at_facts : (r : Report) (tag : Word) → same_word (codes "fact") tag ≡ false → same_word (codes "column") tag ≡ false → same_word (codes "scale") tag ≡ false → starts tag (from_facts r) ≡ false
at_facts r tag fact column scale = skip_paired tag fact_line r.claims.facts r.cert.facts (from_columns r) (λ c m. fact) (at_columns r tag column scale)

pub at_loops : (r : Report) (tag : Word) → same_word (codes "loop") tag ≡ false → same_word (codes "fact") tag ≡ false → same_word (codes "column") tag ≡ false → same_word (codes "scale") tag ≡ false → starts tag (from_loops r) ≡ false
at_loops r tag loops fact column scale = skip_paired tag loop_line r.claims.loops r.cert.loops (from_facts r) (λ c m. loops) (at_facts r tag fact column scale)

pub at_regions : (r : Report) (tag : Word) → same_word (codes "region") tag ≡ false → same_word (codes "loop") tag ≡ false → same_word (codes "fact") tag ≡ false → same_word (codes "column") tag ≡ false → same_word (codes "scale") tag ≡ false → starts tag (from_regions r) ≡ false
at_regions r tag region loops fact column scale = skip_map tag region_line r.claims.regions (from_loops r) (λ w. region) (at_loops r tag loops fact column scale)

pub at_nevers : (r : Report) (tag : Word) → same_word (codes "never") tag ≡ false → same_word (codes "region") tag ≡ false → same_word (codes "loop") tag ≡ false → same_word (codes "fact") tag ≡ false → same_word (codes "column") tag ≡ false → same_word (codes "scale") tag ≡ false → starts tag (from_nevers r) ≡ false
at_nevers r tag never region loops fact column scale = skip_paired tag never_line r.claims.nevers r.cert.nevers (from_regions r) (λ c m. never) (at_regions r tag region loops fact column scale)

pub at_exits : (r : Report) (tag : Word) → same_word (codes "exit") tag ≡ false → same_word (codes "never") tag ≡ false → same_word (codes "region") tag ≡ false → same_word (codes "loop") tag ≡ false → same_word (codes "fact") tag ≡ false → same_word (codes "column") tag ≡ false → same_word (codes "scale") tag ≡ false → starts tag (from_exits r) ≡ false
at_exits r tag exit never region loops fact column scale = skip_map tag exit_line r.claims.exits (from_nevers r) (λ a. exit) (at_nevers r tag never region loops fact column scale)

pub some_facts : (r : Report) → 0 < length (from_facts r)
some_facts r = longer (paired fact_line r.claims.facts r.cert.facts) (from_columns r) (some_columns r)

pub some_loops : (r : Report) → 0 < length (from_loops r)
some_loops r = longer (paired loop_line r.claims.loops r.cert.loops) (from_facts r) (some_facts r)

pub some_nevers : (r : Report) → 0 < length (from_nevers r)
some_nevers r = longer (paired never_line r.claims.nevers r.cert.nevers) (from_regions r) (some_regions r)

pub some_exits : (r : Report) → 0 < length (from_exits r)
some_exits r = longer (map exit_line r.claims.exits) (from_nevers r) (some_nevers r)

pub some_names : (r : Report) → 0 < length (from_names r)
some_names r = longer (map copy_line r.names) (from_exits r) (some_exits r)

pub some_shares : (r : Report) → 0 < length (from_shares r)
some_shares r = longer (map share_line r.shares) from_end (omega arith)

-- any list is from 0 on
from_zero : {X : Type 0} → (f : X → ℕ) (xs : List X) → All (λ x. 0 ≤ f x) xs
from_zero f xs = λ k d lt. omega arith

-- the lists of a report's lines

exits_of : (r : Report) → IsReport r → IsTyped r → AreRead exit_rule 0 (map exit_line r.claims.exits)
exits_of r is t = exits_read 0 r.claims.exits t.exits is.claims.exits (from_zero (λ a. a) r.claims.exits)

nevers_of : (r : Report) → IsReport r → IsTyped r → AreRead never_rule 0 (paired never_line r.claims.nevers r.cert.nevers)
nevers_of r is t = nevers_read 0 r.claims.nevers r.cert.nevers t.nevers is.certificate.small_nevers is.claims.nevers (from_zero (λ c. c.at) r.claims.nevers)

regions_of : (r : Report) → IsReport r → IsTyped r → AreRead region_rule (record { least = 0; end = 0 }) (map region_line r.claims.regions)
regions_of r is t = regions_read (record { least = 0; end = 0 }) r.claims.regions t.regions is.claims.named is.claims.regions is.claims.apart (from_zero (λ w. w.first) r.claims.regions) (λ k d lt filled. omega arith)

loops_of : (r : Report) → IsReport r → IsTyped r → AreRead loop_rule 0 (paired loop_line r.claims.loops r.cert.loops)
loops_of r is t = loops_read 0 r.claims.loops r.cert.loops t.loops is.certificate.small_loops is.claims.loops (from_zero (λ c. c.header) r.claims.loops)

abbrev facts_of : (r : Report) → IsReport r → IsTyped r → All AreSums r.claims.facts → AreRead fact_rule 0 (paired fact_line r.claims.facts r.cert.facts)
facts_of r is t sums = record { last = length r.claims.facts; fine = facts_fine 0 (length r.claims.facts) r.claims.facts r.cert.facts is.certificate.facts (omega arith) is.claims.facts sums t.facts is.certificate.small_facts }

names_of : (r : Report) → IsReport r → IsTyped r → AreRead copy_rule tt (map copy_line r.names)
names_of r is t = names_read r.names is.names t.names

columns_of : (r : Report) → IsReport r → AreRead column_rule (length r.claims.facts) (map column_line r.columns)
columns_of r is = columns_read (length r.claims.facts) r.columns is.columns

potentials_of : (r : Report) → IsReport r → IsTyped r → AreRead potential_rule 0 (map potential_line r.cert.potentials)
potentials_of r is t = potentials_read 0 r.cert.potentials t.potentials is.certificate.potentials is.certificate.ascending (from_zero (λ p. p.0) r.cert.potentials)

parts_of : (r : Report) → IsReport r → IsTyped r → AreRead flow_rule (record { at = 0; number = 0 }) (map flow_line r.cert.flow.parts)
parts_of r is t = parts_read (record { at = 0; number = 0 }) r.cert.flow.parts t.parts is.certificate.parts is.certificate.parts_ascend (λ k d lt. behind_zero _ _)
  where
    behind_zero : (a n : ℕ) → (0 < a) ⊎ ((0 ≡ a) × (0 ≤ n))
    behind_zero zero n = inr (refl, omega arith)
    behind_zero (suc a) n = inl (omega arith)

shares_of : (r : Report) → IsReport r → IsTyped r → AreRead share_rule 0 (map share_line r.shares)
shares_of r is t = shares_read 0 r.shares t.shares is.shares is.shares_ascend (from_zero (λ s. s.first) r.shares)

-- the claims are read, section by section

gone_claims : (r : Report) → IsReport r → IsTyped r → All AreSums r.claims.facts → (n : ℕ) → Gone (claims n (from_exits r)) (length r.claims.facts) (from_columns r)
gone_claims r is t sums n =
    gone_then (many exit_rule 0 n (from_exits r)) after_exits (exits_of r is t).last (from_nevers r) (length r.claims.facts) (from_columns r)
    (gone_many exit_rule 0 n (map exit_line r.claims.exits) (from_nevers r) (exits_of r is t) (some_nevers r) (at_nevers r (codes "exit") refl refl refl refl refl refl)) (λ n.
    gone_then (many never_rule 0 n (from_nevers r)) after_nevers (nevers_of r is t).last (from_regions r) (length r.claims.facts) (from_columns r)
    (gone_many never_rule 0 n (paired never_line r.claims.nevers r.cert.nevers) (from_regions r) (nevers_of r is t) (some_regions r) (at_regions r (codes "never") refl refl refl refl refl)) (λ n.
    gone_then (many region_rule (record { least = 0; end = 0 }) n (from_regions r)) after_regions (regions_of r is t).last (from_loops r) (length r.claims.facts) (from_columns r)
    (gone_many region_rule (record { least = 0; end = 0 }) n (map region_line r.claims.regions) (from_loops r) (regions_of r is t) (some_loops r) (at_loops r (codes "region") refl refl refl refl)) (λ n.
    gone_then (many loop_rule 0 n (from_loops r)) (λ s n ls. many fact_rule 0 n ls) (loops_of r is t).last (from_facts r) (length r.claims.facts) (from_columns r)
    (gone_many loop_rule 0 n (paired loop_line r.claims.loops r.cert.loops) (from_facts r) (loops_of r is t) (some_facts r) (at_facts r (codes "loop") refl refl refl)) (λ n.
    gone_many fact_rule 0 n (paired fact_line r.claims.facts r.cert.facts) (from_columns r) (facts_of r is t sums) (some_columns r) (at_columns r (codes "fact") refl refl)))))

gone_middle : (r : Report) → (is : IsReport r) → IsTyped r → All AreSums r.claims.facts → (n : ℕ) → Gone (middle n (from_names r)) (columns_of r is).last (from_scale r)
gone_middle r is t sums n =
    gone_then (many copy_rule tt n (from_names r)) after_names (names_of r is t).last (from_exits r) (columns_of r is).last (from_scale r)
    (gone_many copy_rule tt n (map copy_line r.names) (from_exits r) (names_of r is t) (some_exits r) (at_exits r (codes "copy") refl refl refl refl refl refl refl)) (λ n.
    gone_then (claims n (from_exits r)) after_claims (length r.claims.facts) (from_columns r) (columns_of r is).last (from_scale r)
    (gone_claims r is t sums n) (λ n.
    gone_many column_rule (length r.claims.facts) n (map column_line r.columns) (from_scale r) (columns_of r is) (omega arith) (at_scale r (codes "column") refl)))

-- the certificate's other numbers

unit_is : (k : Kind) (m : Mark) (unit : ℕ) (parts : List Part) → m ≡ mark_of k → FitsMark m unit parts → IsUnit (is_greatest_kind k) unit
unit_is Greatest m unit parts e f = subst (λ m. FitsMark m unit parts) e f
unit_is Empty m unit parts e f = (subst (λ m. FitsMark m unit parts) e f).0
unit_is (Wide p) m unit parts e f = (subst (λ m. FitsMark m unit parts) e f).0
unit_is (Spent c p) m unit parts e f = (subst (λ m. FitsMark m unit parts) e f).0

no_parts : (k : Kind) (m : Mark) (unit : ℕ) (parts : List Part) → m ≡ mark_of k → FitsMark m unit parts → is_greatest_kind k ≡ false → parts ≡ []
no_parts Greatest m unit parts e f g = absurd (false≢true (sym g))
no_parts Empty m unit parts e f g = (subst (λ m. FitsMark m unit parts) e f).1
no_parts (Wide p) m unit parts e f g = (subst (λ m. FitsMark m unit parts) e f).1
no_parts (Spent c p) m unit parts e f g = (subst (λ m. FitsMark m unit parts) e f).1

-- lines that may stand, or that are none
record IsPassed {S : Type 0} (b : Bool) (r : Rule S) (s : S) (n : ℕ) (ls rest : List Line) : Type 0 where
  last : S
  gone : Gone (many_where b r s n (ls ++ rest)) last rest

passed : {S : Type 0} → (b : Bool) (r : Rule S) (s : S) (n : ℕ) (ls rest : List Line) → AreRead r s ls → (b ≡ false → ls ≡ []) → 0 < length rest → starts r.tag rest ≡ false → IsPassed b r s n ls rest
passed true r s n ls rest read absent some e = record { last = read.last; gone = gone_many r s n ls rest read some e }
passed false r s n ls rest read absent some e = record { last = s; gone = subst (λ l. Gone (Goes s n (l ++ rest)) s rest) (sym (absent refl)) (gone_at s n rest) }

parts_passed : (r : Report) → IsReport r → IsTyped r → (n : ℕ) → IsPassed (is_greatest_kind r.kind) flow_rule (record { at = 0; number = 0 }) n (map flow_line r.cert.flow.parts) (from_shares r)
parts_passed r is t n =
    passed (is_greatest_kind r.kind) flow_rule (record { at = 0; number = 0 }) n (map flow_line r.cert.flow.parts) (from_shares r) (parts_of r is t)
    (λ g. ap (map flow_line) (no_parts r.kind r.cert.mark r.cert.flow.unit r.cert.flow.parts is.mark is.certificate.unit g)) (some_shares r) (at_shares r (codes "flow") refl refl)

no_shares : (version : ℕ) (k : Kind) (shares : List Share) → (version ≡ 1) ⊎ (version ≡ 2) → MayShare version k shares → ((version == 2) && is_greatest_kind k) ≡ false → shares ≡ []
no_shares version Greatest shares (inl one) may e = may one
no_shares version Greatest shares (inr two) may e = absurd (false≢true (sym e ∙ ap (λ v. (v == 2) && true) two))
no_shares version Empty shares known may e = may
no_shares version (Wide p) shares known may e = may
no_shares version (Spent c p) shares known may e = may

shares_passed : (r : Report) → IsReport r → IsTyped r → (n : ℕ) → IsPassed ((r.version == 2) && is_greatest_kind r.kind) share_rule 0 n (map share_line r.shares) from_end
shares_passed r is t n =
    passed ((r.version == 2) && is_greatest_kind r.kind) share_rule 0 n (map share_line r.shares) from_end (shares_of r is t)
    (λ g. ap (map share_line) (no_shares r.version r.kind r.shares is.version is.may_share g)) (omega arith) (skip_one (codes "share") end_line ended refl)

gone_certificate : (r : Report) → IsReport r → IsTyped r → (n : ℕ) → Gone (certificate (is_greatest_kind r.kind) n (from_scale r)) tt (from_shares r)
gone_certificate r is t n =
    gone_then (one scale_rule tt n (from_scale r)) (after_scale (is_greatest_kind r.kind)) tt (from_potentials r) tt (from_shares r)
    (gone_one scale_rule tt tt n (scale_line r.cert.scale) (from_potentials r) (scale_fine r.cert.scale is.certificate.scale) (longer (map potential_line r.cert.potentials) (from_unit r) (omega arith))) (λ n.
    gone_then (many potential_rule 0 n (from_potentials r)) (after_potentials (is_greatest_kind r.kind)) (potentials_of r is t).last (from_unit r) tt (from_shares r)
    (gone_many potential_rule 0 n (map potential_line r.cert.potentials) (from_unit r) (potentials_of r is t) (omega arith) (at_unit r (codes "potential") refl)) (λ n.
    gone_then (one unit_rule (is_greatest_kind r.kind) n (from_unit r)) (after_unit (is_greatest_kind r.kind)) (is_greatest_kind r.kind) (from_parts r) tt (from_shares r)
    (gone_one unit_rule (is_greatest_kind r.kind) (is_greatest_kind r.kind) n (unit_line r.cert.flow.unit) (from_parts r) (unit_fine (is_greatest_kind r.kind) r.cert.flow.unit (unit_is r.kind r.cert.mark r.cert.flow.unit r.cert.flow.parts is.mark is.certificate.unit)) (some_parts r)) (λ n.
    gone_then (many_where (is_greatest_kind r.kind) flow_rule (record { at = 0; number = 0 }) n (from_parts r)) after_parts (parts_passed r is t n).last (from_shares r) tt (from_shares r)
    (parts_passed r is t n).gone (λ n. gone_at tt n (from_shares r)))))

gone_tail : (r : Report) → IsReport r → IsTyped r → (n : ℕ) → Gone (tail (record { version = r.version; greatest = is_greatest_kind r.kind }) n (from_shares r)) tt ended
gone_tail r is t n =
    gone_then (many_where ((r.version == 2) && is_greatest_kind r.kind) share_rule 0 n (from_shares r)) after_shares (shares_passed r is t n).last from_end tt ended
    (shares_passed r is t n).gone (λ n.
    gone_then (one end_rule tt n from_end) after_end tt ended tt ended
    (gone_one end_rule tt tt n end_line ended end_fine (omega arith)) (λ n. gone_at tt n ended))

-- the first lines

gone_version : (v n : ℕ) (rest : List Line) → (v ≡ 1) ⊎ (v ≡ 2) → 0 < length rest → starts (codes "version") rest ≡ false → Gone (maybe version_rule 1 n (version_lines v ++ rest)) v rest
gone_version v n rest (inl one) some e = subst (λ v. Gone (maybe version_rule 1 n (version_lines v ++ rest)) v rest) (sym one) (gone_without version_rule 1 n rest e)
gone_version v n rest (inr two) some e = subst (λ v. Gone (maybe version_rule 1 n (version_lines v ++ rest)) v rest) (sym two) (gone_maybe version_rule 1 2 n (codes "version" ∷ decimal 2 ∷ []) rest version_fine some)

abbrev pub from_kind : Report → List Line
from_kind r = kind_line r.kind ∷ from_names r

gone_head : (r : Report) → IsReport r → IsTyped r → (n : ℕ) → Gone (head n (from_version r)) (record { version = r.version; greatest = is_greatest_kind r.kind }) (from_names r)
gone_head r is t n =
    gone_then (maybe version_rule 1 n (from_version r)) after_version r.version (from_cycles r) (record { version = r.version; greatest = is_greatest_kind r.kind }) (from_names r)
    (gone_version r.version n (from_cycles r) is.version (omega arith) (skip_one (codes "version") (cycles_line r.cert.cycles) (from_kind r) refl)) (λ n.
    gone_then (one cycles_rule tt n (from_cycles r)) (after_cycles r.version) tt (from_kind r) (record { version = r.version; greatest = is_greatest_kind r.kind }) (from_names r)
    (gone_one cycles_rule tt tt n (cycles_line r.cert.cycles) (from_kind r) (cycles_fine r.cert.cycles is.certificate.cycles) (omega arith)) (λ n.
    gone_then (one kind_rule false n (from_kind r)) (after_kind r.version) (is_greatest_kind r.kind) (from_names r) (record { version = r.version; greatest = is_greatest_kind r.kind }) (from_names r)
    (gone_one kind_rule false (is_greatest_kind r.kind) n (kind_line r.kind) (from_names r) (kind_fine r.kind t.kind) (some_names r)) (λ n. gone_at (record { version = r.version; greatest = is_greatest_kind r.kind }) n (from_names r))))

-- the whole text

gone_lines : (r : Report) → IsReport r → IsTyped r → All AreSums r.claims.facts → (n : ℕ) → Gone (whole n (from_version r)) tt ended
gone_lines r is t sums n =
    gone_then (head n (from_version r)) after_head (record { version = r.version; greatest = is_greatest_kind r.kind }) (from_names r) tt ended (gone_head r is t n) (λ n.
    gone_then (middle n (from_names r)) (after_middle (record { version = r.version; greatest = is_greatest_kind r.kind })) (columns_of r is).last (from_scale r) tt ended (gone_middle r is t sums n) (λ n.
    gone_then (certificate (is_greatest_kind r.kind) n (from_scale r)) (after_certificate (record { version = r.version; greatest = is_greatest_kind r.kind })) tt (from_shares r) tt ended (gone_certificate r is t n) (λ n.
    gone_tail r is t n)))

-- its lines are plain

version_plain : (v : ℕ) → (v ≡ 1) ⊎ (v ≡ 2) → Plains (version_lines v)
version_plain v (inl one) = subst (λ v. Plains (version_lines v)) (sym one) tt
version_plain v (inr two) = subst (λ v. Plains (version_lines v)) (sym two) (plain_one version_rule 1 2 (codes "version" ∷ decimal 2 ∷ []) [] version_fine tt)

read_plain : {S : Type 0} → (r : Rule S) (s : S) (ls : List Line) → AreRead r s ls → Plains ls
read_plain r s ls read = plain_many r s read.last ls read.fine

claims_plain : (r : Report) → IsReport r → IsTyped r → All AreSums r.claims.facts → Plains (claim_lines r.claims r.cert)
claims_plain r is t sums =
    plains_both (map exit_line r.claims.exits) _ (read_plain exit_rule 0 (map exit_line r.claims.exits) (exits_of r is t))
    (plains_both (paired never_line r.claims.nevers r.cert.nevers) _ (read_plain never_rule 0 (paired never_line r.claims.nevers r.cert.nevers) (nevers_of r is t))
    (plains_both (map region_line r.claims.regions) _ (read_plain region_rule (record { least = 0; end = 0 }) (map region_line r.claims.regions) (regions_of r is t))
    (plains_both (paired loop_line r.claims.loops r.cert.loops) (paired fact_line r.claims.facts r.cert.facts) (read_plain loop_rule 0 (paired loop_line r.claims.loops r.cert.loops) (loops_of r is t))
    (read_plain fact_rule 0 (paired fact_line r.claims.facts r.cert.facts) (facts_of r is t sums)))))

cert_plain : (r : Report) → IsReport r → IsTyped r → Plains (cert_lines r.cert)
cert_plain r is t =
    plain_one scale_rule tt tt (scale_line r.cert.scale) (map potential_line r.cert.potentials ++ unit_line r.cert.flow.unit ∷ map flow_line r.cert.flow.parts) (scale_fine r.cert.scale is.certificate.scale)
    (plains_both (map potential_line r.cert.potentials) (unit_line r.cert.flow.unit ∷ map flow_line r.cert.flow.parts) (read_plain potential_rule 0 (map potential_line r.cert.potentials) (potentials_of r is t))
    (plain_one unit_rule (is_greatest_kind r.kind) (is_greatest_kind r.kind) (unit_line r.cert.flow.unit) (map flow_line r.cert.flow.parts)
    (unit_fine (is_greatest_kind r.kind) r.cert.flow.unit (unit_is r.kind r.cert.mark r.cert.flow.unit r.cert.flow.parts is.mark is.certificate.unit))
    (read_plain flow_rule (record { at = 0; number = 0 }) (map flow_line r.cert.flow.parts) (parts_of r is t))))

head_plain : (r : Report) → IsReport r → IsTyped r → Plains (head_lines r)
head_plain r is t =
    plains_both (version_lines r.version) (cycles_line r.cert.cycles ∷ kind_line r.kind ∷ []) (version_plain r.version is.version)
    (plain_one cycles_rule tt tt (cycles_line r.cert.cycles) (kind_line r.kind ∷ []) (cycles_fine r.cert.cycles is.certificate.cycles)
    (plain_one kind_rule false (is_greatest_kind r.kind) (kind_line r.kind) [] (kind_fine r.kind t.kind) tt))

pub lines_plain : (r : Report) → IsReport r → IsTyped r → All AreSums r.claims.facts → Plains (report_lines r)
lines_plain r is t sums =
    plains_both (head_lines r) _ (head_plain r is t)
    (plains_both (map copy_line r.names) _ (read_plain copy_rule tt (map copy_line r.names) (names_of r is t))
    (plains_both (claim_lines r.claims r.cert) _ (claims_plain r is t sums)
    (plains_both (map column_line r.columns) _ (read_plain column_rule (length r.claims.facts) (map column_line r.columns) (columns_of r is))
    (plains_both (cert_lines r.cert) _ (cert_plain r is t)
    (plains_both (map share_line r.shares) (end_line ∷ []) (read_plain share_rule 0 (map share_line r.shares) (shares_of r is t)) (plain_one end_rule tt tt end_line [] end_fine tt))))))

pub gone_whole : (r : Report) → IsReport r → IsTyped r → All AreSums r.claims.facts → Gone (whole 1 (lines_of (report_text r))) tt ended
gone_whole r is t sums =
    subst (λ ls. Gone (whole 1 ls) tt ended) (sym (lines_back (report_lines r) (lines_plain r is t sums) ∙ all_lines r)) (gone_lines r is t sums 1)

-- so no line of it fails

abbrev has_gone : Outcome (Unit {0}) → Bool
has_gone (Fails fault) = false
has_gone (Goes s n ls) = true

pub no_fault : (r : Report) (fault : ReportFault) → IsReport r → IsTyped r → All AreSums r.claims.facts → IsReportFault (report_text r) fault → ⊥
no_fault r fault is t sums e = let g = gone_whole r is t sums in false≢true (sym (ap has_gone (sym g.is ∙ e)))
