-- How long lines are, and the text of a report.
use Rattle.std.proofs.Common.{◌≡◌, ◌≤◌, ◌<◌, ℕ, suc, ◌+◌, ◌*◌, ◌^◌, ℤ, pos, negsuc, List, [], ◌∷◌, ◌++◌, length, map, All, Bool, true, false, Option, Some, None, refl, sym, ap, subst, inl, inr, ◌∙◌, arith, length-append}
use Rattle.std.proofs.Math.Nat.{add_comm, mul-suc, mul-zero}
use Rattle.std.proofs.lemmas.Fmt.{length-decimal-le, length-decimal-le_wide}
use Rattle.std.proofs.lemmas.List.Elements.{All-head, All-tail}
use Rattle.std.specs.Fmt.{decimal, signed_decimal}
use Rattle.std.specs.Prelude.{◌⊎◌, codes}
use Rattle.frac128.specs.Terms.{Terms}
use Rattle.wcc_base.specs.declared.compare.Compare.{Compare}
use Rattle.wcc_base.specs.declared.compare.Compare.TheVariants.{AtLeast, AtMost, Equal}
use Rattle.code_flow_system.specs.Claims.{Claims}
use Rattle.code_flow_system.specs.Certificates.{IsSmall, IsPart, IsInForm, FitsMark}
use Rattle.code_flow_system.specs.declared.cert.Cert.{Cert}
use Rattle.code_flow_system.specs.declared.cert.Mark.{Mark}
use Rattle.code_flow_system.specs.declared.cert.Mark.TheVariants as marks
use Rattle.code_flow_system.specs.declared.cert.Part.{Part}
use Rattle.code_flow_system.specs.declared.claims.FactClaim.{FactClaim}
use Rattle.code_flow_system.specs.declared.claims.LoopClaim.{LoopClaim}
use Rattle.code_flow_system.specs.declared.claims.Never.{Never}
use Rattle.code_flow_system.specs.declared.claims.Within.{Within}
use Rattle.code_flow_answer.specs.declared.bounded.Column.{Column}
use Rattle.code_flow_answer.specs.declared.bounded.Kind.{Kind}
use Rattle.code_flow_answer.specs.declared.bounded.Kind.TheVariants.{Greatest, Empty, Wide, Spent}
use Rattle.report_laws.specs.Typed.{IsTyped, IsTypedKind, IsTypedLoop, IsTypedNever, IsTypedPart, IsWord}
use Rattle.report_words.specs.Words.{Word, Line, address_word, line_text, lines_text, spaced, term_word}
use Rattle.report_text.specs.declared.entries.CopyLine.{CopyLine}
use Rattle.report_text.specs.declared.entries.Share.{Share}
use Rattle.report_text.specs.Forms.{IsColumn, IsReport, IsShare}
use Rattle.report_text.specs.Lines.{cert_lines, claim_lines, column_line, compare_word, copy_line, cycles_line, end_line, exit_line, fact_line, flow_line, head_lines, kind_line, letter, letters, loop_line, more_terms, never_line, paired, potential_line, region_line, report_text, scale_line, share_line, share_name, sum_words, unit_line, version_lines}
use Rattle.report_text.specs.Reports.{Report}
use Rattle.report_laws.specs.Room.{columns_room, copies_room, facts_room, name_length, report_room, shares_room, terms_room}

-- words, lines and texts

abbrev total : List Word → ℕ
total [] = 0
total (w ∷ ws) = suc (length w + total ws)

spaced_length : (ws : List Word) → length (spaced ws) ≡ total ws
spaced_length [] = refl
spaced_length (w ∷ ws) = ap suc (length-append w (spaced ws) ∙ ap (λ n. length w + n) (spaced_length ws))

line_length : (w : Word) (ws : List Word) → length (line_text (w ∷ ws)) ≡ length w + (total ws + 1)
line_length w ws = length-append w (spaced ws ++ 10 ∷ []) ∙ ap (λ n. length w + n) (length-append (spaced ws) (10 ∷ []) ∙ ap (λ n. n + 1) (spaced_length ws))

lines_append : (xs ys : List Line) → length (lines_text (xs ++ ys)) ≡ length (lines_text xs) + length (lines_text ys)
lines_append [] ys = omega arith
lines_append (l ∷ ls) ys = omega (arith, length-append (line_text l) (lines_text (ls ++ ys)), length-append (line_text l) (lines_text ls), lines_append ls ys)

address_length : (a : ℕ) → length (address_word a) ≡ 8
unfolding address_word
address_length a = refl

word_length : (n : ℕ) → IsWord n → length (decimal n) ≤ 10
word_length n lt = length-decimal-le 10 n (omega arith) (omega (arith, lt)) (omega (arith, lt))

long_length : (n : ℕ) → n < 2 ^ 63 → length (decimal n) ≤ 19
long_length n lt = length-decimal-le 19 n (omega arith) (omega (arith, lt)) (omega (arith, lt))

byte_length : (n : ℕ) → n < 2 ^ 8 → length (decimal n) ≤ 3
byte_length n lt = length-decimal-le 3 n (omega arith) (omega (arith, lt)) (omega (arith, lt))

small_length : (z : ℤ) → IsSmall z → length (signed_decimal z) ≤ 38
small_length (pos n) lt = omega (arith, length-decimal-le_wide 37 n (omega arith) (omega (arith, lt)) (omega (arith, lt)))
small_length (negsuc n) lt = omega (arith, length-decimal-le_wide 37 (suc n) (omega arith) (omega (arith, lt)) (omega (arith, lt)))

-- lists of lines

-- so much for each element
abbrev room : {X : Type 0} → ℕ → List X → ℕ
room each [] = 0
room each (x ∷ xs) = each + room each xs

room-mul : {X : Type 0} → (each : ℕ) (xs : List X) → room each xs ≡ each * length xs
room-mul each [] = sym (mul-zero each)
room-mul each (x ∷ xs) = ap (λ n. each + n) (room-mul each xs) ∙ add_comm each (each * length xs) ∙ sym (mul-suc each (length xs))

mapped : {X : Type 0} (line : X → Line) (P : X → Type 0) (each : ℕ) → ((x : X) → P x → length (line_text (line x)) ≤ each) → (xs : List X) → All P xs → length (lines_text (map line xs)) ≤ room each xs
mapped line P each h [] a = omega arith
mapped line P each h (x ∷ xs) a =
    omega (arith, length-append (line_text (line x)) (lines_text (map line xs)), h x (All-head P x xs a), mapped line P each h xs (All-tail P x xs a))

places_length : (places : List ℕ) → total (map address_word places) ≡ 9 * length places
places_length [] = refl
places_length (p ∷ ps) = omega (arith, address_length p, places_length ps)

copies_length : (cs : List CopyLine) → length (lines_text (map copy_line cs)) ≤ copies_room cs
copies_length [] = omega arith
copies_length (c ∷ cs) =
    omega (arith, length-append (line_text (copy_line c)) (lines_text (map copy_line cs)), line_length (codes "copy") (c.name ∷ map address_word c.places), places_length c.places, copies_length cs)

exit_length : (a : ℕ) → IsWord a → length (line_text (exit_line a)) ≤ 14
exit_length a lt = omega (arith, line_length (codes "exit") (address_word a ∷ []), address_length a)

letter_length : (b : Bool) (n : ℕ) → length (letter b n) ≤ 1
letter_length true n = omega arith
letter_length false n = omega arith

region_length : (w : Within) → length (line_text (region_line w)) ≤ 29
region_length w =
    omega (
      arith,
      line_length (codes "region") (address_word w.first ∷ address_word w.end ∷ letters w ∷ []),
      address_length w.first,
      address_length w.end,
      length-append (letter w.flash 102) (letter w.spm 115 ++ letter w.ram 114),
      length-append (letter w.spm 115) (letter w.ram 114),
      letter_length w.flash 102,
      letter_length w.spm 115,
      letter_length w.ram 114,
    )

regions_length : (ws : List Within) → length (lines_text (map region_line ws)) ≤ room 29 ws
regions_length [] = omega arith
regions_length (w ∷ ws) = omega (arith, length-append (line_text (region_line w)) (lines_text (map region_line ws)), region_length w, regions_length ws)

loop_length : (c : LoopClaim) (m : ℤ × ℤ) → IsTypedLoop c → IsSmall m.0 × IsSmall m.1 → length (line_text (loop_line c m)) ≤ 145
loop_length c m t s =
    omega (
      arith,
      line_length (codes "loop") (decimal c.source ∷ decimal c.factor ∷ decimal c.min ∷ decimal c.max ∷ address_word c.header ∷ address_word c.back ∷ signed_decimal m.0 ∷ signed_decimal m.1 ∷ []),
      word_length c.source t.source,
      word_length c.factor t.factor,
      word_length c.min t.min,
      word_length c.max t.max,
      address_length c.header,
      address_length c.back,
      small_length m.0 s.0,
      small_length m.1 s.1,
    )

loops_length : (cs : List LoopClaim) (ms : List (ℤ × ℤ)) → All IsTypedLoop cs → All (λ w. IsSmall w.0 × IsSmall w.1) ms → length (lines_text (paired loop_line cs ms)) ≤ room 145 cs
loops_length [] ms t s = omega arith
loops_length (c ∷ cs) [] t s = omega arith
loops_length (c ∷ cs) (m ∷ ms) t s =
    omega (
      arith,
      length-append (line_text (loop_line c m)) (lines_text (paired loop_line cs ms)),
      loop_length c m (All-head IsTypedLoop c cs t) (All-head (λ w. IsSmall w.0 × IsSmall w.1) m ms s),
      loops_length cs ms (All-tail IsTypedLoop c cs t) (All-tail (λ w. IsSmall w.0 × IsSmall w.1) m ms s),
    )

never_length : (c : Never) (m : ℤ) → IsTypedNever c → IsSmall m → length (line_text (never_line c m)) ≤ 76
never_length c m t s =
    omega (
      arith,
      line_length (codes "never") (decimal c.source ∷ decimal c.factor ∷ address_word c.at ∷ signed_decimal m ∷ []),
      word_length c.source t.source,
      word_length c.factor t.factor,
      address_length c.at,
      small_length m s,
    )

nevers_length : (cs : List Never) (ms : List ℤ) → All IsTypedNever cs → All IsSmall ms → length (lines_text (paired never_line cs ms)) ≤ room 76 cs
nevers_length [] ms t s = omega arith
nevers_length (c ∷ cs) [] t s = omega arith
nevers_length (c ∷ cs) (m ∷ ms) t s =
    omega (
      arith,
      length-append (line_text (never_line c m)) (lines_text (paired never_line cs ms)),
      never_length c m (All-head IsTypedNever c cs t) (All-head IsSmall m ms s),
      nevers_length cs ms (All-tail IsTypedNever c cs t) (All-tail IsSmall m ms s),
    )

-- sums of terms

term_length : (t : ℕ × ℤ) → length (term_word t) ≡ 9 + length (signed_decimal t.1)
term_length t = omega (arith, length-append (signed_decimal t.1) (42 ∷ address_word t.0), address_length t.0)

more_length : (ts : Terms) → total (more_terms ts) ≡ terms_room ts
more_length [] = refl
more_length (t ∷ ts) = omega (arith, term_length t, more_length ts)

sum_length : (ts : Terms) → total (sum_words ts) ≤ 2 + terms_room ts
sum_length [] = omega arith
sum_length (t ∷ ts) = omega (arith, term_length t, more_length ts)

total_append : (xs ys : List Word) → total (xs ++ ys) ≡ total xs + total ys
total_append [] ys = omega arith
total_append (x ∷ xs) ys = omega (arith, total_append xs ys)

compare_length : (op : Compare) → length (compare_word op) ≤ 2
compare_length AtMost = omega arith
compare_length AtLeast = omega arith
compare_length Equal = omega arith

fact_length : (c : FactClaim) (m : ℤ) → IsSmall m → length (line_text (fact_line c m)) ≤ 51 + (terms_room c.left + terms_room c.right)
fact_length c m s =
    omega (
      arith,
      line_length (codes "fact") (signed_decimal m ∷ (sum_words c.left ++ compare_word c.op ∷ sum_words c.right)),
      total_append (sum_words c.left) (compare_word c.op ∷ sum_words c.right),
      small_length m s,
      sum_length c.left,
      compare_length c.op,
      sum_length c.right,
    )

facts_length : (cs : List FactClaim) (ms : List ℤ) → All IsSmall ms → length (lines_text (paired fact_line cs ms)) ≤ facts_room cs
facts_length [] ms s = omega arith
facts_length (c ∷ cs) [] s = omega arith
facts_length (c ∷ cs) (m ∷ ms) s =
    omega (
      arith,
      length-append (line_text (fact_line c m)) (lines_text (paired fact_line cs ms)),
      fact_length c m (All-head IsSmall m ms s),
      facts_length cs ms (All-tail IsSmall m ms s),
    )

totals_length : (zs : List ℤ) → All IsSmall zs → total (map signed_decimal zs) ≤ 39 * length zs
totals_length [] s = omega arith
totals_length (z ∷ zs) s = omega (arith, small_length z (All-head IsSmall z zs s), totals_length zs (All-tail IsSmall z zs s))

columns_length : (count : ℕ) (cs : List Column) → All (IsColumn count) cs → length (lines_text (map column_line cs)) ≤ columns_room cs
columns_length count [] h = omega arith
columns_length count (c ∷ cs) h =
    let own = All-head (IsColumn count) c cs h in
    omega (
      arith,
      length-append (line_text (column_line c)) (lines_text (map column_line cs)),
      line_length (codes "column") (signed_decimal c.value ∷ map signed_decimal c.totals),
      small_length c.value own.value,
      totals_length c.totals own.small,
      columns_length count cs (All-tail (IsColumn count) c cs h),
    )

potential_length : (t : ℕ × ℤ) → IsSmall t.1 → length (line_text (potential_line t)) ≤ 58
potential_length t s = omega (arith, line_length (codes "potential") (address_word t.0 ∷ signed_decimal t.1 ∷ []), address_length t.0, small_length t.1 s)

part_length : (p : Part) → IsTypedPart p → IsPart p → length (line_text (flow_line p)) ≤ 57
part_length p t s =
    omega (arith, line_length (codes "flow") (address_word p.at ∷ decimal p.number ∷ signed_decimal p.part ∷ []), address_length p.at, byte_length p.number t.number, small_length p.part s.small)

parts_length : (ps : List Part) → All IsTypedPart ps → All IsPart ps → length (lines_text (map flow_line ps)) ≤ room 57 ps
parts_length [] t s = omega arith
parts_length (p ∷ ps) t s =
    omega (arith, length-append (line_text (flow_line p)) (lines_text (map flow_line ps)), part_length p (All-head IsTypedPart p ps t) (All-head IsPart p ps s), parts_length ps (All-tail IsTypedPart p ps t) (All-tail IsPart p ps s))

named_length : (name : Option Word) → length (share_name name) ≡ name_length name
named_length None = refl
named_length (Some name) = refl

shares_length : (ss : List Share) → All IsShare ss → length (lines_text (map share_line ss)) ≤ shares_room ss
shares_length [] a = omega arith
shares_length (s ∷ ss) a =
    omega (
      arith,
      length-append (line_text (share_line s)) (lines_text (map share_line ss)),
      line_length (codes "share") (share_name s.name ∷ address_word s.first ∷ address_word s.end ∷ signed_decimal s.part ∷ []),
      named_length s.name,
      address_length s.first,
      address_length s.end,
      small_length s.part (All-head IsShare s ss a).small,
      shares_length ss (All-tail IsShare s ss a),
    )

-- the parts of a report

kind_length : (k : Kind) → IsTypedKind k → length (line_text (kind_line k)) ≤ 40
kind_length Greatest t = omega (arith, line_length (codes "kind") (codes "greatest" ∷ []))
kind_length Empty t = omega (arith, line_length (codes "kind") (codes "empty" ∷ []))
kind_length (Wide pivot) t = omega (arith, line_length (codes "kind") (codes "wide" ∷ decimal pivot ∷ []), word_length pivot t)
kind_length (Spent columns pivots) t = omega (arith, line_length (codes "kind") (codes "spent" ∷ decimal columns ∷ decimal pivots ∷ []), word_length columns t.0, word_length pivots t.1)

version_length : (v : ℕ) → (v ≡ 1) ⊎ (v ≡ 2) → length (lines_text (version_lines v)) ≤ 20
version_length v (inl e) = subst (λ k. length (lines_text (version_lines k)) ≤ 20) (sym e) (omega arith)
version_length v (inr e) = subst (λ k. length (lines_text (version_lines k)) ≤ 20) (sym e) (omega (arith, length-append (line_text two) [], line_length (codes "version") (decimal 2 ∷ []), word_length 2 (omega arith)))
  where
    two : Line
    two = codes "version" ∷ decimal 2 ∷ []

head_length : (r : Report) → IsReport r → IsTyped r → length (lines_text (head_lines r)) ≤ 87
head_length r i t =
    omega (
      arith,
      lines_append (version_lines r.version) (cycles_line r.cert.cycles ∷ kind_line r.kind ∷ []),
      version_length r.version i.version,
      length-append (line_text (cycles_line r.cert.cycles)) (lines_text (kind_line r.kind ∷ [])),
      length-append (line_text (kind_line r.kind)) [],
      line_length (codes "cycles") (decimal r.cert.cycles ∷ []),
      long_length r.cert.cycles i.certificate.cycles,
      kind_length r.kind t.kind,
    )

claims_length : (c : Claims) (k : Cert) → All IsWord c.exits → All IsTypedNever c.nevers → All IsTypedLoop c.loops → IsInForm c k
    → length (lines_text (claim_lines c k)) ≤ room 14 c.exits + (room 76 c.nevers + (room 29 c.regions + (room 145 c.loops + facts_room c.facts)))
claims_length c k e n l i =
    let exits = map exit_line c.exits in
    let nevers = paired never_line c.nevers k.nevers in
    let regions = map region_line c.regions in
    let loops = paired loop_line c.loops k.loops in
    let facts = paired fact_line c.facts k.facts in
    omega (
      arith,
      lines_append exits (nevers ++ (regions ++ (loops ++ facts))),
      lines_append nevers (regions ++ (loops ++ facts)),
      lines_append regions (loops ++ facts),
      lines_append loops facts,
      mapped exit_line IsWord 14 exit_length c.exits e,
      nevers_length c.nevers k.nevers n i.small_nevers,
      regions_length c.regions,
      loops_length c.loops k.loops l i.small_loops,
      facts_length c.facts k.facts i.small_facts,
    )

unit_small : (m : Mark) (unit : ℕ) (parts : List Part) → FitsMark m unit parts → unit < 2 ^ 63
unit_small marks.Greatest unit parts f = omega (arith, f.1)
unit_small marks.Empty unit parts f = omega (arith, f.0)
unit_small marks.Neither unit parts f = omega (arith, f.0)

cert_length : (c : Claims) (k : Cert) → IsInForm c k → All IsTypedPart k.flow.parts → length (lines_text (cert_lines k)) ≤ 60 + (room 58 k.potentials + room 57 k.flow.parts)
cert_length c k i t =
    let potentials = map potential_line k.potentials in
    let rest = unit_line k.flow.unit ∷ map flow_line k.flow.parts in
    omega (
      arith,
      length-append (line_text (scale_line k.scale)) (lines_text (potentials ++ rest)),
      lines_append potentials rest,
      length-append (line_text (unit_line k.flow.unit)) (lines_text (map flow_line k.flow.parts)),
      line_length (codes "scale") (decimal k.scale ∷ []),
      long_length k.scale (omega (arith, i.scale.1)),
      line_length (codes "unit") (decimal k.flow.unit ∷ []),
      long_length k.flow.unit (unit_small k.mark k.flow.unit k.flow.parts i.unit),
      mapped potential_line (λ t. IsSmall t.1) 58 potential_length k.potentials i.potentials,
      parts_length k.flow.parts t i.parts,
    )

pub short : (r : Report) → IsReport r → IsTyped r → length (report_text r) ≤ report_room r
short r i t =
    let names = map copy_line r.names in
    let claims = claim_lines r.claims r.cert in
    let columns = map column_line r.columns in
    let cert = cert_lines r.cert in
    let shares = map share_line r.shares in
    let end = end_line ∷ [] in
    omega (
      arith,
      lines_append (head_lines r) (names ++ (claims ++ (columns ++ (cert ++ (shares ++ end))))),
      lines_append names (claims ++ (columns ++ (cert ++ (shares ++ end)))),
      lines_append claims (columns ++ (cert ++ (shares ++ end))),
      lines_append columns (cert ++ (shares ++ end)),
      lines_append cert (shares ++ end),
      lines_append shares end,
      head_length r i t,
      copies_length r.names,
      claims_length r.claims r.cert t.exits t.nevers t.loops i.certificate,
      columns_length (length r.claims.facts) r.columns i.columns,
      cert_length r.claims r.cert i.certificate t.parts,
      shares_length r.shares i.shares,
      room-mul 14 r.claims.exits,
      room-mul 76 r.claims.nevers,
      room-mul 29 r.claims.regions,
      room-mul 145 r.claims.loops,
      room-mul 58 r.cert.potentials,
      room-mul 57 r.cert.flow.parts,
    )
