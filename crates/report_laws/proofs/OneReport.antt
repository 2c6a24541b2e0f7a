-- One text belongs to one report: its lines are peeled off, section by section.
use Rattle.std.proofs.Common.{◌≡◌, ℕ, ◌^◌, ◌<◌, ◌≤◌, ◌⊎◌, inl, inr, List, [], ◌∷◌, ◌++◌, length, map, true, false, refl, sym, ap, ◌∙◌, arith, codes, All}
use Rattle.std.proofs.lemmas.Bool.{false≢true}
use Rattle.std.proofs.lemmas.List.Elements.{All-head, All-tail}
use Rattle.code_flow_system.specs.Claims.{AreSums}
use Rattle.code_flow_system.specs.Certificates.{IsSmall, IsPart, FitsMark}
use Rattle.code_flow_system.specs.declared.cert.Mark.{Mark}
use Rattle.code_flow_system.specs.declared.cert.Mark.TheVariants as marks
use Rattle.code_flow_system.specs.declared.cert.Part.{Part}
use Rattle.code_flow_answer.specs.declared.bounded.Column.{Column}
use Rattle.report_words.specs.Words.{Word, Line}
use Rattle.report_text.specs.Reports.{Report}
use Rattle.report_text.specs.Forms.{mark_of, IsFact, IsColumn, IsShare, IsReport}
use Rattle.report_text.specs.Lines.{version_lines, copy_line, exit_line, never_line, region_line, loop_line, fact_line, paired, column_line, potential_line, flow_line, share_line, end_line, report_lines, report_text}
use Rattle.report_rules.specs.WordTests.{word_at}
use Rattle.report_reading.specs.Texts.{lines_of}
use Rattle.report_reading.specs.Sections.{has_tag, starts}
use Rattle.report_laws.specs.Typed.{IsWord, IsTypedNever, IsTypedWithin, IsTypedLoop, IsTypedFact, IsTypedPart, IsTypedShare, IsTyped}
use Rattle.report_laws.proofs.Gone.{ended}
use Rattle.report_laws.proofs.ListLemmas.{longer}
use Rattle.report_laws.proofs.GoneLemmas.{skip_one, lines_back}
use Rattle.report_laws.proofs.SameLemmas.{cycles_same, kind_same, copy_same, exit_same, never_same, region_same, loop_same, fact_same, column_same, scale_same, potential_same, unit_same, flow_same, share_same}
use Rattle.report_laws.proofs.TextLaws.{from_end, from_shares, from_parts, from_unit, from_potentials, from_scale, from_columns, from_facts, from_loops, from_regions, from_nevers, from_exits, from_names, from_kind, from_cycles, from_version, all_lines, some_columns, some_regions, some_facts, some_loops, some_nevers, some_exits, some_shares, at_shares, at_unit, at_scale, at_columns, at_facts, at_loops, at_regions, at_nevers, at_exits, lines_plain}

abbrev head_line : List Line → Line
head_line [] = []
head_line (l ∷ ls) = l

abbrev tail_lines : List Line → List Line
tail_lines [] = []
tail_lines (l ∷ ls) = ls

starts_first : (tag : Word) (l : Line) (ls : List Line) → 0 < length ls → has_tag tag l ≡ true → starts tag (l ∷ ls) ≡ true
starts_first tag l [] some e = absurd (omega arith)
starts_first tag l (m ∷ ms) some e = e

-- lines with a tag and lines without it are not the same
clash : {A : Type 0} (tag : Word) (l : Line) (ls rest : List Line) → 0 < length ls → has_tag tag l ≡ true → starts tag rest ≡ false → rest ≡ l ∷ ls → A
clash tag l ls rest some t e same = absurd (false≢true (sym e ∙ ap (starts tag) same ∙ starts_first tag l ls some t))

record IsPeeled {X : Type 0} (xs ys : List X) (R Q : List Line) : Type 0 where
  same : xs ≡ ys
  rest : R ≡ Q

peel : {X : Type 0} → (tag : Word) (f : X → Line) (P : X → Type 0) → ((x y : X) → P x → P y → f x ≡ f y → x ≡ y) → ((x : X) → has_tag tag (f x) ≡ true) → (xs ys : List X) (R Q : List Line)
    → All P xs → All P ys → 0 < length R → 0 < length Q → starts tag R ≡ false → starts tag Q ≡ false → map f xs ++ R ≡ map f ys ++ Q → IsPeeled xs ys R Q
peel tag f P inj t [] [] R Q p q m n r s e = record { same = refl; rest = e }
peel tag f P inj t [] (y ∷ ys) R Q p q m n r s e = clash tag (f y) (map f ys ++ Q) R (longer (map f ys) Q n) (t y) r e
peel tag f P inj t (x ∷ xs) [] R Q p q m n r s e = clash tag (f x) (map f xs ++ R) Q (longer (map f xs) R m) (t x) s (sym e)
peel tag f P inj t (x ∷ xs) (y ∷ ys) R Q p q m n r s e =
    let next = peel tag f P inj t xs ys R Q (All-tail P x xs p) (All-tail P y ys q) m n r s (ap tail_lines e) in
    let first = inj x y (All-head P x xs p) (All-head P y ys q) (ap head_line e) in
    record { same = (λ i. first i ∷ next.same i); rest = next.rest }

record ArePeeled {X Y : Type 0} (xs ys : List X) (ms ns : List Y) (R Q : List Line) : Type 0 where
  same : xs ≡ ys
  by : ms ≡ ns
  rest : R ≡ Q

peel_both : {X Y : Type 0} → (tag : Word) (f : X → Y → Line) (P : X → Type 0) (S : Y → Type 0) → ((x y : X) (m n : Y) → P x → P y → S m → S n → f x m ≡ f y n → (x ≡ y) × (m ≡ n)) → ((x : X) (m : Y) → has_tag tag (f x m) ≡ true)
    → (xs ys : List X) (ms ns : List Y) (R Q : List Line) → length ms ≡ length xs → length ns ≡ length ys → All P xs → All P ys → All S ms → All S ns → 0 < length R → 0 < length Q → starts tag R ≡ false → starts tag Q ≡ false
    → paired f xs ms ++ R ≡ paired f ys ns ++ Q → ArePeeled xs ys ms ns R Q
peel_both tag f P S inj t [] [] [] [] R Q g h p q u v m n r s e = record { same = refl; by = refl; rest = e }
peel_both tag f P S inj t [] ys (b ∷ bs) ns R Q g h p q u v m n r s e = absurd (omega (arith, g))
peel_both tag f P S inj t (x ∷ xs) ys [] ns R Q g h p q u v m n r s e = absurd (omega (arith, g))
peel_both tag f P S inj t xs [] ms (b ∷ bs) R Q g h p q u v m n r s e = absurd (omega (arith, h))
peel_both tag f P S inj t xs (y ∷ ys) ms [] R Q g h p q u v m n r s e = absurd (omega (arith, h))
peel_both tag f P S inj t [] (y ∷ ys) [] (b ∷ bs) R Q g h p q u v m n r s e = clash tag (f y b) (paired f ys bs ++ Q) R (longer (paired f ys bs) Q n) (t y b) r e
peel_both tag f P S inj t (x ∷ xs) [] (a ∷ ms2) [] R Q g h p q u v m n r s e = clash tag (f x a) (paired f xs ms2 ++ R) Q (longer (paired f xs ms2) R m) (t x a) s (sym e)
peel_both tag f P S inj t (x ∷ xs) (y ∷ ys) (a ∷ ms2) (b ∷ bs) R Q g h p q u v m n r s e =
    let next = peel_both tag f P S inj t xs ys ms2 bs R Q (omega (arith, g)) (omega (arith, h)) (All-tail P x xs p) (All-tail P y ys q) (All-tail S a ms2 u) (All-tail S b bs v) m n r s (ap tail_lines e) in
    let first = inj x y a b (All-head P x xs p) (All-head P y ys q) (All-head S a ms2 u) (All-head S b bs v) (ap head_line e) in
    record { same = (λ i. first.0 i ∷ next.same i); by = (λ i. first.1 i ∷ next.by i); rest = next.rest }

-- the version

record HaveVersion (v w : ℕ) (R Q : List Line) : Type 0 where
  same : v ≡ w
  rest : R ≡ Q

length_apart : {A : Type 0} (R : List Line) (tag other : Word) → (length tag ≡ length other → ⊥) → word_at 0 (head_line R) ≡ tag → word_at 0 (head_line R) ≡ other → A
length_apart R tag other apart e f = absurd (apart (ap length (sym e ∙ f)))

same_version : (v w : ℕ) (R Q : List Line) → (v ≡ 1) ⊎ (v ≡ 2) → (w ≡ 1) ⊎ (w ≡ 2) → word_at 0 (head_line R) ≡ codes "cycles" → word_at 0 (head_line Q) ≡ codes "cycles" → version_lines v ++ R ≡ version_lines w ++ Q → HaveVersion v w R Q
same_version v w R Q (inl a) (inl b) r q e = record { same = a ∙ sym b; rest = ap (λ k. version_lines k ++ R) (sym a) ∙ e ∙ ap (λ k. version_lines k ++ Q) b }
same_version v w R Q (inl a) (inr b) r q e = length_apart R (codes "cycles") (codes "version") (λ l. omega (arith, l)) r (ap (λ ls. word_at 0 (head_line ls)) (ap (λ k. version_lines k ++ R) (sym a) ∙ e ∙ ap (λ k. version_lines k ++ Q) b))
same_version v w R Q (inr a) (inl b) r q e = length_apart Q (codes "cycles") (codes "version") (λ l. omega (arith, l)) q (ap (λ ls. word_at 0 (head_line ls)) (ap (λ k. version_lines k ++ Q) (sym b) ∙ sym e ∙ ap (λ k. version_lines k ++ R) a))
same_version v w R Q (inr a) (inr b) r q e = record { same = a ∙ sym b; rest = ap tail_lines (ap (λ k. version_lines k ++ R) (sym a) ∙ e ∙ ap (λ k. version_lines k ++ Q) b) }

-- the unit is at most 2^48
unit_small : (m : Mark) (unit : ℕ) (parts : List Part) → FitsMark m unit parts → unit ≤ 2 ^ 48
unit_small marks.Greatest unit parts f = f.1
unit_small marks.Empty unit parts f = let z = f.0 in omega (arith, z)
unit_small marks.Neither unit parts f = let z = f.0 in omega (arith, z)

zipped : {X : Type 0} → (P Q : X → Type 0) (xs : List X) → All P xs → All Q xs → All (λ x. P x × Q x) xs
zipped P Q xs p q = λ k d lt. (p k d lt, q k d lt)

-- a column for some number of facts
record Totalled (c : Column) : Type 0 where
  facts : ℕ
  form : IsColumn facts c

totalled : (facts : ℕ) (cs : List Column) → All (IsColumn facts) cs → All Totalled cs
totalled facts cs is = λ k d lt. record { facts = facts; form = is k d lt }

totalled_same : (c d : Column) → Totalled c → Totalled d → column_line c ≡ column_line d → c ≡ d
totalled_same c d p q e = column_same p.facts q.facts c d p.form q.form e

report_same : (r q : Report) → IsReport r → IsReport q → IsTyped r → IsTyped q → from_version r ≡ from_version q → r ≡ q
report_same r q is iq t u e =
    let v = same_version r.version q.version (from_cycles r) (from_cycles q) is.version iq.version refl refl e in
    let cycles = cycles_same r.cert.cycles q.cert.cycles is.certificate.cycles iq.certificate.cycles (ap head_line v.rest) in
    let behind_cycles : from_kind r ≡ from_kind q = ap tail_lines v.rest in
    let kind = kind_same r.kind q.kind t.kind u.kind (ap head_line behind_cycles) in
    let behind_kind : from_names r ≡ from_names q = ap tail_lines behind_cycles in
    let names = peel (codes "copy") copy_line (λ c. All IsWord c.places) copy_same (λ c. refl) r.names q.names (from_exits r) (from_exits q) t.names u.names (some_exits r) (some_exits q)
    (at_exits r (codes "copy") refl refl refl refl refl refl refl) (at_exits q (codes "copy") refl refl refl refl refl refl refl) behind_kind in
    let exits = peel (codes "exit") exit_line IsWord exit_same (λ a. refl) r.claims.exits q.claims.exits (from_nevers r) (from_nevers q) t.exits u.exits (some_nevers r) (some_nevers q)
    (at_nevers r (codes "exit") refl refl refl refl refl refl) (at_nevers q (codes "exit") refl refl refl refl refl refl) names.rest in
    let nevers = peel_both (codes "never") never_line IsTypedNever IsSmall (λ c d m n a b s z. never_same c d m n a b s z) (λ c m. refl) r.claims.nevers q.claims.nevers r.cert.nevers q.cert.nevers (from_regions r) (from_regions q)
    is.certificate.nevers iq.certificate.nevers t.nevers u.nevers is.certificate.small_nevers iq.certificate.small_nevers (some_regions r) (some_regions q)
    (at_regions r (codes "never") refl refl refl refl refl) (at_regions q (codes "never") refl refl refl refl refl) exits.rest in
    let regions = peel (codes "region") region_line IsTypedWithin region_same (λ w. refl) r.claims.regions q.claims.regions (from_loops r) (from_loops q) t.regions u.regions (some_loops r) (some_loops q)
    (at_loops r (codes "region") refl refl refl refl) (at_loops q (codes "region") refl refl refl refl) nevers.rest in
    let loops = peel_both (codes "loop") loop_line IsTypedLoop (λ w. IsSmall w.0 × IsSmall w.1) (λ c d m n a b s z. loop_same c d m n a b s z) (λ c m. refl) r.claims.loops q.claims.loops r.cert.loops q.cert.loops (from_facts r) (from_facts q)
    is.certificate.loops iq.certificate.loops t.loops u.loops is.certificate.small_loops iq.certificate.small_loops (some_facts r) (some_facts q)
    (at_facts r (codes "loop") refl refl refl) (at_facts q (codes "loop") refl refl refl) regions.rest in
    let facts = peel_both (codes "fact") fact_line (λ c. IsFact c × IsTypedFact c) IsSmall (λ c d m n a b s z. fact_same c d m n a.0 b.0 a.1 b.1 s z) (λ c m. refl) r.claims.facts q.claims.facts r.cert.facts q.cert.facts (from_columns r) (from_columns q)
    is.certificate.facts iq.certificate.facts (zipped IsFact IsTypedFact r.claims.facts is.claims.facts t.facts) (zipped IsFact IsTypedFact q.claims.facts iq.claims.facts u.facts) is.certificate.small_facts iq.certificate.small_facts (some_columns r) (some_columns q)
    (at_columns r (codes "fact") refl refl) (at_columns q (codes "fact") refl refl) loops.rest in
    let columns = peel (codes "column") column_line Totalled totalled_same (λ c. refl) r.columns q.columns (from_scale r) (from_scale q) (totalled (length r.claims.facts) r.columns is.columns) (totalled (length q.claims.facts) q.columns iq.columns) (omega arith) (omega arith)
    (at_scale r (codes "column") refl) (at_scale q (codes "column") refl) facts.rest in
    let scale = scale_same r.cert.scale q.cert.scale is.certificate.scale.1 iq.certificate.scale.1 (ap head_line columns.rest) in
    let behind_scale : from_potentials r ≡ from_potentials q = ap tail_lines columns.rest in
    let potentials = peel (codes "potential") potential_line (λ p. IsWord p.0 × IsSmall p.1) (λ p o a b f. potential_same p o a.0 b.0 a.1 b.1 f) (λ p. refl) r.cert.potentials q.cert.potentials (from_unit r) (from_unit q)
    (zipped (λ p. IsWord p.0) (λ p. IsSmall p.1) r.cert.potentials t.potentials is.certificate.potentials) (zipped (λ p. IsWord p.0) (λ p. IsSmall p.1) q.cert.potentials u.potentials iq.certificate.potentials) (omega arith) (omega arith)
    (at_unit r (codes "potential") refl) (at_unit q (codes "potential") refl) behind_scale in
    let unit = unit_same r.cert.flow.unit q.cert.flow.unit (unit_small r.cert.mark r.cert.flow.unit r.cert.flow.parts is.certificate.unit) (unit_small q.cert.mark q.cert.flow.unit q.cert.flow.parts iq.certificate.unit) (ap head_line potentials.rest) in
    let behind_unit : from_parts r ≡ from_parts q = ap tail_lines potentials.rest in
    let parts = peel (codes "flow") flow_line (λ p. IsTypedPart p × IsPart p) (λ p o a b f. flow_same p o a.0 b.0 a.1 b.1 f) (λ p. refl) r.cert.flow.parts q.cert.flow.parts (from_shares r) (from_shares q)
    (zipped IsTypedPart IsPart r.cert.flow.parts t.parts is.certificate.parts) (zipped IsTypedPart IsPart q.cert.flow.parts u.parts iq.certificate.parts) (some_shares r) (some_shares q)
    (at_shares r (codes "flow") refl refl) (at_shares q (codes "flow") refl refl) behind_unit in
    let shares = peel (codes "share") share_line (λ s. IsTypedShare s × IsShare s) (λ s o a b f. share_same s o a.0 b.0 a.1 b.1 f) (λ s. refl) r.shares q.shares from_end from_end
    (zipped IsTypedShare IsShare r.shares t.shares is.shares) (zipped IsTypedShare IsShare q.shares u.shares iq.shares) (omega arith) (omega arith)
    (skip_one (codes "share") end_line ended refl) (skip_one (codes "share") end_line ended refl) parts.rest in
    let mark = is.mark ∙ ap mark_of kind ∙ sym iq.mark in
    (λ i. record {
      version = v.same i;
      kind = kind i;
      names = names.same i;
      claims = record { exits = exits.same i; nevers = nevers.same i; regions = regions.same i; loops = loops.same i; facts = facts.same i };
      columns = columns.same i;
      cert = record { cycles = cycles i; mark = mark i; scale = scale i; potentials = potentials.same i; nevers = nevers.by i; loops = loops.by i; facts = facts.by i; flow = record { unit = unit i; parts = parts.same i } };
      shares = shares.same i;
    })

pub one_report : (r q : Report) → IsReport r → IsReport q → IsTyped r → IsTyped q → All AreSums r.claims.facts → All AreSums q.claims.facts → report_text r ≡ report_text q → r ≡ q
one_report r q is iq t u s z e =
    report_same r q is iq t u (sym (all_lines r) ∙ sym (lines_back (report_lines r) (lines_plain r is t s)) ∙ ap lines_of e ∙ lines_back (report_lines q) (lines_plain q iq u z) ∙ all_lines q)
