-- Lines that are the same are written of the same values.
use Rattle.std.proofs.Common.{◌≡◌, ℕ, ◌^◌, ◌<◌, ◌≤◌, ◌||◌, ◌==◌, ℤ, pos, Bool, true, false, List, [], ◌∷◌, ◌++◌, length, map, refl, sym, ap, subst, ◌∙◌, arith, codes, Option, Some, None, MatchOption, All}
use Rattle.std.proofs.lemmas.Bool.{false≢true}
use Rattle.std.proofs.lemmas.List.Elements.{All-head, All-tail}
use Rattle.std.specs.Fmt.{decimal, signed_decimal}
use Rattle.frac128.specs.Terms.{Terms}
use Rattle.wcc_base.specs.declared.compare.Compare.{Compare}
use Rattle.wcc_base.specs.declared.compare.Compare.TheVariants.{AtMost, AtLeast, Equal}
use Rattle.code_flow_system.specs.declared.claims.Never.{Never}
use Rattle.code_flow_system.specs.declared.claims.Within.{Within}
use Rattle.code_flow_system.specs.declared.claims.LoopClaim.{LoopClaim}
use Rattle.code_flow_system.specs.declared.claims.FactClaim.{FactClaim}
use Rattle.code_flow_system.specs.declared.cert.Part.{Part}
use Rattle.code_flow_system.specs.Certificates.{IsSmall, IsPart}
use Rattle.code_flow_answer.specs.declared.bounded.Kind.{Kind}
use Rattle.code_flow_answer.specs.declared.bounded.Kind.TheVariants.{Greatest, Empty, Wide, Spent}
use Rattle.code_flow_answer.specs.declared.bounded.Column.{Column}
use Rattle.report_words.specs.Words.{Word, Line, address_word, term_word, is_name}
use Rattle.report_words.specs.Numbers.{number_of, signed_of, address_of, term_number}
use Rattle.report_words.proofs.WordLemmas.{address_of-address_word}
use Rattle.report_text.specs.declared.entries.CopyLine.{CopyLine}
use Rattle.report_text.specs.declared.entries.Share.{Share}
use Rattle.report_text.specs.Forms.{IsTerm, IsFact, IsColumn, IsShare}
use Rattle.report_text.specs.Lines.{cycles_line, kind_line, copy_line, exit_line, never_line, letter, region_line, loop_line, sum_words, more_terms, compare_word, fact_line, column_line, scale_line, potential_line, unit_line, flow_line, share_name, share_line}
use Rattle.report_rules.specs.WordTests.{word_at}
use Rattle.report_rules.specs.FactRules.{left_words, right_words}
use Rattle.report_reading.specs.Sections.{later_words}
use Rattle.report_laws.specs.Typed.{IsWord, IsTypedKind, IsTypedNever, IsTypedWithin, IsTypedLoop, IsTypedFact, IsTypedPart, IsTypedShare}
use Rattle.report_lines.specs.Sums.{address_in}
use Rattle.report_laws.proofs.WordsBack.{number_back, signed_back}
use Rattle.report_laws.proofs.FactRows.{term_parts, fact_sides}

pub address_same : (a b : ℕ) → IsWord a → IsWord b → address_word a ≡ address_word b → a ≡ b
address_same a b p q e = sym (address_of-address_word a p) ∙ ap address_of e ∙ address_of-address_word b q

pub number_same : (n m : ℕ) → n < 2 ^ 64 → m < 2 ^ 64 → decimal n ≡ decimal m → n ≡ m
number_same n m p q e = sym (number_back n p) ∙ ap number_of e ∙ number_back m q

pub signed_same : (y z : ℤ) → IsSmall y → IsSmall z → signed_decimal y ≡ signed_decimal z → y ≡ z
signed_same y z p q e = sym (signed_back y p) ∙ ap signed_of e ∙ signed_back z q

-- the word at a place of equal lines
at : (i : ℕ) {k l : Line} → k ≡ l → word_at i k ≡ word_at i l
at i e = ap (λ l. word_at i l) e

pub exit_same : (a b : ℕ) → IsWord a → IsWord b → exit_line a ≡ exit_line b → a ≡ b
exit_same a b p q e = address_same a b p q (at 1 e)

pub never_same : (c d : Never) (m n : ℤ) → IsTypedNever c → IsTypedNever d → IsSmall m → IsSmall n → never_line c m ≡ never_line d n → (c ≡ d) × (m ≡ n)
never_same c d m n t u s v e = (
  (λ i. record { source = number_same c.source d.source (omega (arith, t.source)) (omega (arith, u.source)) (at 1 e) i; factor = number_same c.factor d.factor (omega (arith, t.factor)) (omega (arith, u.factor)) (at 2 e) i; at = address_same c.at d.at t.at u.at (at 3 e) i }),
  signed_same m n s v (at 4 e),
)

-- letters say which regions are named

abbrev has : ℕ → Word → Bool
has b [] = false
has b (x ∷ xs) = (x == b) || has b xs

flash_is : (f s r : Bool) → has 102 (letter f 102 ++ (letter s 115 ++ letter r 114)) ≡ f
flash_is true s r = refl
flash_is false true true = refl
flash_is false true false = refl
flash_is false false true = refl
flash_is false false false = refl

spm_is : (f s r : Bool) → has 115 (letter f 102 ++ (letter s 115 ++ letter r 114)) ≡ s
spm_is true true r = refl
spm_is true false true = refl
spm_is true false false = refl
spm_is false true r = refl
spm_is false false true = refl
spm_is false false false = refl

ram_is : (f s r : Bool) → has 114 (letter f 102 ++ (letter s 115 ++ letter r 114)) ≡ r
ram_is true true true = refl
ram_is true true false = refl
ram_is true false true = refl
ram_is true false false = refl
ram_is false true true = refl
ram_is false true false = refl
ram_is false false true = refl
ram_is false false false = refl

pub region_same : (v w : Within) → IsTypedWithin v → IsTypedWithin w → region_line v ≡ region_line w → v ≡ w
region_same v w t u e = (λ i. record {
  first = address_same v.first w.first t.first u.first (at 1 e) i;
  end = address_same v.end w.end t.end u.end (at 2 e) i;
  flash = (sym (flash_is v.flash v.spm v.ram) ∙ ap (has 102) (at 3 e) ∙ flash_is w.flash w.spm w.ram) i;
  spm = (sym (spm_is v.flash v.spm v.ram) ∙ ap (has 115) (at 3 e) ∙ spm_is w.flash w.spm w.ram) i;
  ram = (sym (ram_is v.flash v.spm v.ram) ∙ ap (has 114) (at 3 e) ∙ ram_is w.flash w.spm w.ram) i;
})

pub loop_same : (c d : LoopClaim) (m n : ℤ × ℤ) → IsTypedLoop c → IsTypedLoop d → IsSmall m.0 × IsSmall m.1 → IsSmall n.0 × IsSmall n.1 → loop_line c m ≡ loop_line d n → (c ≡ d) × (m ≡ n)
loop_same c d m n t u s v e = (
  (λ i. record {
    source = number_same c.source d.source (omega (arith, t.source)) (omega (arith, u.source)) (at 1 e) i;
    factor = number_same c.factor d.factor (omega (arith, t.factor)) (omega (arith, u.factor)) (at 2 e) i;
    min = number_same c.min d.min (omega (arith, t.min)) (omega (arith, u.min)) (at 3 e) i;
    max = number_same c.max d.max (omega (arith, t.max)) (omega (arith, u.max)) (at 4 e) i;
    header = address_same c.header d.header t.header u.header (at 5 e) i;
    back = address_same c.back d.back t.back u.back (at 6 e) i;
  }),
  (λ i. (signed_same m.0 n.0 s.0 v.0 (at 7 e) i, signed_same m.1 n.1 s.1 v.1 (at 8 e) i)),
)

pub potential_same : (p q : ℕ × ℤ) → IsWord p.0 → IsWord q.0 → IsSmall p.1 → IsSmall q.1 → potential_line p ≡ potential_line q → p ≡ q
potential_same p q t u s v e = (λ i. (address_same p.0 q.0 t u (at 1 e) i, signed_same p.1 q.1 s v (at 2 e) i))

pub flow_same : (p q : Part) → IsTypedPart p → IsTypedPart q → IsPart p → IsPart q → flow_line p ≡ flow_line q → p ≡ q
flow_same p q t u s v e = (λ i. record { at = address_same p.at q.at t.at u.at (at 1 e) i; number = number_same p.number q.number (omega (arith, t.number)) (omega (arith, u.number)) (at 2 e) i; part = signed_same p.part q.part s.small v.small (at 3 e) i })

-- a name is no `-`
label_same : (a b : Option Word) → MatchOption a (Unit {0}) (λ n. is_name n ≡ true) → MatchOption b (Unit {0}) (λ n. is_name n ≡ true) → share_name a ≡ share_name b → a ≡ b
label_same None None p q e = refl
label_same None (Some n) p q e = absurd (false≢true (subst (λ w. is_name w ≡ true) (sym e) q))
label_same (Some n) None p q e = absurd (false≢true (subst (λ w. is_name w ≡ true) e p))
label_same (Some n) (Some m) p q e = ap Some e

pub share_same : (s t : Share) → IsTypedShare s → IsTypedShare t → IsShare s → IsShare t → share_line s ≡ share_line t → s ≡ t
share_same s t a b p q e = (λ i. record { name = label_same s.name t.name p.name q.name (at 1 e) i; first = address_same s.first t.first a.first b.first (at 2 e) i; end = address_same s.end t.end a.end b.end (at 3 e) i; part = signed_same s.part t.part p.small q.small (at 4 e) i })

-- lists of words

no_words : {A : Type 0} (w : Word) (ws : List Word) → [] ≡ w ∷ ws → A
no_words w ws e = absurd (let l = ap length e in omega (arith, l))

places_same : (xs ys : List ℕ) → All IsWord xs → All IsWord ys → map address_word xs ≡ map address_word ys → xs ≡ ys
places_same [] [] p q e = refl
places_same [] (y ∷ ys) p q e = no_words (address_word y) (map address_word ys) e
places_same (x ∷ xs) [] p q e = no_words (address_word x) (map address_word xs) (sym e)
places_same (x ∷ xs) (y ∷ ys) p q e = (λ i. address_same x y (All-head IsWord x xs p) (All-head IsWord y ys q) (at 0 e) i ∷ places_same xs ys (All-tail IsWord x xs p) (All-tail IsWord y ys q) (ap later_words e) i)

pub copy_same : (c d : CopyLine) → All IsWord c.places → All IsWord d.places → copy_line c ≡ copy_line d → c ≡ d
copy_same c d p q e = (λ i. record { name = at 1 e i; places = places_same c.places d.places p q (ap (λ l. later_words (later_words l)) e) i })

totals_same : (xs ys : List ℤ) → All IsSmall xs → All IsSmall ys → map signed_decimal xs ≡ map signed_decimal ys → xs ≡ ys
totals_same [] [] p q e = refl
totals_same [] (y ∷ ys) p q e = no_words (signed_decimal y) (map signed_decimal ys) e
totals_same (x ∷ xs) [] p q e = no_words (signed_decimal x) (map signed_decimal xs) (sym e)
totals_same (x ∷ xs) (y ∷ ys) p q e = (λ i. signed_same x y (All-head IsSmall x xs p) (All-head IsSmall y ys q) (at 0 e) i ∷ totals_same xs ys (All-tail IsSmall x xs p) (All-tail IsSmall y ys q) (ap later_words e) i)

pub column_same : (facts more : ℕ) (c d : Column) → IsColumn facts c → IsColumn more d → column_line c ≡ column_line d → c ≡ d
column_same facts more c d p q e = (λ i. record { value = signed_same c.value d.value p.value q.value (at 1 e) i; totals = totals_same c.totals d.totals p.small q.small (ap (λ l. later_words (later_words l)) e) i })

pub cycles_same : (n m : ℕ) → n < 2 ^ 63 → m < 2 ^ 63 → cycles_line n ≡ cycles_line m → n ≡ m
cycles_same n m p q e = number_same n m (omega (arith, p)) (omega (arith, q)) (at 1 e)

pub scale_same : (n m : ℕ) → n ≤ 2 ^ 48 → m ≤ 2 ^ 48 → scale_line n ≡ scale_line m → n ≡ m
scale_same n m p q e = number_same n m (omega (arith, p)) (omega (arith, q)) (at 1 e)

pub unit_same : (n m : ℕ) → n ≤ 2 ^ 48 → m ≤ 2 ^ 48 → unit_line n ≡ unit_line m → n ≡ m
unit_same n m p q e = number_same n m (omega (arith, p)) (omega (arith, q)) (at 1 e)

-- as many letters

unlike : {A : Type 0} (v w : Word) → (length v ≡ length w → ⊥) → v ≡ w → A
unlike v w other e = absurd (other (ap length e))

pub kind_same : (j k : Kind) → IsTypedKind j → IsTypedKind k → kind_line j ≡ kind_line k → j ≡ k
kind_same Greatest Greatest t u e = refl
kind_same Greatest Empty t u e = unlike (codes "greatest") (codes "empty") (λ f. omega (arith, f)) (at 1 e)
kind_same Greatest (Wide p) t u e = unlike (codes "greatest") (codes "wide") (λ f. omega (arith, f)) (at 1 e)
kind_same Greatest (Spent c p) t u e = unlike (codes "greatest") (codes "spent") (λ f. omega (arith, f)) (at 1 e)
kind_same Empty Greatest t u e = unlike (codes "empty") (codes "greatest") (λ f. omega (arith, f)) (at 1 e)
kind_same Empty Empty t u e = refl
kind_same Empty (Wide p) t u e = unlike (codes "empty") (codes "wide") (λ f. omega (arith, f)) (at 1 e)
kind_same Empty (Spent c p) t u e = absurd (let l = ap length e in omega (arith, l))
kind_same (Wide p) Greatest t u e = unlike (codes "wide") (codes "greatest") (λ f. omega (arith, f)) (at 1 e)
kind_same (Wide p) Empty t u e = unlike (codes "wide") (codes "empty") (λ f. omega (arith, f)) (at 1 e)
kind_same (Wide p) (Wide q) t u e = ap Wide (number_same p q (omega (arith, t)) (omega (arith, u)) (at 2 e))
kind_same (Wide p) (Spent c q) t u e = unlike (codes "wide") (codes "spent") (λ f. omega (arith, f)) (at 1 e)
kind_same (Spent c p) Greatest t u e = unlike (codes "spent") (codes "greatest") (λ f. omega (arith, f)) (at 1 e)
kind_same (Spent c p) Empty t u e = absurd (let l = ap length e in omega (arith, l))
kind_same (Spent c p) (Wide q) t u e = unlike (codes "spent") (codes "wide") (λ f. omega (arith, f)) (at 1 e)
kind_same (Spent c p) (Spent d q) t u e = (λ i. Spent (number_same c d (omega (arith, t.0)) (omega (arith, u.0)) (at 2 e) i) (number_same p q (omega (arith, t.1)) (omega (arith, u.1)) (at 3 e) i))

-- sums

term_same : (t u : ℕ × ℤ) → IsTerm t → IsTerm u → IsWord t.0 → IsWord u.0 → term_word t ≡ term_word u → t ≡ u
term_same t u p q v w e =
    let one = term_parts t p v in
    let two = term_parts u q w in
    (λ i. ((sym one.at ∙ ap address_in e ∙ two.at) i, (sym one.number ∙ ap (λ w. pos (number_of (term_number w))) e ∙ two.number) i))

more_same : (ts us : Terms) → All IsTerm ts → All IsTerm us → All (λ t. IsWord t.0) ts → All (λ t. IsWord t.0) us → more_terms ts ≡ more_terms us → ts ≡ us
more_same [] [] p q v w e = refl
more_same [] (u ∷ us) p q v w e = no_words (codes "+") (term_word u ∷ more_terms us) e
more_same (t ∷ ts) [] p q v w e = no_words (codes "+") (term_word t ∷ more_terms ts) (sym e)
more_same (t ∷ ts) (u ∷ us) p q v w e =
    (λ i. term_same t u (All-head IsTerm t ts p) (All-head IsTerm u us q) (All-head (λ t. IsWord t.0) t ts v) (All-head (λ t. IsWord t.0) u us w) (at 1 e) i
    ∷ more_same ts us (All-tail IsTerm t ts p) (All-tail IsTerm u us q) (All-tail (λ t. IsWord t.0) t ts v) (All-tail (λ t. IsWord t.0) u us w) (ap (λ l. later_words (later_words l)) e) i)

sums_same : (ts us : Terms) → All IsTerm ts → All IsTerm us → All (λ t. IsWord t.0) ts → All (λ t. IsWord t.0) us → sum_words ts ≡ sum_words us → ts ≡ us
sums_same [] [] p q v w e = refl
sums_same [] (u ∷ us) p q v w e = absurd (let l = ap length (at 0 e) in let parts = term_parts u (All-head IsTerm u us q) (All-head (λ t. IsWord t.0) u us w) in omega (arith, l, parts.long))
sums_same (t ∷ ts) [] p q v w e = absurd (let l = ap length (at 0 e) in let parts = term_parts t (All-head IsTerm t ts p) (All-head (λ t. IsWord t.0) t ts v) in omega (arith, l, parts.long))
sums_same (t ∷ ts) (u ∷ us) p q v w e =
    (λ i. term_same t u (All-head IsTerm t ts p) (All-head IsTerm u us q) (All-head (λ t. IsWord t.0) t ts v) (All-head (λ t. IsWord t.0) u us w) (at 0 e) i
    ∷ more_same ts us (All-tail IsTerm t ts p) (All-tail IsTerm u us q) (All-tail (λ t. IsWord t.0) t ts v) (All-tail (λ t. IsWord t.0) u us w) (ap later_words e) i)

abbrev first_byte : Word → ℕ
first_byte [] = 0
first_byte (b ∷ bs) = b

compare_same : (a b : Compare) → compare_word a ≡ compare_word b → a ≡ b
compare_same AtMost AtMost e = refl
compare_same AtMost AtLeast e = absurd (let f = ap first_byte e in omega (arith, f))
compare_same AtMost Equal e = absurd (let f = ap first_byte e in omega (arith, f))
compare_same AtLeast AtMost e = absurd (let f = ap first_byte e in omega (arith, f))
compare_same AtLeast AtLeast e = refl
compare_same AtLeast Equal e = absurd (let f = ap first_byte e in omega (arith, f))
compare_same Equal AtMost e = absurd (let f = ap first_byte e in omega (arith, f))
compare_same Equal AtLeast e = absurd (let f = ap first_byte e in omega (arith, f))
compare_same Equal Equal e = refl

without : (ws vs us : List Word) → ws ++ vs ≡ ws ++ us → vs ≡ us
without [] vs us e = e
without (w ∷ ws) vs us e = without ws vs us (ap later_words e)

pub fact_same : (c d : FactClaim) (m n : ℤ) → IsFact c → IsFact d → IsTypedFact c → IsTypedFact d → IsSmall m → IsSmall n → fact_line c m ≡ fact_line d n → (c ≡ d) × (m ≡ n)
fact_same c d m n p q t u s v e =
    let one = fact_sides c p in
    let two = fact_sides d q in
    let words = ap (λ l. later_words (later_words l)) e in
    let left = sums_same c.left d.left p.left q.left t.left u.left (sym one.left ∙ ap left_words words ∙ two.left) in
    let right = sums_same c.right d.right p.right q.right t.right u.right (sym one.right ∙ ap right_words words ∙ two.right) in
    let op = compare_same c.op d.op (at 0 (without (sum_words c.left) (compare_word c.op ∷ sum_words c.right) (compare_word d.op ∷ sum_words d.right) (words ∙ ap (λ ts. sum_words ts ++ compare_word d.op ∷ sum_words d.right) (sym left)))) in
    ((λ i. record { left = left i; op = op i; right = right i }), signed_same m n s v (at 1 e))
