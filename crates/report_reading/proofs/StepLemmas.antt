-- One more line of each section.
use Rattle.std.proofs.Common.{◌≡◌, ℕ, suc, ◌+◌, ◌<◌, ◌≤◌, ◌==◌, ◌&&◌, ◌||◌, ◌⊎◌, inl, inr, ⊎_elim, ℤ, List, [], ◌∷◌, ◌++◌, length, map, Bool, true, false, refl, sym, ap, subst, ◌∙◌, arith, nat_le, nat_lt, codes, if◌then◌else◌, All}
use Rattle.std.proofs.lemmas.Bool.{false≢true}
use Rattle.std.proofs.lemmas.List.{length-append}
use Rattle.std.proofs.lemmas.List.Elements.{All-push}
use borrow.Author.Tests.{leb-true, leb-false, ltb-true, eqb-true}
use Rattle.code_flow_system.specs.declared.claims.Never.{Never}
use Rattle.code_flow_system.specs.declared.claims.Within.{Within}
use Rattle.code_flow_system.specs.declared.claims.LoopClaim.{LoopClaim}
use Rattle.code_flow_system.specs.declared.claims.FactClaim.{FactClaim}
use Rattle.code_flow_system.specs.declared.cert.Part.{Part}
use Rattle.code_flow_system.specs.Certificates.{IsSmall, IsPart}
use Rattle.report_words.specs.Words.{Word}
use Rattle.report_words.specs.Numbers.{number_of}
use Rattle.report_words.specs.Shapes.{fit}
use Rattle.report_text.specs.declared.entries.Share.{Share}
use Rattle.report_text.specs.declared.entries.CopyLine.{CopyLine}
use Rattle.code_flow_answer.specs.declared.bounded.Column.{Column}
use Rattle.report_text.specs.Forms.{AreApart, NamesOne, IsFact, IsCopyLine, IsColumn, IsShare}
use Rattle.report_text.specs.Lines.{copy_line, column_line, exit_line, never_line, region_line, loop_line, fact_line, paired, potential_line, flow_line, share_line}
use Rattle.report_lines.specs.LineShapes.{exit_shapes, never_shapes, region_shapes, loop_shapes, potential_shapes, flow_shapes, share_shapes}
use Rattle.report_rules.specs.Rules.{IsLine, IsLineAnywhere}
use Rattle.report_rules.specs.WordTests.{word_at, place_at}
use Rattle.report_rules.specs.ClaimRules.{exit_rule, never_rule, Reach, is_hollow, region_rule, loop_rule}
use Rattle.report_rules.specs.Heads.{copy_rule, column_rule}
use Rattle.report_rules.specs.FactRules.{fact_rule}
use Rattle.report_rules.specs.CertRules.{potential_rule, LeastMove, flow_rule, share_rule}
use Rattle.report_reading.specs.Orders.{IsOrdered}
use Rattle.report_reading.specs.Reading.{At, IsNext, IsPassing}
use Rattle.report_reading.proofs.PassLemmas.{next_passes, next_pair_passes}
use Rattle.report_reading.proofs.OrderLemmas.{ordered_more}

and_first : (a b : Bool) → (a && b) ≡ true → a ≡ true
and_first true b e = refl
and_first false b e = e

and_second : (a b : Bool) → (a && b) ≡ true → b ≡ true
and_second true b e = e
and_second false b e = absurd (false≢true e)

-- lines that ascend by a number

climbs : {X : Type 0} → (f : X → ℕ) (xs ys : List X) (x : X) (least next : ℕ) → IsOrdered (λ a b. f a < f b) (λ a. f a < least) xs → least ≤ f x → next ≡ f x + 1 → ys ≡ xs ++ x ∷ [] → IsOrdered (λ a b. f a < f b) (λ a. f a < next) ys
climbs f xs ys x least next o le is more =
    subst (IsOrdered (λ a b. f a < f b) (λ a. f a < next)) (sym more)
    (ordered_more (λ a b. f a < f b) (λ a. f a < least) (λ a. f a < next) xs x o (λ v lt. omega (arith, lt, le)) (λ v lt. omega (arith, lt, le, is)) (omega (arith, is)))

at_least : (b : Bool) (least p q : ℕ) → q ≡ p → (b && nat_le least p) ≡ true → least ≤ q
at_least b least p q is e = let le = leb-true least p (and_second b (nat_le least p) e) in omega (arith, le, is)

-- a list with one more is as long as another with one more
as_long : {X Y : Type 0} → (xs xs2 : List X) (ys ys2 : List Y) (x : X) (y : Y) → length xs ≡ length ys → xs2 ≡ xs ++ x ∷ [] → ys2 ≡ ys ++ y ∷ [] → length xs2 ≡ length ys2
as_long xs xs2 ys ys2 x y e p q = omega (arith, e, ap length p, ap length q, length-append xs (x ∷ []), length-append ys (y ∷ []))

pub pushed : {X : Type 0} → (P : X → Type 0) (xs ys : List X) (x : X) → All P xs → P x → ys ≡ xs ++ x ∷ [] → All P ys
pushed P xs ys x all p more = subst (All P) (sym more) (All-push P xs x all p)

pub exits_step : (from at after : At) (least next : ℕ) (xs ys : List ℕ) (x : ℕ) (ws vs : List Word)
    → IsPassing exit_rule 0 from least at (map exit_line xs) × IsOrdered (λ a b. a < b) (λ a. a < least) xs
    → IsNext (codes "exit") at ws after → vs ≡ ws → IsLine exit_rule least vs (exit_line x) → x ≡ place_at 0 vs → next ≡ x + 1 → ys ≡ xs ++ x ∷ []
    → IsPassing exit_rule 0 from next after (map exit_line ys) × IsOrdered (λ a b. a < b) (λ a. a < next) ys
exits_step from at after least next xs ys x ws vs i n e is place is_next more = (
  next_passes exit_rule exit_line 0 from least next at after xs ys x ws vs i.0 n e is (omega (arith, place, is_next)) more,
  climbs (λ a. a) xs ys x least next i.1 (at_least (fit exit_shapes vs) least (place_at 0 vs) x place is.stands.stands) is_next more,
)

pub nevers_step : (from at after : At) (least next : ℕ) (xs xs2 : List Never) (ms ms2 : List ℤ) (x : Never) (m : ℤ) (ws vs : List Word)
    → IsPassing never_rule 0 from least at (paired never_line xs ms) × (length xs ≡ length ms) × IsOrdered (λ a b. a.at < b.at) (λ a. a.at < least) xs × All IsSmall ms
    → IsNext (codes "never") at ws after → vs ≡ ws → IsLine never_rule least vs (never_line x m) → x.at ≡ place_at 2 vs → IsSmall m → next ≡ x.at + 1 → xs2 ≡ xs ++ x ∷ [] → ms2 ≡ ms ++ m ∷ []
    → IsPassing never_rule 0 from next after (paired never_line xs2 ms2) × (length xs2 ≡ length ms2) × IsOrdered (λ a b. a.at < b.at) (λ a. a.at < next) xs2 × All IsSmall ms2
nevers_step from at after least next xs xs2 ms ms2 x m ws vs i n e is place small is_next more more2 = (
  next_pair_passes never_rule never_line 0 from least next at after xs xs2 ms ms2 x m ws vs i.1 i.0 n e is (omega (arith, place, is_next)) more more2,
  as_long xs xs2 ms ms2 x m i.1 more more2,
  climbs (λ a. a.at) xs xs2 x least next i.2 (at_least (fit never_shapes vs) least (place_at 2 vs) x.at place is.stands.stands) is_next more,
  pushed IsSmall ms ms2 m i.3 small more2,
)

pub loops_step : (from at after : At) (least next : ℕ) (xs xs2 : List LoopClaim) (ms ms2 : List (ℤ × ℤ)) (x : LoopClaim) (m : ℤ × ℤ) (ws vs : List Word)
    → IsPassing loop_rule 0 from least at (paired loop_line xs ms) × (length xs ≡ length ms) × IsOrdered (λ a b. a.header < b.header) (λ a. a.header < least) xs × All (λ w. IsSmall w.0 × IsSmall w.1) ms
    → IsNext (codes "loop") at ws after → vs ≡ ws → IsLine loop_rule least vs (loop_line x m) → x.header ≡ place_at 4 vs → IsSmall m.0 × IsSmall m.1 → next ≡ x.header + 1 → xs2 ≡ xs ++ x ∷ [] → ms2 ≡ ms ++ m ∷ []
    → IsPassing loop_rule 0 from next after (paired loop_line xs2 ms2) × (length xs2 ≡ length ms2) × IsOrdered (λ a b. a.header < b.header) (λ a. a.header < next) xs2 × All (λ w. IsSmall w.0 × IsSmall w.1) ms2
loops_step from at after least next xs xs2 ms ms2 x m ws vs i n e is place small is_next more more2 = (
  next_pair_passes loop_rule loop_line 0 from least next at after xs xs2 ms ms2 x m ws vs i.1 i.0 n e is (omega (arith, place, is_next)) more more2,
  as_long xs xs2 ms ms2 x m i.1 more more2,
  climbs (λ a. a.header) xs xs2 x least next i.2 (at_least (fit loop_shapes vs) least (place_at 4 vs) x.header place is.stands.stands) is_next more,
  pushed (λ w. IsSmall w.0 × IsSmall w.1) ms ms2 m i.3 small more2,
)

pub potentials_step : (from at after : At) (least next : ℕ) (xs ys : List (ℕ × ℤ)) (x : ℕ × ℤ) (ws vs : List Word)
    → IsPassing potential_rule 0 from least at (map potential_line xs) × IsOrdered (λ t u. t.0 < u.0) (λ t. t.0 < least) xs × All (λ t. IsSmall t.1) xs
    → IsNext (codes "potential") at ws after → vs ≡ ws → IsLine potential_rule least vs (potential_line x) → x.0 ≡ place_at 0 vs → IsSmall x.1 → next ≡ x.0 + 1 → ys ≡ xs ++ x ∷ []
    → IsPassing potential_rule 0 from next after (map potential_line ys) × IsOrdered (λ t u. t.0 < u.0) (λ t. t.0 < next) ys × All (λ t. IsSmall t.1) ys
potentials_step from at after least next xs ys x ws vs i n e is place small is_next more = (
  next_passes potential_rule potential_line 0 from least next at after xs ys x ws vs i.0 n e is (omega (arith, place, is_next)) more,
  climbs (λ t. t.0) xs ys x least next i.1 (at_least (fit potential_shapes vs) least (place_at 0 vs) x.0 place is.stands.stands) is_next more,
  pushed (λ t. IsSmall t.1) xs ys x i.2 small more,
)

-- regions: those that have an address share none

hollow_cases : (a b c : Bool) → (a || b) ≡ true → a ≡ false → b ≡ true
hollow_cases true b c e f = absurd (false≢true (sym f))
hollow_cases false b c e f = e

apart_behind : (end : ℕ) (v w : Within) → (v.first < v.end → v.end ≤ end) → (w.first < w.end → end ≤ w.first) → AreApart v w
apart_behind end v w reach behind = λ a in_v in_w.
    let one = leb-true v.first a (and_first (nat_le v.first a) (nat_lt a v.end) in_v) in
    let two = ltb-true a v.end (and_second (nat_le v.first a) (nat_lt a v.end) in_v) in
    let three = leb-true w.first a (and_first (nat_le w.first a) (nat_lt a w.end) in_w) in
    let four = ltb-true a w.end (and_second (nat_le w.first a) (nat_lt a w.end) in_w) in
    let five = reach (omega (arith, one, two)) in
    let six = behind (omega (arith, three, four)) in
    omega (arith, two, three, five, six)

end_cases : (t : Bool) (old end : ℕ) (next : ℕ) → next ≡ (if t then old else end) → (t ≡ true → next ≡ old) × (t ≡ false → next ≡ end)
end_cases true old end next e = ((λ _. e), (λ f. absurd (false≢true (sym f))))
end_cases false old end next e = ((λ f. absurd (false≢true f)), (λ _. e))

pub regions_step : (from at after : At) (r s : Reach) (xs ys : List Within) (x : Within) (ws vs : List Word)
    → IsPassing region_rule (record { least = 0; end = 0 }) from r at (map region_line xs) × IsOrdered (λ v w. v.first < w.first) (λ v. v.first < r.least) xs × IsOrdered AreApart (λ v. v.first < v.end → v.end ≤ r.end) xs × All NamesOne xs
    → IsNext (codes "region") at ws after → vs ≡ ws → IsLine region_rule r vs (region_line x) → (x.first ≡ place_at 0 vs) × (x.end ≡ place_at 1 vs) → NamesOne x → s.least ≡ x.first + 1 → s.end ≡ (if nat_le x.end x.first then r.end else x.end) → ys ≡ xs ++ x ∷ []
    → IsPassing region_rule (record { least = 0; end = 0 }) from s after (map region_line ys) × IsOrdered (λ v w. v.first < w.first) (λ v. v.first < s.least) ys × IsOrdered AreApart (λ v. v.first < v.end → v.end ≤ s.end) ys × All NamesOne ys
regions_step from at after r s xs ys x ws vs i n e is place named is_least is_end more = (
  next_passes region_rule region_line (record { least = 0; end = 0 }) from r s at after xs ys x ws vs i.0 n e is same more,
  climbs (λ w. w.first) xs ys x r.least s.least i.1 above is_least more,
  subst (IsOrdered AreApart (λ v. v.first < v.end → v.end ≤ s.end)) (sym more)
      (ordered_more AreApart (λ v. v.first < v.end → v.end ≤ r.end) (λ v. v.first < v.end → v.end ≤ s.end) xs x i.2 (λ v reach. apart_behind r.end v x reach behind) (λ v reach filled. let le = reach filled in omega (arith, le, further)) reaches),
  pushed NamesOne xs ys x i.3 named more,
)
  where
    order : (nat_le r.least (place_at 0 vs) && (is_hollow vs || nat_le r.end (place_at 0 vs))) ≡ true
    order = and_second (fit region_shapes vs) (nat_le r.least (place_at 0 vs) && (is_hollow vs || nat_le r.end (place_at 0 vs))) is.stands.stands

    above : r.least ≤ x.first
    above = let le = leb-true r.least (place_at 0 vs) (and_first (nat_le r.least (place_at 0 vs)) (is_hollow vs || nat_le r.end (place_at 0 vs)) order) in let at = place.0 in omega (arith, le, at)

    hollow_same : is_hollow vs ≡ nat_le x.end x.first
    hollow_same = (λ j. nat_le (sym place.1 j) (sym place.0 j))

    cases : (nat_le x.end x.first || nat_le r.end (place_at 0 vs)) ≡ true
    cases = ap (λ b. b || nat_le r.end (place_at 0 vs)) (sym hollow_same) ∙ and_second (nat_le r.least (place_at 0 vs)) (is_hollow vs || nat_le r.end (place_at 0 vs)) order

    hollow_by : (t : Bool) → nat_le x.end x.first ≡ t → x.first < x.end → t ≡ false
    hollow_by true h lt = absurd (let le = leb-true x.end x.first h in omega (arith, le, lt))
    hollow_by false h lt = refl

    filled_not : x.first < x.end → nat_le x.end x.first ≡ false
    filled_not lt = hollow_by (nat_le x.end x.first) refl lt

    behind : x.first < x.end → r.end ≤ x.first
    behind lt = let le = leb-true r.end (place_at 0 vs) (hollow_cases (nat_le x.end x.first) (nat_le r.end (place_at 0 vs)) true cases (filled_not lt)) in let at = place.0 in omega (arith, le, at)

    ends : (nat_le x.end x.first ≡ true → s.end ≡ r.end) × (nat_le x.end x.first ≡ false → s.end ≡ x.end)
    ends = end_cases (nat_le x.end x.first) r.end x.end s.end is_end

    further_by : (t : Bool) → nat_le x.end x.first ≡ t → r.end ≤ s.end
    further_by true h = let same = ends.0 h in omega (arith, same)
    further_by false h =
        let same = ends.1 h in
        let lt = leb-false x.end x.first h in
        let le = behind (omega (arith, lt)) in omega (arith, same, lt, le)

    further : r.end ≤ s.end
    further = further_by (nat_le x.end x.first) refl

    reaches : x.first < x.end → x.end ≤ s.end
    reaches lt = let same = ends.1 (filled_not lt) in omega (arith, same)

    same : s ≡ region_rule.next r vs
    same = (λ j. record { least = least_same j; end = end_same j })
      where
        least_same : s.least ≡ suc (place_at 0 vs)
        least_same = let at = place.0 in omega (arith, is_least, at)

        end_same : s.end ≡ (if is_hollow vs then r.end else place_at 1 vs)
        end_same = is_end ∙ (λ j. if sym hollow_same j then r.end else place.1 j)

pub facts_step : (from at after : At) (xs xs2 : List FactClaim) (ms ms2 : List ℤ) (x : FactClaim) (m : ℤ) (ws vs : List Word)
    → IsPassing fact_rule 0 from (length xs) at (paired fact_line xs ms) × (length xs ≡ length ms) × All IsFact xs × All IsSmall ms
    → IsNext (codes "fact") at ws after → vs ≡ ws → IsLineAnywhere fact_rule vs (fact_line x m) → IsFact x × IsSmall m → xs2 ≡ xs ++ x ∷ [] → ms2 ≡ ms ++ m ∷ []
    → IsPassing fact_rule 0 from (length xs2) after (paired fact_line xs2 ms2) × (length xs2 ≡ length ms2) × All IsFact xs2 × All IsSmall ms2
facts_step from at after xs xs2 ms ms2 x m ws vs i n e is form more more2 = (
  next_pair_passes fact_rule fact_line 0 from (length xs) (length xs2) at after xs xs2 ms ms2 x m ws vs i.1 i.0 n e (is.each (length xs)) (omega (arith, ap length more, length-append xs (x ∷ []))) more more2,
  as_long xs xs2 ms ms2 x m i.1 more more2,
  pushed IsFact xs xs2 x i.2 form.0 more,
  pushed IsSmall ms ms2 m i.3 form.1 more2,
)

pub names_step : (from at after : At) (xs ys : List CopyLine) (x : CopyLine) (ws vs : List Word)
    → IsPassing copy_rule tt from tt at (map copy_line xs) × All IsCopyLine xs
    → IsNext (codes "copy") at ws after → vs ≡ ws → IsLine copy_rule tt vs (copy_line x) → IsCopyLine x → ys ≡ xs ++ x ∷ []
    → IsPassing copy_rule tt from tt after (map copy_line ys) × All IsCopyLine ys
names_step from at after xs ys x ws vs i n e is form more =
    (next_passes copy_rule copy_line tt from tt tt at after xs ys x ws vs i.0 n e is refl more, pushed IsCopyLine xs ys x i.1 form more)

pub columns_step : (facts : ℕ) (from at after : At) (xs ys : List Column) (x : Column) (ws vs : List Word)
    → IsPassing column_rule facts from facts at (map column_line xs) × All (IsColumn facts) xs
    → IsNext (codes "column") at ws after → vs ≡ ws → IsLine column_rule facts vs (column_line x) → IsColumn facts x → ys ≡ xs ++ x ∷ []
    → IsPassing column_rule facts from facts after (map column_line ys) × All (IsColumn facts) ys
columns_step facts from at after xs ys x ws vs i n e is form more =
    (next_passes column_rule column_line facts from facts facts at after xs ys x ws vs i.0 n e is refl more, pushed (IsColumn facts) xs ys x i.1 form more)

-- listed moves ascend by address, then by number

abbrev Before : ℕ → ℕ → Part → Type 0
Before at number p = (p.at < at) ⊎ ((p.at ≡ at) × (p.number < number))

or_cases : (t u : Bool) → (t || u) ≡ true → (t ≡ true) ⊎ (u ≡ true)
or_cases true u e = inl refl
or_cases false u e = inr e

before_more : (at number : ℕ) (p q : Part) → (at < q.at) ⊎ ((at ≡ q.at) × (number ≤ q.number)) → Before at number p → (p.at < q.at) ⊎ ((p.at ≡ q.at) × (p.number < q.number))
before_more at number p q order before =
    ⊎_elim
    (λ lt. ⊎_elim (λ far. inl (omega (arith, lt, far))) (λ same. inl (let e = same.0 in omega (arith, lt, e))) order)
    (λ same. ⊎_elim (λ far. inl (let e = same.0 in omega (arith, e, far))) (λ here. inr (same.0 ∙ here.0, (let a = same.1 in let b = here.1 in omega (arith, a, b)))) order)
    before

before_last : (p q : Part) (next : ℕ) → next ≡ q.number + 1 → (p.at < q.at) ⊎ ((p.at ≡ q.at) × (p.number < q.number)) → Before q.at next p
before_last p q next is before = ⊎_elim (λ lt. inl lt) (λ same. inr (same.0, (let lt = same.1 in omega (arith, lt, is)))) before

pub parts_step : (from at after : At) (l m : LeastMove) (xs ys : List Part) (x : Part) (ws vs : List Word)
    → IsPassing flow_rule (record { at = 0; number = 0 }) from l at (map flow_line xs) × IsOrdered (λ p q. (p.at < q.at) ⊎ ((p.at ≡ q.at) × (p.number < q.number))) (λ p. (p.at < l.at) ⊎ ((p.at ≡ l.at) × (p.number < l.number))) xs × All IsPart xs
    → IsNext (codes "flow") at ws after → vs ≡ ws → IsLine flow_rule l vs (flow_line x) → (x.at ≡ place_at 0 vs) × (x.number ≡ number_of (word_at 1 vs)) → IsPart x → m.at ≡ x.at → m.number ≡ x.number + 1 → ys ≡ xs ++ x ∷ []
    → IsPassing flow_rule (record { at = 0; number = 0 }) from m after (map flow_line ys) × IsOrdered (λ p q. (p.at < q.at) ⊎ ((p.at ≡ q.at) × (p.number < q.number))) (λ p. (p.at < m.at) ⊎ ((p.at ≡ m.at) × (p.number < m.number))) ys × All IsPart ys
parts_step from at after l m xs ys x ws vs i n e is place part at_is number_is more = (
  next_passes flow_rule flow_line (record { at = 0; number = 0 }) from l m at after xs ys x ws vs i.0 n e is same more,
  subst (IsOrdered (λ p q. (p.at < q.at) ⊎ ((p.at ≡ q.at) × (p.number < q.number))) (λ p. Before m.at m.number p)) (sym more)
      (ordered_more (λ p q. (p.at < q.at) ⊎ ((p.at ≡ q.at) × (p.number < q.number))) (λ p. Before l.at l.number p) (λ p. Before m.at m.number p) xs x i.1
      (λ v before. before_more l.at l.number v x order before)
      (λ v before. at_m v (before_last v x m.number number_is (before_more l.at l.number v x order before)))
      (inr (sym at_is, omega (arith, number_is)))),
  pushed IsPart xs ys x i.2 part more,
)
  where
    at_m : (v : Part) → Before x.at m.number v → Before m.at m.number v
    at_m v before = subst (λ a. Before a m.number v) (sym at_is) before

    tests : (nat_lt l.at (place_at 0 vs) || ((l.at == place_at 0 vs) && nat_le l.number (number_of (word_at 1 vs)))) ≡ true
    tests = and_second (fit flow_shapes vs) (nat_lt l.at (place_at 0 vs) || ((l.at == place_at 0 vs) && nat_le l.number (number_of (word_at 1 vs)))) is.stands.stands

    order : (l.at < x.at) ⊎ ((l.at ≡ x.at) × (l.number ≤ x.number))
    order = ⊎_elim
        (λ t. inl (let lt = ltb-true l.at (place_at 0 vs) t in let a = place.0 in omega (arith, lt, a)))
        (λ t. inr (
          eqb-true l.at (place_at 0 vs) (and_first (l.at == place_at 0 vs) (nat_le l.number (number_of (word_at 1 vs))) t) ∙ sym place.0,
          (let le = leb-true l.number (number_of (word_at 1 vs)) (and_second (l.at == place_at 0 vs) (nat_le l.number (number_of (word_at 1 vs))) t) in let b = place.1 in omega (arith, le, b)),
        ))
        (or_cases (nat_lt l.at (place_at 0 vs)) ((l.at == place_at 0 vs) && nat_le l.number (number_of (word_at 1 vs))) tests)

    number_same : m.number ≡ suc (number_of (word_at 1 vs))
    number_same = let b = place.1 in omega (arith, number_is, b)

    same : m ≡ flow_rule.next l vs
    same = (λ j. record { at = (at_is ∙ place.0) j; number = number_same j })

-- shares ascend, and share no address

pub shares_step : (from at after : At) (least next : ℕ) (xs ys : List Share) (x : Share) (ws vs : List Word)
    → IsPassing share_rule 0 from least at (map share_line xs) × IsOrdered (λ s t. s.end ≤ t.first) (λ s. s.end ≤ least) xs × All IsShare xs
    → IsNext (codes "share") at ws after → vs ≡ ws → IsLine share_rule least vs (share_line x) → (x.first ≡ place_at 1 vs) × (x.end ≡ place_at 2 vs) → IsShare x → next ≡ x.end → ys ≡ xs ++ x ∷ []
    → IsPassing share_rule 0 from next after (map share_line ys) × IsOrdered (λ s t. s.end ≤ t.first) (λ s. s.end ≤ next) ys × All IsShare ys
shares_step from at after least next xs ys x ws vs i n e is place form is_next more = (
  next_passes share_rule share_line 0 from least next at after xs ys x ws vs i.0 n e is (is_next ∙ place.1) more,
  subst (IsOrdered (λ s t. s.end ≤ t.first) (λ s. s.end ≤ next)) (sym more)
      (ordered_more (λ s t. s.end ≤ t.first) (λ s. s.end ≤ least) (λ s. s.end ≤ next) xs x i.1 (λ v le. omega (arith, le, above)) (λ v le. let filled = form.filled in omega (arith, le, above, filled, is_next)) (omega (arith, is_next))),
  pushed IsShare xs ys x i.2 form more,
)
  where
    above : least ≤ x.first
    above =
        let le = leb-true least (place_at 1 vs) (and_second (nat_lt (place_at 1 vs) (place_at 2 vs)) (nat_le least (place_at 1 vs)) (and_second (fit share_shapes vs) (nat_lt (place_at 1 vs) (place_at 2 vs) && nat_le least (place_at 1 vs)) is.stands.stands)) in
        let a = place.0 in omega (arith, le, a)
