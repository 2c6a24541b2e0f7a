-- The sides of a line `fact` are found word by word, and its claim is written as they stand.
use Rattle.std.proofs.Common.{◌≡◌, ℕ, ◌+◌, ◌-◌, ◌^◌, ◌<◌, ◌≤◌, ◌&&◌, ◌||◌, ℤ, unsigned_abs, nat_lt, Bool, true, false, List, [], ◌∷◌, ◌++◌, length, map, take, drop, get_or, refl, sym, ap, subst, ◌∙◌, arith, codes, if◌then◌else◌}
use Rattle.std.proofs.lemmas.Bool.{false≢true}
use Rattle.std.proofs.lemmas.Grind.{common_steps}
use Rattle.std.proofs.lemmas.List.{append_assoc, append-nil}
use borrow.Author.Tests.{ltb-true}
use Rattle.std.specs.Fmt.{signed_decimal}
use Rattle.wcc_base.specs.declared.compare.Compare.{Compare}
use Rattle.wcc_base.specs.declared.compare.Compare.TheVariants.{AtMost, AtLeast, Equal}
use Rattle.code_flow_system.specs.declared.claims.FactClaim.{FactClaim}
use Rattle.code_flow_system.specs.Certificates.{IsSmall}
use Rattle.report_words.specs.Words.{Word}
use Rattle.report_words.specs.Numbers.{is_signed, signed_of}
use Rattle.report_text.specs.Lines.{sum_words, compare_word, fact_line}
use Rattle.report_lines.specs.Sums.{is_compare}
use Rattle.report_rules.specs.Rules.{IsLine, IsFlawAnywhere}
use Rattle.report_rules.specs.declared.flaw.Flaw.{Flaw}
use Rattle.report_rules.specs.declared.flaw.Flaw.TheVariants.{Form, Range, Memory}
use Rattle.report_rules.specs.FactRules.{is_zero, is_sum, is_sum_in_range, has_sign, left_words, right_words, is_fact, is_fact_in_range, fact_rule}
use Rattle.report_rules.specs.WordTests.{same_word}
use Rattle.report_rules.proofs.WordTestLemmas.{same_is}
use Rattle.report_rules.specs.FactForms.{AreSides, IsSplitting}

-- the first sign

sign_is : (op : Compare) → is_compare (compare_word op) ≡ true
sign_is AtMost = refl
sign_is AtLeast = refl
sign_is Equal = refl

pub begins_splitting : (all : List Word) → IsSplitting [] all all
begins_splitting all = record { signed = refl; left_is = refl; right_is = refl }

found : (done left all : List Word) (op : Compare) (rest : List Word) → left ≡ compare_word op ∷ rest → all ≡ done ++ left → IsSplitting done left all → AreSides all done op rest
found done left all op rest e same s = record {
  signed = s.signed ∙ ap has_sign e ∙ ap (λ b. b || has_sign rest) (sign_is op);
  left_is = sym (s.left_is ∙ ap (λ l. done ++ left_words l) e ∙ ap (λ b. done ++ (if b then [] else compare_word op ∷ left_words rest)) (sign_is op) ∙ append-nil done);
  right_is = sym (s.right_is ∙ ap right_words e ∙ ap (λ b. if b then rest else right_words rest) (sign_is op));
  same = same ∙ ap (λ l. done ++ l) e;
}

further : (done left all : List Word) (w : Word) (rest : List Word) → left ≡ w ∷ rest → is_compare w ≡ false → IsSplitting done left all → IsSplitting (done ++ w ∷ []) rest all
further done left all w rest e other s = record {
  signed = s.signed ∙ ap has_sign e ∙ ap (λ b. b || has_sign rest) other;
  left_is = s.left_is ∙ ap (λ l. done ++ left_words l) e ∙ ap (λ b. done ++ (if b then [] else w ∷ left_words rest)) other ∙ sym (append_assoc done (w ∷ []) (left_words rest));
  right_is = s.right_is ∙ ap right_words e ∙ ap (λ b. if b then rest else right_words rest) other;
}

-- the same by index

cut : {X : Type 0} → (xs : List X) (i : ℕ) (d : X) → i < length xs → drop i xs ≡ get_or xs i d ∷ drop (i + 1) xs
cut xs i d lt = grind (arith, common_steps)

more : {X : Type 0} → (xs : List X) (i : ℕ) (d : X) → i < length xs → take (i + 1) xs ≡ take i xs ++ get_or xs i d ∷ []
more xs i d lt = grind (arith, common_steps)

mapped : {X : Type 0} → (f : X → Word) (xs ys : List X) → map f (xs ++ ys) ≡ map f xs ++ map f ys
mapped f [] ys = refl
mapped f (x ∷ xs) ys = ap (λ l. f x ∷ l) (mapped f xs ys)

whole : {X : Type 0} → (xs : List X) (i : ℕ) → xs ≡ take i xs ++ drop i xs
whole xs i = grind (arith, common_steps)

pub found_at : {X : Type 0} → (f : X → Word) (xs : List X) (i : ℕ) (d : X) (op : Compare) → i < length xs → compare_word op ≡ f (get_or xs i d) → IsSplitting (map f (take i xs)) (map f (drop i xs)) (map f xs) → AreSides (map f xs) (map f (take i xs)) op (map f (drop (i + 1) xs))
found_at f xs i d op lt is s =
    found (map f (take i xs)) (map f (drop i xs)) (map f xs) op (map f (drop (i + 1) xs))
    (ap (map f) (cut xs i d lt) ∙ ap (λ w. w ∷ map f (drop (i + 1) xs)) (sym is))
    (ap (map f) (whole xs i) ∙ mapped f (take i xs) (drop i xs)) s

pub further_at : {X : Type 0} → (f : X → Word) (xs : List X) (i : ℕ) (d : X) → i < length xs → is_compare (f (get_or xs i d)) ≡ false → IsSplitting (map f (take i xs)) (map f (drop i xs)) (map f xs) → IsSplitting (map f (take (i + 1) xs)) (map f (drop (i + 1) xs)) (map f xs)
further_at f xs i d lt other s =
    subst (λ l. IsSplitting l (map f (drop (i + 1) xs)) (map f xs)) (sym (ap (map f) (more xs i d lt) ∙ mapped f (take i xs) (get_or xs i d ∷ [])))
    (further (map f (take i xs)) (map f (drop i xs)) (map f xs) (f (get_or xs i d)) (map f (drop (i + 1) xs)) (ap (map f) (cut xs i d lt)) other s)

pub rest_whole : {X : Type 0} → (xs : List X) (n : ℕ) → take (length xs - n) (drop n xs) ≡ drop n xs
rest_whole xs n = grind (arith, common_steps)

none_left : {X : Type 0} → (xs : List X) (i : ℕ) → length xs ≤ i → drop i xs ≡ []
none_left xs i le = grind (arith, common_steps)

pub no_sign : {X : Type 0} → (f : X → Word) (xs : List X) (i : ℕ) → length xs ≤ i → IsSplitting (map f (take i xs)) (map f (drop i xs)) (map f xs) → has_sign (map f xs) ≡ false
no_sign f xs i le s = s.signed ∙ ap (λ l. has_sign (map f l)) (none_left xs i le)

-- the line of both sides

pub fact_stands : (by : Word) (ws left : List Word) (op : Compare) (right : List Word) → AreSides ws left op right → is_fact (by ∷ ws) ≡ (is_signed by && (is_sum left && is_sum right))
fact_stands by ws left op right s = rw (s.signed, s.left_is, s.right_is) refl

pub fact_in_range : (by : Word) (ws left : List Word) (op : Compare) (right : List Word) → AreSides ws left op right → is_fact_in_range (by ∷ ws) ≡ (nat_lt (unsigned_abs (signed_of by)) (2 ^ 120) && (is_sum_in_range left && is_sum_in_range right))
fact_in_range by ws left op right s = rw (s.left_is, s.right_is) refl

and_false : (a b : Bool) → b ≡ false → (a && b) ≡ false
and_false true b e = e
and_false false b e = refl

pub fact_unsigned : (by : Word) (ws : List Word) → has_sign ws ≡ false → is_fact (by ∷ ws) ≡ false
fact_unsigned by ws e = and_false (is_signed by) (has_sign ws && (is_sum (left_words ws) && is_sum (right_words ws))) (rw e refl)

pub fact_written : (c : FactClaim) (m : ℤ) (by : Word) (ws left : List Word) (op : Compare) (right : List Word) (facts : ℕ) → AreSides ws left op right
    → (is_signed by && (is_sum left && is_sum right)) ≡ true → (nat_lt (unsigned_abs (signed_of by)) (2 ^ 120) && (is_sum_in_range left && is_sum_in_range right)) ≡ true
    → sum_words c.left ++ compare_word c.op ∷ sum_words c.right ≡ left ++ compare_word op ∷ right → signed_decimal m ≡ by → IsLine fact_rule facts (by ∷ ws) (fact_line c m)
fact_written c m by ws left op right facts s form range sums is = record {
  stands = record { stands = fact_stands by ws left op right s ∙ form; in_range = fact_in_range by ws left op right s ∙ range };
  same = (λ i. codes "fact" ∷ is i ∷ sums i) ∙ ap (λ l. codes "fact" ∷ by ∷ l) (sym s.same);
}

and_first : (a b : Bool) → (a && b) ≡ true → a ≡ true
and_first true b e = refl
and_first false b e = e

and_second : (a b : Bool) → (a && b) ≡ true → b ≡ true
and_second true b e = e
and_second false b e = absurd (false≢true e)

pub first_of_three : (a b c : Bool) → (a && (b && c)) ≡ true → a ≡ true
first_of_three a b c e = and_first a (b && c) e

pub second_of_three : (a b c : Bool) → (a && (b && c)) ≡ true → b ≡ true
second_of_three a b c e = and_first b c (and_second a (b && c) e)

pub third_of_three : (a b c : Bool) → (a && (b && c)) ≡ true → c ≡ true
third_of_three a b c e = and_second b c (and_second a (b && c) e)

pub multiplier_small : (m : ℤ) (by : Word) (b : Bool) → m ≡ signed_of by → (nat_lt (unsigned_abs (signed_of by)) (2 ^ 120) && b) ≡ true → IsSmall m
multiplier_small m by b is e = subst IsSmall (sym is) (ltb-true (unsigned_abs (signed_of by)) (2 ^ 120) (and_first (nat_lt (unsigned_abs (signed_of by)) (2 ^ 120)) b e))

-- the sum without terms

pub zero_words : (ws : List Word) → is_zero ws ≡ true → sum_words [] ≡ ws
zero_words [] e = absurd (false≢true e)
zero_words (w ∷ []) e = ap (λ v. v ∷ []) (sym (same_is w (codes "0") (and_first (same_word w (codes "0")) true e)))
zero_words (w ∷ v ∷ vs) e = absurd (false≢true (and_second (same_word w (codes "0")) false e))

-- flaws

pub no_sign_flaw : (by : Word) (ws : List Word) → has_sign ws ≡ false → IsFlawAnywhere fact_rule (by ∷ ws) Form
no_sign_flaw by ws e = record { each = λ facts. fact_unsigned by ws e }

pub form_flaw : (by : Word) (ws left : List Word) (op : Compare) (right : List Word) → AreSides ws left op right → (is_signed by && (is_sum left && is_sum right)) ≡ false → IsFlawAnywhere fact_rule (by ∷ ws) Form
form_flaw by ws left op right s e = record { each = λ facts. fact_stands by ws left op right s ∙ e }

pub range_flaw : (by : Word) (ws left : List Word) (op : Compare) (right : List Word) → AreSides ws left op right → (is_signed by && (is_sum left && is_sum right)) ≡ true
    → (nat_lt (unsigned_abs (signed_of by)) (2 ^ 120) && (is_sum_in_range left && is_sum_in_range right)) ≡ false → IsFlawAnywhere fact_rule (by ∷ ws) Range
range_flaw by ws left op right s e f = record { each = λ facts. (fact_stands by ws left op right s ∙ e, fact_in_range by ws left op right s ∙ f) }

pub memory_flaw : (ws : List Word) (flaw : Flaw) → flaw ≡ Memory → IsFlawAnywhere fact_rule ws flaw
memory_flaw ws flaw e = subst (IsFlawAnywhere fact_rule ws) (sym e) (record { each = λ facts. tt })

pub empty_flaw : IsFlawAnywhere fact_rule [] Form
empty_flaw = record { each = λ facts. refl }
