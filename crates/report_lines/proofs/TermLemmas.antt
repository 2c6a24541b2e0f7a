-- Terms as words, and sums that are read term by term.
use Rattle.std.proofs.Common.{◌≡◌, ℕ, ◌+◌, ◌-◌, ◌<◌, ◌≤◌, ◌^◌, ◌==◌, ◌&&◌, ℤ, pos, List, [], ◌∷◌, ◌++◌, length, drop, get_or, map, Bool, true, false, refl, sym, ap, subst, ◌∙◌, arith, nat_le, nat_lt, ⊎_elim, ◌%◌, All}
use Rattle.std.specs.Prelude.{codes}
use Rattle.std.specs.Fmt.{decimal}
use Rattle.std.proofs.lemmas.Bool.{false≢true, cases_lt}
use Rattle.std.proofs.lemmas.Grind.{common_steps}
use Rattle.std.proofs.lemmas.List.{take-append-drop, append_assoc, append-nil, length-append, drop-drop, length-drop}
use Rattle.std.proofs.lemmas.List.Elements.{All-nil, All-cons, All-push}
use Rattle.std.proofs.lemmas.Int.{ints}
use Rattle.std.proofs.Math.ListN.{get_or-append}
use Rattle.std.proofs.Math.Seq.{get_or-append_seam}
use borrow.Author.Tests.{eqb-true, leb-true, ltb-true}
use Rattle.frac128.specs.Terms.{Terms}
use Rattle.frac128.specs.Sum.{address_at}
use Rattle.report_words.specs.Words.{Word, address_word, term_word}
use Rattle.report_words.specs.Numbers.{is_number, number_of, is_address, is_term, is_starred, term_number, term_address}
use Rattle.report_words.proofs.NumberLemmas.{decimal-number_of}
use Rattle.report_words.proofs.BackLemmas.{address_word-address_of}
use Rattle.report_text.specs.Forms.{IsTerm}
use Rattle.report_text.specs.Lines.{sum_words, more_terms}
use Rattle.report_lines.specs.Sums.{is_byte, address_in, term_in, is_term_in_range, are_more_terms, are_more_in_range, are_terms, are_terms_in_range, EndsBy, IsReadingSum, IsTestingSum}

and_first : (a b : Bool) → (a && b) ≡ true → a ≡ true
and_first true b e = refl
and_first false b e = e

and_second : (a b : Bool) → (a && b) ≡ true → b ≡ true
and_second true b e = e
and_second false b e = absurd (false≢true e)

long : (w : Word) → is_term w ≡ true → 10 ≤ length w
long w t = leb-true 10 (length w) (and_first (nat_le 10 (length w)) (is_number (term_number w) && is_starred (drop (length w - 9) w)) t)

number_form : (w : Word) → is_term w ≡ true → is_number (term_number w) ≡ true
number_form w t = and_first (is_number (term_number w)) (is_starred (drop (length w - 9) w)) (and_second (nat_le 10 (length w)) (is_number (term_number w) && is_starred (drop (length w - 9) w)) t)

starred : (w : Word) → is_term w ≡ true → is_starred (drop (length w - 9) w) ≡ true
starred w t = and_second (is_number (term_number w)) (is_starred (drop (length w - 9) w)) (and_second (nat_le 10 (length w)) (is_number (term_number w) && is_starred (drop (length w - 9) w)) t)

star_split : (xs : List ℕ) → is_starred xs ≡ true → (xs ≡ 42 ∷ drop 1 xs) × (is_address (drop 1 xs) ≡ true)
star_split [] e = absurd (false≢true e)
star_split (b ∷ bs) e = (ap (λ x. x ∷ bs) (eqb-true b 42 (and_first (b == 42) (is_address bs) e)), and_second (b == 42) (is_address bs) e)

drop_next : (w : List ℕ) (n : ℕ) → drop 1 (drop n w) ≡ drop (n + 1) w
drop_next w n = drop-drop 1 n w

behind_star : (w : Word) → is_term w ≡ true → drop 1 (drop (length w - 9) w) ≡ term_address w
behind_star w t = drop_next w (length w - 9) ∙ ap (λ n. drop n w) (omega (arith, long w t))

pub address_form : (w : Word) → is_term w ≡ true → is_address (term_address w) ≡ true
address_form w t = subst (λ xs. is_address xs ≡ true) (behind_star w t) (star_split (drop (length w - 9) w) (starred w t)).1

in_range : (w : Word) → is_term_in_range w ≡ true → number_of (term_number w) < 2 ^ 32
in_range w r = ltb-true (number_of (term_number w)) (2 ^ 32) (and_second (nat_le 1 (number_of (term_number w))) (nat_lt (number_of (term_number w)) (2 ^ 32)) r)

-- a term is what is written of what it says
pub term_word-term_in : (w : Word) → is_term w ≡ true → is_term_in_range w ≡ true → term_word (term_in w) ≡ w
term_word-term_in w t r =
    let front : decimal (number_of (term_number w)) ≡ term_number w = decimal-number_of (term_number w) (number_form w t) (omega (arith, in_range w r)) in
    let back : 42 ∷ address_word (address_in w) ≡ drop (length w - 9) w =
    ap (λ a. 42 ∷ a) (address_word-address_of (term_address w) (address_form w t) ∙ sym (behind_star w t)) ∙ sym (star_split (drop (length w - 9) w) (starred w t)).0 in
    (λ i. front i ++ back i) ∙ take-append-drop (length w - 9) w

more_terms-more : (ts : Terms) (t : ℕ × ℤ) → more_terms (ts ++ t ∷ []) ≡ more_terms ts ++ (codes "+" ∷ term_word t ∷ [])
more_terms-more [] t = refl
more_terms-more (s ∷ ss) t = ap (λ ws. codes "+" ∷ term_word s ∷ ws) (more_terms-more ss t)

sum_words-more : (ts : Terms) (t : ℕ × ℤ) → 0 < length ts → sum_words (ts ++ t ∷ []) ≡ sum_words ts ++ (codes "+" ∷ term_word t ∷ [])
sum_words-more [] t some = absurd (omega (arith, some))
sum_words-more (s ∷ ss) t some = ap (λ ws. term_word s ∷ ws) (more_terms-more ss t)

plus_is : (p : Word) → is_byte 43 p ≡ true → p ≡ codes "+"
plus_is [] e = absurd (false≢true e)
plus_is (x ∷ []) e = ap (λ b. b ∷ []) (eqb-true x 43 (and_first (x == 43) true e))
plus_is (x ∷ y ∷ ys) e = absurd (false≢true (and_second (x == 43) false e))

at_most_front : (ts : Terms) (t : ℕ × ℤ) (i : ℕ) → i < length ts → address_at (ts ++ t ∷ []) i ≡ address_at ts i
at_most_front ts t i lt = ap (λ p. p.0) (get_or-append ts (t ∷ []) (0, pos 0) i lt)

ends_more : (ts : Terms) (t : ℕ × ℤ) (a : ℕ) → EndsBy ts a → a < t.0 → EndsBy (ts ++ t ∷ []) t.0
ends_more ts t a e lt = record {
  some = omega (arith, length-append ts (t ∷ []));
  below = λ i within. ⊎_elim
      (λ inside. omega (arith, at_most_front ts t i inside, e.below i inside, lt))
      (λ outside.
      let end : i ≡ length ts = omega (arith, within, outside, length-append ts (t ∷ [])) in
      omega (arith, ap (λ k. address_at (ts ++ t ∷ []) k) end, ap (λ p. p.0) (get_or-append_seam ts t [] (0, pos 0))))
      (cases_lt i (length ts));
}

-- the number of a term in range
term_is : (w : Word) → is_term_in_range w ≡ true → IsTerm (term_in w)
term_is w e =
    let least = and_first (nat_le 1 (number_of (term_number w))) (nat_lt (number_of (term_number w)) (2 ^ 32)) e in
    let most = and_second (nat_le 1 (number_of (term_number w))) (nat_lt (number_of (term_number w)) (2 ^ 32)) e in
    (omega (arith, ints, leb-true 1 (number_of (term_number w)) least), omega (arith, ints, ltb-true (number_of (term_number w)) (2 ^ 32) most))

-- what the words of the next term say of it
pub record IsNext (ts : Terms) (w : Word) : Type 0 where
  pub term : is_term w ≡ true
  pub in_range : is_term_in_range w ≡ true
  pub behind : (i : ℕ) → i < length ts → address_at ts i < address_in w

pub next_is : (ts : Terms) (p w : Word) (rest all : List Word) → IsReadingSum ts (p ∷ w ∷ rest) all → IsNext ts w
next_is ts p w rest all r =
    let form = and_second (is_byte 43 p) (is_term w && (nat_lt r.last (address_in w) && are_more_terms (address_in w) rest)) r.form in
    let above = and_first (nat_lt r.last (address_in w)) (are_more_terms (address_in w) rest) (and_second (is_term w) (nat_lt r.last (address_in w) && are_more_terms (address_in w) rest) form) in
    record {
      term = and_first (is_term w) (nat_lt r.last (address_in w) && are_more_terms (address_in w) rest) form;
      in_range = and_first (is_term_in_range w) (are_more_in_range rest) r.in_range;
      behind = λ i lt. omega (arith, r.ends.below i lt, ltb-true r.last (address_in w) above);
    }

pub next_added : (ts new : Terms) (p w : Word) (rest all : List Word) → IsReadingSum ts (p ∷ w ∷ rest) all → new ≡ ts ++ term_in w ∷ [] → IsReadingSum new rest all
next_added ts new p w rest all r is = subst (λ s. IsReadingSum s rest all) (sym is) (record {
  last = address_in w;
  ends = ends_more ts (term_in w) r.last r.ends (ltb-true r.last (address_in w) above);
  form = and_second (nat_lt r.last (address_in w)) (are_more_terms (address_in w) rest) (and_second (is_term w) (nat_lt r.last (address_in w) && are_more_terms (address_in w) rest) form);
  in_range = and_second (is_term_in_range w) (are_more_in_range rest) r.in_range;
  terms = All-push IsTerm ts (term_in w) r.terms (term_is w next.in_range);
  same = ap (λ ws. ws ++ rest) (sum_words-more ts (term_in w) r.ends.some) ∙ append_assoc (sum_words ts) (codes "+" ∷ term_word (term_in w) ∷ []) rest
      ∙ (λ i. sum_words ts ++ (sym plus i ∷ term_word-term_in w next.term next.in_range i ∷ rest)) ∙ r.same;
})
  where
    form : (is_term w && (nat_lt r.last (address_in w) && are_more_terms (address_in w) rest)) ≡ true
    form = and_second (is_byte 43 p) (is_term w && (nat_lt r.last (address_in w) && are_more_terms (address_in w) rest)) r.form

    above : nat_lt r.last (address_in w) ≡ true
    above = and_first (nat_lt r.last (address_in w)) (are_more_terms (address_in w) rest) (and_second (is_term w) (nat_lt r.last (address_in w) && are_more_terms (address_in w) rest) form)

    plus : p ≡ codes "+"
    plus = plus_is p (and_first (is_byte 43 p) (is_term w && (nat_lt r.last (address_in w) && are_more_terms (address_in w) rest)) r.form)

    next : IsNext ts w
    next = next_is ts p w rest all r

pub none_next : (ts : Terms) (rest all : List Word) → length rest < 2 → IsReadingSum ts rest all → sum_words ts ≡ all
none_next ts [] all few r = sym (append-nil (sum_words ts)) ∙ r.same
none_next ts (p ∷ []) all few r = absurd (false≢true r.form)
none_next ts (p ∷ w ∷ rest) all few r = absurd (omega (arith, few))

-- the first term alone
pub begun : (w : Word) (rest : List Word) (new : Terms) → are_terms (w ∷ rest) ≡ true → are_terms_in_range (w ∷ rest) ≡ true → new ≡ term_in w ∷ [] → IsReadingSum new rest (w ∷ rest)
begun w rest new f r is = subst (λ s. IsReadingSum s rest (w ∷ rest)) (sym is) (record {
  last = address_in w;
  ends = record { some = omega arith; below = λ i lt. at_zero i lt };
  form = and_second (is_term w) (are_more_terms (address_in w) rest) f;
  in_range = and_second (is_term_in_range w) (are_more_in_range rest) r;
  terms = All-cons IsTerm (term_in w) [] (term_is w (and_first (is_term_in_range w) (are_more_in_range rest) r)) (All-nil IsTerm);
  same = ap (λ t. t ∷ rest) (term_word-term_in w (and_first (is_term w) (are_more_terms (address_in w) rest) f) (and_first (is_term_in_range w) (are_more_in_range rest) r));
})
  where
    at_zero : (i : ℕ) → i < length (term_in w ∷ []) → address_at (term_in w ∷ []) i ≤ address_in w
    at_zero i lt =
        let zero_is : i ≡ 0 = omega (arith, lt) in
        omega (arith, ap (λ k. address_at (term_in w ∷ []) k) zero_is)

-- the same by index

cut : {X : Type 0} → (xs : List X) (i : ℕ) (d : X) → i < length xs → drop i xs ≡ get_or xs i d ∷ drop (i + 1) xs
cut xs i d lt = grind (arith, common_steps)

cut2 : {X : Type 0} → (f : X → Word) (xs : List X) (i : ℕ) (d : X) → i + 1 < length xs → map f (drop i xs) ≡ f (get_or xs i d) ∷ f (get_or xs (i + 1) d) ∷ map f (drop (i + 2) xs)
cut2 f xs i d lt =
    let second : drop (i + 1) xs ≡ get_or xs (i + 1) d ∷ drop (i + 2) xs = cut xs (i + 1) d lt ∙ ap (λ k. get_or xs (i + 1) d ∷ drop k xs) (omega arith) in
    ap (map f) (cut xs i d (omega (arith, lt)) ∙ ap (λ t. get_or xs i d ∷ t) second)

pub next_at : {X : Type 0} → (f : X → Word) (xs : List X) (i : ℕ) (d : X) (ts : Terms) (all : List Word) → i + 1 < length xs → IsReadingSum ts (map f (drop i xs)) all → IsNext ts (f (get_or xs (i + 1) d))
next_at f xs i d ts all lt r = next_is ts (f (get_or xs i d)) (f (get_or xs (i + 1) d)) (map f (drop (i + 2) xs)) all (subst (λ ws. IsReadingSum ts ws all) (cut2 f xs i d lt) r)

pub added_at : {X : Type 0} → (f : X → Word) (xs : List X) (i : ℕ) (d : X) (ts new : Terms) (all : List Word) → i + 1 < length xs → IsReadingSum ts (map f (drop i xs)) all → new ≡ ts ++ term_in (f (get_or xs (i + 1) d)) ∷ [] → IsReadingSum new (map f (drop (i + 2) xs)) all
added_at f xs i d ts new all lt r is = next_added ts new (f (get_or xs i d)) (f (get_or xs (i + 1) d)) (map f (drop (i + 2) xs)) all (subst (λ ws. IsReadingSum ts ws all) (cut2 f xs i d lt) r) is

few_left : {X : Type 0} (f : X → Word) (ys : List X) (ts : Terms) (all : List Word) → length ys < 2 → IsReadingSum ts (map f ys) all → sum_words ts ≡ all
few_left f [] ts all lt r = none_next ts [] all (omega arith) r
few_left f (y ∷ []) ts all lt r = none_next ts (f y ∷ []) all (omega arith) r
few_left f (y ∷ z ∷ ys) ts all lt r = absurd (omega (arith, lt))

pub none_at : {X : Type 0} (f : X → Word) (xs : List X) (i : ℕ) (ts : Terms) (all : List Word) → length xs ≤ i + 1 → IsReadingSum ts (map f (drop i xs)) all → sum_words ts ≡ all
none_at f xs i ts all le r = few_left f (drop i xs) ts all (omega (arith, le, length-drop i xs)) r

pub terms_at : {X : Type 0} (f : X → Word) (xs : List X) (i : ℕ) (ts : Terms) (all : List Word) → IsReadingSum ts (map f (drop i xs)) all → All IsTerm ts
terms_at f xs i ts all r = r.terms

-- the test of terms, by index

step_true : (x y z r : Bool) → (x && (y && z)) ≡ true → (x && (y && (z && r))) ≡ r
step_true true true true r e = refl
step_true true true false r e = absurd (false≢true e)
step_true true false z r e = absurd (false≢true e)
step_true false y z r e = absurd (false≢true e)

step_false : (x y z r : Bool) → (x && (y && z)) ≡ false → (x && (y && (z && r))) ≡ false
step_false true true true r e = absurd (false≢true (sym e))
step_false true true false r e = refl
step_false true false z r e = refl
step_false false y z r e = refl

false_behind : (x y z : Bool) → false ≡ (x && (y && (z && false)))
false_behind true true true = refl
false_behind true true false = refl
false_behind true false z = refl
false_behind false y z = refl

-- an odd number of words is none of signs and terms
pub odd_more : {X : Type 0} (f : X → Word) (a : ℕ) (xs : List X) → length xs % 2 ≡ 1 → false ≡ are_more_terms a (map f xs)
odd_more f a [] e = absurd (omega (arith, e))
odd_more f a (p ∷ []) e = refl
odd_more f a (p ∷ w ∷ ws) e =
    false_behind (is_byte 43 (f p)) (is_term (f w)) (nat_lt a (address_in (f w)))
    ∙ ap (λ r. is_byte 43 (f p) && (is_term (f w) && (nat_lt a (address_in (f w)) && r))) (odd_more f (address_in (f w)) ws (omega (arith, e)))

pub more_if_next : {X : Type 0} (f : X → Word) (xs : List X) (i a : ℕ) (d : X) → i + 1 < length xs → (is_byte 43 (f (get_or xs i d)) && (is_term (f (get_or xs (i + 1) d)) && nat_lt a (address_in (f (get_or xs (i + 1) d))))) ≡ true
    → are_more_terms a (map f (drop i xs)) ≡ are_more_terms (address_in (f (get_or xs (i + 1) d))) (map f (drop (i + 2) xs))
more_if_next f xs i a d lt e = ap (are_more_terms a) (cut2 f xs i d lt) ∙ step_true (is_byte 43 (f (get_or xs i d))) (is_term (f (get_or xs (i + 1) d))) (nat_lt a (address_in (f (get_or xs (i + 1) d)))) (are_more_terms (address_in (f (get_or xs (i + 1) d))) (map f (drop (i + 2) xs))) e

pub none_if_not : {X : Type 0} (f : X → Word) (xs : List X) (i a : ℕ) (d : X) → i + 1 < length xs → (is_byte 43 (f (get_or xs i d)) && (is_term (f (get_or xs (i + 1) d)) && nat_lt a (address_in (f (get_or xs (i + 1) d))))) ≡ false
    → are_more_terms a (map f (drop i xs)) ≡ false
none_if_not f xs i a d lt e = ap (are_more_terms a) (cut2 f xs i d lt) ∙ step_false (is_byte 43 (f (get_or xs i d))) (is_term (f (get_or xs (i + 1) d))) (nat_lt a (address_in (f (get_or xs (i + 1) d)))) (are_more_terms (address_in (f (get_or xs (i + 1) d))) (map f (drop (i + 2) xs))) e

-- the test of their ranges, by index

left_at : {X : Type 0} (f : X → Word) (xs : List X) (i : ℕ) (d : X) (all : List Word) → i + 1 < length xs → IsTestingSum (map f (drop i xs)) all → IsTestingSum (f (get_or xs i d) ∷ f (get_or xs (i + 1) d) ∷ map f (drop (i + 2) xs)) all
left_at f xs i d all lt t = subst (λ ws. IsTestingSum ws all) (cut2 f xs i d lt) t

term_behind : (p w : Word) (rest all : List Word) → IsTestingSum (p ∷ w ∷ rest) all → is_term w ≡ true
term_behind p w rest all t = and_first (is_term w) (nat_lt t.last (address_in w) && are_more_terms (address_in w) rest) (and_second (is_byte 43 p) (is_term w && (nat_lt t.last (address_in w) && are_more_terms (address_in w) rest)) t.form)

tested_behind : (p w : Word) (rest all : List Word) → IsTestingSum (p ∷ w ∷ rest) all → is_term_in_range w ≡ true → IsTestingSum rest all
tested_behind p w rest all t e = record {
  last = address_in w;
  form = and_second (nat_lt t.last (address_in w)) (are_more_terms (address_in w) rest) (and_second (is_term w) (nat_lt t.last (address_in w) && are_more_terms (address_in w) rest) (and_second (is_byte 43 p) (is_term w && (nat_lt t.last (address_in w) && are_more_terms (address_in w) rest)) t.form));
  same = ap (λ b. b && are_more_in_range rest) (sym e) ∙ t.same;
}

pub term_at : {X : Type 0} (f : X → Word) (xs : List X) (i : ℕ) (d : X) (all : List Word) → i + 1 < length xs → IsTestingSum (map f (drop i xs)) all → is_term (f (get_or xs (i + 1) d)) ≡ true
term_at f xs i d all lt t = term_behind (f (get_or xs i d)) (f (get_or xs (i + 1) d)) (map f (drop (i + 2) xs)) all (left_at f xs i d all lt t)

pub tested_at : {X : Type 0} (f : X → Word) (xs : List X) (i : ℕ) (d : X) (all : List Word) → i + 1 < length xs → IsTestingSum (map f (drop i xs)) all → is_term_in_range (f (get_or xs (i + 1) d)) ≡ true → IsTestingSum (map f (drop (i + 2) xs)) all
tested_at f xs i d all lt t e = tested_behind (f (get_or xs i d)) (f (get_or xs (i + 1) d)) (map f (drop (i + 2) xs)) all (left_at f xs i d all lt t) e

pub failed_at : {X : Type 0} (f : X → Word) (xs : List X) (i : ℕ) (d : X) (all : List Word) → i + 1 < length xs → IsTestingSum (map f (drop i xs)) all → is_term_in_range (f (get_or xs (i + 1) d)) ≡ false → false ≡ are_more_in_range all
failed_at f xs i d all lt t e = ap (λ b. b && are_more_in_range (map f (drop (i + 2) xs))) (sym e) ∙ (left_at f xs i d all lt t).same

few_tested : {X : Type 0} (f : X → Word) (ys : List X) (all : List Word) → length ys < 2 → IsTestingSum (map f ys) all → true ≡ are_more_in_range all
few_tested f [] all lt t = t.same
few_tested f (y ∷ []) all lt t = t.same
few_tested f (y ∷ z ∷ ys) all lt t = absurd (omega (arith, lt))

pub tested_all : {X : Type 0} (f : X → Word) (xs : List X) (i : ℕ) (all : List Word) → length xs ≤ i + 1 → IsTestingSum (map f (drop i xs)) all → true ≡ are_more_in_range all
tested_all f xs i all le t = few_tested f (drop i xs) all (omega (arith, le, length-drop i xs)) t
