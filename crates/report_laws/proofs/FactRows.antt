-- The line of a fact is read by its rule.
use Rattle.std.proofs.Common.{◌≡◌, ℕ, suc, ◌-◌, ◌^◌, ◌<◌, ◌≤◌, ◌&&◌, ◌||◌, ◌==◌, ℤ, pos, negsuc, ◌<ℤ◌, Bool, true, false, List, [], ◌∷◌, ◌++◌, length, take, drop, refl, sym, ap, ◌∙◌, arith, nat_lt, nat_le, codes, if◌then◌else◌, All}
use Rattle.std.proofs.lemmas.Bool.{false≢true}
use Rattle.std.proofs.lemmas.Int.{ints}
use Rattle.std.proofs.lemmas.List.{append_assoc, append-nil, length-append}
use Rattle.std.proofs.lemmas.List.Elements.{All-head, All-tail}
use Rattle.std.specs.Fmt.{decimal}
use Rattle.std.specs.Str.{all_ascii_digits}
use Rattle.std.specs.Char.{is_ascii_digit}
use borrow.Author.Tests.{le-leb, lt-ltb, leb-true, ne_eqb, eqb-true}
use Rattle.frac128.specs.Terms.{Terms}
use Rattle.frac128.specs.Sum.{address_at, IsSum}
use Rattle.wcc_base.specs.declared.compare.Compare.{Compare}
use Rattle.wcc_base.specs.declared.compare.Compare.TheVariants.{AtMost, AtLeast, Equal}
use Rattle.code_flow_system.specs.Claims.{AreSums}
use Rattle.code_flow_system.specs.declared.claims.FactClaim.{FactClaim}
use Rattle.code_flow_system.specs.Certificates.{IsSmall}
use Rattle.report_words.specs.Words.{Word, address_word, term_word}
use Rattle.report_words.specs.Numbers.{is_number, number_of, address_of, term_number, term_address, is_starred, is_term}
use Rattle.report_words.proofs.NumberLemmas.{digits-decimal, is_number-decimal, number_of-decimal}
use Rattle.report_words.proofs.WordLemmas.{is_address-address_word, address_of-address_word}
use Rattle.report_text.specs.Forms.{IsTerm, IsFact}
use Rattle.report_text.specs.Lines.{sum_words, more_terms, compare_word, fact_line}
use Rattle.report_lines.specs.Sums.{is_byte, is_compare, address_in, is_term_in_range, are_more_terms, are_more_in_range, are_terms, are_terms_in_range}
use Rattle.report_rules.specs.FactRules.{is_zero, is_sum, is_sum_in_range, has_sign, left_words, right_words, fact_rule}
use Rattle.report_reading.specs.Plain.{IsPlain, ArePlain}
use Rattle.report_reading.proofs.PlainLemmas.{signed_plain, term_plain}
use Rattle.report_laws.specs.Typed.{IsWord, IsTypedFact}
use Rattle.report_laws.proofs.Fine.{IsFine}
use Rattle.report_laws.proofs.WordsBack.{and_both, signed_form, signed_range}

and_first : (a b : Bool) → (a && b) ≡ true → a ≡ true
and_first true b e = refl
and_first false b e = e

and_second : (a b : Bool) → (a && b) ≡ true → b ≡ true
and_second true b e = e
and_second false b e = absurd (false≢true e)

-- the parts of a term

take_front : (d x : List ℕ) → take (length d) (d ++ x) ≡ d
take_front [] x = refl
take_front (c ∷ cs) x = ap (λ l. c ∷ l) (take_front cs x)

drop_front : (d x : List ℕ) → drop (length d) (d ++ x) ≡ x
drop_front [] x = refl
drop_front (c ∷ cs) x = drop_front cs x

front_length : (d x : List ℕ) (n : ℕ) → length x ≡ n → length (d ++ x) - n ≡ length d
front_length d x n e = omega (arith, e, length-append d x)

address_length : (a : ℕ) → length (address_word a) ≡ 8
address_length a = eqb-true (length (address_word a)) 8 (and_first (length (address_word a) == 8) _ (is_address-address_word a))

number_is : (a n : ℕ) → term_number (decimal n ++ 42 ∷ address_word a) ≡ decimal n
number_is a n = ap (λ k. take k (decimal n ++ 42 ∷ address_word a)) (front_length (decimal n) (42 ∷ address_word a) 9 (ap suc (address_length a))) ∙ take_front (decimal n) (42 ∷ address_word a)

star_is : (a n : ℕ) → drop (length (decimal n ++ 42 ∷ address_word a) - 9) (decimal n ++ 42 ∷ address_word a) ≡ 42 ∷ address_word a
star_is a n = ap (λ k. drop k (decimal n ++ 42 ∷ address_word a)) (front_length (decimal n) (42 ∷ address_word a) 9 (ap suc (address_length a))) ∙ drop_front (decimal n) (42 ∷ address_word a)

behind_star : (a n : ℕ) → term_address (decimal n ++ 42 ∷ address_word a) ≡ address_word a
behind_star a n =
    ap (λ l. drop (length l - 8) l) (sym (append_assoc (decimal n) (42 ∷ []) (address_word a)))
    ∙ ap (λ k. drop k ((decimal n ++ 42 ∷ []) ++ address_word a)) (front_length (decimal n ++ 42 ∷ []) (address_word a) 8 (address_length a))
    ∙ drop_front (decimal n ++ 42 ∷ []) (address_word a)

number_some : (w : Word) → is_number w ≡ true → 0 < length w
number_some [] e = absurd (false≢true e)
number_some (b ∷ bs) e = omega arith

long : (a n : ℕ) → n < 2 ^ 32 → nat_le 10 (length (decimal n ++ 42 ∷ address_word a)) ≡ true
long a n small =
    le-leb 10 (length (decimal n ++ 42 ∷ address_word a)) (omega (arith, length-append (decimal n) (42 ∷ address_word a), address_length a, number_some (decimal n) (is_number-decimal n (omega (arith, small)))))

term_form : (a n : ℕ) → n < 2 ^ 32 → is_term (term_word (a, pos n)) ≡ true
term_form a n small =
    (λ i. long a n small i && ((ap is_number (number_is a n) ∙ is_number-decimal n (omega (arith, small))) i && (ap is_starred (star_is a n) ∙ is_address-address_word a) i))

term_in_range : (a n : ℕ) → 0 < n → n < 2 ^ 32 → is_term_in_range (term_word (a, pos n)) ≡ true
term_in_range a n positive small =
    let same = ap number_of (number_is a n) ∙ number_of-decimal n (omega (arith, small)) in
    and_both (nat_le 1 (number_of (term_number (term_word (a, pos n))))) (nat_lt (number_of (term_number (term_word (a, pos n)))) (2 ^ 32))
    (le-leb 1 (number_of (term_number (term_word (a, pos n)))) (omega (arith, same, positive))) (lt-ltb (number_of (term_number (term_word (a, pos n)))) (2 ^ 32) (omega (arith, same, small)))

address_back : (a n : ℕ) → IsWord a → address_in (term_word (a, pos n)) ≡ a
address_back a n word = ap address_of (behind_star a n) ∙ address_of-address_word a word

-- what a reader needs of a term
record IsRead (t : ℕ × ℤ) : Type 0 where
  form : is_term (term_word t) ≡ true
  in_range : is_term_in_range (term_word t) ≡ true
  at : address_in (term_word t) ≡ t.0

term_read_by : (a : ℕ) (z : ℤ) → (pos 0 <ℤ z) × (z <ℤ pos (2 ^ 32)) → IsWord a → IsRead (a, z)
term_read_by a (pos n) is word = record { form = term_form a n (omega (arith, ints, is)); in_range = term_in_range a n (omega (arith, ints, is)) (omega (arith, ints, is)); at = address_back a n word }
term_read_by a (negsuc n) is word = absurd (omega (arith, ints, is))

term_read : (t : ℕ × ℤ) → IsTerm t → IsWord t.0 → IsRead t
term_read t is word = term_read_by t.0 t.1 is word

-- what a term says
pub record HaveParts (t : ℕ × ℤ) : Type 0 where
  pub long : 10 ≤ length (term_word t)
  pub number : pos (number_of (term_number (term_word t))) ≡ t.1
  pub at : address_in (term_word t) ≡ t.0

parts_by : (a : ℕ) (z : ℤ) → (pos 0 <ℤ z) × (z <ℤ pos (2 ^ 32)) → IsWord a → HaveParts (a, z)
parts_by a (pos n) is word =
    let small : n < 2 ^ 32 = omega (arith, ints, is) in
    record {
      long = leb-true 10 (length (decimal n ++ 42 ∷ address_word a)) (long a n small);
      number = ap pos (ap number_of (number_is a n) ∙ number_of-decimal n (omega (arith, small)));
      at = address_back a n word;
    }
parts_by a (negsuc n) is word = absurd (omega (arith, ints, is))

pub term_parts : (t : ℕ × ℤ) → IsTerm t → IsWord t.0 → HaveParts t
term_parts t is word = parts_by t.0 t.1 is word

-- sums

rises_tail : (t : ℕ × ℤ) (ts : Terms) → ((i j : ℕ) → i < j → j < length (t ∷ ts) → address_at (t ∷ ts) i < address_at (t ∷ ts) j) → (i j : ℕ) → i < j → j < length ts → address_at ts i < address_at ts j
rises_tail t ts r i j lt l = r (suc i) (suc j) (omega (arith, lt)) (omega (arith, l))

more_form : (t : ℕ × ℤ) (ts : Terms) → All IsTerm (t ∷ ts) → All (λ t. IsWord t.0) (t ∷ ts) → ((i j : ℕ) → i < j → j < length (t ∷ ts) → address_at (t ∷ ts) i < address_at (t ∷ ts) j) → are_more_terms t.0 (more_terms ts) ≡ true
more_form t [] is word r = refl
more_form t (u ∷ us) is word r =
    let read = term_read u (All-head IsTerm u us (All-tail IsTerm t (u ∷ us) is)) (All-head (λ t. IsWord t.0) u us (All-tail (λ t. IsWord t.0) t (u ∷ us) word)) in
    let same = read.at in
    let next = lt-ltb t.0 (address_in (term_word u)) (let lt = r 0 1 (omega arith) (omega arith) in omega (arith, same, lt)) in
    let rest = ap (λ a. are_more_terms a (more_terms us)) same ∙ more_form u us (All-tail IsTerm t (u ∷ us) is) (All-tail (λ t. IsWord t.0) t (u ∷ us) word) (rises_tail t (u ∷ us) r) in
    (λ i. read.form i && (next i && rest i))

more_in_range : (ts : Terms) → All IsTerm ts → All (λ t. IsWord t.0) ts → are_more_in_range (more_terms ts) ≡ true
more_in_range [] is word = refl
more_in_range (t ∷ ts) is word =
    (λ i. (term_read t (All-head IsTerm t ts is) (All-head (λ t. IsWord t.0) t ts word)).in_range i && more_in_range ts (All-tail IsTerm t ts is) (All-tail (λ t. IsWord t.0) t ts word) i)

or_second : (a b : Bool) → b ≡ true → (a || b) ≡ true
or_second true b e = refl
or_second false b e = e

sum_form : (ts : Terms) → IsSum ts → All IsTerm ts → All (λ t. IsWord t.0) ts → is_sum (sum_words ts) ≡ true
sum_form [] s is word = refl
sum_form (t ∷ ts) s is word =
    let read = term_read t (All-head IsTerm t ts is) (All-head (λ t. IsWord t.0) t ts word) in
    let rest = ap (λ a. are_more_terms a (more_terms ts)) read.at ∙ more_form t ts is word s.ascending in
    or_second (is_zero (term_word t ∷ more_terms ts)) (are_terms (term_word t ∷ more_terms ts)) (λ i. read.form i && rest i)

sum_range : (ts : Terms) → All IsTerm ts → All (λ t. IsWord t.0) ts → is_sum_in_range (sum_words ts) ≡ true
sum_range [] is word = refl
sum_range (t ∷ ts) is word = or_second (is_zero (term_word t ∷ more_terms ts)) (are_terms_in_range (term_word t ∷ more_terms ts)) (more_in_range (t ∷ ts) is word)

-- no word of a sum is a sign

not_sign : (b : ℕ) (bs : List ℕ) → b < 60 → is_compare (b ∷ bs) ≡ false
not_sign b bs small = rw (ne_eqb b 61 (λ e. omega (arith, e, small)), ne_eqb b 60 (λ e. omega (arith, e, small)), ne_eqb b 62 (λ e. omega (arith, e, small))) (and_false (is_byte 61 bs))
  where
    and_false : (a : Bool) → (a && false) ≡ false
    and_false true = refl
    and_false false = refl

digit_first : (w x : List ℕ) → all_ascii_digits w ≡ true → 0 < length w → is_compare (w ++ x) ≡ false
digit_first [] x e some = absurd (omega arith)
digit_first (b ∷ bs) x e some =
    let top = leb-true b 57 (and_second (nat_le 48 b) (nat_le b 57) (and_first (is_ascii_digit b) (all_ascii_digits bs) e)) in not_sign b (bs ++ x) (omega (arith, top))

term_no_sign : (a : ℕ) (z : ℤ) → (pos 0 <ℤ z) × (z <ℤ pos (2 ^ 32)) → is_compare (term_word (a, z)) ≡ false
term_no_sign a (pos n) is = digit_first (decimal n) (42 ∷ address_word a) (digits-decimal n (omega (arith, ints, is))) (number_some (decimal n) (is_number-decimal n (omega (arith, ints, is))))
term_no_sign a (negsuc n) is = absurd (omega (arith, ints, is))

record HaveNoSign (ws rest : List Word) : Type 0 where
  signed : has_sign (ws ++ rest) ≡ has_sign rest
  left : left_words (ws ++ rest) ≡ ws ++ left_words rest
  right : right_words (ws ++ rest) ≡ right_words rest

one_no_sign : (w : Word) (ws rest : List Word) → is_compare w ≡ false → HaveNoSign ws rest → HaveNoSign (w ∷ ws) rest
one_no_sign w ws rest e h = record {
  signed = ap (λ b. b || has_sign (ws ++ rest)) e ∙ h.signed;
  left = ap (λ b. if b then [] else w ∷ left_words (ws ++ rest)) e ∙ ap (λ l. w ∷ l) h.left;
  right = ap (λ b. if b then ws ++ rest else right_words (ws ++ rest)) e ∙ h.right;
}

none_no_sign : (rest : List Word) → HaveNoSign [] rest
none_no_sign rest = record { signed = refl; left = refl; right = refl }

more_no_sign : (ts : Terms) (rest : List Word) → All IsTerm ts → HaveNoSign (more_terms ts) rest
more_no_sign [] rest is = none_no_sign rest
more_no_sign (t ∷ ts) rest is = one_no_sign (codes "+") (term_word t ∷ more_terms ts) rest refl (one_no_sign (term_word t) (more_terms ts) rest (term_no_sign t.0 t.1 (All-head IsTerm t ts is)) (more_no_sign ts rest (All-tail IsTerm t ts is)))

sum_no_sign : (ts : Terms) (rest : List Word) → All IsTerm ts → HaveNoSign (sum_words ts) rest
sum_no_sign [] rest is = one_no_sign (codes "0") [] rest refl (none_no_sign rest)
sum_no_sign (t ∷ ts) rest is = one_no_sign (term_word t) (more_terms ts) rest (term_no_sign t.0 t.1 (All-head IsTerm t ts is)) (more_no_sign ts rest (All-tail IsTerm t ts is))

at_sign : (op : Compare) (rest : List Word) → (has_sign (compare_word op ∷ rest) ≡ true) × (left_words (compare_word op ∷ rest) ≡ []) × (right_words (compare_word op ∷ rest) ≡ rest)
at_sign AtMost rest = (refl, refl, refl)
at_sign AtLeast rest = (refl, refl, refl)
at_sign Equal rest = (refl, refl, refl)

-- the words are plain

term_is_plain : (a : ℕ) (z : ℤ) → (pos 0 <ℤ z) × (z <ℤ pos (2 ^ 32)) → IsPlain (term_word (a, z))
term_is_plain a (pos n) is = term_plain (a, pos n) (let small : n < 2 ^ 32 = omega (arith, ints, is) in omega (arith, small))
term_is_plain a (negsuc n) is = absurd (omega (arith, ints, is))

more_plain : (ts : Terms) → All IsTerm ts → ArePlain (more_terms ts)
more_plain [] is = tt
more_plain (t ∷ ts) is = (record { unspaced = refl; unended = refl }, (term_is_plain t.0 t.1 (All-head IsTerm t ts is), more_plain ts (All-tail IsTerm t ts is)))

sum_plain : (ts : Terms) → All IsTerm ts → ArePlain (sum_words ts)
sum_plain [] is = (record { unspaced = refl; unended = refl }, tt)
sum_plain (t ∷ ts) is = (term_is_plain t.0 t.1 (All-head IsTerm t ts is), more_plain ts (All-tail IsTerm t ts is))

sign_plain : (op : Compare) → IsPlain (compare_word op)
sign_plain AtMost = record { unspaced = refl; unended = refl }
sign_plain AtLeast = record { unspaced = refl; unended = refl }
sign_plain Equal = record { unspaced = refl; unended = refl }

both_plain : (ws vs : List Word) → ArePlain ws → ArePlain vs → ArePlain (ws ++ vs)
both_plain [] vs p q = q
both_plain (w ∷ ws) vs p q = (p.0, both_plain ws vs p.1 q)

-- what stands on both sides
pub record HaveSides (c : FactClaim) : Type 0 where
  pub left : left_words (sum_words c.left ++ compare_word c.op ∷ sum_words c.right) ≡ sum_words c.left
  pub right : right_words (sum_words c.left ++ compare_word c.op ∷ sum_words c.right) ≡ sum_words c.right

pub fact_sides : (c : FactClaim) → IsFact c → HaveSides c
fact_sides c is =
    let sign = at_sign c.op (sum_words c.right) in
    let h = sum_no_sign c.left (compare_word c.op ∷ sum_words c.right) is.left in
    record { left = h.left ∙ ap (λ l. sum_words c.left ++ l) sign.1 ∙ append-nil (sum_words c.left); right = h.right ∙ sign.2 }

pub fact_fine : (facts : ℕ) (c : FactClaim) (m : ℤ) → IsFact c → AreSums c → IsTypedFact c → IsSmall m → IsFine fact_rule facts (fact_line c m) (suc facts)
fact_fine facts c m is sums t small =
    let sign = at_sign c.op (sum_words c.right) in
    let h = sum_no_sign c.left (compare_word c.op ∷ sum_words c.right) is.left in
    let signed = h.signed ∙ sign.0 in
    let left = h.left ∙ ap (λ l. sum_words c.left ++ l) sign.1 ∙ append-nil (sum_words c.left) in
    let right = h.right ∙ sign.2 in
    record {
      plain = (record { unspaced = refl; unended = refl }, (signed_plain m (omega (arith, small)), both_plain (sum_words c.left) (compare_word c.op ∷ sum_words c.right) (sum_plain c.left is.left) (sign_plain c.op, sum_plain c.right is.right)));
      tagged = refl;
      stands = record {
        stands = (λ i. signed_form m small i && (signed i && ((ap is_sum left ∙ sum_form c.left sums.left is.left t.left) i && (ap is_sum right ∙ sum_form c.right sums.right is.right t.right) i)));
        in_range = (λ i. signed_range m small i && ((ap is_sum_in_range left ∙ sum_range c.left is.left t.left) i && (ap is_sum_in_range right ∙ sum_range c.right is.right t.right) i));
      };
      next_is = refl;
    }
