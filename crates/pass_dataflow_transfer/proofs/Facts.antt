-- Facts as registers are written.
use Rattle.std.proofs.Common.{◌≡◌, ◌≢◌, ◌<◌, ℕ, ◌+◌, ◌*◌, Bool, true, false, List, [], ◌∷◌, length, Some, None, refl, sym, ap, ◌∙◌, arith, get_or-set_same, get_or-set_other}
use Rattle.std.specs.Prelude.{◌-◌, ◌%◌, ◌^◌, ◌==◌, ◌&&◌, ◌||◌, not, slice_index_or, slice_set, if◌then◌else◌}
use Rattle.std.proofs.Math.Nat.{add-mul-mod_self_right}
use Rattle.std.proofs.lemmas.Bool.{eqb-true, eqb-false}
use Rattle.std.proofs.lemmas.Bool.Decides.{nat_tests}
use Rattle.low_ir.specs.declared.run.Value.{Value}
use Rattle.low_ir.specs.Runs.{Bank}
use Rattle.pass_dataflow_facts.specs.declared.facts.Fact.{Fact}
use Rattle.pass_dataflow_facts.specs.declared.facts.Origin.{Origin}
use Rattle.pass_dataflow_facts.specs.declared.forms.Form.{Form}
use Rattle.pass_dataflow_facts.specs.declared.forms.Term.{Term}
use Rattle.pass_dataflow_facts.specs.Facts.{is_from, is_true, number, number_in}
use Rattle.pass_dataflow_facts.specs.Forms.{Numbers, Same, are_of, factor_in, form_value, is_of, terms_value}
use Rattle.pass_dataflow_facts.proofs.Modulo.{same_multiple, same_numbers, same_sum}
use Rattle.pass_dataflow_transfer.specs.Learning.{Grows, Measures}

pub first_true : (a b : Bool) → (a && b) ≡ true → a ≡ true
first_true true b e = refl
first_true false b e = cc

pub second_true : (a b : Bool) → (a && b) ≡ true → b ≡ true
second_true true b e = e
second_true false b e = cc

pub both_true : (a b : Bool) → a ≡ true → b ≡ true → (a && b) ≡ true
both_true a b e f = ap (λ x. x && b) e ∙ f

first_false : (a b : Bool) → (a || b) ≡ false → a ≡ false
first_false true b e = cc
first_false false b e = refl

second_false : (a b : Bool) → (a || b) ≡ false → b ≡ false
second_false true b e = cc
second_false false b e = e

pub equal : (a b : ℕ) → a ≡ b → (a == b) ≡ true
equal a b e = grind (arith, nat_tests)

-- a fact is true where its register is of its origin, and its number what its form says
pub true_by : (s : Bank) (f : Fact) → is_from f.origin (slice_index_or s f.register None) ≡ true → Measures s (number_in s f.register) f.form → is_true s f ≡ true
true_by s f from is = both_true _ _ from (equal (number_in s f.register % 2 ^ 32) (form_value (number_in s) f.form % 2 ^ 32) is)

pub from_true : (s : Bank) (f : Fact) → is_true s f ≡ true → is_from f.origin (slice_index_or s f.register None) ≡ true
from_true s f e = first_true _ (number_in s f.register % 2 ^ 32 == form_value (number_in s) f.form % 2 ^ 32) e

pub measures_true : (s : Bank) (f : Fact) → is_true s f ≡ true → Measures s (number_in s f.register) f.form
measures_true s f e = eqb-true (number_in s f.register % 2 ^ 32) (form_value (number_in s) f.form % 2 ^ 32) (second_true (is_from f.origin (slice_index_or s f.register None)) _ e)

-- a register that isn't written
pub number_other : (s : Bank) (d r : ℕ) (v : Value) → r ≢ d → number_in (slice_set s d (Some v)) r ≡ number_in s r
number_other s d r v other = ap number (get_or-set_other s d r (Some v) None other)

-- a sum without a register is the same once that was written
pub spared : (s : Bank) (d : ℕ) (v : Value) (ts : List Term) → are_of d ts ≡ false → terms_value (number_in (slice_set s d (Some v))) ts ≡ terms_value (number_in s) ts
spared s d v [] e = refl
spared s d v (t ∷ ts) e =
    ap (λ n. n + terms_value (number_in (slice_set s d (Some v))) ts) (by_tests (t.register == d) (t.factor == 0) refl refl (first_false (is_of d t) (are_of d ts) e))
    ∙ ap (λ n. t.factor * number_in s t.register + n) (spared s d v ts (second_false (is_of d t) (are_of d ts) e))
  where
    by_tests : (x y : Bool) → (t.register == d) ≡ x → (t.factor == 0) ≡ y → (x && not y) ≡ false → t.factor * number_in (slice_set s d (Some v)) t.register ≡ t.factor * number_in s t.register
    by_tests false y ex ey h = ap (λ n. t.factor * n) (number_other s d t.register v (eqb-false t.register d ex))
    by_tests true true ex ey h =
        let none : t.factor ≡ 0 = eqb-true t.factor 0 ey in
        let zero : 0 * number_in (slice_set s d (Some v)) t.register ≡ 0 * number_in s t.register = omega arith in
        ap (λ f. f * number_in (slice_set s d (Some v)) t.register) none ∙ zero ∙ ap (λ f. f * number_in s t.register) (sym none)
    by_tests true false ex ey h = cc

pub form_spared : (s : Bank) (d : ℕ) (v : Value) (f : Form) → are_of d f.terms ≡ false → form_value (number_in (slice_set s d (Some v))) f ≡ form_value (number_in s) f
form_spared s d v f e = ap (λ n. f.constant + n) (spared s d v f.terms e)

-- a fact that doesn't have the register
pub survives_other : (s : Bank) (d : ℕ) (v : Value) (f : Fact) → f.register ≢ d → are_of d f.form.terms ≡ false → is_true s f ≡ true → is_true (slice_set s d (Some v)) f ≡ true
survives_other s d v f other e known =
    true_by (slice_set s d (Some v)) f
    (ap (is_from f.origin) (get_or-set_other s d f.register (Some v) None other) ∙ from_true s f known)
    (same_numbers _ _ (number_other s d f.register v other) ∙ measures_true s f known ∙ same_numbers _ _ (sym (form_spared s d v f.form e)))

-- of one that has it in its form the origin is left
pub survives_own : (s : Bank) (d : ℕ) (v : Value) (f g : Fact) → f.register ≢ d → g.register ≡ f.register → g.origin ≡ f.origin → form_value (number_in (slice_set s d (Some v))) g.form ≡ number_in (slice_set s d (Some v)) f.register → is_true s f ≡ true → is_true (slice_set s d (Some v)) g ≡ true
survives_own s d v f g other register origin own known =
    true_by (slice_set s d (Some v)) g
    (ap (λ r. is_from g.origin (slice_index_or (slice_set s d (Some v)) r None)) register
    ∙ ap (λ o. is_from o (slice_index_or (slice_set s d (Some v)) f.register None)) origin
    ∙ ap (is_from f.origin) (get_or-set_other s d f.register (Some v) None other)
    ∙ from_true s f known)
    (same_numbers _ _ (ap (number_in (slice_set s d (Some v))) register ∙ sym own))

-- what is known of a register that was written
pub written_true : (s : Bank) (d : ℕ) (v : Value) (g : Fact) → d < length s → g.register ≡ d → is_from g.origin (Some v) ≡ true → Same (number (Some v)) (form_value (number_in (slice_set s d (Some v))) g.form) → is_true (slice_set s d (Some v)) g ≡ true
written_true s d v g low register from is =
    let t = slice_set s d (Some v) in
    let here : slice_index_or t g.register None ≡ Some v = ap (λ r. slice_index_or t r None) register ∙ get_or-set_same s d (Some v) None low in
    true_by t g (ap (is_from g.origin) here ∙ from) (same_numbers _ _ (ap number here) ∙ is)

pub number_written : (s : Bank) (d : ℕ) (v : Value) → d < length s → number_in (slice_set s d (Some v)) d ≡ number (Some v)
number_written s d v low = ap number (get_or-set_same s d (Some v) None low)

-- where a register is stepped, sums grow by so many times as much as they have it
pub sums_grow : (s : Bank) (d by : ℕ) (v : Value) (ts : List Term) → d < length s → Same (number (Some v)) (number_in s d + by) → Same (terms_value (number_in (slice_set s d (Some v))) ts) (terms_value (number_in s) ts + factor_in d ts * by)
sums_grow s d by v [] low more = let none : 0 ≡ 0 + 0 * by = omega arith in same_numbers 0 (0 + 0 * by) none
sums_grow s d by v (t ∷ ts) low more = by_test (t.register == d) refl (sums_grow s d by v ts low more)
  where
    now : ℕ → ℕ
    now = number_in (slice_set s d (Some v))

    by_test : (x : Bool) → (t.register == d) ≡ x → Same (terms_value now ts) (terms_value (number_in s) ts + factor_in d ts * by) → Same (t.factor * now t.register + terms_value now ts) (t.factor * number_in s t.register + terms_value (number_in s) ts + ((if x then t.factor else 0) + factor_in d ts) * by)
    by_test true e rest =
        let at : t.register ≡ d = eqb-true t.register d e in
        let first : Same (t.factor * now t.register) (t.factor * (number_in s d + by)) =
        same_numbers _ _ (ap (λ r. t.factor * now r) at) ∙ same_numbers _ _ (ap (λ n. t.factor * n) (number_written s d v low)) ∙ same_multiple t.factor (number (Some v)) (number_in s d + by) more in
        let own : t.factor * number_in s d ≡ t.factor * number_in s t.register = ap (λ r. t.factor * number_in s r) (sym at) in
        let whole : t.factor * (number_in s d + by) + (terms_value (number_in s) ts + factor_in d ts * by) ≡ t.factor * number_in s t.register + terms_value (number_in s) ts + (t.factor + factor_in d ts) * by = omega (arith, own) in
        same_sum _ _ _ _ first rest ∙ same_numbers _ _ whole
    by_test false e rest =
        let other : t.register ≢ d = eqb-false t.register d e in
        let own : t.factor * now t.register ≡ t.factor * number_in s t.register = ap (λ n. t.factor * n) (number_other s d t.register v other) in
        let whole : t.factor * number_in s t.register + (terms_value (number_in s) ts + factor_in d ts * by) ≡ t.factor * number_in s t.register + terms_value (number_in s) ts + (0 + factor_in d ts) * by = omega arith in
        same_sum _ _ _ _ (same_numbers _ _ own) rest ∙ same_numbers _ _ whole

-- what is to be added for a step, so that nothing is changed by both
pub opposite : (by factor less : ℕ) → less < 2 ^ 32 → Same less (factor * by) → Same (2 ^ 32 - less + factor * by) 0
opposite by factor less low same =
    let whole : 2 ^ 32 - less + less ≡ 2 ^ 32 = omega (arith, low) in
    same_sum (2 ^ 32 - less) (2 ^ 32 - less) (factor * by) less refl (sym same) ∙ same_numbers _ _ whole

-- a form, once what a step adds was taken out of it
pub taken_out : (s : Bank) (d by : ℕ) (v : Value) (f g : Form) (factor back : ℕ) → Grows s d by v → Same factor (factor_in d f.terms) → Same (back + factor * by) 0 → ((n : Numbers) → Same (form_value n g) (form_value n f + back)) → Same (form_value (number_in (slice_set s d (Some v))) g) (form_value (number_in s) f)
taken_out s d by v f g factor back grows is none moved =
    let now = number_in (slice_set s d (Some v)) in
    let turned : factor_in d f.terms * by ≡ by * factor_in d f.terms = omega arith in
    let back_turned : by * factor ≡ factor * by = omega arith in
    let added : Same (factor_in d f.terms * by) (factor * by) = same_numbers _ _ turned ∙ same_multiple by (factor_in d f.terms) factor (sym is) ∙ same_numbers _ _ back_turned in
    let grown : Same (terms_value now f.terms) (terms_value (number_in s) f.terms + factor * by) = sums_grow s d by v f.terms grows.there grows.more ∙ same_sum (terms_value (number_in s) f.terms) (terms_value (number_in s) f.terms) _ _ refl added in
    let first : f.constant + (terms_value (number_in s) f.terms + factor * by) + back ≡ f.constant + terms_value (number_in s) f.terms + (back + factor * by) = omega arith in
    let last : f.constant + terms_value (number_in s) f.terms + 0 ≡ f.constant + terms_value (number_in s) f.terms = omega arith in
    moved now
    ∙ same_sum (f.constant + terms_value now f.terms) (f.constant + (terms_value (number_in s) f.terms + factor * by)) back back (same_sum f.constant f.constant _ _ refl grown) refl
    ∙ same_numbers _ _ first
    ∙ same_sum (f.constant + terms_value (number_in s) f.terms) (f.constant + terms_value (number_in s) f.terms) _ _ refl none
    ∙ same_numbers _ _ last

abbrev fact : ℕ → Origin → Form → Fact
fact r o f = record { register = r; origin = o; form = f }

-- what is known of other registers
pub steps_other : (s : Bank) (d by : ℕ) (v : Value) (f : Fact) (g : Form) → f.register ≢ d → Same (form_value (number_in (slice_set s d (Some v))) g) (form_value (number_in s) f.form) → is_true s f ≡ true → is_true (slice_set s d (Some v)) (fact f.register f.origin g) ≡ true
steps_other s d by v f g other same known =
    true_by (slice_set s d (Some v)) (fact f.register f.origin g)
    (ap (is_from f.origin) (get_or-set_other s d f.register (Some v) None other) ∙ from_true s f known)
    (same_numbers _ _ (number_other s d f.register v other) ∙ measures_true s f known ∙ sym same)

-- and of the register itself
pub steps_own : (s : Bank) (d by : ℕ) (v : Value) (f : Fact) (g : Form) → f.register ≡ d → Grows s d by v → Same (form_value (number_in (slice_set s d (Some v))) g) (form_value (number_in s) f.form + by) → is_true s f ≡ true → is_true (slice_set s d (Some v)) (fact f.register f.origin g) ≡ true
steps_own s d by v f g own grows same known =
    written_true s d v (fact f.register f.origin g) grows.there own
    (grows.origin f.origin (ap (λ r. is_from f.origin (slice_index_or s r None)) (sym own) ∙ from_true s f known))
    (grows.more ∙ same_sum (number_in s d) (form_value (number_in s) f.form) by by (same_numbers _ _ (ap (number_in s) (sym own)) ∙ measures_true s f known) refl ∙ sym same)

-- numbers of which one less the other one is nothing
pub difference_none : (a b d : ℕ) → Same 0 d → Same d (a + 4294967295 * b) → Same a b
difference_none a b d none is =
    let whole : a + 4294967295 * b + b ≡ a + b * 2 ^ 32 = omega arith in
    let last : 0 + b ≡ b = omega arith in
    sym (add-mul-mod_self_right a b (2 ^ 32))
    ∙ same_numbers _ _ (sym whole)
    ∙ same_sum (a + 4294967295 * b) 0 b b (sym is ∙ sym none) refl
    ∙ same_numbers _ _ last

-- a term more of a sum
pub term_more : (more all term rest whole : ℕ) → Same more (all + term) → Same (all + (term + rest)) whole → Same (more + rest) whole
term_more more all term rest whole added before =
    let split : all + term + rest ≡ all + (term + rest) = omega arith in
    same_sum more (all + term) rest rest added refl ∙ same_numbers _ _ split ∙ before
