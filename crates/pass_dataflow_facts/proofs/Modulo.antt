-- Numbers modulo 2^32, and sums of terms.
use Rattle.std.proofs.Common.{◌≡◌, ◌<◌, ℕ, zero, suc, ◌+◌, ◌*◌, Bool, true, false, List, [], ◌∷◌, length, refl, sym, ap, ◌∙◌, arith}
use Rattle.std.specs.Prelude.{◌%◌, ◌^◌, ◌==◌, ◌&&◌, not, slice_index_or, slice_set}
use Rattle.std.proofs.lemmas.Bool.{eqb-true}
use Rattle.std.proofs.Math.Nat.{add-mod-mod, mod-add-mod}
use Rattle.std.proofs.lemmas.Nat.{mul-mod_second}
use Rattle.pass_dataflow_facts.specs.declared.forms.Term.{Term}
use Rattle.pass_dataflow_facts.specs.Forms.{Numbers, Same, is_of, terms_value}

abbrev word : ℕ
word = 2 ^ 32

abbrev pub nothing : Term
nothing = record { register = 0; factor = 0 }

pub same_sum : (a b c d : ℕ) → Same a b → Same c d → Same (a + c) (b + d)
same_sum a b c d e f =
    sym (mod-add-mod a word c)
    ∙ ap (λ n. (n + c) % word) e
    ∙ mod-add-mod b word c
    ∙ sym (add-mod-mod b c word)
    ∙ ap (λ n. (b + n) % word) f
    ∙ add-mod-mod b d word

pub same_multiple : (k a b : ℕ) → Same a b → Same (k * a) (k * b)
same_multiple k a b e = sym (mul-mod_second k a word) ∙ ap (λ n. k * n % word) e ∙ mul-mod_second k b word

-- the same numbers, written otherwise
pub same_numbers : (a b : ℕ) → a ≡ b → Same a b
same_numbers a b e = ap (λ n. n % word) e

-- what is beside a term, and beside another one in its place
pub record Beside (v : Numbers) (ts : List Term) (at : ℕ) (new : Term) : Type 0 where
  pub rest : ℕ
  pub before : terms_value v ts ≡ (slice_index_or ts at nothing).factor * v (slice_index_or ts at nothing).register + rest
  pub after : terms_value v (slice_set ts at new) ≡ new.factor * v new.register + rest

pub beside : (v : Numbers) (ts : List Term) (at : ℕ) (new : Term) → at < length ts → Beside v ts at new
beside v [] at new lt = absurd (none lt)
  where
    none : at < 0 → ⊥
    none h = omega arith
beside v (t ∷ ts) zero new lt = record { rest = terms_value v ts; before = refl; after = refl }
beside v (t ∷ ts) (suc at) new lt =
    let more = beside v ts at new (less lt) in
    let before = more.before in
    let after = more.after in
    record {
      rest = t.factor * v t.register + more.rest;
      before = omega (arith, before);
      after = omega (arith, after);
    }
  where
    less : suc at < suc (length ts) → at < length ts
    less h = omega arith

first_true : (a b : Bool) → (a && b) ≡ true → a ≡ true
first_true true b e = refl
first_true false b e = cc

-- a multiple more of a register
pub more_of : (v : Numbers) (ts : List Term) (at c r f : ℕ) → at < length ts → is_of r (slice_index_or ts at nothing) ≡ true
    → Same (c + terms_value v (slice_set ts at (record { register = r; factor = ((slice_index_or ts at nothing).factor + f) % 2 ^ 32 }))) (c + terms_value v ts + f * v r)
more_of v ts at c r f lt is =
    let old = slice_index_or ts at nothing in
    let here : old.register ≡ r = eqb-true old.register r (first_true (old.register == r) (not (old.factor == 0)) is) in
    let b = beside v ts at (record { register = r; factor = (old.factor + f) % word }) lt in
    let first : old.factor * v old.register ≡ old.factor * v r = ap (λ n. old.factor * v n) here in
    let turned : (old.factor + f) % word * v r ≡ v r * ((old.factor + f) % word) = omega arith in
    let before = b.before in
    let after = b.after in
    let left : c + terms_value v (slice_set ts at (record { register = r; factor = (old.factor + f) % word })) ≡ c + b.rest + v r * ((old.factor + f) % word) = omega (arith, after, turned) in
    let right : c + b.rest + v r * (old.factor + f) ≡ c + terms_value v ts + f * v r = omega (arith, before, first) in
    same_numbers _ _ left
    ∙ same_sum (c + b.rest) (c + b.rest) (v r * ((old.factor + f) % word)) (v r * (old.factor + f)) refl (mul-mod_second (v r) (old.factor + f) word)
    ∙ same_numbers _ _ right

-- a product of factors, times a number
pub product_same : (f k n : ℕ) → Same (f * k % 2 ^ 32 * n) (k * (f * n))
product_same f k n =
    let turned : f * k % word * n ≡ n * (f * k % word) = omega arith in
    let back : n * (f * k) ≡ k * (f * n) = omega arith in
    ap (λ m. m % word) turned ∙ mul-mod_second n (f * k) word ∙ ap (λ m. m % word) back

-- a multiple of a sum, once a multiple of its first term was added to what is beside it
pub term_added : (v : Numbers) (k value more all rest : ℕ) (t : Term) (scaled : Term) → Same (value + k * (t.factor * v t.register + rest)) all → Same (scaled.factor * v scaled.register) (k * (t.factor * v t.register)) → Same more (value + scaled.factor * v scaled.register) → Same (more + k * rest) all
term_added v k value more all rest t scaled before scale added =
    let split : value + k * (t.factor * v t.register) + k * rest ≡ value + k * (t.factor * v t.register + rest) = omega arith in
    same_sum more (value + k * (t.factor * v t.register)) (k * rest) (k * rest)
    (added ∙ same_sum value value (scaled.factor * v scaled.register) (k * (t.factor * v t.register)) refl scale) refl
    ∙ same_numbers _ _ split
    ∙ before
