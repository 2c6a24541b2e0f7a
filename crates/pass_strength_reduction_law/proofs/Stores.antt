-- Stores of two programs that differ in spare registers.
use Rattle.std.proofs.Common.{◌≡◌, ◌≢◌, ◌⊎◌, ◌<◌, ℕ, Bool, true, false, List, [], ◌∷◌, length, Option, Some, None, refl, sym, ap, ◌∙◌, subst, ⊎_elim, arith, get_or-set_same, get_or-set_other, length-set}
use Rattle.std.specs.Prelude.{All, slice_index_or, slice_set, nat_lt, ◌%◌, ◌^◌}
use Rattle.std.proofs.lemmas.Bool.{false≢true, ltb-true}
use Rattle.std.proofs.lemmas.Bool.Decides.{nat_tests}
use Rattle.std.proofs.lemmas.List.Elements.{All-head, All-tail}
use Rattle.low_ir.specs.Code.{Operand, Register, Constant}
use Rattle.low_ir.specs.declared.run.Value.{Value}
use Rattle.low_ir.specs.declared.run.Value.TheVariants.{Word}
use Rattle.low_ir.specs.Formed.{registers_in}
use Rattle.low_ir.specs.Runs.{Bank, operand_value, set_in, values, values_cons, virtual, write_all, write_to}
use Rattle.pass_strength_reduction_law.specs.Knowing.{with_value}
use Rattle.pass_strength_reduction_law.specs.Steps.{IsNamed}

lt_test : (a b : ℕ) → a < b → nat_lt a b ≡ true
lt_test a b h = grind (arith, nat_tests)

-- what a function names has the same value
abbrev pub Alike : (ℕ → Bool) → Bank → Bank → Type 0
Alike spare s t = (v : ℕ) → spare v ≡ false → slice_index_or s v None ≡ slice_index_or t v None

module _ (spare : ℕ → Bool) (s t : Bank) (alike : Alike spare s t) where
  pub value_same : (x : Operand ℕ) → All (IsNamed spare) (registers_in (x ∷ [])) → operand_value virtual t x ≡ operand_value virtual s x
  value_same (Register r) named = sym (alike r (All-head (IsNamed spare) r [] named))
  value_same (Constant w) named = refl

  pub values_same : (xs : List (Operand ℕ)) → All (IsNamed spare) (registers_in xs) → values virtual t xs ≡ values virtual s xs
  values_same [] named = refl
  values_same (Register r ∷ xs) named =
      ap (λ o. values_cons o (values virtual t xs)) (sym (alike r (All-head (IsNamed spare) r (registers_in xs) named)))
      ∙ ap (values_cons (slice_index_or s r None)) (values_same xs (All-tail (IsNamed spare) r (registers_in xs) named))
  values_same (Constant w ∷ xs) named = ap (values_cons (Some (Word (w % 2 ^ 32)))) (values_same xs named)

-- a register in each, if one was written
pub record BothWritten (spare : ℕ → Bool) (size : ℕ) (s2 t : Bank) (d : Option ℕ) (x : Value) : Type 0 where
  pub is : write_to virtual t d x ≡ Some (with_value t d x)
  pub wide : length s2 ≡ size
  pub long : length (with_value t d x) ≡ size
  pub alike : Alike spare s2 (with_value t d x)

pub both_written : (spare : ℕ → Bool) (size : ℕ) (s s2 t : Bank) (d : Option ℕ) (x : Value) → length s ≡ size → length t ≡ size → Alike spare s t → write_to virtual s d x ≡ Some s2 → BothWritten spare size s2 t d x
both_written spare size s s2 t None x wide long alike k =
    let is : s ≡ s2 = cc in
    record { is = refl; wide = ap length (sym is) ∙ wide; long = long; alike = subst (λ l. Alike spare l t) is alike }
both_written spare size s s2 t (Some d) x wide long alike k = by_test (nat_lt d (length s)) refl k
  where
    by_test : (c : Bool) → nat_lt d (length s) ≡ c → set_in s d x c ≡ Some s2 → BothWritten spare size s2 t (Some d) x
    by_test false g k = cc
    by_test true g k =
        let lt : d < length s = ltb-true d (length s) g in
        let lt2 : d < length t = omega (arith, wide, long, lt) in
        let is : slice_set s d (Some x) ≡ s2 = cc in
        record {
          is = ap (set_in t d x) (lt_test d (length t) lt2);
          wide = ap length (sym is) ∙ length-set s d (Some x) ∙ wide;
          long = length-set t d (Some x) ∙ long;
          alike = subst (λ l. Alike spare l (slice_set t d (Some x))) is (λ v named. by_register lt lt2 v (named_or v) named);
        }
      where
        named_or : (v : ℕ) → (v ≡ d) ⊎ (v ≢ d)
        named_or v = grind (arith, nat_tests)

        by_register : d < length s → d < length t → (v : ℕ) → (v ≡ d) ⊎ (v ≢ d) → spare v ≡ false → slice_index_or (slice_set s d (Some x)) v None ≡ slice_index_or (slice_set t d (Some x)) v None
        by_register lt lt2 v c named =
            ⊎_elim
            (λ (same : v ≡ d).
            ap (λ n. slice_index_or (slice_set s d (Some x)) n None) same
            ∙ get_or-set_same s d (Some x) None lt
            ∙ sym (get_or-set_same t d (Some x) None lt2)
            ∙ ap (λ n. slice_index_or (slice_set t d (Some x)) n None) (sym same))
            (λ (other : v ≢ d). get_or-set_other s d v (Some x) None other ∙ alike v named ∙ sym (get_or-set_other t d v (Some x) None other))
            c

-- a spare register was written in the second alone
pub record SpareWritten (spare : ℕ → Bool) (size : ℕ) (s t : Bank) (e : ℕ) (x : Value) : Type 0 where
  pub is : write_to virtual t (Some e) x ≡ Some (slice_set t e (Some x))
  pub long : length (slice_set t e (Some x)) ≡ size
  pub alike : Alike spare s (slice_set t e (Some x))

pub spare_written : (spare : ℕ → Bool) (size : ℕ) (s t : Bank) (e : ℕ) (x : Value) → spare e ≡ true → e < size → length t ≡ size → Alike spare s t → SpareWritten spare size s t e x
spare_written spare size s t e x spared low long alike =
    let lt : e < length t = omega (arith, low, long) in
    record {
      is = ap (set_in t e x) (lt_test e (length t) lt);
      long = length-set t e (Some x) ∙ long;
      alike = λ v named. alike v named ∙ sym (get_or-set_other t e v (Some x) None (λ same. false≢true (sym named ∙ ap spare same ∙ spared)));
    }

set_length : (s s2 : Bank) (d : ℕ) (x : Value) (c : Bool) → set_in s d x c ≡ Some s2 → length s2 ≡ length s
set_length s s2 d x false e = cc
set_length s s2 d x true e =
    let is : slice_set s d (Some x) ≡ s2 = cc in
    ap length (sym is) ∙ length-set s d (Some x)

none_all : (rs : List ℕ) (xs : List Value) (s : Bank) → write_all virtual None rs xs ≡ Some s → ⊥
none_all [] xs s e = cc
none_all (r ∷ rs) xs s e = cc

-- arguments leave a store as long as it is
pub all_length : (rs : List ℕ) (xs : List Value) (s s2 : Bank) → write_all virtual (Some s) rs xs ≡ Some s2 → length s2 ≡ length s
all_length [] [] s s2 e = let is : s ≡ s2 = cc in ap length (sym is)
all_length [] (x ∷ xs) s s2 e = cc
all_length (r ∷ rs) [] s s2 e = cc
all_length (r ∷ rs) (x ∷ xs) s s2 e = by_write (λ s1 k. all_length rs xs s1 s2 k) (virtual.write s r x) refl e
  where
    by_write : ((s1 : Bank) → write_all virtual (Some s1) rs xs ≡ Some s2 → length s2 ≡ length s1) → (o : Option Bank) → virtual.write s r x ≡ o → write_all virtual o rs xs ≡ Some s2 → length s2 ≡ length s
    by_write rest None g k = absurd (none_all rs xs s2 k)
    by_write rest (Some s1) g k = rest s1 k ∙ set_length s s1 r x (nat_lt r (length s)) g
