-- Stores of two programs, written side by side.
use Rattle.std.proofs.Common.{◌≡◌, ◌≢◌, ◌<◌, ◌≤◌, ℕ, zero, suc, Bool, true, false, List, [], ◌∷◌, length, Option, Some, None, refl, sym, ap, ◌∙◌, subst, ⊎_elim, arith, get_or-set_same, get_or-set_other, length-set}
use Rattle.std.specs.Prelude.{map, slice_index_or, slice_set, nat_lt, ◌%◌, ◌^◌}
use Rattle.std.proofs.lemmas.Bool.Decides.{nat_tests}
use Rattle.std.proofs.lemmas.Bool.{cases_eq, ltb-true}
use Rattle.low_ir.specs.Code.{Operand, Register, Constant}
use Rattle.low_ir.specs.declared.run.Value.{Value}
use Rattle.low_ir.specs.declared.run.Value.TheVariants.{Word}
use Rattle.low_ir.specs.Runs.{Bank, operand_value, set_in, values, values_cons, virtual, write_all, write_to}
use Rattle.pass_copy_propagation_law.specs.Renaming.{renamed_into, renamed_operand}
use Rattle.pass_copy_propagation_law.specs.Copies.{Becomes, Copied, Finds, Stands, Standing}

-- what stands somewhere has the same value there, or none in both
abbrev pub Shows : Standing → Bank → Bank → Type 0
Shows at s t = (v w : ℕ) → at v ≡ Some w → slice_index_or s v None ≡ slice_index_or t w None

lt_test : (a b : ℕ) → a < b → nat_lt a b ≡ true
lt_test a b h = grind (arith, nat_tests)

-- a register in each, if one was written
pub record BothWritten (size : ℕ) (now : Standing) (s2 t : Bank) (d : Option ℕ) (e : ℕ) (x : Value) : Type 0 where
  pub store : Bank
  pub is : write_to virtual t (renamed_into e d) x ≡ Some store
  pub long : length store ≡ size
  pub shows : Shows now s2 store

pub both_written : (size : ℕ) (at now : Standing) (s s2 t : Bank) (d : Option ℕ) (e : ℕ) (x : Value) → length t ≡ size → Becomes size d e at now → Shows at s t → write_to virtual s d x ≡ Some s2 → BothWritten size now s2 t d e x
both_written size at now s s2 t None e x long b h k =
    let is : s ≡ s2 = cc in
    record { store = t; is = refl; long = long; shows = subst (λ l. Shows now l t) is (λ v w q. h v w (b v w q)) }
both_written size at now s s2 t (Some d) e x long b h k = by_test (nat_lt d (length s)) refl k
  where
    by_test : (c : Bool) → nat_lt d (length s) ≡ c → set_in s d x c ≡ Some s2 → BothWritten size now s2 t (Some d) e x
    by_test false g k = cc
    by_test true g k =
        let lt : d < length s = ltb-true d (length s) g in
        let few : e < size = b.0 in
        let lt2 : e < length t = omega arith in
        let is : slice_set s d (Some x) ≡ s2 = cc in
        record {
          store = slice_set t e (Some x);
          is = ap (set_in t e x) (lt_test e (length t) lt2);
          long = length-set t e (Some x) ∙ long;
          shows =
              subst (λ l. Shows now l (slice_set t e (Some x))) is
              (λ v w q.
              ⊎_elim
              (λ (new : (v ≡ d) × (w ≡ e)).
              ap (λ n. slice_index_or (slice_set s d (Some x)) n None) new.0
              ∙ get_or-set_same s d (Some x) None lt
              ∙ sym (get_or-set_same t e (Some x) None lt2)
              ∙ ap (λ n. slice_index_or (slice_set t e (Some x)) n None) (sym new.1))
              (λ (old : (v ≢ d) × (w ≢ e) × (at v ≡ Some w)).
              get_or-set_other s d v (Some x) None old.0 ∙ h v w old.2 ∙ sym (get_or-set_other t e w (Some x) None old.1))
              (b.1 v w q));
        }

-- the value of an operand stands where the operand stands
stands_there : (at : Standing) (s t : Bank) (x : Operand ℕ) (y : Value) (w : ℕ) → Shows at s t → Stands at x w → operand_value virtual s x ≡ Some y → slice_index_or t w None ≡ Some y
stands_there at s t (Register r) y w h stands e = sym (h r w stands) ∙ e
stands_there at s t (Constant c) y w h stands e = absurd stands

-- a copy was written in the first alone
pub copy_written : (at now : Standing) (s s2 t : Bank) (d : ℕ) (x : Operand ℕ) (y : Value) → Copied d x at now → Shows at s t → operand_value virtual s x ≡ Some y → write_to virtual s (Some d) y ≡ Some s2 → Shows now s2 t
copy_written at now s s2 t d x y copied h value k = by_test (nat_lt d (length s)) refl k
  where
    by_test : (c : Bool) → nat_lt d (length s) ≡ c → set_in s d y c ≡ Some s2 → Shows now s2 t
    by_test false g k = cc
    by_test true g k =
        let lt : d < length s = ltb-true d (length s) g in
        let is : slice_set s d (Some y) ≡ s2 = cc in
        subst (λ l. Shows now l t) is
        (λ v w q.
        ⊎_elim
        (λ (new : (v ≡ d) × Stands at x w).
        ap (λ n. slice_index_or (slice_set s d (Some y)) n None) new.0
        ∙ get_or-set_same s d (Some y) None lt
        ∙ sym (stands_there at s t x y w h new.1 value))
        (λ (old : (v ≢ d) × (at v ≡ Some w)). get_or-set_other s d v (Some y) None old.0 ∙ h v w old.1)
        (copied v w q))

-- operands have the same values where they stand
pub values_found : (at : Standing) (name : ℕ → ℕ) (s t : Bank) → Shows at s t → (xs : List (Operand ℕ)) → Finds at name xs → values virtual t (map (renamed_operand name) xs) ≡ values virtual s xs
values_found at name s t h [] f = refl
values_found at name s t h (Register r ∷ xs) f =
    ap (λ o. values_cons o (values virtual t (map (renamed_operand name) xs))) (sym (h r (name r) f.0))
    ∙ ap (λ o. values_cons (slice_index_or s r None) o) (values_found at name s t h xs f.1)
values_found at name s t h (Constant w ∷ xs) f = ap (λ o. values_cons (Some (Word (w % 2 ^ 32))) o) (values_found at name s t h xs f)

pub value_found : (at : Standing) (name : ℕ → ℕ) (s t : Bank) → Shows at s t → (x : Operand ℕ) (xs : List (Operand ℕ)) → Finds at name (x ∷ xs) → operand_value virtual t (renamed_operand name x) ≡ operand_value virtual s x
value_found at name s t h (Register r) xs f = sym (h r (name r) f.0)
value_found at name s t h (Constant w) xs f = refl

pub finds_rest : (at : Standing) (name : ℕ → ℕ) (x : Operand ℕ) (xs : List (Operand ℕ)) → Finds at name (x ∷ xs) → Finds at name xs
finds_rest at name (Register r) xs f = f.1
finds_rest at name (Constant w) xs f = f

none_all : (rs : List ℕ) (xs : List Value) (s : Bank) → write_all virtual None rs xs ≡ Some s → ⊥
none_all [] xs s e = cc
none_all (r ∷ rs) xs s e = cc

-- stores with the same values, of which one may be longer
abbrev pub Alike : Bank → Bank → Type 0
Alike s t = (v : ℕ) → slice_index_or s v None ≡ slice_index_or t v None

nothing_there : (n v : ℕ) → slice_index_or (virtual.empty n) v None ≡ None
nothing_there zero v = refl
nothing_there (suc n) zero = refl
nothing_there (suc n) (suc v) = nothing_there n v

pub empties_alike : (m n : ℕ) → Alike (virtual.empty m) (virtual.empty n)
empties_alike m n v = nothing_there m v ∙ sym (nothing_there n v)

set_alike : (s t : Bank) (r : ℕ) (x : Value) → r < length s → r < length t → Alike s t → Alike (slice_set s r (Some x)) (slice_set t r (Some x))
set_alike s t r x lt lt2 same v =
    ⊎_elim
    (λ (here : v ≡ r).
    ap (λ n. slice_index_or (slice_set s r (Some x)) n None) here
    ∙ get_or-set_same s r (Some x) None lt
    ∙ sym (get_or-set_same t r (Some x) None lt2)
    ∙ ap (λ n. slice_index_or (slice_set t r (Some x)) n None) (sym here))
    (λ (other : v ≢ r). get_or-set_other s r v (Some x) None other ∙ same v ∙ sym (get_or-set_other t r v (Some x) None other))
    (cases_eq v r)

-- arguments were written to the longer one
pub record Longer (rs : List ℕ) (xs : List Value) (s2 t : Bank) : Type 0 where
  pub store : Bank
  pub is : write_all virtual (Some t) rs xs ≡ Some store
  pub long : length store ≡ length t
  pub alike : Alike s2 store

pub written_longer : (rs : List ℕ) (xs : List Value) (s t s2 : Bank) → length s ≤ length t → Alike s t → write_all virtual (Some s) rs xs ≡ Some s2 → Longer rs xs s2 t
written_longer [] [] s t s2 le same e = let is : s ≡ s2 = cc in record { store = t; is = refl; long = refl; alike = subst (λ l. Alike l t) is same }
written_longer [] (x ∷ xs) s t s2 le same e = cc
written_longer (r ∷ rs) [] s t s2 le same e = cc
written_longer (r ∷ rs) (x ∷ xs) s t s2 le same e = by_test (λ s1 t1 le1 same1 e1. written_longer rs xs s1 t1 s2 le1 same1 e1) (nat_lt r (length s)) refl e
  where
    by_test : ((s1 t1 : Bank) → length s1 ≤ length t1 → Alike s1 t1 → write_all virtual (Some s1) rs xs ≡ Some s2 → Longer rs xs s2 t1) → (c : Bool) → nat_lt r (length s) ≡ c → write_all virtual (set_in s r x c) rs xs ≡ Some s2 → Longer (r ∷ rs) (x ∷ xs) s2 t
    by_test longer false g k = absurd (none_all rs xs s2 k)
    by_test longer true g k =
        let lt : r < length s = ltb-true r (length s) g in
        let lt2 : r < length t = omega arith in
        let as_long = length-set s r (Some x) in
        let as_long2 = length-set t r (Some x) in
        let rest = longer (slice_set s r (Some x)) (slice_set t r (Some x)) (omega arith) (set_alike s t r x lt lt2 same) k in
        record {
          store = rest.store;
          is = ap (λ c. write_all virtual (set_in t r x c) rs xs) (lt_test r (length t) lt2) ∙ rest.is;
          long = rest.long ∙ as_long2;
          alike = rest.alike;
        }
