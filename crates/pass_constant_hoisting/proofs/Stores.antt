-- Stores of registers, and larger ones where registers behind them hold words, written side by side.
use Rattle.std.proofs.Common.{◌≡◌, ◌≢◌, ℕ, zero, suc, ◌+◌, ◌<◌, Bool, true, false, List, [], ◌∷◌, length, replicate, Option, Some, None, refl, sym, ap, ◌∙◌, subst, ⊎_elim, arith, get_or-set_same, get_or-set_other, length-set}
use Rattle.std.specs.Prelude.{◌%◌, ◌^◌, slice_index_or, slice_set, nat_lt}
use Rattle.std.proofs.lemmas.List.{length-replicate}
use Rattle.std.proofs.lemmas.Bool.Decides.{nat_tests}
use Rattle.std.proofs.lemmas.Bool.{cases_eq, ltb-true}
use Rattle.low_ir.specs.declared.run.Value.{Value}
use Rattle.low_ir.specs.declared.run.Value.TheVariants.{Word}
use Rattle.low_ir.specs.Runs.{Bank, set_in, virtual, write_to, write_all}

-- a register holds a word
abbrev pub Holds : Bank → ℕ → ℕ → Type 0
Holds t r w = slice_index_or t r None ≡ Some (Word (w % 2 ^ 32))

-- registers from r on hold words
abbrev pub AllHold : Bank → ℕ → List ℕ → Type 0
AllHold t r [] = Unit {0}
AllHold t r (w ∷ ws) = Holds t r w × AllHold t (suc r) ws

-- a store of n registers, and one of k more that has all its values
pub record Shows (n k : ℕ) (s t : Bank) : Type 0 where
  pub size : length s ≡ n
  pub larger : length t ≡ n + k
  pub same : (r : ℕ) (x : Value) → slice_index_or s r None ≡ Some x → slice_index_or t r None ≡ Some x

pub within : (s : Bank) (v : ℕ) (x : Value) → slice_index_or s v None ≡ Some x → v < length s
within [] v x e = cc
within (y ∷ s) zero x e = omega arith
within (y ∷ s) (suc v) x e = let h = within s v x e in omega arith

pub lt_test : (a b : ℕ) → a < b → nat_lt a b ≡ true
lt_test a b h = grind (arith, nat_tests)

-- a register below isn't one of them
pub hold_other : (t : Bank) (d r : ℕ) (ws : List ℕ) (x : Value) → d < r → AllHold t r ws → AllHold (slice_set t d (Some x)) r ws
hold_other t d r [] x low h = tt
hold_other t d r (w ∷ ws) x low h = (get_or-set_other t d r (Some x) None (λ e. absurd (omega (arith, low, e))) ∙ h.0, hold_other t d (suc r) ws x (omega (arith, low)) h.1)

-- a register, if one is written, in both stores
pub record Written (n k : ℕ) (s2 t : Bank) (d : Option ℕ) (x : Value) : Type 0 where
  pub bank : Bank
  pub is : write_to virtual t d x ≡ Some bank
  pub shows : Shows n k s2 bank
  pub holds : (ws : List ℕ) → AllHold t n ws → AllHold bank n ws

pub written : (n k : ℕ) (s s2 t : Bank) (d : Option ℕ) (x : Value) → Shows n k s t → write_to virtual s d x ≡ Some s2 → Written n k s2 t d x
written n k s s2 t None x h e = let is : s ≡ s2 = cc in record { bank = t; is = refl; shows = subst (λ y. Shows n k y t) is h; holds = λ ws a. a }
written n k s s2 t (Some d) x h e = by_test (nat_lt d (length s)) refl e
  where
    by_test : (b : Bool) → nat_lt d (length s) ≡ b → set_in s d x b ≡ Some s2 → Written n k s2 t (Some d) x
    by_test false g e = cc
    by_test true g e =
        let lt : d < length s = ltb-true d (length s) g in
        let is : slice_set s d (Some x) ≡ s2 = cc in
        let a = h.size in
        let b = h.larger in
        let lt2 : d < length t = omega (arith, lt, a, b) in
        record {
          bank = slice_set t d (Some x);
          is = ap (λ c. set_in t d x c) (lt_test d (length t) lt2);
          shows = subst (λ y. Shows n k y (slice_set t d (Some x))) is (record {
            size = length-set s d (Some x) ∙ h.size;
            larger = length-set t d (Some x) ∙ h.larger;
            same = λ r y q.
                ⊎_elim
                (λ (same : r ≡ d).
                let e2 : Some x ≡ Some y = sym (get_or-set_same s d (Some x) None lt) ∙ ap (λ m. slice_index_or (slice_set s d (Some x)) m None) (sym same) ∙ q in
                ap (λ m. slice_index_or (slice_set t d (Some x)) m None) same ∙ get_or-set_same t d (Some x) None lt2 ∙ e2)
                (λ (other : r ≢ d). get_or-set_other t d r (Some x) None other ∙ h.same r y (sym (get_or-set_other s d r (Some x) None other) ∙ q))
                (cases_eq r d);
          });
          holds = λ ws all. hold_other t d n ws x (omega (arith, lt, a)) all;
        }

pub record AllWritten (n k : ℕ) (s2 t : Bank) (rs : List ℕ) (xs : List Value) : Type 0 where
  pub bank : Bank
  pub is : write_all virtual (Some t) rs xs ≡ Some bank
  pub shows : Shows n k s2 bank

pub all_written : (n k : ℕ) (rs : List ℕ) (xs : List Value) (s s2 t : Bank) → Shows n k s t → write_all virtual (Some s) rs xs ≡ Some s2 → AllWritten n k s2 t rs xs
all_written n k [] [] s s2 t h e = let is : s ≡ s2 = cc in record { bank = t; is = refl; shows = subst (λ y. Shows n k y t) is h }
all_written n k [] (x ∷ xs) s s2 t h e = cc
all_written n k (r ∷ rs) [] s s2 t h e = cc
all_written n k (r ∷ rs) (x ∷ xs) s s2 t h e = by_first (write_to virtual s (Some r) x) refl e (λ s1 t1 h1 e1. all_written n k rs xs s1 s2 t1 h1 e1)
  where
    by_first : (o : Option Bank) → write_to virtual s (Some r) x ≡ o → write_all virtual o rs xs ≡ Some s2 → ((s1 t1 : Bank) → Shows n k s1 t1 → write_all virtual (Some s1) rs xs ≡ Some s2 → AllWritten n k s2 t1 rs xs) → AllWritten n k s2 t (r ∷ rs) (x ∷ xs)
    by_first None g e go = cc
    by_first (Some s1) g e go =
        let w = written n k s s1 t (Some r) x h g in
        let a = go s1 w.bank w.shows e in
        record { bank = a.bank; is = ap (λ o. write_all virtual o rs xs) w.is ∙ a.is; shows = a.shows }

none_in_replicate : (n v : ℕ) (x : Value) → slice_index_or (replicate {A = Option Value} n None) v None ≡ Some x → ⊥
none_in_replicate zero v x e = cc
none_in_replicate (suc n) zero x e = cc
none_in_replicate (suc n) (suc v) x e = none_in_replicate n v x e

-- at first nothing is written
pub empty_shows : (n k : ℕ) → Shows n k (virtual.empty n) (virtual.empty (n + k))
empty_shows n k =
    record {
      size = length-replicate {A = Option Value} n None;
      larger = length-replicate {A = Option Value} (n + k) None;
      same = λ r x e. absurd (none_in_replicate n r x e);
    }
