-- Stores in which registers hold the words that are known.
use Rattle.std.proofs.Common.{◌≡◌, ◌≢◌, ◌<◌, ◌⊎◌, ℕ, Bool, true, false, List, [], length, Option, Some, None, refl, sym, ap, ◌∙◌, subst, ⊎_elim, get_or-set_same, get_or-set_other}
use Rattle.std.specs.Prelude.{slice_index_or, slice_set, nat_lt, ◌%◌, ◌^◌}
use Rattle.std.proofs.lemmas.Bool.{ltb-true}
use Rattle.low_ir.specs.Code.{Operand, Register, Constant, Plain, Set, Operate, Point, Load, Store, Put, Get, Do}
use Rattle.low_ir.specs.declared.run.Value.{Value}
use Rattle.low_ir.specs.declared.run.Value.TheVariants.{Word}
use Rattle.low_ir.specs.Effects.{Did, World, effect_of, gives, reads}
use Rattle.low_ir.specs.Runs.{Bank, operand_value, set_in, values, values_cons, virtual, write_to}
use Rattle.pass_jump_threading_law.specs.Known.{Fewer, Known, word_of, word_written}

abbrev pub Shows : Known → Bank → Type 0
Shows known s = (r w : ℕ) → known r ≡ Some w → slice_index_or s r None ≡ Some (Word w)

pub fewer_shows : (known now : Known) (s : Bank) → Fewer known now → Shows known s → Shows now s
fewer_shows known now s fewer h r w e = h r w (fewer r w e)

pub word_shown : (known : Known) (s : Bank) → Shows known s → (x : Operand ℕ) (w : ℕ) → word_of known x ≡ Some w → operand_value virtual s x ≡ Some (Word w)
word_shown known s h (Register r) w e = h r w e
word_shown known s h (Constant c) w e =
    let is : c % 2 ^ 32 ≡ w = cc in
    ap (λ n. Some (Word n)) is

-- a register was written, if one was, with a value that is perhaps known
pub written_shows : (known now : Known) (d o : Option ℕ) (s s2 : Bank) (x : Value) → ((r w : ℕ) → now r ≡ Some w → ((d ≡ Some r) × (o ≡ Some w)) ⊎ ((d ≢ Some r) × (known r ≡ Some w))) → Shows known s → ((w : ℕ) → o ≡ Some w → x ≡ Word w) → write_to virtual s d x ≡ Some s2 → Shows now s2
written_shows known now None o s s2 x becomes h value k =
    let is : s ≡ s2 = cc in
    subst (Shows now) is
    (λ r w q.
    ⊎_elim
    (λ (new : (None ≡ Some r) × (o ≡ Some w)). let no : ⊥ = cc in absurd no)
    (λ (old : (None ≢ Some r) × (known r ≡ Some w)). h r w old.1)
    (becomes r w q))
written_shows known now (Some d) o s s2 x becomes h value k = by_test (nat_lt d (length s)) refl k
  where
    by_test : (c : Bool) → nat_lt d (length s) ≡ c → set_in s d x c ≡ Some s2 → Shows now s2
    by_test false g k = cc
    by_test true g k =
        let lt : d < length s = ltb-true d (length s) g in
        let is : slice_set s d (Some x) ≡ s2 = cc in
        subst (Shows now) is
        (λ r w q.
        ⊎_elim
        (λ (new : (Some d ≡ Some r) × (o ≡ Some w)).
        let same : d ≡ r = cc in
        ap (λ n. slice_index_or (slice_set s d (Some x)) n None) (sym same)
        ∙ get_or-set_same s d (Some x) None lt
        ∙ ap Some (value w new.1))
        (λ (old : (Some d ≢ Some r) × (known r ≡ Some w)).
        get_or-set_other s d r (Some x) None (λ e. old.0 (ap Some (sym e))) ∙ h r w old.1)
        (becomes r w q))

-- what an instruction gives is known where its word is
pub did_known : (known : Known) (s : Bank) (claims : List (List ℕ)) (u : World) (i : Plain ℕ) (did : Did) → Shows known s → effect_of claims i (values virtual s (reads i)) u ≡ Some did → (w : ℕ) → word_written known (Do i) ≡ Some w → did.value ≡ Word w
did_known known s claims u (Set d x) did h e w known_word =
    let value = word_shown known s h x w known_word in
    let gave : gives u (Word w) ≡ Some did = sym (ap (λ o. effect_of claims (Set d x) (values_cons o (Some [])) u) value) ∙ e in
    let is : record { world = u; value = Word w } ≡ did = cc in
    sym (ap (λ (k : Did). k.value) is)
did_known known s claims u (Operate operator d x y) did h e w known_word = cc
did_known known s claims u (Point d a) did h e w known_word = cc
did_known known s claims u (Load kind d a) did h e w known_word = cc
did_known known s claims u (Store kind a x) did h e w known_word = cc
did_known known s claims u (Put x) did h e w known_word = cc
did_known known s claims u (Get d) did h e w known_word = cc
