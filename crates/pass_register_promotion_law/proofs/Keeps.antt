-- The code by which a register gets what an element keeps of a word.
use Rattle.std.proofs.Common.{◌≡◌, ◌<◌, ℕ, ◌%◌, ◌^◌, List, [], ◌∷◌, ◌++◌, length, Some, None, refl, sym, ap, ◌∙◌, subst, get_or-set_same, get_or-set_other, length-set}
use Rattle.std.specs.Prelude.{slice_index_or, slice_set}
use Rattle.rv_core.specs.declared.row.Alu.{Alu}
use Rattle.rv_core.specs.declared.row.Alu.TheVariants.{BitAnd, ShiftLeft, ShiftRight, ShiftRightSigned}
use Rattle.rv_core.specs.Arithmetic.{alu_value}
use Rattle.low_ir.specs.declared.object.Kind.{Kind}
use Rattle.low_ir.specs.declared.object.Kind.TheVariants.{Unsigned8, Signed8, Unsigned16, Signed16, Word as WordKind}
use Rattle.low_ir.specs.declared.run.Value.TheVariants.{Word}
use Rattle.low_ir.specs.Kinds.{converted}
use Rattle.low_ir.specs.Code.{Operand, Register, Constant, Plain, Set, Operate, Do, End, Low}
use Rattle.low_ir.specs.Effects.{World, dest, effect_of, reads}
use Rattle.low_ir.specs.Runs.{Going, Bank, finish, goes_on, operand_value, run, set_in, step, values, values_cons, virtual}
use Rattle.pass_constant_hoisting.proofs.Stores.{lt_test}
use Rattle.low_parts.proofs.Runs.{LowRunning, LowWaiting}
use Rattle.pass_common_subexpressions_law.proofs.Words.{converted_word}
use Rattle.pass_register_promotion_law.specs.Promoting.{keeping, shifted}
use Rattle.pass_register_promotion_law.proofs.Filling.{LowCode, running}
use Rattle.pass_register_promotion_law.proofs.Narrow.{converted_low, mask8_keeps, shift16_keeps, shift8_keeps, signed16_keeps}
use Rattle.pass_register_promotion_law.proofs.Scalars.{IsWritten}

set_word : (t : Bank) (s v : ℕ) → s < length t → IsWritten t (slice_set t s (Some (Word v))) s v
set_word t s v few =
    record {
      size = length-set t s (Some (Word v));
      at = get_or-set_same t s (Some (Word v)) None few;
      other = λ n d. get_or-set_other t s n (Some (Word v)) None d;
    }

-- twice the same register
set_twice : (t now last : Bank) (s a b : ℕ) → IsWritten t now s a → IsWritten now last s b → IsWritten t last s b
set_twice t now last s a b h k = record { size = k.size ∙ h.size; at = k.at; other = λ n d. k.other n d ∙ h.other n d }

module _ (q : Low) (f : ℕ) (is : LowCode) (end : End ℕ) (below : List LowWaiting) (u : World) where
  -- an instruction that gives a word
  one_step : (t : Bank) (i : Plain ℕ) (js : LowCode) (s v : ℕ) → s < length t → dest i ≡ Some s → effect_of q.claims i (values virtual t (reads i)) u ≡ Some (record { world = u; value = Word v }) → step virtual q (Going (running f (Do i ∷ js) end t below u)) ≡ Going (running f js end (slice_set t s (Some (Word v))) below u)
  one_step t i js s v few to does =
      let z : LowRunning = running f (Do i ∷ js) end t below u in
      ap (λ d. finish virtual z js d (effect_of q.claims i (values virtual t (reads i)) u)) to
      ∙ ap (finish virtual z js (Some s)) does
      ∙ ap (λ b. goes_on z js u (set_in t s (Word v) b)) (lt_test s (length t) few)

  pub record Kept (t : Bank) (code : LowCode) (s v : ℕ) : Type 0 where
    pub steps : ℕ
    pub bank : Bank
    pub runs : run virtual q steps (Going (running f (code ++ is) end t below u)) ≡ Going (running f is end bank below u)
    pub written : IsWritten t bank s v

  -- by one instruction
  by_one : (t : Bank) (i : Plain ℕ) (s v k : ℕ) → s < length t → dest i ≡ Some s → effect_of q.claims i (values virtual t (reads i)) u ≡ Some (record { world = u; value = Word v }) → v ≡ k → Kept t (Do i ∷ []) s k
  by_one t i s v k few to does same =
      record { steps = 1; bank = slice_set t s (Some (Word v)); runs = one_step t i is s v few to does; written = subst (IsWritten t (slice_set t s (Some (Word v))) s) same (set_word t s v few) }

  -- by two shifts
  by_two : (t : Bank) (back : Alu) (s r n w k : ℕ) → s < length t → slice_index_or t r None ≡ Some (Word w) → alu_value back (alu_value ShiftLeft w (n % 2 ^ 32)) (n % 2 ^ 32) ≡ k → Kept t (shifted back s r n) s k
  by_two t back s r n w k few e same =
      let a = alu_value ShiftLeft w (n % 2 ^ 32) in
      let b = alu_value back a (n % 2 ^ 32) in
      let t1 = slice_set t s (Some (Word a)) in
      let h = set_word t s a few in
      let few1 : s < length t1 = subst (λ m. s < m) (sym h.size) few in
      let first : Plain ℕ = Operate ShiftLeft s (Register r) (Constant n) in
      let second : Plain ℕ = Operate back s (Register s) (Constant n) in
      record {
        steps = 2;
        bank = slice_set t1 s (Some (Word b));
        runs = ap (step virtual q) (one_step t first (Do second ∷ is) s a few refl (ap (λ o. effect_of q.claims first (values_cons o (Some (Word (n % 2 ^ 32) ∷ []))) u) e))
            ∙ one_step t1 second is s b few1 refl (ap (λ o. effect_of q.claims second (values_cons o (Some (Word (n % 2 ^ 32) ∷ []))) u) h.at);
        written = subst (IsWritten t (slice_set t1 s (Some (Word b))) s) same (set_twice t t1 (slice_set t1 s (Some (Word b))) s a b h (set_word t1 s b few1));
      }

  of_register : (t : Bank) (kind : Kind) (s r w : ℕ) → s < length t → w < 2 ^ 32 → slice_index_or t r None ≡ Some (Word w) → Kept t (keeping kind s (Register r)) s (converted kind w)
  of_register t Unsigned8 s r w few small e =
      by_one t (Operate BitAnd s (Register r) (Constant 255)) s (alu_value BitAnd w 255) (converted Unsigned8 w) few refl (ap (λ o. effect_of q.claims (Operate BitAnd s (Register r) (Constant 255)) (values_cons o (Some (Word 255 ∷ []))) u) e) (mask8_keeps w)
  of_register t Signed8 s r w few small e = by_two t ShiftRightSigned s r 24 w (converted Signed8 w) few e (shift8_keeps w)
  of_register t Unsigned16 s r w few small e = by_two t ShiftRight s r 16 w (converted Unsigned16 w) few e (shift16_keeps w)
  of_register t Signed16 s r w few small e = by_two t ShiftRightSigned s r 16 w (converted Signed16 w) few e (signed16_keeps w)
  of_register t WordKind s r w few small e =
      by_one t (Set s (Register r)) s w (converted WordKind w) few refl (ap (λ o. effect_of q.claims (Set s (Register r)) (values_cons o (Some [])) u) e) (sym (converted_word w small))

  pub kept : (t : Bank) (kind : Kind) (s : ℕ) (x : Operand ℕ) (w : ℕ) → s < length t → w < 2 ^ 32 → operand_value virtual t x ≡ Some (Word w) → Kept t (keeping kind s x) s (converted kind w)
  kept t kind s (Register r) w few small e = of_register t kind s r w few small e
  kept t kind s (Constant c) w few small e =
      let same : c % 2 ^ 32 ≡ w = cc in
      by_one t (Set s (Constant (converted kind c))) s (converted kind c % 2 ^ 32) (converted kind w) few refl refl (converted_low kind c ∙ ap (converted kind) same)
