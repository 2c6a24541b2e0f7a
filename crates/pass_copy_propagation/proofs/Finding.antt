-- Operands and addresses where they stand.
use Rattle.std.proofs.Common.{◌≡◌, ◌+◌, ◌<◌, ◌≤◌, ℕ, drop, length, List, [], ◌∷◌, ◌++◌, map, refl, sym, ap, ◌∙◌, subst}
use Rattle.std.specs.Prelude.{slice_index_or}
use Rattle.std.proofs.lemmas.List.{append-nil, append_assoc, drop_all, drop_more}
use Rattle.low_ir.specs.declared.instruction.Operand.{Operand as Operand'}
use Rattle.low_ir.specs.View.{operand_of}
use Rattle.low_ir.specs.Code.{Operand, Register, Constant}
use Rattle.pass_copy_propagation_law.specs.Copies.{Finds, Standing}
use Rattle.pass_copy_propagation_law.specs.Renaming.{renamed_operand}
use Rattle.pass_copy_propagation.specs.Knowing.{Knowing, stands}
use Rattle.pass_copy_propagation.specs.Making.{AreOperands, AreSoFar, IsOperand, name_in}

finds_join : (at : Standing) (name : ℕ → ℕ) (xs ys : List (Operand ℕ)) → Finds at name xs → Finds at name ys → Finds at name (xs ++ ys)
finds_join at name [] ys f g = g
finds_join at name (Register r ∷ xs) ys f g = (f.0, finds_join at name xs ys f.1 g)
finds_join at name (Constant w ∷ xs) ys f g = finds_join at name xs ys f g

finds_next : (at : Standing) (name : ℕ → ℕ) (x : Operand ℕ) (ys : List (Operand ℕ)) → Finds at name (x ∷ []) → Finds at name ys → Finds at name (x ∷ ys)
finds_next at name x ys f g = finds_join at name (x ∷ []) ys f g

pub none_found : (k : Knowing) → AreOperands k [] []
none_found k = record { are = refl; finds = tt }

pub next_found : (k : Knowing) (x y : Operand ℕ) (xs ys : List (Operand ℕ)) → IsOperand k x y → AreOperands k xs ys → AreOperands k (x ∷ xs) (y ∷ ys)
next_found k x y xs ys h g =
    record {
      are = ap (λ z. z ∷ ys) h.is ∙ ap (λ zs. renamed_operand (name_in k) x ∷ zs) g.are;
      finds = finds_next (stands k) (name_in k) x xs h.finds g.finds;
    }

-- one argument more
pub arguments_step : (k : Knowing) (xs : List Operand') (i : ℕ) (d : Operand') (y : Operand ℕ) (done more : List (Operand ℕ)) → i < length xs → AreSoFar k (map operand_of (drop i xs)) (map operand_of xs) done → IsOperand k (operand_of (slice_index_or xs i d)) y → more ≡ done ++ y ∷ [] → AreSoFar k (map operand_of (drop (i + 1) xs)) (map operand_of xs) more
arguments_step k xs i d y done more lt h found made =
    let x = slice_index_or xs i d in
    let rest = map operand_of (drop (i + 1) xs) in
    let left : map operand_of (drop i xs) ≡ operand_of x ∷ rest = ap (map operand_of) (drop_more xs i d lt) in
    record {
      by = λ ys all.
          subst (AreOperands k (map operand_of xs)) (sym (append_assoc done (y ∷ []) ys) ∙ sym (ap (λ l. l ++ ys) made))
          (h.by (y ∷ ys) (subst (λ l. AreOperands k l (y ∷ ys)) (sym left) (next_found k (operand_of x) y rest ys found all)));
    }

pub arguments_end : (k : Knowing) (xs : List Operand') (i : ℕ) (done : List (Operand ℕ)) → length xs ≤ i → AreSoFar k (map operand_of (drop i xs)) (map operand_of xs) done → AreOperands k (map operand_of xs) done
arguments_end k xs i done over h =
    let left : map operand_of (drop i xs) ≡ [] = ap (map operand_of) (drop_all i xs over) in
    subst (AreOperands k (map operand_of xs)) (append-nil done) (h.by [] (subst (λ l. AreOperands k l []) (sym left) (none_found k)))
