-- Code behind other code, and the arguments of a call one after another.
use Rattle.std.proofs.Common.{◌≡◌, ℕ, zero, suc, pos, negsuc, ◌+◌, ◌-◌, ◌^◌, ◌<◌, ◌≤◌, ℤ, Bool, true, List, [], ◌∷◌, ◌++◌, length, map, take, drop, get_or, All, FitsSigned, to_z, of_z, refl, sym, ap, ◌∙◌, subst, arith, add-one, drop-cons, append_assoc, append-nil}
use Rattle.std.specs.Int.{w32}
use Rattle.std.proofs.lemmas.Bool.Decides.{nat_tests}
use Rattle.std.proofs.lemmas.Int.{ints, to_z-of_z}
use Rattle.std.proofs.lemmas.List.{get_or-map, length-drop, length-map, map-append}
use Rattle.std.proofs.Math.Seq.{drop-nil, take-length}
use Rattle.rv_core.specs.Instructions.{Instruction, is_within}
use Rattle.asm_items.specs.declared.item.Item.{Item}
use Rattle.asm_items.specs.declared.item.Item.TheVariants as items
use Rattle.low_ir.specs.declared.places.Place.{Place}
use Rattle.low_ir.specs.declared.places.Place.TheVariants.{Register as InRegister, Slot}
use Rattle.low_ir.specs.Code.{Operand}
use Rattle.asm_program.specs.Frames.{Frame}
use Rattle.asm_program.specs.Emission.{pass_code, late_code}
use Rattle.asm_program.specs.Functions.{singles}
use Rattle.asm_program.specs.Ranges.{InOperand}
use Rattle.asm_emission.specs.declared.placed.PlacedOperand.{PlacedOperand}
use Rattle.asm_emission.specs.View.{operand_of}
use Rattle.asm_emission.specs.Passing.{goes_at_once, passed_code, loaded_code}

-- one piece of code more, of what was left
pub emitted : (old new start : List Item) (more rest all : List Instruction) → new ≡ old ++ singles more → all ≡ more ++ rest → old ++ singles all ≡ start → new ++ singles rest ≡ start
emitted old new start more rest all e split h =
    ap (λ l. l ++ singles rest) e
    ∙ append_assoc old (singles more) (singles rest)
    ∙ ap (λ l. old ++ l) (sym (map-append items.Single more rest))
    ∙ ap (λ l. old ++ singles l) (sym split)
    ∙ h

-- one instruction more
pub emitted_one : (old mid new : List Item) (first : List Instruction) (i j : Instruction) → mid ≡ old ++ singles first → new ≡ mid ++ items.Single i ∷ [] → i ≡ j → new ≡ old ++ singles (first ++ j ∷ [])
emitted_one old mid new first i j e h k =
    h
    ∙ ap (λ x. mid ++ items.Single x ∷ []) k
    ∙ ap (λ l. l ++ items.Single j ∷ []) e
    ∙ append_assoc old (singles first) (items.Single j ∷ [])
    ∙ ap (λ l. old ++ l) (sym (map-append items.Single first (j ∷ [])))

-- the offset of an instruction is a number of the code
pub offset-is : (o : ℤ) → is_within (2 ^ 11) o ≡ true → to_z w32 (of_z w32 o) ≡ o
offset-is (pos n) h =
    let less : n < 2 ^ 11 = grind (arith, nat_tests) in
    let fits : FitsSigned w32 (pos n) = omega (arith, ints) in
    to_z-of_z w32 (pos n) fits
offset-is (negsuc n) h =
    let less : n < 2 ^ 11 = grind (arith, nat_tests) in
    let fits : FitsSigned w32 (negsuc n) = omega (arith, ints) in
    to_z-of_z w32 (negsuc n) fits

take-rest : {A : Type 0} (xs : List A) (n : ℕ) → take (length xs - n) (drop n xs) ≡ drop n xs
take-rest xs n = ap (λ m. take m (drop n xs)) (sym (length-drop n xs)) ∙ take-length (drop n xs)

-- the element at a place, and those behind it
pub drop-next : {A : Type 0} (xs : List A) (k : ℕ) (d : A) → k < length xs → drop k xs ≡ get_or xs k d ∷ drop (k + 1) xs
drop-next xs k d less = rw add-one (drop-cons xs k d less)

drop-none : {A : Type 0} (xs : List A) (k : ℕ) → length xs ≤ k → drop k xs ≡ []
drop-none [] k h = drop-nil k
drop-none (x ∷ xs) zero h = absurd (omega arith)
drop-none (x ∷ xs) (suc k) h = drop-none xs k (omega arith)

pub operand-there : (args : List PlacedOperand) (k : ℕ) (d : PlacedOperand) → All InOperand (map operand_of args) → k < length args → InOperand (operand_of (get_or args k d))
operand-there args k d h less =
    let count = length-map args operand_of in
    subst InOperand (get_or-map operand_of args k d (operand_of d) less) (h k (operand_of d) (omega arith))

module _ (fr callee : Frame) (all : List Place) where
  pass-cons : (x : Operand Place) (xs : List (Operand Place)) (p : Place) (ps : List Place) → pass_code fr callee all (x ∷ xs) (p ∷ ps) ≡ passed_code fr callee (goes_at_once all p xs) x p ++ pass_code fr callee all xs ps
  pass-cons x xs (InRegister q) ps = refl
  pass-cons x xs (Slot k) ps = refl

  late-cons : (x : Operand Place) (xs : List (Operand Place)) (p : Place) (ps : List Place) → late_code fr callee all (x ∷ xs) (p ∷ ps) ≡ loaded_code fr callee (goes_at_once all p xs) p ++ late_code fr callee all xs ps
  late-cons x xs (InRegister q) ps = refl
  late-cons x xs (Slot k) ps = refl

  pass-none : (xs : List (Operand Place)) → pass_code fr callee all xs [] ≡ []
  pass-none [] = refl
  pass-none (x ∷ xs) = refl

  late-none : (xs : List (Operand Place)) → late_code fr callee all xs [] ≡ []
  late-none [] = refl
  late-none (x ∷ xs) = refl

  -- nothing is left behind the last place
  module _ (xs : List (Operand Place)) (places : List Place) (k : ℕ) (code start : List Item) (h : length places ≤ k) where
    pub pass-done : code ++ singles (pass_code fr callee all xs (drop k places)) ≡ start → code ≡ start
    pass-done e = sym (append-nil code) ∙ ap (λ l. code ++ singles l) (sym (ap (pass_code fr callee all xs) (drop-none places k h) ∙ pass-none xs)) ∙ e

    pub late-done : code ++ singles (late_code fr callee all xs (drop k places)) ≡ start → code ≡ start
    late-done e = sym (append-nil code) ∙ ap (λ l. code ++ singles l) (sym (ap (late_code fr callee all xs) (drop-none places k h) ∙ late-none xs)) ∙ e

  module _ (args : List PlacedOperand) (places : List Place) (k : ℕ) (x : PlacedOperand) (p : Place) (direct : Bool) (e : drop k args ≡ x ∷ drop (k + 1) args) (h : drop k places ≡ p ∷ drop (k + 1) places) (d : direct ≡ goes_at_once all p (map operand_of (take (length args - (k + 1)) (drop (k + 1) args)))) where
    abbrev later : List (Operand Place)
    later = map operand_of (drop (k + 1) args)

    direct-is : goes_at_once all p later ≡ direct
    direct-is = ap (λ l. goes_at_once all p (map operand_of l)) (sym (take-rest args (k + 1))) ∙ sym d

    pub pass-step : pass_code fr callee all (map operand_of (drop k args)) (drop k places) ≡ passed_code fr callee direct (operand_of x) p ++ pass_code fr callee all (map operand_of (drop (k + 1) args)) (drop (k + 1) places)
    pass-step =
        ap (λ l. pass_code fr callee all (map operand_of l) (drop k places)) e
        ∙ ap (pass_code fr callee all (operand_of x ∷ later)) h
        ∙ pass-cons (operand_of x) later p (drop (k + 1) places)
        ∙ ap (λ t. passed_code fr callee t (operand_of x) p ++ pass_code fr callee all later (drop (k + 1) places)) direct-is

    pub late-step : late_code fr callee all (map operand_of (drop k args)) (drop k places) ≡ loaded_code fr callee direct p ++ late_code fr callee all (map operand_of (drop (k + 1) args)) (drop (k + 1) places)
    late-step =
        ap (λ l. late_code fr callee all (map operand_of l) (drop k places)) e
        ∙ ap (late_code fr callee all (operand_of x ∷ later)) h
        ∙ late-cons (operand_of x) later p (drop (k + 1) places)
        ∙ ap (λ t. loaded_code fr callee t p ++ late_code fr callee all later (drop (k + 1) places)) direct-is
