-- Which registers of arguments are loaded late, from words of the callee's frame.
use Rattle.std.proofs.Common.{◌≡◌, ℕ, Bool, true, false, List, [], ◌∷◌, ◌++◌, refl, sym, ap, ◌∙◌, arith}
use Rattle.std.specs.Prelude.{◌==◌, not, if◌then◌else◌}
use Rattle.std.proofs.lemmas.Bool.{and_parts}
use Rattle.std.proofs.lemmas.Bool.Decides.{nat_tests}
use Rattle.std.proofs.lemmas.List.{append_assoc}
use Rattle.low_ir.specs.declared.places.Place.{Place}
use Rattle.low_ir.specs.declared.places.Place.TheVariants.{Register as InRegister, Slot}
use Rattle.low_ir.specs.Code.{Operand}
use Rattle.low_ir.specs.Effects.{is_member}
use Rattle.asm_program.specs.Numbers.{machine_register}
use Rattle.asm_program.specs.Frames.{Frame, home_at}
use Rattle.asm_program.specs.Operands.{load_code}
use Rattle.asm_program.specs.Emission.{reads_register, registers_among, is_once, is_direct, return_code, late_code}
use Rattle.simulation_steps.proofs.Homes.{member_head, member_tail}

abbrev pub late_registers : List Place → List (Operand Place) → List Place → List ℕ
late_registers all [] ps = []
late_registers all (x ∷ xs) [] = []
late_registers all (x ∷ xs) (InRegister q ∷ ps) = if is_direct all q xs then late_registers all xs ps else q ∷ late_registers all xs ps
late_registers all (x ∷ xs) (Slot k ∷ ps) = late_registers all xs ps

-- the code that loads them
pub late_is : (fr callee : Frame) (all : List Place) (xs : List (Operand Place)) (ps : List Place) → late_code fr callee all xs ps ≡ return_code callee (late_registers all xs ps)
late_is fr callee all [] ps = refl
late_is fr callee all (x ∷ xs) [] = refl
late_is fr callee all (x ∷ xs) (Slot k ∷ ps) = late_is fr callee all xs ps
late_is fr callee all (x ∷ xs) (InRegister q ∷ ps) = by_direct (is_direct all q xs) (late_is fr callee all xs ps)
  where
    by_direct : (b : Bool) → late_code fr callee all xs ps ≡ return_code callee (late_registers all xs ps)
        → ((if b then [] else load_code (machine_register q) (home_at callee q)) ++ late_code fr callee all xs ps) ≡ return_code callee (if b then late_registers all xs ps else q ∷ late_registers all xs ps)
    by_direct true e = e
    by_direct false e = ap (λ is. load_code (machine_register q) (home_at callee q) ++ is) e

-- members of joined lists
member_right : (xs ys : List ℕ) (q : ℕ) → is_member ys q ≡ true → is_member (xs ++ ys) q ≡ true
member_right [] ys q h = h
member_right (x ∷ xs) ys q h = member_tail x q (xs ++ ys) (member_right xs ys q h)

no_member : (xs ys : List ℕ) (q : ℕ) → is_member xs q ≡ false → is_member ys q ≡ false → is_member (xs ++ ys) q ≡ false
no_member [] ys q e h = h
no_member (x ∷ xs) ys q e h = by_test (x == q) e (λ z. no_member xs ys q z h)
  where
    by_test : (b : Bool) → (if b then true else is_member xs q) ≡ false → (is_member xs q ≡ false → is_member (xs ++ ys) q ≡ false) → (if b then true else is_member (xs ++ ys) q) ≡ false
    by_test true z go = z
    by_test false z go = go z

no_member_left : (xs ys : List ℕ) (q : ℕ) → is_member (xs ++ ys) q ≡ false → is_member xs q ≡ false
no_member_left [] ys q e = refl
no_member_left (x ∷ xs) ys q e = by_test (x == q) e (λ z. no_member_left xs ys q z)
  where
    by_test : (b : Bool) → (if b then true else is_member (xs ++ ys) q) ≡ false → (is_member (xs ++ ys) q ≡ false → is_member xs q ≡ false) → (if b then true else is_member xs q) ≡ false
    by_test true z go = z
    by_test false z go = go z

no_member_right : (xs ys : List ℕ) (q : ℕ) → is_member (xs ++ ys) q ≡ false → is_member ys q ≡ false
no_member_right [] ys q e = e
no_member_right (x ∷ xs) ys q e = by_test (x == q) e (λ z. no_member_right xs ys q z)
  where
    by_test : (b : Bool) → (if b then true else is_member (xs ++ ys) q) ≡ false → (is_member (xs ++ ys) q ≡ false → is_member ys q ≡ false) → is_member ys q ≡ false
    by_test true z go = absurd cc
    by_test false z go = go z

same_test : (q : ℕ) → (q == q) ≡ true
same_test q = grind (arith, nat_tests)

not_true : (b : Bool) → not b ≡ true → b ≡ false
not_true false e = refl
not_true true e = absurd cc

-- only registers of parameters are loaded
pub late_among : (all : List Place) (q : ℕ) (xs : List (Operand Place)) (ps : List Place) → is_member (registers_among ps) q ≡ false → is_member (late_registers all xs ps) q ≡ false
late_among all q [] ps e = refl
late_among all q (x ∷ xs) [] e = refl
late_among all q (x ∷ xs) (Slot k ∷ ps) e = late_among all q xs ps e
late_among all q (x ∷ xs) (InRegister r ∷ ps) e = by_tests (r == q) (is_direct all r xs) refl e (λ h. late_among all q xs ps h)
  where
    by_tests : (b direct : Bool) → (r == q) ≡ b → (if b then true else is_member (registers_among ps) q) ≡ false → (is_member (registers_among ps) q ≡ false → is_member (late_registers all xs ps) q ≡ false)
        → is_member (if direct then late_registers all xs ps else r ∷ late_registers all xs ps) q ≡ false
    by_tests true direct t h go = absurd cc
    by_tests false true t h go = go h
    by_tests false false t h go = ap (λ b. if b then true else is_member (late_registers all xs ps) q) t ∙ go h

pub late_parameter : (all : List Place) (q : ℕ) (xs : List (Operand Place)) (ps : List Place) → is_member (late_registers all xs ps) q ≡ true → is_member (registers_among ps) q ≡ true
late_parameter all q xs ps e = by_member (is_member (registers_among ps) q) refl
  where
    by_member : (b : Bool) → is_member (registers_among ps) q ≡ b → b ≡ true
    by_member true t = refl
    by_member false t = let both : true ≡ false = sym e ∙ late_among all q xs ps t in cc

-- a register that is there once is neither before nor behind that place
once_apart : (q : ℕ) (before behind : List ℕ) → is_once q (before ++ q ∷ behind) ≡ true → (is_member before q ≡ false) × (is_member behind q ≡ false)
once_apart q [] behind e = (refl, not_true (is_member behind q) (sym (ap (λ b. if b then not (is_member behind q) else is_once q behind) (same_test q)) ∙ e))
once_apart q (x ∷ before) behind e = by_test (x == q) e (λ h. once_apart q before behind h)
  where
    by_test : (b : Bool) → (if b then not (is_member (before ++ q ∷ behind) q) else is_once q (before ++ q ∷ behind)) ≡ true → (is_once q (before ++ q ∷ behind) ≡ true → (is_member before q ≡ false) × (is_member behind q ≡ false))
        → ((if b then true else is_member before q) ≡ false) × (is_member behind q ≡ false)
    by_test true h go =
        let none = not_true (is_member (before ++ q ∷ behind) q) h in
        let both : true ≡ false = sym (member_right before (q ∷ behind) q (member_head q behind)) ∙ none in
        cc
    by_test false h go = go h

-- a list tells of each argument whether it is loaded late
abbrev pub AreTold : List ℕ → List Place → List (Operand Place) → List Place → Type 0
AreTold late all [] ps = Unit {0}
AreTold late all (x ∷ xs) [] = Unit {0}
AreTold late all (x ∷ xs) (InRegister q ∷ ps) = (is_member late q ≡ not (is_direct all q xs)) × AreTold late all xs ps
AreTold late all (x ∷ xs) (Slot k ∷ ps) = AreTold late all xs ps

told_from : (late : List ℕ) (all : List Place) (before first : List ℕ) (xs : List (Operand Place)) (ps : List Place) → registers_among all ≡ before ++ registers_among ps → late ≡ first ++ late_registers all xs ps → ((q : ℕ) → is_member before q ≡ false → is_member first q ≡ false) → AreTold late all xs ps
told_from late all before first [] ps is late_are few = tt
told_from late all before first (x ∷ xs) [] is late_are few = tt
told_from late all before first (x ∷ xs) (Slot k ∷ ps) is late_are few = told_from late all before first xs ps is late_are few
told_from late all before first (x ∷ xs) (InRegister q ∷ ps) is late_are few =
    by_direct (is_direct all q xs) refl late_are (λ firsts e h. told_from late all (before ++ q ∷ []) firsts xs ps (is ∙ sym (append_assoc before (q ∷ []) (registers_among ps))) e h)
  where
    by_direct : (b : Bool) → is_direct all q xs ≡ b → late ≡ first ++ (if b then late_registers all xs ps else q ∷ late_registers all xs ps)
        → ((firsts : List ℕ) → late ≡ firsts ++ late_registers all xs ps → ((r : ℕ) → is_member (before ++ q ∷ []) r ≡ false → is_member firsts r ≡ false) → AreTold late all xs ps) → (is_member late q ≡ not b) × AreTold late all xs ps
    by_direct true t e go =
        let parts = and_parts (not (reads_register q xs)) (is_once q (registers_among all)) t in
        let apart = once_apart q before (registers_among ps) (ap (is_once q) (sym is) ∙ parts.1) in (
          ap (λ ls. is_member ls q) e ∙ no_member first (late_registers all xs ps) q (few q apart.0) (late_among all q xs ps apart.1),
          go first e (λ r h. few r (no_member_left before (q ∷ []) r h)),
        )
    by_direct false t e go = (
      ap (λ ls. is_member ls q) e ∙ member_right first (q ∷ late_registers all xs ps) q (member_head q (late_registers all xs ps)),
      go (first ++ q ∷ []) (e ∙ sym (append_assoc first (q ∷ []) (late_registers all xs ps))) (λ r h. no_member first (q ∷ []) r (few r (no_member_left before (q ∷ []) r h)) (no_member_right before (q ∷ []) r h)),
    )

pub told : (all : List Place) (xs : List (Operand Place)) → AreTold (late_registers all xs all) all xs all
told all xs = told_from (late_registers all xs all) all [] [] xs all refl refl (λ q e. refl)
