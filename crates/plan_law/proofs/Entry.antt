-- The body of a function that serves keeps to its frame.
use Rattle.std.proofs.Common.{◌≡◌, ℕ, suc, ◌+◌, ◌<◌, ◌≤◌, Bool, true, false, List, [], ◌∷◌, length, refl, sym, ◌∙◌, subst, arith}
use Rattle.std.specs.Prelude.{◌&&◌, nat_eq, nat_le, nat_lt}
use Rattle.std.proofs.lemmas.Bool.{and_parts, eqb-false, eqb-true, le-leb, leb-true, lt-ltb, ltb-false, ltb-true}
use Rattle.types_tree.specs.Tree as c
use Rattle.high_ir.specs.declared.object.Array.{Array}
use Rattle.high_ir.specs.Tree as high
use Rattle.plan_definition.specs.declared.home.Home.TheVariants.{Frame, Memory}
use Rattle.plan_runs.specs.ExpressionFits.{Formal, OfArray, OfWord, Signatures}
use Rattle.plan_runs.specs.Meets.{Layout, home}
use Rattle.plan_runs.specs.StatementFits.{block_declares, with_live}
use Rattle.plan_runs.specs.Flows.{Rest}
use Rattle.plan_runs.specs.Serves.{AreParameters, Serves, are_from, at_entry, words_in}
use Rattle.plan_formed.specs.Framed.{ItemsFramed}
use Rattle.plan_law.proofs.Framed.{block_own, either, items_framed}

none_from : (first o : ℕ) → are_from first 0 o ≡ true → ⊥
none_from first o h =
    let parts = and_parts (nat_le first o) (nat_lt o (first + 0)) h in
    never first o (leb-true first o parts.0) (ltb-true o (first + 0) parts.1)
  where
    never : (x y : ℕ) → x ≤ y → y < x + 0 → ⊥
    never x y le lt = omega (arith, le, lt)

-- behind the first of them
from_next : (first n o : ℕ) → are_from first (suc n) o ≡ true → (o ≡ first → ⊥) → are_from (first + 1) n o ≡ true
from_next first n o h other =
    let parts = and_parts (nat_le first o) (nat_lt o (first + suc n)) h in
    both (nat_le (first + 1) o) (nat_lt o (first + 1 + n)) (le-leb (first + 1) o (above first o (leb-true first o parts.0) other)) (lt-ltb o (first + 1 + n) (below first n o (ltb-true o (first + suc n) parts.1)))
  where
    both : (a b : Bool) → a ≡ true → b ≡ true → (a && b) ≡ true
    both true b e k = k
    both false b e k = e

    above : (x y : ℕ) → x ≤ y → (y ≡ x → ⊥) → x + 1 ≤ y
    above x y le ne = of (nat_lt x y) refl
      where
        of : (b : Bool) → nat_lt x y ≡ b → x + 1 ≤ y
        of true e = next x y (ltb-true x y e)
          where
            next : (x y : ℕ) → x < y → x + 1 ≤ y
            next x y lt = omega (arith, lt)
        of false e = absurd (ne (same x y le (ltb-false x y e)))
          where
            same : (x y : ℕ) → x ≤ y → y ≤ x → y ≡ x
            same x y a b = omega (arith, a, b)

    below : (x n y : ℕ) → y < x + suc n → y < x + 1 + n
    below x n y lt = omega (arith, lt)

same_variable : (x y : ℕ) → Frame x ≡ Frame y → x ≡ y
same_variable x y e = cc e

not_both : (x : ℕ) (array : Array) → Frame x ≡ Memory array → ⊥
not_both x array e = cc e

-- parameters that are words have the first variables
params_below : (layout : Layout) (object variable parameter : ℕ) (formals : List Formal) → AreParameters layout object variable parameter formals → (o x : ℕ) → are_from object (length formals) o ≡ true → home layout o ≡ Frame x → x < variable + words_in formals
params_below layout object variable parameter [] are o x from e = absurd (none_from object o from)
params_below layout object variable parameter (OfWord kind ∷ rest) are o x from e = of (nat_eq o object) refl (λ other. params_below layout (object + 1) (variable + 1) parameter rest are.2 o x (from_next object (length rest) o from other) e)
  where
    first : o ≡ object → x < variable + (words_in rest + 1)
    first is = here x variable (words_in rest) (same_variable x variable (sym e ∙ (subst (λ p. home layout p ≡ Frame variable) (sym is) are.0)))
      where
        here : (x v w : ℕ) → x ≡ v → x < v + (w + 1)
        here x v w e = omega (arith, e)

    of : (b : Bool) → nat_eq o object ≡ b → ((o ≡ object → ⊥) → x < variable + 1 + words_in rest) → x < variable + (words_in rest + 1)
    of true is later = first (eqb-true o object is)
    of false is later = omega (arith, later (eqb-false o object is))
params_below layout object variable parameter (OfArray kind constant ∷ rest) are o x from e = of (nat_eq o object) refl (λ other. params_below layout (object + 1) variable (parameter + 1) rest are.3 o x (from_next object (length rest) o from other) e)
  where
    of : (b : Bool) → nat_eq o object ≡ b → ((o ≡ object → ⊥) → x < variable + words_in rest) → x < variable + words_in rest
    of true is later = absurd (not_both x are.0.array (sym e ∙ subst (λ p. home layout p ≡ Memory are.0.array) (sym (eqb-true o object is)) are.0.lives))
    of false is later = later (eqb-false o object is)

pub serves_framed : (layout : Layout) (signatures : Signatures) (rest : Rest) (number first : ℕ) (body : c.Items) (h : high.Function) → (s : Serves layout signatures rest number first body h) → ItemsFramed layout.homes s.variables body
serves_framed layout signatures rest number first body h s =
    let entry = at_entry layout signatures number first s.variables in
    let f = with_live entry (block_declares body) in
    let formals = signatures.parameters number in
    items_framed layout signatures (signatures.results number) rest.bounds f
    (record {
      by = λ o x live e. either (are_from first (length formals) o) (block_declares body o) (x < s.variables) live
          (λ old. within x (words_in formals) s.variables (params_below layout first 0 0 formals s.parameters o x old e) s.enough)
          (λ new. (block_own layout signatures (signatures.results number) rest.bounds f body o new s.fits).1 x e);
    }) body s.fits
  where
    within : (x w v : ℕ) → x < 0 + w → w ≤ v → x < v
    within x w v lt le = omega (arith, lt, le)
