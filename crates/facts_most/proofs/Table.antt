-- The counts of functions, rank by rank.
use Rattle.std.proofs.Common.{◌≡◌, ◌≢◌, refl, ap, ◌∙◌, sym, ℕ, zero, suc, ◌+◌, ◌<◌, ◌≤◌, List, [], ◌∷◌, length, map, get_or, set, ◌⊎◌, inl, inr, arith}
use Rattle.std.specs.Prelude.{Some, slice_get}
use Rattle.std.proofs.lemmas.List.{get_or-set_same, get_or-set_other, length-set}
use Rattle.types_calls.specs.Calls.{function_calls, graph_of}
use Rattle.types_calls.specs.Chains.{Among, AreRanks}
use Rattle.facts_definitions.specs.Most.{cut, function_most, most_of, most_within}
use Rattle.facts_definitions.specs.declared.facts.Bounds.{Bounds}
use Rattle.types_tree.specs.Tree.{Function, Program}
use Rattle.types_tree.specs.View.{function_of}
use Rattle.types_tree.specs.declared.external.Function as functions
use Rattle.facts_most.specs.Items.{calls_by}
use Rattle.facts_most.specs.Ranked.{IsMostBelow}
use Rattle.facts_most.proofs.Alike.{function_part}
use Rattle.facts_most.proofs.Cut.{cut-cut}
use Rattle.facts_most.proofs.Depth.{below_or_above, equally_cut, falls, nothing_past, stable}

-- the functions of lower ranks are right, and of this rank those before i
pub record IsFilling (program : Program) (bounds : List Bounds) (ranks : List ℕ) (rank i : ℕ) (most : List ℕ) : Type 0 where
  pub size : length most ≡ length program.functions
  pub lower : (g : ℕ) → get_or ranks g 0 < rank → get_or most g 0 ≡ cut (most_of program bounds ranks g)
  pub same : (g : ℕ) → get_or ranks g 0 ≡ rank → g < i → get_or most g 0 ≡ cut (most_of program bounds ranks g)

past_zero : (xs : List ℕ) (g : ℕ) → length xs ≤ g → get_or xs g 0 ≡ 0
past_zero [] g h = refl
past_zero (x ∷ xs) zero h = absurd (omega (arith, h))
past_zero (x ∷ xs) (suc g) h = past_zero xs g (omega (arith, h))

same_or_not : (g f : ℕ) → (g ≡ f) ⊎ (g ≢ f)
same_or_not zero zero = inl refl
same_or_not zero (suc f) = inr (λ e. omega (arith, e))
same_or_not (suc g) zero = inr (λ e. omega (arith, e))
same_or_not (suc g) (suc f) = lift (same_or_not g f)
  where
    lift : (g ≡ f) ⊎ (g ≢ f) → (suc g ≡ suc f) ⊎ (suc g ≢ suc f)
    lift (inl e) = inl (ap suc e)
    lift (inr h) = inr (λ e. h (omega (arith, e)))

module _ (program : Program) (bounds : List Bounds) (ranks : List ℕ) (r : AreRanks (graph_of program) ranks) where
  called_at : (f g rank : ℕ) (function : Function) (most : List ℕ) → IsMostBelow program bounds ranks rank most → get_or ranks f 0 ≡ rank → slice_get program.functions f ≡ Some function → Among g (function_calls function) → (g < length program.functions) ⊎ (length program.functions ≤ g) → cut (calls_by most g) ≡ cut (most_within program bounds (get_or ranks f 0) g)
  called_at f g rank function most b same e a (inr past) =
      ap cut (past_zero most g (omega (arith, past, b.size)) ∙ sym (nothing_past program bounds (get_or ranks f 0) g past))
  called_at f g rank function most b same e a (inl within) =
      let lower = falls program ranks f g function r e a within in
      ap cut (b.right g (omega (arith, lower, same))) ∙ cut-cut (most_of program bounds ranks g)
      ∙ ap cut (sym (stable program bounds ranks r (get_or ranks f 0) (get_or ranks f 0) g (omega arith) lower))

  -- what is found of a function is right
  pub found_right : (f rank : ℕ) (function : Function) (most : List ℕ) → IsMostBelow program bounds ranks rank most → get_or ranks f 0 ≡ rank → slice_get program.functions f ≡ Some function → cut (function_most bounds (calls_by most) (Some function)) ≡ cut (most_of program bounds ranks f)
  found_right f rank function most b same e =
      (function_part (λ a b. cut a ≡ cut b) equally_cut (calls_by most) (most_within program bounds (get_or ranks f 0)) bounds function).alike
      (record { here = λ g a. called_at f g rank function most b same e a (below_or_above g (length program.functions)) })
      ∙ ap (λ o. cut (function_most bounds (most_within program bounds (get_or ranks f 0)) o)) (sym e)

  pub filling_begins : (rank : ℕ) (most : List ℕ) → IsMostBelow program bounds ranks rank most → IsFilling program bounds ranks rank 0 most
  filling_begins rank most b = record { size = b.size; lower = b.right; same = λ g e h. absurd (omega (arith, h)) }

  pub below_filling : (rank i : ℕ) (most : List ℕ) → IsFilling program bounds ranks rank i most → IsMostBelow program bounds ranks rank most
  below_filling rank i most b = record { size = b.size; right = b.lower }

  set_right : (f g number : ℕ) (most : List ℕ) → f < length most → number ≡ cut (most_of program bounds ranks f) → (g ≢ f → get_or most g 0 ≡ cut (most_of program bounds ranks g)) → (g ≡ f) ⊎ (g ≢ f) → get_or (set most f number) g 0 ≡ cut (most_of program bounds ranks g)
  set_right f g number most h e other (inl same) =
      ap (λ x. get_or (set most f number) x 0) same ∙ get_or-set_same most f number 0 h ∙ e ∙ ap (λ x. cut (most_of program bounds ranks x)) (sym same)
  set_right f g number most h e other (inr apart) = get_or-set_other most f g number 0 apart ∙ other apart

  -- a function of this rank
  pub filling_found : (rank f number : ℕ) (most : List ℕ) → IsFilling program bounds ranks rank f most → f < length program.functions → number ≡ cut (most_of program bounds ranks f) → IsFilling program bounds ranks rank (f + 1) (set most f number)
  filling_found rank f number most b h e =
      let within : f < length most = omega (arith, h, b.size) in
      record {
        size = length-set most f number ∙ b.size;
        lower = λ g l. set_right f g number most within e (λ apart. b.lower g l) (same_or_not g f);
        same = λ g s l. set_right f g number most within e (λ apart. b.same g s (omega (arith, l, apart))) (same_or_not g f);
      }

  -- one of another rank
  pub filling_passed : (rank f : ℕ) (most : List ℕ) → IsFilling program bounds ranks rank f most → get_or ranks f 0 ≢ rank → IsFilling program bounds ranks rank (f + 1) most
  filling_passed rank f most b other = record {
    size = b.size;
    lower = b.lower;
    same = λ g s l. passed_at g s l (same_or_not g f);
  }
    where
      passed_at : (g : ℕ) → get_or ranks g 0 ≡ rank → g < f + 1 → (g ≡ f) ⊎ (g ≢ f) → get_or most g 0 ≡ cut (most_of program bounds ranks g)
      passed_at g s l (inl same) = absurd (other (ap (λ x. get_or ranks x 0) (sym same) ∙ s))
      passed_at g s l (inr apart) = b.same g s (omega (arith, l, apart))

  no_function : (g : ℕ) (most : List ℕ) → length most ≡ length program.functions → length program.functions ≤ g → get_or most g 0 ≡ cut (most_of program bounds ranks g)
  no_function g most s past = past_zero most g (omega (arith, past, s)) ∙ ap cut (sym (nothing_past program bounds (suc (get_or ranks g 0)) g past))

  pub filling_ends : (rank i : ℕ) (most : List ℕ) → length program.functions ≤ i → IsFilling program bounds ranks rank i most → IsMostBelow program bounds ranks (rank + 1) most
  filling_ends rank i most past b = record { size = b.size; right = λ g l. right_at g l (below_or_above (get_or ranks g 0) rank) (below_or_above g (length program.functions)) }
    where
      right_at : (g : ℕ) → get_or ranks g 0 < rank + 1 → (get_or ranks g 0 < rank) ⊎ (rank ≤ get_or ranks g 0) → (g < length program.functions) ⊎ (length program.functions ≤ g) → get_or most g 0 ≡ cut (most_of program bounds ranks g)
      right_at g l (inl lower) w = b.lower g lower
      right_at g l (inr same) (inl within) = b.same g (omega (arith, l, same)) (omega (arith, within, past))
      right_at g l (inr same) (inr beyond) = no_function g most b.size beyond

pub function_at : (fs : List functions.Function) (f : ℕ) (function : functions.Function) → f < length fs → function ≡ get_or fs f function → slice_get (map function_of fs) f ≡ Some (function_of function)
function_at [] f function h e = absurd (omega (arith, h))
function_at (x ∷ fs) zero function h e = ap (λ y. Some (function_of y)) (sym e)
function_at (x ∷ fs) (suc f) function h e = function_at fs f function (omega (arith, h)) e

pub length_functions : (fs : List functions.Function) → length (map function_of fs) ≡ length fs
length_functions [] = refl
length_functions (f ∷ fs) = ap suc (length_functions fs)
