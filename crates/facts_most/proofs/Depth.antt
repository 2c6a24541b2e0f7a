-- A function's count doesn't depend on how many calls are looked at, once these are more than its rank.
use Rattle.std.proofs.Common.{◌≡◌, refl, ap, ◌∙◌, sym, subst, ℕ, zero, suc, ◌+◌, ◌*◌, ◌<◌, ◌≤◌, List, [], ◌∷◌, length, map, get_or, ◌⊎◌, inl, inr, arith, Bool, true, false}
use Rattle.std.proofs.lemmas.Bool.{false≢true, lt-ltb}
use Rattle.std.specs.Prelude.{Option, Some, None, slice_get, nat_lt, if◌then◌else◌}
use Rattle.types_calls.specs.Calls.{calls_below, function_calls, graph_of}
use Rattle.types_calls.specs.Chains.{Among, AreRanks}
use Rattle.facts_definitions.specs.Most.{cut, function_most, most_of, most_within}
use Rattle.facts_definitions.specs.declared.facts.Bounds.{Bounds}
use Rattle.types_tree.specs.Tree.{Function, Program}
use Rattle.facts_most.proofs.Alike.{Alike, function_part}
use Rattle.facts_most.proofs.Cut.{cut-add, cut-mul}

pub equal : Alike (λ a b. a ≡ b)
equal = record {
  same = λ n. refl;
  sums = λ a b c d p q. ap (λ x. x + c) p ∙ ap (λ x. b + x) q;
  products = λ n a b p. ap (λ x. n * x) p;
}

pub equally_cut : Alike (λ a b. cut a ≡ cut b)
equally_cut = record {
  same = λ n. refl;
  sums = λ a b c d p q. sym (cut-add a c) ∙ (ap (λ x. cut (x + cut c)) p ∙ ap (λ x. cut (cut b + x)) q) ∙ cut-add b d;
  products = λ n a b p. sym (cut-mul n a) ∙ ap (λ x. cut (cut n * x)) p ∙ cut-mul n b;
}

kept_at : (n x g : ℕ) (rest : List ℕ) → g < n → (b : Bool) → nat_lt x n ≡ b → (g ≡ x) ⊎ Among g rest → Among g (if b then x ∷ rest else rest)
kept_at n x g rest h true e a = a
kept_at n x g rest h false e (inr a) = a
kept_at n x g rest h false e (inl same) = absurd (false≢true (sym e ∙ lt-ltb x n (subst (λ y. y < n) same h)))

kept : (n g : ℕ) (xs : List ℕ) → g < n → Among g xs → Among g (calls_below n xs)
kept n g [] h a = absurd a
kept n g (x ∷ xs) h (inl same) = kept_at n x g (calls_below n xs) h (nat_lt x n) refl (inl same)
kept n g (x ∷ xs) h (inr a) = kept_at n x g (calls_below n xs) h (nat_lt x n) refl (inr (kept n g xs h a))

row_at : (n f : ℕ) (fs : List Function) (function : Function) → slice_get fs f ≡ Some function → get_or (map (λ (f : Function). calls_below n (function_calls f)) fs) f [] ≡ calls_below n (function_calls function)
row_at n zero (x ∷ fs) function e = ap (λ (o : Option Function). calls_below n (function_calls (or_this function o))) e
  where
    or_this : Function → Option Function → Function
    or_this d None = d
    or_this d (Some x) = x
row_at n (suc f) (x ∷ fs) function e = row_at n f fs function e
row_at n zero [] function e = cc
row_at n (suc f) [] function e = cc

past_end : (fs : List Function) (g : ℕ) → length fs ≤ g → slice_get fs g ≡ None
past_end [] zero h = refl
past_end [] (suc g) h = refl
past_end (x ∷ fs) zero h = absurd (omega (arith, h))
past_end (x ∷ fs) (suc g) h = past_end fs g (omega (arith, h))

pub nothing_past : (program : Program) (bounds : List Bounds) (d g : ℕ) → length program.functions ≤ g → most_within program bounds d g ≡ 0
nothing_past program bounds zero g h = refl
nothing_past program bounds (suc d) g h = ap (function_most bounds (most_within program bounds d)) (past_end program.functions g h)

pub below_or_above : (f n : ℕ) → (f < n) ⊎ (n ≤ f)
below_or_above f zero = inr (omega arith)
below_or_above zero (suc n) = inl (omega arith)
below_or_above (suc f) (suc n) = up (below_or_above f n)
  where
    up : (f < n) ⊎ (n ≤ f) → (suc f < suc n) ⊎ (suc n ≤ suc f)
    up (inl h) = inl (omega (arith, h))
    up (inr h) = inr (omega (arith, h))

-- what a function calls has a lower rank, or is no function
pub falls : (program : Program) (ranks : List ℕ) (f g : ℕ) (function : Function) → AreRanks (graph_of program) ranks → slice_get program.functions f ≡ Some function → Among g (function_calls function) → g < length program.functions → get_or ranks g 0 < get_or ranks f 0
falls program ranks f g function r e a h =
    r.falls f g (subst (Among g) (sym (row_at (length program.functions) f program.functions function e)) (kept (length program.functions) g (function_calls function) h a))

same_at : (program : Program) (bounds : List Bounds) (ranks : List ℕ) → AreRanks (graph_of program) ranks → (n d f g : ℕ) (function : Function) → ((e g : ℕ) → e ≤ n → get_or ranks g 0 < e → most_within program bounds e g ≡ most_of program bounds ranks g) → d ≤ n → get_or ranks f 0 ≤ d → slice_get program.functions f ≡ Some function → Among g (function_calls function) → (g < length program.functions) ⊎ (length program.functions ≤ g) → most_within program bounds d g ≡ most_within program bounds (get_or ranks f 0) g
same_at program bounds ranks r n d f g function below le lt e a (inr past) = nothing_past program bounds d g past ∙ sym (nothing_past program bounds (get_or ranks f 0) g past)
same_at program bounds ranks r n d f g function below le lt e a (inl within) =
    let lower = falls program ranks f g function r e a within in
    below d g le (omega (arith, lower, lt)) ∙ sym (below (get_or ranks f 0) g (omega (arith, le, lt)) lower)

same_function : (program : Program) (bounds : List Bounds) (ranks : List ℕ) → AreRanks (graph_of program) ranks → (n d f : ℕ) → ((e g : ℕ) → e ≤ n → get_or ranks g 0 < e → most_within program bounds e g ≡ most_of program bounds ranks g) → d ≤ n → get_or ranks f 0 ≤ d → (o : Option Function) → slice_get program.functions f ≡ o → function_most bounds (most_within program bounds d) o ≡ function_most bounds (most_within program bounds (get_or ranks f 0)) o
same_function program bounds ranks r n d f below le lt None e = refl
same_function program bounds ranks r n d f below le lt (Some function) e =
    (function_part (λ a b. a ≡ b) equal (most_within program bounds d) (most_within program bounds (get_or ranks f 0)) bounds function).alike
    (record { here = λ g a. same_at program bounds ranks r n d f g function below le lt e a (below_or_above g (length program.functions)) })

-- by the depth, which falls
pub stable : (program : Program) (bounds : List Bounds) (ranks : List ℕ) → AreRanks (graph_of program) ranks → (n d f : ℕ) → d ≤ n → get_or ranks f 0 < d → most_within program bounds d f ≡ most_of program bounds ranks f
stable program bounds ranks r zero d f le lt = absurd (omega (arith, le, lt))
stable program bounds ranks r (suc n) zero f le lt = absurd (omega (arith, lt))
stable program bounds ranks r (suc n) (suc d) f le lt =
    same_function program bounds ranks r n d f (λ e g h k. stable program bounds ranks r n e g h k) (omega (arith, le)) (omega (arith, lt)) (slice_get program.functions f) refl
