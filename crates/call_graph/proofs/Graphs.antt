-- The graph of a program, as the code has it, and its range.
use Rattle.std.proofs.Common.{◌≡◌, refl, ap, ◌∙◌, sym, subst, ℕ, zero, suc, ◌<◌, List, [], ◌∷◌, length, map, get_or, inl, inr, ◌++◌, ◌≤◌, drop, Bool, true, false, nat_lt, if◌then◌else◌}
use Rattle.std.proofs.Math.ListN.{drop_of_length-le}
use Rattle.std.proofs.lemmas.List.{append-nil}
use Rattle.std.proofs.lemmas.Bool.{ltb-true}
use Rattle.types_calls.specs.Calls.{calls_below, function_calls, graph_of}
use Rattle.types_calls.specs.Chains.{Among}
use Rattle.types_tree.specs.Tree as typed
use Rattle.types_tree.specs.View.{function_of}
use Rattle.types_tree.specs.declared.external.Function as functions
use Rattle.call_graph.specs.Items.{kept_calls}
use Rattle.call_graph.specs.Search.{IsInRange}

pub graph_same : (n : ℕ) (fs : List functions.Function) → map (kept_calls n) fs ≡ map (λ (f : typed.Function). calls_below n (function_calls f)) (map function_of fs)
graph_same n [] = refl
graph_same n (f ∷ fs) = ap (λ rest. kept_calls n f ∷ rest) (graph_same n fs)

pub length_functions : (fs : List functions.Function) → length (map function_of fs) ≡ length fs
length_functions [] = refl
length_functions (f ∷ fs) = ap suc (length_functions fs)

among_kept : (g n x : ℕ) (rest : List ℕ) → (Among g rest → g < n) → (b : Bool) → nat_lt x n ≡ b → Among g (if b then x ∷ rest else rest) → g < n
among_kept g n x rest h true e (inl same) = subst (λ y. y < n) (sym same) (ltb-true x n e)
among_kept g n x rest h true e (inr behind) = h behind
among_kept g n x rest h false e behind = h behind

among_below : (g n : ℕ) (xs : List ℕ) → Among g (calls_below n xs) → g < n
among_below g n [] a = absurd a
among_below g n (x ∷ xs) a = among_kept g n x (calls_below n xs) (among_below g n xs) (nat_lt x n) refl a

below_at : (n : ℕ) (fs : List typed.Function) (f g : ℕ) → Among g (get_or (map (λ (f : typed.Function). calls_below n (function_calls f)) fs) f []) → g < n
below_at n [] f g a = absurd a
below_at n (x ∷ fs) zero g a = among_below g n (function_calls x) a
below_at n (x ∷ fs) (suc f) g a = below_at n fs f g a

length_graph : (n : ℕ) (fs : List typed.Function) → length (map (λ (f : typed.Function). calls_below n (function_calls f)) fs) ≡ length fs
length_graph n [] = refl
length_graph n (f ∷ fs) = ap suc (length_graph n fs)

pub graph_range : (program : typed.Program) → IsInRange (graph_of program)
graph_range program = record { within = λ f g a. subst (λ n. g < n) (sym (length_graph (length program.functions) program.functions)) (below_at (length program.functions) program.functions f g a) }

-- all functions are done
pub graph_whole : (count i : ℕ) (fs gs : List functions.Function) (graph : List (List ℕ)) → count ≡ length gs → gs ≡ fs → length gs ≤ i → graph ++ map (kept_calls count) (drop i gs) ≡ map (kept_calls count) gs → graph ≡ map (λ (f : typed.Function). calls_below (length (map function_of fs)) (function_calls f)) (map function_of fs)
graph_whole count i fs gs graph c s past e =
    let none : drop i gs ≡ [] = drop_of_length-le gs past in
    let all : graph ≡ map (kept_calls count) gs = sym (append-nil graph) ∙ ap (λ rest. graph ++ map (kept_calls count) rest) (sym none) ∙ e in
    let size : count ≡ length (map function_of fs) = c ∙ ap length s ∙ sym (length_functions fs) in
    all ∙ ap (map (kept_calls count)) s ∙ graph_same count fs ∙ ap (λ n. map (λ (f : typed.Function). calls_below n (function_calls f)) (map function_of fs)) size
