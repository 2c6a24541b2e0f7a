-- A numbered source has facts.
use Rattle.std.proofs.Common.{◌≡◌, ℕ, zero, suc, ◌+◌, ◌*◌, ◌^◌, ◌≤◌, true, List, [], ◌∷◌, ◌++◌, map, codes, None, Ok, append_assoc, refl, sym, ap, subst, ◌∙◌, arith}
use Rattle.std.specs.Prelude.{nat_lt}
use Rattle.std.proofs.lemmas.Bool.{lt-ltb}
use Rattle.std.proofs.lemmas.List.{map-append}
use Rattle.types_tree.specs.Tree.{function_name}
use Rattle.types_calls.specs.declared.ranks.Ranks.{Ranks}
use Rattle.types_calls.specs.Calls.{graph_of}
use Rattle.types_calls.specs.Chains.{AreRanks}
use Rattle.facts_definitions.specs.FlowFacts.{bounds_in, bounds_of, facts_of, first_fault, flow_facts, id_in, index_of, known_of, main_of, most_main}
use Rattle.facts_definitions.specs.Most.{most_of, most_within}
use Rattle.facts_definitions.specs.Sites.{sites_of}
use Rattle.command_numbered.proofs.Names.{name, names, own_names}
use Rattle.command_numbered.proofs.Trees.{Places}
use Rattle.command_numbered.proofs.Numbers.{below, number, number_low, same}
use Rattle.command_numbered.proofs.Programs.{main_function, typed_functions}
use Rattle.command_numbered.proofs.Typed.{program}
use Rattle.command_numbered.proofs.Ranks as own
use Rattle.command_numbered.proofs.Sites.{all_fine, all_tens, tens}
use Rattle.command_numbered.proofs.Whole.{most_low, sites_are}

-- the number of `main` behind the functions' names
main_behind : (m : ℕ) (rest : List (List ℕ)) → id_in (own_names (suc m) ++ rest) (codes "main") ≡ id_in rest (codes "main") + (m + 4)
main_behind zero rest = omega arith
main_behind (suc m) rest =
    ap (λ ns. id_in ns (codes "main")) (append_assoc (own_names (suc m)) (name (suc (suc m)) ∷ []) rest)
    ∙ main_behind m (name (suc (suc m)) ∷ rest)
    ∙ omega arith

-- the place of `main` behind the functions
index_behind : (q : ℕ → ℕ → ℕ) (n m : ℕ) (rest : List ℕ) → m ≤ n → index_of (n + 3) (map function_name (typed_functions q m) ++ rest) ≡ m + index_of (n + 3) rest
index_behind q n zero rest le = omega arith
index_behind q n (suc m) rest le =
    ap (λ ns. index_of (n + 3) (ns ++ rest)) (map-append function_name (typed_functions q m) _)
    ∙ ap (index_of (n + 3)) (append_assoc (map function_name (typed_functions q m)) (number (suc m) ∷ []) rest)
    ∙ index_behind q n m (number (suc m) ∷ rest) (omega (arith, le))
    ∙ rw (below (n + 3) (number (suc m)) (let low = number_low m n (omega (arith, le)) in low)) (omega arith)

module _ (m : ℕ) (p : Places) where
  abbrev n : ℕ
  n = suc m

  abbrev pub ranks : Ranks
  ranks = record { of_functions = own.ranks n }

  pub main_is : main_of (program n p) (names n) ≡ n
  main_is =
      let id : id_in (names n) (codes "main") ≡ n + 3 = main_behind m (codes "main" ∷ codes "putchar" ∷ []) ∙ omega arith in
      ap (λ i. index_of i (map function_name (program n p).functions)) id
      ∙ ap (index_of (n + 3)) (map-append function_name (typed_functions p.function n) (main_function (3 * n) (n + 3) p n ∷ []))
      ∙ index_behind p.function n n ((n + 3) ∷ []) (omega arith)
      ∙ rw (same (n + 3)) (omega arith)

  pub tens_are : bounds_in (program n p) [] ≡ tens n
  tens_are = ap (bounds_of []) (sites_are n p) ∙ all_tens n p

  most_is : most_main (program n p) (names n) (bounds_in (program n p) []) ranks ≡ most_within (program n p) (tens n) 2 n
  most_is =
      ap (λ bs. most_main (program n p) (names n) bs ranks) tens_are
      ∙ ap (most_of (program n p) (tens n) (own.ranks n)) main_is
      ∙ ap (λ r. most_within (program n p) (tens n) (suc r) n) (own.main_rank m)

  pub facts_are : n ≤ 100 → flow_facts (program n p) (names n) ranks [] ≡ Ok (facts_of (program n p) (names n) ranks [])
  facts_are le =
      let fine : first_fault (known_of (program n p) (names n) []) (sites_of (program n p)) ≡ None = ap (first_fault (known_of (program n p) (names n) [])) (sites_are n p) ∙ all_fine (known_of (program n p) (names n) []) n p in
      let low : nat_lt (most_main (program n p) (names n) (bounds_in (program n p) []) ranks) (2 ^ 40) ≡ true = ap (λ k. nat_lt k (2 ^ 40)) most_is ∙ lt-ltb _ _ (most_low n le p) in
      rw fine (rw low refl)

  pub ranks_are : AreRanks (graph_of (program n p)) ranks.of_functions
  ranks_are = subst (λ g. AreRanks g (own.ranks n)) (sym (own.graph_is n p)) (own.are_ranks m)
