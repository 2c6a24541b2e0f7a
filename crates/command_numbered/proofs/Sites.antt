-- The flow facts of a numbered source.
use Rattle.std.proofs.Common.{◌≡◌, ℕ, zero, suc, ◌+◌, ◌*◌, List, [], ◌∷◌, ◌++◌, Option, Some, None, append_assoc, refl, ap, ◌∙◌, arith}
use Rattle.types_tree.specs.declared.variable.Variable.{Variable}
use Rattle.types_tree.specs.Tree.{Items}
use Rattle.facts_definitions.specs.FlowFacts.{Known, bounds_of, first_fault, or_else, restrictions_of, site_fault}
use Rattle.facts_definitions.specs.Sites.{function_sites, items_sites}
use Rattle.facts_definitions.specs.declared.facts.Bounds.{Bounds}
use Rattle.facts_definitions.specs.declared.facts.FlowFault.{FlowFault}
use Rattle.facts_definitions.specs.declared.site.Site.{Site}
use Rattle.facts_definitions.specs.declared.site.Site.TheVariants as sites
use Rattle.command_numbered.proofs.Trees.{Places, bound_at}
use Rattle.command_numbered.proofs.Numbers.{number}
use Rattle.command_numbered.proofs.Programs.{calls, function, main_function}

-- the sites of the first functions: each itself, and its loop
abbrev pub sites_at : (q : ℕ → ℕ → ℕ) → (m : ℕ) → List Site
sites_at q zero = []
sites_at q (suc m) = sites_at q m ++ sites.Function (record { 0 = number (suc m) }) ∷ sites.Bounded (m + 1) (bound_at (q (suc m) 15)) ∷ []

abbrev pub all_sites : (n : ℕ) → Places → List Site
all_sites n p = sites_at p.function n ++ sites.Function (record { 0 = n + 3 }) ∷ []

-- no site is faulty
fault_append : (known : Known) (xs ys : List Site) → first_fault known (xs ++ ys) ≡ or_else (first_fault known xs) (first_fault known ys)
fault_append known [] ys = refl
fault_append known (x ∷ xs) ys = ap (or_else (site_fault known x)) (fault_append known xs ys) ∙ assoc (site_fault known x) (first_fault known xs) (first_fault known ys)
  where
    assoc : (a b c : Option FlowFault) → or_else a (or_else b c) ≡ or_else (or_else a b) c
    assoc None b c = refl
    assoc (Some x) b c = refl

sites_fine : (known : Known) (q : ℕ → ℕ → ℕ) (m : ℕ) (rest : List Site) → first_fault known rest ≡ None → first_fault known (sites_at q m ++ rest) ≡ None
sites_fine known q zero rest h = h
sites_fine known q (suc m) rest h =
    ap (first_fault known) (append_assoc (sites_at q m) (sites.Function (record { 0 = number (suc m) }) ∷ sites.Bounded (m + 1) (bound_at (q (suc m) 15)) ∷ []) rest)
    ∙ sites_fine known q m (sites.Function (record { 0 = number (suc m) }) ∷ sites.Bounded (m + 1) (bound_at (q (suc m) 15)) ∷ rest) h

pub all_fine : (known : Known) (n : ℕ) (p : Places) → first_fault known (all_sites n p) ≡ None
all_fine known n p = sites_fine known p.function n (sites.Function (record { 0 = n + 3 }) ∷ []) refl

-- no restriction stands among them
plain : (names : List (List ℕ)) (q : ℕ → ℕ → ℕ) (m : ℕ) (rest : List Site) → restrictions_of names rest ≡ [] → restrictions_of names (sites_at q m ++ rest) ≡ []
plain names q zero rest h = h
plain names q (suc m) rest h =
    ap (restrictions_of names) (append_assoc (sites_at q m) (sites.Function (record { 0 = number (suc m) }) ∷ sites.Bounded (m + 1) (bound_at (q (suc m) 15)) ∷ []) rest)
    ∙ plain names q m (sites.Function (record { 0 = number (suc m) }) ∷ sites.Bounded (m + 1) (bound_at (q (suc m) 15)) ∷ rest) h

pub all_plain : (names : List (List ℕ)) (n : ℕ) (p : Places) → restrictions_of names (all_sites n p) ≡ []
all_plain names n p = plain names p.function n (sites.Function (record { 0 = n + 3 }) ∷ []) refl

-- each loop has ten turns
abbrev pub tens : ℕ → List Bounds
tens zero = []
tens (suc m) = record { min = 10; max = 10 } ∷ tens m

bounds : (q : ℕ → ℕ → ℕ) (m k : ℕ) (rest : List Site) → bounds_of [] rest ≡ tens k → bounds_of [] (sites_at q m ++ rest) ≡ tens (m + k)
bounds q zero k rest h = h ∙ ap tens (omega arith)
bounds q (suc m) k rest h =
    ap (bounds_of []) (append_assoc (sites_at q m) (sites.Function (record { 0 = number (suc m) }) ∷ sites.Bounded (m + 1) (bound_at (q (suc m) 15)) ∷ []) rest)
    ∙ bounds q m (suc k) (sites.Function (record { 0 = number (suc m) }) ∷ sites.Bounded (m + 1) (bound_at (q (suc m) 15)) ∷ rest) (ap (λ bs. ten_before bs) h)
    ∙ ap tens (omega arith)
  where
    ten_before : List Bounds → List Bounds
    ten_before bs = record { min = 10; max = 10 } ∷ bs

pub all_tens : (n : ℕ) (p : Places) → bounds_of [] (all_sites n p) ≡ tens n
all_tens n p = bounds p.function n 0 (sites.Function (record { 0 = n + 3 }) ∷ []) refl ∙ ap tens (omega arith)

-- the sites of `main`'s items are none
calls_sites : (variables : List Variable) (s : ℕ) (q : ℕ → ℕ → ℕ) (m : ℕ) (rest : Items) → items_sites variables (calls s q m rest) ≡ items_sites variables rest
calls_sites variables s q zero rest = refl
calls_sites variables s q (suc m) rest = calls_sites variables s q m _

pub main_sites : (variables : List Variable) (n : ℕ) (p : Places) → function_sites variables (Some (main_function (3 * n) (n + 3) p n)) ≡ sites.Function (record { 0 = n + 3 }) ∷ []
main_sites variables n p = ap (λ xs. own xs) (calls_sites variables (3 * n) p.call n _)
  where
    own : List Site → List Site
    own xs = sites.Function (record { 0 = n + 3 }) ∷ xs

pub one_site : (variables : List Variable) (x k s l f i : ℕ) (q : ℕ → ℕ) → function_sites variables (Some (function x k s l f i q)) ≡ sites.Function (record { 0 = f }) ∷ sites.Bounded l (bound_at (q 15)) ∷ []
one_site variables x k s l f i q = refl
