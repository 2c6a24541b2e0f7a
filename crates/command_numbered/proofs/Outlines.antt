-- What is known of a numbered source as a whole, and that no rule or limit is broken.
use Rattle.std.proofs.Common.{◌≡◌, ℕ, zero, suc, ◌+◌, ◌≤◌, false, nat_eq, List, [], ◌∷◌, ◌++◌, None, append_assoc, codes, refl, ap, ◌∙◌, arith}
use Rattle.std.specs.Prelude.{if◌then◌else◌}
use Rattle.types_rules.specs.Limits.{limits_behind, unit_fault, variables_of}
use Rattle.types_rules.specs.Scope.{Around, Outline, is_among, with_number}
use Rattle.types_rules.specs.Sights.{after_external, definitions, number_of, outline_of}
use Rattle.types_rules.specs.StatementRules.{after_items}
use Rattle.command_numbered.proofs.Names.{name, names, own_names}
use Rattle.command_numbered.proofs.Trees.{Places, calls, externals, functions, main_of, start, unit}
use Rattle.command_numbered.proofs.TypedFunctions.{numbers}
use Rattle.command_numbered.proofs.Numbers.{definitions_at, definitions_none, number, number_new, outline, variable, variables_at}
use Rattle.command_numbered.proofs.Rows.{functions_after}
use Rattle.command_numbered.proofs.Sizes.{bytes_kept, limits_kept}
use Rattle.command_numbered.proofs.Units.{high, unit_fine}

-- a name that begins with none of these letters stands behind the functions' names
module _ (b : ℕ) (bytes : List ℕ) (f : nat_eq 102 b ≡ false) (x : nat_eq 120 b ≡ false) (k : nat_eq 107 b ≡ false) (s : nat_eq 115 b ≡ false) where
  number_behind : (m : ℕ) (rest : List (List ℕ)) → number_of (b ∷ bytes) (own_names (suc m) ++ rest) ≡ number_of (b ∷ bytes) rest + (m + 4)
  number_behind zero rest = rw f (rw x (rw k (rw s (omega arith))))
  number_behind (suc m) rest =
      ap (number_of (b ∷ bytes)) (append_assoc (own_names (suc m)) (name (suc (suc m)) ∷ []) rest)
      ∙ number_behind m (name (suc (suc m)) ∷ rest)
      ∙ rw f (omega arith)

with_new : (x : ℕ) (xs : List ℕ) → is_among x xs ≡ false → with_number xs x ≡ xs ++ x ∷ []
with_new x xs h = ap (λ t. if t then xs else xs ++ x ∷ []) h

module _ (n : ℕ) (p : Places) where
  functions_defined : (m : ℕ) → m ≤ n → definitions (functions (numbers (n + 3) (n + 4)) number p.function m) ≡ definitions_at m
  functions_defined zero le = refl
  functions_defined (suc m) le =
      ap (λ xs. with_number xs (number (suc m))) (functions_defined m (omega (arith, le))) ∙ with_new (number (suc m)) (definitions_at m) (definitions_none (number (suc m)) m (number_new m))

  all_defined : definitions (externals (numbers (n + 3) (n + 4)) number p n) ≡ definitions_at n ++ (n + 3) ∷ []
  all_defined = ap (λ xs. with_number xs (n + 3)) (functions_defined n (omega arith)) ∙ with_new (n + 3) (definitions_at n) (definitions_none (n + 3) n (high n n (n + 3) (omega arith) (omega arith)))

  after_calls : (q : ℕ → ℕ) (m : ℕ) (a : Around) → after_items (calls (numbers (n + 3) (n + 4)) number p.call (start (numbers (n + 3) (n + 4)) q) m) a ≡ after_items (start (numbers (n + 3) (n + 4)) q) a
  after_calls q zero a = refl
  after_calls q (suc m) a = after_calls q m a

  pub variables_are : variables_of (outline n) (unit (numbers (n + 3) (n + 4)) number p n) ≡ variables_at n ++ variable 3 ∷ []
  variables_are =
      ap (λ a. (after_external (main_of (numbers (n + 3) (n + 4)) number p n) a).variables) (functions_after n p.function n (omega arith))
      ∙ ap (λ a. a.variables) (after_calls p.head n _)

module _ (m : ℕ) (p : Places) where
  abbrev n : ℕ
  n = suc m

  pub outline_is : outline_of (names n) (unit (numbers (n + 3) (n + 4)) number p n) ≡ outline n
  outline_is =
      let main : number_of (codes "main") (names n) ≡ n + 3 = number_behind 109 (codes "ain") refl refl refl refl m (codes "main" ∷ codes "putchar" ∷ []) ∙ omega arith in
      let putchar : number_of (codes "putchar") (names n) ≡ n + 4 = number_behind 112 (codes "utchar") refl refl refl refl m (codes "main" ∷ codes "putchar" ∷ []) ∙ omega arith in
      let getchar : number_of (codes "getchar") (names n) ≡ n + 5 = number_behind 103 (codes "etchar") refl refl refl refl m (codes "main" ∷ codes "putchar" ∷ []) ∙ omega arith in
      parts (all_defined n p) main getchar putchar
    where
      parts : {d e : List ℕ} {a b g h c i : ℕ} → d ≡ e → a ≡ b → g ≡ h → c ≡ i → ◌≡◌ {A = Outline} (record { definitions = d; main = a; getchar = g; putchar = c }) (record { definitions = e; main = b; getchar = h; putchar = i })
      parts d a g c = cc

  pub no_fault : n ≤ 100 → unit_fault (outline_of (names n) (unit (numbers (n + 3) (n + 4)) number p n)) (unit (numbers (n + 3) (n + 4)) number p n) ≡ None
  no_fault le =
      ap (λ o. unit_fault o (unit (numbers (n + 3) (n + 4)) number p n)) outline_is
      ∙ rw (limits_kept (numbers (n + 3) (n + 4)) number p n le) (rw (unit_fine n p) (ap limits_behind (variables_are n p) ∙ bytes_kept n le))
