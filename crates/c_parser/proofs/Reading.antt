-- The machine's run, one token more.
use Rattle.std.proofs.Common.{◌≡◌, suc, ◌+◌, ◌<◌, ◌≤◌, List, [], ◌∷◌, ◌++◌, length, take, refl, ◌∙◌, ap, arith}
use Rattle.c_tree.specs.Spelling.{Spoken}
use Rattle.c_tree.specs.Tree.{Nothing}
use Rattle.parse_grammar.specs.Begun.{State, File}
use Rattle.parse_grammar.specs.Machine.{Moved, Goes, Stuck, after_all, step}
use Rattle.parse_grammar.specs.Depth.{deep}
use Rattle.parse_grammar.specs.Law.{run}
use Rattle.c_parser.specs.declared.fault.ParseFault.{ParseFault}
use Rattle.c_parser.specs.declared.fault.ParseFault.TheVariants.{Syntax, Deep, Memory}
use Rattle.c_parser.specs.Refused.{Halts, Stops}

after_none : (m : Moved) → after_all m [] ≡ m
after_none Stuck = refl
after_none (Goes state) = refl

after_push : (m : Moved) (xs : List Spoken) (x : Spoken) (s : State) → after_all m xs ≡ Goes s → after_all m (xs ++ x ∷ []) ≡ step s x
after_push Stuck xs x s h = absurd (no_goes s h)
  where
    no_goes : (s : State) → ◌≡◌ {A = Moved} Stuck (Goes s) → ⊥
    no_goes s h = cc
after_push (Goes state) [] x s h = after_none (step state x) ∙ ap (λ s. step s x) (same state s h)
  where
    same : (a b : State) → ◌≡◌ {A = Moved} (Goes a) (Goes b) → a ≡ b
    same a b e = cc
after_push (Goes state) (y ∷ ys) x s h = after_push (step state y) ys x s h

pub run_push : (xs : List Spoken) (x : Spoken) (s : State) → run xs ≡ Goes s → run (xs ++ x ∷ []) ≡ step s x
run_push xs x s h = after_push (Goes (File Nothing)) xs x s h

take_front : (xs ys : List Spoken) → take (length xs) (xs ++ ys) ≡ xs
take_front [] ys = refl
take_front (x ∷ xs) ys = ap (λ zs. x ∷ zs) (take_front xs ys)

take_more : (xs : List Spoken) (x : Spoken) (ys : List Spoken) → take (length xs + 1) (xs ++ x ∷ ys) ≡ xs ++ x ∷ []
take_more [] x ys = refl
take_more (y ∷ xs) x ys =
    let e : length (y ∷ xs) + 1 ≡ suc (length xs + 1) = omega arith in
    ap (λ n. take n (y ∷ (xs ++ x ∷ ys))) e ∙ ap (λ zs. y ∷ zs) (take_more xs x ys)

length_more : (xs : List Spoken) (x : Spoken) (ys : List Spoken) → length xs < length (xs ++ x ∷ ys)
length_more [] x ys = omega arith
length_more (y ∷ xs) x ys = let h = length_more xs x ys in omega (arith, h)

-- where a step halts behind these tokens, and others follow
pub stopped : (fault : ParseFault) (xs : List Spoken) (x : Spoken) (ys : List Spoken) (s : State) → run xs ≡ Goes s → deep s ≤ 256 → Halts fault (length xs) (step s x) → Stops fault (xs ++ x ∷ ys)
stopped Memory xs x ys s h d k = tt
stopped (Syntax token) xs x ys s h d k =
    let within = length_more xs x ys in (
      omega (arith, k.0, within),
      s,
      ap (λ n. run (take n (xs ++ x ∷ ys))) k.0 ∙ ap run (take_front xs (x ∷ ys)) ∙ h,
      λ more. ap (λ n. run (take (n + 1) (xs ++ x ∷ ys))) k.0 ∙ ap run (take_more xs x ys) ∙ run_push xs x s h ∙ k.1,
      λ all items same. absurd (omega (arith, k.0, within, all)),
      d,
    )
stopped (Deep token) xs x ys s h d k =
    let within = length_more xs x ys in (
      omega (arith, k.0, within),
      k.1,
      ap (λ n. run (take (n + 1) (xs ++ x ∷ ys))) k.0 ∙ ap run (take_more xs x ys) ∙ run_push xs x s h ∙ k.2,
      k.3,
      s,
      ap (λ n. run (take n (xs ++ x ∷ ys))) k.0 ∙ ap run (take_front xs (x ∷ ys)) ∙ h,
      d,
    )
