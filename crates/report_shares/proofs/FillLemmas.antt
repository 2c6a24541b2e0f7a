-- The sum of a share is below that of all moves, and so small.
use Rattle.std.proofs.Common.{◌≡◌, ℕ, zero, suc, ◌+◌, ◌<◌, ◌≤◌, ◌^◌, arith, refl, ap, ◌∙◌, List, [], ◌∷◌, ◌++◌, length, take, drop, get_or, Bool, true, false}
use Rattle.std.specs.Prelude.{map, slice_set, ℤ, pos, ◌<ℤ◌, ◌&&◌, nat_le, nat_lt, if◌then◌else◌}
use Rattle.std.proofs.lemmas.Int.{ints}
use Rattle.rv_core.specs.Table.{Table}
use Rattle.code_flow_system.specs.declared.moves.Move.{Move}
use Rattle.code_flow_system.specs.declared.cert.Part.{Part}
use Rattle.code_flow_system.specs.Systems.{System}
use Rattle.code_flow_system.specs.Flows.{value}
use Rattle.code_flow_system.specs.Certificates.{listed}
use Rattle.report_shares.specs.Shares.{moves_between, spent}
use Rattle.report_shares.proofs.SpentLemmas.{product}
use Rattle.report_shares.proofs.AddUpLemmas.{value_spent}

spent_less : (t : Table) (s : System) (parts : List Part) (first end : ℕ) (ms : List Move) → spent t s parts (moves_between first end ms) ≤ spent t s parts ms
spent_less t s parts first end [] = omega arith
spent_less t s parts first end (m ∷ ms) = by_test (nat_le first m.at && nat_lt m.at end) (product t s parts m) (spent_less t s parts first end ms)
  where
    with_it : (p a b : ℕ) → a ≤ b → p + a ≤ p + b
    with_it p a b h = omega arith

    without : (p a b : ℕ) → a ≤ b → a ≤ p + b
    without p a b h = omega arith

    by_test : (b : Bool) (p : ℕ) → spent t s parts (moves_between first end ms) ≤ spent t s parts ms →
        spent t s parts (if b then m ∷ moves_between first end ms else moves_between first end ms) ≤ spent t s parts (m ∷ ms)
    by_test true p r = with_it (product t s parts m) (spent t s parts (moves_between first end ms)) (spent t s parts ms) r
    by_test false p r = without (product t s parts m) (spent t s parts (moves_between first end ms)) (spent t s parts ms) r

pub sum_small : (t : Table) (s : System) (parts : List Part) (first end : ℕ) → value t s (listed parts) <ℤ pos (2 ^ 120) → spent t s parts (moves_between first end s.moves) < 2 ^ 120
sum_small t s parts first end h = below (spent t s parts (moves_between first end s.moves)) (spent t s parts s.moves) (value t s (listed parts)) (spent_less t s parts first end s.moves) (value_spent t s parts s.moves) h
  where
    below : (a b : ℕ) (v : ℤ) → a ≤ b → pos b ≡ v → v <ℤ pos (2 ^ 120) → a < 2 ^ 120
    below a b v le e h = omega (arith, ints)

-- a list whose first elements are done

module _ {X : Type 0} (f : X → X) where
  at_place : (xs : List X) (i : ℕ) (d : X) → i < length xs → get_or (map f (take i xs) ++ drop i xs) i d ≡ get_or xs i d
  at_place [] i d h = absurd (omega arith)
  at_place (x ∷ xs) zero d h = refl
  at_place (x ∷ xs) (suc i) d h = at_place xs i d (omega arith)

  one_more : (xs : List X) (i : ℕ) (d : X) → i < length xs → slice_set (map f (take i xs) ++ drop i xs) i (f (get_or xs i d)) ≡ map f (take (suc i) xs) ++ drop (suc i) xs
  one_more [] i d h = absurd (omega arith)
  one_more (x ∷ xs) zero d h = refl
  one_more (x ∷ xs) (suc i) d h = ap (λ ys. f x ∷ ys) (one_more xs i d (omega arith))

  pub done_next : (xs now : List X) (i : ℕ) (x y : X) → i < length xs → now ≡ map f (take i xs) ++ drop i xs → y ≡ f (get_or now i x) →
      slice_set now i y ≡ map f (take (i + 1) xs) ++ drop (i + 1) xs
  done_next xs now i x y h e k =
      let s : suc i ≡ i + 1 = omega arith in
      let here = k ∙ ap f (ap (λ ys. get_or ys i x) e ∙ at_place xs i x h) in
      ap (λ ys. slice_set ys i y) e
      ∙ ap (slice_set (map f (take i xs) ++ drop i xs) i) here
      ∙ one_more xs i x h
      ∙ ap (λ n. map f (take n xs) ++ drop n xs) s
