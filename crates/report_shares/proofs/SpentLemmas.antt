-- What a list of moves costs, move by move.
use Rattle.std.proofs.Common.{◌≡◌, ℕ, zero, suc, ◌+◌, ◌*◌, ◌<◌, ◌≤◌, ◌^◌, arith, refl, sym, ap, ◌∙◌, subst, List, [], ◌∷◌, length, drop, get_or, All, Bool, true, false}
use Rattle.std.specs.Prelude.{◌&&◌, nat_le, nat_lt, if◌then◌else◌}
use Rattle.std.proofs.lemmas.List.Elements.{All-head, All-tail, All-cons}
use Rattle.rv_core.specs.Table.{Table}
use Rattle.code_flow_system.specs.declared.moves.Move.{Move}
use Rattle.code_flow_system.specs.declared.cert.Part.{Part}
use Rattle.code_flow_system.specs.Systems.{System}
use Rattle.code_flow_system.specs.MoveCosts.{move_cost}
use Rattle.code_flow_system.specs.Certificates.{listed}
use Rattle.report_shares.specs.Shares.{moves_between, spent}

module _ (t : Table) (s : System) (parts : List Part) where
  -- the listed number of a move times its cost
  abbrev pub product : Move → ℕ
  product m = listed parts m.at m.number * move_cost t s m

  turn_by : (ms : List Move) (i : ℕ) (d : Move) → i < length ms → spent t s parts (drop i ms) ≡ product (get_or ms i d) + spent t s parts (drop (suc i) ms)
  turn_by [] i d h = absurd (omega arith)
  turn_by (m ∷ ms) zero d h = refl
  turn_by (m ∷ ms) (suc i) d h = turn_by ms i d (omega arith)

  pub spent_turn : (ms : List Move) (i : ℕ) (d : Move) → i < length ms → spent t s parts (drop i ms) ≡ product (get_or ms i d) + spent t s parts (drop (i + 1) ms)
  spent_turn ms i d h = let e : suc i ≡ i + 1 = omega arith in subst (λ k. spent t s parts (drop i ms) ≡ product (get_or ms i d) + spent t s parts (drop k ms)) e (turn_by ms i d h)

  pub spent_past : (ms : List Move) (i : ℕ) → length ms ≤ i → spent t s parts (drop i ms) ≡ 0
  spent_past [] zero h = refl
  spent_past [] (suc i) h = refl
  spent_past (m ∷ ms) zero h = absurd (omega arith)
  spent_past (m ∷ ms) (suc i) h = spent_past ms i (omega arith)

  -- at a move whose number and cost were found
  pub spent_step : (ms : List Move) (i : ℕ) (m : Move) (n cost : ℕ) → m ≡ get_or ms i m → i < length ms → n ≡ listed parts m.at m.number → cost ≡ move_cost t s m →
      spent t s parts (drop i ms) ≡ n * cost + spent t s parts (drop (i + 1) ms)
  spent_step ms i m n cost e h f g =
      spent_turn ms i m h
      ∙ ap (λ k. product k + spent t s parts (drop (i + 1) ms)) (sym e)
      ∙ ap (λ k. k * move_cost t s m + spent t s parts (drop (i + 1) ms)) (sym f)
      ∙ ap (λ k. n * k + spent t s parts (drop (i + 1) ms)) (sym g)

-- what holds of all moves holds of those between
pub between_all : (P : Move → Type 0) (first end : ℕ) (ms : List Move) → All P ms → All P (moves_between first end ms)
between_all P first end [] a = a
between_all P first end (m ∷ ms) a =
    by_test (nat_le first m.at && nat_lt m.at end) (All-head P m ms a) (between_all P first end ms (All-tail P m ms a))
  where
    by_test : (b : Bool) → P m → All P (moves_between first end ms) → All P (if b then m ∷ moves_between first end ms else moves_between first end ms)
    by_test true here rest = All-cons P m (moves_between first end ms) here rest
    by_test false here rest = rest

-- what a sum and its rest come to
pub overspent : (all p rest left total : ℕ) → left ≡ p + rest → all + left ≡ total → 2 ^ 126 ≤ all + p → 2 ^ 126 ≤ total
overspent all p rest left total e f h = omega arith
