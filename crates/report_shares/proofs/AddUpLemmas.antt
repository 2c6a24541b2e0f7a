-- Where shares fit, their parts add up to the value of the flow.
use Rattle.std.proofs.Common.{◌≡◌, ℕ, ◌+◌, ◌*◌, arith, refl, ap, ◌∙◌, subst, List, [], ◌∷◌, All, Bool, true, false, ◌⊎◌, inl, inr}
use Rattle.std.specs.Prelude.{ℤ, pos, ◌+ℤ◌, ◌*ℤ◌, ◌==◌, ◌&&◌, if◌then◌else◌}
use Rattle.std.proofs.lemmas.Int.{ints}
use Rattle.std.proofs.lemmas.Bool.Decides.{eqb_tells}
use Rattle.std.proofs.lemmas.List.Elements.{All-head, All-tail}
use Rattle.frac128.specs.Terms.{int_sum_by}
use Rattle.rv_core.specs.Table.{Table}
use Rattle.code_flow_system.specs.declared.moves.Move.{Move}
use Rattle.code_flow_system.specs.declared.cert.Part.{Part}
use Rattle.code_flow_system.specs.Systems.{System}
use Rattle.code_flow_system.specs.Counts.{total}
use Rattle.code_flow_system.specs.MoveCosts.{move_cost}
use Rattle.code_flow_system.specs.Flows.{price, value}
use Rattle.code_flow_system.specs.Certificates.{listed, whole}
use Rattle.report_text.specs.declared.entries.Share.{Share}
use Rattle.report_shares.specs.Shares.{lies_in, holders, moves_between, spent, share_sum, SharesFit}
use Rattle.report_shares.proofs.SpentLemmas.{product}

-- a move that is listed lies in one range
once_or_none : (hs : List Share) (ps : List Part) (a k : ℕ) → All (λ p. holders hs p.at ≡ 1) ps → (holders hs a ≡ 1) ⊎ (listed ps a k ≡ 0)
once_or_none hs [] a k h = inr refl
once_or_none hs (p ∷ ps) a k h =
    by_place (eqb_tells p.at a) (All-head (λ p. holders hs p.at ≡ 1) p ps h) (once_or_none hs ps a k (All-tail (λ p. holders hs p.at ≡ 1) p ps h))
  where
    by_place : (((p.at == a) ≡ true) × (p.at ≡ a)) ⊎ (((p.at == a) ≡ false) × (p.at ≡ a → ⊥)) → holders hs p.at ≡ 1 → (holders hs a ≡ 1) ⊎ (listed ps a k ≡ 0) → (holders hs a ≡ 1) ⊎ (listed (p ∷ ps) a k ≡ 0)
    by_place (inl same) one rest = inl (subst (λ b. holders hs b ≡ 1) same.1 one)
    by_place (inr other) one (inl r) = inl r
    by_place (inr other) one (inr r) =
        let e = ap (λ (b : Bool). (if b && (p.number == k) then whole p.part else 0) + listed ps a k) other.0 in inr (e ∙ omega arith)

module _ (t : Table) (s : System) (parts : List Part) where
  -- what the moves in each range cost, added
  all_spent : List Share → List Move → ℕ
  all_spent [] ms = 0
  all_spent (h ∷ hs) ms = spent t s parts (moves_between h.first h.end ms) + all_spent hs ms

  all_none : (hs : List Share) → all_spent hs [] ≡ 0
  unfolding all_spent
  all_none [] = refl
  all_none (h ∷ hs) = let r = all_none hs in omega arith

  -- one more move counts once for each range in which it lies
  all_more : (hs : List Share) (m : Move) (ms : List Move) → all_spent hs (m ∷ ms) ≡ holders hs m.at * product t s parts m + all_spent hs ms
  unfolding all_spent
  all_more [] m ms = omega arith
  all_more (h ∷ hs) m ms = by_test (lies_in h m.at) (all_spent hs (m ∷ ms)) (holders hs m.at) (all_spent hs ms) (all_more hs m ms)
    where
      turn : (p all held rest between : ℕ) → all ≡ held * p + rest → (p + between) + all ≡ (1 + held) * p + (between + rest)
      turn p all held rest between e = omega arith

      pass : (p all held rest between : ℕ) → all ≡ held * p + rest → between + all ≡ (0 + held) * p + (between + rest)
      pass p all held rest between e = omega arith

      by_test : (b : Bool) (all held rest : ℕ) → all ≡ held * product t s parts m + rest →
          spent t s parts (if b then m ∷ moves_between h.first h.end ms else moves_between h.first h.end ms) + all
          ≡ ((if b then 1 else 0) + held) * product t s parts m + (spent t s parts (moves_between h.first h.end ms) + rest)
      by_test true all held rest e = turn (product t s parts m) all held rest (spent t s parts (moves_between h.first h.end ms)) e
      by_test false all held rest e = pass (product t s parts m) all held rest (spent t s parts (moves_between h.first h.end ms)) e

  -- so all count once
  all_once : (hs : List Share) (ms : List Move) → All (λ p. holders hs p.at ≡ 1) parts → all_spent hs ms ≡ spent t s parts ms
  all_once hs [] a = all_none hs
  all_once hs (m ∷ ms) a = all_more hs m ms ∙ by_listed (once_or_none hs parts m.at m.number a) (all_once hs ms a)
    where
      once : (n l c rest left : ℕ) → n ≡ 1 → rest ≡ left → n * (l * c) + rest ≡ l * c + left
      once n l c rest left e r = ap (λ k. k * (l * c) + rest) e ∙ omega arith

      never : (n l c rest left : ℕ) → l ≡ 0 → rest ≡ left → n * (l * c) + rest ≡ l * c + left
      never n l c rest left e r =
          let f : l * c ≡ 0 = ap (λ k. k * c) e ∙ omega arith in
          let g : n * (l * c) ≡ 0 = ap (λ k. n * k) f ∙ omega arith in omega arith

      by_listed : (holders hs m.at ≡ 1) ⊎ (listed parts m.at m.number ≡ 0) → all_spent hs ms ≡ spent t s parts ms →
          holders hs m.at * product t s parts m + all_spent hs ms ≡ spent t s parts (m ∷ ms)
      by_listed (inl e) r = once (holders hs m.at) (listed parts m.at m.number) (move_cost t s m) (all_spent hs ms) (spent t s parts ms) e r
      by_listed (inr e) r = never (holders hs m.at) (listed parts m.at m.number) (move_cost t s m) (all_spent hs ms) (spent t s parts ms) e r

  -- the parts are those sums
  parts_spent : (hs : List Share) → All (λ h. h.part ≡ pos (share_sum t s parts h)) hs → int_sum_by (λ h. h.part) hs ≡ pos (all_spent hs s.moves)
  unfolding all_spent
  parts_spent [] a = refl
  parts_spent (h ∷ hs) a =
      let e = All-head (λ h. h.part ≡ pos (share_sum t s parts h)) h hs a in
      let r = parts_spent hs (All-tail (λ h. h.part ≡ pos (share_sum t s parts h)) h hs a) in
      ap (λ z. z +ℤ int_sum_by (λ h. h.part) hs) e ∙ ap (λ z. pos (share_sum t s parts h) +ℤ z) r ∙ added (share_sum t s parts h) (all_spent hs s.moves)
    where
      added : (a b : ℕ) → (pos a +ℤ pos b) ≡ pos (a + b)
      added a b = omega (arith, ints)

  -- and the value is that of all moves
  pub value_spent : (ms : List Move) → pos (spent t s parts ms) ≡ total (price t s) (listed parts) ms
  value_spent [] = refl
  value_spent (m ∷ ms) = more (listed parts m.at m.number) (move_cost t s m) (spent t s parts ms) (total (price t s) (listed parts) ms) (value_spent ms)
    where
      more : (n c rest : ℕ) (left : ℤ) → pos rest ≡ left → pos (n * c + rest) ≡ (pos n *ℤ pos c) +ℤ left
      more n c rest left e = omega (arith, ints)

  pub parts_add_up : (hs : List Share) → SharesFit t s parts hs → int_sum_by (λ h. h.part) hs ≡ value t s (listed parts)
  parts_add_up hs f = parts_spent hs f.sums ∙ ap (λ n. pos n) (all_once hs s.moves f.held) ∙ value_spent s.moves
