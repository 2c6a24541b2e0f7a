-- Shares of a mix, added one after the other.
use Rattle.std.proofs.Common.{◌≡◌, ℕ, suc, ◌+◌, ◌*◌, ◌≤◌, ◌<◌, ◌^◌, arith, sym, ap, ◌∙◌, subst, List, ◌∷◌, length, drop, get_or, drop-cons, All}
use Rattle.std.proofs.Math.ListN.{replicate, length-replicate}
use Rattle.std.proofs.lemmas.List.{drop_all}
use Rattle.std.proofs.lemmas.List.Elements.{All-replicate, All-weaker}
use Rattle.code_flow_system.specs.declared.moves.Move.{Move}
use Rattle.code_flow_system.specs.Counts.{Amounts}
use Rattle.simplex_rounds.specs.declared.weighing.Weight.{Weight}
use Rattle.simplex_rounds.specs.Weighted.{numerator}
use Rattle.path_fact_kinds.specs.Mixes.{mix, added, times}
use Rattle.path_fact_columns.specs.Adding.{shares, raised, amounts_in}
use Rattle.path_fact_columns.proofs.AddLemmas.{plus, raised-long, raised_plus, raised_small, plus_zeros, plus_nothing}

-- what is there and the shares from the k-th on make the mix
pub record IsMixing (flow : ℕ → Amounts) (m : ℕ) (ws : List Weight) (ms : List Move) (k : ℕ) (us : List ℕ) : Type 0 where
  pub sum : plus us (amounts_in (mix (shares flow m (drop k ws))) ms) ≡ amounts_in (mix (shares flow m ws)) ms
  pub long : length us ≡ length ms
  pub small : All (λ u. u < (k + 1) * 2 ^ 104) us

module _ (flow : ℕ → Amounts) (m : ℕ) (ws : List Weight) (ms : List Move) where
  pub mixing_none : (us : List ℕ) → us ≡ replicate (length ms) 0 → IsMixing flow m ws ms 0 us
  mixing_none us e = subst (IsMixing flow m ws ms 0) (sym e) (record {
    sum = plus_zeros (mix (shares flow m ws)) ms;
    long = length-replicate (length ms) 0;
    small = All-replicate (λ u. u < 1 * 2 ^ 104) (length ms) 0 (omega arith);
  })

  pub mixing_next : (k : ℕ) (w : Weight) (x : Amounts) (us vs : List ℕ) → k < length ws → get_or ws k w ≡ w → x ≡ flow w.column → numerator m w ≤ 2 ^ 44 → ((a j : ℕ) → x a j < 2 ^ 60) →
      IsMixing flow m ws ms k us → vs ≡ raised (numerator m w) x ms us → IsMixing flow m ws ms (k + 1) vs
  mixing_next k w x us vs lt is flow_is few small before e = subst (IsMixing flow m ws ms (k + 1)) (sym e) (record {
    sum = sym (raised_plus (numerator m w) x (mix (shares flow m (drop (k + 1) ws))) ms us before.long) ∙ (sym (ap (λ (vs : List Weight). plus us (amounts_in (mix (shares flow m vs)) ms)) cut ∙ ap (λ (y : Amounts). plus us (amounts_in (added (times (numerator m w) y) (mix (shares flow m (drop (k + 1) ws)))) ms)) (sym flow_is)) ∙ before.sum);
    long = raised-long (numerator m w) x ms us before.long ∙ before.long;
    small = raised_small (numerator m w) x few small (k + 1) ms us before.small;
  })
    where
      cut : drop k ws ≡ w ∷ drop (k + 1) ws
      cut =
          let next : suc k ≡ k + 1 = omega arith in
          drop-cons ws k w lt ∙ (ap (λ (v : Weight). v ∷ drop (suc k) ws) is ∙ ap (λ (j : ℕ). w ∷ drop j ws) next)

  pub mixing_all : (k : ℕ) (us : List ℕ) → length ws ≤ k → IsMixing flow m ws ms k us → us ≡ amounts_in (mix (shares flow m ws)) ms
  mixing_all k us le before = sym (plus_nothing ms us before.long) ∙ (sym (ap (λ (vs : List Weight). plus us (amounts_in (mix (shares flow m vs)) ms)) (drop_all k ws le)) ∙ before.sum)

pub mixing_below : (k c : ℕ) (us : List ℕ) → k ≤ 2 ^ 10 → (2 ^ 10 + 1) * 2 ^ 104 ≤ c → All (λ u. u < (k + 1) * 2 ^ 104) us → All (λ u. u < c) us
mixing_below k c us le most h = All-weaker (λ u. u < (k + 1) * 2 ^ 104) (λ u. u < c) (λ u lt. omega (arith, le, most, lt)) us h
