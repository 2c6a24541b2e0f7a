-- Worths that pay for all moves bound the values of loose flows.
use Rattle.std.proofs.Common.{◌≡◌, ℕ, ◌*◌, ◌<◌, ◌^◌, ℤ, pos, ◌+ℤ◌, ◌*ℤ◌, ◌≤ℤ◌, ◌<ℤ◌, arith, refl, subst, List, [], ◌∷◌, ◌++◌, All, inl, inr, Option, Some, None, unsigned_abs}
use lib.IntN.{negsuc}
use Rattle.std.specs.Option.{option_to_list}
use Rattle.std.proofs.lemmas.Int.{ints}
use Rattle.std.proofs.lemmas.Bool.Decides.{eqb_tells}
use Rattle.std.proofs.lemmas.List.Elements.{All-head, All-tail, All-weaker}
use Rattle.frac128.specs.Terms.{Terms, int_sum_by, coefficient}
use Rattle.rv_core.specs.Table.{Table}
use Rattle.code_flow_system.specs.declared.claims.LoopClaim.{LoopClaim}
use Rattle.code_flow_system.specs.declared.moves.Move.{Move}
use Rattle.code_flow_system.specs.Systems.{System, IsSystem}
use Rattle.code_flow_system.specs.Certificates.{AddressesAscend}
use Rattle.code_flow_system.specs.Flows.{price}
use Rattle.loop_prices.specs.LoopPrices.{Worths, turns_at, starts, starts_from, IsPaid, BoundsLooseFlows}
use Rattle.path_ranges.specs.Limits.{LooseCountsAreFew, LooseValuesUnder}
use Rattle.path_ranges.specs.Narrow.{FetchesCost, LooseCountsBelow}
use Rattle.path_loose_fit.specs.Rows.{worths_of, brought, IsWorth}

-- what arrives is what both ways bring
pub two_brought : (cs : List LoopClaim) (w : Worths) (from : ℕ) (to back : Option ℕ) →
    int_sum_by (λ d. coefficient w.places d +ℤ starts_from cs w.turns from d) (option_to_list to ++ option_to_list back) ≡ brought cs w from to +ℤ brought cs w from back
two_brought cs w from None None = omega (arith, ints)
two_brought cs w from None (Some b) = omega (arith, ints)
two_brought cs w from (Some t) None = omega (arith, ints)
two_brought cs w from (Some t) (Some b) = omega (arith, ints)

-- ---- the worth of an address is that of one term

none_behind : (ts : Terms) (a : ℕ) → All (λ u. a < u.0) ts → coefficient ts a ≡ pos 0
none_behind [] a h = refl
none_behind (t ∷ ts) a h =
    let lt = All-head (λ u. a < u.0) t ts h in
    let r = none_behind ts a (All-tail (λ u. a < u.0) t ts h) in
    elim (eqb_tells t.0 a) [ inl k ↦ let e = k.1 in absurd (omega (arith, lt, e)) | inr k ↦ rw k.0 (omega (arith, ints)) ]

pub worth_within : (ts : Terms) (a : ℕ) → AddressesAscend ts → All (λ t. IsWorth t.1) ts → IsWorth (coefficient ts a)
worth_within [] a up h = (omega (arith, ints), omega (arith, ints))
worth_within (t ∷ ts) a up h = elim (eqb_tells t.0 a) [
  | inl k ↦
      let r = none_behind ts a (subst (λ b. All (λ u. b < u.0) ts) k.1 up.0) in
      let w = All-head (λ u. IsWorth u.1) t ts h in let w0 = w.0 in let w1 = w.1 in
      rw k.0 (omega (arith, ints), omega (arith, ints))
  | inr k ↦
      let w = worth_within ts a up.1 (All-tail (λ u. IsWorth u.1) t ts h) in let w0 = w.0 in let w1 = w.1 in
      rw k.0 (omega (arith, ints), omega (arith, ints))
]

pub worth_small : (z : ℤ) → IsWorth z → unsigned_abs z < 2 ^ 96
worth_small (pos n) h = let h1 = h.1 in omega (arith, ints)
worth_small (negsuc n) h = let h0 = h.0 in absurd (omega (arith, ints))

-- ---- a move is paid

module _ (price : Move → ℤ) (cs : List LoopClaim) (w : Worths) (m : Move) (p to back held : ℤ) (is : p ≡ price m) (there : to ≡ brought cs w m.at m.to) (behind : back ≡ brought cs w m.at m.behind) (here : held ≡ coefficient w.places m.at +ℤ turns_at cs w.turns m.at) where
  pub paid_if : ((p +ℤ to) +ℤ back) ≤ℤ held → IsPaid price cs w m
  paid_if h = let e = two_brought cs w m.at m.to m.behind in omega (arith, ints)

  pub if_paid : IsPaid price cs w m → ((p +ℤ to) +ℤ back) ≤ℤ held
  if_paid h = let e = two_brought cs w m.at m.to m.behind in omega (arith, ints)

-- ---- values

-- a smaller worth, so many times
below_times : (unit n : ℕ) (v z : ℤ) → 0 < unit → v ≤ℤ (pos unit *ℤ z) → z <ℤ pos n → v <ℤ (pos unit *ℤ pos n)
below_times unit n v (pos k) h le lt =
    let l : k < n = omega (arith, ints) in
    let m : unit * k < unit * n = less unit k n h l in
    let a : pos unit *ℤ pos k ≡ pos (unit * k) = omega (arith, ints) in
    let b : pos unit *ℤ pos n ≡ pos (unit * n) = omega (arith, ints) in
    let c : pos (unit * k) <ℤ pos (unit * n) = omega (arith, ints) in omega (arith, ints)
  where
    less : (u k n : ℕ) → 0 < u → k < n → u * k < u * n
    less u k n h l = grind (arith)
below_times unit n v (negsuc k) h le lt = omega (arith, ints)

pub same_below : (most : ℕ) (a b x y : ℤ) → a ≡ x → b ≡ y → (a +ℤ b) <ℤ pos most → (x +ℤ y) <ℤ pos most
same_below most a b x y e f lt = omega (arith, ints)

pub values_below : (most : ℕ) (t : Table) (s : System) (places : Terms) (turns : List ℕ) → BoundsLooseFlows s → All (λ u. IsWorth u.1) places → All (IsPaid (price t s) s.claims.loops (worths_of places turns)) s.moves →
    (coefficient places s.entry +ℤ starts s.claims.loops turns s.entry) <ℤ pos most → LooseValuesUnder most t s
values_below most t s places turns law worths paid lt unit x loose =
    below_times unit most _ (coefficient places s.entry +ℤ starts s.claims.loops turns s.entry) loose.positive
    (law (price t s) (worths_of places turns) (record { positive = All-weaker (λ u. IsWorth u.1) (λ u. pos 0 ≤ℤ u.1) (λ u k. k.0) places worths; moves = paid }) unit x loose) lt

-- ---- counts

pub counts_few : (t : Table) (s : System) → LooseCountsBelow t s → FetchesCost t → IsSystem s → LooseValuesUnder (2 ^ 49) t s → LooseCountsAreFew s
counts_few t s law fetches is values unit x loose a = (law fetches is (2 ^ 49) values unit x loose).0 a
