-- A graph of calls has one list of ranks, or one first function that reaches itself.
use Rattle.std.proofs.Common.{◌≡◌, ℕ, suc, ◌<◌, ◌≤◌, inl, inr, List, [], ◌∷◌, length, get_or, refl, sym, ap, ◌∙◌, arith}
use Rattle.std.proofs.Math.Path.{ap₂}
use Rattle.std.proofs.lemmas.Bool.{cases_lt}
use Rattle.types_calls.specs.Calls.{Graph}
use Rattle.types_calls.specs.Chains.{IsChain, end_of, IsRank, Reaches, AreRanks, IsFirstCycle}

one_rank : (graph : Graph) (f m n : ℕ) → IsRank graph f m → IsRank graph f n → m ≡ n
one_rank graph f m n r s =
    let below = s.greatest r.chain r.is_chain in
    let above = r.greatest s.chain s.is_chain in
    omega (arith, below, above, r.attained, s.attained)

same_list : (xs ys : List ℕ) → length xs ≡ length ys → ((i : ℕ) → i < length xs → get_or xs i 0 ≡ get_or ys i 0) → xs ≡ ys
same_list [] [] size each = refl
same_list [] (y ∷ ys) size each = absurd (omega (arith, size))
same_list (x ∷ xs) [] size each = absurd (omega (arith, size))
same_list (x ∷ xs) (y ∷ ys) size each =
    ap₂ (λ z zs. z ∷ zs) (each 0 (omega arith)) (same_list xs ys (omega (arith, size)) (λ i within. each (suc i) (omega (arith, within))))

pub one_ranks : (graph : Graph) (ranks others : List ℕ) → AreRanks graph ranks → AreRanks graph others → ranks ≡ others
one_ranks graph ranks others r s =
    same_list ranks others (r.size ∙ sym s.size)
    (λ i within. let inside : i < length graph = omega (arith, within, r.size) in one_rank graph i _ _ (r.each i inside) (s.each i inside))

-- no rank in a chain of calls is higher than its first
chain_falls : (graph : Graph) (ranks : List ℕ) → AreRanks graph ranks → (f : ℕ) (gs : List ℕ) → IsChain graph f gs → get_or ranks (end_of f gs) 0 ≤ get_or ranks f 0
chain_falls graph ranks r f [] chain = omega arith
chain_falls graph ranks r f (g ∷ gs) chain =
    let rest = chain_falls graph ranks r g gs chain.1 in
    let first = r.falls f g chain.0 in
    omega (arith, rest, first)

-- what has ranks has no function that reaches itself
pub ranks_free : (graph : Graph) (ranks : List ℕ) (f : ℕ) → AreRanks graph ranks → Reaches graph f f → ⊥
ranks_free graph ranks f r p =
    let rest = chain_falls graph ranks r p.next p.chain p.is_chain in
    let first = r.falls f p.next p.calls in
    let round = ap (λ g. get_or ranks g 0) p.ends in
    absurd (omega (arith, rest, first, round))

pub one_cycle : (graph : Graph) (f g : ℕ) → IsFirstCycle graph f → IsFirstCycle graph g → f ≡ g
one_cycle graph f g p q = elim (cases_lt f g) [
  | inl lt ↦ absurd (q.first f lt p.reaches)
  | inr le ↦ elim (cases_lt g f) [ inl lt ↦ absurd (p.first g lt q.reaches) | inr ge ↦ omega (arith, le, ge) ]
]
