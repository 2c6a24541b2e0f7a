-- Ranks from the ranks of what is called.
use Rattle.std.proofs.Common.{◌≡◌, refl, sym, ℕ, zero, suc, ◌+◌, ◌≤◌, ◌<◌, List, [], ◌∷◌, ◌++◌, length, arith, get_or, ◌⊎◌, inl, inr, subst, drop, add-one, length-append}
use Rattle.std.proofs.Math.Seq.{drop-cons}
use Rattle.types_calls.specs.Chains.{Among, callees, IsChain, end_of, IsRank, Reaches}

-- as far as the callees have been seen, rank is the greatest number of calls
pub record IsSoFar (graph : List (List ℕ)) (f n : ℕ) (left : List ℕ) : Type 0 where
  pub chain : List ℕ
  pub is_chain : IsChain graph f chain
  pub attained : length chain ≡ n
  pub greatest : (g : ℕ) (gs : List ℕ) → Among g (callees graph f) → IsChain graph g gs → (suc (length gs) ≤ n) ⊎ Among g left

pub so_far_none : (graph : List (List ℕ)) (f : ℕ) → IsSoFar graph f 0 (callees graph f)
so_far_none graph f = record { chain = []; is_chain = tt; attained = refl; greatest = λ g gs a c. inr a }

below_all : (graph : List (List ℕ)) (f n : ℕ) → IsSoFar graph f n [] → (gs : List ℕ) → IsChain graph f gs → length gs ≤ n
below_all graph f n s [] c = omega arith
below_all graph f n s (g ∷ gs) c = given (s.greatest g gs c.0 c.1)
  where
    given : (suc (length gs) ≤ n) ⊎ ⊥ → length (g ∷ gs) ≤ n
    given (inl h) = omega (arith, h)
    given (inr h) = absurd h

pub so_far_all : (graph : List (List ℕ)) (f n : ℕ) → IsSoFar graph f n [] → IsRank graph f n
so_far_all graph f n s = record { chain = s.chain; is_chain = s.is_chain; attained = s.attained; greatest = below_all graph f n s }

-- one callee more, that adds nothing
seen : (graph : List (List ℕ)) (h k m n : ℕ) (left : List ℕ) (g : ℕ) (gs : List ℕ) → IsRank graph h k → n ≤ m → suc k ≤ m → IsChain graph g gs → (suc (length gs) ≤ n) ⊎ ((g ≡ h) ⊎ Among g left) → (suc (length gs) ≤ m) ⊎ Among g left
seen graph h k m n left g gs r le lk c (inl x) = inl (omega (arith, x))
seen graph h k m n left g gs r le lk c (inr (inr x)) = inr x
seen graph h k m n left g gs r le lk c (inr (inl e)) = let b = r.greatest gs (subst (λ y. IsChain graph y gs) e c) in inl (omega (arith, b))

pub so_far_lower : (graph : List (List ℕ)) (f n h k : ℕ) (left : List ℕ) → IsRank graph h k → suc k ≤ n → IsSoFar graph f n (h ∷ left) → IsSoFar graph f n left
so_far_lower graph f n h k left r le s = record {
  chain = s.chain;
  is_chain = s.is_chain;
  attained = s.attained;
  greatest = λ g gs a c. seen graph h k n n left g gs r (omega arith) le c (s.greatest g gs a c);
}

pub so_far_higher : (graph : List (List ℕ)) (f n h k : ℕ) (left : List ℕ) → Among h (callees graph f) → IsRank graph h k → n ≤ k → IsSoFar graph f n (h ∷ left) → IsSoFar graph f (suc k) left
so_far_higher graph f n h k left a r le s = record {
  chain = h ∷ r.chain;
  is_chain = (a, r.is_chain);
  attained = omega (arith, r.attained);
  greatest = λ g gs b c. seen graph h k (suc k) n left g gs r (omega (arith, le)) (omega arith) c (s.greatest g gs b c);
}

pub so_far_step : (graph : List (List ℕ)) (f n h k r : ℕ) (left : List ℕ) → Among h (callees graph f) → IsRank graph h k → ((k < n) × (r ≡ n)) ⊎ ((n ≤ k) × (r ≡ suc k)) → IsSoFar graph f n (h ∷ left) → IsSoFar graph f r left
so_far_step graph f n h k r left a rank (inl (lt, e)) s = subst (λ m. IsSoFar graph f m left) (sym e) (so_far_lower graph f n h k left rank (omega (arith, lt)) s)
so_far_step graph f n h k r left a rank (inr (le, e)) s = subst (λ m. IsSoFar graph f m left) (sym e) (so_far_higher graph f n h k left a rank le s)

pub read_callees : (graph : List (List ℕ)) (f : ℕ) (x : List ℕ) → f < length graph → x ≡ get_or graph f x → x ≡ callees graph f
read_callees [] f x h e = absurd (omega (arith, h))
read_callees (y ∷ graph) zero x h e = e
read_callees (y ∷ graph) (suc f) x h e = read_callees graph f x (omega (arith, h)) e

pub among_at : (xs : List ℕ) (i : ℕ) → i < length xs → Among (get_or xs i 0) xs
among_at [] i h = absurd (omega (arith, h))
among_at (x ∷ xs) zero h = inl refl
among_at (x ∷ xs) (suc i) h = inr (among_at xs i (omega (arith, h)))

pub drop_past : (xs : List ℕ) (i : ℕ) → length xs ≤ i → drop i xs ≡ []
drop_past [] zero h = refl
drop_past [] (suc i) h = refl
drop_past (x ∷ xs) zero h = absurd (omega (arith, h))
drop_past (x ∷ xs) (suc i) h = drop_past xs i (omega (arith, h))

pub drop_at : (xs : List ℕ) (i : ℕ) → i < length xs → drop i xs ≡ get_or xs i 0 ∷ drop (i + 1) xs
drop_at xs i h = rw add-one (drop-cons xs i 0 h)

pub chain_join : (graph : List (List ℕ)) (f : ℕ) (gs hs : List ℕ) → IsChain graph f gs → IsChain graph (end_of f gs) hs → IsChain graph f (gs ++ hs)
chain_join graph f [] hs c d = d
chain_join graph f (g ∷ gs) hs c d = (c.0, chain_join graph g gs hs c.1 d)

-- what has a rank does not reach itself
pub ranked_free : (graph : List (List ℕ)) (f n : ℕ) → IsRank graph f n → Reaches graph f f → ⊥
ranked_free graph f n r p =
    let round = p.next ∷ p.chain in
    let on : IsChain graph (end_of f round) r.chain = subst (λ y. IsChain graph y r.chain) (sym p.ends) r.is_chain in
    let longer = r.greatest (round ++ r.chain) (chain_join graph f round r.chain (p.calls, p.is_chain) on) in
    let size = length-append round r.chain in
    absurd (omega (arith, longer, size, r.attained))
