-- Ranks of the functions so far.
use Rattle.std.proofs.Common.{◌≡◌, refl, ap, ◌∙◌, sym, subst, ℕ, zero, suc, ◌+◌, ◌<◌, ◌≤◌, List, [], ◌∷◌, ◌++◌, length, get_or, arith, ◌⊎◌, inl, inr, length-append, replicate}
use Rattle.std.proofs.lemmas.List.{get_or_append_left, length-replicate}
use Rattle.std.proofs.Math.Seq.{get_or-append_seam}
use Rattle.call_graph.specs.declared.graph.Mark.{Mark}
use Rattle.call_graph.specs.declared.graph.Mark.TheVariants.{New}
use Rattle.types_calls.specs.Chains.{Among, callees, IsRank, AreRanks}
use Rattle.call_graph.specs.Search.{IsInRange, IsPath, IsRanking, Keeps, mark_of}

blank_at : (n g : ℕ) → mark_of (replicate n New) g ≡ New
blank_at zero g = refl
blank_at (suc n) zero = refl
blank_at (suc n) (suc g) = blank_at n g

pub ranking_begin : (graph : List (List ℕ)) → IsRanking graph 0 (replicate (length graph) New) []
ranking_begin graph = record {
  size = length-replicate (length graph) New;
  sound = record { ranks = λ g r e. let k = sym (blank_at (length graph) g) ∙ e in absurd (cc) };
  closed = λ g e. let k = sym (blank_at (length graph) g) ∙ e in cc;
  count = refl;
  each = λ g l. absurd (omega (arith, l));
}

pub path_none : (graph : List (List ℕ)) (f h : ℕ) (marks : List Mark) (ranks : List ℕ) → IsRanking graph f marks ranks → IsPath graph marks h
path_none graph f h marks ranks r = record { reach = λ g e. absurd (r.closed g e) }

below_or_at : (i n : ℕ) → i < n + 1 → (i < n) ⊎ (n ≡ i)
below_or_at zero zero h = inr refl
below_or_at zero (suc n) h = inl (omega arith)
below_or_at (suc i) zero h = absurd (omega (arith, h))
below_or_at (suc i) (suc n) h = up (below_or_at i n (omega (arith, h)))
  where
    up : (i < n) ⊎ (n ≡ i) → (suc i < suc n) ⊎ (suc n ≡ suc i)
    up (inl a) = inl (omega (arith, a))
    up (inr a) = inr (ap suc a)

each_at : (graph : List (List ℕ)) (f r g : ℕ) (ranks : List ℕ) → length ranks ≡ f → ((g : ℕ) → g < f → IsRank graph g (get_or ranks g 0)) → IsRank graph f r → (g < f) ⊎ (f ≡ g) → IsRank graph g (get_or (ranks ++ r ∷ []) g 0)
each_at graph f r g ranks c e k (inl l) = subst (IsRank graph g) (sym (get_or_append_left ranks (r ∷ []) 0 g (omega (arith, c, l)))) (e g l)
each_at graph f r g ranks c e k (inr same) =
    let at : get_or (ranks ++ r ∷ []) f 0 ≡ r = ap (λ n. get_or (ranks ++ r ∷ []) n 0) (sym c) ∙ get_or-append_seam ranks r [] 0 in
    subst (λ y. IsRank graph y (get_or (ranks ++ r ∷ []) y 0)) same (subst (IsRank graph f) (sym at) k)

pub ranking_step : (graph : List (List ℕ)) (f r : ℕ) (marks new : List Mark) (ranks : List ℕ) → IsRanking graph f marks ranks → IsRank graph f r → Keeps graph marks new → IsRanking graph (f + 1) new (ranks ++ r ∷ [])
ranking_step graph f r marks new ranks s k n = record {
  size = n.size ∙ s.size;
  sound = n.sound;
  closed = λ g e. s.closed g (n.opens g e);
  count = let a = length-append ranks (r ∷ []) in omega (arith, a, s.count);
  each = λ g l. each_at graph f r g ranks s.count s.each k (below_or_at g f l);
}

-- a chain through g is longer than one from g
rank_falls : (graph : List (List ℕ)) (f g m n : ℕ) → IsRank graph f n → IsRank graph g m → Among g (callees graph f) → m < n
rank_falls graph f g m n r s a = let longer = r.greatest (g ∷ s.chain) (a, s.is_chain) in omega (arith, longer, s.attained)

calls_nothing : (graph : List (List ℕ)) (f g : ℕ) → length graph ≤ f → Among g (callees graph f) → ⊥
calls_nothing [] f g h a = a
calls_nothing (x ∷ graph) zero g h a = omega (arith, h)
calls_nothing (x ∷ graph) (suc f) g h a = calls_nothing graph f g (omega (arith, h)) a

below_or_above : (f n : ℕ) → (f < n) ⊎ (n ≤ f)
below_or_above f zero = inr (omega arith)
below_or_above zero (suc n) = inl (omega arith)
below_or_above (suc f) (suc n) = up (below_or_above f n)
  where
    up : (f < n) ⊎ (n ≤ f) → (suc f < suc n) ⊎ (suc n ≤ suc f)
    up (inl h) = inl (omega (arith, h))
    up (inr h) = inr (omega (arith, h))

falls_at : (graph : List (List ℕ)) (ranks : List ℕ) (f g : ℕ) → IsInRange graph → ((f : ℕ) → f < length graph → IsRank graph f (get_or ranks f 0)) → Among g (callees graph f) → (f < length graph) ⊎ (length graph ≤ f) → get_or ranks g 0 < get_or ranks f 0
falls_at graph ranks f g range each a (inl h) = rank_falls graph f g (get_or ranks g 0) (get_or ranks f 0) (each f h) (each g (range.within f g a)) a
falls_at graph ranks f g range each a (inr h) = absurd (calls_nothing graph f g h a)

pub ranking_end : (graph : List (List ℕ)) (f : ℕ) (marks : List Mark) (ranks : List ℕ) → IsInRange graph → length graph ≤ f → f ≤ length graph → IsRanking graph f marks ranks → AreRanks graph ranks
ranking_end graph f marks ranks range a b s =
    let each : (g : ℕ) → g < length graph → IsRank graph g (get_or ranks g 0) = λ g l. s.each g (omega (arith, a, l)) in
    record { size = omega (arith, a, b, s.count); each = each; falls = λ f g c. falls_at graph ranks f g range each c (below_or_above f (length graph)) }
