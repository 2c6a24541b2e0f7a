-- How many loops the functions of a system have together, and how far so many reach.
use Rattle.std.proofs.Common.{◌≡◌, ℕ, zero, suc, ◌+◌, ◌≤◌, ℤ, pos, ◌+ℤ◌, ◌≤ℤ◌, arith, refl, ap, ◌∙◌, List, [], ◌∷◌, length, inl, inr, Bool, true, false, cond}
use Rattle.std.specs.Prelude.{◌&&◌}
use Rattle.std.proofs.lemmas.Int.{ints}
use Rattle.code_flow_system.specs.declared.claims.LoopClaim.{LoopClaim}
use Rattle.code_flow_system.specs.declared.moves.Move.{Move}
use Rattle.code_flow_system.specs.declared.shapes.LoopShape.{LoopShape}
use Rattle.code_flow_system.specs.declared.shapes.Span.{Span}
use Rattle.code_flow_system.specs.Claims.{Claims}
use Rattle.code_flow_system.specs.Systems.{has_moves}
use Rattle.code_flow_system.specs.Shapes.{AreAllApart, IsInOne}
use Rattle.loop_walks.specs.declared.step.Step.{Step}
use Rattle.loop_ranges.specs.Reach.{reach}
use Rattle.path_places.specs.Reached.{in_span}
use Rattle.path_places.specs.Places.{loop_of, loops_of}
use Rattle.path_places.proofs.RankLemmas.{span_of, apart_one}

-- ---- loops

-- the loops that a function has
abbrev pub kept : List Move → Span → List LoopClaim → List LoopShape → ℕ
kept all p [] ks = 0
kept all p (c ∷ cs) [] = 0
kept all p (c ∷ cs) (l ∷ ks) = cond (in_span p l.header && has_moves all l.header) 1 0 + kept all p cs ks

pub loops-kept : (price : Move → ℤ) (low : ℤ) (all : List Move) (claims : Claims) (p : Span) (ms : List Step) (cs : List LoopClaim) (ks : List LoopShape) → length (loops_of price low all claims p ms cs ks) ≡ kept all p cs ks
loops-kept price low all claims p ms [] ks = refl
loops-kept price low all claims p ms (c ∷ cs) [] = refl
loops-kept price low all claims p ms (c ∷ cs) (l ∷ ks) = by_test (in_span p l.header && has_moves all l.header) (loops-kept price low all claims p ms cs ks)
  where
    by_test : (t : Bool) → length (loops_of price low all claims p ms cs ks) ≡ kept all p cs ks →
        length (cond t (loop_of price low all claims p ms c l ∷ loops_of price low all claims p ms cs ks) (loops_of price low all claims p ms cs ks)) ≡ cond t 1 0 + kept all p cs ks
    by_test true r = omega (arith, r)
    by_test false r = omega (arith, r)

abbrev pub all_kept : List Move → List Span → List LoopClaim → List LoopShape → ℕ
all_kept all [] cs ks = 0
all_kept all (p ∷ ps) cs ks = kept all p cs ks + all_kept all ps cs ks

-- the functions that have a loop
abbrev keepers : List Move → List Span → LoopShape → ℕ
keepers all [] l = 0
keepers all (p ∷ ps) l = cond (in_span p l.header && has_moves all l.header) 1 0 + keepers all ps l

keepers_none : (all : List Move) (ps : List Span) (l : LoopShape) → (IsInOne ps l.header → ⊥) → keepers all ps l ≡ 0
keepers_none all [] l out = refl
keepers_none all (p ∷ ps) l out = by_test (in_span p l.header) refl (has_moves all l.header) (keepers_none all ps l (λ i. out (inr i)))
  where
    by_test : (t : Bool) → in_span p l.header ≡ t → (u : Bool) → keepers all ps l ≡ 0 → cond (t && u) 1 0 + keepers all ps l ≡ 0
    by_test true e u r = absurd (out (inl (span_of p l.header e)))
    by_test false e u r = omega (arith, r)

keepers_most : (all : List Move) (ps : List Span) (l : LoopShape) → AreAllApart ps → keepers all ps l ≤ 1
keepers_most all [] l apart = omega arith
keepers_most all (p ∷ ps) l apart = by_test (in_span p l.header) refl (has_moves all l.header) (keepers_most all ps l apart.1)
  where
    by_test : (t : Bool) → in_span p l.header ≡ t → (u : Bool) → keepers all ps l ≤ 1 → cond (t && u) 1 0 + keepers all ps l ≤ 1
    by_test true e true r = let z = keepers_none all ps l (λ i. apart_one p ps l.header apart.0 i (span_of p l.header e)) in omega (arith, z)
    by_test true e false r = omega (arith, r)
    by_test false e u r = omega (arith, r)

all-kept-cons : (all : List Move) (ps : List Span) (c : LoopClaim) (cs : List LoopClaim) (l : LoopShape) (ks : List LoopShape) → all_kept all ps (c ∷ cs) (l ∷ ks) ≡ keepers all ps l + all_kept all ps cs ks
all-kept-cons all [] c cs l ks = refl
all-kept-cons all (p ∷ ps) c cs l ks = let r = all-kept-cons all ps c cs l ks in omega (arith, r)

all_kept_none : (all : List Move) (ps : List Span) (ks : List LoopShape) → all_kept all ps [] ks ≡ 0
all_kept_none all [] ks = refl
all_kept_none all (p ∷ ps) ks = let r = all_kept_none all ps ks in omega (arith, r)

all_kept_short : (all : List Move) (ps : List Span) (c : LoopClaim) (cs : List LoopClaim) → all_kept all ps (c ∷ cs) [] ≡ 0
all_kept_short all [] c cs = refl
all_kept_short all (p ∷ ps) c cs = let r = all_kept_short all ps c cs in omega (arith, r)

-- no more than there are claims
pub all_kept_most : (all : List Move) (ps : List Span) (cs : List LoopClaim) (ks : List LoopShape) → AreAllApart ps → all_kept all ps cs ks ≤ length cs
all_kept_most all ps [] ks apart = let z = all_kept_none all ps ks in omega (arith, z)
all_kept_most all ps (c ∷ cs) [] apart = let z = all_kept_short all ps c cs in omega (arith, z)
all_kept_most all ps (c ∷ cs) (l ∷ ks) apart =
    let e = all-kept-cons all ps c cs l ks in
    let k = keepers_most all ps l apart in
    let r = all_kept_most all ps cs ks apart in omega (arith, e, k, r)

-- ---- reach

pub reach_least : (step bound : ℤ) (k : ℕ) → pos 0 ≤ℤ step → bound ≤ℤ reach step bound k
reach_least step bound zero h = omega (arith, ints)
reach_least step bound (suc k) h = let r = reach_least step (bound +ℤ step) k h in omega (arith, ints)

pub reach-add : (step bound : ℤ) (k n : ℕ) → reach step bound (k + n) ≡ reach step (reach step bound k) n
reach-add step bound zero n = let e : 0 + n ≡ n = omega arith in ap (λ j. reach step bound j) e
reach-add step bound (suc k) n = let e : suc k + n ≡ suc (k + n) = omega arith in ap (λ j. reach step bound j) e ∙ reach-add step (bound +ℤ step) k n

pub reach_grows : (step bound : ℤ) (k n : ℕ) → pos 0 ≤ℤ step → k ≤ n → reach step bound k ≤ℤ reach step bound n
reach_grows step bound zero n h le = reach_least step bound n h
reach_grows step bound (suc k) zero h le = absurd (omega (arith, le))
reach_grows step bound (suc k) (suc n) h le = reach_grows step (bound +ℤ step) k n h (omega (arith, le))
