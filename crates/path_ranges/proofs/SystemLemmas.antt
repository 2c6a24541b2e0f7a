-- A system without what keeps flows from visits fits as before; where its moves go, and which loop a header has.
use Rattle.std.proofs.Common.{◌≡◌, ◌≢◌, ℕ, zero, suc, ◌≤◌, ◌<◌, arith, refl, sym, ap, ◌∙◌, subst, List, [], ◌∷◌, ◌++◌, Contains, All, inl, inr, ◌⊎◌, Bool, true, false, Option, Some, None}
use Rattle.std.specs.Prelude.{◌==◌, ◌||◌, ◌&&◌}
use Rattle.std.specs.Option.{option_to_list}
use Rattle.std.proofs.lemmas.Bool.Decides.{nat_tests}
use Rattle.std.proofs.lemmas.List.Elements.{All-head, All-tail, All-contains, All-cons, All-nil}
use Rattle.code_flow_system.specs.declared.claims.LoopClaim.{LoopClaim}
use Rattle.code_flow_system.specs.declared.moves.Move.{Move}
use Rattle.code_flow_system.specs.declared.shapes.LoopShape.{LoopShape}
use Rattle.code_flow_system.specs.declared.shapes.Span.{Span}
use Rattle.code_flow_system.specs.Claims.{Claims}
use Rattle.code_flow_system.specs.Moves.{destinations}
use Rattle.code_flow_system.specs.Systems.{System, has_moves}
use Rattle.code_flow_system.specs.Loose.{most_turns}
use Rattle.code_flow_system.specs.Shapes.{AreShapesOf, IsLoop, onward_by, onward, is_back, GoesUp, IsInOne, StaysIn, CallsEarlier, Fits}
use Rattle.path_places.specs.Reached.{AreFilled, rank}
use Rattle.path_places.specs.Places.{place_of, is_shut, is_stop}
use Rattle.path_places.proofs.RankLemmas.{rank_stays, rank_earlier}
use Rattle.path_places.proofs.PlaceLemmas.{place_tells}
use Rattle.path_places.proofs.FunctionLemmas.{ClaimsAscend}
use Rattle.path_ranges.specs.Loosened.{loose_claim, loose_loops, loose_claims, loosened}
use Rattle.path_ranges.proofs.PartLemmas.{least_turns, Precedes, PrecedesAll}

-- ---- claims

loose_shapes : (cs : List LoopClaim) (ls : List LoopShape) → AreShapesOf cs ls → AreShapesOf (loose_loops cs) ls
loose_shapes [] [] h = h
loose_shapes [] (l ∷ ls) h = h
loose_shapes (c ∷ cs) [] h = h
loose_shapes (c ∷ cs) (l ∷ ls) h = (h.0, h.1, loose_shapes cs ls h.2)

loose_fit_loops : (s : System) (ls : List LoopShape) → All (IsLoop s) ls → All (IsLoop (loosened s)) ls
loose_fit_loops s [] h = All-nil (IsLoop (loosened s))
loose_fit_loops s (l ∷ ls) h =
    let k = All-head (IsLoop s) l ls h in
    All-cons (IsLoop (loosened s)) l ls (record { header = k.header; back = k.back; entry = k.entry; goes_back = k.goes_back; entered = k.entered }) (loose_fit_loops s ls (All-tail (IsLoop s) l ls h))

pub loose_fits : (s : System) (ls : List LoopShape) (ps : List Span) → Fits s ls ps → Fits (loosened s) ls ps
loose_fits s ls ps f = record {
  shapes = loose_shapes s.claims.loops ls f.shapes;
  nested = f.nested;
  loops = loose_fit_loops s ls f.loops;
  up = f.up;
  apart = f.apart;
  covered = f.covered;
  stays = f.stays;
  calls = f.calls;
}

all_above : (h : ℕ) (cs : List LoopClaim) → All (λ (d : LoopClaim). h < d.header) cs → All (λ (d : LoopClaim). h < d.header) (loose_loops cs)
all_above h [] a = All-nil (λ (d : LoopClaim). h < d.header)
all_above h (c ∷ cs) a = All-cons (λ (d : LoopClaim). h < d.header) (loose_claim c) (loose_loops cs) (All-head (λ (d : LoopClaim). h < d.header) c cs a) (all_above h cs (All-tail (λ (d : LoopClaim). h < d.header) c cs a))

pub loose_ascend : (cs : List LoopClaim) → ClaimsAscend cs → ClaimsAscend (loose_loops cs)
loose_ascend [] h = h
loose_ascend (c ∷ cs) h = (all_above c.header cs h.0, loose_ascend cs h.1)

-- no address may not be visited

none_shut : (cs : List LoopClaim) (a : ℕ) → is_shut (loose_loops cs) a ≡ false
none_shut [] a = refl
none_shut (c ∷ cs) a = neither (c.header == a) (most_turns c == 0) (is_shut (loose_loops cs) a) (let e = least_turns c in often (most_turns c) e) (none_shut cs a)
  where
    often : (n : ℕ) → 1 ≤ n → (n == 0) ≡ false
    often n h = grind (arith, nat_tests)

    neither : (t u v : Bool) → u ≡ false → v ≡ false → (t && u) || v ≡ false
    neither true true v e f = cc
    neither true false v e f = f
    neither false u v e f = f

pub none_stop : (c : Claims) (a : ℕ) → is_stop (loose_claims c) a ≡ false
none_stop c a = none_shut c.loops a

-- one claim for each header

above_differs : (h : ℕ) (cs : List LoopClaim) (c : LoopClaim) → All (λ (d : LoopClaim). h < d.header) cs → Contains cs c → h ≢ c.header
above_differs h cs c a i e = let lt = All-contains (λ (d : LoopClaim). h < d.header) cs c a i in absurd (omega (arith, e, lt))

pub one_claim : (cs : List LoopClaim) (c d : LoopClaim) → ClaimsAscend cs → Contains cs c → Contains cs d → c.header ≡ d.header → c ≡ d
one_claim [] c d h (i, lt, e) k q = absurd (omega (arith, lt))
one_claim (x ∷ cs) c d h (zero, lt, e) (zero, gt, f) q = sym e ∙ f
one_claim (x ∷ cs) c d h (zero, lt, e) (suc j, gt, f) q = absurd (above_differs x.header cs d h.0 (j, omega (arith, gt), f) (ap (λ (y : LoopClaim). y.header) e ∙ q))
one_claim (x ∷ cs) c d h (suc i, lt, e) (zero, gt, f) q = absurd (above_differs x.header cs c h.0 (i, omega (arith, lt), e) (ap (λ (y : LoopClaim). y.header) f ∙ sym q))
one_claim (x ∷ cs) c d h (suc i, lt, e) (suc j, gt, f) q = one_claim cs c d h.1 (i, omega (arith, lt), e) (j, omega (arith, gt), f) q

-- the back address of a claim is a jump back
pub claim_back : (cs : List LoopClaim) (ls : List LoopShape) (c : LoopClaim) → AreShapesOf cs ls → Contains cs c → is_back ls c.back ≡ true
claim_back [] ls c h (i, lt, e) = absurd (omega (arith, lt))
claim_back (x ∷ cs) [] c h i = absurd h
claim_back (x ∷ cs) (l ∷ ls) c h (zero, lt, e) = here (l.back == c.back) (same l.back c.back (h.1 ∙ ap (λ (y : LoopClaim). y.back) e))
  where
    same : (a b : ℕ) → a ≡ b → (a == b) ≡ true
    same a b e = grind (arith, nat_tests)

    here : (t : Bool) → t ≡ true → t || is_back ls c.back ≡ true
    here true e = refl
    here false e = cc
claim_back (x ∷ cs) (l ∷ ls) c h (suc i, lt, e) = later (l.back == c.back) (claim_back cs ls c h.2 (i, omega (arith, lt), e))
  where
    later : (t : Bool) → is_back ls c.back ≡ true → t || is_back ls c.back ≡ true
    later true h = refl
    later false h = h

pub not_back : (cs : List LoopClaim) (ls : List LoopShape) (a : ℕ) → AreShapesOf cs ls → is_back ls a ≡ false → (c : LoopClaim) → Contains cs c → a ≢ c.back
not_back cs ls a shapes free c i e = apart (is_back ls a) free (subst (λ b. is_back ls b ≡ true) (sym e) (claim_back cs ls c shapes i))
  where
    apart : (t : Bool) → t ≡ false → t ≡ true → ⊥
    apart true e f = cc
    apart false e f = cc

-- ---- where moves go

-- where a call goes to, beside where it goes on
abbrev pub called_by : Option ℕ → Option ℕ → List ℕ
called_by None back = []
called_by (Some t) None = []
called_by (Some t) (Some b) = t ∷ []

pub dests-split : (to back : Option ℕ) → option_to_list to ++ option_to_list back ≡ called_by to back ++ onward_by to back
dests-split None None = refl
dests-split None (Some b) = refl
dests-split (Some t) None = refl
dests-split (Some t) (Some b) = refl

pub place_same : (s : System) (a b : ℕ) → has_moves s.moves a ≡ true → has_moves s.moves b ≡ true → place_of s.moves a ≡ place_of s.moves b → a ≡ b
place_same s a b h k e =
    let u = place_tells s.moves a b k (omega (arith, e)) in
    let v = place_tells s.moves b a h (omega (arith, e)) in omega (arith, u, v)

module _ (ps : List Span) (a b : ℕ) (first : (b ≡ a) ⊎ Precedes ps b a) where
  precedes_on : (d : ℕ) → rank ps d ≡ rank ps a → a < d → Precedes ps b d
  precedes_on d same up = elim first [
    | inl e ↦ let f : rank ps b ≡ rank ps a = ap (rank ps) e in inr (f ∙ sym same, omega (arith, e, up))
    | inr p ↦ elim p [
      | inl k ↦ inl (omega (arith, same, k))
      | inr k ↦ let k0 = k.0 in let k1 = k.1 in inr (k0 ∙ sym same, omega (arith, k1, up))
    ]
  ]

  precedes_call : (t : ℕ) → rank ps t < rank ps a → Precedes ps b t
  precedes_call t lower = elim first [
    | inl e ↦ let f : rank ps b ≡ rank ps a = ap (rank ps) e in inl (omega (arith, f, lower))
    | inr p ↦ elim p [
      | inl k ↦ inl (omega (arith, k, lower))
      | inr k ↦ let k0 = k.0 in inl (omega (arith, k0, lower))
    ]
  ]

  pub dests_behind : (to back : Option ℕ) → ((d : ℕ) → Contains (onward_by to back) d → (rank ps d ≡ rank ps a) × (a < d)) → ((t k : ℕ) → to ≡ Some t → back ≡ Some k → rank ps t < rank ps a) → PrecedesAll ps b (option_to_list to ++ option_to_list back)
  dests_behind None None on call = tt
  dests_behind None (Some k) on call = let o = on k (zero, omega arith, refl) in (precedes_on k o.0 o.1, tt)
  dests_behind (Some t) None on call = let o = on t (zero, omega arith, refl) in (precedes_on t o.0 o.1, tt)
  dests_behind (Some t) (Some k) on call = let o = on k (zero, omega arith, refl) in (precedes_call t (call t k refl refl), (precedes_on k o.0 o.1, tt))

module _ (s : System) (ls : List LoopShape) (ps : List Span) (fits : Fits s ls ps) (full : AreFilled ps) (m : Move) (im : Contains s.moves m) where
  pub goes_on : is_back ls m.at ≡ false → (d : ℕ) → Contains (onward m) d → (rank ps d ≡ rank ps m.at) × (m.at < d)
  goes_on free d h = (
    rank_stays ps m d fits.apart (All-contains (λ (x : Move). IsInOne ps x.at) s.moves m fits.covered im) (All-contains (λ (x : Move). All (StaysIn x) ps) s.moves m fits.stays im) h,
    All-contains (λ a. m.at < a) (onward m) d (All-contains (GoesUp ls) s.moves m fits.up im free) h,
  )

  pub calls_before : (t k : ℕ) → m.to ≡ Some t → m.behind ≡ Some k → rank ps t < rank ps m.at
  calls_before t k e f = rank_earlier ps t m.at full fits.apart (All-contains (CallsEarlier ps) s.moves m fits.calls im t k e f)

  -- a move that is no jump back goes behind its address
  pub goes_behind : is_back ls m.at ≡ false → (b : ℕ) → (b ≡ m.at) ⊎ Precedes ps b m.at → PrecedesAll ps b (destinations m)
  goes_behind free b first = dests_behind ps m.at b first m.to m.behind (goes_on free) calls_before
