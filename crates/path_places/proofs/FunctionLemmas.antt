-- Each function of a system whose loops fit is steps and loops over places.
use Rattle.std.proofs.Common.{◌≡◌, ◌≢◌, ℕ, zero, suc, ◌+◌, ◌≤◌, ◌<◌, ℤ, arith, refl, sym, ap, subst, List, [], ◌∷◌, ◌++◌, length, Contains, All, inl, inr, ◌⊎◌, Bool, true, false, cond, Option, Some, None}
use Rattle.std.specs.Prelude.{nat_lt, ◌==◌, ◌&&◌, ◌||◌, not}
use Rattle.std.specs.Option.{option_to_list}
use Rattle.std.proofs.lemmas.Bool.Decides.{nat_tests, eqb_tells}
use Rattle.std.proofs.lemmas.List.Elements.{All-head, All-tail, All-contains, All-cons, All-nil}
use Rattle.code_flow_system.specs.declared.claims.LoopClaim.{LoopClaim}
use Rattle.code_flow_system.specs.declared.moves.Move.{Move}
use Rattle.code_flow_system.specs.declared.shapes.LoopShape.{LoopShape}
use Rattle.code_flow_system.specs.declared.shapes.Span.{Span}
use Rattle.code_flow_system.specs.Claims.{Claims, is_aligned, exit_flaws, never_flaws, region_flaws, loop_flaws, fact_flaws, AreSound}
use Rattle.code_flow_system.specs.Systems.{System, AreAscending, has_moves}
use Rattle.code_flow_system.specs.Moves.{destinations}
use Rattle.code_flow_system.specs.Shapes.{AreShapesOf, IsInLoop, IsLoop, onward_by, is_back, IsInSpan, IsInOne, StaysIn, Fits}
use Rattle.loop_walks.specs.declared.step.Step.{Step}
use Rattle.loop_walks.specs.Rows.{AreSteps, Each, IsBack, IsLoopOf, HeadersAbove, AreLoops}
use Rattle.path_places.specs.Reached.{AreReached, AreFilled, in_span, rank}
use Rattle.path_places.specs.Places.{place_of, is_stop, is_walked, steps_of, back_place, end_place, loop_of, loops_of}
use Rattle.path_places.specs.PlaceLaws.{IsReachedWhole, FunctionsFit}
use Rattle.path_places.proofs.RankLemmas.{rank_equal, rank_stays, rank_inside, span_of}
use Rattle.path_places.proofs.HeaderLemmas.{reached_behind}
use Rattle.path_places.proofs.PlaceLemmas.{place_up, place_above, place_tells}
use Rattle.path_places.proofs.LoopLemmas.{steps_each, steps_ascend, has_of, goes_out, loop_is}

-- loop claims ascend by their headers
abbrev pub ClaimsAscend : List LoopClaim → Type 0
ClaimsAscend [] = Unit {0}
ClaimsAscend (c ∷ cs) = All (λ (d : LoopClaim). c.header < d.header) cs × ClaimsAscend cs

-- an address with moves has one
pub move_of : (ms : List Move) (a : ℕ) → has_moves ms a ≡ true → (m : Move) × Contains ms m × (m.at ≡ a)
move_of [] a h = cc
move_of (x ∷ ms) a h = elim (eqb_tells x.at a) [
  | inl e ↦ (x, (zero, omega arith, refl), e.1)
  | inr e ↦ later (move_of ms a (rest (x.at == a) e.0 h))
]
  where
    rest : (t : Bool) → t ≡ false → cond t true (has_moves ms a) ≡ true → has_moves ms a ≡ true
    rest true e h = cc
    rest false e h = h

    later : ((m : Move) × Contains ms m × (m.at ≡ a)) → (m : Move) × Contains (x ∷ ms) m × (m.at ≡ a)
    later r = (r.0, (suc r.1.0, omega (arith, r.1.1), r.1.2), r.2)

pub walked_in : (p : Span) (t : Bool) (a : ℕ) → in_span p a && t ≡ true → IsInSpan p a
walked_in p t a h = span_of p a (first (in_span p a) t h)
  where
    first : (x y : Bool) → x && y ≡ true → x ≡ true
    first true y h = refl
    first false y h = cc

pub walked_not : (x s b : Bool) → x && not (s || b) ≡ true → b ≡ false
walked_not true true b h = cc
walked_not true false true h = cc
walked_not true false false h = refl
walked_not false s b h = cc

pub differ : (t : Bool) → t ≡ true → t ≡ false → ⊥
differ true e f = cc
differ false e f = cc

pub is_back_at : (ls : List LoopShape) (l : LoopShape) → Contains ls l → is_back ls l.back ≡ true
is_back_at [] l (k, lt, e) = absurd (omega (arith, lt))
is_back_at (x ∷ ls) l (zero, lt, e) = by_test (x.back == l.back) (same x.back l.back (ap (λ (y : LoopShape). y.back) e))
  where
    same : (a b : ℕ) → a ≡ b → (a == b) ≡ true
    same a b e = grind (arith, nat_tests)

    by_test : (t : Bool) → t ≡ true → t || is_back ls l.back ≡ true
    by_test true e = refl
    by_test false e = cc
is_back_at (x ∷ ls) l (suc k, lt, e) = either (x.back == l.back) (is_back_at ls l (k, omega (arith, lt), e))
  where
    either : (t : Bool) → is_back ls l.back ≡ true → t || is_back ls l.back ≡ true
    either true h = refl
    either false h = h

-- a move that arrives at one address goes on there
pub alone : (to back : Option ℕ) (h : ℕ) → option_to_list to ++ option_to_list back ≡ h ∷ [] → Contains (onward_by to back) h
alone None None h e = let l = ap length e in absurd (omega (arith, l))
alone (Some t) None h e = subst (λ xs. Contains xs h) (sym e) (zero, omega arith, refl)
alone None (Some b) h e = subst (λ xs. Contains xs h) (sym e) (zero, omega arith, refl)
alone (Some t) (Some b) h e = let l = ap length e in absurd (omega (arith, l))

module _ (s : System) (ls : List LoopShape) (ps : List Span) (fits : Fits s ls ps) (full : AreFilled ps) (reached : AreReached s) (ascending : AreAscending s.moves)
    (price : Move → ℤ) (low : ℤ) (ws : List ℤ) (p : Span) (ip : Contains ps p) where
  -- in its function a header is the first address of its range
  header_first : (l : LoopShape) → Contains ls l → IsInSpan p l.header → (a : ℕ) → has_moves s.moves a ≡ true → IsInSpan p a → IsInLoop l a → l.header ≤ a
  header_first l il inside a h ia i =
      let m = move_of s.moves a h in
      let r = reached m.0 m.1 in
      let b = reached_behind s ls ps fits full r.0 m.0.at r.1 l il (subst (λ c. IsInLoop l c) (sym m.2) i) in
      let same : rank ps m.0.at ≡ rank ps l.header = rank_equal ps p m.0.at l.header fits.apart ip (subst (λ c. IsInSpan p c) (sym m.2) ia) inside in
      let e = m.2 in
      elim b [ inl k ↦ absurd (omega (arith, k, same)) | inr k ↦ let k1 = k.1 in omega (arith, k1, e) ]

  pub function_steps : AreSteps (length s.moves) (steps_of price s.moves ws (is_walked s.claims ls p) s.moves)
  function_steps = steps_ascend s ls price ws (is_walked s.claims ls p) fits.up ascending (λ a w. walked_not (in_span p a) (is_stop s.claims a) (is_back ls a) w)

  steps_out : (l : LoopShape) → Contains ls l → IsInSpan p l.header → has_moves s.moves l.header ≡ true →
      Each (λ k. (k.at < place_of s.moves l.header) ⊎ (end_place s.moves l p ≤ k.at) → (k.on ≤ place_of s.moves l.header) ⊎ (end_place s.moves l p ≤ k.on)) (steps_of price s.moves ws (is_walked s.claims ls p) s.moves)
  steps_out l il inside there = steps_each (λ k. (k.at < place_of s.moves l.header) ⊎ (end_place s.moves l p ≤ k.at) → (k.on ≤ place_of s.moves l.header) ⊎ (end_place s.moves l p ≤ k.on)) price s.moves ws (is_walked s.claims ls p) s.moves
      (λ m im w out. goes_out s ls price low ws p (steps_of price s.moves ws (is_walked s.claims ls p) s.moves) (record { source = 0; factor = 0; min = 0; max = 0; header = 0; back = 0 }) l (All-contains (IsLoop s) ls l fits.loops il) function_steps inside there (header_first l il inside) m im (walked_in p (not (is_stop s.claims m.at || is_back ls m.at)) m.at w) out)

  -- the jump back is in the header's function
  pub back_inside : (l : LoopShape) → Contains ls l → IsInSpan p l.header → has_moves s.moves l.back ≡ true → IsInSpan p l.back
  back_inside l il inside h =
      let m = move_of s.moves l.back h in
      let goes = All-contains (λ (x : Move). x.at ≡ l.back → destinations x ≡ l.header ∷ []) s.moves m.0 (All-contains (IsLoop s) ls l fits.loops il).goes_back m.1 m.2 in
      let on = alone m.0.to m.0.behind l.header goes in
      let r = rank_stays ps m.0 l.header fits.apart (All-contains (λ (x : Move). IsInOne ps x.at) s.moves m.0 fits.covered m.1) (All-contains (λ (x : Move). All (StaysIn x) ps) s.moves m.0 fits.stays m.1) on in
      subst (λ a. IsInSpan p a) m.2 (rank_inside ps p m.0.at l.header fits.apart ip inside (All-contains (λ (x : Move). IsInOne ps x.at) s.moves m.0 fits.covered m.1) (sym r))

  back_is : (claim : LoopClaim) (l : LoopShape) → Contains ls l → IsInSpan p l.header → has_moves s.moves l.header ≡ true →
      IsBack (loop_of price low s.moves s.claims p (steps_of price s.moves ws (is_walked s.claims ls p) s.moves) claim l) (steps_of price s.moves ws (is_walked s.claims ls p) s.moves) (back_place s.moves s.claims l.back)
  back_is claim l il inside there = by_test (has_moves s.moves l.back) refl (not (is_stop s.claims l.back))
    where
      loop : IsLoop s l
      loop = All-contains (IsLoop s) ls l fits.loops il

      none_at : has_moves s.moves l.back ≡ true → Each (λ k. k.at ≢ place_of s.moves l.back) (steps_of price s.moves ws (is_walked s.claims ls p) s.moves)
      none_at h = steps_each (λ k. k.at ≢ place_of s.moves l.back) price s.moves ws (is_walked s.claims ls p) s.moves
          (λ m im w e.
          let a = place_tells s.moves m.at l.back h (omega (arith, e)) in
          let b = place_tells s.moves l.back m.at (has_of s.moves m im) (omega (arith, e)) in
          let same : m.at ≡ l.back = omega (arith, a, b) in
          let n = walked_not (in_span p m.at) (is_stop s.claims m.at) (is_back ls m.at) w in
          let y : is_back ls m.at ≡ true = subst (λ c. is_back ls c ≡ true) (sym same) (is_back_at ls l il) in absurd (differ (is_back ls m.at) y n))

      by_test : (t : Bool) → has_moves s.moves l.back ≡ t → (u : Bool) → IsBack (loop_of price low s.moves s.claims p (steps_of price s.moves ws (is_walked s.claims ls p) s.moves) claim l) (steps_of price s.moves ws (is_walked s.claims ls p) s.moves) (cond (t && u) (Some (place_of s.moves l.back)) None)
      by_test true h true =
          let f = header_first l il inside l.back h (back_inside l il inside h) loop.back in
          let a = place_above s.moves l.back (l.last + 1) h (let t = loop.back.to in omega (arith, t)) in
          let b = place_above s.moves l.back p.end h (back_inside l il inside h).below in
          (place_up s.moves l.header l.back f, omega (arith, a, b), none_at h)
      by_test true h false = tt
      by_test false h u = tt

  one_loop : (claim : LoopClaim) (l : LoopShape) → Contains ls l → IsInSpan p l.header → has_moves s.moves l.header ≡ true →
      IsLoopOf (length s.moves) (steps_of price s.moves ws (is_walked s.claims ls p) s.moves) (loop_of price low s.moves s.claims p (steps_of price s.moves ws (is_walked s.claims ls p) s.moves) claim l)
  one_loop claim l il inside there = loop_is s ls price low ws p (steps_of price s.moves ws (is_walked s.claims ls p) s.moves) claim l (All-contains (IsLoop s) ls l fits.loops il) function_steps inside there (header_first l il inside) (steps_out l il inside there) (back_is claim l il inside there)

  headers_above : (h : ℕ) → has_moves s.moves h ≡ true → (ms : List Step) (cs : List LoopClaim) (ks : List LoopShape) → AreShapesOf cs ks → All (λ (d : LoopClaim). h < d.header) cs → HeadersAbove (place_of s.moves h) (loops_of price low s.moves s.claims p ms cs ks)
  headers_above h there ms [] ks are above = tt
  headers_above h there ms (c ∷ cs) [] are above = absurd are
  headers_above h there ms (c ∷ cs) (l ∷ ks) are above = by_test (in_span p l.header && has_moves s.moves l.header) (headers_above h there ms cs ks are.2 (All-tail (λ (d : LoopClaim). h < d.header) c cs above))
    where
      by_test : (t : Bool) → HeadersAbove (place_of s.moves h) (loops_of price low s.moves s.claims p ms cs ks) →
          HeadersAbove (place_of s.moves h) (cond t (loop_of price low s.moves s.claims p ms c l ∷ loops_of price low s.moves s.claims p ms cs ks) (loops_of price low s.moves s.claims p ms cs ks))
      by_test true r = (let a = All-head (λ (d : LoopClaim). h < d.header) c cs above in let e = are.0 in place_above s.moves h l.header there (omega (arith, a, e)), r)
      by_test false r = r

  some_loops : (cs : List LoopClaim) (ks : List LoopShape) → AreShapesOf cs ks → ClaimsAscend cs → ((l : LoopShape) → Contains ks l → Contains ls l) →
      AreLoops (length s.moves) (steps_of price s.moves ws (is_walked s.claims ls p) s.moves) (loops_of price low s.moves s.claims p (steps_of price s.moves ws (is_walked s.claims ls p) s.moves) cs ks)
  some_loops [] ks are ascend i = tt
  some_loops (c ∷ cs) [] are ascend i = absurd are
  some_loops (c ∷ cs) (l ∷ ks) are ascend i = by_test (in_span p l.header) refl (has_moves s.moves l.header) refl (some_loops cs ks are.2 ascend.1 (λ k h. i k (suc h.0, omega (arith, h.1), h.2)))
    where
      all_map : (x y : ℕ) → x ≡ y → (ds : List LoopClaim) → All (λ (d : LoopClaim). x < d.header) ds → All (λ (d : LoopClaim). y < d.header) ds
      all_map x y e ds h = subst (λ z. All (λ (d : LoopClaim). z < d.header) ds) e h

      by_test : (t : Bool) → in_span p l.header ≡ t → (u : Bool) → has_moves s.moves l.header ≡ u →
          AreLoops (length s.moves) (steps_of price s.moves ws (is_walked s.claims ls p) s.moves) (loops_of price low s.moves s.claims p (steps_of price s.moves ws (is_walked s.claims ls p) s.moves) cs ks) →
          AreLoops (length s.moves) (steps_of price s.moves ws (is_walked s.claims ls p) s.moves)
          (cond (t && u) (loop_of price low s.moves s.claims p (steps_of price s.moves ws (is_walked s.claims ls p) s.moves) c l ∷ loops_of price low s.moves s.claims p (steps_of price s.moves ws (is_walked s.claims ls p) s.moves) cs ks)
          (loops_of price low s.moves s.claims p (steps_of price s.moves ws (is_walked s.claims ls p) s.moves) cs ks))
      by_test true e true f r = (
        one_loop c l (i l (zero, omega arith, refl)) (span_of p l.header e) f,
        headers_above l.header f (steps_of price s.moves ws (is_walked s.claims ls p) s.moves) cs ks are.2 (let q = are.0 in all_map c.header l.header (sym q) cs ascend.0),
        r,
      )
      by_test true e false f r = r
      by_test false e u f r = r

  -- the loops of a function, outermost first
  pub function_loops : ClaimsAscend s.claims.loops → AreLoops (length s.moves) (steps_of price s.moves ws (is_walked s.claims ls p) s.moves) (loops_of price low s.moves s.claims p (steps_of price s.moves ws (is_walked s.claims ls p) s.moves) s.claims.loops ls)
  function_loops ascend = some_loops s.claims.loops ls fits.shapes ascend (λ l h. h)

-- claims that aren't bad by themselves ascend

left_part : (xs ys : List Bool) → All (λ t. t ≡ false) (xs ++ ys) → All (λ t. t ≡ false) xs
left_part [] ys h = All-nil (λ t. t ≡ false)
left_part (x ∷ xs) ys h = All-cons (λ t. t ≡ false) x xs (All-head (λ t. t ≡ false) x (xs ++ ys) h) (left_part xs ys (All-tail (λ t. t ≡ false) x (xs ++ ys) h))

right_part : (xs ys : List Bool) → All (λ t. t ≡ false) (xs ++ ys) → All (λ t. t ≡ false) ys
right_part [] ys h = h
right_part (x ∷ xs) ys h = right_part xs ys (All-tail (λ t. t ≡ false) x (xs ++ ys) h)

above_all : (x y : ℕ) (cs : List LoopClaim) → x < y → All (λ (d : LoopClaim). y < d.header) cs → All (λ (d : LoopClaim). x < d.header) cs
above_all x y [] lt h = All-nil (λ (d : LoopClaim). x < d.header)
above_all x y (c ∷ cs) lt h = All-cons (λ (d : LoopClaim). x < d.header) c cs (let k = All-head (λ (d : LoopClaim). y < d.header) c cs h in omega (arith, k, lt)) (above_all x y cs lt (All-tail (λ (d : LoopClaim). y < d.header) c cs h))

loops_above : (x : ℕ) (cs : List LoopClaim) → All (λ t. t ≡ false) (loop_flaws (Some x) cs) → All (λ (d : LoopClaim). x < d.header) cs
loops_above x [] h = All-nil (λ (d : LoopClaim). x < d.header)
loops_above x (c ∷ cs) h =
    let lt = is_above (is_aligned c.header) (is_aligned c.back) (All-head (λ t. t ≡ false) _ (loop_flaws (Some c.header) cs) h) in
    All-cons (λ (d : LoopClaim). x < d.header) c cs lt (above_all x c.header cs lt (loops_above c.header cs (All-tail (λ t. t ≡ false) _ (loop_flaws (Some c.header) cs) h)))
  where
    is_above : (a b : Bool) → not (a && (b && nat_lt x c.header)) ≡ false → x < c.header
    is_above true true e = grind (arith, nat_tests)
    is_above true false e = cc
    is_above false b e = cc

claims_ascend : (o : Option ℕ) (cs : List LoopClaim) → All (λ t. t ≡ false) (loop_flaws o cs) → ClaimsAscend cs
claims_ascend o [] h = tt
claims_ascend o (c ∷ cs) h = let t = All-tail (λ t. t ≡ false) _ (loop_flaws (Some c.header) cs) h in (loops_above c.header cs t, claims_ascend (Some c.header) cs t)

pub sound_ascend : (c : Claims) → AreSound c → ClaimsAscend c.loops
sound_ascend c h =
    let a = right_part (exit_flaws None c.exits) (never_flaws None c.nevers ++ (region_flaws None c.regions ++ (loop_flaws None c.loops ++ fact_flaws c.facts))) h in
    let b = right_part (never_flaws None c.nevers) (region_flaws None c.regions ++ (loop_flaws None c.loops ++ fact_flaws c.facts)) a in
    let d = right_part (region_flaws None c.regions) (loop_flaws None c.loops ++ fact_flaws c.facts) b in
    claims_ascend None c.loops (left_part (loop_flaws None c.loops) (fact_flaws c.facts) d)

pub functions_are : (s : System) (ls : List LoopShape) (ps : List Span) → IsReachedWhole s ls ps → FunctionsFit s ls ps
functions_are s ls ps h price low ws p ip = (
  function_steps s ls ps h.fits h.filled h.reached h.system.ascending price low ws p ip,
  function_loops s ls ps h.fits h.filled h.reached h.system.ascending price low ws p ip (sound_ascend s.claims h.system.sound),
)
