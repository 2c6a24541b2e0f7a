-- Where a function starts, at the entry or at its first address, no loop that is settled changes its worth.
use Rattle.std.proofs.Common.{◌≡◌, ◌≢◌, ℕ, zero, suc, ◌+◌, ◌≤◌, ◌<◌, ℤ, pos, arith, refl, sym, ◌∙◌, subst, List, [], ◌∷◌, length, Contains, inl, inr, ◌⊎◌, Bool, true, false, Option, Some, None, get_or-set_other}
use Rattle.std.specs.Prelude.{nat_lt, nat_le, slice_set}
use Rattle.std.proofs.lemmas.Bool.Decides.{eqb_tells, nat_tests}
use Rattle.std.proofs.lemmas.List.Elements.{All-contains}
use Rattle.code_flow_system.specs.declared.claims.LoopClaim.{LoopClaim}
use Rattle.code_flow_system.specs.declared.shapes.LoopShape.{LoopShape}
use Rattle.code_flow_system.specs.declared.shapes.Span.{Span}
use Rattle.code_flow_system.specs.Systems.{System}
use Rattle.code_flow_system.specs.Shapes.{IsInLoop, IsLoop, IsInSpan, BeginsEarlier}
use Rattle.loop_walks.specs.declared.step.Step.{Step}
use Rattle.loop_walks.specs.declared.step.Loop.{Loop}
use Rattle.loop_walks.specs.declared.step.Pair.{Pair}
use Rattle.loop_walks.specs.Walks.{larger, worth_at, body_steps}
use Rattle.loop_walks.specs.Multipliers.{weight_of, back_worth}
use Rattle.loop_walks.specs.Levels.{gains, Level, level_pair, raised, level_by, levels}
use Rattle.loop_walks.specs.Rows.{IsBack, IsLoopOf, AreLoops}
use Rattle.loop_walks.proofs.EachLemmas.{each_map}
use Rattle.loop_walks.proofs.WalkLemmas.{relaxed_other}
use Rattle.path_places.specs.Places.{place_of, loop_of}
use Rattle.path_places.specs.PlaceLaws.{function_steps, IsReachedWhole}
use Rattle.path_places.proofs.RankLemmas.{rank_equal, rank_inside, in_one}
use Rattle.path_places.proofs.PlaceLemmas.{place_up}
use Rattle.path_places.proofs.HeaderLemmas.{decide_in}
use Rattle.path_places.specs.Driver.{Prices, function_loops, function_level}
use Rattle.path_places.proofs.DriverLemmas.{fits_function}
use Rattle.path_flows.specs.Flows.{function_ground}
use Rattle.path_flows.proofs.AtLemmas.{EachLoop, loops_each}

-- the place isn't in the loop's body
abbrev pub IsOutside : ℕ → Loop → Type 0
IsOutside a l = (a ≤ l.header) ⊎ (l.end ≤ a)

raised_keeps : (ws : List ℤ) (l : Loop) (o : Option ℕ) (z : ℤ) (a : ℕ) → ((b : ℕ) → o ≡ Some b → b ≢ l.header → a ≢ b) → worth_at (raised ws l o z) a ≡ worth_at ws a
raised_keeps ws l None z a h = refl
raised_keeps ws l (Some b) z a h = elim (eqb_tells b l.header) [
  | inl k ↦ rw k.0 refl
  | inr k ↦ rw k.0 (get_or-set_other ws b a (larger (worth_at ws b) z) (pos 0) (h b refl k.1))
]

module _ (low : ℤ) (n : ℕ) (ms : List Step) (a : ℕ) where
  level_keeps : (v : Level) (l : Loop) (p : Pair) → IsLoopOf n ms l → IsOutside a l → worth_at (level_by ms v l p).worths a ≡ worth_at v.worths a
  level_keeps v l p fits out =
      relaxed_other (slice_set v.weights l.header (weight_of l p)) (raised v.worths l l.back (back_worth l (worth_at v.worths l.header) p)) (body_steps l ms) a
      (each_map (λ m. (l.header < m.at) × (m.at < l.end)) (λ m. m.at ≢ a) (body_steps l ms) (λ m h e. elim out [ inl o ↦ absurd (omega (arith, h.0, e, o)) | inr o ↦ absurd (omega (arith, h.1, e, o)) ]) fits.body)
      ∙ raised_keeps v.worths l l.back (back_worth l (worth_at v.worths l.header) p) a (λ b is d e.
      let i : IsBack l ms (Some b) = subst (λ o. IsBack l ms o) is fits.back in
      let i0 = i.0 in let i1 = i.1 in
      elim out [ inl o ↦ absurd (d (omega (arith, i0, e, o))) | inr o ↦ absurd (omega (arith, i1, e, o)) ])

  levels_keep : (v : Level) (los : List Loop) (gs : List ℤ) → AreLoops n ms los → EachLoop (IsOutside a) los → worth_at (levels low ms v los gs).worths a ≡ worth_at v.worths a
  levels_keep v [] gs loops out = refl
  levels_keep v (l ∷ los) [] loops out = refl
  levels_keep v (l ∷ los) (g ∷ gs) loops out = levels_keep (level_by ms v l (level_pair low ms v.worths l g)) los gs loops.2 out.1 ∙ level_keeps v l (level_pair low ms v.worths l g) loops.0 out.0

begins_first : (ps : List Span) (t a : ℕ) → BeginsEarlier ps t a → (r : Span) × Contains ps r × (r.first ≡ t)
begins_first [] t a h = absurd h
begins_first (p ∷ ps) t a h = elim h [
  | inl k ↦ (p, (zero, omega arith, refl), k.0)
  | inr k ↦ later (begins_first ps t a k)
]
  where
    later : ((r : Span) × Contains ps r × (r.first ≡ t)) → (r : Span) × Contains (p ∷ ps) r × (r.first ≡ t)
    later r = (r.0, (suc r.1.0, (let lt = r.1.1 in omega (arith, lt)), r.1.2), r.2)

module _ (s : System) (ls : List LoopShape) (ps : List Span) (whole : IsReachedWhole s ls ps) (q : Prices) where
  -- the entry, or the first address of a function
  abbrev pub IsStart : ℕ → Type 0
  IsStart x = (x ≡ s.entry) ⊎ ((r : Span) × Contains ps r × (x ≡ r.first) × (r.first < r.end))

  pub callee_starts : (t a : ℕ) → BeginsEarlier ps t a → IsStart t
  callee_starts t a h = let r = begins_first ps t a h in inr (r.0, r.1, sym r.2, All-contains (λ (p : Span). p.first < p.end) ps r.0 whole.filled r.1)

  -- a start in a loop's range isn't behind its header
  start_first : (p : Span) → Contains ps p → (x : ℕ) → IsInSpan p x → IsStart x → (l : LoopShape) → Contains ls l → IsInSpan p l.header → IsInLoop l x → x ≤ l.header
  start_first p ip x inside start l il header i = elim start [
    | inl e ↦ let f = (All-contains (IsLoop s) ls l whole.fits.loops il).entry (subst (λ a. IsInLoop l a) e i) in omega (arith, e, f)
    | inr r ↦
        let r2 = r.2 in let r3 = r.3 in
        let in_r : IsInSpan r.0 x = record { from = omega (arith, r2); below = omega (arith, r2, r3) } in
        let same = rank_equal ps p l.header x whole.fits.apart ip header inside in
        let h = rank_inside ps r.0 l.header x whole.fits.apart r.1 in_r (in_one ps p l.header ip header) same in
        let f = h.from in omega (arith, r2, f)
  ]

  start_outside : (p : Span) → Contains ps p → (x : ℕ) → IsInSpan p x → IsStart x → (ms : List Step) (c : LoopClaim) (l : LoopShape) → Contains ls l → IsInSpan p l.header → IsOutside (place_of s.moves x) (loop_of q.of q.low s.moves s.claims p ms c l)
  start_outside p ip x inside start ms c l il header = elim (decide_in l x) [
    | inl i ↦ inl (place_up s.moves x l.header (start_first p ip x inside start l il header i))
    | inr i ↦ by_first (nat_lt x l.first) refl i
  ]
    where
      header_in : IsInLoop l l.header
      header_in = (All-contains (IsLoop s) ls l whole.fits.loops il).header

      by_last : (t : Bool) → nat_le x l.last ≡ t → l.first ≤ x → (IsInLoop l x → ⊥) → l.last < x
      by_last true e from out = absurd (out (record { from = from; to = grind (arith, nat_tests) }))
      by_last false e from out = grind (arith, nat_tests)

      by_first : (t : Bool) → nat_lt x l.first ≡ t → (IsInLoop l x → ⊥) → IsOutside (place_of s.moves x) (loop_of q.of q.low s.moves s.claims p ms c l)
      by_first true e out =
          let lt : x < l.first = grind (arith, nat_tests) in
          let f = header_in.from in inl (place_up s.moves x l.header (omega (arith, lt, f)))
      by_first false e out =
          let from : l.first ≤ x = grind (arith, nat_tests) in
          let lt = by_last (nat_le x l.last) refl from out in
          let u = place_up s.moves (l.last + 1) x (omega (arith, lt)) in inr (omega (arith, u))

  -- the worth of a start is that before its loops are settled
  pub start_ground : (v : Level) (p : Span) → Contains ps p → (x : ℕ) → IsInSpan p x → IsStart x → worth_at (function_level s ls q v p).worths (place_of s.moves x) ≡ worth_at (function_ground s ls q v p).worths (place_of s.moves x)
  start_ground v p ip x inside start =
      levels_keep q.low (length s.moves) (function_steps s ls q.of v.worths p) (place_of s.moves x) (function_ground s ls q v p) (function_loops s ls q v.worths p) (gains q.low (function_steps s ls q.of v.worths p) v.weights (function_loops s ls q v.worths p))
      (fits_function s ls ps whole q v.worths p ip).1
      (loops_each s ls ps whole q (IsOutside (place_of s.moves x)) p (function_steps s ls q.of v.worths p) s.claims.loops ls (λ c l il header there. start_outside p ip x inside start (function_steps s ls q.of v.worths p) c l il header))
