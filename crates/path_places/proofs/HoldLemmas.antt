-- What the limits of never and loop claims hold at an address.
use Rattle.std.proofs.Common.{◌≡◌, ◌≢◌, ℕ, ℤ, pos, neg_ℤ, ◌+ℤ◌, ◌-ℤ◌, ◌*ℤ◌, ◌≤ℤ◌, arith, refl, ap, List, [], ◌∷◌, inl, inr, Bool, true, false, cond}
use lib.IntN.{*ℤ-zero}
use Rattle.std.specs.Prelude.{◌==◌, ◌&&◌, ◌||◌}
use Rattle.std.proofs.lemmas.Int.{ints}
use Rattle.std.proofs.lemmas.Bool.Decides.{eqb_tells}
use Rattle.frac128.specs.Terms.{coefficient}
use Rattle.frac128.proofs.SignedLemmas.{add-mul, mul-sub, mul-neg}
use Rattle.code_flow_system.specs.declared.claims.Never.{Never}
use Rattle.code_flow_system.specs.declared.claims.LoopClaim.{LoopClaim}
use Rattle.code_flow_system.specs.Certificates.{never_limits, least_terms, most_terms, loop_limits, held}
use Rattle.loop_walks.specs.declared.step.Pair.{Pair}
use Rattle.path_places.specs.Places.{is_never, is_shut}
use Rattle.path_places.specs.Duals.{both_of, never_bounds, loop_bounds}

-- each claim has a pair
abbrev pub Alongside : List LoopClaim → List Pair → Type 0
Alongside [] ps = Unit {0}
Alongside (c ∷ cs) [] = ⊥
Alongside (c ∷ cs) (p ∷ ps) = Alongside cs ps

-- of one loop
abbrev pub hold : LoopClaim → Pair → ℕ → ℤ
hold c p a = (p.least *ℤ coefficient (least_terms c) a) +ℤ (p.most *ℤ coefficient (most_terms c) a)

unlike : (a b : ℕ) → a ≢ b → (a == b) ≡ false
unlike a b d = elim (eqb_tells a b) [ inl k ↦ absurd (d k.1) | inr k ↦ k.0 ]

alike : (a b : ℕ) → a ≡ b → (a == b) ≡ true
alike a b e = elim (eqb_tells a b) [ inl k ↦ k.0 | inr k ↦ absurd (k.1 e) ]

-- the coefficients of a loop's limits

at_none : (h b a : ℕ) (x y : ℤ) → h ≢ a → b ≢ a → coefficient ((h, x) ∷ (b, y) ∷ []) a ≡ pos 0
at_none h b a x y d e = let u = unlike h a d in let v = unlike b a e in rw (u, v) refl

at_first : (h b a : ℕ) (x y : ℤ) → h ≡ a → b ≢ a → coefficient ((h, x) ∷ (b, y) ∷ []) a ≡ x
at_first h b a x y d e = let u = alike h a d in let v = unlike b a e in rw (u, v) (omega (arith, ints))

at_second : (h b a : ℕ) (x y : ℤ) → h ≢ a → b ≡ a → coefficient ((h, x) ∷ (b, y) ∷ []) a ≡ y
at_second h b a x y d e = let u = unlike h a d in let v = alike b a e in rw (u, v) (omega (arith, ints))

at_both : (h b a : ℕ) (x y : ℤ) → h ≡ a → b ≡ a → coefficient ((h, x) ∷ (b, y) ∷ []) a ≡ x +ℤ y
at_both h b a x y d e = let u = alike h a d in let v = alike b a e in rw (u, v) (omega (arith, ints))

pub hold_none : (c : LoopClaim) (p : Pair) (a : ℕ) → c.header ≢ a → c.back ≢ a → hold c p a ≡ pos 0
hold_none c p a d e =
    let x = at_none c.header c.back a (pos c.min -ℤ pos 1) (neg_ℤ (pos c.min)) d e in
    let y = at_none c.header c.back a (pos 1 -ℤ pos c.max) (pos c.max) d e in
    let u = *ℤ-zero p.least in let v = *ℤ-zero p.most in rw (x, y) (omega (arith, ints))

-- at a header, less its weight
pub hold_header : (c : LoopClaim) (p : Pair) (a : ℕ) → c.header ≡ a → c.back ≢ a → hold c p a ≡ neg_ℤ ((p.most *ℤ (pos c.max -ℤ pos 1)) -ℤ (p.least *ℤ (pos c.min -ℤ pos 1)))
hold_header c p a d e =
    let x = at_first c.header c.back a (pos c.min -ℤ pos 1) (neg_ℤ (pos c.min)) d e in
    let y = at_first c.header c.back a (pos 1 -ℤ pos c.max) (pos c.max) d e in
    let u = mul-sub p.most (pos 1) (pos c.max) in let v = mul-sub p.most (pos c.max) (pos 1) in rw (x, y) (omega (arith, ints))

pub hold_back : (c : LoopClaim) (p : Pair) (a : ℕ) → c.header ≢ a → c.back ≡ a → hold c p a ≡ (p.most *ℤ pos c.max) -ℤ (p.least *ℤ pos c.min)
hold_back c p a d e =
    let x = at_second c.header c.back a (pos c.min -ℤ pos 1) (neg_ℤ (pos c.min)) d e in
    let y = at_second c.header c.back a (pos 1 -ℤ pos c.max) (pos c.max) d e in
    let u = mul-neg p.least (pos c.min) in rw (x, y) (omega (arith, ints))

pub hold_both : (c : LoopClaim) (p : Pair) (a : ℕ) → c.header ≡ a → c.back ≡ a → hold c p a ≡ p.most -ℤ p.least
hold_both c p a d e =
    let x = at_both c.header c.back a (pos c.min -ℤ pos 1) (neg_ℤ (pos c.min)) d e in
    let y = at_both c.header c.back a (pos 1 -ℤ pos c.max) (pos c.max) d e in
    let u : (pos c.min -ℤ pos 1) +ℤ neg_ℤ (pos c.min) ≡ neg_ℤ (pos 1) = omega (arith, ints) in
    let v : (pos 1 -ℤ pos c.max) +ℤ pos c.max ≡ pos 1 = omega (arith, ints) in
    let w = mul-neg p.least (pos 1) in
    rw (x, y) (rw (u, v) (omega (arith, ints)))

pub hold_free : (c : LoopClaim) (p : Pair) (a : ℕ) → p.least ≡ pos 0 → p.most ≡ pos 0 → hold c p a ≡ pos 0
hold_free c p a d e = rw (d, e) (free (coefficient (least_terms c) a) (coefficient (most_terms c) a))
  where
    free : (x y : ℤ) → (pos 0 *ℤ x) +ℤ (pos 0 *ℤ y) ≡ pos 0
    free x y = omega (arith, ints)

-- ---- multipliers of claims that forbid to visit an address

module _ (owe : ℕ → ℤ) (positive : (a : ℕ) → pos 0 ≤ℤ owe a) where
  nevers_hold : (cs : List Never) (a : ℕ) → pos 0 ≤ℤ held (never_limits cs (never_bounds owe cs)) a
  nevers_hold [] a = omega (arith, ints)
  nevers_hold (c ∷ cs) a =
      let r = nevers_hold cs a in
      let k = positive c.at in
      elim (eqb_tells c.at a) [ inl e ↦ rw e.0 (omega (arith, ints)) | inr e ↦ let z = *ℤ-zero (owe c.at) in rw e.0 (omega (arith, ints)) ]

  pub never_pays : (cs : List Never) (a : ℕ) → is_never cs a ≡ true → owe a ≤ℤ held (never_limits cs (never_bounds owe cs)) a
  never_pays [] a h = cc
  never_pays (c ∷ cs) a h =
      elim (eqb_tells c.at a) [
        | inl e ↦
            let r = nevers_hold cs a in
            let q : owe c.at ≡ owe a = ap owe e.1 in rw e.0 (omega (arith, ints))
        | inr e ↦
            let r = never_pays cs a (later (c.at == a) e.0 h) in
            let z = *ℤ-zero (owe c.at) in rw e.0 (omega (arith, ints))
      ]
    where
      later : (t : Bool) → t ≡ false → t || is_never cs a ≡ true → is_never cs a ≡ true
      later true e h = cc
      later false e h = h

  -- what a loop's claim pays beside the loop's multipliers
  abbrev extra : LoopClaim → ℤ
  extra c = cond (c.max == 0) (owe c.header) (pos 0)

  extra_hold : (c : LoopClaim) (a : ℕ) → pos 0 ≤ℤ (extra c *ℤ coefficient (most_terms c) a)
  extra_hold c a = elim (eqb_tells c.max 0) [
    | inl k ↦
        let n = at_shut k.1 in
        let p = positive c.header in rw (k.0, n.1) (shut n.0 p)
    | inr k ↦ rw k.0 (omega (arith, ints))
  ]
    where
      -- the coefficient of a loop without turns is 1 at its header, and 0 elsewhere
      at_shut : c.max ≡ 0 → (t : Bool) × (coefficient (most_terms c) a ≡ cond t (pos 1) (pos 0))
      at_shut z = elim (eqb_tells c.header a) [
        | inl h ↦ (true, rw (h.0, z) (any (c.back == a)))
        | inr h ↦ (false, rw (h.0, z) (none (c.back == a)))
      ]
        where
          any : (t : Bool) → (pos 1 -ℤ pos 0) +ℤ (cond t (pos 0) (pos 0) +ℤ pos 0) ≡ pos 1
          any true = refl
          any false = refl

          none : (t : Bool) → pos 0 +ℤ (cond t (pos 0) (pos 0) +ℤ pos 0) ≡ pos 0
          none true = refl
          none false = refl

      shut : (t : Bool) → pos 0 ≤ℤ owe c.header → pos 0 ≤ℤ (owe c.header *ℤ cond t (pos 1) (pos 0))
      shut true p = omega (arith, ints)
      shut false p = let z = *ℤ-zero (owe c.header) in omega (arith, ints)

  extra_pays : (c : LoopClaim) (a : ℕ) → (c.header == a) && (c.max == 0) ≡ true → owe a ≤ℤ (extra c *ℤ coefficient (most_terms c) a)
  extra_pays c a h = elim (eqb_tells c.header a) [
    | inl k ↦ elim (eqb_tells c.max 0) [
      | inl j ↦
          let q : owe c.header ≡ owe a = ap owe k.1 in
          let one : coefficient (most_terms c) a ≡ pos 1 = at_header j.1 k.0 in rw (j.0, one) (omega (arith, ints))
      | inr j ↦ absurd (no_max (c.header == a) (c.max == 0) j.0 h)
    ]
    | inr k ↦ absurd (no_head (c.header == a) (c.max == 0) k.0 h)
  ]
    where
      no_max : (t u : Bool) → u ≡ false → t && u ≡ true → ⊥
      no_max true true e h = cc
      no_max true false e h = cc
      no_max false u e h = cc

      no_head : (t u : Bool) → t ≡ false → t && u ≡ true → ⊥
      no_head true u e h = cc
      no_head false u e h = cc

      any : (t : Bool) → (pos 1 -ℤ pos 0) +ℤ (cond t (pos 0) (pos 0) +ℤ pos 0) ≡ pos 1
      any true = refl
      any false = refl

      at_header : c.max ≡ 0 → (c.header == a) ≡ true → coefficient (most_terms c) a ≡ pos 1
      at_header z k = rw (k, z) (any (c.back == a))

  -- no less than with the loops' multipliers alone
  pub loops_hold : (cs : List LoopClaim) (ps : List Pair) (a : ℕ) → held (loop_limits cs (both_of ps)) a ≤ℤ held (loop_limits cs (loop_bounds owe cs ps)) a
  loops_hold [] ps a = omega (arith, ints)
  loops_hold (c ∷ cs) [] a = omega (arith, ints)
  loops_hold (c ∷ cs) (p ∷ ps) a =
      let r = loops_hold cs ps a in
      let x = extra_hold c a in
      let e = add-mul p.most (extra c) (coefficient (most_terms c) a) in omega (arith, ints)

  -- and where a loop without turns begins, as much more as is left
  pub shut_pays : (cs : List LoopClaim) (ps : List Pair) (a : ℕ) → Alongside cs ps → is_shut cs a ≡ true → (held (loop_limits cs (both_of ps)) a +ℤ owe a) ≤ℤ held (loop_limits cs (loop_bounds owe cs ps)) a
  shut_pays [] ps a long h = cc
  shut_pays (c ∷ cs) [] a long h = absurd long
  shut_pays (c ∷ cs) (p ∷ ps) a long h = by_test (λ k. shut_pays cs ps a long k) ((c.header == a) && (c.max == 0)) refl h
    where
      by_test : (is_shut cs a ≡ true → (held (loop_limits cs (both_of ps)) a +ℤ owe a) ≤ℤ held (loop_limits cs (loop_bounds owe cs ps)) a) → (t : Bool) → ((c.header == a) && (c.max == 0)) ≡ t → t || is_shut cs a ≡ true → (held (loop_limits (c ∷ cs) (both_of (p ∷ ps))) a +ℤ owe a) ≤ℤ held (loop_limits (c ∷ cs) (loop_bounds owe (c ∷ cs) (p ∷ ps))) a
      by_test later true t h =
          let r = loops_hold cs ps a in
          let x = extra_pays c a t in
          let e = add-mul p.most (extra c) (coefficient (most_terms c) a) in omega (arith, ints)
      by_test later false t h =
          let r = later h in
          let x = extra_hold c a in
          let e = add-mul p.most (extra c) (coefficient (most_terms c) a) in omega (arith, ints)

  pub nevers_at_least : (cs : List Never) (a : ℕ) → pos 0 ≤ℤ held (never_limits cs (never_bounds owe cs)) a
  nevers_at_least = nevers_hold

  -- elsewhere they hold nothing more

  pub never_none : (cs : List Never) (a : ℕ) → is_never cs a ≡ false → held (never_limits cs (never_bounds owe cs)) a ≡ pos 0
  never_none [] a h = refl
  never_none (c ∷ cs) a h = elim (eqb_tells c.at a) [
    | inl e ↦ absurd (first (c.at == a) e.0 h)
    | inr e ↦
        let r = never_none cs a (rest (c.at == a) e.0 h) in
        let z = *ℤ-zero (owe c.at) in rw e.0 (omega (arith, ints))
  ]
    where
      first : (t : Bool) → t ≡ true → t || is_never cs a ≡ false → ⊥
      first true e h = cc
      first false e h = cc

      rest : (t : Bool) → t ≡ false → t || is_never cs a ≡ false → is_never cs a ≡ false
      rest true e h = cc
      rest false e h = h

  extra_none : (c : LoopClaim) (a : ℕ) → (c.header == a) && (c.max == 0) ≡ false → (extra c *ℤ coefficient (most_terms c) a) ≡ pos 0
  extra_none c a h = elim (eqb_tells c.max 0) [
    | inl k ↦ elim (eqb_tells c.header a) [
      | inl e ↦ absurd (both (c.header == a) (c.max == 0) e.0 k.0 h)
      | inr e ↦
          let z = *ℤ-zero (owe c.header) in
          let k1 = k.1 in
          let n : coefficient (most_terms c) a ≡ pos 0 = rw (e.0, k1) (none (c.back == a)) in rw (k.0, n) (omega (arith, ints))
    ]
    | inr k ↦ rw k.0 (omega (arith, ints))
  ]
    where
      both : (t u : Bool) → t ≡ true → u ≡ true → t && u ≡ false → ⊥
      both true true e f h = cc
      both true false e f h = cc
      both false u e f h = cc

      none : (t : Bool) → pos 0 +ℤ (cond t (pos 0) (pos 0) +ℤ pos 0) ≡ pos 0
      none true = refl
      none false = refl

  pub loops_same : (cs : List LoopClaim) (ps : List Pair) (a : ℕ) → is_shut cs a ≡ false → held (loop_limits cs (loop_bounds owe cs ps)) a ≡ held (loop_limits cs (both_of ps)) a
  loops_same [] ps a h = refl
  loops_same (c ∷ cs) [] a h = refl
  loops_same (c ∷ cs) (p ∷ ps) a h =
      let r = loops_same cs ps a (rest ((c.header == a) && (c.max == 0)) h) in
      let x = extra_none c a (first ((c.header == a) && (c.max == 0)) h) in
      let e = add-mul p.most (extra c) (coefficient (most_terms c) a) in omega (arith, ints)
    where
      first : (t : Bool) → t || is_shut cs a ≡ false → t ≡ false
      first true h = cc
      first false h = refl

      rest : (t : Bool) → t || is_shut cs a ≡ false → is_shut cs a ≡ false
      rest true h = cc
      rest false h = h
