-- The pass to the ends: from each open place of a function a step goes on to another one, or out; and what is at other places is no matter.
use Rattle.std.proofs.Common.{◌≡◌, ◌≢◌, ℕ, zero, suc, ◌+◌, ◌≤◌, ◌<◌, ℤ, ◌+ℤ◌, ◌≤ℤ◌, ◌<ℤ◌, arith, refl, sym, ap, ◌∙◌, subst, List, [], ◌∷◌, length, inl, inr, ◌⊎◌, Bool, true, false, cond}
use Rattle.std.specs.Prelude.{◌==◌, ◌&&◌, ◌||◌}
use Rattle.std.specs.Int.RustNames.{int_le}
use Rattle.std.proofs.lemmas.Int.{ints}
use Rattle.std.proofs.lemmas.Bool.Decides.{eqb_tells, nat_tests}
use Rattle.loop_walks.specs.declared.step.Step.{Step}
use Rattle.loop_walks.specs.Walks.{larger, worth_at, cost, relaxed}
use Rattle.loop_walks.specs.Rows.{IsStep, NotBefore, AreSteps, Each}
use Rattle.loop_walks.proofs.EachLemmas.{each_map, each_both, steps_are}
use Rattle.loop_walks.proofs.WalkLemmas.{taken_at, taken_other, relaxed-long, relaxed_other}
use Rattle.loop_flows.specs.Passes.{amount_at, made, handed, spread}
use Rattle.loop_flows.specs.Hands.{HasChosen, AreOpen}
use Rattle.loop_flows.proofs.SpreadLemmas.{handed-long, handed_from, handed_to, handed_other}
use Rattle.loop_flows.specs.Turns.{is_tight}
use Rattle.loop_flows.specs.Opens.{HasOpenParts}
use Rattle.loop_flows.proofs.TurnLemmas.{both_first, both_true}
use Rattle.loop_flows.proofs.OpenLemmas.{is_le}

larger_cases : (a b : ℤ) → (larger a b ≡ a) ⊎ (larger a b ≡ b)
larger_cases a b = by_test (int_le a b)
  where
    by_test : (t : Bool) → (cond t b a ≡ a) ⊎ (cond t b a ≡ b)
    by_test true = inr refl
    by_test false = inl refl

-- a step that costs all that the worth falls
abbrev pub Falls : List ℤ → List ℤ → Step → Type 0
Falls weights ws m = worth_at ws m.at ≡ (cost weights m +ℤ worth_at ws m.on)

abbrev pub HasFall : List ℤ → List ℤ → List Step → ℕ → Type 0
HasFall weights ws [] a = ⊥
HasFall weights ws (m ∷ ms) a = ((m.at ≡ a) × Falls weights ws m) ⊎ HasFall weights ws ms a

-- steps from a place or later ones on, each to a later place
each_later : (n a : ℕ) (ms : List Step) → NotBefore a ms → AreSteps n ms → Each (λ m. (a ≤ m.at) × (m.at < m.on)) ms
each_later n a [] b o = tt
each_later n a (m ∷ ms) b o = ((b.0, o.0.0), each_later n a ms b.1 o.2)

-- where only the worth of a place before them changed
still_falls : (weights ws us : List ℤ) (c : ℕ) (ks : List Step) (a : ℕ) → a ≢ c → ((b : ℕ) → b ≢ c → worth_at us b ≡ worth_at ws b) → Each (λ m. (c ≤ m.at) × (m.at < m.on)) ks → HasFall weights ws ks a → HasFall weights us ks a
still_falls weights ws us c [] a d same later h = absurd h
still_falls weights ws us c (k ∷ ks) a d same later h = elim h [
  | inl e ↦
      let f = e.1 in
      let l0 = later.0.0 in let l1 = later.0.1 in
      let x = same k.at (λ q. d (sym e.0 ∙ q)) in
      let y = same k.on (λ q. absurd (omega (arith, l0, l1, q))) in
      inl (e.0, omega (arith, ints))
  | inr e ↦ inr (still_falls weights ws us c ks a d same later.1 e)
]

-- a place keeps what it had at first, or has a step that costs all that it has
pub relaxed_from : (weights ws : List ℤ) (n : ℕ) (ms : List Step) (a : ℕ) → n < length ws → AreSteps n ms → (worth_at (relaxed weights ws ms) a ≡ worth_at ws a) ⊎ HasFall weights (relaxed weights ws ms) ms a
relaxed_from weights ws n [] a long o = inl refl
relaxed_from weights ws n (m ∷ ms) a long o = elim (eqb_tells a m.at) [
  | inl e ↦ here e.1 (relaxed_from weights ws n ms a long o.2)
  | inr e ↦ there e.1 (relaxed_from weights ws n ms a long o.2)
]
  where
    within : m.at < length (relaxed weights ws ms)
    within = let l = relaxed-long weights ws ms in let o0 = o.0.0 in let o1 = o.0.1 in omega (arith, l, long, o0, o1)

    on_same : worth_at (relaxed weights ws (m ∷ ms)) m.on ≡ worth_at (relaxed weights ws ms) m.on
    on_same = taken_other weights (relaxed weights ws ms) m m.on (λ q. let o0 = o.0.0 in absurd (omega (arith, o0, q)))

    there : a ≢ m.at → (worth_at (relaxed weights ws ms) a ≡ worth_at ws a) ⊎ HasFall weights (relaxed weights ws ms) ms a → (worth_at (relaxed weights ws (m ∷ ms)) a ≡ worth_at ws a) ⊎ HasFall weights (relaxed weights ws (m ∷ ms)) (m ∷ ms) a
    there d h = elim h [
      | inl e ↦ inl (taken_other weights (relaxed weights ws ms) m a d ∙ e)
      | inr e ↦ inr (inr (still_falls weights (relaxed weights ws ms) (relaxed weights ws (m ∷ ms)) m.at ms a d (λ b k. taken_other weights (relaxed weights ws ms) m b k) (each_later n m.at ms o.1 o.2) e))
    ]

    -- the place's steps behind the first one begin where it does, and go on as before
    own_falls : (ks : List Step) → a ≡ m.at → worth_at (relaxed weights ws (m ∷ ms)) a ≡ worth_at (relaxed weights ws ms) a → Each (λ k. (m.at ≤ k.at) × (k.at < k.on)) ks → HasFall weights (relaxed weights ws ms) ks a → HasFall weights (relaxed weights ws (m ∷ ms)) ks a
    own_falls [] e same later h = absurd h
    own_falls (k ∷ ks) e same later h = elim h [
      | inl f ↦
          let f1 = f.1 in
          let l0 = later.0.0 in let l1 = later.0.1 in
          let x : worth_at (relaxed weights ws (m ∷ ms)) k.at ≡ worth_at (relaxed weights ws ms) k.at = ap (λ b. worth_at (relaxed weights ws (m ∷ ms)) b) f.0 ∙ (same ∙ ap (λ b. worth_at (relaxed weights ws ms) b) (sym f.0)) in
          let y = taken_other weights (relaxed weights ws ms) m k.on (λ q. absurd (omega (arith, l0, l1, q))) in
          inl (f.0, omega (arith, ints))
      | inr f ↦ inr (own_falls ks e same later.1 f)
    ]

    here : a ≡ m.at → (worth_at (relaxed weights ws ms) a ≡ worth_at ws a) ⊎ HasFall weights (relaxed weights ws ms) ms a → (worth_at (relaxed weights ws (m ∷ ms)) a ≡ worth_at ws a) ⊎ HasFall weights (relaxed weights ws (m ∷ ms)) (m ∷ ms) a
    here e h =
        let t = taken_at weights (relaxed weights ws ms) m a within e in
        elim (larger_cases (worth_at (relaxed weights ws ms) a) (cost weights m +ℤ worth_at (relaxed weights ws ms) m.on)) [
          | inl k ↦ elim h [
            | inl f ↦ inl (t ∙ (k ∙ f))
            | inr f ↦ inr (inr (own_falls ms e (t ∙ k) (each_later n m.at ms o.1 o.2) f))
          ]
          | inr k ↦
              let x : worth_at (relaxed weights ws (m ∷ ms)) m.at ≡ worth_at (relaxed weights ws (m ∷ ms)) a = ap (λ b. worth_at (relaxed weights ws (m ∷ ms)) b) (sym e) in
              let y = on_same in
              inr (inl (sym e, omega (arith, ints)))
        ]

-- ---- the places of a function

-- some step begins there
abbrev pub begins : List Step → ℕ → Bool
begins [] a = false
begins (m ∷ ms) a = (m.at == a) || begins ms a

pub begins_each : (ms : List Step) → Each (λ m. begins ms m.at ≡ true) ms
begins_each [] = tt
begins_each (m ∷ ms) = (self (m.at == m.at) (begins ms m.at) (same m.at), each_map (λ k. begins ms k.at ≡ true) (λ k. begins (m ∷ ms) k.at ≡ true) ms (λ k h. later (m.at == k.at) (begins ms k.at) h) (begins_each ms))
  where
    same : (a : ℕ) → (a == a) ≡ true
    same a = elim (eqb_tells a a) [ inl e ↦ e.0 | inr e ↦ absurd (e.1 refl) ]

    self : (t u : Bool) → t ≡ true → t || u ≡ true
    self true u e = refl
    self false u e = cc

    later : (t u : Bool) → u ≡ true → t || u ≡ true
    later true u e = refl
    later false u e = e

pub begins_not : (ms : List Step) (a : ℕ) → begins ms a ≡ false → Each (λ m. m.at ≢ a) ms
begins_not [] a h = tt
begins_not (m ∷ ms) a h = elim (eqb_tells m.at a) [
  | inl e ↦ absurd (first (m.at == a) (begins ms a) e.0 h)
  | inr e ↦ (e.1, begins_not ms a (rest (m.at == a) (begins ms a) e.0 h))
]
  where
    first : (t u : Bool) → t ≡ true → t || u ≡ false → ⊥
    first true u e h = cc
    first false u e h = cc

    rest : (t u : Bool) → t ≡ false → t || u ≡ false → u ≡ false
    rest true u e h = cc
    rest false u e h = h

pub begins_has : (P : ℕ → Type 0) (ms : List Step) (a : ℕ) → Each (λ m. P m.at) ms → begins ms a ≡ true → P a
begins_has P [] a h e = cc
begins_has P (m ∷ ms) a h e = elim (eqb_tells m.at a) [
  | inl k ↦ subst P k.1 h.0
  | inr k ↦ begins_has P ms a h.1 (rest (m.at == a) (begins ms a) k.0 e)
]
  where
    rest : (t u : Bool) → t ≡ false → t || u ≡ true → u ≡ true
    rest true u e h = cc
    rest false u e h = h

-- a place of the function that is open, or the one behind all
abbrev pub is_open_at : ℤ → ℕ → List Step → List ℤ → ℕ → Bool
is_open_at least n ms ws a = (a == n) || (begins ms a && int_le least (worth_at ws a))

-- where the function's places have the worth of a block at first
abbrev pub BeginsLow : ℤ → ℕ → List ℤ → Step → Type 0
BeginsLow low n ws m = (worth_at ws m.at ≡ low) × ((m.on ≡ n) ⊎ (worth_at ws m.on ≡ low))

or_first : (t u : Bool) → t ≡ true → t || u ≡ true
or_first true u e = refl
or_first false u e = cc

or_second : (t u : Bool) → u ≡ true → t || u ≡ true
or_second true u e = refl
or_second false u e = e

or_cases : (t u : Bool) → t || u ≡ true → (t ≡ true) ⊎ (u ≡ true)
or_cases true u h = inl refl
or_cases false u h = inr h

le_is : (a b : ℤ) → a ≤ℤ b → int_le a b ≡ true
le_is a b h = grind (arith, ints, nat_tests)

eq_is : (a b : ℕ) → a ≡ b → (a == b) ≡ true
eq_is a b e = elim (eqb_tells a b) [ inl k ↦ k.0 | inr k ↦ absurd (k.1 e) ]

eq_of : (a b : ℕ) → (a == b) ≡ true → a ≡ b
eq_of a b h = elim (eqb_tells a b) [ inl k ↦ k.1 | inr k ↦ differ (a == b) h k.0 ]
  where
    differ : (t : Bool) → t ≡ true → t ≡ false → a ≡ b
    differ true e f = cc
    differ false e f = cc

module _ (least low : ℤ) (calls : Step → Type 0) (n : ℕ) (ms : List Step) (steps : AreSteps n ms) (weights ws : List ℤ) (long : n < length ws) (above : low <ℤ least) (parts : Each (HasOpenParts least calls weights (relaxed weights ws ms)) ms) (starts : Each (BeginsLow low n ws) ms) where
  abbrev worths : List ℤ
  worths = relaxed weights ws ms

  -- an open place that isn't behind all is one of the function's
  open_begins : (a : ℕ) → worth_at ws a ≡ low → least ≤ℤ worth_at (relaxed weights ws ms) a → begins ms a ≡ true
  open_begins a first wide = by_begins (begins ms a) refl
    where
      by_begins : (t : Bool) → begins ms a ≡ t → t ≡ true
      by_begins true e = refl
      by_begins false e = let k = relaxed_other weights ws ms a (begins_not ms a e) in absurd (omega (arith, ints))

  pub is_open : (a : ℕ) → worth_at ws a ≡ low → least ≤ℤ worth_at (relaxed weights ws ms) a → is_open_at least n ms (relaxed weights ws ms) a ≡ true
  is_open a first wide = or_second (a == n) (begins ms a && int_le least (worth_at worths a)) (both_true (begins ms a) (int_le least (worth_at worths a)) (open_begins a first wide) (le_is least (worth_at worths a) wide))

  open_of : (a : ℕ) → a ≢ n → is_open_at least n ms (relaxed weights ws ms) a ≡ true → (begins ms a ≡ true) × (least ≤ℤ worth_at (relaxed weights ws ms) a)
  open_of a d h = elim (or_cases (a == n) (begins ms a && int_le least (worth_at worths a)) h) [
    | inl e ↦ absurd (d (eq_of a n e))
    | inr e ↦ let b = both_first (begins ms a) (int_le least (worth_at worths a)) e in (b.0, is_le least (worth_at worths a) b.1)
  ]

  weights-tight : (m : Step) → is_tight (record { worths = relaxed weights ws ms; weights = weights }) m ≡ true → worth_at (relaxed weights ws ms) m.at ≤ℤ (cost weights m +ℤ worth_at (relaxed weights ws ms) m.on)
  weights-tight m h = is_le (worth_at worths m.at) (cost weights m +ℤ worth_at worths m.on) h

  fall_chosen : (ks : List Step) (a : ℕ) → HasFall weights (relaxed weights ws ms) ks a → HasChosen (is_tight (record { worths = relaxed weights ws ms; weights = weights })) ks a
  fall_chosen [] a h = absurd h
  fall_chosen (k ∷ ks) a h = elim h [
    | inl e ↦ let f = e.1 in inl (e.0, le_is (worth_at worths k.at) (cost weights k +ℤ worth_at worths k.on) (omega (arith, ints)))
    | inr e ↦ inr (fall_chosen ks a e)
  ]

  goes_one : (m : Step) → IsStep n m → HasOpenParts least calls weights (relaxed weights ws ms) m → BeginsLow low n ws m → is_open_at least n ms (relaxed weights ws ms) m.at ≡ true → is_tight (record { worths = relaxed weights ws ms; weights = weights }) m ≡ true → is_open_at least n ms (relaxed weights ws ms) m.on ≡ true
  goes_one m i p low_at o chosen =
      let i0 = i.0 in let i1 = i.1 in
      let a = (open_of m.at (λ e. absurd (omega (arith, e, i0, i1))) o).1 in
      let t = weights-tight m chosen in
      let k = (p (omega (arith, ints))).2 in
      elim low_at.1 [
        | inl e ↦ or_first (m.on == n) (begins ms m.on && int_le least (worth_at worths m.on)) (eq_is m.on n e)
        | inr e ↦ is_open m.on e k
      ]

  -- along steps that cost all that the worth falls, each open place leads to the one behind all
  pub ends_lead : AreOpen (is_tight (record { worths = relaxed weights ws ms; weights = weights })) ms (λ a. is_open_at least n ms (relaxed weights ws ms) a ≡ true) n
  ends_lead = record {
    goes = each_both (IsStep n) (λ m. HasOpenParts least calls weights (relaxed weights ws ms) m × BeginsLow low n ws m) (λ m. is_open_at least n ms (relaxed weights ws ms) m.at ≡ true → is_tight (record { worths = relaxed weights ws ms; weights = weights }) m ≡ true → is_open_at least n ms (relaxed weights ws ms) m.on ≡ true) ms
        (λ m i h. goes_one m i h.0 h.1) (steps_are n ms steps) (each_both (HasOpenParts least calls weights (relaxed weights ws ms)) (BeginsLow low n ws) (λ m. HasOpenParts least calls weights (relaxed weights ws ms) m × BeginsLow low n ws m) ms (λ m x y. (x, y)) parts starts);
    has = λ a o. elim (eqb_tells a n) [
      | inl e ↦ inl e.1
      | inr e ↦
          let k = open_of a e.1 o in
          let first = begins_has (λ b. worth_at ws b ≡ low) ms a (each_map (BeginsLow low n ws) (λ m. worth_at ws m.at ≡ low) ms (λ m h. h.0) starts) k.0 in
          elim (relaxed_from weights ws n ms a long steps) [
            | inl f ↦ let k1 = k.1 in absurd (omega (arith, ints))
            | inr f ↦ inr (fall_chosen ms a f)
          ]
    ];
  }

-- ---- what is at other places is no matter

abbrev pub Agree : (ℕ → Bool) → List ℕ → List ℕ → Type 0
Agree inside us vs = (a : ℕ) → inside a ≡ true → amount_at us a ≡ amount_at vs a

hand_agree : (t : Bool) (inside : ℕ → Bool) (n : ℕ) (us vs : List ℕ) (m : Step) → n < length us → n < length vs → IsStep n m → inside m.at ≡ true → Agree inside us vs → Agree inside (handed t us m) (handed t vs m)
hand_agree false inside n us vs m lu lv i at h a is = h a is
hand_agree true inside n us vs m lu lv i at h a is = elim (eqb_tells a m.at) [
  | inl e ↦
      let i0 = i.0 in let i1 = i.1 in
      let x = handed_from us m i0 (omega (arith, i0, i1, lu)) in
      let y = handed_from vs m i0 (omega (arith, i0, i1, lv)) in
      subst (λ b. amount_at (handed true us m) b ≡ amount_at (handed true vs m) b) (sym e.1) (x ∙ sym y)
  | inr d ↦ elim (eqb_tells a m.on) [
    | inl e ↦
        let i1 = i.1 in
        let x = handed_to us m (omega (arith, i1, lu)) in
        let y = handed_to vs m (omega (arith, i1, lv)) in
        let p = h m.on (subst (λ b. inside b ≡ true) e.1 is) in
        let q = h m.at at in
        subst (λ b. amount_at (handed true us m) b ≡ amount_at (handed true vs m) b) (sym e.1) (omega (arith, x, y, p, q))
    | inr e ↦
        let x = handed_other us m a d.1 e.1 in
        let y = handed_other vs m a d.1 e.1 in
        let p = h a is in omega (arith, x, y, p)
  ]
]

made_same : (t : Bool) (us vs : List ℕ) (m : Step) → amount_at us m.at ≡ amount_at vs m.at → made t us m ≡ made t vs m
made_same true us vs m h = h
made_same false us vs m h = refl

pub spread_same : (chosen : Step → Bool) (inside : ℕ → Bool) (n : ℕ) (us vs : List ℕ) (ms : List Step) → n < length us → n < length vs → Each (IsStep n) ms → Each (λ m. inside m.at ≡ true) ms → Agree inside us vs → spread chosen us ms ≡ spread chosen vs ms
spread_same chosen inside n us vs [] lu lv i ins h = refl
spread_same chosen inside n us vs (m ∷ ms) lu lv i ins h =
    let x = made_same (chosen m) us vs m (h m.at ins.0) in
    let lu' = handed-long (chosen m) us m in
    let lv' = handed-long (chosen m) vs m in
    let r = spread_same chosen inside n (handed (chosen m) us m) (handed (chosen m) vs m) ms (omega (arith, lu', lu)) (omega (arith, lv', lv)) i.1 ins.1 (hand_agree (chosen m) inside n us vs m lu lv i.0 ins.0 h) in
    ap (λ k. k ∷ spread chosen (handed (chosen m) us m) ms) x ∙ ap (λ ks. made (chosen m) vs m ∷ ks) r

-- the amounts of some places alone
abbrev pub only_in : (ℕ → Bool) → ℕ → List ℕ → List ℕ
only_in inside i [] = []
only_in inside i (u ∷ us) = cond (inside i) u 0 ∷ only_in inside (suc i) us

pub only_in-long : (inside : ℕ → Bool) (i : ℕ) (us : List ℕ) → length (only_in inside i us) ≡ length us
only_in-long inside i [] = refl
only_in-long inside i (u ∷ us) = ap suc (only_in-long inside (suc i) us)

pub only_in_at : (inside : ℕ → Bool) (i : ℕ) (us : List ℕ) (a : ℕ) → amount_at (only_in inside i us) a ≡ cond (inside (i + a)) (amount_at us a) 0
only_in_at inside i [] zero = nothing (inside (i + zero))
  where
    nothing : (t : Bool) → ◌≡◌ {A = ℕ} 0 (cond t 0 0)
    nothing true = refl
    nothing false = refl
only_in_at inside i [] (suc a) = nothing (inside (i + suc a))
  where
    nothing : (t : Bool) → ◌≡◌ {A = ℕ} 0 (cond t 0 0)
    nothing true = refl
    nothing false = refl
only_in_at inside i (u ∷ us) zero = let e : i + zero ≡ i = omega arith in subst (λ k. cond (inside i) u 0 ≡ cond (inside k) u 0) (sym e) refl
only_in_at inside i (u ∷ us) (suc a) = let e : i + suc a ≡ suc i + a = omega arith in subst (λ k. amount_at (only_in inside (suc i) us) a ≡ cond (inside k) (amount_at us a) 0) (sym e) (only_in_at inside (suc i) us a)
