-- Walks: each step that was walked over is paid, worths only grow, and they stay beneath a worth or a way.
use Rattle.std.proofs.Common.{◌≡◌, ◌≢◌, ℕ, ◌<◌, ℤ, pos, ◌+ℤ◌, ◌≤ℤ◌, arith, refl, sym, ◌∙◌, subst, List, [], ◌∷◌, length, Option, inl, inr, get_or-set_other}
use Rattle.std.proofs.lemmas.Int.{ints}
use Rattle.std.proofs.lemmas.Grind.{get_or-set_at}
use Rattle.std.proofs.lemmas.Bool.Decides.{eqb_tells}
use Rattle.std.proofs.Math.ListN.{length-set}
use Rattle.loop_walks.specs.declared.step.Step.{Step}
use Rattle.loop_walks.specs.Walks.{larger, worth_at, cost, taken, relaxed}
use Rattle.loop_walks.specs.Turns.{further}
use Rattle.loop_walks.specs.Rows.{IsStep, NotBefore, AreSteps, Each}
use Rattle.loop_walks.proofs.LargerLemmas.{larger_left, larger_right, WayAtMost, Beneath, beneath_larger, beneath_step}

-- a step is paid
abbrev pub Pays : List ℤ → List ℤ → Step → Type 0
Pays weights ws m = (cost weights m +ℤ worth_at ws m.on) ≤ℤ worth_at ws m.at

pub taken_at : (weights ws : List ℤ) (m : Step) (a : ℕ) → m.at < length ws → a ≡ m.at → worth_at (taken weights ws m) a ≡ larger (worth_at ws a) (cost weights m +ℤ worth_at ws m.on)
taken_at weights ws m a h e = subst (λ b. worth_at (taken weights ws m) b ≡ larger (worth_at ws b) (cost weights m +ℤ worth_at ws m.on)) (sym e) (get_or-set_at ws m.at m.at _ (pos 0) refl h)

pub taken_other : (weights ws : List ℤ) (m : Step) (a : ℕ) → a ≢ m.at → worth_at (taken weights ws m) a ≡ worth_at ws a
taken_other weights ws m a d = get_or-set_other ws m.at a _ (pos 0) d

pub relaxed-long : (weights ws : List ℤ) (ms : List Step) → length (relaxed weights ws ms) ≡ length ws
relaxed-long weights ws [] = refl
relaxed-long weights ws (m ∷ ms) =
    let r = relaxed-long weights ws ms in
    let vs = relaxed weights ws ms in
    let e = length-set (relaxed weights ws ms) m.at (larger (worth_at (relaxed weights ws ms) m.at) (cost weights m +ℤ worth_at (relaxed weights ws ms) m.on)) in omega (arith, e, r)

taken_grows : (weights ws : List ℤ) (m : Step) (a : ℕ) → m.at < length ws → worth_at ws a ≤ℤ worth_at (taken weights ws m) a
taken_grows weights ws m a h = elim (eqb_tells a m.at) [
  | inl k ↦ let e = taken_at weights ws m a h k.1 in rw e (larger_left _ _)
  | inr k ↦ let e = taken_other weights ws m a k.1 in rw e (omega (arith, ints))
]

pub within : (weights ws : List ℤ) (n : ℕ) (m : Step) (ms : List Step) → IsStep n m → n < length ws → m.at < length (relaxed weights ws ms)
within weights ws n m ms h long = let l = relaxed-long weights ws ms in omega (arith, l, h.0, h.1)

pub relaxed_grows : (weights ws : List ℤ) (n : ℕ) (ms : List Step) (a : ℕ) → n < length ws → Each (IsStep n) ms → worth_at ws a ≤ℤ worth_at (relaxed weights ws ms) a
relaxed_grows weights ws n [] a long h = omega (arith, ints)
relaxed_grows weights ws n (m ∷ ms) a long h =
    let r = relaxed_grows weights ws n ms a long h.1 in
    let g = taken_grows weights (relaxed weights ws ms) m a (within weights ws n m ms h.0 long) in omega (arith, ints)

pub relaxed_other : (weights ws : List ℤ) (ms : List Step) (a : ℕ) → Each (λ m. m.at ≢ a) ms → worth_at (relaxed weights ws ms) a ≡ worth_at ws a
relaxed_other weights ws [] a h = refl
relaxed_other weights ws (m ∷ ms) a h = taken_other weights (relaxed weights ws ms) m a (λ e. h.0 (sym e)) ∙ relaxed_other weights ws ms a h.1

still_paid : (weights ws : List ℤ) (n : ℕ) (m : Step) (ks : List Step) → m.at < length ws → NotBefore m.at ks → AreSteps n ks → Each (Pays weights ws) ks → Each (Pays weights (taken weights ws m)) ks
still_paid weights ws n m [] h b o p = tt
still_paid weights ws n m (k ∷ ks) h b o p =
    let o0 = o.0.0 in
    let e = taken_other weights ws m k.on (λ q. absurd (omega (arith, b.0, o0, q))) in
    let g = taken_grows weights ws m k.at h in
    let q = p.0 in
    (rw e (omega (arith, ints)), still_paid weights ws n m ks h b.1 o.2 p.1)

-- each step that was walked over is paid
pub relaxed_pays : (weights ws : List ℤ) (n : ℕ) (ms : List Step) → n < length ws → AreSteps n ms → Each (Pays weights (relaxed weights ws ms)) ms
relaxed_pays weights ws n [] long o = tt
relaxed_pays weights ws n (m ∷ ms) long o =
    let h = within weights ws n m ms o.0 long in
    let o0 = o.0.0 in
    let e = taken_at weights (relaxed weights ws ms) m m.at h refl in
    let f = taken_other weights (relaxed weights ws ms) m m.on (λ q. absurd (omega (arith, o0, q))) in
    (rw (e, f) (larger_right _ _), still_paid weights (relaxed weights ws ms) n m ms h o.1 o.2 (relaxed_pays weights ws n ms long o.2))

-- the way along a step is worth no more than the way from its place
abbrev pub PaysWay : ℤ → List ℤ → (ℕ → Option ℤ) → Step → Type 0
PaysWay low weights ts m = WayAtMost (further low (cost weights m) (ts m.on)) (ts m.at)

abbrev pub PaysBy : List ℤ → (ℕ → ℤ) → Step → Type 0
PaysBy weights es m = (cost weights m +ℤ es m.on) ≤ℤ es m.at

abbrev pub AllBeneath : List ℤ → (ℕ → ℤ) → (ℕ → Option ℤ) → ℤ → Type 0
AllBeneath ws es ts v = (a : ℕ) → Beneath (worth_at ws a) (es a) (ts a) v

-- where worths begin beneath others and ways that pay the steps, they stay so
pub relaxed_beneath : (low : ℤ) (weights ws : List ℤ) (n : ℕ) (es : ℕ → ℤ) (ts : ℕ → Option ℤ) (v : ℤ) (ms : List Step) → n < length ws → Each (IsStep n) ms → Each (PaysBy weights es) ms → Each (PaysWay low weights ts) ms → AllBeneath ws es ts v → AllBeneath (relaxed weights ws ms) es ts v
relaxed_beneath low weights ws n es ts v [] long i p q h a = h a
relaxed_beneath low weights ws n es ts v (m ∷ ms) long i p q h a =
    one (relaxed_beneath low weights ws n es ts v ms long i.1 p.1 q.1 h)
  where
    one : AllBeneath (relaxed weights ws ms) es ts v → Beneath (worth_at (relaxed weights ws (m ∷ ms)) a) (es a) (ts a) v
    one r = elim (eqb_tells a m.at) [
      | inl k ↦ let e = taken_at weights (relaxed weights ws ms) m a (within weights ws n m ms i.0 long) k.1 in
          rw e (beneath_larger _ _ (es a) (ts a) v (r a)
          (subst (λ b. Beneath (cost weights m +ℤ worth_at (relaxed weights ws ms) m.on) (es b) (ts b) v) (sym k.1)
          (beneath_step low (cost weights m) (worth_at (relaxed weights ws ms) m.on) (es m.on) (es m.at) (ts m.on) (ts m.at) v (r m.on) p.0 q.0)))
      | inr k ↦ let e = taken_other weights (relaxed weights ws ms) m a k.1 in rw e (r a)
    ]
