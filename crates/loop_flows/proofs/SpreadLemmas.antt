-- What is handed on is conserved, comes to its target, and is made along tight steps alone.
use Rattle.std.proofs.Common.{◌≡◌, ◌≢◌, ℕ, zero, suc, ◌+◌, ◌<◌, ℤ, ◌+ℤ◌, arith, refl, sym, ap, ◌∙◌, subst, List, [], ◌∷◌, length, inl, inr, ◌⊎◌, Bool, true, false, cond, nat_eq, get_or-set_other}
use Rattle.std.specs.Prelude.{slice_set}
use Rattle.std.proofs.lemmas.Int.{ints}
use Rattle.std.proofs.lemmas.Grind.{get_or-set_at}
use Rattle.std.proofs.lemmas.Bool.Decides.{eqb_tells, nat_tests}
use Rattle.std.proofs.Math.ListN.{length-set}
use Rattle.loop_walks.specs.declared.step.Step.{Step}
use Rattle.loop_walks.specs.Rows.{IsStep, NotBefore, AreSteps, Each}
use Rattle.loop_flows.specs.Passes.{amount_at, made, handed, spread, remains, departed, arrived}
use Rattle.loop_flows.specs.Hands.{HasChosen, AreOpen, StandsOpen, AreTight, Squeezed, IsSqueezing}

pub set_at : (us : List ℕ) (a : ℕ) (z : ℕ) → a < length us → amount_at (slice_set us a z) a ≡ z
set_at us a z h = get_or-set_at us a a z 0 refl h

pub set_other : (us : List ℕ) (a b : ℕ) (z : ℕ) → b ≢ a → amount_at (slice_set us a z) b ≡ amount_at us b
set_other us a b z d = get_or-set_other us a b z 0 d

pub handed-long : (t : Bool) (us : List ℕ) (m : Step) → length (handed t us m) ≡ length us
handed-long true us m = length-set (slice_set us m.at 0) m.on (amount_at us m.on + amount_at us m.at) ∙ length-set us m.at 0
handed-long false us m = refl

-- where it is handed from, to, and elsewhere

pub handed_from : (us : List ℕ) (m : Step) → m.at < m.on → m.at < length us → amount_at (handed true us m) m.at ≡ 0
handed_from us m h k = set_other (slice_set us m.at 0) m.on m.at (amount_at us m.on + amount_at us m.at) (λ e. absurd (omega (arith, e, h))) ∙ set_at us m.at 0 k

pub handed_to : (us : List ℕ) (m : Step) → m.on < length us → amount_at (handed true us m) m.on ≡ amount_at us m.on + amount_at us m.at
handed_to us m k = set_at (slice_set us m.at 0) m.on (amount_at us m.on + amount_at us m.at) (let e = length-set us m.at 0 in omega (arith, e, k))

pub handed_other : (us : List ℕ) (m : Step) (a : ℕ) → a ≢ m.at → a ≢ m.on → amount_at (handed true us m) a ≡ amount_at us a
handed_other us m a d e = set_other (slice_set us m.at 0) m.on a (amount_at us m.on + amount_at us m.at) e ∙ set_other us m.at a 0 d

pub here : (a b u : ℕ) → b ≡ a → cond (nat_eq b a) u 0 ≡ u
here a b u h = grind (arith, nat_tests)

pub elsewhere : (a b u : ℕ) → a ≢ b → cond (nat_eq b a) u 0 ≡ 0
elsewhere a b u h = grind (arith, nat_tests)

-- one step conserves
hand_conserves : (t : Bool) (us : List ℕ) (m : Step) (a : ℕ) → m.at < m.on → m.on < length us →
    cond (nat_eq m.at a) (made t us m) 0 + amount_at (handed t us m) a ≡ amount_at us a + cond (nat_eq m.on a) (made t us m) 0
hand_conserves false us m a h k = zeros (nat_eq m.at a) (nat_eq m.on a)
  where
    zeros : (p q : Bool) → cond p 0 0 + amount_at us a ≡ amount_at us a + cond q 0 0
    zeros true true = omega arith
    zeros true false = omega arith
    zeros false true = omega arith
    zeros false false = omega arith
hand_conserves true us m a h k = elim (eqb_tells a m.at) [
  | inl e ↦
      let f = handed_from us m h (omega (arith, h, k)) in
      let x = here a m.at (amount_at us m.at) (sym e.1) in
      let y = elsewhere a m.on (amount_at us m.at) (λ q. absurd (omega (arith, q, h, e.1))) in
      let z : amount_at us a ≡ amount_at us m.at = ap (λ b. amount_at us b) e.1 in
      let w : amount_at (handed true us m) a ≡ 0 = ap (λ b. amount_at (handed true us m) b) e.1 ∙ f in omega (arith, w, x, y, z)
  | inr d ↦ elim (eqb_tells a m.on) [
    | inl e ↦
        let f = handed_to us m k in
        let x = elsewhere a m.at (amount_at us m.at) d.1 in
        let y = here a m.on (amount_at us m.at) (sym e.1) in
        let z : amount_at us a ≡ amount_at us m.on = ap (λ b. amount_at us b) e.1 in
        let w : amount_at (handed true us m) a ≡ amount_at us m.on + amount_at us m.at = ap (λ b. amount_at (handed true us m) b) e.1 ∙ f in omega (arith, w, x, y, z)
    | inr e ↦
        let f = handed_other us m a d.1 e.1 in
        let x = elsewhere a m.at (amount_at us m.at) d.1 in
        let y = elsewhere a m.on (amount_at us m.at) e.1 in omega (arith, f, x, y)
  ]
]

-- what leaves a place and what remains there is what was there and what comes to it
pub spread_conserves : (chosen : Step → Bool) (n : ℕ) (us : List ℕ) (ms : List Step) (a : ℕ) → n < length us → Each (IsStep n) ms →
    departed ms (spread chosen us ms) a + amount_at (remains chosen us ms) a ≡ amount_at us a + arrived ms (spread chosen us ms) a
spread_conserves chosen n us [] a long i = omega arith
spread_conserves chosen n us (m ∷ ms) a long i =
    let l = handed-long (chosen m) us m in
    let r = spread_conserves chosen n (handed (chosen m) us m) ms a (omega (arith, l, long)) i.1 in
    let i0 = i.0.0 in let i1 = i.0.1 in
    let c = hand_conserves (chosen m) us m a i0 (omega (arith, i1, long)) in
    omega (arith, r, c)

-- ---- what is handed on along open places comes to the target

-- behind this place, an open place is the target or has a chosen step
abbrev HasFrom : (Step → Bool) → List Step → (ℕ → Type 0) → ℕ → ℕ → Type 0
HasFrom chosen ms Open target b = (a : ℕ) → b < a → Open a → (a ≡ target) ⊎ HasChosen chosen ms a

-- what is somewhere is at an open place, which is the target or has a chosen step
abbrev Waits : (Step → Bool) → List Step → (ℕ → Type 0) → ℕ → List ℕ → Type 0
Waits chosen ms Open target us = (a : ℕ) → 0 < amount_at us a → Open a × ((a ≡ target) ⊎ HasChosen chosen ms a)

not_here : (chosen : Step → Bool) (m : Step) (ms : List Step) (a : ℕ) → (m.at ≡ a → chosen m ≡ true → ⊥) → HasChosen chosen (m ∷ ms) a → HasChosen chosen ms a
not_here chosen m ms a d h = elim h [ inl e ↦ absurd (d e.0 e.1) | inr e ↦ e ]

either : (chosen : Step → Bool) (m : Step) (ms : List Step) (a target : ℕ) → (m.at ≡ a → chosen m ≡ true → ⊥) → (a ≡ target) ⊎ HasChosen chosen (m ∷ ms) a → (a ≡ target) ⊎ HasChosen chosen ms a
either chosen m ms a target d h = elim h [ inl e ↦ inl e | inr e ↦ inr (not_here chosen m ms a d e) ]

differ : (t : Bool) → t ≡ true → t ≡ false → ⊥
differ true e f = cc
differ false e f = cc

hand_waits : (t : Bool) (chosen : Step → Bool) (n : ℕ) (m : Step) (ms : List Step) (Open : ℕ → Type 0) (target : ℕ) (us : List ℕ) → chosen m ≡ t → IsStep n m → n < length us → (Open m.at → chosen m ≡ true → Open m.on) →
    HasFrom chosen (m ∷ ms) Open target m.at → Waits chosen (m ∷ ms) Open target us → Waits chosen ms Open target (handed t us m)
hand_waits false chosen n m ms Open target us is i long goes from w a h = let k = w a h in (k.0, either chosen m ms a target (λ e c. differ (chosen m) c is) k.1)
hand_waits true chosen n m ms Open target us is i long goes from w a h = elim (eqb_tells a m.at) [
  | inl e ↦
      let i0 = i.0 in let i1 = i.1 in
      let f = handed_from us m i0 (omega (arith, i0, i1, long)) in
      let z : amount_at (handed true us m) a ≡ 0 = ap (λ b. amount_at (handed true us m) b) e.1 ∙ f in absurd (omega (arith, z, h))
  | inr d ↦ elim (eqb_tells a m.on) [
    | inl e ↦ at_on e.1
    | inr e ↦
        let f = handed_other us m a d.1 e.1 in
        let k = w a (omega (arith, f, h)) in
        (k.0, either chosen m ms a target (λ q c. d.1 (sym q)) k.1)
  ]
]
  where
    at_on : a ≡ m.on → Open a × ((a ≡ target) ⊎ HasChosen chosen ms a)
    at_on e =
        let i0 = i.0 in let i1 = i.1 in
        let f = handed_to us m (omega (arith, i1, long)) in
        let z : amount_at (handed true us m) a ≡ amount_at us m.on + amount_at us m.at = ap (λ b. amount_at (handed true us m) b) e ∙ f in
        elim (eqb_tells (amount_at us m.at) 0) [
          | inl q ↦
              let q1 = q.1 in
              let k = w m.on (omega (arith, z, h, q1)) in
              subst (λ b. Open b × ((b ≡ target) ⊎ HasChosen chosen ms b)) (sym e) (k.0, either chosen m ms m.on target (λ r c. absurd (omega (arith, r, i0))) k.1)
          | inr q ↦
              let q1 = q.1 in
              let o = goes (w m.at (positive (amount_at us m.at) q1)).0 is in
              subst (λ b. Open b × ((b ≡ target) ⊎ HasChosen chosen ms b)) (sym e) (o, either chosen m ms m.on target (λ r c. absurd (omega (arith, r, i0))) (from m.on i0 o))
        ]
      where
        positive : (u : ℕ) → u ≢ 0 → 0 < u
        positive zero d = absurd (d refl)
        positive (suc u) d = omega arith

-- in the end all is at the target
remain_waits : (chosen : Step → Bool) (n : ℕ) (us : List ℕ) (ms : List Step) (Open : ℕ → Type 0) (target b : ℕ) → n < length us → AreSteps n ms → NotBefore b ms → Each (λ m. Open m.at → chosen m ≡ true → Open m.on) ms →
    HasFrom chosen ms Open target b → Waits chosen ms Open target us → (a : ℕ) → 0 < amount_at (remains chosen us ms) a → a ≡ target
remain_waits chosen n us [] Open target b long o nb goes from w a h = elim (w a h).1 [ inl e ↦ e | inr e ↦ absurd e ]
remain_waits chosen n us (m ∷ ms) Open target b long o nb goes from w a h =
    let l = handed-long (chosen m) us m in
    let o0 = o.0.0 in
    let nb0 = nb.0 in
    remain_waits chosen n (handed (chosen m) us m) ms Open target m.at (omega (arith, l, long)) o.2 o.1 goes.1
    (λ c k q. either chosen m ms c target (λ r t. absurd (omega (arith, r, k))) (from c (omega (arith, nb0, k)) q))
    (hand_waits (chosen m) chosen n m ms Open target us refl o.0 long goes.0 (λ c k. from c (omega (arith, nb0, k))) w) a h

none_before : (ms : List Step) → NotBefore 0 ms
none_before [] = tt
none_before (m ∷ ms) = (omega arith, none_before ms)

pub remains_at_target : (chosen : Step → Bool) (n : ℕ) (us : List ℕ) (ms : List Step) (Open : ℕ → Type 0) (target : ℕ) → n < length us → AreSteps n ms → AreOpen chosen ms Open target → StandsOpen us Open → (a : ℕ) → a ≢ target → amount_at (remains chosen us ms) a ≡ 0
remains_at_target chosen n us ms Open target long o leads stands a d =
    none (amount_at (remains chosen us ms) a) (λ h. d (remain_waits chosen n us ms Open target 0 long o (none_before ms) leads.goes (λ c k q. leads.has c q) (λ c k. (stands c k, leads.has c (stands c k))) a h))
  where
    none : (u : ℕ) → (0 < u → ⊥) → u ≡ 0
    none zero h = refl
    none (suc u) h = absurd (h (omega arith))

-- ---- made along tight steps

hand_squeezed : (t : Bool) (chosen : Step → Bool) (n : ℕ) (price : Step → ℤ) (p : ℕ → ℤ) (cost : Step → ℤ) (q : ℕ → ℤ) (us : List ℕ) (m : Step) → chosen m ≡ t → IsStep n m → n < length us → IsSqueezing chosen price p cost q m → Squeezed p q us →
    (0 < made t us m → p m.at ≡ (price m +ℤ p m.on)) × Squeezed p q (handed t us m)
hand_squeezed false chosen n price p cost q us m is i long s w = (λ h. absurd (omega (arith, h)), w)
hand_squeezed true chosen n price p cost q us m is i long s w = (λ h. (falls h).0, squeezed)
  where
    falls : 0 < amount_at us m.at → (p m.at ≡ (price m +ℤ p m.on)) × (p m.on ≡ q m.on)
    falls h =
        let e = w m.at h in
        let s0 = s.0 in let s1 = s.1 in
        let c0 = (s.2 is).0 in let c1 = (s.2 is).1 in
        (omega (arith, ints), omega (arith, ints))

    squeezed : Squeezed p q (handed true us m)
    squeezed a h = elim (eqb_tells a m.at) [
      | inl e ↦
          let i0 = i.0 in let i1 = i.1 in
          let f = handed_from us m i0 (omega (arith, i0, i1, long)) in
          let z : amount_at (handed true us m) a ≡ 0 = ap (λ b. amount_at (handed true us m) b) e.1 ∙ f in absurd (omega (arith, z, h))
      | inr d ↦ elim (eqb_tells a m.on) [
        | inl e ↦ subst (λ b. p b ≡ q b) (sym e.1) (at_on e.1)
        | inr e ↦ let f = handed_other us m a d.1 e.1 in w a (omega (arith, f, h))
      ]
    ]
      where
        at_on : a ≡ m.on → p m.on ≡ q m.on
        at_on e = elim (eqb_tells (amount_at us m.at) 0) [
          | inl k ↦
              let i0 = i.0 in let i1 = i.1 in let k1 = k.1 in
              let f = handed_to us m (omega (arith, i1, long)) in
              let z : amount_at (handed true us m) a ≡ amount_at us m.on + amount_at us m.at = ap (λ b. amount_at (handed true us m) b) e ∙ f in
              w m.on (omega (arith, z, h, k1))
          | inr k ↦ (falls (positive (amount_at us m.at) k.1)).1
        ]
          where
            positive : (u : ℕ) → u ≢ 0 → 0 < u
            positive zero d = absurd (d refl)
            positive (suc u) d = omega arith

-- where what starts is squeezed, so is all, and each step that is made costs all that the worth falls
pub spread_tight : (chosen : Step → Bool) (n : ℕ) (price : Step → ℤ) (p : ℕ → ℤ) (cost : Step → ℤ) (q : ℕ → ℤ) (us : List ℕ) (ms : List Step) → n < length us → Each (IsStep n) ms → Each (IsSqueezing chosen price p cost q) ms → Squeezed p q us → AreTight price p ms (spread chosen us ms)
spread_tight chosen n price p cost q us [] long i s w = tt
spread_tight chosen n price p cost q us (m ∷ ms) long i s w =
    let l = handed-long (chosen m) us m in
    let k = hand_squeezed (chosen m) chosen n price p cost q us m refl i.0 long s.0 w in
    (k.0, spread_tight chosen n price p cost q (handed (chosen m) us m) ms (omega (arith, l, long)) i.1 s.1 k.1)
