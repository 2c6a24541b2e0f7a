-- All that starts comes to the target.
use Rattle.std.proofs.Common.{◌≡◌, ◌≢◌, ℕ, zero, suc, ◌+◌, ◌≤◌, ◌<◌, arith, refl, sym, ◌∙◌, subst, List, [], ◌∷◌, length, inl, inr, Bool, true, false}
use Rattle.std.specs.Prelude.{slice_set}
use Rattle.std.proofs.lemmas.Bool.Decides.{eqb_tells}
use Rattle.std.proofs.Math.ListN.{length-set, replicate}
use Rattle.std.proofs.lemmas.List.{length-replicate}
use Rattle.loop_walks.specs.declared.step.Step.{Step}
use Rattle.loop_walks.specs.Rows.{IsStep, AreSteps, Each}
use Rattle.loop_walks.proofs.EachLemmas.{steps_are}
use Rattle.loop_flows.specs.Passes.{amount_at, handed, remains}
use Rattle.loop_flows.specs.Hands.{AreOpen, StandsOpen}
use Rattle.loop_flows.specs.Flows.{only_at}
use Rattle.loop_flows.proofs.SpreadLemmas.{set_at, set_other, handed-long, remains_at_target}

abbrev pub total : List ℕ → ℕ
total [] = 0
total (u ∷ us) = u + total us

total-set : (us : List ℕ) (a z : ℕ) → a < length us → total (slice_set us a z) + amount_at us a ≡ total us + z
total-set [] a z h = absurd (omega arith)
total-set (u ∷ us) zero z h = omega arith
total-set (u ∷ us) (suc a) z h = let r = total-set us a z (omega (arith, h)) in omega (arith, r)

total-replicate : (k : ℕ) → total (replicate k 0) ≡ 0
total-replicate zero = refl
total-replicate (suc k) = let r = total-replicate k in omega (arith, r)

hand_total : (t : Bool) (us : List ℕ) (m : Step) → m.at < m.on → m.on < length us → total (handed t us m) ≡ total us
hand_total false us m h k = refl
hand_total true us m h k =
    let e = total-set us m.at 0 (omega (arith, h, k)) in
    let l = length-set us m.at 0 in
    let f = total-set (slice_set us m.at 0) m.on (amount_at us m.on + amount_at us m.at) (omega (arith, l, k)) in
    let o = set_other us m.at m.on 0 (λ q. absurd (omega (arith, q, h))) in
    omega (arith, e, f, o)

remains_total : (chosen : Step → Bool) (n : ℕ) (us : List ℕ) (ms : List Step) → n < length us → Each (IsStep n) ms → total (remains chosen us ms) ≡ total us
remains_total chosen n us [] long i = refl
remains_total chosen n us (m ∷ ms) long i =
    let l = handed-long (chosen m) us m in
    let i0 = i.0.0 in let i1 = i.0.1 in
    remains_total chosen n (handed (chosen m) us m) ms (omega (arith, l, long)) i.1 ∙ hand_total (chosen m) us m i0 (omega (arith, i1, long))

remains-long : (chosen : Step → Bool) (us : List ℕ) (ms : List Step) → length (remains chosen us ms) ≡ length us
remains-long chosen us [] = refl
remains-long chosen us (m ∷ ms) = remains-long chosen (handed (chosen m) us m) ms ∙ handed-long (chosen m) us m

-- where all is at one place
total_at : (us : List ℕ) (j : ℕ) → ((a : ℕ) → a ≢ j → amount_at us a ≡ 0) → total us ≡ amount_at us j
total_at [] j h = none j
  where
    none : (j : ℕ) → 0 ≡ amount_at [] j
    none zero = refl
    none (suc j) = refl
total_at (u ∷ us) zero h = let r = nothing us (λ a. h (suc a) (λ e. absurd (omega (arith, e)))) in omega (arith, r)
  where
    nothing : (us : List ℕ) → ((a : ℕ) → amount_at us a ≡ 0) → total us ≡ 0
    nothing [] h = refl
    nothing (u ∷ us) h = let r = nothing us (λ a. h (suc a)) in let z = h 0 in omega (arith, r, z)
total_at (u ∷ us) (suc j) h =
    let r = total_at us j (λ a d. h (suc a) (λ e. d (omega (arith, e)))) in
    let z = h 0 (λ e. absurd (omega (arith, e))) in omega (arith, r, z)

-- the amounts of one place

pub only-long : (n a u : ℕ) → length (only_at n a u) ≡ n + 1
only-long n a u = length-set (replicate (n + 1) 0) a u ∙ length-replicate {A = ℕ} (n + 1) 0

pub only_there : (n a u : ℕ) → a ≤ n → amount_at (only_at n a u) a ≡ u
only_there n a u h = let l = length-replicate {A = ℕ} (n + 1) 0 in set_at (replicate (n + 1) 0) a u (omega (arith, l, h))

zero_at : (k a : ℕ) → amount_at (replicate k 0) a ≡ 0
zero_at zero zero = refl
zero_at zero (suc a) = refl
zero_at (suc k) zero = refl
zero_at (suc k) (suc a) = zero_at k a

pub only_elsewhere : (n a u b : ℕ) → b ≢ a → amount_at (only_at n a u) b ≡ 0
only_elsewhere n a u b d = set_other (replicate (n + 1) 0) a b u d ∙ zero_at (n + 1) b

-- what starts at one open place is at the target in the end
pub all_at_target : (chosen : Step → Bool) (n : ℕ) (ms : List Step) (Open : ℕ → Type 0) (target a u : ℕ) → a ≤ n → AreSteps n ms → AreOpen chosen ms Open target → Open a → amount_at (remains chosen (only_at n a u) ms) target ≡ u
all_at_target chosen n ms Open target a u h o leads starts =
    let long : n < length (only_at n a u) = let l = only-long n a u in omega (arith, l) in
    let r = total_at (remains chosen (only_at n a u) ms) target (λ b d. remains_at_target chosen n (only_at n a u) ms Open target (let l = only-long n a u in omega (arith, l)) o leads (stands) b d) in
    let t = remains_total chosen n (only_at n a u) ms (let l = only-long n a u in omega (arith, l)) (steps_are n ms o) in
    let l = length-replicate {A = ℕ} (n + 1) 0 in
    let s = total-set (replicate (n + 1) 0) a u (omega (arith, l, h)) in
    let z = total-replicate (n + 1) in
    let y = zero_at (n + 1) a in
    omega (arith, r, t, s, z, y)
  where
    stands : StandsOpen (only_at n a u) Open
    stands b p = elim (eqb_tells b a) [
      | inl e ↦ subst (λ c. Open c) (sym e.1) starts
      | inr d ↦ let z = only_elsewhere n a u b d.1 in absurd (omega (arith, z, p))
    ]
