-- A run that has exited stays as it is, so it has one ending.
use Rattle.std.proofs.Common.{◌≡◌, ◌⊎◌, ℕ, zero, suc, ◌+◌, ◌-◌, ◌≤◌, arith, ℤ, refl, sym, ap, ◌∙◌, ⊎_elim}
use Rattle.rv_core.specs.Table.{Table}
use Rattle.rv_core.specs.Machine.{Exited, State, start_of, steps}
use Rattle.rv_core.specs.Runs.{Setup, mrun}
use Rattle.rv_core.specs.Exits.{Finish, Exits}
use Rattle.rv_core.proofs.Running.{step-ended, steps-add, mrun-state}

pub steps-exited : (t : Table) (n : ℕ) (s : State) (v : ℤ) → s.ending ≡ Exited v → steps t n s ≡ s
steps-exited t zero s v e = refl
steps-exited t (suc n) s v e = ap (steps t n) (step-ended t s (Exited v) e refl) ∙ steps-exited t n s v e

-- a run that has exited is in the same state later
pub mrun-exited : (s : Setup) (m n : ℕ) (v : ℤ) → (mrun s m).state.ending ≡ Exited v → m ≤ n → (mrun s n).state ≡ (mrun s m).state
mrun-exited s m n v is le =
    let start = start_of s.image s.input in
    let d = n - m in
    let e : n ≡ m + d = omega arith in
    let there = mrun-state s m in
    mrun-state s n
    ∙ ap (λ k. steps s.costs k start) e
    ∙ steps-add s.costs m d start
    ∙ ap (steps s.costs d) (sym there)
    ∙ steps-exited s.costs d (mrun s m).state v is

either : (a b : ℕ) → (a ≤ b) ⊎ (b ≤ a)
either a b = grind arith

same-value : (a b : ℤ) → Exited a ≡ Exited b → a ≡ b
same-value a b e = cc

-- two endings in one state
same-finish : (x y : State) (f g : Finish) → x ≡ y → x.ending ≡ Exited f.value → y.ending ≡ Exited g.value → x.world.output ≡ f.output → y.world.output ≡ g.output → x.cycles ≡ f.cycles → y.cycles ≡ g.cycles → f ≡ g
same-finish x y f g e v w o p c d =
    let value = same-value f.value g.value (sym v ∙ ap (λ (s : State). s.ending) e ∙ w) in
    let output : f.output ≡ g.output = sym o ∙ ap (λ (s : State). s.world.output) e ∙ p in
    let cycles : f.cycles ≡ g.cycles = sym c ∙ ap (λ (s : State). s.cycles) e ∙ d in
    ap (λ x. record f { output = x }) output ∙ ap (λ x. record f { output = g.output; value = x }) value ∙ ap (λ x. record g { cycles = x }) cycles

pub one-finish : (s : Setup) (f g : Finish) → Exits s f → Exits s g → f ≡ g
one-finish s f g x y =
    let a = x.finishes in
    let b = y.finishes in
    ⊎_elim
    (λ le. same-finish (mrun s x.count).state (mrun s y.count).state f g (sym (mrun-exited s x.count y.count f.value a.ends le)) a.ends b.ends a.prints b.prints a.takes b.takes)
    (λ le. same-finish (mrun s x.count).state (mrun s y.count).state f g (mrun-exited s y.count x.count g.value b.ends le) a.ends b.ends a.prints b.prints a.takes b.takes)
    (either x.count y.count)
