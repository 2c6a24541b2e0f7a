-- Weak duality: no total is above the unit times the entry's potential, and one without slack is equal to it.
use Rattle.std.proofs.Common.{◌≡◌, ℕ, ◌*◌, ◌<◌, ◌≤◌, ℤ, pos, ◌+ℤ◌, neg_ℤ, ◌*ℤ◌, ◌≤ℤ◌, ◌<ℤ◌, arith, refl, sym, ap, ◌∙◌, subst, List, [], ◌∷◌, ◌++◌, All}
use lib.IntN.{negsuc, *ℤ-zero, *ℤ_comm}
use Rattle.std.proofs.Math.Nat.{le-div_iff_mul-le}
use Rattle.std.proofs.lemmas.Int.{ints}
use Rattle.std.proofs.lemmas.List.Elements.{All-head, All-tail}
use Rattle.frac128.specs.Terms.{Terms, int_sum_by, coefficient, applied}
use Rattle.frac128.proofs.SignedLemmas.{mul-add, mul-sub, mul-mul_swap, mul-le, mul_at_most}
use Rattle.frac128.proofs.TermsLemmas.{applied-same, applied-coefficient}
use Rattle.wcc_base.specs.declared.compare.Compare.{Compare}
use Rattle.wcc_base.specs.declared.compare.Compare.TheVariants.{AtMost, AtLeast, Equal}
use Rattle.rv_core.specs.Table.{Table}
use Rattle.rv_core.specs.Images.{Image}
use Rattle.rv_core.specs.Runs.{setup, mrun}
use Rattle.code_flow_system.specs.declared.moves.Move.{Move}
use Rattle.code_flow_system.specs.declared.cert.Cert.{Cert}
use Rattle.code_flow_system.specs.declared.cert.Mark.{Mark}
use Rattle.code_flow_system.specs.declared.cert.Mark.TheVariants.{Greatest, Empty, Neither}
use Rattle.code_flow_system.specs.Moves.{destinations}
use Rattle.code_flow_system.specs.Systems.{System}
use Rattle.code_flow_system.specs.Counts.{Amounts, amount, departures, each_with, arrivals, count, inflow, total, Compares}
use Rattle.code_flow_system.specs.MoveCosts.{move_cost}
use Rattle.code_flow_system.specs.Flows.{price, value}
use Rattle.code_flow_system.specs.Certificates.{Limit, limits, FitsSign, IsSigned, held, fall, IsCovered, scaled_price, potential, KeepsMark, IsInForm, FitsMark, whole_part, Accepts}
use Rattle.code_flow_system.specs.KeptRuns.{tally, RunsAreFlows, BoundsRuns}
use Rattle.code_flow_system.specs.Bounds.{BoundsFlows, ReachesBound, HasNoFlow, KeepsPromise, Dual, KeepsLimit, IsDual, BoundsTotals, IsTight, IsExact, ReachesPotential}
use Rattle.code_flow_system.proofs.LimitLemmas.{limits_keep}

-- one more move

abbrev held_by : Terms → List Limit → ℤ
held_by vs ls = int_sum_by (λ l. l.by *ℤ applied vs (coefficient l.terms)) ls

held_by-cons : (ls : List Limit) (vs : Terms) (a : ℕ) (w : ℤ) → held_by ((a, w) ∷ vs) ls ≡ (w *ℤ held ls a) +ℤ held_by vs ls
held_by-cons [] vs a w = let e = *ℤ-zero w in omega (arith, ints)
held_by-cons (l ∷ ls) vs a w =
    let r = held_by-cons ls vs a w in
    let e = mul-add l.by (w *ℤ coefficient l.terms a) (applied vs (coefficient l.terms)) in
    let f = mul-mul_swap l.by w (coefficient l.terms a) in
    let g = mul-add w (l.by *ℤ coefficient l.terms a) (held ls a) in
    omega (arith, ints)

held_by-nil : (ls : List Limit) → held_by [] ls ≡ pos 0
held_by-nil [] = refl
held_by-nil (l ∷ ls) = let r = held_by-nil ls in let e = *ℤ-zero l.by in omega (arith, ints)

pub applied-each_with : (w : ℤ) (ds : List ℕ) (rest : Terms) (p : ℕ → ℤ) → applied (each_with w ds ++ rest) p ≡ (w *ℤ int_sum_by p ds) +ℤ applied rest p
applied-each_with w [] rest p = let e = *ℤ-zero w in omega (arith, ints)
applied-each_with w (d ∷ ds) rest p =
    let r = applied-each_with w ds rest p in
    let e = mul-add w (p d) (int_sum_by p ds) in omega (arith, ints)

-- what the moves of a list pay, where each is covered
totals_covered : (d : Dual) (x : Amounts) (ms : List Move) → All (IsCovered d.price (coefficient d.potentials) d.limits) ms →
    (total d.price x ms +ℤ applied (arrivals x ms) (coefficient d.potentials)) ≤ℤ (applied (departures x ms) (coefficient d.potentials) +ℤ held_by (departures x ms) d.limits)
totals_covered d x [] rows = let e = held_by-nil d.limits in omega (arith, ints)
totals_covered d x (m ∷ ms) rows =
    let r = totals_covered d x ms (All-tail (IsCovered d.price (coefficient d.potentials) d.limits) m ms rows) in
    let p : ℕ → ℤ = coefficient d.potentials in
    let row : (pos (x m.at m.number) *ℤ d.price m) ≤ℤ (pos (x m.at m.number) *ℤ (fall (coefficient d.potentials) m +ℤ held d.limits m.at)) = mul-le (x m.at m.number) _ _ (All-head (IsCovered d.price (coefficient d.potentials) d.limits) m ms rows) in
    let e1 = mul-add (amount x m) (fall (coefficient d.potentials) m) (held d.limits m.at) in
    let e2 = mul-sub (amount x m) (coefficient d.potentials m.at) (int_sum_by (coefficient d.potentials) (destinations m)) in
    let e3 = applied-each_with (amount x m) (destinations m) (arrivals x ms) (coefficient d.potentials) in
    let e4 = held_by-cons d.limits (departures x ms) m.at (amount x m) in
    omega (arith, ints)

-- and where each is tight
totals_tight : (d : Dual) (x : Amounts) (ms : List Move) → All (IsTight d x) ms →
    (total d.price x ms +ℤ applied (arrivals x ms) (coefficient d.potentials)) ≡ (applied (departures x ms) (coefficient d.potentials) +ℤ held_by (departures x ms) d.limits)
totals_tight d x [] rows = let e = held_by-nil d.limits in omega (arith, ints)
totals_tight d x (m ∷ ms) rows =
    let r = totals_tight d x ms (All-tail (IsTight d x) m ms rows) in
    let row = All-head (IsTight d x) m ms rows in
    let e1 = mul-add (amount x m) (fall (coefficient d.potentials) m) (held d.limits m.at) in
    let e2 = mul-sub (amount x m) (coefficient d.potentials m.at) (int_sum_by (coefficient d.potentials) (destinations m)) in
    let e3 = applied-each_with (amount x m) (destinations m) (arrivals x ms) (coefficient d.potentials) in
    let e4 = held_by-cons d.limits (departures x ms) m.at (amount x m) in
    omega (arith, ints)

-- the limits

signed_limit : (op : Compare) (w t : ℤ) → FitsSign op w → Compares op t (pos 0) → (w *ℤ t) ≤ℤ pos 0
signed_limit AtMost w t s h = mul_at_most w t s h
signed_limit AtLeast w t s h = subst (λ (z : ℤ). z ≤ℤ pos 0) (*ℤ_comm t w) (mul_at_most t w h s)
signed_limit Equal w t s h = let e = *ℤ-zero w in let f = ap (λ (z : ℤ). w *ℤ z) h in omega (arith, ints)

held_by-most : (n : ℕ → ℤ) (vs : Terms) (ls : List Limit) → ((ts : Terms) → applied vs (coefficient ts) ≡ applied ts n) → All IsSigned ls → All (KeepsLimit n) ls → held_by vs ls ≤ℤ pos 0
held_by-most n vs [] same signs keep = omega (arith, ints)
held_by-most n vs (l ∷ ls) same signs keep =
    let r = held_by-most n vs ls same (All-tail IsSigned l ls signs) (All-tail (KeepsLimit n) l ls keep) in
    let e = signed_limit l.op l.by (applied l.terms n) (All-head IsSigned l ls signs) (All-head (KeepsLimit n) l ls keep) in
    let f = ap (λ (z : ℤ). l.by *ℤ z) (same l.terms) in omega (arith, ints)

held_by-exact : (n : ℕ → ℤ) (vs : Terms) (ls : List Limit) → ((ts : Terms) → applied vs (coefficient ts) ≡ applied ts n) → All (IsExact n) ls → held_by vs ls ≡ pos 0
held_by-exact n vs [] same exact = refl
held_by-exact n vs (l ∷ ls) same exact =
    let r = held_by-exact n vs ls same (All-tail (IsExact n) l ls exact) in
    let e = All-head (IsExact n) l ls exact in
    let f = ap (λ (z : ℤ). l.by *ℤ z) (same l.terms) in omega (arith, ints)

-- what leaves the addresses and what arrives there has one worth by the potentials
worths : (s : System) (ps : Terms) (unit : ℕ) (x : Amounts) → ((a : ℕ) → count x s.moves a ≡ coefficient (inflow s.entry unit x s.moves) a) →
    applied (departures x s.moves) (coefficient ps) ≡ (pos unit *ℤ coefficient ps s.entry) +ℤ applied (arrivals x s.moves) (coefficient ps)
worths s ps unit x conserved =
    applied-coefficient (departures x s.moves) ps
    ∙ (applied-same ps (coefficient (departures x s.moves)) (coefficient (inflow s.entry unit x s.moves)) conserved
    ∙ applied-coefficient ps (inflow s.entry unit x s.moves))

pub bounds_totals : (s : System) (d : Dual) → IsDual s d → BoundsTotals s d
bounds_totals s d dual unit x feasible =
    let row = totals_covered d x s.moves dual.rows in
    let same = worths s d.potentials unit x feasible.conserved in
    let rest = held_by-most (count x s.moves) (departures x s.moves) d.limits (applied-coefficient (departures x s.moves)) dual.signs feasible.limits in
    omega (arith, ints)

pub reaches_potential : (s : System) (d : Dual) → ReachesPotential s d
reaches_potential s d unit x slackless =
    let row = totals_tight d x s.moves slackless.tight in
    let same = worths s d.potentials unit x slackless.conserved in
    let rest = held_by-exact (count x s.moves) (departures x s.moves) d.limits (applied-coefficient (departures x s.moves)) slackless.exact in
    omega (arith, ints)

-- certificates

abbrev dual_of : Table → System → Cert → Dual
dual_of t s c = record { price = scaled_price t s c; potentials = c.potentials; limits = limits s.claims c }

scaled_total : (t : Table) (s : System) (c : Cert) (x : Amounts) (ms : List Move) → total (scaled_price t s c) x ms ≡ pos c.scale *ℤ total (price t s) x ms
scaled_total t s c x [] = sym (*ℤ-zero (pos c.scale))
scaled_total t s c x (m ∷ ms) =
    let r = scaled_total t s c x ms in
    let e = mul-add (pos c.scale) (amount x m *ℤ price t s m) (total (price t s) x ms) in
    let f = mul-mul_swap (pos c.scale) (amount x m) (price t s m) in
    let g : pos (move_cost t s m * c.scale) ≡ pos c.scale *ℤ pos (move_cost t s m) = scaled (move_cost t s m) c.scale in
    let h = ap (λ (z : ℤ). amount x m *ℤ z) g in omega (arith, ints)
  where
    scaled : (a b : ℕ) → pos (a * b) ≡ pos b *ℤ pos a
    scaled a b = omega (arith, ints)

-- no flow has a value above the entry's potential over the scale
pub weak_duality : (t : Table) (s : System) (c : Cert) → Accepts t s c → BoundsFlows t s c
weak_duality t s c accepted unit x flow =
    let law = bounds_totals s (dual_of t s c) (record { signs = accepted.signs; rows = accepted.rows }) unit x (record { conserved = flow.conserved; limits = limits_keep s.claims c (count x s.moves) flow.claims }) in
    subst (λ (z : ℤ). z ≤ℤ (pos unit *ℤ potential c s.entry)) (scaled_total t s c x s.moves) law

positive_unit : (m : Mark) (unit : ℕ) (c : Cert) → m ≡ Greatest → FitsMark m unit c.flow.parts → 0 < unit
positive_unit Greatest unit c is h = h.0
positive_unit Empty unit c is h = cc
positive_unit Neither unit c is h = cc

pub reaches_bound : (t : Table) (s : System) (c : Cert) → IsInForm s.claims c → Accepts t s c → c.mark ≡ Greatest → ReachesBound t s c
reaches_bound t s c form accepted is =
    let g = subst (λ m. KeepsMark m t s c) is accepted.mark in
    record {
      flow = record { positive = positive_unit c.mark c.flow.unit c is form.unit; conserved = λ a. (g.balanced a).equal; claims = g.claims };
      value = g.reached;
    }

total_at_least : (t : Table) (s : System) (x : Amounts) (ms : List Move) → pos 0 ≤ℤ total (price t s) x ms
total_at_least t s x [] = omega (arith, ints)
total_at_least t s x (m ∷ ms) = let r = total_at_least t s x ms in let e = product (x m.at m.number) (move_cost t s m) in omega (arith, ints)
  where
    product : (a b : ℕ) → pos 0 ≤ℤ (pos a *ℤ pos b)
    product a b = omega (arith, ints)

pub no_flow : (t : Table) (s : System) (c : Cert) → Accepts t s c → c.mark ≡ Empty → HasNoFlow s
no_flow t s c accepted is unit x flow =
    let negative : potential c s.entry <ℤ pos 0 = subst (λ m. KeepsMark m t s c) is accepted.mark in
    let law = weak_duality t s c accepted unit x flow in
    let value_least = total_at_least t s x s.moves in
    let scaled = mul-le c.scale (pos 0) (value t s x) value_least in
    let e = *ℤ-zero (pos c.scale) in
    absurd (below unit (potential c s.entry) flow.positive negative (omega (arith, ints)))
  where
    below : (k : ℕ) (p : ℤ) → 0 < k → p <ℤ pos 0 → ¬ (pos 0 ≤ℤ (pos k *ℤ p))
    below k p h l m =
        let e = mul-le k p (neg_ℤ (pos 1)) (omega (arith, ints)) in omega (arith, ints)

pub keeps_promise : (t : Table) (s : System) (c : Cert) → IsInForm s.claims c → Accepts t s c → KeepsPromise t s c
keeps_promise t s c form accepted = record {
  greatest = reaches_bound t s c form accepted;
  empty = no_flow t s c accepted;
}

-- runs

within : (p : ℤ) (scale cycles : ℕ) → 0 < scale → (pos scale *ℤ pos cycles) ≤ℤ (pos 1 *ℤ p) → cycles ≤ whole_part p scale
within (pos n) scale cycles h le = (le-div_iff_mul-le h).1 (omega (arith, ints))
within (negsuc n) scale cycles h le = absurd (omega (arith, ints))

pub bounds_runs : (image : Image) (t : Table) (s : System) (c : Cert) → 0 < c.scale → Accepts t s c → RunsAreFlows image t s → BoundsRuns image t s c
bounds_runs image t s c scale accepted flows input n keeps =
    let run = flows input n keeps in
    let cycles : ℕ = (mrun (setup image t input) n).state.cycles in
    let law = weak_duality t s c accepted 1 (tally (mrun (setup image t input) n).visits) run.flow in
    let more = mul-le c.scale (pos (mrun (setup image t input) n).state.cycles) (value t s (tally (mrun (setup image t input) n).visits)) run.cycles in
    let bound = within (potential c s.entry) c.scale (mrun (setup image t input) n).state.cycles scale (omega (arith, ints)) in
    subst (λ k. (mrun (setup image t input) n).state.cycles ≤ k) (sym accepted.value) bound
