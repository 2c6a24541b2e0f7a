-- A certificate is accepted exactly where no row fails.
use Rattle.std.proofs.Common.{◌≡◌, ◌≢◌, ℕ, refl, ap, subst, Bool, true, false, Option, Some, None, ◌⊎◌, inl, inr}
use Rattle.std.proofs.lemmas.List.Elements.{All-weaker}
use Rattle.rv_core.specs.Table.{Table}
use Rattle.rv_core.specs.Images.{Image, AreLoadable}
use Rattle.rv_core.specs.Runs.{setup}
use Rattle.rv_core.specs.Code.{decoded}
use Rattle.rv_core.proofs.Constancy.{mrun-fetched}
use Rattle.code_flow_system.specs.declared.cert.Cert.{Cert}
use Rattle.code_flow_system.specs.declared.cert.Mark.TheVariants.{Greatest as MarkedGreatest}
use Rattle.code_flow_system.specs.Systems.{System, IsSystemOf}
use Rattle.code_flow_system.specs.KeptRuns.{BoundsRuns}
use Rattle.code_flow_system.specs.Certificates.{limits, potential, scaled_price, has_move, IsInForm, IsGreatest, KeepsMark, Accepts}
use Rattle.code_flow_system.proofs.DualityLemmas.{bounds_runs}
use Rattle.code_flow_system.proofs.RunLemmas.{runs_are_flows}
use Rattle.dual_check.specs.declared.row.Row.{Row}
use Rattle.dual_check.specs.declared.row.Row.TheVariants.{Missing, Sign, Wide, Move, Value, Flow, Unmet, Greatest, Empty}
use Rattle.dual_check.specs.Rows.{AreGiven, FailsMissing, AreSigned, AreCovered, IsFlowAt, AreMet, IsReached}
use Rattle.dual_check.specs.Leasts.{IsLeastOf}
use Rattle.dual_check.specs.Verdicts.{first_of_moves, IsFlowEverywhere, IsFirst}
use Rattle.dual_check.proofs.SignLemmas.{no_wrong_sign}
use Rattle.dual_check.proofs.MoveLemmas.{IsMoveRow, all_covered, no_fault, move_row}
use Rattle.dual_check.proofs.ClaimLemmas.{none_unmet}

none_or_some : {X : Type 0} (o : Option X) (x : X) → o ≡ None → o ≡ Some x → ⊥
none_or_some None x e f = cc
none_or_some (Some y) x e f = cc

no_move_fault : (t : Table) (s : System) (c : Cert) → Accepts t s c → first_of_moves t s c ≡ None
no_move_fault t s c h = no_fault (scaled_price t s c) (potential c) (limits s.claims c) s.moves h.narrow h.rows

flow_at : (t : Table) (s : System) (c : Cert) (a : ℕ) → IsGreatest t s c → IsFlowAt s c a
flow_at t s c a g = record { in_system = All-weaker (λ p. has_move s.moves p.at p.number ≡ true) (λ p. p.at ≡ a → has_move s.moves p.at p.number ≡ true) (λ p h e. h) c.flow.parts g.in_system; balanced = g.balanced a }

greatest_of : (t : Table) (s : System) (c : Cert) → c.mark ≡ MarkedGreatest → Accepts t s c → IsGreatest t s c
greatest_of t s c e h = subst (λ m. KeepsMark m t s c) e h.mark

pub refused : (t : Table) (s : System) (c : Cert) (r : Row) → IsInForm s.claims c → IsFirst t s c r → Accepts t s c → ⊥
refused t s c (Missing a) form f h = f.holds (h.present a)
refused t s c (Sign n) form f h = none_or_some _ n (no_wrong_sign s.claims c form h.signs) f.1
refused t s c (Wide a) form f h = none_or_some _ (Wide a) (no_move_fault t s c h) f.2
refused t s c (Move a k) form f h = none_or_some _ (Move a k) (no_move_fault t s c h) f.2
refused t s c Value form f h = f.3 h.value
refused t s c (Flow a) form f h = f.2.holds (flow_at t s c a (greatest_of t s c f.1 h))
refused t s c (Unmet n) form f h = let g = greatest_of t s c f.1 h in none_or_some _ n (none_unmet s c form (record { claims = g.claims; narrow = g.claims_narrow })) f.3
refused t s c Greatest form f h = let g = greatest_of t s c f.1 h in f.4 (record { equal = g.reached; narrow = g.narrow })
refused t s c Empty form f h = f.2 (subst (λ m. KeepsMark m t s c) f.1 h.mark)

-- a move's row that fails is the first
pub first_of_rows : (t : Table) (s : System) (c : Cert) (r : Row) → AreGiven s c → AreSigned s c → first_of_moves t s c ≡ Some r → IsFirst t s c r
first_of_rows t s c r given signed e = by_row r (move_row (scaled_price t s c) (potential c) (limits s.claims c) s.moves r e) e
  where
    by_row : (r : Row) → IsMoveRow r → first_of_moves t s c ≡ Some r → IsFirst t s c r
    by_row (Wide a) is e = (given, signed, e)
    by_row (Move a k) is e = (given, signed, e)
    by_row (Missing a) is e = absurd is
    by_row (Sign n) is e = absurd is
    by_row Value is e = absurd is
    by_row (Flow a) is e = absurd is
    by_row (Unmet n) is e = absurd is
    by_row Greatest is e = absurd is
    by_row Empty is e = absurd is

pub covered : (t : Table) (s : System) (c : Cert) → first_of_moves t s c ≡ None → AreCovered t s c
covered t s c e = let h = all_covered (scaled_price t s c) (potential c) (limits s.claims c) s.moves e in record { narrow = h.0; rows = h.1 }

equal_or_not : (x y : Bool) → (x ≢ y → ⊥) → x ≡ y
equal_or_not true true h = refl
equal_or_not false false h = refl
equal_or_not true false h = absurd (h (λ e. cc))
equal_or_not false true h = absurd (h (λ e. cc))

pub all_given : (s : System) (c : Cert) → IsLeastOf (FailsMissing s c) None → AreGiven s c
all_given s c none a = equal_or_not _ _ (none a)

flow_or_not : {P : Type 0} → (P ⊎ ¬ P) → ((¬ P) → ⊥) → P
flow_or_not (inl p) h = p
flow_or_not (inr n) h = absurd (h n)

pub greatest_from : (t : Table) (s : System) (c : Cert) → IsFlowEverywhere s c → AreMet s c → IsReached t s c → IsGreatest t s c
greatest_from t s c flow met reached = record {
  in_system = λ k d lt. (flow _).in_system k d lt refl;
  balanced = λ a. (flow a).balanced;
  claims = met.claims;
  claims_narrow = met.narrow;
  reached = reached.equal;
  narrow = reached.narrow;
}

-- a yes bounds the runs of each image of which the system is the system
pub bounds_images : (t : Table) (s : System) (c : Cert) → IsInForm s.claims c → Accepts t s c → (image : Image) → AreLoadable image.segments → IsSystemOf image s.claims s → BoundsRuns image t s c
bounds_images t s c form h image loadable is =
    bounds_runs image t s c form.scale.0 h (runs_are_flows image t s is (λ u input n at. ap decoded (mrun-fetched (setup image u input) n at loadable)))
