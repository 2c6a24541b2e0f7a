-- What the lesser of two bounds is no more than.
use Rattle.std.proofs.Common.{◌≡◌, ◌≤◌, ◌<◌, arith, refl, subst, List, [], ◌∷◌, All, Bool, true, false, cond, Option, Some, None}
use Rattle.std.specs.Prelude.{nat_lt, slice_index_or, IfSome}
use Rattle.std.proofs.lemmas.Bool.Decides.{nat_tests}
use Rattle.std.proofs.lemmas.List.Elements.{All-cons, All-nil}
use Rattle.rv_core.specs.Table.{Table}
use Rattle.code_flow_system.specs.declared.cert.Cert.{Cert}
use Rattle.code_flow_system.specs.declared.shapes.LoopShape.{LoopShape}
use Rattle.code_flow_system.specs.declared.shapes.Span.{Span}
use Rattle.code_flow_system.specs.Systems.{System}
use Rattle.simplex_rounds.specs.declared.pricing.Multipliers.{Multipliers}
use Rattle.path_fact_columns.specs.Answers.{certificate_at}
use Rattle.path_enum.specs.Marks.{lesser, least_of}
use Rattle.path_enum.specs.Steps.{IsNoLess}

-- the lesser of two bounds is no more than either
lesser_first : (a b : Cert) → (lesser a b).cycles ≤ a.cycles
lesser_first a b = by_test (nat_lt b.cycles a.cycles) refl
  where
    by_test : (q : Bool) → nat_lt b.cycles a.cycles ≡ q → (cond q b a).cycles ≤ a.cycles
    by_test true e = let lt : b.cycles < a.cycles = grind (arith, nat_tests) in omega (arith, lt)
    by_test false e = omega arith

lesser_second : (a b : Cert) → (lesser a b).cycles ≤ b.cycles
lesser_second a b = by_test (nat_lt b.cycles a.cycles) refl
  where
    by_test : (q : Bool) → nat_lt b.cycles a.cycles ≡ q → (cond q b a).cycles ≤ b.cycles
    by_test true e = omega arith
    by_test false e = grind (arith, nat_tests)

pub least_first : (a : Cert) (o : Option Cert) → (least_of a o).cycles ≤ a.cycles
least_first a None = omega arith
least_first a (Some b) = lesser_first a b

pub least_second : (a : Cert) (o : Option Cert) → IfSome o (λ d. (least_of a o).cycles ≤ d.cycles)
least_second a None = tt
least_second a (Some b) = lesser_second a b

module _ (t : Table) (s : System) (ls : List LoopShape) (ps : List Span) where
  -- what is less is no less than the others neither
  pub still_no_less : (a b : Cert) (y : Multipliers) → b.cycles ≤ a.cycles → IsNoLess t s ls ps a y → IsNoLess t s ls ps b y
  still_no_less a b y lt h = by_cert (certificate_at t s ls ps y.scale y.facts) h
    where
      by_cert : (o : Option Cert) → IfSome o (λ d. a.cycles ≤ d.cycles) → IfSome o (λ d. b.cycles ≤ d.cycles)
      by_cert None k = tt
      by_cert (Some d) k = omega (arith, lt, k)

  pub all_no_less : (a b : Cert) (ys : List Multipliers) → b.cycles ≤ a.cycles → All (IsNoLess t s ls ps a) ys → All (IsNoLess t s ls ps b) ys
  all_no_less a b ys lt h k d i = still_no_less a b (slice_index_or ys k d) lt (h k d i)

  pub own_no_less : (a : Cert) (o : Option Cert) (y : Multipliers) → o ≡ certificate_at t s ls ps y.scale y.facts → IsNoLess t s ls ps (least_of a o) y
  own_no_less a o y e = subst (λ (p : Option Cert). IfSome p (λ d. (least_of a o).cycles ≤ d.cycles)) e (least_second a o)

  pub one_all : {X : Type 0} (P : X → Type 0) (x : X) → P x → All P (x ∷ [])
  one_all P x h = All-cons P x [] h (All-nil P)
