-- What answers at narrow multipliers are: best flows with small columns, and accepted certificates.
use Rattle.std.proofs.Common.{◌≡◌, ℕ, ◌+◌, ◌*◌, ◌≤◌, ◌<◌, ◌^◌, ℤ, pos, ◌-ℤ◌, ◌*ℤ◌, ◌≤ℤ◌, ◌<ℤ◌, arith, refl, sym, ap, ◌∙◌, List, [], ◌∷◌, length, All, Bool, true, false, cond, Option, Some, None, unsigned_abs}
use Rattle.std.specs.Prelude.{IfSome, if◌then◌else◌}
use Rattle.std.specs.Int.RustNames.{int_lt}
use Rattle.std.proofs.lemmas.Int.{ints}
use Rattle.std.proofs.lemmas.Bool.Decides.{nat_tests}
use Rattle.std.proofs.lemmas.List.Elements.{All-weaker}
use Rattle.rv_core.specs.Table.{Table}
use Rattle.code_flow_system.specs.declared.cert.Cert.{Cert}
use Rattle.code_flow_system.specs.declared.cert.Part.{Part}
use Rattle.code_flow_system.specs.declared.claims.FactClaim.{FactClaim}
use Rattle.code_flow_system.specs.declared.shapes.LoopShape.{LoopShape}
use Rattle.code_flow_system.specs.declared.shapes.Span.{Span}
use Rattle.code_flow_system.specs.Systems.{System}
use Rattle.code_flow_system.specs.Counts.{count}
use Rattle.code_flow_system.specs.Flows.{value}
use Rattle.code_flow_system.specs.Loose.{IsLoose}
use Rattle.code_flow_system.specs.Certificates.{fact_limits, IsSigned, IsSmall, IsInForm, Accepts}
use Rattle.path_flows.specs.Flows.{amounts_of}
use Rattle.path_cert.specs.Priced.{fact_prices, fact_certificate, fact_total, AreMultipliers, fact_low}
use Rattle.path_cert.specs.Facts.{IsFactFlow}
use Rattle.path_cert.proofs.PricedLemmas.{prices_pay}
use Rattle.path_cert.proofs.BestLemmas.{free_loose}
use Rattle.path_conditions.specs.Walking.{IsSearchable}
use Rattle.path_fact_kinds.specs.Columns.{totals_of, multiplied}
use Rattle.path_fact_columns.specs.Conditions.{AreNarrow}
use Rattle.path_fact_columns.specs.Answers.{flow_at, worth_at, parts_at, certificate_at, answer_of}
use Rattle.path_fact_columns.specs.declared.answering.Answer.{Answer}
use Rattle.path_fact_columns.specs.Laws.{AreBest, IsAnswer}
use Rattle.path_fact_columns.proofs.PartLemmas.{are_parts}
use Rattle.path_fact_columns.proofs.WalkLemmas.{answer_there, accepted_there}

pub multiplied_is : (n : ℕ → ℤ) (fs : List FactClaim) (ys : List ℤ) → multiplied ys (totals_of fs n) ≡ fact_total fs ys n
multiplied_is n [] [] = refl
multiplied_is n [] (y ∷ ys) = refl
multiplied_is n (f ∷ fs) [] = refl
multiplied_is n (f ∷ fs) (y ∷ ys) = let r = multiplied_is n fs ys in omega (arith, ints)

small_one : (u n : ℕ) → u * (n + 1) ≤ 2 ^ 44 → u ≤ 2 ^ 44
small_one u n h = let e : u * (n + 1) ≡ u * n + u = omega arith in omega (arith, e, h)

module _ (t : Table) (s : System) (ls : List LoopShape) (ps : List Span) (is : IsSearchable t s ls ps) (scale : ℕ) (ys : List ℤ) (some : 0 < scale) (narrow : AreNarrow s scale ys) where
  pub are_multipliers : All IsSigned (fact_limits s.claims.facts ys) → AreMultipliers s scale ys
  are_multipliers signs = record {
    scaled = (some, (let w = small_one scale (length s.claims.loops) narrow.scaled in omega (arith, w)));
    long = narrow.count;
    signs = signs;
    small = All-weaker (λ u. unsigned_abs u * (length s.claims.loops + 1) ≤ 2 ^ 44) IsSmall (λ u h. let w = small_one (unsigned_abs u) (length s.claims.loops) h in omega (arith, w)) ys narrow.facts;
  }

  -- where the worth isn't negative
  module _ (positive : pos 0 ≤ℤ worth_at t s ls ps scale ys) where
    own : IsFactFlow s ls ps (fact_prices t s scale ys (fact_low scale ys))
    own = answer_there t s ls ps is scale ys narrow positive

    loose : IsLoose s 1 (flow_at t s ls ps scale ys)
    loose = free_loose s ls ps is.limited.limited.whole 1 (flow_at t s ls ps scale ys) own.best.flow

    value_small : (z : ℤ) → z <ℤ (pos 1 *ℤ pos (2 ^ 60)) → z ≤ℤ pos (2 ^ 60)
    value_small z h = omega (arith, ints)

    are_best : AreBest t s scale ys (parts_at t s ls ps scale ys)
    are_best = record {
      parts = are_parts s.moves (amounts_of s ls ps (fact_prices t s scale ys (fact_low scale ys))) is.limited.limited.whole.system.ascending own.amounts;
      flow = own.best.flow;
      small = value_small (value t s (flow_at t s ls ps scale ys)) (is.limited.limited.values 1 (flow_at t s ls ps scale ys) loose);
      totals = is.limited.totals (flow_at t s ls ps scale ys) loose;
      best = record {
        column = record { amounts = flow_at t s ls ps scale ys; flow = own.best.flow; is = refl };
        best = λ unit x flow.
            let a = own.best.best unit x flow in
            let p = prices_pay t s scale ys x in
            let q = multiplied_is (count x s.moves) s.claims.facts ys in
            let e = prices_pay t s scale ys (flow_at t s ls ps scale ys) in
            let f = multiplied_is (count (flow_at t s ls ps scale ys) s.moves) s.claims.facts ys in
            let w = own.best.total in
            let d : worth_at t s ls ps scale ys ≡ (pos scale *ℤ value t s (flow_at t s ls ps scale ys)) -ℤ multiplied ys (totals_of s.claims.facts (count (flow_at t s ls ps scale ys) s.moves)) = omega (arith, ints) in
            let g = ap (λ (z : ℤ). pos unit *ℤ z) d in omega (arith, ints);
      };
    }

  -- the answer whose parts are none where the worth is negative
  listed_best : (b : Bool) → int_lt (worth_at t s ls ps scale ys) (pos 0) ≡ b → pos 0 ≤ℤ worth_at t s ls ps scale ys → AreBest t s scale ys (cond b [] (parts_at t s ls ps scale ys))
  listed_best true e h = absurd (never (worth_at t s ls ps scale ys) e h)
    where
      never : (z : ℤ) → int_lt z (pos 0) ≡ true → pos 0 ≤ℤ z → ⊥
      never z e h = grind (arith, ints, nat_tests)
  listed_best false e h = are_best h

  certificate_accepted : (b : Bool) → int_lt (worth_at t s ls ps scale ys) (pos (scale * 2 ^ 60)) ≡ b → All IsSigned (fact_limits s.claims.facts ys) →
      IfSome (cond b (Some (fact_certificate t s ls ps scale ys (fact_low scale ys))) None) (λ c. IsInForm s.claims c × Accepts t s c)
  certificate_accepted true e signs = accepted_there t s ls ps is scale ys narrow some (low_of (worth_at t s ls ps scale ys) (pos (scale * 2 ^ 60)) e) (are_multipliers signs)
    where
      low_of : (a b : ℤ) → int_lt a b ≡ true → a <ℤ b
      low_of a b e = grind (arith, ints, nat_tests)
  certificate_accepted false e signs = tt

  pub is_answer : IsAnswer t s scale ys (answer_of t s ls ps scale ys)
  is_answer = record {
    best = λ positive. listed_best (int_lt (worth_at t s ls ps scale ys) (pos 0)) refl positive;
    accepted = λ signs. certificate_accepted (int_lt (worth_at t s ls ps scale ys) (pos (scale * 2 ^ 60))) refl signs;
  }

-- ---- what walks found, as an answer

abbrev answer_with : Option Cert → ℤ → List Part → Answer
answer_with o z us = record { cert = o; worth = z; parts = us }

pub answer_is : (t : Table) (s : System) (ls : List LoopShape) (ps : List Span) (scale : ℕ) (ys : List ℤ) (o : Option Cert) (z : ℤ) (us : List Part) → o ≡ certificate_at t s ls ps scale ys → z ≡ worth_at t s ls ps scale ys →
    us ≡ (if int_lt (worth_at t s ls ps scale ys) (pos 0) then [] else parts_at t s ls ps scale ys) → record { cert = o; worth = z; parts = us } ≡ answer_of t s ls ps scale ys
answer_is t s ls ps scale ys o z us e f g =
    ap (λ (x : Option Cert). answer_with x z us) e ∙ (ap (λ (y : ℤ). answer_with (certificate_at t s ls ps scale ys) y us) f ∙ ap (λ (vs : List Part). answer_with (certificate_at t s ls ps scale ys) (worth_at t s ls ps scale ys) vs) g)

module _ (t : Table) (s : System) (ls : List LoopShape) (ps : List Span) (scale : ℕ) (ys : List ℤ) where
  pub parts_none : worth_at t s ls ps scale ys <ℤ pos 0 → [] ≡ (if int_lt (worth_at t s ls ps scale ys) (pos 0) then [] else parts_at t s ls ps scale ys)
  parts_none h = sym (ap (λ (b : Bool). cond b [] (parts_at t s ls ps scale ys)) (test (worth_at t s ls ps scale ys) h))
    where
      test : (z : ℤ) → z <ℤ pos 0 → int_lt z (pos 0) ≡ true
      test z h = grind (arith, ints, nat_tests)

  pub parts_some : pos 0 ≤ℤ worth_at t s ls ps scale ys → parts_at t s ls ps scale ys ≡ (if int_lt (worth_at t s ls ps scale ys) (pos 0) then [] else parts_at t s ls ps scale ys)
  parts_some h = sym (ap (λ (b : Bool). cond b [] (parts_at t s ls ps scale ys)) (test (worth_at t s ls ps scale ys) h))
    where
      test : (z : ℤ) → pos 0 ≤ℤ z → int_lt z (pos 0) ≡ false
      test z h = grind (arith, ints, nat_tests)
