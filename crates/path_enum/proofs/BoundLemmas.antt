-- What a search begins with, and what is found without one.
use Rattle.std.proofs.Common.{◌≡◌, ℕ, zero, suc, ◌+◌, ◌*◌, ◌/◌, ◌≤◌, ◌^◌, ℤ, pos, ◌-ℤ◌, ◌*ℤ◌, ◌≤ℤ◌, ◌<ℤ◌, arith, refl, sym, ap, ◌∙◌, subst, List, [], ◌∷◌, length, All, unsigned_abs, Option}
use Rattle.std.specs.Prelude.{replicate, IfSome}
use lib.IntN.{negsuc}
use Rattle.std.proofs.Math.IntN.{zero-*ℤ}
use Rattle.std.proofs.lemmas.Int.{ints}
use Rattle.std.proofs.lemmas.List.Elements.{All-cons, All-nil, All-replicate}
use Rattle.rv_core.specs.Table.{Table}
use Rattle.wcc_base.specs.declared.compare.Compare.{Compare}
use Rattle.wcc_base.specs.declared.compare.Compare.TheVariants.{AtMost, AtLeast, Equal}
use Rattle.code_flow_system.specs.declared.cert.Cert.{Cert}
use Rattle.code_flow_system.specs.declared.cert.Mark.TheVariants as marks
use Rattle.code_flow_system.specs.declared.claims.FactClaim.{FactClaim}
use Rattle.code_flow_system.specs.declared.shapes.LoopShape.{LoopShape}
use Rattle.code_flow_system.specs.declared.shapes.Span.{Span}
use Rattle.code_flow_system.specs.Systems.{System}
use Rattle.code_flow_system.specs.Counts.{count}
use Rattle.code_flow_system.specs.Certificates.{fact_limits, FitsSign, IsSigned, whole_part, IsInForm, Accepts}
use Rattle.code_flow_answer.specs.declared.bounded.Bounded.{Bounded}
use Rattle.code_flow_answer.specs.declared.bounded.Column.{Column}
use Rattle.code_flow_answer.specs.declared.bounded.Kind.{Kind}
use Rattle.code_flow_answer.specs.declared.bounded.Kind.TheVariants as kinds
use Rattle.simplex_rounds.specs.declared.pricing.Multipliers.{Multipliers}
use Rattle.simplex_rounds.specs.Rounds.{IsColumnOf}
use Rattle.path_cert.specs.Priced.{fact_certificate, fact_low}
use Rattle.path_conditions.specs.Bounding.{CanBound}
use Rattle.path_search.specs.Kinds.{IsMarked}
use Rattle.path_conditions.specs.Searching.{CanSearch}
use Rattle.path_conditions.specs.Walking.{IsSearchable}
use Rattle.path_fact_kinds.specs.Columns.{totals_of, column_of, multiplied, weighed, IsBest}
use Rattle.path_fact_columns.specs.Conditions.{AreNarrow}
use Rattle.path_fact_columns.specs.Answers.{flow_at, worth_at}
use Rattle.path_fact_columns.specs.Adding.{AreAsked}
use Rattle.path_fact_kinds.specs.Kinds.{HasKind, HasColumns, IsFound}
use Rattle.path_enum.specs.declared.asking.Answered.{Answered}
use Rattle.path_enum.specs.Marks.{found, none}
use Rattle.path_enum.specs.Steps.{IsAccepted, IsBound, IsAnswered, IsBegun, IsNoLess}
use Rattle.path_enum.specs.Least.{HasLeast, IsLeast}
use Rattle.path_enum.proofs.StepLemmas.{worth_paid, certificate_there}
use Rattle.path_enum.proofs.NextLemmas.{best_value}

-- ---- without facts

pub can_bound : (t : Table) (s : System) (ls : List LoopShape) (ps : List Span) → CanSearch t s ls ps → s.claims.facts ≡ [] → CanBound t s ls ps
can_bound t s ls ps can e = record { fit = can.fit; facts = e; bounds = can.bounds; loose = can.loose; counts = can.counts }

module _ (t : Table) (s : System) where
  no_columns : HasColumns t s []
  no_columns = record { few = omega arith; none = λ e. refl; searched = λ h. absurd (h refl); each = All-nil (IsColumnOf (length s.claims.facts)) }

  plain_kind : (k : Kind) (c : Cert) → IsMarked k c.mark → HasKind t s [] c k
  plain_kind kinds.Greatest c h = h
  plain_kind kinds.Empty c h = h
  plain_kind (kinds.Wide pivot) c h = absurd h
  plain_kind (kinds.Spent columns pivots) c h = absurd h

  pub plain_found : (b : Bounded) → IsInForm s.claims b.cert → Accepts t s b.cert → IsMarked b.kind b.cert.mark → b.columns ≡ [] → IsFound t s b
  plain_found b f a m e = record {
    form = f;
    accepted = a;
    kind = subst (λ cs. HasKind t s cs b.cert b.kind) (sym e) (plain_kind b.kind b.cert m);
    columns = subst (HasColumns t s) (sym e) no_columns;
  }

  pub plain_least : (ls : List LoopShape) (ps : List Span) (b : Bounded) → IsMarked b.kind b.cert.mark → IsLeast t s ls ps b
  plain_least ls ps b m = by_kind b.kind m
    where
      by_kind : (k : Kind) → IsMarked k b.cert.mark → HasLeast t s ls ps b.columns b.cert k
      by_kind kinds.Greatest h = tt
      by_kind kinds.Empty h = tt
      by_kind (kinds.Wide pivot) h = absurd h
      by_kind (kinds.Spent columns pivots) h = absurd h

  -- ---- without a flow

  pub empty_found : (c : Cert) → IsAccepted t s c → c.mark ≡ marks.Empty → IsFound t s (found c kinds.Empty [])
  empty_found c a m = record { form = a.form; accepted = a.accepts; kind = m; columns = no_columns }

-- ---- no multipliers

zeros-long : (n : ℕ) → length (replicate n (pos 0)) ≡ n
zeros-long zero = refl
zeros-long (suc n) = ap suc (zeros-long n)

zeros_multiplied : (n : ℕ) (ts : List ℤ) → multiplied (replicate n (pos 0)) ts ≡ pos 0
zeros_multiplied zero ts = refl
zeros_multiplied (suc n) [] = refl
zeros_multiplied (suc n) (t ∷ ts) = let r = zeros_multiplied n ts in let z = zero-*ℤ t in omega (arith, ints)

fits_zero : (o : Compare) → FitsSign o (pos 0)
fits_zero AtMost = omega (arith, ints)
fits_zero AtLeast = omega (arith, ints)
fits_zero Equal = tt

zeros_signed : (fs : List FactClaim) (n : ℕ) → All IsSigned (fact_limits fs (replicate n (pos 0)))
zeros_signed [] n = All-nil IsSigned
zeros_signed (f ∷ fs) zero = All-nil IsSigned
zeros_signed (f ∷ fs) (suc n) = All-cons IsSigned _ (fact_limits fs (replicate n (pos 0))) (fits_zero f.op) (zeros_signed fs n)

whole_one : (z : ℤ) → pos 0 ≤ℤ z → pos (whole_part z 1) ≡ z
whole_one (pos n) h = ap pos (one n)
  where
    one : (n : ℕ) → n / 1 ≡ n
    one n = omega arith
whole_one (negsuc n) h = absurd (omega (arith, ints))

module _ (t : Table) (s : System) (ls : List LoopShape) (ps : List Span) (is : IsSearchable t s ls ps) (n : ℕ) (count_is : n ≡ length s.claims.facts) where
  pub none_narrow : AreNarrow s 1 (replicate n (pos 0))
  none_narrow = record {
    count = zeros-long n ∙ count_is;
    scaled = (let f = is.limited.limited.few in omega (arith, f));
    facts = All-replicate (λ y. unsigned_abs y * (length s.claims.loops + 1) ≤ 2 ^ 44) n (pos 0) (omega arith);
  }

  pub none_signed : All IsSigned (fact_limits s.claims.facts (replicate n (pos 0)))
  none_signed = zeros_signed s.claims.facts n

  weighed_same : (c : Column) → weighed 1 (replicate n (pos 0)) c ≡ weighed 1 [] c
  weighed_same c = ap (λ (z : ℤ). (pos 1 *ℤ c.value) -ℤ z) (zeros_multiplied n c.totals)

  pub first_best : (c : Column) → IsBest t s 1 (replicate n (pos 0)) c → IsBest t s 1 [] c
  first_best c h = record {
    column = h.column;
    best = λ unit x flow. subst (λ (z : ℤ). weighed 1 [] (column_of t s x) ≤ℤ (pos unit *ℤ z)) (weighed_same c) (subst (λ (z : ℤ). z ≤ℤ (pos unit *ℤ weighed 1 (replicate n (pos 0)) c)) (weighed_same (column_of t s x)) (h.best unit x flow));
  }

  module _ (a : Answered) (h : IsAnswered t s ls ps (none n) a) where
    worth : pos 0 ≤ℤ worth_at t s ls ps 1 (replicate n (pos 0))
    worth = subst (λ (z : ℤ). pos 0 ≤ℤ z) h.worth h.positive

    worth_value : worth_at t s ls ps 1 (replicate n (pos 0)) ≡ a.column.value
    worth_value =
        let p = worth_paid t s ls ps is 1 (replicate n (pos 0)) (omega arith) none_narrow worth in
        let z = zeros_multiplied n (totals_of s.claims.facts (count (flow_at t s ls ps 1 (replicate n (pos 0))) s.moves)) in
        let c = ap (λ (k : Column). k.value) h.column in omega (arith, ints)

    worth_below : worth_at t s ls ps 1 (replicate n (pos 0)) <ℤ pos (1 * 2 ^ 60)
    worth_below = let v = best_value t s ls ps is 1 (replicate n (pos 0)) a.column h.best in let w = worth_value in below (worth_at t s ls ps 1 (replicate n (pos 0))) a.column.value w v.1
      where
        below : (x y : ℤ) → x ≡ y → y <ℤ pos (2 ^ 60) → x <ℤ pos (1 * 2 ^ 60)
        below x y e lt = omega (arith, ints)

    at_most : (x y : ℤ) → x ≡ y → x ≤ℤ y
    at_most x y e = omega (arith, ints)

    pub begun : IsBegun t s ls ps a
    begun =
        let own = certificate_there t s ls ps is 1 (replicate n (pos 0)) (omega arith) none_narrow worth_below in
        let no_less = subst (λ (u : Multipliers). IsNoLess t s ls ps (fact_certificate t s ls ps 1 (replicate n (pos 0)) (fact_low 1 (replicate n (pos 0)))) u) (sym h.multipliers) (subst (λ (o : Option Cert). IfSome o (λ d. (fact_certificate t s ls ps 1 (replicate n (pos 0)) (fact_low 1 (replicate n (pos 0)))).cycles ≤ d.cycles)) (sym own) (omega arith)) in
        let cert = h.cert ∙ certificate_there t s ls ps is 1 (replicate n (pos 0)) (omega arith) none_narrow worth_below in record {
          best = first_best a.column h.best;
          asked = subst (AreAsked t s ls ps) (sym h.multipliers) (record { scale = omega arith; narrow = none_narrow; worth = worth });
          column = h.column ∙ ap (λ (u : Multipliers). column_of t s (flow_at t s ls ps u.scale u.facts)) (sym h.multipliers);
          each = h.each;
          bound = (fact_certificate t s ls ps 1 (replicate n (pos 0)) (fact_low 1 (replicate n (pos 0))), cert, subst (λ o. IfSome o (IsBound t s)) cert h.bound, at_most _ _ (whole_one (worth_at t s ls ps 1 (replicate n (pos 0))) worth ∙ worth_value), no_less);
        }
