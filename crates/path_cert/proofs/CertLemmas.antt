-- The certificate of the walks: each row of the checker holds of it.
use Rattle.std.proofs.Common.{◌≡◌, ℕ, ◌+◌, ◌*◌, ◌^◌, ◌<◌, ◌≤◌, ℤ, pos, neg_ℤ, ◌*ℤ◌, ◌≤ℤ◌, ◌<ℤ◌, arith, refl, sym, ap, ◌∙◌, subst, List, [], ◌∷◌, ◌++◌, length, Contains, All, Bool, true, false, cond}
use Rattle.std.specs.Int.RustNames.{int_lt}
use Rattle.std.proofs.lemmas.Int.{ints}
use Rattle.std.proofs.lemmas.Bool.Decides.{nat_tests}
use Rattle.std.proofs.lemmas.List.Elements.{All-contains, All-nil}
use Rattle.frac128.specs.Terms.{coefficient}
use Rattle.rv_core.specs.Table.{Table}
use Rattle.code_flow_system.specs.declared.claims.FactClaim.{FactClaim}
use Rattle.code_flow_system.specs.declared.cert.Cert.{Cert}
use Rattle.code_flow_system.specs.declared.cert.Mark.{Mark}
use Rattle.code_flow_system.specs.declared.cert.Mark.TheVariants.{Greatest, Empty}
use Rattle.code_flow_system.specs.declared.moves.Move.{Move}
use Rattle.code_flow_system.specs.declared.shapes.LoopShape.{LoopShape}
use Rattle.code_flow_system.specs.declared.shapes.Span.{Span}
use Rattle.code_flow_system.specs.Systems.{System}
use Rattle.code_flow_system.specs.MoveCosts.{move_cost}
use Rattle.code_flow_system.specs.Flows.{IsFlow, value}
use Rattle.code_flow_system.specs.Certificates.{Limit, never_limits, loop_limits, fact_limits, limits, IsSigned, IsCovered, scaled_price, potential, whole_part, listed, KeepsMark, Accepts, IsPart, PartsAscend, IsSmall, FitsMark, IsInForm}
use Rattle.code_flow_system.specs.Bounds.{IsDual}
use Rattle.path_places.specs.PlaceLaws.{IsReachedWhole}
use Rattle.path_places.specs.Driver.{Prices}
use Rattle.path_places.specs.Duals.{Values, final_level, final_pairs, values_of, owe_of, dual_of}
use Rattle.path_places.proofs.PotentialLemmas.{all_of, given_moves}
use Rattle.path_places.proofs.RowLemmas.{alongside, final_priced, potential_place, walks_dual}
use Rattle.path_flows.specs.Flows.{amounts_of, parts_of}
use Rattle.path_flows.specs.CountLaws.{IsOpenSystem}
use Rattle.path_flows.proofs.KeepLemmas.{all_keep}
use Rattle.path_cert.proofs.MoveLemmas.{all_reached}
use Rattle.path_cert.specs.Certificates.{entry_worth, certificate_with, costs_of, certificate_of}
use Rattle.path_cert.specs.Ranges.{HasRanges}
use Rattle.path_cert.proofs.LongLemmas.{loops_long, nevers_long}
use Rattle.path_cert.proofs.PartLemmas.{potentials_ascend, parts_ascend, parts_positive, parts_there, parts_are}
use Rattle.path_cert.specs.Accepted.{HasFlowRanges, IsOpenFlow, CertificatesAreAccepted}

fact_none : (cs : List FactClaim) → fact_limits cs [] ≡ []
fact_none [] = refl
fact_none (c ∷ cs) = refl

append_none : (xs : List Limit) → xs ++ [] ≡ xs
append_none [] = refl
append_none (x ∷ xs) = ap (λ ys. x ∷ ys) (append_none xs)

pub below_zero : (n : ℕ) → neg_ℤ (pos n) ≤ℤ pos 0
below_zero n = omega (arith, ints)

times_one : (n : ℕ) → n * 1 ≡ n
times_one n = omega arith

module _ (t : Table) (s : System) (ls : List LoopShape) (ps : List Span) (whole : IsReachedWhole s ls ps) (facts : s.claims.facts ≡ []) where
  abbrev q : Prices
  q = costs_of t s

  abbrev x : Values
  x = values_of s ls ps (costs_of t s)

  abbrev pub cert : Mark → Cert
  cert m = certificate_with m s (costs_of t s) (values_of s ls ps (costs_of t s)) (amounts_of s ls ps (costs_of t s))

  negative : (costs_of t s).low ≤ℤ pos 0
  negative = below_zero (2 ^ 62)

  dual : IsDual s (dual_of s (costs_of t s).of (values_of s ls ps (costs_of t s)))
  dual = walks_dual s ls ps whole (costs_of t s) negative

  pub limits_same : (m : Mark) → limits s.claims (cert m) ≡ (dual_of s (costs_of t s).of (values_of s ls ps (costs_of t s))).limits
  limits_same m =
      ap (λ ks. never_limits s.claims.nevers (cert m).nevers ++ (loop_limits s.claims.loops (cert m).loops ++ ks)) (fact_none s.claims.facts)
      ∙ ap (λ ks. never_limits s.claims.nevers (cert m).nevers ++ ks) (append_none (loop_limits s.claims.loops (cert m).loops))

  pub price_same : (m : Mark) (k : Move) → scaled_price t s (cert m) k ≡ (costs_of t s).of k
  price_same m k = ap pos (times_one (move_cost t s k))

  row : (m : Mark) (k : Move) → Contains s.moves k → IsCovered (scaled_price t s (cert m)) (potential (cert m)) (limits s.claims (cert m)) k
  row m k ik =
      let r = All-contains (IsCovered (costs_of t s).of (coefficient (dual_of s (costs_of t s).of (values_of s ls ps (costs_of t s))).potentials) (dual_of s (costs_of t s).of (values_of s ls ps (costs_of t s))).limits) s.moves k dual.rows ik in
      subst (λ js. IsCovered (scaled_price t s (cert m)) (potential (cert m)) js k) (sym (limits_same m))
      (let e = price_same m k in omega (arith, ints))

  pub entry_is : (m : Mark) → potential (cert m) s.entry ≡ entry_worth s (values_of s ls ps (costs_of t s))
  entry_is m = potential_place s ls ps whole (costs_of t s) s.entry whole.system.entry

  accepts : (m : Mark) → HasRanges t s (cert m) → KeepsMark m t s (cert m) → Accepts t s (cert m)
  accepts m ranges mark = record {
    present = given_moves s whole.system (final_level s ls ps (costs_of t s)).worths;
    signs = subst (λ js. All IsSigned js) (sym (limits_same m)) dual.signs;
    narrow = ranges.rows;
    rows = all_of (IsCovered (scaled_price t s (cert m)) (potential (cert m)) (limits s.claims (cert m))) s.moves (row m);
    value = ap (λ z. whole_part z 1) (sym (entry_is m));
    mark = mark;
  }

  in_form : (m : Mark) → HasRanges t s (cert m) → FitsMark m (cert m).flow.unit (cert m).flow.parts → All IsPart (cert m).flow.parts → PartsAscend (cert m).flow.parts → IsInForm s.claims (cert m)
  in_form m ranges fits parts ascend = record {
    nevers = nevers_long (owe_of s (costs_of t s).of (values_of s ls ps (costs_of t s))) s.claims.nevers;
    loops = loops_long (owe_of s (costs_of t s).of (values_of s ls ps (costs_of t s))) s.claims.loops (final_pairs s ls ps (costs_of t s)) (alongside s ls ps whole (costs_of t s) s.claims.loops ls (final_pairs s ls ps (costs_of t s)) (final_priced s ls ps whole (costs_of t s) negative));
    facts = sym (ap length facts);
    cycles = ranges.cycles;
    scale = (omega arith, omega arith);
    ascending = potentials_ascend s.moves (final_level s ls ps (costs_of t s)).worths s.moves whole.system.ascending;
    potentials = ranges.potentials;
    small_nevers = ranges.nevers;
    small_loops = ranges.loops;
    small_facts = All-nil IsSmall;
    parts = parts;
    parts_ascend = ascend;
    unit = fits;
  }

  -- ---- no flow

  empty : int_lt (entry_worth s (values_of s ls ps (costs_of t s))) (pos 0) ≡ true → HasRanges t s (cert Empty) → IsInForm s.claims (cert Empty) × Accepts t s (cert Empty)
  empty e ranges = (
    in_form Empty ranges (refl, refl) (All-nil IsPart) tt,
    accepts Empty ranges (let p = entry_is Empty in let n = below e in omega (arith, ints)),
  )
    where
      below : int_lt (entry_worth s (values_of s ls ps (costs_of t s))) (pos 0) ≡ true → entry_worth s (values_of s ls ps (costs_of t s)) <ℤ pos 0
      below e = grind (arith, ints, nat_tests)

  -- ---- the greatest flow

  greatest : (least : ℤ) → IsOpenSystem s ls ps (costs_of t s) least → HasRanges t s (cert Greatest) → HasFlowRanges t s (cert Greatest) → IsInForm s.claims (cert Greatest) × Accepts t s (cert Greatest)
  greatest least is ranges flow = (
    in_form Greatest ranges (omega arith, omega arith) (parts_are (parts_of s.moves us) (parts_positive s.moves us) flow.parts) (parts_ascend s.moves us whole.system.ascending),
    accepts Greatest ranges (record {
      in_system = parts_there s.moves us;
      balanced = λ a. record { equal = keeps.conserved a; narrow = flow.balances a };
      claims = keeps.claims;
      claims_narrow = flow.claims;
      reached = ap (λ (z : ℤ). pos 1 *ℤ z) (reached ∙ sym (entry_is Greatest));
      narrow = flow.value;
    }),
  )
    where
      us : List ℕ
      us = amounts_of s ls ps (costs_of t s)

      keeps : IsFlow s 1 (listed (parts_of s.moves (amounts_of s ls ps (costs_of t s))))
      keeps = all_keep s ls ps whole (costs_of t s) least is

      reached : value t s (listed (parts_of s.moves (amounts_of s ls ps (costs_of t s)))) ≡ entry_worth s (values_of s ls ps (costs_of t s))
      reached = all_reached s ls ps whole (costs_of t s) least is

  accepted : HasRanges t s (certificate_of t s ls ps) → (pos 0 ≤ℤ entry_worth s (values_of s ls ps (costs_of t s)) → IsOpenFlow t s ls ps) → IsInForm s.claims (certificate_of t s ls ps) × Accepts t s (certificate_of t s ls ps)
  accepted ranges flow = by_sign (int_lt (entry_worth s (values_of s ls ps (costs_of t s))) (pos 0)) refl ranges
    where
      at_least : int_lt (entry_worth s (values_of s ls ps (costs_of t s))) (pos 0) ≡ false → pos 0 ≤ℤ entry_worth s (values_of s ls ps (costs_of t s))
      at_least e = grind (arith, ints, nat_tests)

      by_sign : (b : Bool) → int_lt (entry_worth s (values_of s ls ps (costs_of t s))) (pos 0) ≡ b → HasRanges t s (cert (cond b Empty Greatest)) → IsInForm s.claims (cert (cond b Empty Greatest)) × Accepts t s (cert (cond b Empty Greatest))
      by_sign true e ranges = empty e ranges
      by_sign false e ranges = let o = flow (at_least e) in greatest o.least o.system ranges (subst (λ m. HasFlowRanges t s (cert m)) (ap (λ b. cond b Empty Greatest) e) o.ranges)

pub all_accepted : (t : Table) (s : System) (ls : List LoopShape) (ps : List Span) → IsReachedWhole s ls ps → CertificatesAreAccepted t s ls ps
all_accepted t s ls ps whole facts ranges flow = accepted t s ls ps whole facts ranges flow
