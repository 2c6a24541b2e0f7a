-- Shares of the ranges of laid code hold each of its moves, and calls go where they begin.
use Rattle.std.proofs.Common.{◌≡◌, ℕ, zero, suc, ◌+◌, ◌<◌, ◌≤◌, Bool, true, false, List, [], ◌∷◌, length, map, Option, Some, None, refl, sym, ap, ◌∙◌, subst, All, arith, ⊎_elim}
use Rattle.std.specs.Prelude.{◌==◌, ◌&&◌, Contains, IfSome, if◌then◌else◌, is_some, slice_get}
use Rattle.std.proofs.lemmas.Bool.Decides.{nat_tests}
use Rattle.std.proofs.lemmas.List.Elements.{All-head, All-tail, All-weaker}
use Rattle.rv_core.specs.Table.{Table}
use Rattle.code_flow_system.specs.Certificates.{has_move}
use Rattle.code_flow_system.specs.Shapes.{BeginsEarlier, CallsEarlier, IsInOne, IsInSpan}
use Rattle.code_flow_system.specs.Systems.{System}
use Rattle.code_flow_system.specs.declared.cert.Part.{Part}
use Rattle.code_flow_system.specs.declared.moves.Move.{Move}
use Rattle.c_tree.specs.declared.expression.NameId.{NameId}
use Rattle.asm_items.specs.Placings.{Placing, start_of}
use Rattle.claims_definition.specs.ClaimLaws.{AreRanges, RangesAscend}
use Rattle.claims_definition.specs.Listed.{CodeRange, Laid, code_range, code_ranges, placing}
use Rattle.asm_graphs.specs.Laid.{span_of, spans_from}
use Rattle.claims_lists.specs.Lists.{range_of}
use Rattle.claims_lists.specs.declared.ranges.CodeRange as ranges
use Rattle.low_ir.specs.Formed.{opening}
use Rattle.asm_program.specs.Functions.{function_in}
use Rattle.compile_claims.specs.Shares.{name_by, named}
use Rattle.report_shares.specs.Shares.{SharesFit, begins, call_target, holders, target_by}
use Rattle.compile_report_law.proofs.Openings.{Opens}
use Rattle.compile_report_law.proofs.Ranges.{begun_at, each_sum, one_holds, shares}

-- the span that holds an address
pub record Spanned (p : Placing) (limit a : ℕ) : Type 0 where
  pub function : ℕ
  pub below : function < limit
  pub inside : IsInSpan (span_of p function) a

spanned : (p : Placing) (f n a : ℕ) → IsInOne (spans_from p f n) a → Spanned p (f + n) a
spanned p f zero a h = absurd h
spanned p f (suc n) a h = ⊎_elim
    (λ (here : IsInSpan (span_of p f) a). record { function = f; below = omega arith; inside = here })
    (λ (more : IsInOne (spans_from p (suc f) n) a). let s = spanned p (suc f) n a more in let lt = s.below in record { function = s.function; below = omega (arith, lt); inside = s.inside })
    h

-- a span that begins at an address, and isn't the last one
pub record Begun (p : Placing) (limit a : ℕ) : Type 0 where
  pub function : ℕ
  pub below : function + 1 < limit
  pub is : start_of p function 0 ≡ a

begun_earlier : (p : Placing) (f n target a : ℕ) → BeginsEarlier (spans_from p f n) target a → Begun p (f + n) target
begun_earlier p f zero target a h = absurd h
begun_earlier p f (suc n) target a h = ⊎_elim
    (λ (here : ((span_of p f).first ≡ target) × IsInOne (spans_from p (suc f) n) a). let s = spanned p (suc f) n a here.1 in first n here.0 here.1)
    (λ (more : BeginsEarlier (spans_from p (suc f) n) target a). let s = begun_earlier p (suc f) n target a more in let lt = s.below in record { function = s.function; below = omega (arith, lt); is = s.is })
    h
  where
    first : (n : ℕ) → (span_of p f).first ≡ target → IsInOne (spans_from p (suc f) n) a → Begun p (f + suc n) target
    first zero e one = absurd one
    first (suc n) e one = record { function = f; below = omega arith; is = e }

-- what holds where moves lie holds where a listed one lies
of_move : (P : ℕ → Type 0) (ms : List Move) (a k : ℕ) → has_move ms a k ≡ true → All (λ m. P m.at) ms → P a
of_move P [] a k h all = cc
of_move P (m ∷ ms) a k h all = of (m.at == a) (m.number == k) refl (λ rest. of_move P ms a k rest (All-tail (λ (m : Move). P m.at) m ms all)) h
  where
    same : (m.at == a) ≡ true → m.at ≡ a
    same e = grind (arith, nat_tests)

    of : (x y : Bool) → (m.at == a) ≡ x → (has_move ms a k ≡ true → P a) → (if x && y then true else has_move ms a k) ≡ true → P a
    of true true e later h = subst P (same e) (All-head (λ (m : Move). P m.at) m ms all)
    of true false e later h = later h
    of false y e later h = later h

module _ (names : List (List ℕ)) (functions : List NameId) (t : Table) (s : System) (parts : List Part) (l : Laid) (rs : List ranges.CodeRange) (same : map range_of rs ≡ code_ranges l) (are : AreRanges l) where
  rising : RangesAscend 0 (map range_of rs)
  rising = subst (RangesAscend 0) (sym same) are.ascend

  own_range : (f : ℕ) → f ≤ length l.program.functions → Contains (map range_of rs) (code_range l f)
  own_range f le = subst (λ cs. Contains cs (code_range l f)) (sym same) (are.every f le)

  -- an address in a span lies in one share
  held_in : (a : ℕ) → IsInOne (spans_from (placing l) 0 (suc (length l.program.functions))) a → holders (shares names functions t s parts rs) a ≡ 1
  held_in a h =
      let n = length l.program.functions in
      let p = spanned (placing l) 0 (suc n) a h in
      let f = p.function in
      let lt = p.below in
      let within : f ≤ n = omega (arith, lt) in
      let begins = are.begins f within in
      let from = p.inside.from in
      one_holds names functions t s parts a 0 rs (code_range l f) rising (own_range f within) (subst (λ x. x ≤ a) (sym begins) from) p.inside.below

  has_name : (f : ℕ) → Opens (function_in l.program f) (length functions) → is_some (named names functions (opening (function_in l.program f))) ≡ true
  has_name f h = ap (λ o. is_some (named names functions o)) h.opens ∙ some functions h.number h.below
    where
      some : (ids : List NameId) (k : ℕ) → k < length ids → is_some (name_by names functions (slice_get ids k)) ≡ true
      some [] k lt = absurd (omega (arith, lt))
      some (id ∷ ids) zero lt = refl
      some (id ∷ ids) (suc k) lt = some ids k (omega (arith, lt))

  module _ (opens : (f : ℕ) → f < length l.program.functions → Opens (function_in l.program f) (length functions)) where
    begun_in : (target a : ℕ) → BeginsEarlier (spans_from (placing l) 0 (suc (length l.program.functions))) target a → begins (shares names functions t s parts rs) target ≡ true
    begun_in target a h =
        let n = length l.program.functions in
        let p = begun_earlier (placing l) 0 (suc n) target a h in
        let f = p.function in
        let lt = p.below in
        let within : f ≤ n = omega (arith, lt) in
        begun_at names functions t s parts rs (code_range l f) target (own_range f within) (are.begins f within ∙ p.is) (has_name f (opens f (omega (arith, lt))))

    begun_by : (m : Move) → CallsEarlier (spans_from (placing l) 0 (suc (length l.program.functions))) m → (to behind : Option ℕ) → m.to ≡ to → m.behind ≡ behind → IfSome (target_by behind to) (λ a. begins (shares names functions t s parts rs) a ≡ true)
    begun_by m h to None is_to is_behind = tt
    begun_by m h None (Some back) is_to is_behind = tt
    begun_by m h (Some target) (Some back) is_to is_behind = begun_in target m.at (h target back is_to is_behind)

    pub shares_fit : All (λ m. IsInOne (spans_from (placing l) 0 (suc (length l.program.functions))) m.at) s.moves → All (CallsEarlier (spans_from (placing l) 0 (suc (length l.program.functions)))) s.moves
        → All (λ p. has_move s.moves p.at p.number ≡ true) parts → SharesFit t s parts (shares names functions t s parts rs)
    shares_fit covered calls listed =
        let spans = spans_from (placing l) 0 (suc (length l.program.functions)) in
        let hs = shares names functions t s parts rs in
        record {
          held = All-weaker (λ (p : Part). has_move s.moves p.at p.number ≡ true) (λ (p : Part). holders hs p.at ≡ 1) (λ p h. held_in p.at (of_move (IsInOne spans) s.moves p.at p.number h covered)) parts listed;
          begun = All-weaker (CallsEarlier spans) (λ (m : Move). IfSome (call_target m) (λ a. begins hs a ≡ true)) (λ m h. begun_by m h m.to m.behind refl refl) s.moves calls;
          sums = each_sum names functions t s parts rs;
        }
