-- Counts keep the claims, in narrow sums, exactly where no claim fails.
use Rattle.std.proofs.Common.{◌≡◌, ℕ, ◌+◌, ◌≤◌, ◌<◌, ◌^◌, ℤ, pos, neg_ℤ, ◌+ℤ◌, ◌-ℤ◌, ◌*ℤ◌, ◌≤ℤ◌, arith, refl, sym, ap, ◌∙◌, List, [], ◌∷◌, ◌++◌, length, All, Bool, true, false, Option, Some, None, unsigned_abs, IfSome}
use Rattle.std.specs.Ordering.{int_eq}
use Rattle.std.specs.Prelude.{◌||◌, not, nat_le, IsNone, ◌↔◌}
use Rattle.std.proofs.lemmas.Int.{ints}
use Rattle.std.proofs.lemmas.Bool.Decides.{nat_tests}
use Rattle.std.proofs.lemmas.List.Elements.{All-head, All-tail, All-cons, All-nil, All-append}
use Rattle.frac128.specs.Terms.{Terms, applied, int_sum_by}
use Rattle.frac128.proofs.SignedLemmas.{mul-sub, add-mul, neg-mul}
use Rattle.frac128.proofs.TermsLemmas.{applied-append}
use Rattle.wcc_base.specs.declared.compare.Compare.{Compare}
use Rattle.wcc_base.specs.declared.compare.Compare.TheVariants.{AtMost, AtLeast, Equal}
use Rattle.code_flow_system.specs.declared.claims.Never.{Never}
use Rattle.code_flow_system.specs.declared.claims.LoopClaim.{LoopClaim}
use Rattle.code_flow_system.specs.declared.claims.FactClaim.{FactClaim}
use Rattle.code_flow_system.specs.declared.cert.Cert.{Cert}
use Rattle.code_flow_system.specs.Systems.{System}
use Rattle.code_flow_system.specs.Counts.{KeepsNever, KeepsLoop, Compares, KeepsFact}
use Rattle.code_flow_system.specs.Certificates.{Limit, never_limits, loop_limits, fact_limits, least_limit, most_limit, least_terms, most_terms, negated, size_by, IsNarrow, IsInForm}
use Rattle.code_flow_system.proofs.LimitLemmas.{applied-negated}
use Rattle.dual_check.specs.declared.running.Running.{Running}
use Rattle.dual_check.specs.Rows.{earlier, first_failing, breaks, fails_limit, fails_never, fails_loop, fails_fact, first_unmet, counts, AreMet, nevers_from, loops_from, facts_from}
use Rattle.dual_check.specs.Tests.{breaks_sum}
use Rattle.dual_check.proofs.SignLemmas.{earlier_none, none_of_both, or_false, neither, none_fails, all_pass, not_negative, no_negative, not_positive, no_positive, append_left, append_right}

is_zero : (v : ℤ) → not (int_eq v (pos 0)) ≡ false → v ≡ pos 0
is_zero v e = grind (arith, ints)

zero_is : (v : ℤ) → v ≡ pos 0 → not (int_eq v (pos 0)) ≡ false
zero_is v e = grind (arith, ints)

compares : (op : Compare) (v : ℤ) → breaks op v ≡ false → Compares op v (pos 0)
compares AtMost v e = not_positive v e
compares AtLeast v e = not_negative v e
compares Equal v e = is_zero v e

unbroken : (op : Compare) (v : ℤ) → Compares op v (pos 0) → breaks op v ≡ false
unbroken AtMost v h = no_positive v h
unbroken AtLeast v h = no_negative v h
unbroken Equal v h = zero_is v h

narrow_by : (n : ℕ) → nat_le (2 ^ 126) n ≡ false → n < 2 ^ 126
narrow_by n e = grind (arith, nat_tests)

by_narrow : (n : ℕ) → n < 2 ^ 126 → nat_le (2 ^ 126) n ≡ false
by_narrow n h = grind (arith, nat_tests)

wide_by : (n : ℕ) → 2 ^ 126 ≤ n → nat_le (2 ^ 126) n ≡ true
wide_by n h = grind (arith, nat_tests)

-- a limit's sum is narrow
abbrev pub IsNarrowLimit : (ℕ → ℤ) → Limit → Type 0
IsNarrowLimit n l = IsNarrow (size_by (λ t. t.1 *ℤ n t.0) l.terms)

abbrev never_limit : Never → ℤ → Limit
never_limit c w = record { terms = (c.at, pos 1) ∷ []; op = AtMost; by = w }

abbrev fact_limit : FactClaim → ℤ → Limit
fact_limit c w = record { terms = c.left ++ negated c.right; op = c.op; by = w }

module _ (n : ℕ → ℤ) where
  passes : (op : Compare) (ts : Terms) → fails_limit n op ts ≡ false → IsNarrow (size_by (λ t. t.1 *ℤ n t.0) ts) × Compares op (applied ts n) (pos 0)
  passes op ts e = let o = or_false (nat_le (2 ^ 126) (size_by (λ t. t.1 *ℤ n t.0) ts)) (breaks op (applied ts n)) e in (narrow_by _ o.0, compares op (applied ts n) o.1)

  passed : (op : Compare) (ts : Terms) → IsNarrow (size_by (λ t. t.1 *ℤ n t.0) ts) → Compares op (applied ts n) (pos 0) → fails_limit n op ts ≡ false
  passed op ts h k = neither (nat_le (2 ^ 126) (size_by (λ t. t.1 *ℤ n t.0) ts)) (breaks op (applied ts n)) (by_narrow _ h) (unbroken op (applied ts n) k)

  -- what the code's sum says
  pub breaks_is : (op : Compare) (ts : Terms) (o : Option Running) → IsNone o ↔ (2 ^ 126 ≤ size_by (λ t. t.1 *ℤ n t.0) ts) → IfSome o (λ r. r.total ≡ applied ts n) → breaks_sum op o ≡ fails_limit n op ts
  breaks_is op ts None none total = ap (λ (b : Bool). b || breaks op (applied ts n)) (sym (wide_by _ (none.0 refl)))
  breaks_is op ts (Some r) none total =
      ap (breaks op) total
      ∙ ap (λ (b : Bool). b || breaks op (applied ts n)) (sym (by_test (nat_le (2 ^ 126) (size_by (λ t. t.1 *ℤ n t.0) ts)) refl))
    where
      by_test : (b : Bool) → nat_le (2 ^ 126) (size_by (λ t. t.1 *ℤ n t.0) ts) ≡ b → nat_le (2 ^ 126) (size_by (λ t. t.1 *ℤ n t.0) ts) ≡ false
      by_test false e = e
      by_test true e = let h = none.1 (wide_from _ e) in cc
        where
          wide_from : (k : ℕ) → nat_le (2 ^ 126) k ≡ true → 2 ^ 126 ≤ k
          wide_from k e = grind (arith, nat_tests)

  -- never claims

  nevers_met : (cs : List Never) (ws : List ℤ) → ((a : ℕ) → pos 0 ≤ℤ n a) → All (λ c. fails_never n c ≡ false) cs → All (KeepsNever n) cs × All (IsNarrowLimit n) (never_limits cs ws)
  nevers_met [] ws p h = (All-nil _, All-nil _)
  nevers_met (c ∷ cs) [] p h =
      let s = passes AtMost ((c.at, pos 1) ∷ []) (All-head (λ c. fails_never n c ≡ false) c cs h) in
      let r = nevers_met cs [] p (All-tail (λ c. fails_never n c ≡ false) c cs h) in
      (All-cons (KeepsNever n) c cs (let k = s.1 in let q = p c.at in omega (arith, ints)) r.0, All-nil _)
  nevers_met (c ∷ cs) (w ∷ ws) p h =
      let s = passes AtMost ((c.at, pos 1) ∷ []) (All-head (λ c. fails_never n c ≡ false) c cs h) in
      let r = nevers_met cs ws p (All-tail (λ c. fails_never n c ≡ false) c cs h) in
      (All-cons (KeepsNever n) c cs (let k = s.1 in let q = p c.at in omega (arith, ints)) r.0, All-cons (IsNarrowLimit n) (never_limit c w) (never_limits cs ws) s.0 r.1)

  met_nevers : (cs : List Never) (ws : List ℤ) → length ws ≡ length cs → All (KeepsNever n) cs → All (IsNarrowLimit n) (never_limits cs ws) → All (λ c. fails_never n c ≡ false) cs
  met_nevers [] ws e h k = All-nil _
  met_nevers (c ∷ cs) [] e h k = absurd (omega (arith, e))
  met_nevers (c ∷ cs) (w ∷ ws) e h k =
      All-cons (λ c. fails_never n c ≡ false) c cs
      (passed AtMost ((c.at, pos 1) ∷ []) (All-head (IsNarrowLimit n) (never_limit c w) (never_limits cs ws) k) (let z = All-head (KeepsNever n) c cs h in omega (arith, ints)))
      (met_nevers cs ws (omega (arith, e)) (All-tail (KeepsNever n) c cs h) (All-tail (IsNarrowLimit n) (never_limit c w) (never_limits cs ws) k))

  -- loops

  least_is : (c : LoopClaim) → applied (least_terms c) n ≡ (pos c.min *ℤ (n c.header -ℤ n c.back)) -ℤ n c.header
  least_is c =
      let e1 = mul-sub (pos c.min) (n c.header) (n c.back) in
      let e2 = add-mul (pos c.min) (neg_ℤ (pos 1)) (n c.header) in
      let e3 = neg-mul (pos c.min) (n c.back) in omega (arith, ints)

  most_is : (c : LoopClaim) → applied (most_terms c) n ≡ n c.header -ℤ (pos c.max *ℤ (n c.header -ℤ n c.back))
  most_is c =
      let e1 = mul-sub (pos c.max) (n c.header) (n c.back) in
      let e2 = add-mul (pos 1) (neg_ℤ (pos c.max)) (n c.header) in
      let e3 = neg-mul (pos c.max) (n c.header) in omega (arith, ints)

  loop_keeps : (c : LoopClaim) → applied (least_terms c) n ≤ℤ pos 0 → applied (most_terms c) n ≤ℤ pos 0 → KeepsLoop n c
  loop_keeps c h k = record { least = (let e = least_is c in omega (arith, ints)); most = (let e = most_is c in omega (arith, ints)) }

  least_kept : (c : LoopClaim) → KeepsLoop n c → applied (least_terms c) n ≤ℤ pos 0
  least_kept c h = let e = least_is c in let k = h.least in omega (arith, ints)

  most_kept : (c : LoopClaim) → KeepsLoop n c → applied (most_terms c) n ≤ℤ pos 0
  most_kept c h = let e = most_is c in let k = h.most in omega (arith, ints)

  loop_passes : (c : LoopClaim) → fails_loop n c ≡ false → KeepsLoop n c × IsNarrow (size_by (λ t. t.1 *ℤ n t.0) (least_terms c)) × IsNarrow (size_by (λ t. t.1 *ℤ n t.0) (most_terms c))
  loop_passes c e =
      let o = or_false (fails_limit n AtMost (least_terms c)) (fails_limit n AtMost (most_terms c)) e in
      let s = passes AtMost (least_terms c) o.0 in
      let t = passes AtMost (most_terms c) o.1 in (loop_keeps c s.1 t.1, s.0, t.0)

  loops_met : (cs : List LoopClaim) (ws : List (ℤ × ℤ)) → All (λ c. fails_loop n c ≡ false) cs → All (KeepsLoop n) cs × All (IsNarrowLimit n) (loop_limits cs ws)
  loops_met [] ws h = (All-nil _, All-nil _)
  loops_met (c ∷ cs) [] h =
      let k = loop_passes c (All-head (λ c. fails_loop n c ≡ false) c cs h) in
      let r = loops_met cs [] (All-tail (λ c. fails_loop n c ≡ false) c cs h) in (All-cons (KeepsLoop n) c cs k.0 r.0, All-nil _)
  loops_met (c ∷ cs) (w ∷ ws) h =
      let k = loop_passes c (All-head (λ c. fails_loop n c ≡ false) c cs h) in
      let r = loops_met cs ws (All-tail (λ c. fails_loop n c ≡ false) c cs h) in
      (All-cons (KeepsLoop n) c cs k.0 r.0, All-cons (IsNarrowLimit n) (least_limit c w.0) (most_limit c w.1 ∷ loop_limits cs ws) k.1 (All-cons (IsNarrowLimit n) (most_limit c w.1) (loop_limits cs ws) k.2 r.1))

  met_loops : (cs : List LoopClaim) (ws : List (ℤ × ℤ)) → length ws ≡ length cs → All (KeepsLoop n) cs → All (IsNarrowLimit n) (loop_limits cs ws) → All (λ c. fails_loop n c ≡ false) cs
  met_loops [] ws e h k = All-nil _
  met_loops (c ∷ cs) [] e h k = absurd (omega (arith, e))
  met_loops (c ∷ cs) (w ∷ ws) e h k =
      let keeps = All-head (KeepsLoop n) c cs h in
      let rest = All-tail (IsNarrowLimit n) (least_limit c w.0) (most_limit c w.1 ∷ loop_limits cs ws) k in
      All-cons (λ c. fails_loop n c ≡ false) c cs
      (neither (fails_limit n AtMost (least_terms c)) (fails_limit n AtMost (most_terms c))
      (passed AtMost (least_terms c) (All-head (IsNarrowLimit n) (least_limit c w.0) (most_limit c w.1 ∷ loop_limits cs ws) k) (least_kept c keeps))
      (passed AtMost (most_terms c) (All-head (IsNarrowLimit n) (most_limit c w.1) (loop_limits cs ws) rest) (most_kept c keeps)))
      (met_loops cs ws (omega (arith, e)) (All-tail (KeepsLoop n) c cs h) (All-tail (IsNarrowLimit n) (most_limit c w.1) (loop_limits cs ws) rest))

  -- facts

  difference_is : (c : FactClaim) → applied (c.left ++ negated c.right) n ≡ applied c.left n -ℤ applied c.right n
  difference_is c = let e = applied-append c.left (negated c.right) n in let f = applied-negated c.right n in omega (arith, ints)

  fact_keeps : (op : Compare) (a b t : ℤ) → t ≡ a -ℤ b → Compares op t (pos 0) → Compares op a b
  fact_keeps AtMost a b t e h = omega (arith, ints)
  fact_keeps AtLeast a b t e h = omega (arith, ints)
  fact_keeps Equal a b t e h = omega (arith, ints)

  fact_kept : (op : Compare) (a b t : ℤ) → t ≡ a -ℤ b → Compares op a b → Compares op t (pos 0)
  fact_kept AtMost a b t e h = omega (arith, ints)
  fact_kept AtLeast a b t e h = omega (arith, ints)
  fact_kept Equal a b t e h = omega (arith, ints)

  fact_passes : (c : FactClaim) → fails_fact n c ≡ false → KeepsFact n c × IsNarrow (size_by (λ t. t.1 *ℤ n t.0) (c.left ++ negated c.right))
  fact_passes c e = let s = passes c.op (c.left ++ negated c.right) e in (fact_keeps c.op (applied c.left n) (applied c.right n) _ (difference_is c) s.1, s.0)

  facts_met : (cs : List FactClaim) (ws : List ℤ) → All (λ c. fails_fact n c ≡ false) cs → All (KeepsFact n) cs × All (IsNarrowLimit n) (fact_limits cs ws)
  facts_met [] ws h = (All-nil _, All-nil _)
  facts_met (c ∷ cs) [] h =
      let k = fact_passes c (All-head (λ c. fails_fact n c ≡ false) c cs h) in
      let r = facts_met cs [] (All-tail (λ c. fails_fact n c ≡ false) c cs h) in (All-cons (KeepsFact n) c cs k.0 r.0, All-nil _)
  facts_met (c ∷ cs) (w ∷ ws) h =
      let k = fact_passes c (All-head (λ c. fails_fact n c ≡ false) c cs h) in
      let r = facts_met cs ws (All-tail (λ c. fails_fact n c ≡ false) c cs h) in (All-cons (KeepsFact n) c cs k.0 r.0, All-cons (IsNarrowLimit n) (fact_limit c w) (fact_limits cs ws) k.1 r.1)

  met_facts : (cs : List FactClaim) (ws : List ℤ) → length ws ≡ length cs → All (KeepsFact n) cs → All (IsNarrowLimit n) (fact_limits cs ws) → All (λ c. fails_fact n c ≡ false) cs
  met_facts [] ws e h k = All-nil _
  met_facts (c ∷ cs) [] e h k = absurd (omega (arith, e))
  met_facts (c ∷ cs) (w ∷ ws) e h k =
      All-cons (λ c. fails_fact n c ≡ false) c cs
      (passed c.op (c.left ++ negated c.right) (All-head (IsNarrowLimit n) (fact_limit c w) (fact_limits cs ws) k) (fact_kept c.op (applied c.left n) (applied c.right n) _ (difference_is c) (All-head (KeepsFact n) c cs h)))
      (met_facts cs ws (omega (arith, e)) (All-tail (KeepsFact n) c cs h) (All-tail (IsNarrowLimit n) (fact_limit c w) (fact_limits cs ws) k))

-- a fact's right side, with its numbers negated
pub negated_is : (n : ℕ → ℤ) (ts : Terms) → (int_sum_by (λ t. t.1 *ℤ n t.0) (negated ts) ≡ int_sum_by (λ t. neg_ℤ t.1 *ℤ n t.0) ts) × (size_by (λ t. t.1 *ℤ n t.0) (negated ts) ≡ size_by (λ t. neg_ℤ t.1 *ℤ n t.0) ts)
negated_is n [] = (refl, refl)
negated_is n (t ∷ ts) = let r = negated_is n ts in (ap (λ (z : ℤ). (neg_ℤ t.1 *ℤ n t.0) +ℤ z) r.0, ap (λ k. unsigned_abs (neg_ℤ t.1 *ℤ n t.0) + k) r.1)

-- all claims

pub are_met : (s : System) (c : Cert) → ((a : ℕ) → pos 0 ≤ℤ counts s c a) → first_unmet s.claims (counts s c) ≡ None → AreMet s c
are_met s c positive e =
    let n : ℕ → ℤ = counts s c in
    let a = earlier_none (first_failing (fails_never (counts s c)) (nevers_from s.claims) s.claims.nevers) (earlier (first_failing (fails_loop (counts s c)) (loops_from s.claims) s.claims.loops) (first_failing (fails_fact (counts s c)) (facts_from s.claims) s.claims.facts)) e in
    let b = earlier_none (first_failing (fails_loop (counts s c)) (loops_from s.claims) s.claims.loops) (first_failing (fails_fact (counts s c)) (facts_from s.claims) s.claims.facts) a.1 in
    let u = nevers_met (counts s c) s.claims.nevers c.nevers positive (none_fails (fails_never (counts s c)) (nevers_from s.claims) s.claims.nevers a.0) in
    let v = loops_met (counts s c) s.claims.loops c.loops (none_fails (fails_loop (counts s c)) (loops_from s.claims) s.claims.loops b.0) in
    let w = facts_met (counts s c) s.claims.facts c.facts (none_fails (fails_fact (counts s c)) (facts_from s.claims) s.claims.facts b.1) in
    record {
      claims = record { nevers = u.0; loops = v.0; facts = w.0 };
      narrow = All-append (IsNarrowLimit (counts s c)) _ _ u.1 (All-append (IsNarrowLimit (counts s c)) _ _ v.1 w.1);
    }

pub none_unmet : (s : System) (c : Cert) → IsInForm s.claims c → AreMet s c → first_unmet s.claims (counts s c) ≡ None
none_unmet s c form met =
    let rest = append_right (IsNarrowLimit (counts s c)) (never_limits s.claims.nevers c.nevers) _ met.narrow in
    none_of_both _ _ (all_pass (fails_never (counts s c)) (nevers_from s.claims) s.claims.nevers (met_nevers (counts s c) s.claims.nevers c.nevers form.nevers met.claims.nevers (append_left (IsNarrowLimit (counts s c)) (never_limits s.claims.nevers c.nevers) _ met.narrow)))
    (none_of_both _ _ (all_pass (fails_loop (counts s c)) (loops_from s.claims) s.claims.loops (met_loops (counts s c) s.claims.loops c.loops form.loops met.claims.loops (append_left (IsNarrowLimit (counts s c)) (loop_limits s.claims.loops c.loops) _ rest)))
    (all_pass (fails_fact (counts s c)) (facts_from s.claims) s.claims.facts (met_facts (counts s c) s.claims.facts c.facts form.facts met.claims.facts (append_right (IsNarrowLimit (counts s c)) (loop_limits s.claims.loops c.loops) _ rest))))
