-- Counts that keep the claims keep their limits.
use Rattle.std.proofs.Common.{◌≡◌, ℕ, ℤ, pos, neg_ℤ, ◌-ℤ◌, ◌≤ℤ◌, arith, refl, List, [], ◌∷◌, All}
use Rattle.std.proofs.lemmas.Int.{ints}
use Rattle.std.proofs.lemmas.List.Elements.{All-head, All-tail, All-cons, All-nil, All-append}
use Rattle.frac128.specs.Terms.{Terms, applied}
use Rattle.frac128.proofs.SignedLemmas.{mul-sub, add-mul, neg-mul}
use Rattle.frac128.proofs.TermsLemmas.{applied-append}
use Rattle.wcc_base.specs.declared.compare.Compare.{Compare}
use Rattle.wcc_base.specs.declared.compare.Compare.TheVariants.{AtMost, AtLeast, Equal}
use Rattle.code_flow_system.specs.declared.claims.Never.{Never}
use Rattle.code_flow_system.specs.declared.claims.LoopClaim.{LoopClaim}
use Rattle.code_flow_system.specs.declared.claims.FactClaim.{FactClaim}
use Rattle.code_flow_system.specs.declared.cert.Cert.{Cert}
use Rattle.code_flow_system.specs.Claims.{Claims}
use Rattle.code_flow_system.specs.Counts.{KeepsNever, KeepsLoop, Compares, KeepsFact, KeepsCounts}
use Rattle.code_flow_system.specs.Certificates.{negated, never_limits, least_terms, most_terms, least_limit, most_limit, loop_limits, fact_limits, limits}
use Rattle.code_flow_system.specs.Bounds.{KeepsLimit}

nevers_keep : (n : ℕ → ℤ) (cs : List Never) (ws : List ℤ) → All (KeepsNever n) cs → All (KeepsLimit n) (never_limits cs ws)
nevers_keep n [] ws h = All-nil _
nevers_keep n (c ∷ cs) [] h = All-nil _
nevers_keep n (c ∷ cs) (w ∷ ws) h =
    All-cons (KeepsLimit n) _ _ (let e = All-head (KeepsNever n) c cs h in omega (arith, ints))
    (nevers_keep n cs ws (All-tail (KeepsNever n) c cs h))

least_keeps : (n : ℕ → ℤ) (c : LoopClaim) → KeepsLoop n c → applied (least_terms c) n ≤ℤ pos 0
least_keeps n c h =
    let k = h.least in
    let e1 = mul-sub (pos c.min) (n c.header) (n c.back) in
    let e2 = add-mul (pos c.min) (neg_ℤ (pos 1)) (n c.header) in
    let e3 = neg-mul (pos c.min) (n c.back) in omega (arith, ints)

most_keeps : (n : ℕ → ℤ) (c : LoopClaim) → KeepsLoop n c → applied (most_terms c) n ≤ℤ pos 0
most_keeps n c h =
    let k = h.most in
    let e1 = mul-sub (pos c.max) (n c.header) (n c.back) in
    let e2 = add-mul (pos 1) (neg_ℤ (pos c.max)) (n c.header) in
    let e3 = neg-mul (pos c.max) (n c.header) in omega (arith, ints)

loops_keep : (n : ℕ → ℤ) (cs : List LoopClaim) (ws : List (ℤ × ℤ)) → All (KeepsLoop n) cs → All (KeepsLimit n) (loop_limits cs ws)
loops_keep n [] ws h = All-nil _
loops_keep n (c ∷ cs) [] h = All-nil _
loops_keep n (c ∷ cs) (w ∷ ws) h =
    let k = All-head (KeepsLoop n) c cs h in
    All-cons (KeepsLimit n) (least_limit c w.0) (most_limit c w.1 ∷ loop_limits cs ws) (least_keeps n c k)
    (All-cons (KeepsLimit n) (most_limit c w.1) (loop_limits cs ws) (most_keeps n c k)
    (loops_keep n cs ws (All-tail (KeepsLoop n) c cs h)))

pub applied-negated : (ts : Terms) (n : ℕ → ℤ) → applied (negated ts) n ≡ neg_ℤ (applied ts n)
applied-negated [] n = refl
applied-negated (t ∷ ts) n = let r = applied-negated ts n in let e = neg-mul t.1 (n t.0) in omega (arith, ints)

fact_compares : (op : Compare) (a b t : ℤ) → t ≡ a -ℤ b → Compares op a b → Compares op t (pos 0)
fact_compares AtMost a b t e h = omega (arith, ints)
fact_compares AtLeast a b t e h = omega (arith, ints)
fact_compares Equal a b t e h = omega (arith, ints)

facts_keep : (n : ℕ → ℤ) (cs : List FactClaim) (ws : List ℤ) → All (KeepsFact n) cs → All (KeepsLimit n) (fact_limits cs ws)
facts_keep n [] ws h = All-nil _
facts_keep n (c ∷ cs) [] h = All-nil _
facts_keep n (c ∷ cs) (w ∷ ws) h =
    All-cons (KeepsLimit n) _ _
    (fact_compares c.op (applied c.left n) (applied c.right n) _
    (let e = applied-append c.left (negated c.right) n in let f = applied-negated c.right n in omega (arith, ints))
    (All-head (KeepsFact n) c cs h))
    (facts_keep n cs ws (All-tail (KeepsFact n) c cs h))

pub limits_keep : (claims : Claims) (c : Cert) (n : ℕ → ℤ) → KeepsCounts claims n → All (KeepsLimit n) (limits claims c)
limits_keep claims c n h =
    All-append (KeepsLimit n) _ _ (nevers_keep n claims.nevers c.nevers h.nevers)
    (All-append (KeepsLimit n) _ _ (loops_keep n claims.loops c.loops h.loops) (facts_keep n claims.facts c.facts h.facts))
