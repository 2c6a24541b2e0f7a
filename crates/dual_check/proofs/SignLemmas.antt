-- The first failing element of a list, and the signs of the multipliers.
use Rattle.std.proofs.Common.{◌≡◌, ℕ, ◌+◌, ℤ, pos, ◌≤ℤ◌, arith, refl, List, [], ◌∷◌, ◌++◌, length, All, Bool, true, false, Option, Some, None}
use Rattle.std.specs.Prelude.{◌||◌, int_lt, if◌then◌else◌}
use Rattle.std.proofs.lemmas.Int.{ints}
use Rattle.std.proofs.lemmas.List.Elements.{All-head, All-tail, All-cons, All-nil, All-append}
use Rattle.wcc_base.specs.declared.compare.Compare.{Compare}
use Rattle.wcc_base.specs.declared.compare.Compare.TheVariants.{AtMost, AtLeast, Equal}
use Rattle.code_flow_system.specs.declared.claims.Never.{Never}
use Rattle.code_flow_system.specs.declared.claims.LoopClaim.{LoopClaim}
use Rattle.code_flow_system.specs.declared.claims.FactClaim.{FactClaim}
use Rattle.code_flow_system.specs.declared.cert.Cert.{Cert}
use Rattle.code_flow_system.specs.Claims.{Claims}
use Rattle.code_flow_system.specs.Certificates.{Limit, limits, never_limits, loop_limits, fact_limits, least_limit, most_limit, negated, FitsSign, IsSigned, IsInForm}
use Rattle.dual_check.specs.Rows.{earlier, first_failing, is_negative, is_negative_pair, is_wrong_for, first_wrong_fact, first_wrong_sign, nevers_from, loops_from, facts_from}

pub earlier_none : {X : Type 0} (a b : Option X) → earlier a b ≡ None → (a ≡ None) × (b ≡ None)
earlier_none None b e = (refl, e)
earlier_none (Some x) b e = cc

pub none_of_both : {X : Type 0} (a b : Option X) → a ≡ None → b ≡ None → earlier a b ≡ None
none_of_both None b e f = f
none_of_both (Some x) b e f = cc

pub or_false : (p q : Bool) → (p || q) ≡ false → (p ≡ false) × (q ≡ false)
or_false true q e = cc
or_false false q e = (refl, e)

pub neither : (p q : Bool) → p ≡ false → q ≡ false → (p || q) ≡ false
neither true q e f = cc
neither false q e f = f

test_none : {X : Type 0} (b : Bool) (x : X) (o : Option X) → (if b then Some x else o) ≡ None → (b ≡ false) × (o ≡ None)
test_none true x o e = cc
test_none false x o e = (refl, e)

none_by_test : {X : Type 0} (b : Bool) (x : X) (o : Option X) → b ≡ false → o ≡ None → (if b then Some x else o) ≡ None
none_by_test true x o e f = cc
none_by_test false x o e f = f

module _ {X : Type 0} (fails : X → Bool) where
  pub none_fails : (n : ℕ) (xs : List X) → first_failing fails n xs ≡ None → All (λ x. fails x ≡ false) xs
  none_fails n [] e = All-nil _
  none_fails n (x ∷ xs) e =
      let t = test_none (fails x) n (first_failing fails (n + 1) xs) e in
      All-cons (λ x. fails x ≡ false) x xs t.0 (none_fails (n + 1) xs t.1)

  pub all_pass : (n : ℕ) (xs : List X) → All (λ x. fails x ≡ false) xs → first_failing fails n xs ≡ None
  all_pass n [] h = refl
  all_pass n (x ∷ xs) h = none_by_test (fails x) n (first_failing fails (n + 1) xs) (All-head (λ x. fails x ≡ false) x xs h) (all_pass (n + 1) xs (All-tail (λ x. fails x ≡ false) x xs h))

-- signs

pub not_negative : (w : ℤ) → int_lt w (pos 0) ≡ false → pos 0 ≤ℤ w
not_negative w e = grind (arith, ints)

pub no_negative : (w : ℤ) → pos 0 ≤ℤ w → int_lt w (pos 0) ≡ false
no_negative w h = grind (arith, ints)

pub not_positive : (w : ℤ) → int_lt (pos 0) w ≡ false → w ≤ℤ pos 0
not_positive w e = grind (arith, ints)

pub no_positive : (w : ℤ) → w ≤ℤ pos 0 → int_lt (pos 0) w ≡ false
no_positive w h = grind (arith, ints)

fits : (op : Compare) (w : ℤ) → is_wrong_for op w ≡ false → FitsSign op w
fits AtMost w e = not_negative w e
fits AtLeast w e = not_positive w e
fits Equal w e = tt

is_right : (op : Compare) (w : ℤ) → FitsSign op w → is_wrong_for op w ≡ false
is_right AtMost w h = no_negative w h
is_right AtLeast w h = no_positive w h
is_right Equal w h = refl

abbrev never_limit : Never → ℤ → Limit
never_limit c w = record { terms = (c.at, pos 1) ∷ []; op = AtMost; by = w }

abbrev fact_limit : FactClaim → ℤ → Limit
fact_limit c w = record { terms = c.left ++ negated c.right; op = c.op; by = w }

nevers_signed : (cs : List Never) (ws : List ℤ) → All (λ w. is_negative w ≡ false) ws → All IsSigned (never_limits cs ws)
nevers_signed [] ws h = All-nil _
nevers_signed (c ∷ cs) [] h = All-nil _
nevers_signed (c ∷ cs) (w ∷ ws) h = All-cons IsSigned (never_limit c w) (never_limits cs ws) (not_negative w (All-head (λ w. is_negative w ≡ false) w ws h)) (nevers_signed cs ws (All-tail (λ w. is_negative w ≡ false) w ws h))

signed_nevers : (cs : List Never) (ws : List ℤ) → length ws ≡ length cs → All IsSigned (never_limits cs ws) → All (λ w. is_negative w ≡ false) ws
signed_nevers cs [] e h = All-nil _
signed_nevers [] (w ∷ ws) e h = absurd (omega (arith, e))
signed_nevers (c ∷ cs) (w ∷ ws) e h = All-cons (λ w. is_negative w ≡ false) w ws (no_negative w (All-head IsSigned (never_limit c w) (never_limits cs ws) h)) (signed_nevers cs ws (omega (arith, e)) (All-tail IsSigned (never_limit c w) (never_limits cs ws) h))

loops_signed : (cs : List LoopClaim) (ws : List (ℤ × ℤ)) → All (λ w. is_negative_pair w ≡ false) ws → All IsSigned (loop_limits cs ws)
loops_signed [] ws h = All-nil _
loops_signed (c ∷ cs) [] h = All-nil _
loops_signed (c ∷ cs) (w ∷ ws) h =
    let o = or_false (is_negative w.0) (is_negative w.1) (All-head (λ w. is_negative_pair w ≡ false) w ws h) in
    All-cons IsSigned (least_limit c w.0) (most_limit c w.1 ∷ loop_limits cs ws) (not_negative w.0 o.0)
    (All-cons IsSigned (most_limit c w.1) (loop_limits cs ws) (not_negative w.1 o.1) (loops_signed cs ws (All-tail (λ w. is_negative_pair w ≡ false) w ws h)))

signed_loops : (cs : List LoopClaim) (ws : List (ℤ × ℤ)) → length ws ≡ length cs → All IsSigned (loop_limits cs ws) → All (λ w. is_negative_pair w ≡ false) ws
signed_loops cs [] e h = All-nil _
signed_loops [] (w ∷ ws) e h = absurd (omega (arith, e))
signed_loops (c ∷ cs) (w ∷ ws) e h =
    let rest = All-tail IsSigned (least_limit c w.0) (most_limit c w.1 ∷ loop_limits cs ws) h in
    All-cons (λ w. is_negative_pair w ≡ false) w ws
    (neither (is_negative w.0) (is_negative w.1) (no_negative w.0 (All-head IsSigned (least_limit c w.0) (most_limit c w.1 ∷ loop_limits cs ws) h)) (no_negative w.1 (All-head IsSigned (most_limit c w.1) (loop_limits cs ws) rest)))
    (signed_loops cs ws (omega (arith, e)) (All-tail IsSigned (most_limit c w.1) (loop_limits cs ws) rest))

facts_signed : (n : ℕ) (cs : List FactClaim) (ws : List ℤ) → first_wrong_fact n cs ws ≡ None → All IsSigned (fact_limits cs ws)
facts_signed n [] ws h = All-nil _
facts_signed n (c ∷ cs) [] h = All-nil _
facts_signed n (c ∷ cs) (w ∷ ws) h =
    let t = test_none (is_wrong_for c.op w) n (first_wrong_fact (n + 1) cs ws) h in
    All-cons IsSigned (fact_limit c w) (fact_limits cs ws) (fits c.op w t.0) (facts_signed (n + 1) cs ws t.1)

signed_facts : (n : ℕ) (cs : List FactClaim) (ws : List ℤ) → All IsSigned (fact_limits cs ws) → first_wrong_fact n cs ws ≡ None
signed_facts n [] ws h = refl
signed_facts n (c ∷ cs) [] h = refl
signed_facts n (c ∷ cs) (w ∷ ws) h =
    none_by_test (is_wrong_for c.op w) n (first_wrong_fact (n + 1) cs ws) (is_right c.op w (All-head IsSigned (fact_limit c w) (fact_limits cs ws) h)) (signed_facts (n + 1) cs ws (All-tail IsSigned (fact_limit c w) (fact_limits cs ws) h))

pub append_right : {X : Type 0} (P : X → Type 0) (xs ys : List X) → All P (xs ++ ys) → All P ys
append_right P [] ys h = h
append_right P (x ∷ xs) ys h = append_right P xs ys (All-tail P x (xs ++ ys) h)

pub append_left : {X : Type 0} (P : X → Type 0) (xs ys : List X) → All P (xs ++ ys) → All P xs
append_left P [] ys h = All-nil P
append_left P (x ∷ xs) ys h = All-cons P x xs (All-head P x (xs ++ ys) h) (append_left P xs ys (All-tail P x (xs ++ ys) h))

pub all_signed : (claims : Claims) (c : Cert) → first_wrong_sign claims c ≡ None → All IsSigned (limits claims c)
all_signed claims c e =
    let a = earlier_none (first_failing is_negative (nevers_from claims) c.nevers) (earlier (first_failing is_negative_pair (loops_from claims) c.loops) (first_wrong_fact (facts_from claims) claims.facts c.facts)) e in
    let b = earlier_none (first_failing is_negative_pair (loops_from claims) c.loops) (first_wrong_fact (facts_from claims) claims.facts c.facts) a.1 in
    All-append IsSigned _ _ (nevers_signed claims.nevers c.nevers (none_fails is_negative (nevers_from claims) c.nevers a.0))
    (All-append IsSigned _ _ (loops_signed claims.loops c.loops (none_fails is_negative_pair (loops_from claims) c.loops b.0)) (facts_signed (facts_from claims) claims.facts c.facts b.1))

pub no_wrong_sign : (claims : Claims) (c : Cert) → IsInForm claims c → All IsSigned (limits claims c) → first_wrong_sign claims c ≡ None
no_wrong_sign claims c form h =
    let rest = append_right IsSigned (never_limits claims.nevers c.nevers) _ h in
    none_of_both _ _ (all_pass is_negative (nevers_from claims) c.nevers (signed_nevers claims.nevers c.nevers form.nevers (append_left IsSigned (never_limits claims.nevers c.nevers) _ h)))
    (none_of_both _ _ (all_pass is_negative_pair (loops_from claims) c.loops (signed_loops claims.loops c.loops form.loops (append_left IsSigned (loop_limits claims.loops c.loops) _ rest))) (signed_facts (facts_from claims) claims.facts c.facts (append_right IsSigned (loop_limits claims.loops c.loops) _ rest)))
