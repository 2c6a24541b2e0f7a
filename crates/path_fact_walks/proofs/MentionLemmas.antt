-- What facts hold at an address that the index has no fact for.
use Rattle.std.proofs.Common.{◌≡◌, ℕ, zero, suc, ◌+◌, ◌*◌, ◌<◌, ℤ, pos, ◌+ℤ◌, ◌*ℤ◌, arith, refl, sym, ap, ◌∙◌, List, [], ◌∷◌, ◌++◌, length, length-append, All, append_assoc, replicate, Bool, true, false, cond}
use Rattle.std.specs.Prelude.{◌==◌}
use lib.IntN.{*ℤ_comm, *ℤ-zero}
use Rattle.std.proofs.lemmas.Int.{ints}
use Rattle.std.proofs.lemmas.List.{length-replicate}
use Rattle.std.proofs.lemmas.List.Elements.{All-nil, All-cons, All-head, All-tail, All-append, All-weaker}
use Rattle.frac128.specs.Terms.{coefficient}
use Rattle.code_flow_system.specs.declared.cert.Cert.{Cert}
use Rattle.code_flow_system.specs.declared.cert.Mark.TheVariants.{Neither}
use Rattle.code_flow_system.specs.declared.claims.Never.{Never}
use Rattle.code_flow_system.specs.declared.claims.LoopClaim.{LoopClaim}
use Rattle.code_flow_system.specs.declared.index.Mention.{Mention}
use Rattle.code_flow_system.specs.Claims.{Claims}
use Rattle.code_flow_system.specs.Certificates.{Limit, least_limit, most_limit, never_limits, loop_limits, fact_limits, limits, held}
use Rattle.code_flow_system.specs.Lookups.{by_at, holding, AddUpToLimits, HasMultipliers}
use Rattle.code_flow_lookup.specs.Runs.{those_at}

-- ---- limits that aren't multiplied

abbrev IsNone : Limit → Type 0
IsNone l = l.by ≡ pos 0

zero_times : (c : ℤ) → (pos 0 *ℤ c) ≡ pos 0
zero_times c = *ℤ_comm (pos 0) c ∙ *ℤ-zero c

zero_term : (y c s t : ℤ) → y ≡ pos 0 → s ≡ t → ((y *ℤ c) +ℤ s) ≡ t
zero_term y c s t e f =
    let k : (y *ℤ c) ≡ pos 0 = ap (λ (z : ℤ). z *ℤ c) e ∙ zero_times c in
    ap (λ (z : ℤ). z +ℤ s) k ∙ (let g : (pos 0 +ℤ s) ≡ s = omega (arith, ints) in g ∙ f)

by_none : (k : ℕ) (ls rs : List Limit) → All IsNone ls → k < length ls → by_at (ls ++ rs) k ≡ pos 0
by_none k [] rs h lt = absurd (omega (arith, lt))
by_none zero (l ∷ ls) rs h lt = All-head IsNone l ls h
by_none (suc k) (l ∷ ls) rs h lt = by_none k ls rs (All-tail IsNone l ls h) (omega (arith, lt))

held_skips : (ls rs : List Limit) (a : ℕ) → All IsNone ls → held (ls ++ rs) a ≡ held rs a
held_skips [] rs a h = refl
held_skips (l ∷ ls) rs a h = zero_term l.by (coefficient l.terms a) (held (ls ++ rs) a) (held rs a) (All-head IsNone l ls h) (held_skips ls rs a (All-tail IsNone l ls h))

-- where none of the mentions of an address is of a limit that is multiplied
none_held : (ls : List Limit) (ms : List Mention) (a : ℕ) → All (λ (m : Mention). by_at ls m.limit ≡ pos 0) (those_at (λ (m : Mention). m.at) a ms) → holding ls ms a ≡ pos 0
none_held ls [] a h = refl
none_held ls (m ∷ ms) a h = by_test (m.at == a) (none_held ls ms a) h
  where
    zero_less : (s : ℤ) → (pos 0 +ℤ s) ≡ s
    zero_less s = omega (arith, ints)

    by_test : (t : Bool) → (All (λ (k : Mention). by_at ls k.limit ≡ pos 0) (those_at (λ (k : Mention). k.at) a ms) → holding ls ms a ≡ pos 0) → All (λ (k : Mention). by_at ls k.limit ≡ pos 0) (cond t (m ∷ those_at (λ (k : Mention). k.at) a ms) (those_at (λ (k : Mention). k.at) a ms)) → ((by_at ls m.limit *ℤ cond t m.coefficient (pos 0)) +ℤ holding ls ms a) ≡ pos 0
    by_test true rest k = zero_term (by_at ls m.limit) m.coefficient (holding ls ms a) (pos 0) (All-head (λ (x : Mention). by_at ls x.limit ≡ pos 0) m (those_at (λ (x : Mention). x.at) a ms) k) (rest (All-tail (λ (x : Mention). by_at ls x.limit ≡ pos 0) m (those_at (λ (x : Mention). x.at) a ms) k))
    by_test false rest k = ap (λ (z : ℤ). z +ℤ holding ls ms a) (*ℤ-zero (by_at ls m.limit)) ∙ (zero_less (holding ls ms a) ∙ rest k)

-- ---- the limits of never claims and of loop claims

nevers_none : (cs : List Never) → All IsNone (never_limits cs (replicate (length cs) (pos 0)))
nevers_none [] = All-nil IsNone
nevers_none (c ∷ cs) = All-cons IsNone _ (never_limits cs (replicate (length cs) (pos 0))) refl (nevers_none cs)

nevers_long : (cs : List Never) → length (never_limits cs (replicate (length cs) (pos 0))) ≡ length cs
nevers_long [] = refl
nevers_long (c ∷ cs) = ap suc (nevers_long cs)

abbrev no_pair : ℤ × ℤ
no_pair = (pos 0, pos 0)

loops_none : (cs : List LoopClaim) → All IsNone (loop_limits cs (replicate (length cs) no_pair))
loops_none [] = All-nil IsNone
loops_none (c ∷ cs) = All-cons IsNone (least_limit c (pos 0)) (most_limit c (pos 0) ∷ loop_limits cs (replicate (length cs) no_pair)) refl
    (All-cons IsNone (most_limit c (pos 0)) (loop_limits cs (replicate (length cs) no_pair)) refl (loops_none cs))

loops_long : (cs : List LoopClaim) → length (loop_limits cs (replicate (length cs) no_pair)) ≡ 2 * length cs
loops_long [] = refl
loops_long (c ∷ cs) = let e = loops_long cs in omega (arith, e)

-- ---- the multipliers of facts alone

abbrev alone : Claims → List ℤ → Cert
alone claims ys = record {
  cycles = 0;
  mark = Neither;
  scale = 1;
  potentials = [];
  nevers = replicate (length claims.nevers) (pos 0);
  loops = replicate (length claims.loops) no_pair;
  facts = ys;
  flow = record { unit = 0; parts = [] };
}

pub unmentioned : (claims : Claims) (ms : List Mention) (ys : List ℤ) (a : ℕ) → AddUpToLimits claims ms → length ys ≡ length claims.facts → All (λ (m : Mention). m.limit < length claims.nevers + 2 * length claims.loops) (those_at (λ (m : Mention). m.at) a ms) → held (fact_limits claims.facts ys) a ≡ pos 0
unmentioned claims ms ys a adds long h =
    let c = alone claims ys in
    let nl = never_limits claims.nevers c.nevers in
    let ll = loop_limits claims.loops c.loops in
    let fl = fact_limits claims.facts ys in
    let all = limits claims c in
    let here = those_at (λ (m : Mention). m.at) a ms in
    let none : All IsNone (nl ++ ll) = All-append IsNone nl ll (nevers_none claims.nevers) (loops_none claims.loops) in
    let long_nl : length nl ≡ length claims.nevers = nevers_long claims.nevers in
    let long_ll : length ll ≡ 2 * length claims.loops = loops_long claims.loops in
    let long_both : length (nl ++ ll) ≡ length nl + length ll = length-append nl ll in
    let same : ((nl ++ ll) ++ fl) ≡ all = append_assoc nl ll fl in
    let skips : held all a ≡ held fl a = ap (λ (ls : List Limit). held ls a) (sym same) ∙ held_skips (nl ++ ll) fl a none in
    let each : All (λ (m : Mention). by_at all m.limit ≡ pos 0) here = All-weaker (λ (m : Mention). m.limit < length claims.nevers + 2 * length claims.loops) (λ (m : Mention). by_at all m.limit ≡ pos 0) (λ m lt. ap (λ (ls : List Limit). by_at ls m.limit) (sym same) ∙ by_none m.limit (nl ++ ll) fl none (omega (arith, lt, long_nl, long_ll, long_both))) here h in
    let has : HasMultipliers claims c = record { nevers = length-replicate (length claims.nevers) (pos 0); loops = length-replicate (length claims.loops) no_pair; facts = long } in
    sym skips ∙ sym (adds.holds c a has) ∙ none_held all ms a each
