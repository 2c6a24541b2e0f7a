-- Claims of which none is bad are in the order of a report.
use Rattle.std.proofs.Common.{◌≡◌, ℕ, ◌<◌, ◌≤◌, Bool, true, false, List, [], ◌∷◌, ◌++◌, Option, Some, None, map, refl, All, arith}
use Rattle.std.specs.Prelude.{◌&&◌, ◌||◌, not, nat_le, nat_lt}
use Rattle.std.proofs.lemmas.Bool.Decides.{nat_tests}
use Rattle.std.proofs.lemmas.List.Elements.{All-cons, All-head, All-map, All-nil, All-tail, All-weaker}
use Rattle.code_flow_lookup.specs.Lines.{AreLaid}
use Rattle.code_flow_lookup.proofs.LineLemmas.{lines_laid}
use Rattle.code_flow_system.specs.Claims.{AreSound, Claims, exit_flaws, fact_flaws, is_above, is_aligned, is_filled, is_past, loop_flaws, never_flaws, region_flaws}
use Rattle.code_flow_system.specs.MoveCosts.{lies_within}
use Rattle.code_flow_system.specs.declared.claims.LoopClaim.{LoopClaim}
use Rattle.code_flow_system.specs.declared.claims.Never.{Never}
use Rattle.code_flow_system.specs.declared.claims.Within.{Within}
use Rattle.high_pass.proofs.Elements.{All-append_back, All-append_front}
use Rattle.report_text.specs.Forms.{AreAllApart, AreApart, AreInOrder, Ascend, IsFact, NamesOne}

abbrev Holds : Bool → Type 0
Holds flaw = flaw ≡ false

parts : (a b : Bool) → (a && b) ≡ true → (a ≡ true) × (b ≡ true)
parts true b e = (refl, e)
parts false b e = cc

good : (a : Bool) → not a ≡ false → a ≡ true
good true e = refl
good false e = cc

-- addresses, each above the one before
abbrev Rises : Option ℕ → List ℕ → Type 0
Rises before [] = Unit {0}
Rises before (a ∷ rest) = (is_above before a ≡ true) × Rises (Some a) rest

less : (a b : ℕ) → is_above (Some a) b ≡ true → a < b
less a b e = grind (arith, nat_tests)

rises_above : (a : ℕ) (xs : List ℕ) → Rises (Some a) xs → All (λ b. a < b) xs
rises_above a [] h = All-nil (λ b. a < b)
rises_above a (x ∷ xs) h =
    let lt = less a x h.0 in
    All-cons (λ b. a < b) x xs lt (All-weaker (λ b. x < b) (λ b. a < b) (λ b k. omega (arith, lt, k)) xs (rises_above x xs h.1))

ascends : (before : Option ℕ) (xs : List ℕ) → Rises before xs → Ascend xs
ascends before [] h = tt
ascends before (x ∷ xs) h = (rises_above x xs h.1, ascends (Some x) xs h.1)

exits_rise : (before : Option ℕ) (xs : List ℕ) → All Holds (exit_flaws before xs) → Rises before xs
exits_rise before [] h = tt
exits_rise before (a ∷ rest) h =
    let flaw = not (is_aligned a && is_above before a) in
    ((parts (is_aligned a) (is_above before a) (good (is_aligned a && is_above before a) (All-head Holds flaw (exit_flaws (Some a) rest) h))).1, exits_rise (Some a) rest (All-tail Holds flaw (exit_flaws (Some a) rest) h))

abbrev never_at : Never → ℕ
never_at n = n.at

nevers_rise : (before : Option ℕ) (cs : List Never) → All Holds (never_flaws before cs) → Rises before (map never_at cs)
nevers_rise before [] h = tt
nevers_rise before (c ∷ cs) h =
    let flaw = not (is_aligned c.at && is_above before c.at) in
    ((parts (is_aligned c.at) (is_above before c.at) (good (is_aligned c.at && is_above before c.at) (All-head Holds flaw (never_flaws (Some c.at) cs) h))).1, nevers_rise (Some c.at) cs (All-tail Holds flaw (never_flaws (Some c.at) cs) h))

abbrev header_of : LoopClaim → ℕ
header_of l = l.header

loops_rise : (before : Option ℕ) (cs : List LoopClaim) → All Holds (loop_flaws before cs) → Rises before (map header_of cs)
loops_rise before [] h = tt
loops_rise before (c ∷ cs) h =
    let inner = is_aligned c.back && is_above before c.header in
    let whole = is_aligned c.header && inner in
    let rest = All-tail Holds (not whole) (loop_flaws (Some c.header) cs) h in
    let fine = parts (is_aligned c.header) inner (good whole (All-head Holds (not whole) (loop_flaws (Some c.header) cs) h)) in
    ((parts (is_aligned c.back) (is_above before c.header) fine.1).1, loops_rise (Some c.header) cs rest)

-- lines of regions

record Filled (w : Within) : Type 0 where
  some : w.first < w.end
  letters : NamesOne w

filled : (w : Within) → is_filled w ≡ true → Filled w
filled w h =
    let a = parts (is_aligned w.first) (is_aligned w.end && (nat_lt w.first w.end && (w.flash || (w.spm || w.ram)))) h in
    let b = parts (is_aligned w.end) (nat_lt w.first w.end && (w.flash || (w.spm || w.ram))) a.1 in
    let c = parts (nat_lt w.first w.end) (w.flash || (w.spm || w.ram)) b.1 in
    let t = c.0 in
    record { some = grind (arith, nat_tests, t); letters = c.1 }

not_less : (a b : ℕ) → is_past (Some a) b ≡ true → a ≤ b
not_less a b e = grind (arith, nat_tests)

laid_behind : (a : ℕ) (ws : List Within) → AreLaid (Some a) ws → All (λ (w : Within). a ≤ w.first) ws
laid_behind a [] h = All-nil (λ (w : Within). a ≤ w.first)
laid_behind a (w ∷ ws) h =
    let le = not_less a w.first h.1 in
    let some = (filled w h.0).some in
    All-cons (λ (w : Within). a ≤ w.first) w ws le
    (All-weaker (λ (v : Within). w.end ≤ v.first) (λ (v : Within). a ≤ v.first) (λ v k. omega (arith, le, some, k)) ws (laid_behind w.end ws h.2))

abbrev first_of : Within → ℕ
first_of w = w.first

laid_ascend : (before : Option ℕ) (ws : List Within) → AreLaid before ws → Ascend (map first_of ws)
laid_ascend before [] h = tt
laid_ascend before (w ∷ ws) h =
    let some = (filled w h.0).some in (
      All-map (λ b. w.first < b) first_of ws (All-weaker (λ (v : Within). w.end ≤ v.first) (λ (v : Within). w.first < v.first) (λ v k. omega (arith, some, k)) ws (laid_behind w.end ws h.2)),
      laid_ascend (Some w.end) ws h.2,
    )

laid_named : (before : Option ℕ) (ws : List Within) → AreLaid before ws → All NamesOne ws
laid_named before [] h = All-nil NamesOne
laid_named before (w ∷ ws) h = All-cons NamesOne w ws (filled w h.0).letters (laid_named (Some w.end) ws h.2)

apart : (v w : Within) → v.end ≤ w.first → AreApart v w
apart v w le a in_v in_w =
    let below = inside a v in_v in
    let above = inside a w in_w in
    let lt = below.1 in
    let from = above.0 in
    absurd (omega (arith, le, lt, from))
  where
    inside : (a : ℕ) (w : Within) → lies_within w a ≡ true → (w.first ≤ a) × (a < w.end)
    inside a w e = let p = parts (nat_le w.first a) (nat_lt a w.end) e in let l = p.0 in let r = p.1 in (grind (arith, nat_tests, l), grind (arith, nat_tests, r))

laid_apart : (before : Option ℕ) (ws : List Within) → AreLaid before ws → AreAllApart ws
laid_apart before [] h = tt
laid_apart before (w ∷ ws) h = (All-weaker (λ (v : Within). w.end ≤ v.first) (AreApart w) (λ v le. apart w v le) ws (laid_behind w.end ws h.2), laid_apart (Some w.end) ws h.2)

pub sound_in_order : (c : Claims) → AreSound c → All IsFact c.facts → AreInOrder c
sound_in_order c sound facts =
    let loops_on = loop_flaws None c.loops ++ fact_flaws c.facts in
    let regions_on = region_flaws None c.regions ++ loops_on in
    let nevers_on = never_flaws None c.nevers ++ regions_on in
    let behind_exits = All-append_back Holds (exit_flaws None c.exits) nevers_on sound in
    let behind_nevers = All-append_back Holds (never_flaws None c.nevers) regions_on behind_exits in
    let behind_regions = All-append_back Holds (region_flaws None c.regions) loops_on behind_nevers in
    let laid = lines_laid c sound in
    record {
      exits = ascends None c.exits (exits_rise None c.exits (All-append_front Holds (exit_flaws None c.exits) nevers_on sound));
      nevers = ascends None (map never_at c.nevers) (nevers_rise None c.nevers (All-append_front Holds (never_flaws None c.nevers) regions_on behind_exits));
      regions = laid_ascend None c.regions laid;
      named = laid_named None c.regions laid;
      apart = laid_apart None c.regions laid;
      loops = ascends None (map header_of c.loops) (loops_rise None c.loops (All-append_front Holds (loop_flaws None c.loops) (fact_flaws c.facts) behind_regions));
      facts = facts;
    }
