-- Loop claims stand in the order of their headers.
use Rattle.std.proofs.Common.{◌≡◌, ℕ, suc, ◌+◌, ◌%◌, ◌<◌, ◌≤◌, Bool, true, false, List, [], ◌∷◌, length, map, Some, None, refl, sym, ap, subst, arith, ⊎_elim}
use Rattle.std.specs.Prelude.{◌==◌, ◌&&◌, not, All, if◌then◌else◌}
use Rattle.std.specs.List.{AllPairs}
use Rattle.std.proofs.lemmas.Bool.{cases_lt}
use Rattle.std.proofs.lemmas.Bool.Decides.{nat_tests}
use Rattle.std.proofs.lemmas.List.{get_or_past, map-append}
use Rattle.std.proofs.lemmas.List.Elements.{All-cons, All-head, All-nil, All-tail}
use Rattle.std.proofs.lemmas.Option.{slice_get-get_or}
use Rattle.code_flow_system.specs.declared.claims.LoopClaim.{LoopClaim}
use Rattle.code_flow_system.specs.Claims.{is_above, is_aligned, loop_flaws}
use Rattle.asm_items.specs.Items.{total}
use Rattle.asm_items.specs.Placings.{Blocks, base_of, block_of, blocks_of, end_of, start_of}
use Rattle.asm_graphs.proofs.PlaceLemmas.{next_start, start_within}
use Rattle.low_ir.specs.Code.{Loop}
use Rattle.low_ir.specs.Formed.{AreNested, IsLoop}
use Rattle.asm_program.specs.Functions.{PlacedBlock, PlacedFunction, function_in, no_function}
use Rattle.claims_definition.specs.ClaimLaws.{IsSettled}
use Rattle.claims_definition.specs.Listed.{Laid, loop_claim, loops_at, loops_from, loops_in, loops_of, placing}
use Rattle.claims_definition.proofs.Blocks.{block_some, blocks_count, last_fours, many_blocks, start_fours}
use Rattle.claims_definition.proofs.Along.{along, last_end}
use Rattle.claims_definition.proofs.Spaces.{Between, append, wider}

same_test : (a b : ℕ) → (a == b) ≡ true → a ≡ b
same_test a b t = grind (arith, nat_tests, t)

abbrev header_of : LoopClaim → ℕ
header_of c = c.header

abbrev IsGood : LoopClaim → Type 0
IsGood c = (c.header % 4 ≡ 0) × (c.back % 4 ≡ 0)

abbrev ClaimsBetween : ℕ → List LoopClaim → ℕ → Type 0
ClaimsBetween a cs end = Between LoopClaim header_of IsGood a cs end

-- none of them is bad
abbrev Holds : Bool → Type 0
Holds flaw = flaw ≡ false

aligned : (a : ℕ) → a % 4 ≡ 0 → is_aligned a ≡ true
aligned a e = grind (arith, nat_tests, e)

no_flaw : (a b c : Bool) → a ≡ true → b ≡ true → c ≡ true → not (a && (b && c)) ≡ false
no_flaw true true true h k m = refl
no_flaw true true false h k m = cc
no_flaw true false c h k m = cc
no_flaw false b c h k m = cc

rest_sound : (b a : ℕ) (cs : List LoopClaim) (end : ℕ) → b < a → ClaimsBetween a cs end → All Holds (loop_flaws (Some b) cs)
rest_sound b a [] end low h = All-nil Holds
rest_sound b a (c ∷ cs) end low h =
    let from = h.0 in
    let above : is_above (Some b) c.header ≡ true = grind (arith, nat_tests, from, low) in
    All-cons Holds (not (is_aligned c.header && (is_aligned c.back && is_above (Some b) c.header))) (loop_flaws (Some c.header) cs) (no_flaw (is_aligned c.header) (is_aligned c.back) (is_above (Some b) c.header) (aligned c.header h.1.0.0) (aligned c.back h.1.0.1) above)
    (rest_sound c.header (c.header + 4) cs end (omega arith) h.1.1)

sound : (a : ℕ) (cs : List LoopClaim) (end : ℕ) → ClaimsBetween a cs end → All Holds (loop_flaws None cs)
sound a [] end h = All-nil Holds
sound a (c ∷ cs) end h =
    All-cons Holds (not (is_aligned c.header && (is_aligned c.back && is_above None c.header))) (loop_flaws (Some c.header) cs) (no_flaw (is_aligned c.header) (is_aligned c.back) true (aligned c.header h.1.0.0) (aligned c.back h.1.0.1) refl)
    (rest_sound c.header (c.header + 4) cs end (omega arith) h.1.1)

-- the first of some loops and the others
pairs_head : (k : Loop) (ks : List Loop) → AllPairs AreNested (k ∷ ks) → All (AreNested k) ks
pairs_head k ks h i d low = h 0 (suc i) d (omega arith) (omega (arith, low))

pairs_tail : (k : Loop) (ks : List Loop) → AllPairs AreNested (k ∷ ks) → AllPairs AreNested ks
pairs_tail k ks h i j d less low = h (suc i) (suc j) d (omega (arith, less)) (omega (arith, low))

-- two loops have different headers
none_later : (k : Loop) (ks : List Loop) (b : ℕ) → k.header ≡ b → k.header < k.latch → All (AreNested k) ks → loops_at b ks ≡ []
none_later k [] b e some h = refl
none_later k (l ∷ ks) b e some h = by_test (l.header == b) refl (none_later k ks b e some (All-tail (AreNested k) l ks h))
  where
    first : (l.header ≡ b) → ⊥
    first same =
        let n = All-head (AreNested k) l ks h in
        let inside = n.0 (omega (arith, e, same), omega (arith, e, same, some)) in
        let less = inside.0 in
        omega (arith, less, e, same)

    by_test : (t : Bool) → (l.header == b) ≡ t → loops_at b ks ≡ [] → (if t then l ∷ loops_at b ks else loops_at b ks) ≡ []
    by_test true t rest = absurd (first (same_test l.header b t))
    by_test false t rest = rest

module _ (l : Laid) (is : IsSettled l) where
  -- one function, whose base is a multiple of 4
  module _ (f : ℕ) (there : f < suc (length l.program.functions)) (fours : base_of (placing l) f % 4 ≡ 0) (ks : List Loop) (latches : All (λ (k : Loop). k.header < k.latch) ks) (nested : AllPairs AreNested ks) where
    abbrev start : ℕ → ℕ
    start b = start_of (placing l) f b

    abbrev blocks : Blocks
    blocks = blocks_of (placing l) f

    abbrev claims : List Loop → List LoopClaim
    claims xs = map (loop_claim l f) xs

    here : (b : ℕ) (xs : List Loop) → All (λ (k : Loop). k.header < k.latch) xs → AllPairs AreNested xs → ClaimsBetween (start b) (claims (loops_at b xs)) (start b + 4)
    here b [] more pairs = omega arith
    here b (k ∷ xs) more pairs = by_test (k.header == b) refl (here b xs (All-tail (λ (k : Loop). k.header < k.latch) k xs more) (pairs_tail k xs pairs))
      where
        by_test : (t : Bool) → (k.header == b) ≡ t → ClaimsBetween (start b) (claims (loops_at b xs)) (start b + 4) → ClaimsBetween (start b) (claims (if t then k ∷ loops_at b xs else loops_at b xs)) (start b + 4)
        by_test false t go = go
        by_test true t go =
            let same = same_test k.header b t in
            let none = none_later k xs b same (All-head (λ (k : Loop). k.header < k.latch) k xs more) (pairs_head k xs pairs) in
            let at : start k.header ≡ start b = ap start same in
            subst (λ ys. ClaimsBetween (start b) (claims (k ∷ ys)) (start b + 4)) (sym none)
            (omega (arith, at), ((start_fours l f k.header fours, last_fours l f k.latch fours), omega (arith, at)))

    from : (b : ℕ) (xs : List PlacedBlock) (lo : ℕ) → b + length xs ≤ length blocks → lo ≤ end_of (placing l) f → (b < length blocks → lo ≤ start b) → ClaimsBetween lo (claims (loops_from ks b xs)) (end_of (placing l) f)
    from b [] lo fits low h = low
    from b (x ∷ xs) lo fits low h =
        let inside : b < length blocks = omega (arith, fits) in
        let room = block_some l is f b there (subst (λ n. b < n) (blocks_count l is f) inside) in
        let within = start_within blocks (base_of (placing l) f) b inside in
        let high = within.1 in
        let behind = start b + total (block_of (placing l) f b) in
        let begins = h inside in
        let rest = from (suc b) xs behind (omega (arith, fits)) high (λ more. let next = next_start blocks (base_of (placing l) f) b more in omega (arith, next)) in
        subst (λ cs. ClaimsBetween lo cs (end_of (placing l) f)) (sym (map-append (loop_claim l f) (loops_at b ks) (loops_from ks (suc b) xs)))
        (append LoopClaim header_of IsGood lo (claims (loops_at b ks)) (claims (loops_from ks (suc b) xs)) behind (end_of (placing l) f) (wider LoopClaim header_of IsGood (start b) lo (claims (loops_at b ks)) (start b + 4) behind begins (omega (arith, room)) (here b ks latches nested)) rest)

  latched : (fn : PlacedFunction) (ks : List Loop) → All (IsLoop fn) ks → All (λ (k : Loop). k.header < k.latch) ks
  latched fn [] h = All-nil (λ (k : Loop). k.header < k.latch)
  latched fn (k ∷ ks) h = let a = All-head (IsLoop fn) k ks h in All-cons (λ (k : Loop). k.header < k.latch) k ks a.latch (latched fn ks (All-tail (IsLoop fn) k ks h))

  -- of any function of the program, or of the start code, which has none
  one_loops : (f : ℕ) → f < suc (length l.program.functions) → base_of (placing l) f % 4 ≡ 0 → ClaimsBetween (base_of (placing l) f) (loops_in l f) (end_of (placing l) f)
  one_loops f there fours =
      ⊎_elim
      (λ (low : f < length l.program.functions).
      let fn = function_in l.program f in
      let g = is.program.functions f fn (slice_get-get_or l.program.functions f no_function low) in
      let many = many_blocks l is f low in
      let few : 0 + length fn.blocks ≤ length (blocks_of (placing l) f) = omega (arith, many) in
      from f there fours fn.loops (latched fn fn.loops g.loops) g.nested 0 fn.blocks base few (omega arith)
      (λ inside. let w = start_within (blocks_of (placing l) f) base 0 inside in w.0))
      (λ (past : length l.program.functions ≤ f).
      let none : function_in l.program f ≡ no_function = get_or_past l.program.functions f no_function past in
      subst (λ (fn : PlacedFunction). ClaimsBetween base (map (loop_claim l f) (loops_from fn.loops 0 fn.blocks)) (end_of (placing l) f)) (sym none) (omega arith))
      (cases_lt f (length l.program.functions))
    where
      base : ℕ
      base = base_of (placing l) f

  pub loops_sound : All (λ (flaw : Bool). flaw ≡ false) (loop_flaws None (loops_of l))
  loops_sound = sound l.rows.flash (loops_of l) (last_end l) (along l is LoopClaim header_of IsGood (loops_in l) one_loops)
