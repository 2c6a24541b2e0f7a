-- The counts of a loose flow at the addresses of a mark: the mark's reach bounds them.
use Rattle.std.proofs.Common.{◌≡◌, ◌≢◌, ◌⊎◌, ⊎_elim, inl, inr, ℕ, zero, suc, ◌+◌, ◌-◌, ◌<◌, ◌≤◌, ℤ, pos, ◌+ℤ◌, ◌*ℤ◌, ◌≤ℤ◌, Bool, true, false, List, [], ◌∷◌, length, Contains, Option, Some, None, refl, sym, ap, ◌∙◌, subst, arith}
use Rattle.std.specs.Prelude.{◌==◌, AllPairs, slice_get, slice_index_or, if◌then◌else◌}
use lib.IntN.{*ℤ-zero}
use Rattle.std.proofs.lemmas.Bool.{cases_eq}
use Rattle.std.proofs.lemmas.Bool.Decides.{nat_tests, leb_tells}
use Rattle.std.proofs.lemmas.Int.{ints}
use Rattle.std.proofs.lemmas.List.Elements.{All-contains}
use Rattle.frac128.specs.Terms.{int_sum_by, when_same}
use Rattle.frac128.proofs.SignedLemmas.{mul-add}
use Rattle.frac128.proofs.TermsLemmas.{int_sum_by-add}
use Rattle.rv_core.specs.Images.{Image}
use Rattle.code_flow_system.specs.declared.moves.Move.{Move}
use Rattle.code_flow_system.specs.Claims.{Claims}
use Rattle.code_flow_system.specs.Moves.{code_of}
use Rattle.code_flow_system.specs.Systems.{System}
use Rattle.code_flow_system.specs.Counts.{Amounts, amount, count, total}
use Rattle.code_flow_system.specs.Loose.{IsLoose}
use Rattle.asm_items.specs.Items as code
use Rattle.asm_items.specs.Placings.{Placing, block_of, start_of}
use Rattle.asm_graphs.proofs.RangeLemmas.{behind, is_long, starts_apart, in_function, one_function, known_start, upward}
use Rattle.asm_graphs.proofs.ReachedLemmas.{ends_within}
use Rattle.asm_prices.specs.Worths.{Prices, block_price, AreWorths}
use Rattle.asm_prices.specs.Worths as worths
use Rattle.asm_prices.proofs.BoundLemmas.{loose_flows_bounded}
use Rattle.low_ir.specs.Formed.{mark_of}
use Rattle.low_ir.specs.Turns.{mark_in}
use Rattle.low_ir.specs.Runs.{block_in}
use Rattle.low_ir.specs.Room.{called, repeated_in, marks_once, reaches, reach}
use Rattle.low_ir.specs.Places.{Placed}
use Rattle.asm_program.specs.Frames.{Memory}
use Rattle.asm_program.specs.Functions.{PlacedBlock, PlacedFunction, no_function, function_in, at_once, leave_items, start_items, block_items, block_count, graph_of}
use Rattle.asm_program.proofs.GraphLemmas.{below_of}
use Rattle.asm_prices.specs.Bounds.{bounds_of, IsLaidProgram, IsMarked, AreMarked, CountsBelowReach}
use Rattle.asm_prices.proofs.LongLemmas.{like_calls, first_free}
use Rattle.asm_sound.proofs.EmissionLemmas.{beside, start_calls, block_calls, leaving_calls}
use Rattle.asm_prices.proofs.WeightLemmas.{called_le, in_le, reaches_more}
use Rattle.asm_prices.proofs.WorthLemmas.{found, within_count, start_count, function_sum, start_sum, are_worths}
use Rattle.asm_prices.proofs.CountLemmas.{all_of, calls_fall, like_block, like_leaving, like_start, leaving_there, by_number, own_number, start_number, either_function}

abbrev pub tick : Bool → ℕ
tick true = 1
tick false = 0

-- how often an address stands in a list
abbrev pub listed : List ℕ → ℕ → ℕ
listed [] a = 0
listed (b ∷ bs) a = tick (a == b) + listed bs a

one_or_none : (b : Bool) → tick b ≤ 1
one_or_none true = omega arith
one_or_none false = omega arith

if_other : (a b : ℕ) → a ≢ b → tick (a == b) ≡ 0
if_other a b n = let e : (a == b) ≡ false = grind (arith, nat_tests) in ap tick e

listed_none : (bs : List ℕ) (a : ℕ) → ((b : ℕ) → Contains bs b → b ≢ a) → listed bs a ≡ 0
listed_none [] a h = refl
listed_none (b ∷ bs) a h =
    let e = if_other a b (λ q. h b (zero, omega arith, refl) (sym q)) in
    let r = listed_none bs a (λ c has. h c (suc has.0, (let i = has.1 in omega arith), has.2)) in omega arith

listed_or : (bs : List ℕ) (a : ℕ) → Contains bs a ⊎ (listed bs a ≡ 0)
listed_or [] a = inr refl
listed_or (b ∷ bs) a =
    ⊎_elim
    (λ (e : a ≡ b). inl (zero, omega arith, sym e))
    (λ (n : a ≢ b).
    ⊎_elim
    (λ (has : Contains bs a). inl (suc has.0, (let i = has.1 in omega arith), has.2))
    (λ (z : listed bs a ≡ 0). let e = if_other a b n in inr (omega arith))
    (listed_or bs a))
    (cases_eq a b)

listed_once : (bs : List ℕ) (a : ℕ) → AllPairs (λ (b : ℕ) (c : ℕ). b ≢ c) bs → listed bs a ≤ 1
listed_once [] a h = omega arith
listed_once (b ∷ bs) a h =
    ⊎_elim
    (λ (e : a ≡ b).
    let r = listed_none bs a (λ c has q. h zero (suc has.0) c (omega arith) (let i = has.1 in omega arith) (sym e ∙ sym q ∙ sym has.2)) in
    let o = one_or_none (a == b) in omega arith)
    (λ (n : a ≢ b).
    let e = if_other a b n in
    let r = listed_once bs a (λ i j d p q. h (suc i) (suc j) d (omega arith) (omega arith)) in omega arith)
    (cases_eq a b)

-- the counts of addresses, as a total over moves

no_counts : (bs : List ℕ) → int_sum_by (λ b. pos 0) bs ≡ pos 0
no_counts [] = refl
no_counts (b ∷ bs) = let r = no_counts bs in omega (arith, ints)

part : (t : Bool) (z : ℤ) → (if t then z else pos 0) ≡ (z *ℤ pos (tick t))
part true z = omega (arith, ints)
part false z = sym (*ℤ-zero z)

one_move : (bs : List ℕ) (a : ℕ) (z : ℤ) → int_sum_by (λ b. when_same a b z) bs ≡ (z *ℤ pos (listed bs a))
one_move [] a z = sym (*ℤ-zero z)
one_move (b ∷ bs) a z =
    let r = one_move bs a z in
    let e = part (a == b) z in
    let d = mul-add z (pos (tick (a == b))) (pos (listed bs a)) in
    let s : (pos (tick (a == b)) +ℤ pos (listed bs a)) ≡ pos (tick (a == b) + listed bs a) = omega (arith, ints) in
    let t = ap (λ (y : ℤ). z *ℤ y) s in omega (arith, ints)

counts_total : (bs : List ℕ) (x : Amounts) (ms : List Move) → int_sum_by (λ b. count x ms b) bs ≡ total (λ k. pos (listed bs k.at)) x ms
counts_total bs x [] = no_counts bs
counts_total bs x (k ∷ ms) =
    let r = counts_total bs x ms in
    let e = one_move bs k.at (amount x k) in
    let d = int_sum_by-add (λ b. when_same k.at b (amount x k)) (λ b. count x ms b) bs in omega (arith, ints)

two_ways : (a b : ℕ) → a ≢ b → (a < b) ⊎ (b < a)
two_ways a b n = ⊎_elim (λ h. let k = h.1 in inl (omega arith)) (λ h. let k = h.1 in inr (omega arith)) (leb_tells a b)

-- a block with a mark is one of a function of the program
place_there : (p : Placed) (f b mark : ℕ) → mark_of p f b ≡ Some mark → (f < length p.functions) × (b < length (function_in p f).blocks)
place_there p f b mark h = by_function (slice_get p.functions f) refl h
  where
    by_block : (fn : PlacedFunction) (o : Option PlacedBlock) → slice_get fn.blocks b ≡ o → mark_in o ≡ Some mark → b < length fn.blocks
    by_block fn None e h = cc
    by_block fn (Some block) e h = below_of fn.blocks b block e

    by_function : (o : Option PlacedFunction) → slice_get p.functions f ≡ o → mark_in (block_in o b) ≡ Some mark → (f < length p.functions) × (b < length (function_in p f).blocks)
    by_function None e h = cc
    by_function (Some fn) e h =
        let less = below_of p.functions f fn e in
        let q : Some fn ≡ Some (function_in p f) = sym e ∙ found p.functions f no_function less in
        let same : fn ≡ function_in p f = cc in
        (less, subst (λ (x : PlacedFunction). b < length x.blocks) same (by_block fn (slice_get fn.blocks b) refl h))

module _ (m : Memory) (p : Placed) (l : Placing) (image : Image) (claims : Claims) (s : System) (h : IsLaidProgram m p l image claims s) (mark : ℕ) (places : List ℕ) (marked : AreMarked p l mark places) where
  starts : (f b : ℕ) → f < suc (length p.functions) → b < block_count m p f → (n d : ℕ) → n < suc (length p.functions) → d < block_count m p n → start_of l f b ≡ start_of l n d → (f ≡ n) × (b ≡ d)
  starts f b i j n d q r e = starts_apart (graph_of m p) l (code_of image claims) h.laid.shaped h.laid.laid f b n d i j q r e

  -- no block begins within another one
  within_none : (f b n d k : ℕ) → f < suc (length p.functions) → b < block_count m p f → n < suc (length p.functions) → d < block_count m p n → start_of l f b + 1 ≤ k → k < start_of l f b + code.total (block_of l f b) → start_of l n d ≢ k
  within_none f b n d k i j q r low high e =
      let g = graph_of m p in
      let c = code_of image claims in
      let its = in_function g l c h.laid.shaped h.laid.laid (start_of l n d) false n d (known_start g l c h.laid.shaped h.laid.laid n d q r) in
      let its0 = its.0 in
      let its1 = its.1 in
      let up = upward g l c h.laid.shaped h.laid.laid f 0 b i (omega arith) j in
      let ends = ends_within g l c h.laid.shaped h.laid.laid f b j in
      let same : n ≡ f = one_function g l c h.laid.shaped h.laid.laid (start_of l n d) n f q i its0 its1 (omega arith) (omega arith) in
      by_block d (subst (λ x. d < block_count m p x) same r) (ap (λ x. start_of l x d) (sym same) ∙ e)
    where
      by_block : (d : ℕ) → d < block_count m p f → start_of l f d ≡ k → ⊥
      by_block d r e =
          ⊎_elim
          (λ (z : d ≡ b). let t = ap (start_of l f) z in let y : ⊥ = omega arith in y)
          (λ (z : d ≢ b).
          ⊎_elim
          (λ (u : d < b). let t = behind (graph_of m p) l (code_of image claims) h.laid.shaped h.laid.laid f d b i u j in let long = is_long (graph_of m p) l (code_of image claims) h.laid.shaped h.laid.laid f d i r in let y : ⊥ = omega arith in y)
          (λ (u : b < d). let t = behind (graph_of m p) l (code_of image claims) h.laid.shaped h.laid.laid f b d i u r in let y : ⊥ = omega arith in y)
          (two_ways d b z))
          (cases_eq d b)

  is_marked : (a : ℕ) → Contains places a → IsMarked p l mark a
  is_marked a has = All-contains (IsMarked p l mark) places a marked.each has

  free_within : (f b : ℕ) → f < suc (length p.functions) → b < block_count m p f → (k : ℕ) → start_of l f b + 1 ≤ k → k < start_of l f b + code.total (block_of l f b) → listed places k ≡ 0
  free_within f b i j k low high =
      listed_none places k (λ a has e.
      let u = is_marked a has in
      let v = place_there p u.function u.block mark u.marked in
      let there = v.0 in
      within_none f b u.function u.block k i j (omega arith) (within_count m p l h.code u.function u.block v.0 v.1) low high (sym u.is ∙ e))

  -- the mark of the block that begins at an address of it
  marks_here : (f b : ℕ) (block : PlacedBlock) → f < length p.functions → slice_get (function_in p f).blocks b ≡ Some block → listed places (start_of l f b) ≤ marks_once block.mark mark
  marks_here f b block i e =
      let once = listed_once places (start_of l f b) marked.apart in
      ⊎_elim
      (λ (has : Contains places (start_of l f b)).
      let u = is_marked (start_of l f b) has in
      let v = place_there p u.function u.block mark u.marked in
      let there = v.0 in
      let same = starts f b (omega arith) (within_count m p l h.code f b i (below_of (function_in p f).blocks b block e)) u.function u.block (omega arith) (within_count m p l h.code u.function u.block v.0 v.1) u.is in
      let own : mark_of p f b ≡ Some mark = ap (λ n. mark_of p n b) same.0 ∙ ap (mark_of p u.function) same.1 ∙ u.marked in
      let is : mark_of p f b ≡ block.mark = ap (λ o. mark_in (block_in o b)) (found p.functions f no_function i) ∙ ap mark_in e in
      let one : marks_once block.mark mark ≡ 1 = ap (λ o. marks_once o mark) (sym is ∙ own) ∙ self mark in omega arith)
      (λ (z : listed places (start_of l f b) ≡ 0). omega arith)
      (listed_or places (start_of l f b))
    where
      by_test : (b : Bool) (n : ℕ) → b ≡ true → ◌≡◌ {A = ℕ} n (if b then 1 else 0) → n ≡ 1
      by_test true n t e = e
      by_test false n t e = cc

      self : (n : ℕ) → marks_once (Some n) n ≡ 1
      self n = let t : (n == n) ≡ true = grind (arith, nat_tests) in by_test (n == n) (marks_once (Some n) n) t refl

  -- a block that isn't one of a function's own has no mark
  none_here : (f b : ℕ) → f < suc (length p.functions) → b < block_count m p f → ((d : ℕ) → f < length p.functions → d < length (function_in p f).blocks → b ≢ d) → listed places (start_of l f b) ≡ 0
  none_here f b i j other =
      ⊎_elim
      (λ (has : Contains places (start_of l f b)).
      let u = is_marked (start_of l f b) has in
      let v = place_there p u.function u.block mark u.marked in
      let there = v.0 in
      let same = starts f b i j u.function u.block (omega arith) (within_count m p l h.code u.function u.block v.0 v.1) u.is in
      let same0 = same.0 in
      absurd (other u.block (omega arith) (subst (λ n. u.block < length (function_in p n).blocks) (sym same.0) v.1) same.1))
      (λ (z : listed places (start_of l f b) ≡ 0). z)
      (listed_or places (start_of l f b))

  abbrev own_reach : ℕ → ℕ
  own_reach f = reaches p.functions mark (suc f) f

  abbrev reach_worth : ℕ → ℕ
  reach_worth f = by_number m p l h.code (reach p mark) own_reach f

  abbrev reach_prices : Prices
  reach_prices = record { of = listed places; worth = reach_worth; bounds = bounds_of p }

  reach_called : (f b : ℕ) (block : PlacedBlock) → f < length p.functions → slice_get (function_in p f).blocks b ≡ Some block → called reach_worth block.code ≤ called (reaches p.functions mark f) block.code
  reach_called f b block i e =
      called_le reach_worth (reaches p.functions mark f) block.code (λ g has.
      let less = calls_fall m p l h.code f b block i e g has in
      let own = own_number m p l h.code (reach p mark) own_reach g (omega arith) in
      let more = reaches_more p.functions mark (suc g) (f - suc g) g in
      let n : suc g + (f - suc g) ≡ f = omega arith in
      let q = ap (λ k. reaches p.functions mark k g) n in omega arith)

  reach_block : (f b : ℕ) (block : PlacedBlock) → f < length p.functions → slice_get (function_in p f).blocks b ≡ Some block → block_price l reach_prices f b ≤ beside 0 b + (marks_once block.mark mark + called reach_worth block.code)
  reach_block f b block i e =
      let j = within_count m p l h.code f b i (below_of (function_in p f).blocks b block e) in
      let q = first_free reach_worth (listed places) (block_of l f b) (start_of l f b) (free_within f b (omega arith) j) in
      let k = like_calls reach_worth (block_items m p f b block) (block_of l f b) (like_block m p l h.code f b block i e) in
      let c = block_calls m p f reach_worth b block in
      let here = marks_here f b block i e in omega arith

  reach_leaving : (f : ℕ) → f < length p.functions → at_once m p f ≡ false → block_price l reach_prices f (length (function_in p f).blocks) ≤ 0
  reach_leaving f i e =
      let b = length (function_in p f).blocks in
      let j = leaving_there m p l h.code f i e in
      let q = first_free reach_worth (listed places) (block_of l f b) (start_of l f b) (free_within f b (omega arith) j) in
      let k = like_calls reach_worth (leave_items m p f true 0) (block_of l f b) (like_leaving m p l h.code f i e) in
      let c = leaving_calls m p f reach_worth in
      let none = none_here f b (omega arith) j (λ d less within same. let y : ⊥ = omega arith in y) in omega arith

  reach_function : (f : ℕ) → f < length p.functions → worths.repeated (block_price l reach_prices f) (bounds_of p f) 0 (block_count m p f) ≤ reach_worth f
  reach_function f i =
      let sum = function_sum m p l h.code (block_price l reach_prices f) (λ b. marks_once b.mark mark + called reach_worth b.code) 0 0 f i (λ b block e. reach_block f b block i e) (reach_leaving f i) in
      let more = in_le (λ b. marks_once b.mark mark + called reach_worth b.code) (λ b. marks_once b.mark mark + called (reaches p.functions mark f) b.code) (function_in p f) (λ b block e. let q = reach_called f b block i e in omega arith) in
      let own = own_number m p l h.code (reach p mark) own_reach f i in
      let is = ap (λ o. repeated_in (λ b. marks_once b.mark mark + called (reaches p.functions mark f) b.code) o) (found p.functions f no_function i) in omega arith

  reach_start : worths.repeated (block_price l reach_prices (length p.functions)) (bounds_of p (length p.functions)) 0 (block_count m p (length p.functions)) ≤ reach_worth (length p.functions)
  reach_start =
      let f = length p.functions in
      let sum = start_sum m p l h.code (block_price l reach_prices f) in
      let count_is = start_count m p l h.code in
      let q = first_free reach_worth (listed places) (block_of l f 0) (start_of l f 0) (free_within f 0 (omega arith) (omega arith)) in
      let k = like_calls reach_worth (slice_index_or (start_items m.second p.main) 0 []) (block_of l f 0) (like_start m p l h.code) in
      let c = start_calls reach_worth m.second p.main in
      let none = none_here f 0 (omega arith) (omega arith) (λ d less within same. let y : ⊥ = omega arith in y) in
      let main = own_number m p l h.code (reach p mark) own_reach p.main h.code.program.main in
      let own = start_number m p l h.code (reach p mark) own_reach in omega arith

  pub reach_worths : AreWorths (graph_of m p) l reach_prices
  reach_worths = are_worths m p l h.code reach_prices (λ f. refl) (either_function m p l h.code (λ f. worths.repeated (block_price l reach_prices f) (bounds_of p f) 0 (block_count m p f) ≤ reach_worth f) reach_start reach_function)

  pub bounded : (unit : ℕ) (x : Amounts) → IsLoose s unit x → int_sum_by (λ a. count x s.moves a) places ≤ℤ (pos unit *ℤ pos (reach p mark))
  bounded unit x loose =
      let law = loose_flows_bounded (graph_of m p) l (length p.functions) image claims s reach_prices
      (record { laid = h.laid; system = h.system; worths = reach_worths; bounds = h.bounds })
      (λ k. pos (listed places k.at)) (all_of (λ (k : Move). pos (listed places k.at) ≤ℤ pos (listed places k.at)) s.moves (λ k has. omega (arith, ints))) unit x loose in
      let e = ap (λ n. pos unit *ℤ pos n) (start_number m p l h.code (reach p mark) own_reach) in
      let c = counts_total places x s.moves in omega (arith, ints)

pub counts_below_reach : CountsBelowReach
counts_below_reach m p l image claims s h unit x loose mark places marked = bounded m p l image claims s h mark places marked unit x loose
