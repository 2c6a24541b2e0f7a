-- The counts of a loose flow of a low program's code: its weight bounds them all.
use Rattle.std.proofs.Common.{◌≡◌, ◌≢◌, ⊎_elim, ℕ, zero, suc, ◌+◌, ◌-◌, ◌<◌, ◌≤◌, pos, ◌*ℤ◌, ◌≤ℤ◌, true, false, List, [], ◌∷◌, length, All, Contains, Some, refl, sym, ap, ◌∙◌, subst, arith}
use Rattle.std.specs.Prelude.{◌==◌, slice_get, slice_index_or, if◌then◌else◌}
use Rattle.std.proofs.lemmas.Bool.{cases_eq}
use Rattle.std.proofs.lemmas.Bool.Decides.{nat_tests}
use Rattle.std.proofs.lemmas.Int.{ints}
use Rattle.std.proofs.lemmas.List.Elements.{All-contains, All-contains_itself, All-weaker, Contains-append_left, Contains-append_right}
use Rattle.code_flow_system.specs.declared.moves.Move.{Move}
use Rattle.asm_items.specs.Placings.{Placing, block_of, start_of}
use Rattle.asm_writing.specs.Forms.{AreLike}
use Rattle.asm_prices.specs.Worths.{Prices, block_price, AreWorths}
use Rattle.asm_prices.specs.Worths as worths
use Rattle.asm_prices.proofs.BoundLemmas.{loose_flows_bounded}
use Rattle.low_ir.specs.Room.{block_room, called, repeated_in, weights, weight}
use Rattle.low_ir.specs.Places.{Placed}
use Rattle.asm_program.specs.Frames.{Memory}
use Rattle.asm_program.specs.Functions.{PlacedBlock, PlacedFunction, callees_in, all_callees, no_function, function_in, at_once, leave_items, start_items, block_items, block_count, graph_of}
use Rattle.asm_program.specs.Laws.{AreWords}
use Rattle.asm_program.proofs.GraphLemmas.{below_of, function_at}
use Rattle.asm_program.proofs.ItemLemmas.{of_block}
use Rattle.asm_prices.specs.Bounds.{bounds_of, HasCode, CountsBelowWeight}
use Rattle.asm_prices.proofs.LongLemmas.{like_once}
use Rattle.asm_sound.proofs.EmissionLemmas.{beside, start_long, start_total, start_calls, block_long, block_calls, block_total, leaving_long, leaving_total, leaving_calls}
use Rattle.asm_prices.proofs.WeightLemmas.{called_le, in_le, weights_more}
use Rattle.asm_prices.proofs.WorthLemmas.{found, among, not_start, leaving_at, start_at, within_count, count_of, start_count, function_sum, start_sum, are_worths}

-- what a block calls, its function calls
callee_of_block : (bs : List PlacedBlock) (n : ℕ) (block : PlacedBlock) (g : ℕ) → slice_get bs n ≡ Some block → Contains (callees_in block.code) g → Contains (all_callees bs) g
callee_of_block [] n block g e has = cc
callee_of_block (b ∷ bs) zero block g e has = let same : b ≡ block = cc in Contains-append_left (callees_in b.code) (all_callees bs) g (subst (λ (x : PlacedBlock). Contains (callees_in x.code) g) (sym same) has)
callee_of_block (b ∷ bs) (suc n) block g e has = Contains-append_right (callees_in b.code) (all_callees bs) g (callee_of_block bs n block g e has)

pub all_of : {A : Type 0} (P : A → Type 0) (xs : List A) → ((x : A) → Contains xs x → P x) → All P xs
all_of P xs f = All-weaker (Contains xs) P f xs (All-contains_itself xs)

module _ (m : Memory) (p : Placed) (l : Placing) (h : HasCode m p l) where
  is_start : (length p.functions == length p.functions) ≡ true
  is_start = grind (arith, nat_tests)

  pub calls_fall : (f b : ℕ) (block : PlacedBlock) → f < length p.functions → slice_get (function_in p f).blocks b ≡ Some block → (g : ℕ) → Contains (callees_in block.code) g → g < f
  calls_fall f b block i e g has = let r = function_at m p h.program f i in r.calls g (callee_of_block (function_in p f).blocks b block g e has)

  pub like_block : (f b : ℕ) (block : PlacedBlock) → f < length p.functions → slice_get (function_in p f).blocks b ≡ Some block → AreLike (block_items m p f b block) (block_of l f b)
  like_block f b block i e = subst (λ xs. AreLike xs (block_of l f b)) (of_block m p f b block i e) (h.like f b (omega arith) (within_count m p l h f b i (below_of (function_in p f).blocks b block e)))

  pub leaving_there : (f : ℕ) → f < length p.functions → at_once m p f ≡ false → length (function_in p f).blocks < block_count m p f
  leaving_there f i e = let n = count_of m p l h f i ∙ ap (λ b. length (function_in p f).blocks + (if b then 0 else 1)) e in omega arith

  pub like_leaving : (f : ℕ) → f < length p.functions → at_once m p f ≡ false → AreLike (leave_items m p f true 0) (block_of l f (length (function_in p f).blocks))
  like_leaving f i e = subst (λ xs. AreLike xs (block_of l f (length (function_in p f).blocks))) (leaving_at m p l h f i e) (h.like f (length (function_in p f).blocks) (omega arith) (leaving_there f i e))

  pub like_start : AreLike (slice_index_or (start_items m.second p.main) 0 []) (block_of l (length p.functions) 0)
  like_start = subst (λ xs. AreLike xs (block_of l (length p.functions) 0)) (start_at m p l h) (h.like (length p.functions) 0 (omega arith) (let e = start_count m p l h in omega arith))

  -- a worth for each function, and one for the start code
  abbrev pub by_number : ℕ → (ℕ → ℕ) → ℕ → ℕ
  by_number start own f = if f == length p.functions then start else own f

  pub own_number : (start : ℕ) (own : ℕ → ℕ) (f : ℕ) → f < length p.functions → by_number start own f ≡ own f
  own_number start own f i = ap (λ b. if b then start else own f) (not_start m p l h f i)

  pub start_number : (start : ℕ) (own : ℕ → ℕ) → by_number start own (length p.functions) ≡ start
  start_number start own = ap (λ b. if b then start else own (length p.functions)) is_start

  pub either_function : (P : ℕ → Type 0) → P (length p.functions) → ((f : ℕ) → f < length p.functions → P f) → (f : ℕ) → f < suc (length p.functions) → P f
  either_function P at_start own f i = ⊎_elim (λ (e : f ≡ length p.functions). subst P (sym e) at_start) (λ (d : f ≢ length p.functions). own f (omega arith)) (cases_eq f (length p.functions))

  -- the worth of functions by the weight

  -- a call of a function may execute so much; the start code takes what a frame's room has left
  abbrev own_weight : ℕ → ℕ
  own_weight f = weights p.functions (suc f) f - 9

  abbrev weight_worth : ℕ → ℕ
  weight_worth f = by_number (weight p) own_weight f

  abbrev weight_prices : Prices
  weight_prices = record { of = λ a. 1; worth = weight_worth; bounds = bounds_of p }

  weight_called : (f b : ℕ) (block : PlacedBlock) → f < length p.functions → slice_get (function_in p f).blocks b ≡ Some block → called weight_worth block.code ≤ called (weights p.functions f) block.code
  weight_called f b block i e =
      called_le weight_worth (weights p.functions f) block.code (λ g has.
      let less = calls_fall f b block i e g has in
      let own = own_number (weight p) own_weight g (omega arith) in
      let more = weights_more p.functions (suc g) (f - suc g) g in
      let n : suc g + (f - suc g) ≡ f = omega arith in
      let q = ap (λ k. weights p.functions k g) n in omega arith)

  words_in : (f b : ℕ) (block : PlacedBlock) → f < length p.functions → slice_get (function_in p f).blocks b ≡ Some block → All AreWords block.code
  words_in f b block i e =
      All-contains (λ (x : PlacedBlock). All AreWords x.code) (function_in p f).blocks block
      (All-contains (λ (x : PlacedFunction). All (λ (y : PlacedBlock). All AreWords y.code) x.blocks) p.functions (function_in p f) h.words (among p.functions f (function_in p f) (found p.functions f no_function i)))
      (among (function_in p f).blocks b block e)

  weight_block : (f b : ℕ) (block : PlacedBlock) → f < length p.functions → slice_get (function_in p f).blocks b ≡ Some block → block_price l weight_prices f b ≤ beside 27 b + (block_room block + called weight_worth block.code)
  weight_block f b block i e =
      let q = like_once weight_worth (block_items m p f b block) (block_of l f b) (start_of l f b) (block_long m p f b block) (like_block f b block i e) in
      let s = block_total m p f b block (h.saved f) (words_in f b block i e) in
      let c = block_calls m p f weight_worth b block in omega arith

  weight_leaving : (f : ℕ) → f < length p.functions → at_once m p f ≡ false → block_price l weight_prices f (length (function_in p f).blocks) ≤ 28
  weight_leaving f i e =
      let q = like_once weight_worth (leave_items m p f true 0) (block_of l f (length (function_in p f).blocks)) (start_of l f (length (function_in p f).blocks)) (leaving_long m p f) (like_leaving f i e) in
      let s = leaving_total m p f (h.saved f) in
      let c = leaving_calls m p f weight_worth in omega arith

  weight_function : (f : ℕ) → f < length p.functions → worths.repeated (block_price l weight_prices f) (bounds_of p f) 0 (block_count m p f) ≤ weight_worth f
  weight_function f i =
      let sum = function_sum m p l h (block_price l weight_prices f) (λ b. block_room b + called weight_worth b.code) 27 28 f i (λ b block e. weight_block f b block i e) (weight_leaving f i) in
      let more = in_le (λ b. block_room b + called weight_worth b.code) (λ b. block_room b + called (weights p.functions f) b.code) (function_in p f) (λ b block e. let q = weight_called f b block i e in omega arith) in
      let own = own_number (weight p) own_weight f i in
      let is = ap (λ o. 64 + repeated_in (λ b. block_room b + called (weights p.functions f) b.code) o) (found p.functions f no_function i) in omega arith

  weight_start : worths.repeated (block_price l weight_prices (length p.functions)) (bounds_of p (length p.functions)) 0 (block_count m p (length p.functions)) ≤ weight_worth (length p.functions)
  weight_start =
      let sum = start_sum m p l h (block_price l weight_prices (length p.functions)) in
      let q = like_once weight_worth (slice_index_or (start_items m.second p.main) 0 []) (block_of l (length p.functions) 0) (start_of l (length p.functions) 0) (start_long m.second p.main) like_start in
      let s = start_total m.second p.main in
      let c = start_calls weight_worth m.second p.main in
      let main = own_number (weight p) own_weight p.main h.program.main in
      let own = start_number (weight p) own_weight in
      let some : weights p.functions (suc p.main) p.main ≡ 64 + repeated_in (λ b. block_room b + called (weights p.functions p.main) b.code) (slice_get p.functions p.main) = refl in omega arith

  pub weight_worths : AreWorths (graph_of m p) l weight_prices
  weight_worths = are_worths m p l h weight_prices (λ f. refl) (either_function (λ f. worths.repeated (block_price l weight_prices f) (bounds_of p f) 0 (block_count m p f) ≤ weight_worth f) weight_start weight_function)

pub counts_below_weight : CountsBelowWeight
counts_below_weight m p l image claims s h unit x loose =
    let law = loose_flows_bounded (graph_of m p) l (length p.functions) image claims s (weight_prices m p l h.code)
    (record { laid = h.laid; system = h.system; worths = weight_worths m p l h.code; bounds = h.bounds })
    (λ k. pos 1) (all_of (λ (k : Move). pos 1 ≤ℤ pos 1) s.moves (λ k has. omega (arith, ints))) unit x loose in
    let e = ap (λ n. pos unit *ℤ pos n) (start_number m p l h.code (weight p) (own_weight m p l h.code)) in omega (arith, ints)
