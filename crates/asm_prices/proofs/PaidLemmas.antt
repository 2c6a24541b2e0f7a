-- Each move of laid code is paid: its price, and what its arrivals are worth.
use Rattle.std.proofs.Common.{◌≡◌, ◌≢◌, ◌⊎◌, ⊎_elim, inl, inr, ℕ, zero, suc, ◌+◌, ◌-◌, ◌*◌, ◌<◌, ◌≤◌, ℤ, pos, ◌+ℤ◌, ◌≤ℤ◌, Bool, true, false, List, ◌++◌, length, Contains, Option, Some, None, refl, sym, ap, ◌∙◌, subst, arith}
use Rattle.std.specs.Option.{option_to_list}
use Rattle.std.proofs.lemmas.Bool.{cases_eq}
use Rattle.std.proofs.lemmas.Bool.Decides.{leb_tells}
use Rattle.std.proofs.lemmas.Int.{ints}
use Rattle.std.proofs.lemmas.List.Elements.{All-contains}
use Rattle.frac128.specs.Terms.{int_sum_by, coefficient}
use Rattle.code_flow_system.specs.declared.claims.LoopClaim.{LoopClaim}
use Rattle.code_flow_system.specs.declared.moves.Move.{Move}
use Rattle.code_flow_system.specs.Moves.{Code, moves_at}
use Rattle.code_flow_system.specs.Shapes.{onward, onward_by}
use Rattle.asm_items.specs.Placings.{Placing, block_of, start_of}
use Rattle.asm_graphs.specs.Graphs.{Loop, Graph, IsShaped}
use Rattle.asm_graphs.specs.Laid.{IsLaid, last_of}
use Rattle.asm_graphs.proofs.ReachedLemmas.{moves_good, ends_within, callee_in}
use Rattle.asm_graphs.proofs.RangeLemmas.{Known, Well, known_start, from, upto, behind, upward, is_long, in_function, one_function}
use Rattle.asm_graphs.proofs.BackLemmas.{goes_up}
use Rattle.loop_prices.specs.LoopPrices.{turns_at, starts_from}
use Rattle.asm_prices.specs.Worths.{LoopBound, Prices, AreWorths, BoundsLoop, AreBounds}
use Rattle.asm_prices.proofs.RepeatLemmas.{repeats, sum_from, step_pays, into_pays, back_pays, AllSame, NoneInto, Entered, head_of, head_is, head_has}
use Rattle.asm_prices.proofs.NestLemmas.{in_graph, of_graph, onward_into, backward_same, entered_among, entered_head, none_head, first_head}
use Rattle.asm_prices.proofs.RowLemmas.{pay, rest, rest_falls, rest_next, word_covers, length-word_prices}
use Rattle.asm_prices.proofs.CallLemmas.{Comes, block_comes}
use Rattle.asm_prices.proofs.ValueLemmas.{first-valued, later-valued, prices, cost, later, left, first, turn, turn_by, places, apart, place_at, full, plain_first, head_first, head_turn, row_cost, entry_worth}
use Rattle.asm_prices.proofs.TurnLemmas.{Ascend, turns_positive, starts_from_none, turns_of, turns_known, starts_one, starts_back, plain_start}

sum_scaled : (m : ℕ) (g : ℕ → ℕ) (a n : ℕ) → sum_from (λ t. m * g t) a n ≡ m * sum_from g a n
sum_scaled m g a zero = omega arith
sum_scaled m g a (suc n) = let k = sum_scaled m g (suc a) n in let d : m * (g a + sum_from g (suc a) n) ≡ m * g a + m * sum_from g (suc a) n = grind arith in omega arith

two_ways : (a b : ℕ) → a ≢ b → (a < b) ⊎ (b < a)
two_ways a b n = ⊎_elim (λ h. let k = h.1 in inl (omega arith)) (λ h. let k = h.1 in inr (omega arith)) (leb_tells a b)

module _ (g : Graph) (l : Placing) (c : Code) (sh : IsShaped g) (laid : IsLaid g l c) (p : Prices) (w : AreWorths g l p) (cs : List LoopClaim) (bounds : AreBounds g l p.bounds cs) (up : Ascend cs) where
  abbrev pub turns : List ℕ
  turns = turns_of g l c sh laid p w cs bounds.each

  abbrev IsHere : ℕ → Bool → ℕ → ℕ → Type 0
  IsHere a low f b = Known g l c sh laid a low f b

  -- the worth of an address, with that of the loops that a move from another one starts there
  abbrev pub arrival : ℕ → ℕ → ℤ
  arrival from d = coefficient (places g l p) d +ℤ starts_from cs turns from d

  abbrev pub leaving : ℕ → ℤ
  leaving a = coefficient (places g l p) a +ℤ turns_at cs turns a

  turn_there : (f b : ℕ) → f < g.functions → b < g.blocks f → pos (turn g l p f b) ≤ℤ turns_at cs turns (start_of l f b)
  turn_there f b i j = by_case (head_of (p.bounds f) b) refl
    where
      by_case : (o : Option LoopBound) → head_of (p.bounds f) b ≡ o → pos (turn g l p f b) ≤ℤ turns_at cs turns (start_of l f b)
      by_case None e =
          let z : turn g l p f b ≡ 0 = ap (λ o. turn_by g l p o f b) e in
          let r = turns_positive cs turns (start_of l f b) in omega (arith, ints)
      by_case (Some k) e =
          let has = head_has (p.bounds f) b k e in
          let claim = bounds.every f k i has.0 in
          turns_known g l c sh laid p w cs bounds.each claim.0 f b i j claim.1 (claim.2 ∙ ap (start_of l f) has.1)

  -- a word pays for itself, for what is left of its block and for what comes behind
  leaves : (f b k : ℕ) → f < g.functions → b < g.blocks f → k < length (prices g l p f b) → pos (rest (prices g l p f b) k + later g l p f b) ≤ℤ leaving (start_of l f b + 4 * k)
  leaves f b zero i j h =
      let place = place_at g l p c sh laid w f b 0 i j h in
      let value = first-valued (first g l p f b) (later g l p f b) (prices g l p f b) h in
      let all = full g l p c sh laid w f b j in
      let row = row_cost g l p c sh laid w f b in
      let at : start_of l f b + 4 * 0 ≡ start_of l f b = omega arith in
      let t = turn_there f b i j in
      let q = ap (turns_at cs turns) at in omega (arith, ints)
  leaves f b (suc k) i j h =
      let place = place_at g l p c sh laid w f b (suc k) i j h in
      let value = later-valued (first g l p f b) (later g l p f b) (prices g l p f b) (suc k) (omega arith) h in
      let t = turns_positive cs turns (start_of l f b + 4 * suc k) in omega (arith, ints)

  -- within a block no loop is started
  within_none : (f b k : ℕ) → f < g.functions → b < g.blocks f → 0 < k → k < length (prices g l p f b) → (x : LoopClaim) → Contains cs x → x.header ≢ start_of l f b + 4 * k
  within_none f b k i j some h x has is =
      let own = All-contains (BoundsLoop g l p.bounds) cs x bounds.each has in
      let in_g = in_graph g sh own.function (p.bounds own.function) (w.loops own.function) (apart g l p c sh laid w own.function) own.bound own.among in
      let range = sh.range own.function own.bound.loop in_g in
      let last = sh.last own.function own.bound.loop in_g in
      let there : own.bound.loop.header < g.blocks own.function = omega arith in
      let e : start_of l own.function own.bound.loop.header ≡ start_of l f b + 4 * k = sym own.header ∙ is in
      let its = in_function g l c sh laid (start_of l own.function own.bound.loop.header) false own.function own.bound.loop.header (known_start g l c sh laid own.function own.bound.loop.header own.there there) in
      let its0 = its.0 in
      let its1 = its.1 in
      let size = length-word_prices p.of p.worth (block_of l f b) (start_of l f b) in
      let low = upward g l c sh laid f 0 b i (omega arith) j in
      let ends = ends_within g l c sh laid f b j in
      let same : own.function ≡ f = one_function g l c sh laid (start_of l own.function own.bound.loop.header) own.function f own.there i its0 its1 (omega arith) (omega arith) in
      by_block own.bound.loop.header (subst (λ n. own.bound.loop.header < g.blocks n) same there) (ap (λ n. start_of l n own.bound.loop.header) (sym same) ∙ e)
    where
      by_block : (d : ℕ) → d < g.blocks f → start_of l f d ≡ start_of l f b + 4 * k → ⊥
      by_block d q e =
          let size = length-word_prices p.of p.worth (block_of l f b) (start_of l f b) in
          ⊎_elim
          (λ (z : d ≡ b). let s = ap (start_of l f) z in let y : ⊥ = omega arith in y)
          (λ (z : d ≢ b).
          ⊎_elim
          (λ (u : d < b). let r = behind g l c sh laid f d b i u j in let long = is_long g l c sh laid f d i q in let y : ⊥ = omega arith in y)
          (λ (u : b < d). let r = behind g l c sh laid f b d i u q in let y : ⊥ = omega arith in y)
          (two_ways d b z))
          (cases_eq d b)

  arrives_within : (a f b k : ℕ) → f < g.functions → b < g.blocks f → 0 < k → k < length (prices g l p f b) → arrival a (start_of l f b + 4 * k) ≤ℤ pos (rest (prices g l p f b) k + later g l p f b)
  arrives_within a f b k i j some h =
      let place = place_at g l p c sh laid w f b k i j h in
      let value = later-valued (first g l p f b) (later g l p f b) (prices g l p f b) k some h in
      let none = starts_from_none cs turns a (start_of l f b + 4 * k) (within_none f b k i j some h) in omega (arith, ints)

  some_row : (f b : ℕ) → f < g.functions → b < g.blocks f → 0 < length (prices g l p f b)
  some_row f b i j = let long = is_long g l c sh laid f b i j in let size = length-word_prices p.of p.worth (block_of l f b) (start_of l f b) in omega arith

  first_place : (f b : ℕ) → f < g.functions → b < g.blocks f → coefficient (places g l p) (start_of l f b) ≡ pos (first g l p f b)
  first_place f b i j =
      let at : start_of l f b + 4 * 0 ≡ start_of l f b = omega arith in
      sym (ap (coefficient (places g l p)) at) ∙ place_at g l p c sh laid w f b 0 i j (some_row f b i j) ∙ ap pos (first-valued (first g l p f b) (later g l p f b) (prices g l p f b) (some_row f b i j))

  -- on to a later block
  arrives_on : (a f b n : ℕ) → f < g.functions → b < g.blocks f → n < g.blocks f → Contains (g.follows f b) n → b < n → arrival a (start_of l f n) ≤ℤ pos (later g l p f b)
  arrives_on a f b n i j q goes less =
      ⊎_elim
      (λ (h : NoneInto b n (p.bounds f)).
      let none = none_head g sh f (p.bounds f) (w.loops f) (apart g l p c sh laid w f) b n less h in
      let place = first_place f n i q in
      let value = plain_first g l p c sh laid w f n none q in
      let starts = starts_from_none cs turns a (start_of l f n) (plain_start g l c sh laid p w cs bounds.each f n i q none) in
      let pays = step_pays (p.bounds f) (cost g l p f) b n (g.blocks f - suc b) (g.blocks f - n) less (omega arith) h in omega (arith, ints))
      (λ (h : Entered b n (p.bounds f)).
      let k = h.loop in
      let among = entered_among g sh f (p.bounds f) (w.loops f) (apart g l p c sh laid w f) b n h in
      let head = entered_head g sh f (p.bounds f) (w.loops f) (apart g l p c sh laid w f) b n h in
      let last = sh.last f k.loop (in_graph g sh f (p.bounds f) (w.loops f) (apart g l p c sh laid w f) k among) in
      let place = first_place f n i q in
      let value = head_first g l p c sh laid w f n k head in
      let worth = head_turn g l p c sh laid w f n k head in
      let is = h.first in
      let out = h.out in
      let to = h.last in
      let one = starts_one g l c sh laid p w cs bounds.each a f k up i among in
      let here = ap (λ d. starts_from cs turns a (start_of l f d)) is in
      let there = ap (λ d. k.most * turn g l p f d) is in
      let scaled = sum_scaled k.most (λ t. cost g l p f t * repeats (p.bounds f) n t) n (suc k.loop.latch - n) in
      let by = ap (λ d. k.most * d) worth in
      let pays = into_pays (p.bounds f) (cost g l p f) k b n (g.blocks f - suc b) (suc k.loop.latch - n) (g.blocks f - suc k.loop.latch) out (omega arith) (omega arith) (omega arith) h.only in omega (arith, ints))
      (onward_into g sh f (p.bounds f) (w.loops f) (apart g l p c sh laid w f) b n goes less)

  -- back to a header, from the jump back of its loop
  arrives_back : (a f b n : ℕ) (z : Loop) → f < g.functions → n < g.blocks f → Contains (g.loops f) z → b ≡ z.latch → n ≡ z.header → a ≡ last_of l f b → arrival a (start_of l f n) ≤ℤ pos (later g l p f b)
  arrives_back a f b n z i q has latch header last =
      let r = of_graph g sh f (p.bounds f) (w.loops f) (apart g l p c sh laid w f) z has in
      let k = r.0 in
      let hi : b ≡ k.loop.latch = latch ∙ sym (ap (λ (x : Loop). x.latch) r.2) in
      let lo : n ≡ k.loop.header = header ∙ sym (ap (λ (x : Loop). x.header) r.2) in
      let head : head_of (p.bounds f) n ≡ Some k = ap (head_of (p.bounds f)) lo ∙ head_is (p.bounds f) k (apart g l p c sh laid w f) r.1 in
      let in_g = in_graph g sh f (p.bounds f) (w.loops f) (apart g l p c sh laid w f) k r.1 in
      let range = sh.range f k.loop in_g in
      let most = sh.last f k.loop in_g in
      let place = first_place f n i q in
      let value = head_first g l p c sh laid w f n k head in
      let back = starts_back g l c sh laid p w cs bounds.each a f k i r.1 (last ∙ ap (last_of l f) hi) in
      let here = ap (λ d. starts_from cs turns a (start_of l f d)) lo in
      let pays = back_pays (p.bounds f) (cost g l p f) k b n (g.blocks f - suc b) (g.blocks f - suc k.loop.latch) (omega arith) (omega arith) (omega arith)
      (λ t above. subst (λ d. AllSame d b t (p.bounds f)) (sym lo) (backward_same g sh f (p.bounds f) (w.loops f) (apart g l p c sh laid w f) k b t r.1 (omega arith) (omega arith) above)) in
      omega (arith, ints)

  -- a call of a function
  arrives_called : (a f : ℕ) → f < g.functions → arrival a (start_of l f 0) ≤ℤ pos (p.worth f)
  arrives_called a f i =
      let none = first_head g sh f (p.bounds f) (w.loops f) (apart g l p c sh laid w f) in
      let place = first_place f 0 i (sh.some f i) in
      let starts = starts_from_none cs turns a (start_of l f 0) (plain_start g l c sh laid p w cs bounds.each f 0 i (sh.some f i) none) in
      let worth = entry_worth g l p c sh laid w f i in omega (arith, ints)

  -- where a known word stands in its block
  pub record IsWordAt (a f b : ℕ) : Type 0 where
    pub place : ℕ
    pub in_row : place < length (prices g l p f b)
    pub is : a ≡ start_of l f b + 4 * place
    pub paid : p.of a ≤ pay (prices g l p f b) place

  pub word_at : (a : ℕ) (low : Bool) (f b : ℕ) → IsHere a low f b → IsWordAt a f b
  word_at a low f b k =
      let h = word_covers p.of p.worth (block_of l f b) (start_of l f b) a low k.word in
      let q = h.paid in record { place = h.place; in_row = h.in_row; is = h.is; paid = omega arith }

  -- the last word of a block stands in no other
  at_last : (a : ℕ) (low : Bool) (f b d : ℕ) → IsHere a low f b → d < g.blocks f → a ≡ last_of l f d → d ≡ b
  at_last a low f b d k q e =
      let low_is = from g l c sh laid a low f b k in
      let high_is = upto g l c sh laid a low f b k in
      let long = is_long g l c sh laid f d k.function q in
      ⊎_elim
      (λ (z : d ≡ b). z)
      (λ (z : d ≢ b).
      ⊎_elim
      (λ (u : d < b). let r = behind g l c sh laid f d b k.function u k.block in absurd (omega arith))
      (λ (u : b < d). let r = behind g l c sh laid f b d k.function u q in absurd (omega arith))
      (two_ways d b z))
      (cases_eq d b)

  -- where a move goes on within its function
  pub arrives_onward : (a t : ℕ) (low : Bool) (f b : ℕ) (m : Move) (k : IsHere a low f b) (at : IsWordAt a f b) → Contains (moves_at c a) m → Contains (onward m) t → arrival a t ≤ℤ pos (left g l p f b at.place)
  arrives_onward a t low f b m k at has on = by_way ((moves_good g l c sh laid a low f b k m has).onward t on)
    where
      inner : (second : Bool) → a < t → IsHere t second f b → arrival a t ≤ℤ pos (left g l p f b at.place)
      inner second less there =
          let v = word_at t second f b there in
          let is = at.is in
          let to = v.is in
          let falls = rest_falls (prices g l p f b) (suc at.place) v.place (omega arith) in
          let r = arrives_within a f b v.place k.function k.block (omega arith) v.in_row in
          let e = ap (arrival a) to in omega (arith, ints)

      back : (n : ℕ) → n < g.blocks f → t ≡ start_of l f n → (z : Loop) → Contains (g.loops f) z → b ≡ z.latch → n ≡ z.header → (a < t) ⊎ ((y : Loop) × Contains (g.loops f) y × (a ≡ last_of l f y.latch)) → arrival a t ≤ℤ pos (later g l p f b)
      back n q e z has_z latch header (inl less) =
          let range = sh.range f z has_z in
          let low_is = from g l c sh laid a low f b k in
          let u = upward g l c sh laid f n b k.function (omega arith) k.block in absurd (omega arith)
      back n q e z has_z latch header (inr y) =
          let is = at_last a low f b y.0.latch k (sh.last f y.0 y.1) y.2 in
          let r = arrives_back a f b n z k.function q has_z latch header (y.2 ∙ ap (last_of l f) is) in
          let s = ap (arrival a) e in omega (arith, ints)

      follows : (n : ℕ) → Contains (g.follows f b) n → t ≡ start_of l f n → (b < n) ⊎ ((z : Loop) × Contains (g.loops f) z × (b ≡ z.latch) × (n ≡ z.header)) → arrival a t ≤ℤ pos (later g l p f b)
      follows n goes e (inl less) = let r = arrives_on a f b n k.function k.block (sh.stays f b n goes) goes less in let s = ap (arrival a) e in omega (arith, ints)
      follows n goes e (inr z) = back n (sh.stays f b n goes) e z.0 z.1 z.2 z.3 (goes_up g l c sh laid a t low f b m k has on)

      by_way : Well g l c sh laid f b a t → arrival a t ≤ℤ pos (left g l p f b at.place)
      by_way (inl q) = inner false q.0 (record { function = k.function; block = k.block; word = q.1 })
      by_way (inr (inl q)) = let e = q.0 in inner true (omega arith) (record { function = k.function; block = k.block; word = q.1 })
      by_way (inr (inr q)) = let r = follows q.0 q.1 q.2 (sh.up f b q.0 q.1) in omega (arith, ints)

  comes : (a : ℕ) (low : Bool) (f b : ℕ) (m : Move) → IsHere a low f b → Contains (moves_at c a) m → Comes c (start_of l) f (g.calls f) laid.places p.of p.worth (prices g l p f b) (start_of l f b) a m
  comes a low f b m k has =
      let room = laid.room f k.function in
      let ends = ends_within g l c sh laid f b k.block in
      let at = laid.places f b in
      block_comes c (start_of l) f (g.calls f) laid.places p.of p.worth (g.follows f b) b (block_of l f b) (start_of l f b) a low m
      (record { aligned = at.aligned; room = omega arith; stands = laid.stands f b k.function k.block; keeps = laid.keeps f b k.function k.block })
      k.word has

  abbrev pub PaidBy : ℤ → ℕ → Option ℕ → Option ℕ → Type 0
  PaidBy price a to back = (price +ℤ int_sum_by (λ d. coefficient (places g l p) d +ℤ starts_from cs turns a d) (option_to_list to ++ option_to_list back)) ≤ℤ leaving a

  paid_by : (price : ℤ) (a : ℕ) (f b : ℕ) (i : f < g.functions) (j : b < g.blocks f) (at : IsWordAt a f b) → price ≤ℤ pos (p.of a) → (to back : Option ℕ) →
      ((t : ℕ) → Contains (onward_by to back) t → arrival a t ≤ℤ pos (left g l p f b at.place)) →
      ((t u : ℕ) → to ≡ Some t → back ≡ Some u → (callee : ℕ) × (callee < g.functions) × (t ≡ start_of l callee 0) × (p.of a + p.worth callee ≤ pay (prices g l p f b) at.place)) → PaidBy price a to back
  paid_by price a f b i j at cheap to back on call = by_case to back on call
    where
      leave : pos (pay (prices g l p f b) at.place + left g l p f b at.place) ≤ℤ leaving a
      leave =
          let r = leaves f b at.place i j at.in_row in
          let n = rest_next (prices g l p f b) at.place at.in_row in
          let e = ap leaving at.is in omega (arith, ints)

      by_case : (to back : Option ℕ) →
          ((t : ℕ) → Contains (onward_by to back) t → arrival a t ≤ℤ pos (left g l p f b at.place)) →
          ((t u : ℕ) → to ≡ Some t → back ≡ Some u → (callee : ℕ) × (callee < g.functions) × (t ≡ start_of l callee 0) × (p.of a + p.worth callee ≤ pay (prices g l p f b) at.place)) → PaidBy price a to back
      by_case None None on call = let h = leave in let q = at.paid in omega (arith, ints)
      by_case (Some t) None on call = let h = leave in let q = at.paid in let r = on t (zero, omega arith, refl) in omega (arith, ints)
      by_case None (Some u) on call = let h = leave in let q = at.paid in let r = on u (zero, omega arith, refl) in omega (arith, ints)
      by_case (Some t) (Some u) on call =
          let h = leave in
          let r = on u (zero, omega arith, refl) in
          let k = call t u refl refl in
          let v = arrives_called a k.0 k.1 in
          let e = ap (arrival a) k.2 in
          let q = k.3 in omega (arith, ints)

  -- each move of a known word is paid
  pub is_paid : (price : ℤ) (a : ℕ) (low : Bool) (f b : ℕ) (m : Move) → IsHere a low f b → Contains (moves_at c a) m → price ≤ℤ pos (p.of a) → PaidBy price a m.to m.behind
  is_paid price a low f b m k has cheap =
      let at = word_at a low f b k in
      paid_by price a f b k.function k.block at cheap m.to m.behind
      (λ t on. arrives_onward a t low f b m k at has on)
      (λ t u to back. called t u to back at (comes a low f b m k has))
    where
      called : (t u : ℕ) → m.to ≡ Some t → m.behind ≡ Some u → (at : IsWordAt a f b) → Comes c (start_of l) f (g.calls f) laid.places p.of p.worth (prices g l p f b) (start_of l f b) a m →
          (callee : ℕ) × (callee < g.functions) × (t ≡ start_of l callee 0) × (p.of a + p.worth callee ≤ pay (prices g l p f b) at.place)
      called t u to back at (inl none) = let e : None ≡ Some u = sym none ∙ back in cc
      called t u to back at (inr h) =
          let e : Some t ≡ Some (start_of l h.callee 0) = sym to ∙ h.to in
          let same : t ≡ start_of l h.callee 0 = cc in
          let is = at.is in
          let its = h.covers.is in
          let place : h.covers.place ≡ at.place = omega arith in
          (h.callee, callee_in g l c sh laid f h.callee k.function h.called, same, subst (λ n. p.of a + p.worth h.callee ≤ pay (prices g l p f b) n) place h.covers.paid)

  -- what starts at the beginning of a function
  pub entry_starts : (f : ℕ) → f < g.functions → (coefficient (places g l p) (start_of l f 0) ≤ℤ pos (p.worth f)) × ((x : LoopClaim) → Contains cs x → x.header ≢ start_of l f 0)
  entry_starts f i =
      let none = first_head g sh f (p.bounds f) (w.loops f) (apart g l p c sh laid w f) in
      let place = first_place f 0 i (sh.some f i) in
      let worth = entry_worth g l p c sh laid w f i in
      (omega (arith, ints), plain_start g l c sh laid p w cs bounds.each f 0 i (sh.some f i) none)
