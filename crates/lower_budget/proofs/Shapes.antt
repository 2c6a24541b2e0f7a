-- The blocks of a function, numbered from its beginning.
use Rattle.std.proofs.Common.{◌≡◌, ℕ, zero, suc, ◌+◌, ◌-◌, ◌<◌, ◌≤◌, Bool, true, false, List, [], ◌∷◌, length, map, get_or, Option, Some, None, refl, ap, ◌∙◌, subst, ⊎_elim, inl, inr, arith}
use Rattle.std.specs.Prelude.{◌⊎◌, ◌==◌, ◌&&◌, ◌||◌, All, AllPairs, option_map, slice_get}
use Rattle.std.proofs.lemmas.Bool.{eq-eqb}
use Rattle.std.proofs.lemmas.List.{length-map}
use Rattle.std.proofs.lemmas.List.Elements.{All-cons, All-nil}
use Rattle.std.proofs.lemmas.List.Kept.{AllPairs-cons}
use Rattle.std.proofs.lemmas.Option.{same_Some, slice_get_within, slice_get-map, slice_get-get_or}
use Rattle.low_ir.specs.Code.{End, Jump, Branch, Return, Block, Function, Loop, Note}
use Rattle.low_ir.specs.Formed.{AreNested, HoldsWhole, IsLoop, LeadsOn, LeadsTo, LeadsTo_as, is_back, only_jump}
use Rattle.lower_definition.specs.Programs.{turned, turned_end, turned_loop}
use Rattle.lower_nesting.specs.Segments.{AllInside, Inside}
use Rattle.lower_nesting.specs.Blocks.{AllNest, Back, Each, EachLoop, Falls, Goes, LoopAt, Nest, StandsWhole, Well}
use Rattle.lower_nesting.proofs.Falling.{FallsAt}

-- a block by its index
each_get : (Q : ℕ → Block ℕ Note → Type 0) (n : ℕ) (bs : List (Block ℕ Note)) (b : ℕ) (x : Block ℕ Note) (i : ℕ) → Each Q n bs → slice_get bs b ≡ Some x → i + suc b ≡ n + length bs → Q i x
each_get Q n [] b x i h e total = cc
each_get Q n (y ∷ bs) zero x i h e total =
    let at : n + length bs ≡ i = omega (arith, total) in
    subst (λ j. Q j x) at (subst (Q (n + length bs)) (same_Some y x e) h.0)
each_get Q n (y ∷ bs) (suc b) x i h e total = each_get Q n bs b x i h.1 e (omega (arith, total))

-- the goal of a block, in both numberings
record Led (last : ℕ) (P : ℕ → Type 0) (n : ℕ) : Type 0 where
  goal : ℕ
  is : last - goal ≡ n
  holds : P goal

led : (last : ℕ) (P : ℕ → Type 0) (e : End ℕ) (n : ℕ) → Goes P e → LeadsOn (turned_end last e) n → Led last P n
led last P (Jump b) n h k = record { goal = b; is = k; holds = h }
led last P (Branch c x y taken other) n h k = ⊎_elim (λ (e : last - taken ≡ n). record { goal = taken; is = e; holds = h.0 }) (λ (e : last - other ≡ n). record { goal = other; is = e; holds = h.1 }) k
led last P (Return x) n h k = absurd k

is_back_from : (last b n i j : ℕ) (ls : List Loop) → last - i ≡ b → last - j ≡ n → Back ls i j → is_back (map (turned_loop last) ls) b n ≡ true
is_back_from last b n i j [] eb en h = absurd h
is_back_from last b n i j (l ∷ ls) eb en h =
    ⊎_elim
    (λ (k : (l.latch ≡ i) × (l.header ≡ j)).
    let latch : last - l.latch ≡ b = ap (λ x. last - x) k.0 ∙ eb in
    let header : last - l.header ≡ n = ap (λ x. last - x) k.1 ∙ en in
    ap (λ x. (x && ((last - l.header) == n)) || is_back (map (turned_loop last) ls) b n) (eq-eqb (last - l.latch) b latch)
    ∙ ap (λ x. x || is_back (map (turned_loop last) ls) b n) (eq-eqb (last - l.header) n header))
    (λ (k : Back ls i j). or_right ((last - l.latch == b) && (last - l.header == n)) (is_back_from last b n i j ls eb en k)) h
  where
    or_right : (x : Bool) → is_back (map (turned_loop last) ls) b n ≡ true → (x || is_back (map (turned_loop last) ls) b n) ≡ true
    or_right true e = refl
    or_right false e = e

nested_turned : (last : ℕ) (k l : Loop) → Inside 0 last k → Inside 0 last l → Nest k l → AreNested (turned_loop last k) (turned_loop last l)
nested_turned last k l a b h = (whole k l a b h.0, whole l k b a h.1)
  where
    whole : (k l : Loop) → Inside 0 last k → Inside 0 last l → StandsWhole k l → HoldsWhole (turned_loop last k) (turned_loop last l)
    whole k l a b h i =
        let a1 = a.order in
        let a2 = a.header in
        let b1 = b.order in
        let b2 = b.header in
        let i0 = i.0 in
        let i1 = i.1 in
        let w = h (omega (arith, a1, a2, b1, b2, i1)) (omega (arith, a1, a2, b1, b2, i0)) in
        let w0 = w.0 in
        let w1 = w.1 in
        (omega (arith, w0, a2), omega (arith, w1, b1, b2))

all_turned : (last : ℕ) (k : Loop) (ls : List Loop) → Inside 0 last k → AllInside 0 last ls → EachLoop (Nest k) ls → All (AreNested (turned_loop last k)) (map (turned_loop last) ls)
all_turned last k [] a b h = All-nil (AreNested (turned_loop last k))
all_turned last k (l ∷ ls) a b h = All-cons (AreNested (turned_loop last k)) (turned_loop last l) (map (turned_loop last) ls) (nested_turned last k l a b.0 h.0) (all_turned last k ls a b.1 h.1)

pub pairs_turned : (last : ℕ) (ls : List Loop) → AllInside 0 last ls → AllNest ls → AllPairs AreNested (map (turned_loop last) ls)
pairs_turned last [] a h = λ i j d low inside. absurd (nothing j inside)
  where
    nothing : (j : ℕ) → j < 0 → ⊥
    nothing j e = omega (arith, e)
pairs_turned last (l ∷ ls) a h = AllPairs-cons AreNested (turned_loop last l) (map (turned_loop last) ls) (all_turned last l ls a.0 a.1 h.0) (pairs_turned last ls a.1 h.1)

-- a function whose first block has the number `last` from its end
module _ (fn : Function ℕ Note) (bs : List (Block ℕ Note)) (last : ℕ) (count : length bs ≡ suc last) (blocks : fn.blocks ≡ map (turned last) bs) where
  -- a block that leads on
  record From (b n : ℕ) : Type 0 where
    block : Block ℕ Note
    at : slice_get bs b ≡ Some block
    leads : LeadsOn (turned_end last block.end) n

  from : (b n : ℕ) → LeadsTo fn b n → From b n
  from b n h = by_block (slice_get bs b) refl (subst (λ o. LeadsTo_as o n) (ap (λ xs. slice_get xs b) blocks ∙ slice_get-map (turned last) bs b) h)
    where
      by_block : (o : Option (Block ℕ Note)) → slice_get bs b ≡ o → LeadsTo_as (option_map (turned last) o) n → From b n
      by_block None e k = absurd k
      by_block (Some x) e k = record { block = x; at = e; leads = k }

  pub stays : (b n : ℕ) → ((i : ℕ) (x : Block ℕ Note) → Goes (λ j. Unit {0}) x.end) → LeadsTo fn b n → n < length fn.blocks
  stays b n any h =
      let f = from b n h in
      let l = led last (λ j. Unit {0}) f.block.end n (any b f.block) f.leads in
      let is = l.is in
      let size : length fn.blocks ≡ suc last = ap length blocks ∙ length-map bs (turned last) ∙ count in
      omega (arith, is, size)

  pub forward : (ls : List Loop) → Each (FallsAt ls) 0 bs → (b n : ℕ) → LeadsTo fn b n → n ≤ b → is_back (map (turned_loop last) ls) b n ≡ true
  forward ls each b n h low =
      let f = from b n h in
      let inside = slice_get_within bs b f.block f.at in
      let i = last - b in
      let l = led last (Falls ls i) f.block.end n (each_get (FallsAt ls) 0 bs b f.block i each f.at (omega (arith, inside, count))) f.leads in
      let is = l.is in
      ⊎_elim (λ (k : l.goal < i). absurd (omega (arith, k, is, low, inside, count)))
      (λ (k : Back ls i l.goal). let e : last - i ≡ b = omega (arith, inside, count) in is_back_from last b n i l.goal ls e is k) l.holds

  pub is_loop : (l : Loop) → Inside 0 last l → Each (LoopAt l) 0 bs → IsLoop fn (turned_loop last l)
  is_loop l inside each =
      let order = inside.order in
      let high = inside.header in
      record {
        header = omega (arith, high);
        latch = omega (arith, order, high);
        back =
            let b = last - l.latch in
            let d : Block ℕ Note = only_jump 0 in
            let x = get_or bs b d in
            let at : slice_get bs b ≡ Some x = slice_get-get_or bs b d (omega (arith, count)) in
            let k = each_get (LoopAt l) 0 bs b x l.latch each at (omega (arith, count, order, high)) in
            let jumps = k.latch refl in
            ap (λ xs. slice_get xs b) blocks ∙ slice_get-map (turned last) bs b ∙ ap (option_map (turned last)) at ∙ ap (λ y. Some (turned last y)) jumps;
        entered = λ b n h within out.
            let f = from b n h in
            let there = slice_get_within bs b f.block f.at in
            let i = last - b in
            let k = each_get (LoopAt l) 0 bs b f.block i each f.at (omega (arith, there, count)) in
            let outside : (i < l.latch) ⊎ (l.header < i) = ⊎_elim (λ (e : b < last - l.header). inr (omega (arith, e, order, high))) (λ (e : last - l.latch < b). inl (omega (arith, e, order, high, there, count))) out in
            let g = led last (Well l) f.block.end n (k.well outside) f.leads in
            let is = g.is in
            let w0 = within.0 in
            let w1 = within.1 in
            let at = g.holds (omega (arith, is, w0, w1, order, high)) (omega (arith, is, w0, w1, order, high)) in
            omega (arith, is, at);
      }

  pub all_loops : (ls : List Loop) → AllInside 0 last ls → EachLoop (λ l. Each (LoopAt l) 0 bs) ls → All (IsLoop fn) (map (turned_loop last) ls)
  all_loops [] inside h = All-nil (IsLoop fn)
  all_loops (l ∷ ls) inside h = All-cons (IsLoop fn) (turned_loop last l) (map (turned_loop last) ls) (is_loop l inside.0 h.0) (all_loops ls inside.1 h.1)
