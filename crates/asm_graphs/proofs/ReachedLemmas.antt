-- Each reached address of laid code is a word of a block, and code.
use Rattle.std.proofs.Common.{◌≡◌, ◌≢◌, ◌⊎◌, ⊎_elim, inl, inr, ℕ, zero, suc, ◌+◌, ◌^◌, ◌≤◌, ◌<◌, Bool, true, false, List, [], ◌∷◌, length, Contains, refl, sym, ap, ◌∙◌, subst, arith}
use Rattle.std.proofs.lemmas.List.Elements.{Contains-append_cases}
use Rattle.code_flow_system.specs.declared.moves.Move.{Move}
use Rattle.code_flow_system.specs.Moves.{Code, moves_at, destinations, destinations_of}
use Rattle.code_flow_system.specs.Reach.{GoesTo, ReachedIn, IsReached, is_resolved, IsCode}
use Rattle.asm_items.specs.declared.item.Item.{Item}
use Rattle.asm_items.specs.declared.item.Item.TheVariants.{Single, Jump, Call, Branch, Return, Exit}
use Rattle.asm_items.specs.declared.item.Form.TheVariants.{Short, Inverted, Far}
use Rattle.asm_items.specs.Items.{total, size}
use Rattle.asm_items.specs.Placings.{Placing, blocks_of, block_of, base_of, start_of, end_of}
use Rattle.asm_items.specs.Outcomes.{IsWordOf, IsWord, Around, GoesWell, CallsWell, Outcome}
use Rattle.asm_items.proofs.MoveLemmas.{head_word, keeps_promises}
use Rattle.asm_graphs.specs.Graphs.{Graph, IsShaped}
use Rattle.asm_graphs.specs.Laid.{IsLaid}
use Rattle.asm_graphs.proofs.PlaceLemmas.{next_start, start_within}
use Rattle.asm_graphs.proofs.WayLemmas.{IsGood, good_moves, some_moves, moves_of_way}

word_within : (x : Item) (at a : ℕ) (low : Bool) → IsWordOf x at a low → (at ≤ a) × (a + 4 ≤ at + size x)
word_within (Single i) at a false w = (omega arith, omega arith)
word_within (Single i) at a true w = absurd w
word_within (Jump false n) at a false w = (omega arith, omega arith)
word_within (Jump false n) at a true w = absurd w
word_within (Jump true n) at a false w = (omega arith, omega arith)
word_within (Jump true n) at a true w = (omega arith, omega arith)
word_within (Call false n) at a false w = (omega arith, omega arith)
word_within (Call false n) at a true w = absurd w
word_within (Call true n) at a false w = (omega arith, omega arith)
word_within (Call true n) at a true w = (omega arith, omega arith)
word_within (Branch Short c x y n) at a false w = (omega arith, omega arith)
word_within (Branch Short c x y n) at a true w = absurd w
word_within (Branch Inverted c x y n) at a false (inl w) = (omega arith, omega arith)
word_within (Branch Inverted c x y n) at a false (inr w) = (omega arith, omega arith)
word_within (Branch Inverted c x y n) at a true (inl w) = absurd w
word_within (Branch Inverted c x y n) at a true (inr w) = absurd w
word_within (Branch Far c x y n) at a false (inl w) = (omega arith, omega arith)
word_within (Branch Far c x y n) at a false (inr w) = (omega arith, omega arith)
word_within (Branch Far c x y n) at a true (inl w) = absurd w
word_within (Branch Far c x y n) at a true (inr w) = (omega arith, omega arith)
word_within Return at a false w = (omega arith, omega arith)
word_within Return at a true w = absurd w
word_within Exit at a false w = (omega arith, omega arith)
word_within Exit at a true w = absurd w

-- a word lies within its items
pub words_within : (xs : List Item) (at a : ℕ) (low : Bool) → IsWord at xs a low → (at ≤ a) × (a + 4 ≤ at + total xs)
words_within [] at a low w = absurd w
words_within (x ∷ xs) at a low (inl w) = let h = word_within x at a low w in let b = h.0 in let e = h.1 in (omega arith, omega arith)
words_within (x ∷ xs) at a low (inr w) = let h = words_within xs (at + size x) a low w in let b = h.0 in let e = h.1 in (omega arith, omega arith)

head_of : (xs : List Item) (at : ℕ) → xs ≢ [] → IsWord at xs at false
head_of [] at h = absurd (h refl)
head_of (x ∷ xs) at h = inl (head_word x at)

-- a destination of moves is one of a single move
pub from_destinations : (ms : List Move) (t : ℕ) → Contains (destinations_of ms) t → (m : Move) × Contains ms m × Contains (destinations m) t
from_destinations [] t (n, lt, e) = absurd (omega arith)
from_destinations (m ∷ ms) t h = by_part (Contains-append_cases (destinations m) (destinations_of ms) t h) (from_destinations ms t)
  where
    rest : (n : Move) → Contains ms n → Contains (m ∷ ms) n
    rest n (j, lt, e) = (suc j, omega arith, e)

    by_part : Contains (destinations m) t ⊎ Contains (destinations_of ms) t → (Contains (destinations_of ms) t → (n : Move) × Contains ms n × Contains (destinations n) t) → (n : Move) × Contains (m ∷ ms) n × Contains (destinations n) t
    by_part (inl has) later = (m, (0, omega arith, refl), has)
    by_part (inr has) later = let r = later has in (r.0, rest r.0 r.1, r.2)

module _ (g : Graph) (l : Placing) (c : Code) (sh : IsShaped g) (laid : IsLaid g l c) where
  abbrev pub In : ℕ → ℕ → ℕ → Bool → Type 0
  In f b a low = IsWord (start_of l f b) (block_of l f b) a low

  abbrev pub around : ℕ → ℕ → Around
  around f b = record { starts = start_of l; function = f; block = b; items = block_of l f b; follows = g.follows f b; calls = g.calls f }

  -- a word of a block
  pub record IsKnown (a : ℕ) (low : Bool) (f b : ℕ) : Type 0 where
    pub function : f < g.functions
    pub block : b < g.blocks f
    pub word : In f b a low

  in_blocks : (f b : ℕ) → b < g.blocks f → b < length (blocks_of l f)
  in_blocks f b h = let e = laid.blocks f in omega arith

  pub starts_next : (f b : ℕ) → suc b < g.blocks f → start_of l f b + total (block_of l f b) ≡ start_of l f (suc b)
  starts_next f b h = next_start (blocks_of l f) (base_of l f) b (in_blocks f (suc b) h)

  pub ends_within : (f b : ℕ) → b < g.blocks f → start_of l f b + total (block_of l f b) ≤ end_of l f
  ends_within f b h = let r = start_within (blocks_of l f) (base_of l f) b (in_blocks f b h) in r.1

  pub outcome : (a : ℕ) (low : Bool) (f b : ℕ) → IsKnown a low f b → Outcome c (around f b) a low
  outcome a low f b k =
      let room = laid.room f k.function in
      let ends = ends_within f b k.block in
      keeps_promises c (around f b)
      (record {
        places = laid.places;
        no_link = laid.no_link;
        room = omega arith;
        stands = laid.stands f b k.function k.block;
        keeps = laid.keeps f b k.function k.block;
        falls = λ s. starts_next f b (sh.stays f b (suc b) s);
      })
      a low k.word

  pub low_end : (a : ℕ) (low : Bool) (f b : ℕ) → IsKnown a low f b → start_of l f b ≤ a
  low_end a low f b k = let h = words_within (block_of l f b) (start_of l f b) a low k.word in h.0

  pub high_end : (a : ℕ) (low : Bool) (f b : ℕ) → IsKnown a low f b → a + 4 ≤ start_of l f b + total (block_of l f b)
  high_end a low f b k = let h = words_within (block_of l f b) (start_of l f b) a low k.word in h.1

  pub is_small : (a : ℕ) (low : Bool) (f b : ℕ) → IsKnown a low f b → a + 4 < 2 ^ 32
  is_small a low f b k =
      let room = laid.room f k.function in
      let ends = ends_within f b k.block in
      let high = high_end a low f b k in omega arith

  -- the moves of a word go where its block promises
  pub moves_good : (a : ℕ) (low : Bool) (f b : ℕ) (k : IsKnown a low f b) (m : Move) → Contains (moves_at c a) m → IsGood (around f b) a (is_small a low f b k) m
  moves_good a low f b k m has =
      let o = outcome a low f b k in
      good_moves (around f b) a (is_small a low f b k) o.way o.instr o.fine m (subst (λ ms. Contains ms m) (moves_of_way c a o.instr o.way o.there o.is) has)

  pub has_moves : (a : ℕ) (low : Bool) (f b : ℕ) → IsKnown a low f b → moves_at c a ≢ []
  has_moves a low f b k e =
      let o = outcome a low f b k in
      some_moves (around f b) a (is_small a low f b k) o.way o.instr o.fine (sym (moves_of_way c a o.instr o.way o.there o.is) ∙ e)

  pub start_known : (f b : ℕ) → f < g.functions → b < g.blocks f → IsKnown (start_of l f b) false f b
  start_known f b i j = record { function = i; block = j; word = head_of (block_of l f b) (start_of l f b) (laid.some f b i j) }

  -- where a known word goes
  pub goes : (a t : ℕ) (low : Bool) (f b : ℕ) → IsKnown a low f b → GoesTo c a t → GoesWell (around f b) a t ⊎ CallsWell (around f b) t
  goes a t low f b k h =
      let r = from_destinations (moves_at c a) t h in
      let good = moves_good a low f b k r.0 r.1 in good.arrives t r.2

  pub record IsSomeWord (a : ℕ) : Type 0 where
    pub low : Bool
    pub f : ℕ
    pub b : ℕ
    pub known : IsKnown a low f b

  at_start : (f b t : ℕ) → f < g.functions → b < g.blocks f → t ≡ start_of l f b → IsSomeWord t
  at_start f b t i j e = subst IsSomeWord (sym e) (record { low = false; f = f; b = b; known = start_known f b i j })

  pub led : (f b a t : ℕ) → f < g.functions → b < g.blocks f → GoesWell (around f b) a t → IsSomeWord t
  led f b a t i j (inl h) = record { low = false; f = f; b = b; known = record { function = i; block = j; word = h.1 } }
  led f b a t i j (inr (inl h)) = record { low = true; f = f; b = b; known = record { function = i; block = j; word = h.1 } }
  led f b a t i j (inr (inr h)) = at_start f h.0 t i (sh.stays f b h.0 h.1) h.2

  pub callee_in : (f callee : ℕ) → f < g.functions → Contains (g.calls f) callee → callee < g.functions
  callee_in f callee i h = let less = sh.falls f callee h in omega arith

  pub called : (f b t : ℕ) → f < g.functions → CallsWell (around f b) t → IsSomeWord t
  called f b t i h = let j = callee_in f h.0 i h.1 in at_start h.0 0 t j (sh.some h.0 j) h.2

  module _ (main : ℕ) (main_in : main < g.functions) where
    pub reached : (n a : ℕ) → ReachedIn c (start_of l main 0) n a → IsSomeWord a
    reached zero a e = at_start main 0 a main_in (sh.some main main_in) e
    reached (suc n) a w =
        let s = reached n w.0 w.1 in
        ⊎_elim
        (λ h. led s.f s.b w.0 a s.known.function s.known.block h)
        (λ h. called s.f s.b a s.known.function h)
        (goes w.0 a s.low s.f s.b s.known w.2)

    not_resolved : (a f b : ℕ) → IsKnown a false f b → is_resolved c a ≡ true → ⊥
    not_resolved a f b k r = let o = outcome a false f b k in let e = sym o.alone ∙ r in cc

    start_unresolved : (t f b : ℕ) → f < g.functions → b < g.blocks f → t ≡ start_of l f b → is_resolved c t ≡ true → ⊥
    start_unresolved t f b i j e r = not_resolved (start_of l f b) f b (start_known f b i j) (ap (λ n. is_resolved c n) (sym e) ∙ r)

    only_from : (a t f b : ℕ) → f < g.functions → b < g.blocks f → GoesWell (around f b) a t → is_resolved c t ≡ true → a + 4 ≡ t
    only_from a t f b i j (inl h) r = absurd (not_resolved t f b (record { function = i; block = j; word = h.1 }) r)
    only_from a t f b i j (inr (inl h)) r = sym h.0
    only_from a t f b i j (inr (inr h)) r = absurd (start_unresolved t f h.0 i (sh.stays f b h.0 h.1) h.2 r)

    enters_alone : (a b : ℕ) → is_resolved c a ≡ true → IsReached c (start_of l main 0) b → GoesTo c b a → b + 4 ≡ a
    enters_alone a b r w h =
        let s = reached w.0 b w.1 in
        ⊎_elim
        (λ q. only_from b a s.f s.b s.known.function s.known.block q r)
        (λ q. let j = callee_in s.f q.0 s.known.function q.1 in absurd (start_unresolved a q.0 0 j (sh.some q.0 j) q.2 r))
        (goes b a s.low s.f s.b s.known h)

    pub all_code : (a : ℕ) → IsReached c (start_of l main 0) a → IsCode c (start_of l main 0) a
    all_code a w =
        let s = reached w.0 a w.1 in
        record {
          moves = has_moves a s.low s.f s.b s.known;
          paired = λ r. record {
            no_entry = λ e. start_unresolved a main 0 main_in (sh.some main main_in) e r;
            alone = λ b v h. enters_alone a b r v h;
          };
        }
