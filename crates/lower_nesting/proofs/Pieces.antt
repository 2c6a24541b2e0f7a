-- Parts of a run within a piece of a function.
use Rattle.std.proofs.Common.{◌≡◌, ℕ, zero, suc, ◌+◌, ◌-◌, ◌<◌, ◌≤◌, List, [], ◌∷◌, ◌++◌, map, Some, refl, sym, ap, ◌∙◌, subst, ⊎_elim, arith}
use Rattle.std.specs.Prelude.{All, slice_get, slice_index_or}
use Rattle.std.proofs.lemmas.Bool.{cases_lt}
use Rattle.std.proofs.lemmas.List.{append-nil}
use Rattle.std.proofs.lemmas.Option.{same_Some}
use Rattle.low_ir.specs.declared.run.Began.{Began}
use Rattle.low_ir.specs.Code.{Loop, Function, Low, Note}
use Rattle.lower_definition.specs.Programs.{turned_loop}
use Rattle.lower_nesting.specs.Segments.{AreBelow, Grown, LoopsGrow, Quiet, AllInside, arrival, AllOf, AllGrown, Segment}
use Rattle.lower_nesting.proofs.Turning.{Others, grown_then, others_grown}
use Rattle.lower_nesting.proofs.Quiets.{below_others, loops_nothing, loops_then, more_is}

module _ (f last : ℕ) where
  pub of_append : (n m : ℕ) (xs ys : List Began) → AllOf f last n m xs → AllOf f last n m ys → AllOf f last n m (xs ++ ys)
  of_append n m [] ys h k = k
  of_append n m (x ∷ xs) ys h k = (h.0, of_append n m xs ys h.1 k)

  pub of_wider : (n m n2 m2 : ℕ) (es : List Began) → n2 ≤ n → n + m ≤ n2 + m2 → AllOf f last n m es → AllOf f last n2 m2 es
  of_wider n m n2 m2 [] a b h = tt
  of_wider n m n2 m2 (e ∷ es) a b h =
      (record { function = h.0.function; own = λ same. let k = h.0.own same in let k0 = k.0 in let k1 = k.1 in (omega (arith, a, k0), omega (arith, b, k1)) }, of_wider n m n2 m2 es a b h.1)

  of_below : (n m : ℕ) (es : List Began) → AreBelow f es → AllOf f last n m es
  of_below n m [] h = tt
  of_below n m (e ∷ es) h =
      let k = h.0 in
      (record { function = omega (arith, k); own = λ same. absurd (not_both e.function f same k) }, of_below n m es h.1)
    where
      not_both : (x f : ℕ) → x ≡ f → x < f → ⊥
      not_both x f a b = omega (arith, a, b)

  below_of : (n m : ℕ) (es : List Began) → AllOf f last n m es → AreBelow (suc f) es
  below_of n m [] h = tt
  below_of n m (e ∷ es) h = let k = h.0.function in (omega (arith, k), below_of n m es h.1)

  pub all_grown_then : (xs ys : List Began) (ls : List Loop) → AllGrown f last xs ls → AllGrown f last ys ls → AllGrown f last (xs ++ ys) ls
  all_grown_then xs ys [] h k = tt
  all_grown_then xs ys (l ∷ ls) h k = (grown_then f (turned_loop last l) xs ys h.0 k.0, all_grown_then xs ys ls h.1 k.1)

  grown_append : (es : List Began) (ls ls2 : List Loop) → AllGrown f last es ls → AllGrown f last es ls2 → AllGrown f last es (ls ++ ls2)
  grown_append es [] ls2 h k = k
  grown_append es (l ∷ ls) ls2 h k = (h.0, grown_append es ls ls2 h.1 k)

  below_grown : (es : List Began) (ls : List Loop) → AreBelow f es → AllGrown f last es ls
  below_grown es [] h = tt
  below_grown es (l ∷ ls) h = let l2 = turned_loop last l in (others_grown f l2 es (below_others f f l2 es (omega arith) h), below_grown es ls h)

  pub grown_nothing : (ls : List Loop) → AllGrown f last [] ls
  grown_nothing ls = below_grown [] ls tt

  pub of_one : (n m i : ℕ) → n ≤ i → i < n + m → i ≤ last → AllOf f last n m (arrival f last i ∷ [])
  of_one n m i low high within = (record { function = omega arith; own = λ same. (omega (arith, low, within), omega (arith, high, within)) }, tt)

  -- a loop none of whose blocks is one of these
  abbrev pub Apart : ℕ → ℕ → Loop → Type 0
  Apart n m l = (b : ℕ) → b + n ≤ last → last < b + (n + m) → (b ≡ last - l.header → ⊥) × (b ≡ last - l.latch → ⊥)

  abbrev pub AllApart : ℕ → ℕ → List Loop → Type 0
  AllApart n m [] = Unit {0}
  AllApart n m (l ∷ ls) = Apart n m l × AllApart n m ls

  -- loops that stand behind, and before
  pub all_behind : (n m n2 m2 : ℕ) (ls : List Loop) → n2 + m2 ≤ n → AllInside n2 m2 ls → AllApart n m ls
  all_behind n m n2 m2 [] a h = tt
  all_behind n m n2 m2 (l ∷ ls) a h =
      let h1 = h.0.latch in
      let h2 = h.0.order in
      let h3 = h.0.header in
      (λ b low high. (λ e. omega (arith, a, h1, h2, h3, low, high, e), λ e. omega (arith, a, h1, h2, h3, low, high, e)), all_behind n m n2 m2 ls a h.1)

  pub all_before : (n m n2 m2 : ℕ) (ls : List Loop) → n + m ≤ n2 → n2 + m2 ≤ suc last → AllInside n2 m2 ls → AllApart n m ls
  all_before n m n2 m2 [] a c h = tt
  all_before n m n2 m2 (l ∷ ls) a c h =
      let h1 = h.0.latch in
      let h2 = h.0.order in
      let h3 = h.0.header in
      (λ b low high. (λ e. omega (arith, a, c, h1, h2, h3, low, high, e), λ e. omega (arith, a, c, h1, h2, h3, low, high, e)), all_before n m n2 m2 ls a c h.1)

  pub apart_others : (n m : ℕ) (l : Loop) (es : List Began) → AllOf f last n m es → Apart n m l → Others f (turned_loop last l) es
  apart_others n m l [] h k = tt
  apart_others n m l (e ∷ es) h k = (λ same. let o = h.0.own same in k e.block o.0 o.1, apart_others n m l es h.1 k)

  pub apart_grown : (n m : ℕ) (es : List Began) (ls : List Loop) → AllOf f last n m es → AllApart n m ls → AllGrown f last es ls
  apart_grown n m es [] h k = tt
  apart_grown n m es (l ∷ ls) h k = (others_grown f (turned_loop last l) es (apart_others n m l es h k.0), apart_grown n m es ls h k.1)

  module _ (q : Low) where
    -- a part in which no block begins
    pub still : (n m : ℕ) (ls : List Loop) (a : List Began) → Segment f last q n m ls a a
    still n m ls a = record { events = []; are = sym (append-nil a); of = tt; loops = below_grown [] ls tt; lower = loops_nothing q f }

    pub part_then : (n m : ℕ) (ls : List Loop) (a b c : List Began) → Segment f last q n m ls a b → Segment f last q n m ls b c → Segment f last q n m ls a c
    part_then n m ls a b c h k = record {
      events = h.events ++ k.events;
      are = more_is a b c h.events k.events h.are k.are;
      of = of_append n m h.events k.events h.of k.of;
      loops = all_grown_then h.events k.events ls h.loops k.loops;
      lower = loops_then q f h.events k.events h.lower k.lower;
    }

    -- a part in functions that are called
    pub part_quiet : (n m : ℕ) (ls : List Loop) (a b : List Began) → Quiet q f a b → Segment f last q n m ls a b
    part_quiet n m ls a b h = record { events = h.events; are = h.are; of = of_below n m h.events h.below; loops = below_grown h.events ls h.below; lower = h.loops }

    pub lower_one : (i : ℕ) → LoopsGrow q f (arrival f last i ∷ [])
    lower_one i g fn there inside k d at =
        let l = slice_index_or fn.loops k d in
        others_grown g l (arrival f last i ∷ []) (λ same. absurd (not_both f g same inside), tt)
      where
        not_both : (x g : ℕ) → x ≡ g → g < x → ⊥
        not_both x g a b = omega (arith, a, b)

    -- one block that begins
    pub part_one : (n m i : ℕ) (ls : List Loop) (a : List Began) → n ≤ i → i < n + m → i ≤ last → AllApart i 1 ls → Segment f last q n m ls a (a ++ arrival f last i ∷ [])
    part_one n m i ls a low high within apart =
        let es = arrival f last i ∷ [] in
        record {
          events = es;
          are = refl;
          of = of_one n m i low high within;
          loops = apart_grown i 1 es ls (of_one i 1 i (omega arith) (omega arith) within) apart;
          lower = lower_one i;
        }

    -- as part of a larger piece
    pub part_wider : (n m n2 m2 : ℕ) (ls : List Loop) (a b : List Began) → n2 ≤ n → n + m ≤ n2 + m2 → Segment f last q n m ls a b → Segment f last q n2 m2 ls a b
    part_wider n m n2 m2 ls a b low high h = record { events = h.events; are = h.are; of = of_wider n m n2 m2 h.events low high h.of; loops = h.loops; lower = h.lower }

    pub part_loops_behind : (n m : ℕ) (ls more : List Loop) (a b : List Began) → AllApart n m more → Segment f last q n m ls a b → Segment f last q n m (ls ++ more) a b
    part_loops_behind n m ls more a b apart h = record { events = h.events; are = h.are; of = h.of; loops = grown_append h.events ls more h.loops (apart_grown n m h.events more h.of apart); lower = h.lower }

    pub part_loops_before : (n m : ℕ) (ls more : List Loop) (a b : List Began) → AllApart n m more → Segment f last q n m ls a b → Segment f last q n m (more ++ ls) a b
    part_loops_before n m ls more a b apart h = record { events = h.events; are = h.are; of = h.of; loops = grown_append h.events more ls (apart_grown n m h.events more h.of apart) h.loops; lower = h.lower }

    all_turned : (es : List Began) (ls : List Loop) → AllGrown f last es ls → All (λ l. Grown f l es) (map (turned_loop last) ls)
    all_turned es [] h i d inside = absurd (nothing inside)
      where
        nothing : i < 0 → ⊥
        nothing low = omega (arith, low)
    all_turned es (l ∷ ls) h zero d inside = h.0
    all_turned es (l ∷ ls) h (suc i) d inside = all_turned es ls h.1 i d (omega (arith, inside))

    -- seen from a function of a higher number
    pub part_above : (n m : ℕ) (ls : List Loop) (a b : List Began) (fn : Function ℕ Note) → slice_get q.functions f ≡ Some fn → fn.loops ≡ map (turned_loop last) ls → Segment f last q n m ls a b → Quiet q (suc f) a b
    part_above n m ls a b fn there same h = record {
      events = h.events;
      are = h.are;
      below = below_of n m h.events h.of;
      loops = λ g gn is inside. ⊎_elim
          (λ (lower : g < f). h.lower g gn is lower)
          (λ (other : f ≤ g).
          let at : g ≡ f = omega (arith, inside, other) in
          let fn_is : fn ≡ gn = same_Some fn gn (sym there ∙ ap (slice_get q.functions) (sym at) ∙ is) in
          subst (λ x. All (λ l. Grown x l h.events) gn.loops) (sym at) (subst (λ x. All (λ l. Grown f l h.events) x.loops) fn_is (subst (λ x. All (λ l. Grown f l h.events) x) (sym same) (all_turned h.events ls h.loops))))
          (cases_lt g f);
    }
