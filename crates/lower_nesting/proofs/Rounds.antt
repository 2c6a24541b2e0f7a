-- A loop that starts again and again.
use Rattle.std.proofs.Common.{◌≡◌, ℕ, suc, ◌+◌, ◌-◌, ◌≤◌, true, false, List, [], ◌∷◌, ◌++◌, refl, sym, ap, ◌∙◌, arith}
use Rattle.std.specs.Prelude.{if◌then◌else◌}
use Rattle.std.proofs.lemmas.List.{append-nil}
use Rattle.low_ir.specs.declared.run.Began.{Began}
use Rattle.low_ir.specs.Code.{Loop, Low}
use Rattle.low_ir.specs.Turns.{IsWithin, Turns, is_at, started, turn, turns}
use Rattle.lower_definition.specs.Programs.{turned_loop}
use Rattle.lower_nesting.specs.Segments.{LoopsGrow, AllInside, arrival, AllOf, AllGrown, Segment}
use Rattle.lower_nesting.proofs.Turning.{is_at_same, not_at, turns-append, turns_others}
use Rattle.lower_nesting.proofs.Quiets.{loops_nothing, loops_then, more_is}
use Rattle.lower_nesting.proofs.Pieces.{Apart, all_before, all_behind, all_grown_then, apart_grown, apart_others, grown_nothing, lower_one, of_append, of_one, of_wider}

-- a loop whose latch has the number n, and whose body the numbers from there to its header
pub record IsRound (last n body : ℕ) (l : Loop) : Type 0 where
  pub latch : l.latch ≡ n
  pub header : l.header ≡ suc n + body
  pub there : l.header ≤ last

module _ (f last : ℕ) (q : Low) (n body : ℕ) (l : Loop) (ls : List Loop) (round : IsRound last n body l) (inside : AllInside (suc n) body ls) where
  abbrev own : Loop
  own = turned_loop last l

  abbrev pub head : Began
  head = arrival f last l.header

  abbrev pub back : Began
  back = arrival f last l.latch

  turn_head : (t : Turns) → turn f own t head ≡ record { again = false; starts = started t.again t.starts }
  turn_head t = ap (λ b. if b then record { again = false; starts = started t.again t.starts } else if is_at head f own.latch then record { again = true; starts = t.starts } else t) (is_at_same f own.header)

  turn_back : (t : Turns) → turn f own t back ≡ record { again = true; starts = t.starts }
  turn_back t =
      ap (λ b. if b then record { again = false; starts = started t.again t.starts } else if is_at back f own.latch then record { again = true; starts = t.starts } else t) (not_at back f own.header (λ s b. different b))
      ∙ ap (λ b. if b then record { again = true; starts = t.starts } else t) (is_at_same f own.latch)
    where
      different : last - l.latch ≡ last - l.header → ⊥
      different e = let a = round.latch in let b = round.header in let c = round.there in omega (arith, a, b, c, e)

  -- the blocks of the body are none of the loop's own
  body_apart : Apart f last (suc n) body l
  body_apart b low high =
      let a = round.latch in
      let h = round.header in
      let c = round.there in
      (λ e. omega (arith, a, h, c, low, high, e), λ e. omega (arith, a, h, c, low, high, e))

  body_turns : (es : List Began) (t : Turns) → AllOf f last (suc n) body es → turns f own t es ≡ t
  body_turns es t of = turns_others f own t es (apart_others f last (suc n) body l es of body_apart)

  -- the starts of one entry, up to the header's start number suc i, which is still to come
  pub record Rounds (i : ℕ) (a b : List Began) : Type 0 where
    pub events : List Began
    pub are : b ≡ a ++ events
    pub of : AllOf f last n (body + 2) events
    pub turned : (t : Turns) → t.again ≡ false → turns f own t (events ++ head ∷ []) ≡ record { again = false; starts = suc i ∷ t.starts }
    pub loops : AllGrown f last events ls
    pub lower : LoopsGrow q f events

  pub first_round : (a : List Began) → Rounds 0 a a
  first_round a = record {
    events = [];
    are = sym (append-nil a);
    of = tt;
    turned = λ t fresh. turn_head t ∙ ap (λ b. record { again = false; starts = started b t.starts }) fresh;
    loops = grown_nothing f last ls;
    lower = loops_nothing q f;
  }

  of_head : AllOf f last n (body + 2) (head ∷ [])
  of_head = let h = round.header in let c = round.there in of_one f last n (body + 2) l.header (omega (arith, h)) (omega (arith, h)) c

  of_back : AllOf f last n (body + 2) (back ∷ [])
  of_back = let a = round.latch in let h = round.header in let c = round.there in of_one f last n (body + 2) l.latch (omega (arith, a)) (omega (arith, a)) (omega (arith, a, h, c))

  head_grown : AllGrown f last (head ∷ []) ls
  head_grown =
      let h = round.header in
      let c = round.there in
      apart_grown f last l.header 1 (head ∷ []) ls (of_one f last l.header 1 l.header (omega arith) (omega arith) c) (all_behind f last l.header 1 (suc n) body ls (omega (arith, h)) inside)

  back_grown : AllGrown f last (back ∷ []) ls
  back_grown =
      let a = round.latch in
      let h = round.header in
      let c = round.there in
      apart_grown f last l.latch 1 (back ∷ []) ls (of_one f last l.latch 1 l.latch (omega arith) (omega arith) (omega (arith, a, h, c))) (all_before f last l.latch 1 (suc n) body ls (omega (arith, a)) (omega (arith, h, c)) inside)

  -- what stands behind the header's start
  record Started (i : ℕ) (a c : List Began) : Type 0 where
    events : List Began
    are : c ≡ a ++ events
    of : AllOf f last n (body + 2) events
    turned : (t : Turns) → t.again ≡ false → turns f own t events ≡ record { again = false; starts = suc i ∷ t.starts }
    loops : AllGrown f last events ls
    lower : LoopsGrow q f events

  started_body : (i : ℕ) (a b c : List Began) → Rounds i a b → Segment f last q (suc n) body ls (b ++ head ∷ []) c → Started i a c
  started_body i a b c r s =
      let es = r.events ++ head ∷ [] in
      record {
        events = es ++ s.events;
        are = more_is a (b ++ head ∷ []) c es s.events (more_is a b (b ++ head ∷ []) r.events (head ∷ []) r.are refl) s.are;
        of = of_append f last n (body + 2) es s.events (of_append f last n (body + 2) r.events (head ∷ []) r.of of_head) (of_wider f last (suc n) body n (body + 2) s.events (omega arith) (omega arith) s.of);
        turned = λ t fresh.
            turns-append f own t es s.events
            ∙ ap (λ u. turns f own u s.events) (r.turned t fresh)
            ∙ body_turns s.events (record { again = false; starts = suc i ∷ t.starts }) s.of;
        loops = all_grown_then f last es s.events ls (all_grown_then f last r.events (head ∷ []) ls r.loops head_grown) s.loops;
        lower = loops_then q f es s.events (loops_then q f r.events (head ∷ []) r.lower (lower_one f last q l.header)) s.lower;
      }

  -- the body comes to the latch
  pub next_round : (i : ℕ) (a b c : List Began) → Rounds i a b → Segment f last q (suc n) body ls (b ++ head ∷ []) c → Rounds (suc i) a (c ++ back ∷ [])
  next_round i a b c r s =
      let k = started_body i a b c r s in
      let es = k.events in
      record {
        events = es ++ back ∷ [];
        are = more_is a c (c ++ back ∷ []) es (back ∷ []) k.are refl;
        of = of_append f last n (body + 2) es (back ∷ []) k.of of_back;
        turned = λ t fresh.
            let u : Turns = record { again = false; starts = suc i ∷ t.starts } in
            turns-append f own t (es ++ back ∷ []) (head ∷ [])
            ∙ ap (λ x. turn f own x head) (turns-append f own t es (back ∷ []) ∙ ap (λ x. turn f own x back) (k.turned t fresh) ∙ turn_back u)
            ∙ turn_head (record { again = true; starts = suc i ∷ t.starts });
        loops = all_grown_then f last es (back ∷ []) ls k.loops back_grown;
        lower = loops_then q f es (back ∷ []) k.lower (lower_one f last q l.latch);
      }

  -- the body leaves the loop
  pub last_round : (i : ℕ) (a b c : List Began) → Rounds i a b → Segment f last q (suc n) body ls (b ++ head ∷ []) c → IsWithin l (suc i) → Segment f last q n (body + 2) (l ∷ ls) a c
  last_round i a b c r s within =
      let k = started_body i a b c r s in
      record {
        events = k.events;
        are = k.are;
        of = k.of;
        loops = (λ t fresh. record { entries = suc i ∷ []; are = k.turned t fresh; within = (within, tt) }, k.loops);
        lower = k.lower;
      }
