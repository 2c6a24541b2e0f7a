-- Runs that stay within a part of a function, one after another.
use Rattle.std.proofs.Common.{ℕ, suc, ◌+◌, ◌≤◌, List, [], ◌∷◌, ◌++◌, length, Option, Some, None, subst, arith}
use Rattle.std.specs.Prelude.{slice_index_or}
use Rattle.high_ir.specs.Meaning.{Outcome, Goes, Leaves, Returns, Bad}
use Rattle.low_ir.specs.declared.run.Began.{Began}
use Rattle.low_ir.specs.Code.{Block, End, Jump, Branch, Return, Loop, Low, Note}
use Rattle.low_ir.specs.Runs.{Run, Going, Bank}
use Rattle.lower_definition.specs.Operators.{Code}
use Rattle.lower_definition.specs.Statements.{Piece, landed, landed_by, one_block}
use Rattle.lower_nesting.specs.Segments.{AllInside, Segment}
use Rattle.lower_nesting.proofs.Pieces.{all_before, all_behind, part_loops_before, part_loops_behind, part_then, part_wider, still}
use Rattle.lower_nesting.proofs.Free.{landed_loops}
use Rattle.lower_program.specs.Claims.{whole}
use Rattle.lower_program.specs.Following.{Activation, After, Begun, Does, Extent, Goer, Here, Place, Reached, Returning, extent}
use Rattle.lower_program.proofs.Steps.{after_map, and_then, now}

module _ (q : Low) (at : Place) where
  abbrev pub Part : Extent → List Began → List Began → Type 0
  Part x a b = Segment at.number at.last q x.from x.count x.loops a b

  -- what is a part of a run in the one is a part of it in the other
  abbrev pub InPart : Extent → Extent → Type 0
  InPart x y = (a b : List Began) → Part x a b → Part y a b

  pub part_of_two : (x : Extent) (a b c : List Began) → Part x a b → Part x b c → Part x a c
  part_of_two x a b c h k = part_then at.number at.last q x.from x.count x.loops a b c h k

  -- what landed
  pub in_landed : (n : ℕ) (p : Piece) → InPart (whole n p) (extent n (landed n p).new (landed n p).loops)
  in_landed n p = by_first p.first.mark p.first.code p.first.end
    where
      more : InPart (whole n p) (extent n (p.first ∷ p.new) p.loops)
      more a b h = part_wider at.number at.last q n (length p.new) n (length (p.first ∷ p.new)) p.loops a b (omega arith) (omega arith) h

      by_first : (m : Option ℕ) (c : Code) (e : End ℕ) → InPart (whole n p) (extent n (landed_by m c e n p).new (landed_by m c e n p).loops)
      by_first (Some m) c e = more
      by_first None (i ∷ is) e = more
      by_first None [] (Branch c x y taken other) = more
      by_first None [] (Return x) = more
      by_first None [] (Jump b) = λ a b h. h

  -- in a larger part
  pub in_larger : (n m n3 size : ℕ) (ls : List Loop) → n3 ≤ n → n + m ≤ n3 + size → InPart (record { from = n; count = m; loops = ls }) (record { from = n3; count = size; loops = ls })
  in_larger n m n3 size ls low high a b h = part_wider at.number at.last q n m n3 size ls a b low high h

  -- in a larger part, with loops that stand behind, and before
  pub in_front : (n m n2 m2 n3 size : ℕ) (ls more : List Loop) → n2 + m2 ≤ n → n3 ≤ n → n + m ≤ n3 + size → AllInside n2 m2 more → InPart (record { from = n; count = m; loops = ls }) (record { from = n3; count = size; loops = ls ++ more })
  in_front n m n2 m2 n3 size ls more behind low high inside a b h =
      part_wider at.number at.last q n m n3 size (ls ++ more) a b low high
      (part_loops_behind at.number at.last q n m ls more a b (all_behind at.number at.last n m n2 m2 more behind inside) h)

  pub in_back : (n m n2 m2 n3 size : ℕ) (ls more : List Loop) → n + m ≤ n2 → n2 + m2 ≤ suc at.last → n3 ≤ n → n + m ≤ n3 + size → AllInside n2 m2 more → InPart (record { from = n; count = m; loops = ls }) (record { from = n3; count = size; loops = more ++ ls })
  in_back n m n2 m2 n3 size ls more before within low high inside a b h =
      part_wider at.number at.last q n m n3 size (more ++ ls) a b low high
      (part_loops_before at.number at.last q n m ls more a b (all_before at.number at.last n m n2 m2 more before within inside) h)

  -- what is behind a statement has no loops
  pub in_join : (n t : ℕ) (k : Block ℕ Note) (n2 m2 size : ℕ) (more : List Loop) → n + length (landed n (one_block k t)).new ≤ n2 → n2 + m2 ≤ suc at.last → n2 + m2 ≤ n + size → AllInside n2 m2 more → InPart (extent n (landed n (one_block k t)).new (landed n (one_block k t)).loops) (record { from = n; count = size; loops = more })
  in_join n t k n2 m2 size more before within high inside a b h =
      let join = landed n (one_block k t) in
      let m = length join.new in
      part_wider at.number at.last q n m n size more a b (omega arith) (omega (arith, before, high))
      (part_loops_behind at.number at.last q n m [] more a b (all_before at.number at.last n m n2 m2 more before within inside) (subst (λ ls. Part (extent n join.new ls) a b) (landed_loops n (one_block k t)) h))

  module _ (act : Activation) where
    pub reached_now : (x : Extent) (so_far : List Began) (P : List Began → Goer → Type 0) (r : Goer) → P so_far r → Reached q at act x so_far P r
    reached_now x so_far P r h = record { now = so_far; part = still at.number at.last q x.from x.count x.loops so_far; holds = h }

    pub reaches : (x : Extent) (so_far : List Began) (P : List Began → Goer → Type 0) (r : Goer) → P so_far r → After q (Going r) (Reached q at act x so_far P)
    reaches x so_far P r h = now q r (Reached q at act x so_far P) (reached_now x so_far P r h)

    -- one part and then another
    pub reach_then : (x : Extent) (so_far : List Began) (z : Run ℕ Note Bank) (P Q : List Began → Goer → Type 0) → After q z (Reached q at act x so_far P) → ((t : List Began) (r : Goer) → P t r → After q (Going r) (Reached q at act x t Q)) → After q z (Reached q at act x so_far Q)
    reach_then x so_far z P Q a go =
        and_then q z (Reached q at act x so_far P) (Reached q at act x so_far Q) a
        (λ r h. after_map q (Going r) (Reached q at act x h.now Q) (Reached q at act x so_far Q) (go h.now r h.holds)
        (λ y k. record { now = k.now; part = part_of_two x so_far h.now k.now h.part k.part; holds = k.holds }))

    pub reached_in : (x y : Extent) (so_far : List Began) (P : List Began → Goer → Type 0) (r : Goer) → InPart x y → Reached q at act x so_far P r → Reached q at act y so_far P r
    reached_in x y so_far P r into h = record { now = h.now; part = into so_far h.now h.part; holds = h.holds }

    pub reach_in : (x y : Extent) (so_far : List Began) (z : Run ℕ Note Bank) (P : List Began → Goer → Type 0) → InPart x y → After q z (Reached q at act x so_far P) → After q z (Reached q at act y so_far P)
    reach_in x y so_far z P into a = after_map q z (Reached q at act x so_far P) (Reached q at act y so_far P) a (λ r h. record { now = h.now; part = into so_far h.now h.part; holds = h.holds })

    pub does_in : (x y : Extent) (so_far : List Began) (z : Run ℕ Note Bank) (k : Block ℕ Note) (exits : List ℕ) (o : Outcome) → InPart x y → Does q at act x so_far z k exits o → Does q at act y so_far z k exits o
    does_in x y so_far z k exits (Goes st) into h = reach_in x y so_far z (Here q at act k st) into h
    does_in x y so_far z k exits (Leaves d st) into h = reach_in x y so_far z (Begun q at act (slice_index_or exits d 0) st) into h
    does_in x y so_far z k exits (Returns v w t) into h = reach_in x y so_far z (Returning q at act v w t) into h
    does_in x y so_far z k exits Bad into h = tt

    -- a run goes on as an outcome says, from where another one goes on
    pub then_ends : (x : Extent) (so_far : List Began) (z : Run ℕ Note Bank) (P : List Began → Goer → Type 0) (k : Block ℕ Note) (exits : List ℕ) (o : Outcome) → After q z (Reached q at act x so_far P) → ((t : List Began) (r : Goer) → P t r → Does q at act x t (Going r) k exits o) → Does q at act x so_far z k exits o
    then_ends x so_far z P k exits (Goes st) a go = reach_then x so_far z P (Here q at act k st) a go
    then_ends x so_far z P k exits (Leaves d st) a go = reach_then x so_far z P (Begun q at act (slice_index_or exits d 0) st) a go
    then_ends x so_far z P k exits (Returns v w t) a go = reach_then x so_far z P (Returning q at act v w t) a go
    then_ends x so_far z P k exits Bad a go = tt

    -- from a state on, by way of another one
    pub after_ends : (x : Extent) (so_far : List Began) (z : Run ℕ Note Bank) (P : Goer → Type 0) (k : Block ℕ Note) (exits : List ℕ) (o : Outcome) → After q z P → ((r : Goer) → P r → Does q at act x so_far (Going r) k exits o) → Does q at act x so_far z k exits o
    after_ends x so_far z P k exits (Goes st) a go = and_then q z P (Reached q at act x so_far (Here q at act k st)) a go
    after_ends x so_far z P k exits (Leaves d st) a go = and_then q z P (Reached q at act x so_far (Begun q at act (slice_index_or exits d 0) st)) a go
    after_ends x so_far z P k exits (Returns v w t) a go = and_then q z P (Reached q at act x so_far (Returning q at act v w t)) a go
    after_ends x so_far z P k exits Bad a go = tt
