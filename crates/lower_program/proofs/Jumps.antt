-- Jumps and branches lead to blocks.
use Rattle.std.proofs.Common.{◌≡◌, ℕ, ◌+◌, ◌-◌, ◌<◌, ◌≤◌, List, [], ◌∷◌, ◌++◌, length, get_or, Option, Some, None, refl, sym, ap, ◌∙◌, subst, arith, length-append}
use Rattle.std.specs.Prelude.{option_map, option_to_list, slice_get, if◌then◌else◌}
use Rattle.std.proofs.lemmas.Grind.{flat_map-append}
use Rattle.std.proofs.lemmas.List.{append-nil}
use Rattle.std.proofs.lemmas.Option.{same_Some, slice_get-map, slice_get-get_or}
use Rattle.rv_core.specs.declared.row.Condition.{Condition}
use Rattle.rv_core.specs.Arithmetic.{holds}
use Rattle.high_ir.specs.Meaning as high
use Rattle.low_ir.specs.declared.run.Began.{Began}
use Rattle.low_ir.specs.declared.run.Value.TheVariants.{Word}
use Rattle.low_ir.specs.Code.{Operand, End, Jump, Branch, Return, Block, Low, Note}
use Rattle.low_ir.specs.Effects.{World, began}
use Rattle.low_ir.specs.Formed.{only_jump}
use Rattle.low_ir.specs.Runs.{Going, virtual, operand_value, enter, block_in, went_to, chosen, branches, at_code, at_end, step}
use Rattle.low_ir.specs.Turns.{mark_at, mark_in}
use Rattle.lower_definition.specs.Operators.{Code}
use Rattle.lower_definition.specs.Values.{Scope}
use Rattle.lower_definition.specs.Statements.{Piece, landed, landed_by}
use Rattle.lower_definition.specs.Programs.{turned, turned_end}
use Rattle.lower_nesting.specs.Segments.{AllInside, arrival}
use Rattle.lower_nesting.proofs.Pieces.{AllApart, all_behind, part_one}
use Rattle.lower_values.specs.Meeting.{MeetsWorld}
use Rattle.lower_program.specs.Claims.{whole}
use Rattle.lower_program.specs.Following.{Goer, Place, IsPlace, Activation, After, Extent, IsAt, Stand, Meets, Entered, Begun, Here, Inside, Ahead, Reached, extent}
use Rattle.lower_program.proofs.Steps.{after_map, step_to}
use Rattle.lower_program.proofs.Parts.{reached_now}

-- the world as a block begins
pub world_began : (scope : Scope) (w : high.World) (u : World) (f b : ℕ) → MeetsWorld scope w u → MeetsWorld scope w (began u f b)
world_began scope w u f b h = record { objects = h.objects; count = h.count; sound = h.sound; input = h.input; input_words = h.input_words; output = h.output }

-- a block that only jumps
pub only_jump-is : (b : Block ℕ Note) (n : ℕ) → b.mark ≡ None → b.code ≡ [] → b.end ≡ Jump n → b ≡ only_jump n
only_jump-is b n m c e =
    ap (λ (x : Option ℕ). record { mark = x; code = b.code; end = b.end }) m
    ∙ ap (λ (x : Code). record { mark = None; code = x; end = b.end }) c
    ∙ ap (λ (x : End ℕ). record { mark = None; code = []; end = x }) e

-- an end jumps to one block
pub end_same : (e : End ℕ) (m n : ℕ) → e ≡ Jump m → e ≡ Jump n → m ≡ n
end_same e m n a b = cc

module _ (q : Low) (at : Place) (is_place : IsPlace q at) where
  -- each number up to the last is that of a block
  pub record Known (n : ℕ) : Type 0 where
    pub block : Block ℕ Note
    pub is : IsAt q at n block

  pub known : (n : ℕ) → n ≤ at.last → Known n
  known n within =
      let d : Block ℕ Note = only_jump 0 in
      let count = is_place.count in
      let b = get_or at.blocks (at.last - n) d in
      record {
        block = b;
        is = record {
          below = within;
          block = ap (λ bs. slice_get bs (at.last - n)) is_place.blocks ∙ slice_get-map (turned at.last) at.blocks (at.last - n)
              ∙ ap (option_map (turned at.last)) (slice_get-get_or at.blocks (at.last - n) d (omega (arith, within, count)));
        };
      }

  module _ (act : Activation) where
    -- a block begins
    pub begin_block : (st : high.State) (n : ℕ) (b : Block ℕ Note) (r : Goer) → IsAt q at n b → Meets q at act st None r → After q (went_to q r (at.last - n)) (Begun q at act n st r.world.trace)
    begin_block st n b r is h =
        let k = at.last - n in
        let there : block_in (slice_get q.functions r.top.func) k ≡ Some (turned at.last b) =
        ap (λ f. block_in (slice_get q.functions f) k) h.function ∙ ap (λ o. block_in o k) is_place.function ∙ is.block in
        let z : Goer = record r { top = record r.top { code = b.code; end = turned_end at.last b.end }; world = began r.world r.top.func k } in
        let e : Began = record { function = r.top.func; block = k } in
        let mark : mark_at q e ≡ b.mark = ap mark_in there in
        record {
          steps = 0;
          state = z;
          is = ap (enter r k) there;
          holds = record {
            block = b;
            is = is;
            entered = record {
              meets = record {
                function = h.function;
                below = h.below;
                size = h.size;
                world = world_began at.scope st.world r.world r.top.func k h.world;
                frame = h.frame;
                marks =
                    flat_map-append (λ x. option_to_list (mark_at q x)) r.world.trace (e ∷ [])
                    ∙ ap (λ ms. ms ++ (option_to_list (mark_at q e) ++ [])) (h.marks ∙ append-nil st.trace)
                    ∙ ap (λ ms. st.trace ++ ms) (append-nil (option_to_list (mark_at q e)))
                    ∙ ap (λ m. st.trace ++ option_to_list m) mark;
              };
              code = refl;
              end = refl;
            };
            began = ap (λ (f : ℕ). r.world.trace ++ record { function = f; block = k } ∷ []) h.function;
          };
        }

    -- a step at the end of a block
    pub end_step : (r : Goer) (end : End ℕ) → r.top.code ≡ [] → r.top.end ≡ end → step virtual q (Going r) ≡ at_end virtual q r end
    end_step r end c e = ap (at_code virtual q r) c ∙ ap (at_end virtual q r) e

    pub jump_step : (st : high.State) (n : ℕ) (r : Goer) → n ≤ at.last → Meets q at act st None r → r.top.code ≡ [] → r.top.end ≡ Jump (at.last - n) → After q (Going r) (Begun q at act n st r.world.trace)
    jump_step st n r within h c e =
        let b = known n within in
        step_to q (Going r) (went_to q r (at.last - n)) (Begun q at act n st r.world.trace) (end_step r (Jump (at.last - n)) c e) (begin_block st n b.block r b.is h)

    -- the block of a number is one
    pub at_block : (b : Block ℕ Note) (n : ℕ) (st : high.State) (so_far : List Began) (r : Goer) → IsAt q at n b → Begun q at act n st so_far r → Entered q at act b st r
    at_block b n st so_far r is h =
        let same : turned at.last h.block ≡ turned at.last b = same_Some (turned at.last h.block) (turned at.last b) (sym h.is.block ∙ is.block) in
        record {
          meets = subst (λ m. Meets q at act st m r) (ap (λ (x : Block ℕ Note). x.mark) same) h.entered.meets;
          code = h.entered.code ∙ ap (λ (x : Block ℕ Note). x.code) same;
          end = h.entered.end ∙ ap (λ (x : Block ℕ Note). x.end) same;
        }

    -- a block of a part begins
    pub enters : (x : Extent) (i : ℕ) (st : high.State) (b : Block ℕ Note) (so_far : List Began) (r : Goer) → x.from ≤ i → i < x.from + x.count → AllApart at.number at.last i 1 x.loops → IsAt q at i b → Begun q at act i st so_far r → Reached q at act x so_far (Here q at act b st) r
    enters x i st b so_far r low high apart is h = record {
      now = so_far ++ arrival at.number at.last i ∷ [];
      part = part_one at.number at.last q x.from x.count i x.loops so_far low high is.below apart;
      holds = Inside (at_block b i st so_far r is h) h.began;
    }

    -- what landed
    abbrev pub landing : ℕ → Piece → Extent
    landing n p = extent n (landed n p).new (landed n p).loops

    -- where one comes to a piece that has landed
    pub comes : (n : ℕ) (p : Piece) (st : high.State) (so_far : List Began) (r : Goer) → AllInside n (length p.new) p.loops → Stand q at n (landed n p).new → Begun q at act (landed n p).goal st so_far r → Reached q at act (landing n p) so_far (Here q at act p.first st) r
    comes n p st so_far r inside stand h = by_first p.first.mark p.first.code p.first.end refl refl refl stand h
      where
        to_block : IsAt q at (n + length p.new) p.first → Begun q at act (n + length p.new) st so_far r → Reached q at act (extent n (p.first ∷ p.new) p.loops) so_far (Here q at act p.first st) r
        to_block is g = enters (extent n (p.first ∷ p.new) p.loops) (n + length p.new) st p.first so_far r (omega arith) (omega arith) (all_behind at.number at.last (n + length p.new) 1 n (length p.new) p.loops (omega arith) inside) is g

        by_first : (m : Option ℕ) (c : Code) (e : End ℕ) → p.first.mark ≡ m → p.first.code ≡ c → p.first.end ≡ e → Stand q at n (landed_by m c e n p).new → Begun q at act (landed_by m c e n p).goal st so_far r → Reached q at act (extent n (landed_by m c e n p).new (landed_by m c e n p).loops) so_far (Here q at act p.first st) r
        by_first (Some m) c e em ec ee stand g = to_block stand.0 g
        by_first None (i ∷ is) e em ec ee stand g = to_block stand.0 g
        by_first None [] (Branch c x y taken other) em ec ee stand g = to_block stand.0 g
        by_first None [] (Return x) em ec ee stand g = to_block stand.0 g
        by_first None [] (Jump b) em ec ee stand g = reached_now q at act (whole n p) so_far (Here q at act p.first st) r (Ahead b (only_jump-is p.first b em ec ee) g)

    pub arrives : (n : ℕ) (p : Piece) (st : high.State) (r : Goer) → AllInside n (length p.new) p.loops → (landed n p).goal ≤ at.last → Stand q at n (landed n p).new → Meets q at act st None r → After q (went_to q r (at.last - (landed n p).goal)) (Reached q at act (landing n p) r.world.trace (Here q at act p.first st))
    arrives n p st r inside goal stand h =
        let k = known (landed n p).goal goal in
        after_map q (went_to q r (at.last - (landed n p).goal)) (Begun q at act (landed n p).goal st r.world.trace) (Reached q at act (landing n p) r.world.trace (Here q at act p.first st)) (begin_block st (landed n p).goal k.block r k.is h)
        (λ y g. comes n p st r.world.trace y inside stand g)

    -- a branch whose sides have landed
    pub branch_step : (r : Goer) (c : Condition) (x y : Operand ℕ) (taken other a b : ℕ) → r.top.code ≡ [] → r.top.end ≡ Branch c x y taken other → operand_value virtual r.top.store x ≡ Some (Word a) → operand_value virtual r.top.store y ≡ Some (Word b) → step virtual q (Going r) ≡ went_to q r (if holds c a b then taken else other)
    branch_step r c x y taken other a b ec ee ex ey =
        end_step r (Branch c x y taken other) ec ee
        ∙ ap (λ o. branches q r (chosen c taken other o (operand_value virtual r.top.store y))) ex
        ∙ ap (λ o. branches q r (chosen c taken other (Some (Word a)) o)) ey

    -- the blocks of what has landed
    pub stand_landed : (n : ℕ) (p : Piece) → Stand q at n (landed n p).new → Stand q at n p.new
    stand_landed n p stand = by_first p.first.mark p.first.code p.first.end stand
      where
        by_first : (m : Option ℕ) (c : Code) (e : End ℕ) → Stand q at n (landed_by m c e n p).new → Stand q at n p.new
        by_first (Some m) c e stand = stand.1
        by_first None (i ∷ is) e stand = stand.1
        by_first None [] (Branch c x y taken other) stand = stand.1
        by_first None [] (Return x) stand = stand.1
        by_first None [] (Jump b) stand = stand

  -- blocks in front of others
  pub stand_back : (n : ℕ) (a b : List (Block ℕ Note)) → Stand q at n (a ++ b) → Stand q at n b
  stand_back n [] b h = h
  stand_back n (x ∷ a) b h = stand_back n a b h.1

  pub stand_front : (n : ℕ) (a b : List (Block ℕ Note)) → Stand q at n (a ++ b) → Stand q at (n + length b) a
  stand_front n [] b h = tt
  stand_front n (x ∷ a) b h =
      let same : n + length (a ++ b) ≡ n + length b + length a = omega (arith, length-append a b) in
      (subst (λ k. IsAt q at k x) same h.0, stand_front n a b h.1)

  pub stand_one : (n : ℕ) (k : Block ℕ Note) → Stand q at n (k ∷ []) → IsAt q at n k
  stand_one n k h = let e : n + 0 ≡ n = omega arith in subst (λ i. IsAt q at i k) e h.0
