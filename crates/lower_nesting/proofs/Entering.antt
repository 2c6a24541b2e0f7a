-- What comes into a loop comes to its header, and its latch only jumps back.
use Rattle.std.proofs.Common.{◌≡◌, ℕ, suc, ◌+◌, ◌<◌, ◌≤◌, List, [], ◌∷◌, ◌++◌, length, Option, Some, None, refl, sym, subst, ⊎_elim, arith, length-append}
use Rattle.high_ir.specs.Standing.{blocks_needed, blocks_needed_all}
use Rattle.high_ir.specs.Tree as high
use Rattle.low_ir.specs.Code.{Block, Loop, Note}
use Rattle.low_ir.specs.Formed.{only_jump}
use Rattle.lower_definition.specs.Values.{Scope, Coded}
use Rattle.lower_definition.specs.Statements.{before, before_by, landed, marked_by, one_block, set_code, put_code, get_code, keep_code, call_code, kept_value, piece, pieces}
use Rattle.lower_nesting.specs.Blocks.{AllGo, Each, EachLoop, Exits, Goes, LoopAt, Well}
use Rattle.lower_nesting.proofs.Free.{landed_length, landed_loops}
use Rattle.lower_nesting.proofs.Loops.{all_loops_inside, loops_inside}
use Rattle.lower_nesting.proofs.Goals.{all_go_map, exits_map, goes_map, lands, lands_goal, one_exit_more, piece_leads}
use Rattle.lower_nesting.proofs.Numbered.{each_any, each_append, each_at, each_from, landed_each, loops_append, loops_map}
use Rattle.lower_nesting.proofs.Falling.{Below, first_below, firsts_below, join_goal, lower, lower_end}

-- code and its blocks, as a loop wants them
abbrev pub Fine : ℕ → Block ℕ Note → List (Block ℕ Note) → Loop → Type 0
Fine n first new l = Goes (Well l) first.end × Each (LoopAt l) n new

-- what stands behind a loop is no part of it
low_well : (n : ℕ) (l : Loop) (j : ℕ) → n ≤ l.latch → j < n → Well l j
low_well n l j low below a b = absurd (omega (arith, low, below, a))

high_well : (l : Loop) (j : ℕ) → l.header < j → Well l j
high_well l j above a b = absurd (omega (arith, above, b))

-- blocks that stand apart from a loop
apart_at : (l : Loop) (n : ℕ) (bs : List (Block ℕ Note)) → ((i : ℕ) → n ≤ i → i < n + length bs → i ≡ l.latch → ⊥) → AllGo (Well l) bs → Each (LoopAt l) n bs
apart_at l n bs apart h = each_from (LoopAt l) (Well l) n bs (λ i b low high g. record { latch = λ e. absurd (apart i low high e); well = λ o. g }) h

behind_at : (l : Loop) (n m : ℕ) (bs : List (Block ℕ Note)) → n + length bs ≤ m → m ≤ l.latch → AllGo (Below m) bs → Each (LoopAt l) n bs
behind_at l n m bs size low h =
    apart_at l n bs (λ i above below e. omega (arith, size, low, below, e)) (all_go_map (Below m) (Well l) bs (λ j x. low_well m l j low x) h)

front_at : (l : Loop) (n : ℕ) (bs : List (Block ℕ Note)) → l.latch < n → AllGo (Well l) bs → Each (LoopAt l) n bs
front_at l n bs low h = apart_at l n bs (λ i above below e. omega (arith, low, above, e)) h

-- blocks of a loop
within_at : (l : Loop) (n : ℕ) (bs : List (Block ℕ Note)) → l.latch < n → n + length bs ≤ suc l.header → Each (LoopAt l) n bs
within_at l n bs low high = each_any (LoopAt l) n bs (λ i b above below. record {
  latch = λ e. absurd (omega (arith, low, above, e));
  well = λ o. ⊎_elim (λ (x : i < l.latch). absurd (omega (arith, low, above, x))) (λ (x : l.header < i). absurd (omega (arith, high, below, x))) o;
})

before_fine : (n : ℕ) (k : Block ℕ Note) (c : Coded) → EachLoop (Fine n (before n k c).first (before n k c).new) (before n k c).loops
before_fine n k c = by_mark k.mark
  where
    by_mark : (m : Option ℕ) → EachLoop (Fine n (before_by m c.code n k c.free).first (before_by m c.code n k c.free).new) (before_by m c.code n k c.free).loops
    by_mark None = tt
    by_mark (Some m) = tt

marked_fine : (o : Option ℕ) (m n t : ℕ) (k : Block ℕ Note) → EachLoop (Fine n (marked_by o m n k t).first (marked_by o m n k t).new) (marked_by o m n k t).loops
marked_fine None m n t k = tt
marked_fine (Some l) m n t k = tt

-- the blocks of what is behind a statement
join_below : (n t : ℕ) (k : Block ℕ Note) → Goes (Below n) k.end → AllGo (Below (n + length (landed n (one_block k t)).new)) (landed n (one_block k t)).new
join_below n t k h =
    let m = n + length (landed n (one_block k t)).new in
    (lands (Below m) n (one_block k t) (record { first = lower_end n m k (omega arith) h; new = tt }) (λ j low high. high)).1

module _ (scope : Scope) where
  mutual
    pub piece_fine : (s : high.Statement) (exits : List ℕ) (n t : ℕ) (k : Block ℕ Note) → blocks_needed s ≤ length exits → Exits (Below n) exits → Goes (Below n) k.end → EachLoop (Fine n (piece scope s exits n t k).first (piece scope s exits n t k).new) (piece scope s exits n t k).loops
    piece_fine (high.Set x e) exits n t k need outs behind = before_fine n k (set_code scope x e t)
    piece_fine (high.Put e) exits n t k need outs behind = before_fine n k (put_code scope e t)
    piece_fine (high.Get x) exits n t k need outs behind = before_fine n k (get_code scope x t)
    piece_fine (high.Keep array i e) exits n t k need outs behind = before_fine n k (keep_code scope array i (kept_value array.kind e) t)
    piece_fine (high.Mark m) exits n t k need outs behind = marked_fine k.mark m n t k
    piece_fine (high.Seq parts) exits n t k need outs behind = all_fine parts exits n t k need outs behind
    piece_fine (high.If test first other) exits n t k need outs behind =
        let join = landed n (one_block k t) in
        let m = n + length join.new in
        let p = piece scope other exits m t (only_jump join.goal) in
        let b = landed m p in
        let m2 = m + length b.new in
        let r = piece scope first exits m2 b.free (only_jump join.goal) in
        let a = landed m2 r in
        let new = a.new ++ (b.new ++ join.new) in
        let goal = join_goal n t k behind in
        let outs_p = lower n m exits (omega arith) outs in
        let outs_r = lower n m2 exits (omega arith) outs in
        let need_p : blocks_needed other ≤ length exits = omega (arith, need) in
        let need_r : blocks_needed first ≤ length exits = omega (arith, need) in
        let goal_r : join.goal < m2 = omega (arith, goal) in
        let fp = first_below scope other exits m t (only_jump join.goal) need_p outs_p goal in
        let long : m + length p.new ≤ m2 = let h = landed_length m p in omega (arith, h) in
        let lands_p = lands (Below m2) m p (record { first = goes_map (Below (m + length p.new)) (Below m2) p.first.end (λ j x. omega (arith, x, long)) fp.first; new = all_go_map (Below (m + length p.new)) (Below m2) p.new (λ j x. omega (arith, x, long)) fp.new }) (λ j low high. high) in
        let join_new = join_below n t k behind in
        let total = length-append b.new join.new in
        let at : m2 ≡ n + length (b.new ++ join.new) = omega (arith, total) in
        let of_first : EachLoop (λ l. (Well l a.goal × Well l b.goal) × Each (LoopAt l) n new) r.loops =
        loops_map (Fine m2 r.first r.new) (λ l. (Well l a.goal × Well l b.goal) × Each (LoopAt l) n new) m2 (length r.new) r.loops (loops_inside scope first exits m2 b.free (only_jump join.goal)) (piece_fine first exits m2 b.free (only_jump join.goal) need_r outs_r goal_r)
        (λ l inside fine.
        let low = inside.latch in
        let order = inside.order in
        let high = inside.header in (
          (lands_goal m2 r (Well l) fine.0 (λ x. high_well l (m2 + length r.new) high), low_well m2 l b.goal low lands_p.0),
          each_append (LoopAt l) n a.new (b.new ++ join.new)
              (each_at (LoopAt l) m2 (n + length (b.new ++ join.new)) a.new at (landed_each (LoopAt l) m2 r fine.1 (record { latch = λ e. absurd (omega (arith, order, high, e)); well = λ o. fine.0 })))
              (each_append (LoopAt l) n b.new join.new (behind_at l m m2 b.new (omega arith) low lands_p.1) (behind_at l n m join.new (omega arith) (omega (arith, low)) join_new)),
        )) in
        let of_other : EachLoop (λ l. (Well l a.goal × Well l b.goal) × Each (LoopAt l) n new) p.loops =
        loops_map (Fine m p.first p.new) (λ l. (Well l a.goal × Well l b.goal) × Each (LoopAt l) n new) m (length p.new) p.loops (loops_inside scope other exits m t (only_jump join.goal)) (piece_fine other exits m t (only_jump join.goal) need_p outs_p goal)
        (λ l inside fine.
        let low = inside.latch in
        let order = inside.order in
        let high = inside.header in
        let gr = piece_leads (Well l) scope first exits m2 b.free (only_jump join.goal) need_r (exits_map (Below m) (Well l) exits (λ j x. low_well m l j low x) outs_p) (low_well m l join.goal low goal) (λ j above below. high_well l j (omega (arith, above, high, long))) in
        let lr = lands (Well l) m2 r gr (λ j above below. high_well l j (omega (arith, above, high, long))) in (
          (lr.0, lands_goal m p (Well l) fine.0 (λ x. high_well l (m + length p.new) high)),
          each_append (LoopAt l) n a.new (b.new ++ join.new)
              (each_at (LoopAt l) m2 (n + length (b.new ++ join.new)) a.new at (front_at l m2 a.new (omega (arith, order, high, long)) lr.1))
              (each_append (LoopAt l) n b.new join.new (landed_each (LoopAt l) m p fine.1 (record { latch = λ e. absurd (omega (arith, order, high, e)); well = λ o. fine.0 })) (behind_at l n m join.new (omega arith) low join_new)),
        )) in
        loops_append (λ l. (Well l a.goal × Well l b.goal) × Each (LoopAt l) n new) a.loops b.loops
        (subst (EachLoop (λ l. (Well l a.goal × Well l b.goal) × Each (LoopAt l) n new)) (sym (landed_loops m2 r)) of_first)
        (subst (EachLoop (λ l. (Well l a.goal × Well l b.goal) × Each (LoopAt l) n new)) (sym (landed_loops m p)) of_other)
    piece_fine (high.Loop id least most body) exits n t k need outs behind =
        let b = piece scope body exits (suc n) t (only_jump n) in
        let header = suc n + length b.new in
        let own : Loop = record { id = id; least = least; most = most; header = header; latch = n } in
        let latch = only_jump header ∷ [] in
        let new = b.first ∷ (b.new ++ latch) in
        let total = length-append b.new latch in
        let one : suc n ≡ n + length latch = omega arith in
        let head : n + length (b.new ++ latch) ≡ header = omega (arith, total) in
        let outs_b = lower n (suc n) exits (omega arith) outs in (
          (
            λ x y. refl,
            (
              record { latch = λ e. absurd (omega (arith, head, e)); well = λ o. ⊎_elim (λ (x : n + length (b.new ++ latch) < n). absurd (omega (arith, x))) (λ (x : header < n + length (b.new ++ latch)). absurd (omega (arith, head, x))) o },
              each_append (LoopAt own) n b.new latch (each_at (LoopAt own) (suc n) (n + length latch) b.new one (within_at own (suc n) b.new (omega arith) (omega arith)))
                  (record { latch = λ e. refl; well = λ o x y. refl }, tt),
            ),
          ),
          loops_map (Fine (suc n) b.first b.new) (Fine n (only_jump header) new) (suc n) (length b.new) b.loops (loops_inside scope body exits (suc n) t (only_jump n)) (piece_fine body exits (suc n) t (only_jump n) need outs_b (omega arith))
              (λ l inside fine.
              let low = inside.latch in
              let order = inside.order in
              let high = inside.header in (
                high_well l header high,
                (
                  record { latch = λ e. absurd (omega (arith, head, order, high, e)); well = λ o. fine.0 },
                  each_append (LoopAt l) n b.new latch (each_at (LoopAt l) (suc n) (n + length latch) b.new one fine.1)
                      (record { latch = λ e. absurd (omega (arith, low, e)); well = λ o. high_well l header high }, tt),
                ),
              )),
        )
    piece_fine (high.Block body) exits n t k need outs behind =
        let join = landed n (one_block k t) in
        let m = n + length join.new in
        let p = piece scope body (join.goal ∷ exits) m t (only_jump join.goal) in
        let goal = join_goal n t k behind in
        let join_new = join_below n t k behind in
        loops_map (Fine m p.first p.new) (Fine n p.first (p.new ++ join.new)) m (length p.new) p.loops (loops_inside scope body (join.goal ∷ exits) m t (only_jump join.goal))
        (piece_fine body (join.goal ∷ exits) m t (only_jump join.goal) (omega (arith, need)) (one_exit_more (Below m) join.goal exits goal (lower n m exits (omega arith) outs)) goal)
        (λ l inside fine. (fine.0, each_append (LoopAt l) n p.new join.new fine.1 (behind_at l n m join.new (omega arith) inside.latch join_new)))
    piece_fine (high.Leave d) exits n t k need outs behind = tt
    piece_fine (high.Call f values arrays into) exits n t k need outs behind = before_fine n k (call_code scope f values arrays into t)
    piece_fine (high.Return e) exits n t k need outs behind = tt

    pub all_fine : (ss : high.Statements) (exits : List ℕ) (n t : ℕ) (k : Block ℕ Note) → blocks_needed_all ss ≤ length exits → Exits (Below n) exits → Goes (Below n) k.end → EachLoop (Fine n (pieces scope ss exits n t k).first (pieces scope ss exits n t k).new) (pieces scope ss exits n t k).loops
    all_fine high.End exits n t k need outs behind = tt
    all_fine (high.Then first rest) exits n t k need outs behind =
        let r = pieces scope rest exits n t k in
        let m = n + length r.new in
        let p = piece scope first exits m r.free r.first in
        let new = p.new ++ r.new in
        let need_r : blocks_needed_all rest ≤ length exits = omega (arith, need) in
        let need_p : blocks_needed first ≤ length exits = omega (arith, need) in
        let outs_p = lower n m exits (omega arith) outs in
        let fr = firsts_below scope rest exits n t k need_r outs behind in
        loops_append (Fine n p.first new) p.loops r.loops
        (loops_map (Fine m p.first p.new) (Fine n p.first new) m (length p.new) p.loops (loops_inside scope first exits m r.free r.first) (piece_fine first exits m r.free r.first need_p outs_p fr.first)
        (λ l inside fine. (fine.0, each_append (LoopAt l) n p.new r.new fine.1 (behind_at l n m r.new (omega arith) inside.latch fr.new))))
        (loops_map (Fine n r.first r.new) (Fine n p.first new) n (length r.new) r.loops (all_loops_inside scope rest exits n t k) (all_fine rest exits n t k need_r outs behind)
        (λ l inside fine.
        let low = inside.latch in
        let order = inside.order in
        let high = inside.header in
        let gp = piece_leads (Well l) scope first exits m r.free r.first need_p (exits_map (Below n) (Well l) exits (λ j x. low_well n l j low x) outs) fine.0 (λ j above below. high_well l j (omega (arith, above, high))) in
        (gp.first, each_append (LoopAt l) n p.new r.new (front_at l m p.new (omega (arith, order, high)) gp.new) fine.1)))
