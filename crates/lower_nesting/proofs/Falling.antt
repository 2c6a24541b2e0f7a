-- Jumps lead to blocks behind, but for those of latches.
use Rattle.std.proofs.Common.{◌≡◌, ℕ, suc, ◌+◌, ◌<◌, ◌≤◌, List, [], ◌∷◌, ◌++◌, length, Option, Some, None, refl, sym, subst, ⊎_elim, inl, inr, arith, length-append}
use Rattle.high_ir.specs.Standing.{blocks_needed, blocks_needed_all}
use Rattle.high_ir.specs.Tree as high
use Rattle.low_ir.specs.Code.{Block, Loop, Note}
use Rattle.low_ir.specs.Formed.{only_jump}
use Rattle.lower_definition.specs.Values.{Scope, Coded}
use Rattle.lower_definition.specs.Statements.{before, before_by, landed, marked_by, one_block, set_code, put_code, get_code, keep_code, call_code, kept_value, piece, pieces}
use Rattle.lower_nesting.specs.Blocks.{Back, Each, Exits, Falls, Goes}
use Rattle.lower_nesting.proofs.Free.{landed_loops}
use Rattle.lower_nesting.proofs.Goals.{Leads, all_lead, exits_map, goes_map, lands_goal, one_exit_more, piece_leads}
use Rattle.lower_nesting.proofs.Numbered.{each_append, each_at, each_map, landed_each}

abbrev pub Below : ℕ → ℕ → Type 0
Below n j = j < n

abbrev pub FallsAt : List Loop → ℕ → Block ℕ Note → Type 0
FallsAt ls i b = Goes (Falls ls i) b.end

pub back_front : (ls more : List Loop) (i j : ℕ) → Back ls i j → Back (ls ++ more) i j
back_front [] more i j h = absurd h
back_front (l ∷ ls) more i j h = ⊎_elim (λ (x : (l.latch ≡ i) × (l.header ≡ j)). inl x) (λ (x : Back ls i j). inr (back_front ls more i j x)) h

pub back_behind : (ls more : List Loop) (i j : ℕ) → Back more i j → Back (ls ++ more) i j
back_behind [] more i j h = h
back_behind (l ∷ ls) more i j h = inr (back_behind ls more i j h)

falls_front : (ls more : List Loop) (i : ℕ) (b : Block ℕ Note) → FallsAt ls i b → FallsAt (ls ++ more) i b
falls_front ls more i b h = goes_map (Falls ls i) (Falls (ls ++ more) i) b.end (λ j x. ⊎_elim (λ (y : j < i). inl y) (λ (y : Back ls i j). inr (back_front ls more i j y)) x) h

falls_behind : (ls more : List Loop) (i : ℕ) (b : Block ℕ Note) → FallsAt more i b → FallsAt (ls ++ more) i b
falls_behind ls more i b h = goes_map (Falls more i) (Falls (ls ++ more) i) b.end (λ j x. ⊎_elim (λ (y : j < i). inl y) (λ (y : Back more i j). inr (back_behind ls more i j y)) x) h

falls_low : (n i : ℕ) (ls : List Loop) (b : Block ℕ Note) → n ≤ i → Goes (Below n) b.end → FallsAt ls i b
falls_low n i ls b low h = goes_map (Below n) (Falls ls i) b.end (λ j x. inl (omega (arith, x, low))) h

before_falls : (n : ℕ) (k : Block ℕ Note) (c : Coded) → Goes (Below n) k.end → Each (FallsAt (before n k c).loops) n (before n k c).new
before_falls n k c h = by_mark k.mark
  where
    by_mark : (m : Option ℕ) → Each (FallsAt (before_by m c.code n k c.free).loops) n (before_by m c.code n k c.free).new
    by_mark None = tt
    by_mark (Some m) = (falls_low n (n + 0) [] k (omega arith) h, tt)

marked_falls : (o : Option ℕ) (m n t : ℕ) (k : Block ℕ Note) → Goes (Below n) k.end → Each (FallsAt (marked_by o m n k t).loops) n (marked_by o m n k t).new
marked_falls None m n t k h = tt
marked_falls (Some l) m n t k h = (falls_low n (n + 0) [] k (omega arith) h, tt)

pub lower : (n m : ℕ) (exits : List ℕ) → n ≤ m → Exits (Below n) exits → Exits (Below m) exits
lower n m exits low h = exits_map (Below n) (Below m) exits (λ j x. omega (arith, x, low)) h

pub lower_end : (n m : ℕ) (b : Block ℕ Note) → n ≤ m → Goes (Below n) b.end → Goes (Below m) b.end
lower_end n m b low h = goes_map (Below n) (Below m) b.end (λ j x. omega (arith, x, low)) h

-- what is behind a statement
pub join_goal : (n t : ℕ) (k : Block ℕ Note) → Goes (Below n) k.end → (landed n (one_block k t)).goal < n + length (landed n (one_block k t)).new
join_goal n t k h =
    let P : ℕ → Type 0 = λ j. j < n + length (landed n (one_block k t)).new in
    lands_goal n (one_block k t) P (goes_map (Below n) P k.end (λ j x. omega (arith, x)) h) (λ x. x)

module _ (scope : Scope) where
  -- where a piece leads
  pub first_below : (s : high.Statement) (exits : List ℕ) (n t : ℕ) (k : Block ℕ Note) → blocks_needed s ≤ length exits → Exits (Below n) exits → Goes (Below n) k.end → Leads (Below (n + length (piece scope s exits n t k).new)) (piece scope s exits n t k)
  first_below s exits n t k need outs behind =
      let m = n + length (piece scope s exits n t k).new in
      piece_leads (Below m) scope s exits n t k need (lower n m exits (omega arith) outs) (lower_end n m k (omega arith) behind) (λ j low high. high)

  pub firsts_below : (ss : high.Statements) (exits : List ℕ) (n t : ℕ) (k : Block ℕ Note) → blocks_needed_all ss ≤ length exits → Exits (Below n) exits → Goes (Below n) k.end → Leads (Below (n + length (pieces scope ss exits n t k).new)) (pieces scope ss exits n t k)
  firsts_below ss exits n t k need outs behind =
      let m = n + length (pieces scope ss exits n t k).new in
      all_lead (Below m) scope ss exits n t k need (lower n m exits (omega arith) outs) (lower_end n m k (omega arith) behind) (λ j low high. high)

  mutual
    pub piece_falls : (s : high.Statement) (exits : List ℕ) (n t : ℕ) (k : Block ℕ Note) → blocks_needed s ≤ length exits → Exits (Below n) exits → Goes (Below n) k.end → Each (FallsAt (piece scope s exits n t k).loops) n (piece scope s exits n t k).new
    piece_falls (high.Set x e) exits n t k need outs behind = before_falls n k (set_code scope x e t) behind
    piece_falls (high.Put e) exits n t k need outs behind = before_falls n k (put_code scope e t) behind
    piece_falls (high.Get x) exits n t k need outs behind = before_falls n k (get_code scope x t) behind
    piece_falls (high.Keep array i e) exits n t k need outs behind = before_falls n k (keep_code scope array i (kept_value array.kind e) t) behind
    piece_falls (high.Mark m) exits n t k need outs behind = marked_falls k.mark m n t k behind
    piece_falls (high.Seq parts) exits n t k need outs behind = all_fall parts exits n t k need outs behind
    piece_falls (high.If test first other) exits n t k need outs behind =
        let join = landed n (one_block k t) in
        let m = n + length join.new in
        let p = piece scope other exits m t (only_jump join.goal) in
        let b = landed m p in
        let m2 = m + length b.new in
        let r = piece scope first exits m2 b.free (only_jump join.goal) in
        let a = landed m2 r in
        let ls = a.loops ++ b.loops in
        let goal = join_goal n t k behind in
        let outs_p = lower n m exits (omega arith) outs in
        let outs_r = lower n m2 exits (omega arith) outs in
        let need_p : blocks_needed other ≤ length exits = omega (arith, need) in
        let need_r : blocks_needed first ≤ length exits = omega (arith, need) in
        let goal_r : join.goal < m2 = omega (arith, goal) in
        let fp = first_below other exits m t (only_jump join.goal) need_p outs_p goal in
        let fr = first_below first exits m2 b.free (only_jump join.goal) need_r outs_r goal_r in
        let ep = piece_falls other exits m t (only_jump join.goal) need_p outs_p goal in
        let er = piece_falls first exits m2 b.free (only_jump join.goal) need_r outs_r goal_r in
        let lp = landed_each (FallsAt p.loops) m p ep (falls_low (m + length p.new) (m + length p.new) p.loops p.first (omega arith) fp.first) in
        let lr = landed_each (FallsAt r.loops) m2 r er (falls_low (m2 + length r.new) (m2 + length r.new) r.loops r.first (omega arith) fr.first) in
        let lb : Each (FallsAt b.loops) m b.new = subst (λ x. Each (FallsAt x) m b.new) (sym (landed_loops m p)) lp in
        let la : Each (FallsAt a.loops) m2 a.new = subst (λ x. Each (FallsAt x) m2 a.new) (sym (landed_loops m2 r)) lr in
        let lj : Each (FallsAt ls) n join.new = landed_each (FallsAt ls) n (one_block k t) tt (falls_low n (n + 0) ls k (omega arith) behind) in
        let total = length-append b.new join.new in
        let at : m2 ≡ n + length (b.new ++ join.new) = omega (arith, total) in
        each_append (FallsAt ls) n a.new (b.new ++ join.new)
        (each_at (FallsAt ls) m2 (n + length (b.new ++ join.new)) a.new at (each_map (FallsAt a.loops) (FallsAt ls) m2 a.new (λ i x h. falls_front a.loops b.loops i x h) la))
        (each_append (FallsAt ls) n b.new join.new (each_map (FallsAt b.loops) (FallsAt ls) m b.new (λ i x h. falls_behind a.loops b.loops i x h) lb) lj)
    piece_falls (high.Loop id least most body) exits n t k need outs behind =
        let b = piece scope body exits (suc n) t (only_jump n) in
        let header = suc n + length b.new in
        let l : Loop = record { id = id; least = least; most = most; header = header; latch = n } in
        let ls = l ∷ b.loops in
        let latch = only_jump header ∷ [] in
        let total = length-append b.new latch in
        let outs_b = lower n (suc n) exits (omega arith) outs in
        let fb = first_below body exits (suc n) t (only_jump n) need outs_b (omega arith) in
        let eb = piece_falls body exits (suc n) t (only_jump n) need outs_b (omega arith) in
        let one : suc n ≡ n + length latch = omega arith in
        let back : n ≡ n + 0 = omega arith in (
          falls_low header (n + length (b.new ++ latch)) ls b.first (omega (arith, total)) fb.first,
          each_append (FallsAt ls) n b.new latch
              (each_at (FallsAt ls) (suc n) (n + length latch) b.new one (each_map (FallsAt b.loops) (FallsAt ls) (suc n) b.new (λ i x h. falls_behind (l ∷ []) b.loops i x h) eb))
              (inr (inl (back, refl)), tt),
        )
    piece_falls (high.Block body) exits n t k need outs behind =
        let join = landed n (one_block k t) in
        let m = n + length join.new in
        let p = piece scope body (join.goal ∷ exits) m t (only_jump join.goal) in
        let goal = join_goal n t k behind in
        each_append (FallsAt p.loops) n p.new join.new
        (piece_falls body (join.goal ∷ exits) m t (only_jump join.goal) (omega (arith, need)) (one_exit_more (Below m) join.goal exits goal (lower n m exits (omega arith) outs)) goal)
        (landed_each (FallsAt p.loops) n (one_block k t) tt (falls_low n (n + 0) p.loops k (omega arith) behind))
    piece_falls (high.Leave d) exits n t k need outs behind = tt
    piece_falls (high.Call f values arrays into) exits n t k need outs behind = before_falls n k (call_code scope f values arrays into t) behind
    piece_falls (high.Return e) exits n t k need outs behind = tt

    pub all_fall : (ss : high.Statements) (exits : List ℕ) (n t : ℕ) (k : Block ℕ Note) → blocks_needed_all ss ≤ length exits → Exits (Below n) exits → Goes (Below n) k.end → Each (FallsAt (pieces scope ss exits n t k).loops) n (pieces scope ss exits n t k).new
    all_fall high.End exits n t k need outs behind = tt
    all_fall (high.Then first rest) exits n t k need outs behind =
        let r = pieces scope rest exits n t k in
        let m = n + length r.new in
        let p = piece scope first exits m r.free r.first in
        let ls = p.loops ++ r.loops in
        let need_r : blocks_needed_all rest ≤ length exits = omega (arith, need) in
        let need_p : blocks_needed first ≤ length exits = omega (arith, need) in
        let fr = firsts_below rest exits n t k need_r outs behind in
        each_append (FallsAt ls) n p.new r.new
        (each_map (FallsAt p.loops) (FallsAt ls) m p.new (λ i x h. falls_front p.loops r.loops i x h) (piece_falls first exits m r.free r.first need_p (lower n m exits (omega arith) outs) fr.first))
        (each_map (FallsAt r.loops) (FallsAt ls) n r.new (λ i x h. falls_behind p.loops r.loops i x h) (all_fall rest exits n t k need_r outs behind))
