-- Where the code of a statement leads: to its own blocks, to exits, and to where the code behind it leads.
use Rattle.std.proofs.Common.{ℕ, zero, suc, ◌+◌, ◌<◌, ◌≤◌, List, [], ◌∷◌, ◌++◌, length, Option, Some, None, arith, length-append}
use Rattle.std.specs.Prelude.{slice_index_or}
use Rattle.high_ir.specs.Standing.{blocks_needed, blocks_needed_all}
use Rattle.high_ir.specs.Tree as high
use Rattle.low_ir.specs.Code.{Block, End, Jump, Branch, Return, Note}
use Rattle.low_ir.specs.Formed.{only_jump}
use Rattle.lower_definition.specs.Operators.{Code}
use Rattle.lower_definition.specs.Values.{Scope, Coded}
use Rattle.lower_definition.specs.Statements.{Piece, before, before_by, landed, landed_by, marked_by, one_block, set_code, put_code, get_code, keep_code, call_code, kept_value, piece, pieces}
use Rattle.lower_nesting.specs.Blocks.{AllGo, Exits, Goes}
use Rattle.lower_nesting.proofs.Free.{landed_length}

pub goes_map : (P Q : ℕ → Type 0) (e : End ℕ) → ((j : ℕ) → P j → Q j) → Goes P e → Goes Q e
goes_map P Q (Jump b) go h = go b h
goes_map P Q (Branch c x y taken other) go h = (go taken h.0, go other h.1)
goes_map P Q (Return x) go h = tt

pub all_go_map : (P Q : ℕ → Type 0) (bs : List (Block ℕ Note)) → ((j : ℕ) → P j → Q j) → AllGo P bs → AllGo Q bs
all_go_map P Q [] go h = tt
all_go_map P Q (b ∷ bs) go h = (goes_map P Q b.end go h.0, all_go_map P Q bs go h.1)

pub exits_map : (P Q : ℕ → Type 0) (exits : List ℕ) → ((j : ℕ) → P j → Q j) → Exits P exits → Exits Q exits
exits_map P Q exits go h d inside = go (slice_index_or exits d 0) (h d inside)

pub one_exit_more : (P : ℕ → Type 0) (n : ℕ) (exits : List ℕ) → P n → Exits P exits → Exits P (n ∷ exits)
one_exit_more P n exits h k zero inside = h
one_exit_more P n exits h k (suc d) inside = k d (omega (arith, inside))

-- where one comes to what has landed
pub lands_goal : (n : ℕ) (p : Piece) (P : ℕ → Type 0) → Goes P p.first.end → (n + length p.new < n + length (landed n p).new → P (n + length p.new)) → P (landed n p).goal
lands_goal n p P h own = by_first p.first.mark p.first.code p.first.end h own
  where
    by_first : (m : Option ℕ) (c : Code) (e : End ℕ) → Goes P e → (n + length p.new < n + length (landed_by m c e n p).new → P (n + length p.new)) → P (landed_by m c e n p).goal
    by_first (Some m) c e g own = own (omega arith)
    by_first None (i ∷ is) e g own = own (omega arith)
    by_first None [] (Branch c x y taken other) g own = own (omega arith)
    by_first None [] (Return x) g own = own (omega arith)
    by_first None [] (Jump b) g own = g

module _ (P : ℕ → Type 0) where
  -- all numbers of some blocks
  abbrev pub Own : ℕ → ℕ → Type 0
  Own n m = (j : ℕ) → n ≤ j → j < n + m → P j

  pub own_part : (n m n2 m2 : ℕ) → n ≤ n2 → n2 + m2 ≤ n + m → Own n m → Own n2 m2
  own_part n m n2 m2 a b h j low high = h j (omega (arith, a, low)) (omega (arith, b, high))

  pub go_append : (xs ys : List (Block ℕ Note)) → AllGo P xs → AllGo P ys → AllGo P (xs ++ ys)
  go_append [] ys h k = k
  go_append (x ∷ xs) ys h k = (h.0, go_append xs ys h.1 k)

  pub record Leads (p : Piece) : Type 0 where
    pub first : Goes P p.first.end
    pub new : AllGo P p.new

  -- where one comes to what has landed, and its blocks
  pub lands : (n : ℕ) (p : Piece) → Leads p → Own n (length (landed n p).new) → P (landed n p).goal × AllGo P (landed n p).new
  lands n p h own = by_first p.first.mark p.first.code p.first.end h.first own
    where
      here : Own n (length (p.first ∷ p.new)) → P (n + length p.new) × AllGo P (p.first ∷ p.new)
      here own = (own (n + length p.new) (omega arith) (omega arith), (h.first, h.new))

      by_first : (m : Option ℕ) (c : Code) (e : End ℕ) → Goes P e → Own n (length (landed_by m c e n p).new) → P (landed_by m c e n p).goal × AllGo P (landed_by m c e n p).new
      by_first (Some m) c e g own = here own
      by_first None (i ∷ is) e g own = here own
      by_first None [] (Branch c x y taken other) g own = here own
      by_first None [] (Return x) g own = here own
      by_first None [] (Jump b) g own = (g, h.new)

  before_leads : (n : ℕ) (k : Block ℕ Note) (c : Coded) → Goes P k.end → Own n (length (before n k c).new) → Leads (before n k c)
  before_leads n k c h own = by_mark k.mark own
    where
      by_mark : (m : Option ℕ) → Own n (length (before_by m c.code n k c.free).new) → Leads (before_by m c.code n k c.free)
      by_mark None own = record { first = h; new = tt }
      by_mark (Some m) own = record { first = own n (omega arith) (omega arith); new = (h, tt) }

  marked_leads : (o : Option ℕ) (m n t : ℕ) (k : Block ℕ Note) → Goes P k.end → Own n (length (marked_by o m n k t).new) → Leads (marked_by o m n k t)
  marked_leads None m n t k h own = record { first = h; new = tt }
  marked_leads (Some l) m n t k h own = record { first = own n (omega arith) (omega arith); new = (h, tt) }

  module _ (scope : Scope) where
    mutual
      pub piece_leads : (s : high.Statement) (exits : List ℕ) (n t : ℕ) (k : Block ℕ Note) → blocks_needed s ≤ length exits → Exits P exits → Goes P k.end → Own n (length (piece scope s exits n t k).new) → Leads (piece scope s exits n t k)
      piece_leads (high.Set x e) exits n t k need outs behind own = before_leads n k (set_code scope x e t) behind own
      piece_leads (high.Put e) exits n t k need outs behind own = before_leads n k (put_code scope e t) behind own
      piece_leads (high.Get x) exits n t k need outs behind own = before_leads n k (get_code scope x t) behind own
      piece_leads (high.Keep array i e) exits n t k need outs behind own = before_leads n k (keep_code scope array i (kept_value array.kind e) t) behind own
      piece_leads (high.Mark m) exits n t k need outs behind own = marked_leads k.mark m n t k behind own
      piece_leads (high.Seq parts) exits n t k need outs behind own = all_lead parts exits n t k need outs behind own
      piece_leads (high.If test first other) exits n t k need outs behind own =
          let join = landed n (one_block k t) in
          let m = n + length join.new in
          let p = piece scope other exits m t (only_jump join.goal) in
          let b = landed m p in
          let r = piece scope first exits (m + length b.new) b.free (only_jump join.goal) in
          let a = landed (m + length b.new) r in
          let total = length-append b.new join.new in
          let all = length-append a.new (b.new ++ join.new) in
          let whole = length (a.new ++ (b.new ++ join.new)) in
          let long_p = landed_length m p in
          let long_r = landed_length (m + length b.new) r in
          let j = lands n (one_block k t) (record { first = behind; new = tt }) (own_part n whole n (length join.new) (omega arith) (omega (arith, total, all)) own) in
          let hp = piece_leads other exits m t (only_jump join.goal) (omega (arith, need)) outs j.0 (own_part n whole m (length p.new) (omega arith) (omega (arith, total, all, long_p)) own) in
          let lp = lands m p hp (own_part n whole m (length b.new) (omega arith) (omega (arith, total, all)) own) in
          let hr = piece_leads first exits (m + length b.new) b.free (only_jump join.goal) (omega (arith, need)) outs j.0 (own_part n whole (m + length b.new) (length r.new) (omega arith) (omega (arith, total, all, long_r)) own) in
          let lr = lands (m + length b.new) r hr (own_part n whole (m + length b.new) (length a.new) (omega arith) (omega (arith, total, all)) own) in
          record { first = (lr.0, lp.0); new = go_append a.new (b.new ++ join.new) lr.1 (go_append b.new join.new lp.1 j.1) }
      piece_leads (high.Loop id least most body) exits n t k need outs behind own =
          let b = piece scope body exits (suc n) t (only_jump n) in
          let header = suc n + length b.new in
          let latch = only_jump header ∷ [] in
          let total = length-append b.new latch in
          let whole = length (b.first ∷ (b.new ++ latch)) in
          let at_header = own header (omega arith) (omega (arith, total)) in
          let h = piece_leads body exits (suc n) t (only_jump n) need outs (own n (omega arith) (omega (arith, total))) (own_part n whole (suc n) (length b.new) (omega arith) (omega (arith, total)) own) in
          record { first = at_header; new = (h.first, go_append b.new latch h.new (at_header, tt)) }
      piece_leads (high.Block body) exits n t k need outs behind own =
          let join = landed n (one_block k t) in
          let p = piece scope body (join.goal ∷ exits) (n + length join.new) t (only_jump join.goal) in
          let total = length-append p.new join.new in
          let whole = length (p.new ++ join.new) in
          let j = lands n (one_block k t) (record { first = behind; new = tt }) (own_part n whole n (length join.new) (omega arith) (omega (arith, total)) own) in
          let h = piece_leads body (join.goal ∷ exits) (n + length join.new) t (only_jump join.goal) (omega (arith, need)) (one_exit_more P join.goal exits j.0 outs) j.0 (own_part n whole (n + length join.new) (length p.new) (omega arith) (omega (arith, total)) own) in
          record { first = h.first; new = go_append p.new join.new h.new j.1 }
      piece_leads (high.Leave d) exits n t k need outs behind own = record { first = outs d (omega (arith, need)); new = tt }
      piece_leads (high.Call f values arrays into) exits n t k need outs behind own = before_leads n k (call_code scope f values arrays into t) behind own
      piece_leads (high.Return e) exits n t k need outs behind own = record { first = tt; new = tt }

      pub all_lead : (ss : high.Statements) (exits : List ℕ) (n t : ℕ) (k : Block ℕ Note) → blocks_needed_all ss ≤ length exits → Exits P exits → Goes P k.end → Own n (length (pieces scope ss exits n t k).new) → Leads (pieces scope ss exits n t k)
      all_lead high.End exits n t k need outs behind own = record { first = behind; new = tt }
      all_lead (high.Then first rest) exits n t k need outs behind own =
          let r = pieces scope rest exits n t k in
          let p = piece scope first exits (n + length r.new) r.free r.first in
          let total = length-append p.new r.new in
          let whole = length (p.new ++ r.new) in
          let h = all_lead rest exits n t k (omega (arith, need)) outs behind (own_part n whole n (length r.new) (omega arith) (omega (arith, total)) own) in
          let g = piece_leads first exits (n + length r.new) r.free r.first (omega (arith, need)) outs h.first (own_part n whole (n + length r.new) (length p.new) (omega arith) (omega (arith, total)) own) in
          record { first = g.first; new = go_append p.new r.new g.new h.new }
