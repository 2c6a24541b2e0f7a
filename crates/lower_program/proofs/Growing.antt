-- What the code of statements leads to.
use Rattle.std.proofs.Common.{◌≡◌, ℕ, zero, suc, ◌+◌, ◌≤◌, List, [], ◌∷◌, ◌++◌, length, Option, Some, None, refl, subst, arith, length-append}
use Rattle.std.specs.Prelude.{slice_index_or}
use Rattle.high_ir.specs.Tree as high
use Rattle.low_ir.specs.Code.{End, Jump, Branch, Return, Block, Low, Note}
use Rattle.low_ir.specs.Formed.{only_jump}
use Rattle.lower_definition.specs.Operators.{Code}
use Rattle.lower_definition.specs.Values.{Coded}
use Rattle.lower_definition.specs.Statements.{Piece, landed, landed_by, before, before_by, marked_by, one_block, set_code, put_code, get_code, keep_code, call_code, kept_value, piece, pieces}
use Rattle.lower_program.specs.Claims.{LeadsWithin}
use Rattle.lower_program.specs.Following.{Place, IsPlace, Stand}
use Rattle.lower_program.proofs.Jumps.{stand_back, stand_front}

-- the exits of a statement are blocks
abbrev pub ExitsWithin : ℕ → List ℕ → Type 0
ExitsWithin last exits = (d : ℕ) → slice_index_or exits d 0 ≤ last

pub exits_more : (last n : ℕ) (exits : List ℕ) → n ≤ last → ExitsWithin last exits → ExitsWithin last (n ∷ exits)
exits_more last n exits h k zero = h
exits_more last n exits h k (suc d) = k d

module _ (q : Low) (at : Place) (is_place : IsPlace q at) where
  -- what has landed leads to a block
  pub landed_goal : (n : ℕ) (p : Piece) → Stand q at n (landed n p).new → LeadsWithin at.last p.first.end → (landed n p).goal ≤ at.last
  landed_goal n p stand within = by_first p.first.mark p.first.code p.first.end refl stand
    where
      by_first : (m : Option ℕ) (c : Code) (e : End ℕ) → p.first.end ≡ e → Stand q at n (landed_by m c e n p).new → (landed_by m c e n p).goal ≤ at.last
      by_first (Some m) c e ee stand = stand.0.below
      by_first None (i ∷ is) e ee stand = stand.0.below
      by_first None [] (Branch c x y taken other) ee stand = stand.0.below
      by_first None [] (Return x) ee stand = stand.0.below
      by_first None [] (Jump b) ee stand = subst (LeadsWithin at.last) ee within

  before_leads : (n : ℕ) (k : Block ℕ Note) (c : Coded) → n + length (before n k c).new ≤ at.last → LeadsWithin at.last k.end → LeadsWithin at.last (before n k c).first.end
  before_leads n k c room within = by_mark k.mark room
    where
      by_mark : (m : Option ℕ) → n + length (before_by m c.code n k c.free).new ≤ at.last → LeadsWithin at.last (before_by m c.code n k c.free).first.end
      by_mark None room = within
      by_mark (Some m) room = omega (arith, room)

  marked_leads : (o : Option ℕ) (m n t : ℕ) (k : Block ℕ Note) → n + length (marked_by o m n k t).new ≤ at.last → LeadsWithin at.last k.end → LeadsWithin at.last (marked_by o m n k t).first.end
  marked_leads None m n t k room within = within
  marked_leads (Some l) m n t k room within = omega (arith, room)

  -- the numbers of blocks in front of others
  pub room_front : (n : ℕ) (a b : List (Block ℕ Note)) → n + length (a ++ b) ≤ at.last → n + length b + length a ≤ at.last
  room_front n a b h = let e = length-append a b in omega (arith, h, e)

  pub room_back : (n : ℕ) (a b : List (Block ℕ Note)) → n + length (a ++ b) ≤ at.last → n + length b ≤ at.last
  room_back n a b h = let e = length-append a b in omega (arith, h, e)

  mutual
    -- the code of a statement leads to blocks
    pub leads_within : (s : high.Statement) (exits : List ℕ) (n t : ℕ) (k : Block ℕ Note) → n + length (piece at.scope s exits n t k).new ≤ at.last → ExitsWithin at.last exits → LeadsWithin at.last k.end → Stand q at n (piece at.scope s exits n t k).new → LeadsWithin at.last (piece at.scope s exits n t k).first.end
    leads_within (high.Set x e) exits n t k room outs within stand = before_leads n k (set_code at.scope x e t) room within
    leads_within (high.Put e) exits n t k room outs within stand = before_leads n k (put_code at.scope e t) room within
    leads_within (high.Get x) exits n t k room outs within stand = before_leads n k (get_code at.scope x t) room within
    leads_within (high.Keep array i e) exits n t k room outs within stand = before_leads n k (keep_code at.scope array i (kept_value array.kind e) t) room within
    leads_within (high.Mark m) exits n t k room outs within stand = marked_leads k.mark m n t k room within
    leads_within (high.Seq parts) exits n t k room outs within stand = all_lead_within parts exits n t k room outs within stand
    leads_within (high.If test first other) exits n t k room outs within stand = tt
    leads_within (high.Loop id least most body) exits n t k room outs within stand =
        let b = piece at.scope body exits (suc n) t (only_jump n) in
        let e = length-append b.new (only_jump (suc n + length b.new) ∷ []) in
        omega (arith, room, e)
    leads_within (high.Block body) exits n t k room outs within stand =
        let join = landed n (one_block k t) in
        let p = piece at.scope body (join.goal ∷ exits) (n + length join.new) t (only_jump join.goal) in
        let goal = landed_goal n (one_block k t) (stand_back q at is_place n p.new join.new stand) within in
        leads_within body (join.goal ∷ exits) (n + length join.new) t (only_jump join.goal) (room_front n p.new join.new room) (exits_more at.last join.goal exits goal outs) goal (stand_front q at is_place n p.new join.new stand)
    leads_within (high.Leave d) exits n t k room outs within stand = outs d
    leads_within (high.Call f values arrays into) exits n t k room outs within stand = before_leads n k (call_code at.scope f values arrays into t) room within
    leads_within (high.Return e) exits n t k room outs within stand = tt

    pub all_lead_within : (ss : high.Statements) (exits : List ℕ) (n t : ℕ) (k : Block ℕ Note) → n + length (pieces at.scope ss exits n t k).new ≤ at.last → ExitsWithin at.last exits → LeadsWithin at.last k.end → Stand q at n (pieces at.scope ss exits n t k).new → LeadsWithin at.last (pieces at.scope ss exits n t k).first.end
    all_lead_within high.End exits n t k room outs within stand = within
    all_lead_within (high.Then first rest) exits n t k room outs within stand =
        let r = pieces at.scope rest exits n t k in
        let p = piece at.scope first exits (n + length r.new) r.free r.first in
        leads_within first exits (n + length r.new) r.free r.first (room_front n p.new r.new room) outs
        (all_lead_within rest exits n t k (room_back n p.new r.new room) outs within (stand_back q at is_place n p.new r.new stand)) (stand_front q at is_place n p.new r.new stand)
