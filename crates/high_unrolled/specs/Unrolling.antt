-- What statements become where their innermost loops are unrolled, in the order in which they stand.
use Rattle.std.specs.Prelude.{ℕ, suc, ◌+◌, ◌-◌, Bool, true, false, List, [], ◌∷◌, ◌++◌, length, map}
use Rattle.high_ir.specs.Standing.{marks_of}
use Rattle.high_ir.specs.Tree.{Statement, Set, Put, Get, Keep, Mark, Seq, If, Loop, Block, Leave, Call, Return, Statements, End, Then}
use Rattle.high_pass.specs.Listing.{LoopEntry}
use Rattle.high_unrolled.specs.declared.made.Made.{Made}
use Rattle.high_unrolled.specs.declared.made.Made.TheVariants.{CopyOf, Behind}
use Rattle.high_unrolled.specs.Factor.{Rolled, as_loop, ended, first_starts, growth, has_loop, is_short, is_taken, turned}
use Rattle.high_unrolled.specs.Starts.{repeated}

-- how many operations more the program may have, and the numbers of the next mark and the next loop
pub record Place : Type 0 where
  pub room : ℕ
  pub marks : ℕ
  pub loops : ℕ

-- an innermost loop that is left as it is, with so many statements around it
pub record Left : Type 0 where
  pub level : ℕ
  pub rolled : Rolled

-- what became of code: the new code, the room that is left, what its new marks are, in the order of their numbers, what became of its loops, how many it has now, and which innermost ones are left
pub record Became (A : Type 0) : Type 0 where
  pub code : A
  pub room : ℕ
  pub made : List Made
  pub entries : List LoopEntry
  pub loops : ℕ
  pub left : List Left

abbrev pub after : {A : Type 0} → Place → Became A → Place
after z r = record { room = r.room; marks = z.marks + length r.made; loops = z.loops + r.loops }

-- code that stays as it is, and has no loop
abbrev pub same : {A : Type 0} → Place → A → Became A
same z code = record { code = code; room = z.room; made = []; entries = []; loops = 0; left = [] }

-- code with this code as its part
abbrev pub around : {A B : Type 0} → (A → B) → Became A → Became B
around f r = record { code = f r.code; room = r.room; made = r.made; entries = r.entries; loops = r.loops; left = r.left }

-- code with two parts, of which the second goes on from the first
abbrev pub both : {A B C : Type 0} → (A → B → C) → Became A → Became B → Became C
both f x y = record { code = f x.code y.code; room = y.room; made = x.made ++ y.made; entries = x.entries ++ y.entries; loops = x.loops + y.loops; left = x.left ++ y.left }

abbrev pub behind : {A B C : Type 0} → (A → B → C) → Place → Became A → (Place → Became B) → Became C
behind f z x next = both f x (next (after z x))

-- a loop and its one copy by a factor
abbrev pub loop_copied : (id number factor : ℕ) → LoopEntry
loop_copied id number factor = record { old = id; new = (record { id = number; factor = factor }) ∷ [] }

abbrev pub loop_gone : ℕ → LoopEntry
loop_gone id = record { old = id; new = [] }

-- the place within a loop that keeps to be one
abbrev pub inside : Place → Place
inside z = record { room = z.room; marks = z.marks; loops = z.loops + 1 }

-- the loop itself is left where it is an innermost one, else those within it
abbrev pub left_in : (outer : Bool) → Left → List Left → List Left
left_in true l within = within
left_in false l within = l ∷ []

-- a loop that stays, with this body
abbrev pub kept : (level : ℕ) → Place → Rolled → Became Statement → Became Statement
kept level z x body = record {
  code = Loop z.loops x.bounds.least x.bounds.most body.code;
  room = body.room;
  made = body.made;
  entries = loop_copied x.id z.loops 1 ∷ body.entries;
  loops = suc body.loops;
  left = left_in (has_loop x.body) (record { level = level; rolled = x }) body.left;
}

module _ (k : ℕ) where
  -- a loop by the factor
  abbrev pub taken : (short : Bool) → Place → Rolled → Became Statement
  taken true z x = record {
    code = ended z.marks x;
    room = z.room - growth k x;
    made = map CopyOf (repeated x.bounds.most (marks_of x.body)) ++ Behind x.id ∷ [];
    entries = loop_gone x.id ∷ [];
    loops = 0;
    left = [];
  }
  taken false z x = record {
    code = turned k z.marks z.loops x;
    room = z.room - growth k x;
    made = map CopyOf (repeated (first_starts k x) (marks_of x.body)) ++ map CopyOf (repeated k (marks_of x.body));
    entries = loop_copied x.id z.loops k ∷ [];
    loops = 1;
    left = [];
  }

  abbrev pub at_loop : (takes : Bool) → (level : ℕ) → Place → Rolled → Became Statement → Became Statement
  at_loop true level z x body = taken (is_short k x) z x
  at_loop false level z x body = kept level z x body

  -- so many statements stand around
  abbrev mutual
    pub spread : (level : ℕ) → Place → Statement → Became Statement
    spread level z (Loop id least most body) =
        at_loop (is_taken k z.room level (as_loop id least most body)) level z (as_loop id least most body) (spread (level + 1) (inside z) body)
    spread level z (Seq parts) = around Seq (spread_all (level + 1) z parts)
    spread level z (If test first other) = behind (If test) z (spread (level + 1) z first) (λ w. spread (level + 1) w other)
    spread level z (Block body) = around Block (spread (level + 1) z body)
    spread level z (Set x e) = same z (Set x e)
    spread level z (Put e) = same z (Put e)
    spread level z (Get x) = same z (Get x)
    spread level z (Keep array i e) = same z (Keep array i e)
    spread level z (Mark m) = same z (Mark m)
    spread level z (Leave d) = same z (Leave d)
    spread level z (Call f values arrays into) = same z (Call f values arrays into)
    spread level z (Return e) = same z (Return e)

    pub spread_all : (level : ℕ) → Place → Statements → Became Statements
    spread_all level z End = same z End
    spread_all level z (Then first rest) = behind Then z (spread level z first) (λ w. spread_all level w rest)
