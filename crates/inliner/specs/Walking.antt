-- A function's body with the calls opened that fit, in the order in which they stand.
use Rattle.std.specs.Prelude.{ℕ, ◌+◌, Bool, true, false, List, Option, Some, None, slice_get}
use Rattle.high_ir.specs.Tree.{Expr, Statement, Set, Put, Get, Keep, Mark, Seq, If, Loop, Block, Leave, Call, Return, Statements, End, Then, Function}
use Rattle.high_code.specs.Code.{alone, joined}
use Rattle.inliner.specs.declared.used.Used.{Used}
use Rattle.inliner.specs.Opening.{Site, call_of, opening}
use Rattle.inliner.specs.Budgets.{fits, used_behind}

-- a statement, and what is used behind it
pub record Walked : Type 0 where
  pub statement : Statement
  pub used : Used

pub record WalkedAll : Type 0 where
  pub parts : Statements
  pub used : Used

abbrev pub walked : Statement → Used → Walked
walked s used = record { statement = s; used = used }

abbrev pub walked_all : Statements → Used → WalkedAll
walked_all parts used = record { parts = parts; used = used }

-- statements that are made of walked ones
abbrev pub seq : WalkedAll → Walked
seq w = walked (Seq w.parts) w.used

abbrev pub looped : (id least most : ℕ) → Walked → Walked
looped id least most w = walked (Loop id least most w.statement) w.used

abbrev pub block : Walked → Walked
block w = walked (Block w.statement) w.used

abbrev pub chosen : Expr → Walked → (Used → Walked) → Walked
chosen test first other = walked (If test first.statement (other first.used).statement) (other first.used).used

abbrev pub followed : Walked → (Used → WalkedAll) → WalkedAll
followed first rest = walked_all (Then first.statement (rest first.used).parts) (rest first.used).used

-- a call, which is opened where that is chosen
abbrev pub opened_if : Bool → Used → Site → Function → Walked
opened_if false used s h = walked (call_of s) used
opened_if true used s h = walked (opening s used.next h.body) (used_behind used s h)

abbrev pub at_call : (limit : ℕ) → Used → (around : ℕ) → Site → Option Function → Walked
at_call limit used around s None = walked (call_of s) used
at_call limit used around s (Some h) = opened_if (fits limit used around s h) used s h

-- the functions are taken as they are here; so many statements stand around
module _ (limit : ℕ) (fs : List Function) where
  abbrev mutual
    pub opened : (around : ℕ) → Statement → Used → Walked
    opened around (Call f values arrays into) used = at_call limit used around (record { function = f; values = values; arrays = arrays; into = into }) (slice_get fs f)
    opened around (Seq parts) used = seq (opened_all (around + 1) parts used)
    opened around (If test first other) used = chosen test (opened (around + 1) first used) (opened (around + 1) other)
    opened around (Loop id least most body) used = looped id least most (opened (around + 1) body used)
    opened around (Block body) used = block (opened (around + 1) body used)
    opened around (Set x e) used = walked (Set x e) used
    opened around (Put e) used = walked (Put e) used
    opened around (Get x) used = walked (Get x) used
    opened around (Keep array i e) used = walked (Keep array i e) used
    opened around (Mark m) used = walked (Mark m) used
    opened around (Leave d) used = walked (Leave d) used
    opened around (Return e) used = walked (Return e) used

    pub opened_all : (around : ℕ) → Statements → Used → WalkedAll
    opened_all around End used = walked_all End used
    opened_all around (Then first rest) used = followed (opened around first used) (opened_all around rest)

-- code, and then a walked statement, or walked code
abbrev pub behind : Statements → Walked → WalkedAll
behind before w = walked_all (joined before (alone w.statement)) w.used

abbrev pub behind_all : Statements → WalkedAll → WalkedAll
behind_all before w = walked_all (joined before w.parts) w.used
