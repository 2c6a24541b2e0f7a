-- Programs of which one jumps at once to where the other comes past blocks that do nothing, and has none of the blocks that it
-- doesn't come to any more.
use Rattle.std.specs.Prelude.{◌≡◌, ◌≢◌, ◌⊎◌, ℕ, zero, suc, true, false, List, [], ◌∷◌, Option, Some, None, All, slice_get}
use Rattle.std.specs.List.{AllZip}
use Rattle.rv_core.specs.declared.row.Condition.{Condition}
use Rattle.low_ir.specs.Code.{Operand, End, Jump, Branch, Return, Block, Loop, Function, Note, Low}
use Rattle.pass_jump_threading_law.specs.Known.{Fewer, Known, Knows, Tells, goal}

-- block b is neither where a loop begins nor where it ends
abbrev pub IsApart : ℕ → Loop → Type 0
IsApart b l = (b ≢ l.header) × (b ≢ l.latch)

-- block b only goes on to block c: it has no mark and no code, and no loop sees it
pub record Passes (fn : Function ℕ Note) (known : Known) (b c : ℕ) : Type 0 where
  pub block : Block ℕ Note
  pub there : slice_get fn.blocks b ≡ Some block
  pub mark : block.mark ≡ None
  pub code : block.code ≡ []
  pub apart : All (IsApart b) fn.loops
  pub goes : goal known block.end ≡ Some c

-- from block b on one comes to block c past n blocks
abbrev pub Comes : Function ℕ Note → Known → ℕ → ℕ → ℕ → Type 0
Comes fn known zero b c = b ≡ c
Comes fn known (suc n) b c = (next : ℕ) × Passes fn known b next × Comes fn known n next c

-- by block: its number among those that are left, if it is left
abbrev pub Names : Type 0
Names = ℕ → Option ℕ

-- which blocks are left, and what is known where they begin
pub record Plan : Type 0 where
  pub name : Names
  pub at : ℕ → Known

-- what comes to block b comes to block c of the second program
pub record Lands (fn : Function ℕ Note) (plan : Plan) (known : Known) (b c : ℕ) : Type 0 where
  pub past : ℕ
  pub old : ℕ
  pub comes : Comes fn known past b old
  pub named : plan.name old ≡ Some c

module _ (fn : Function ℕ Note) (plan : Plan) (known : Known) where
  -- an end that goes to one block jumps to where that leads
  pub record Settles (end new : End ℕ) : Type 0 where
    pub next : ℕ
    pub block : ℕ
    pub goes : goal known end ≡ Some next
    pub is : new ≡ Jump block
    pub lands : Lands fn plan known next block
    pub begins : Fewer known (plan.at lands.old)

  -- a branch goes to where each of its blocks leads
  pub record Parts (c : Condition) (x y : Operand ℕ) (taken other : ℕ) (new : End ℕ) : Type 0 where
    pub first : ℕ
    pub second : ℕ
    pub is : new ≡ Branch c x y first second
    pub lands : Lands fn plan known taken first
    pub begins : Tells known c x y true (plan.at lands.old)
    pub lands_other : Lands fn plan known other second
    pub begins_other : Tells known c x y false (plan.at lands_other.old)

  abbrev pub Stays : End ℕ → End ℕ → Type 0
  Stays (Jump b) new = ⊥
  Stays (Branch c x y taken other) new = Parts c x y taken other new
  Stays (Return x) new = new ≡ Return x

  abbrev pub EndThreaded : End ℕ → End ℕ → Type 0
  EndThreaded end new = Settles end new ⊎ Stays end new

-- block number n
pub record BlockThreaded (fn : Function ℕ Note) (plan : Plan) (n : ℕ) (b c : Block ℕ Note) : Type 0 where
  pub mark : c.mark ≡ b.mark
  pub code : c.code ≡ b.code
  pub out : Known
  pub knows : Knows (plan.at n) b.code out
  pub end : EndThreaded fn plan out b.end c.end

-- blocks from number n on, of which those that are left have numbers from m on
abbrev pub Blocks : Function ℕ Note → Plan → ℕ → ℕ → List (Block ℕ Note) → List (Block ℕ Note) → Type 0
Blocks fn plan n m [] cs = cs ≡ []
Blocks fn plan n m (b ∷ bs) [] = (plan.name n ≡ None) × Blocks fn plan (suc n) m bs []
Blocks fn plan n m (b ∷ bs) (c ∷ cs) =
    ((plan.name n ≡ None) × Blocks fn plan (suc n) m bs (c ∷ cs)) ⊎ ((plan.name n ≡ Some m) × BlockThreaded fn plan n b c × Blocks fn plan (suc n) (suc m) bs cs)

-- a loop over the blocks that are left
pub record LoopThreaded (name : Names) (l k : Loop) : Type 0 where
  pub id : k.id ≡ l.id
  pub least : k.least ≡ l.least
  pub most : k.most ≡ l.most
  pub header : name l.header ≡ Some k.header
  pub latch : name l.latch ≡ Some k.latch

pub record FunctionThreaded (fn gn : Function ℕ Note) : Type 0 where
  pub plan : Plan
  pub parameters : gn.parameters ≡ fn.parameters
  pub size : gn.size ≡ fn.size
  pub loops : AllZip (LoopThreaded plan.name) fn.loops gn.loops
  pub blocks : Blocks fn plan 0 0 fn.blocks gn.blocks
  -- a function begins with its first block, and with nothing known
  pub first : plan.name 0 ≡ Some 0
  pub begins : (r : ℕ) → plan.at 0 r ≡ None

pub record IsThreaded (p q : Low) : Type 0 where
  pub functions : AllZip FunctionThreaded p.functions q.functions
  pub claims : q.claims ≡ p.claims
  pub objects : q.objects ≡ p.objects
  pub main : q.main ≡ p.main
  pub marks : q.marks ≡ p.marks

-- a program as it is, or with shorter ways
abbrev pub MayBeThreaded : Low → Low → Type 0
MayBeThreaded p q = (q ≡ p) ⊎ IsThreaded p q
