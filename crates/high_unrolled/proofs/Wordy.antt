-- What statements become has the constants that they had.
use Rattle.std.proofs.Common.{ℕ, zero, suc, ◌+◌, ◌*◌, Bool, true, false, List, [], ◌∷◌, All}
use Rattle.std.proofs.lemmas.List.Elements.{All-cons, All-head, All-nil, All-tail}
use Rattle.high_ir.specs.Splitting.{split}
use Rattle.high_ir.specs.Tree.{Function, Statement, Set, Put, Get, Keep, Mark, Seq, If, Loop, Block, Leave, Call, Return, Statements, End, Then}
use Rattle.high_ir.specs.Whole.{AllHaveWords, HasWords}
use Rattle.high_unrolled.specs.Factor.{Rolled, as_loop, ended, first_starts, grouped, is_short, is_taken, turned}
use Rattle.high_unrolled.specs.Programs.{function_spread, functions_spread}
use Rattle.high_unrolled.specs.Starts.{mark_count, remarked, remarked_all, starts}
use Rattle.high_unrolled.specs.Unrolling.{Place, Became, after, at_loop, inside, spread, spread_all, taken}

mutual
  remarked_words : (a : ℕ) (s : Statement) → HasWords s → HasWords (remarked a s)
  remarked_words a (Mark m) h = tt
  remarked_words a (Seq parts) h = all_remarked_words a parts h
  remarked_words a (If test first other) h = (h.0, (remarked_words a first h.1.0, remarked_words (a + mark_count first) other h.1.1))
  remarked_words a (Loop id least most body) h = remarked_words a body h
  remarked_words a (Block body) h = remarked_words a body h
  remarked_words a (Set x e) h = h
  remarked_words a (Put e) h = h
  remarked_words a (Get x) h = h
  remarked_words a (Keep array i e) h = h
  remarked_words a (Leave d) h = h
  remarked_words a (Call f values arrays into) h = h
  remarked_words a (Return e) h = h

  all_remarked_words : (a : ℕ) (parts : Statements) → AllHaveWords parts → AllHaveWords (remarked_all a parts)
  all_remarked_words a End h = tt
  all_remarked_words a (Then first rest) h = (remarked_words a first h.0, all_remarked_words (a + mark_count first) rest h.1)

starts_words : (n a : ℕ) (body : Statement) (behind : Statements) → HasWords body → AllHaveWords behind → AllHaveWords (starts n a body behind)
starts_words zero a body behind h rest = rest
starts_words (suc n) a body behind h rest = (remarked_words a body h, starts_words n (a + mark_count body) body behind h rest)

ended_words : (a : ℕ) (x : Rolled) → HasWords x.body → HasWords (ended a x)
ended_words a x h = starts_words x.bounds.most a x.body (Then (Mark (a + x.bounds.most * mark_count x.body)) End) h (tt, tt)

turned_words : (k a number : ℕ) (x : Rolled) → HasWords x.body → HasWords (turned k a number x)
turned_words k a number x h =
    let inner : Statement = grouped k (a + first_starts k x * mark_count x.body) x in
    starts_words (first_starts k x) a x.body (Then (Loop number (split x.bounds k).least (split x.bounds k).most inner) End) h
    (starts_words k (a + first_starts k x * mark_count x.body) x.body End h tt, tt)

module _ (k : ℕ) where
  taken_words : (short : Bool) (z : Place) (x : Rolled) → HasWords x.body → HasWords (taken k short z x).code
  taken_words true z x h = ended_words z.marks x h
  taken_words false z x h = turned_words k z.marks z.loops x h

  loop_words : (takes : Bool) (level : ℕ) (z : Place) (x : Rolled) (inner : Became Statement) → HasWords x.body → HasWords inner.code → HasWords (at_loop k takes level z x inner).code
  loop_words true level z x inner h within = taken_words (is_short k x) z x h
  loop_words false level z x inner h within = within

  mutual
    spread_words : (level : ℕ) (z : Place) (s : Statement) → HasWords s → HasWords (spread k level z s).code
    spread_words level z (Loop id least most body) h =
        loop_words (is_taken k z.room level (as_loop id least most body)) level z (as_loop id least most body) (spread k (level + 1) (inside z) body) h (spread_words (level + 1) (inside z) body h)
    spread_words level z (Seq parts) h = spread_all_words (level + 1) z parts h
    spread_words level z (If test first other) h = (h.0, (spread_words (level + 1) z first h.1.0, spread_words (level + 1) (after z (spread k (level + 1) z first)) other h.1.1))
    spread_words level z (Block body) h = spread_words (level + 1) z body h
    spread_words level z (Set x e) h = h
    spread_words level z (Put e) h = h
    spread_words level z (Get x) h = h
    spread_words level z (Keep array i e) h = h
    spread_words level z (Mark m) h = h
    spread_words level z (Leave d) h = h
    spread_words level z (Call f values arrays into) h = h
    spread_words level z (Return e) h = h

    spread_all_words : (level : ℕ) (z : Place) (parts : Statements) → AllHaveWords parts → AllHaveWords (spread_all k level z parts).code
    spread_all_words level z End h = tt
    spread_all_words level z (Then first rest) h = (spread_words level z first h.0, spread_all_words level (after z (spread k level z first)) rest h.1)

  pub functions_words : (z : Place) (fs : List Function) → All (λ (f : Function). HasWords f.body) fs → All (λ (f : Function). HasWords f.body) (functions_spread k z fs).code
  functions_words z [] all = All-nil (λ (f : Function). HasWords f.body)
  functions_words z (f ∷ fs) all =
      let x = function_spread k z f in
      let y = functions_spread k (after z x) fs in
      All-cons (λ (f : Function). HasWords f.body) x.code y.code
      (spread_words 0 z f.body (All-head (λ (f : Function). HasWords f.body) f fs all))
      (functions_words (after z x) fs (All-tail (λ (f : Function). HasWords f.body) f fs all))
