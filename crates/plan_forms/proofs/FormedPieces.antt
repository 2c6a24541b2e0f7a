-- Pieces of code that are put together keep to the form.
use Rattle.std.proofs.Common.{◌≡◌, ℕ, suc, ◌-◌, ◌<◌, ◌≤◌, max, Bool, true, false, [], ◌++◌, refl, sym, ap, ◌∙◌, arith, All}
use Rattle.std.proofs.lemmas.Bool.{false≢true}
use Rattle.std.proofs.lemmas.List.Elements.{All-append, All-cons, All-nil}
use Rattle.high_ir.specs.Standing.{blocks_needed, blocks_needed_all, callees_of, callees_of_all, loops_of, loops_of_all, marks_of, marks_of_all}
use Rattle.high_ir.specs.Tree.{Statement, Set, Put, Get, Keep, Mark, Seq, If, Loop, Block, Leave, Call, Return, Statements, End, Then}
use Rattle.high_code.specs.Code.{joined, alone, nothing}
use Rattle.plan_definition.specs.declared.purpose.Purpose.{Purpose}
use Rattle.plan_definition.specs.declared.purpose.Purpose.TheVariants.{Value, Effect, Unless, When}
use Rattle.plan_definition.specs.Values.{Valued, finished, held}
use Rattle.plan_forms.specs.Forms.{Limits, Formed, AllFormed}

module _ (l : Limits) where
  pub formed_joined : (n : ℕ) (a b : Statements) → AllFormed l n a → AllFormed l n b → AllFormed l n (joined a b)
  formed_joined n End b h k = k
  formed_joined n (Then first rest) b h k = (h.0, formed_joined n rest b h.1 k)

  -- where code for a purpose leaves blocks
  abbrev pub Leaves : Purpose → ℕ → Type 0
  Leaves Value n = Unit {0}
  Leaves Effect n = Unit {0}
  Leaves (Unless depth) n = depth < n
  Leaves (When depth) n = depth < n

  pub formed_finished : (purpose : Purpose) (n : ℕ) (p : Valued) → Leaves purpose n → AllFormed l n p.code → AllFormed l n (finished purpose p).code
  formed_finished Value n p leaves h = h
  formed_finished Effect n p leaves h = h
  formed_finished (Unless depth) n p leaves h = formed_joined n p.code (alone (If p.value nothing (Leave depth))) h ((tt, leaves), tt)
  formed_finished (When depth) n p leaves h = formed_joined n p.code (alone (If p.value (Leave depth) nothing)) h ((leaves, tt), tt)

  pub formed_held : (needed : Bool) (k n : ℕ) (p : Valued) (after : Statements) → AllFormed l n p.code → AllFormed l n after → AllFormed l n (held needed k p after).code
  formed_held false k n p after h a = formed_joined n p.code after h a
  formed_held true k n p after h a = formed_joined n p.code (Then (Set k p.value) after) h (tt, a)

  both : (n x y : ℕ) → x ≤ n → y ≤ n → max x y ≤ n
  both n x y a b = omega (arith, a, b)

  -- no more blocks are needed than there are
  mutual
    pub blocks-formed : (n : ℕ) (s : Statement) → Formed l n s → blocks_needed s ≤ n
    blocks-formed n (Set x e) h = omega arith
    blocks-formed n (Put e) h = omega arith
    blocks-formed n (Get x) h = omega arith
    blocks-formed n (Keep array i e) h = omega arith
    blocks-formed n (Mark m) h = omega arith
    blocks-formed n (Seq parts) h = all_blocks-formed n parts h
    blocks-formed n (If test first other) h = both n (blocks_needed first) (blocks_needed other) (blocks-formed n first h.0) (blocks-formed n other h.1)
    blocks-formed n (Loop id least most body) h = blocks-formed n body h.1
    blocks-formed n (Block body) h = one_less n (blocks_needed body) (blocks-formed (suc n) body h)
      where
        one_less : (n x : ℕ) → x ≤ suc n → x - 1 ≤ n
        one_less n x le = omega (arith, le)
    blocks-formed n (Leave depth) h = omega (arith, h)
    blocks-formed n (Call f values arrays into) h = omega arith
    blocks-formed n (Return e) h = omega arith

    pub all_blocks-formed : (n : ℕ) (parts : Statements) → AllFormed l n parts → blocks_needed_all parts ≤ n
    all_blocks-formed n End h = omega arith
    all_blocks-formed n (Then first rest) h = both n (blocks_needed first) (blocks_needed_all rest) (blocks-formed n first h.0) (all_blocks-formed n rest h.1)

-- marks have their numbers, and calls go where they may
module _ (l : Limits) where
  abbrev pub IsMark : ℕ → Type 0
  IsMark m = (l.first ≤ m) × (m < l.marks)

  abbrev pub MayCall : ℕ → Type 0
  MayCall f = l.callable f ≡ true

  mutual
    pub marks-formed : (n : ℕ) (s : Statement) → Formed l n s → All IsMark (marks_of s)
    marks-formed n (Set x e) h = All-nil IsMark
    marks-formed n (Put e) h = All-nil IsMark
    marks-formed n (Get x) h = All-nil IsMark
    marks-formed n (Keep array i e) h = All-nil IsMark
    marks-formed n (Mark m) h = All-cons IsMark m [] h (All-nil IsMark)
    marks-formed n (Seq parts) h = all_marks-formed n parts h
    marks-formed n (If test first other) h = All-append IsMark (marks_of first) (marks_of other) (marks-formed n first h.0) (marks-formed n other h.1)
    marks-formed n (Loop id least most body) h = marks-formed n body h.1
    marks-formed n (Block body) h = marks-formed (suc n) body h
    marks-formed n (Leave depth) h = All-nil IsMark
    marks-formed n (Call f values arrays into) h = All-nil IsMark
    marks-formed n (Return e) h = All-nil IsMark

    pub all_marks-formed : (n : ℕ) (parts : Statements) → AllFormed l n parts → All IsMark (marks_of_all parts)
    all_marks-formed n End h = All-nil IsMark
    all_marks-formed n (Then first rest) h = All-append IsMark (marks_of first) (marks_of_all rest) (marks-formed n first h.0) (all_marks-formed n rest h.1)

  mutual
    pub callees-formed : (n : ℕ) (s : Statement) → Formed l n s → All MayCall (callees_of s)
    callees-formed n (Set x e) h = All-nil MayCall
    callees-formed n (Put e) h = All-nil MayCall
    callees-formed n (Get x) h = All-nil MayCall
    callees-formed n (Keep array i e) h = All-nil MayCall
    callees-formed n (Mark m) h = All-nil MayCall
    callees-formed n (Seq parts) h = all_callees-formed n parts h
    callees-formed n (If test first other) h = All-append MayCall (callees_of first) (callees_of other) (callees-formed n first h.0) (callees-formed n other h.1)
    callees-formed n (Loop id least most body) h = callees-formed n body h.1
    callees-formed n (Block body) h = callees-formed (suc n) body h
    callees-formed n (Leave depth) h = All-nil MayCall
    callees-formed n (Call f values arrays into) h = All-cons MayCall f [] h (All-nil MayCall)
    callees-formed n (Return e) h = All-nil MayCall

    pub all_callees-formed : (n : ℕ) (parts : Statements) → AllFormed l n parts → All MayCall (callees_of_all parts)
    all_callees-formed n End h = All-nil MayCall
    all_callees-formed n (Then first rest) h = All-append MayCall (callees_of first) (callees_of_all rest) (callees-formed n first h.0) (all_callees-formed n rest h.1)

-- where there may be no loops there are none
module _ (l : Limits) (none : l.loops ≡ false) where
  mutual
    pub loops-formed : (n : ℕ) (s : Statement) → Formed l n s → loops_of s ≡ []
    loops-formed n (Set x e) h = refl
    loops-formed n (Put e) h = refl
    loops-formed n (Get x) h = refl
    loops-formed n (Keep array i e) h = refl
    loops-formed n (Mark m) h = refl
    loops-formed n (Seq parts) h = all_loops-formed n parts h
    loops-formed n (If test first other) h = ap (λ xs. xs ++ loops_of other) (loops-formed n first h.0) ∙ loops-formed n other h.1
    loops-formed n (Loop id least most body) h = absurd (false≢true (sym none ∙ h.0))
    loops-formed n (Block body) h = loops-formed (suc n) body h
    loops-formed n (Leave depth) h = refl
    loops-formed n (Call f values arrays into) h = refl
    loops-formed n (Return e) h = refl

    pub all_loops-formed : (n : ℕ) (parts : Statements) → AllFormed l n parts → loops_of_all parts ≡ []
    all_loops-formed n End h = refl
    all_loops-formed n (Then first rest) h = ap (λ xs. xs ++ loops_of_all rest) (loops-formed n first h.0) ∙ all_loops-formed n rest h.1
