-- The calls that an inlined program is left with may not be opened in it.
use Rattle.std.proofs.Common.{◌≡◌, ℕ, zero, suc, ◌+◌, ◌*◌, max, Bool, true, false, List, [], ◌∷◌, ◌++◌, length, get_or, refl, sym, ap, ◌∙◌, subst, arith, All}
use Rattle.std.specs.Prelude.{if◌then◌else◌, nat_le, slice_get, ◌&&◌, ◌||◌, ◌==◌}
use Rattle.std.proofs.lemmas.Bool.{eqb-true}
use Rattle.std.proofs.lemmas.List.Elements.{All-append, All-cons, All-head, All-nil, All-tail}
use Rattle.wcc_base.specs.Budgets.{most_depth, most_locals, most_operations}
use Rattle.high_ir.specs.Formed.{IsHigh}
use Rattle.high_ir.specs.Size.{depth, expr_depth, function_nodes, greatest, operations}
use Rattle.high_ir.specs.Standing.{loops_of, marks_of}
use Rattle.high_ir.specs.Tree.{Statement, Set, Put, Get, Keep, Mark, Seq, If, Loop, Block, Leave, Call, Return, Statements, End, Then, Function, Program}
use Rattle.high_renumber.specs.Numbered.{function_numbered, functions_numbered, numbered, numbered_all, renumbered}
use Rattle.high_renumber.proofs.Lawful.{bytes_in-numbered, operations_in-numbered}
use Rattle.high_renumber.proofs.NumberedLemmas.{nodes-numbered}
use Rattle.inliner.specs.declared.measuring.Returns.{Returns}
use Rattle.inliner.specs.declared.used.Used.{Used}
use Rattle.inliner.specs.Budgets.{fits, fits_any, may_open, used_by, variables}
use Rattle.inliner.specs.Inlining.{inlined, opened_program, swept}
use Rattle.inliner.specs.Measures.{beside, expr_measure, measured, measured_all, returns_into, within}
use Rattle.inliner.specs.Opening.{Site, call_of, opening}
use Rattle.inliner.specs.Sites.{IsLeft, Standing, any_fits, any_fits_all, any_fits_in, is_open, sites, sites_all}
use Rattle.inliner.proofs.Lawful.{swept_keeps}
use Rattle.inliner.proofs.Sizing.{opening_depth, opening_operations}

first_false : (a b : Bool) → (a || b) ≡ false → a ≡ false
first_false true b e = cc
first_false false b e = refl

second_false : (a b : Bool) → (a || b) ≡ false → b ≡ false
second_false true b e = cc
second_false false b e = e

-- where no call may be opened, none of those that stand there may
module _ (limit : ℕ) (fs : List Function) (used : Used) where
  abbrev Refused : Standing → Type 0
  Refused c = may_open limit fs used c.around c.site ≡ false

  mutual
    all_refused : (around : ℕ) (s : Statement) → any_fits limit fs used around s ≡ false → All Refused (sites around s)
    all_refused around (Call f values arrays into) e = All-cons Refused (record { around = around; site = record { function = f; values = values; arrays = arrays; into = into } }) [] e (All-nil Refused)
    all_refused around (Seq parts) e = all_refused_in (around + 1) parts e
    all_refused around (If test a b) e =
        All-append Refused (sites (around + 1) a) (sites (around + 1) b)
        (all_refused (around + 1) a (first_false (any_fits limit fs used (around + 1) a) (any_fits limit fs used (around + 1) b) e))
        (all_refused (around + 1) b (second_false (any_fits limit fs used (around + 1) a) (any_fits limit fs used (around + 1) b) e))
    all_refused around (Loop id least most body) e = all_refused (around + 1) body e
    all_refused around (Block body) e = all_refused (around + 1) body e
    all_refused around (Set x v) e = All-nil Refused
    all_refused around (Put v) e = All-nil Refused
    all_refused around (Get x) e = All-nil Refused
    all_refused around (Keep array i v) e = All-nil Refused
    all_refused around (Mark m) e = All-nil Refused
    all_refused around (Leave j) e = All-nil Refused
    all_refused around (Return v) e = All-nil Refused

    all_refused_in : (around : ℕ) (ss : Statements) → any_fits_all limit fs used around ss ≡ false → All Refused (sites_all around ss)
    all_refused_in around End e = All-nil Refused
    all_refused_in around (Then s rest) e =
        All-append Refused (sites around s) (sites_all around rest)
        (all_refused around s (first_false (any_fits limit fs used around s) (any_fits_all limit fs used around rest) e))
        (all_refused_in around rest (second_false (any_fits limit fs used around s) (any_fits_all limit fs used around rest) e))

  none_open : (hs : List Function) → any_fits_in limit fs used hs ≡ false → All (λ f. All Refused (sites 0 f.body)) hs
  none_open [] e = All-nil (λ f. All Refused (sites 0 f.body))
  none_open (h ∷ hs) e =
      All-cons (λ f. All Refused (sites 0 f.body)) h hs
      (all_refused 0 h.body (first_false (any_fits limit fs used 0 h.body) (any_fits_in limit fs used hs) e))
      (none_open hs (second_false (any_fits limit fs used 0 h.body) (any_fits_in limit fs used hs) e))

-- what fits goes by numbers alone
fits_same : (limit : ℕ) (used now : Used) (around : ℕ) (s : Site) (h k : Function) → now.operations ≡ used.operations → now.bytes ≡ used.bytes → function_nodes k ≡ function_nodes h → variables k ≡ variables h → operations (opening s now.next k.body) ≡ operations (opening s used.next h.body) → depth (opening s now.next k.body) ≡ depth (opening s used.next h.body) →
    fits limit now around s k ≡ fits limit used around s h
fits_same limit used now around s h k ops bytes small vars same deep =
    ap (λ n. nat_le n limit && (nat_le (now.operations + operations (opening s now.next k.body)) (most_operations + operations (call_of s)) && (nat_le (now.bytes + 4 * variables k) most_locals && nat_le (around + depth (opening s now.next k.body)) most_depth))) small
    ∙ ap (λ n. nat_le (function_nodes h) limit && (nat_le (n + operations (opening s now.next k.body)) (most_operations + operations (call_of s)) && (nat_le (now.bytes + 4 * variables k) most_locals && nat_le (around + depth (opening s now.next k.body)) most_depth))) ops
    ∙ ap (λ n. nat_le (function_nodes h) limit && (nat_le (used.operations + n) (most_operations + operations (call_of s)) && (nat_le (now.bytes + 4 * variables k) most_locals && nat_le (around + depth (opening s now.next k.body)) most_depth))) same
    ∙ ap (λ n. nat_le (function_nodes h) limit && (nat_le (used.operations + operations (opening s used.next h.body)) (most_operations + operations (call_of s)) && (nat_le (n + 4 * variables k) most_locals && nat_le (around + depth (opening s now.next k.body)) most_depth))) bytes
    ∙ ap (λ n. nat_le (function_nodes h) limit && (nat_le (used.operations + operations (opening s used.next h.body)) (most_operations + operations (call_of s)) && (nat_le (used.bytes + 4 * n) most_locals && nat_le (around + depth (opening s now.next k.body)) most_depth))) vars
    ∙ ap (λ n. nat_le (function_nodes h) limit && (nat_le (used.operations + operations (opening s used.next h.body)) (most_operations + operations (call_of s)) && (nat_le (used.bytes + 4 * variables h) most_locals && nat_le (around + n) most_depth))) deep

-- measures do not go by what marks and loops are called
module _ (r : Returns) where
  mutual
    measured-numbered : (m n : ℕ) (s : Statement) → measured r (numbered m n s) ≡ measured r s
    measured-numbered m n (Mark k) = refl
    measured-numbered m n (Seq parts) = ap within (measured-numbered_all m n parts)
    measured-numbered m n (If test a b) =
        ap (λ x. within (beside (expr_measure test) (beside x (measured r (numbered (m + length (marks_of a)) (n + length (loops_of a)) b))))) (measured-numbered m n a)
        ∙ ap (λ x. within (beside (expr_measure test) (beside (measured r a) x))) (measured-numbered (m + length (marks_of a)) (n + length (loops_of a)) b)
    measured-numbered m n (Loop id least most body) = ap within (measured-numbered m (n + 1) body)
    measured-numbered m n (Block body) = ap within (measured-numbered m n body)
    measured-numbered m n (Set x e) = refl
    measured-numbered m n (Put e) = refl
    measured-numbered m n (Get x) = refl
    measured-numbered m n (Keep array i e) = refl
    measured-numbered m n (Leave j) = refl
    measured-numbered m n (Call f values arrays into) = refl
    measured-numbered m n (Return e) = refl

    measured-numbered_all : (m n : ℕ) (ss : Statements) → measured_all r (numbered_all m n ss) ≡ measured_all r ss
    measured-numbered_all m n End = refl
    measured-numbered_all m n (Then s rest) =
        ap (λ x. beside x (measured_all r (numbered_all (m + length (marks_of s)) (n + length (loops_of s)) rest))) (measured-numbered m n s)
        ∙ ap (λ x. beside (measured r s) x) (measured-numbered_all (m + length (marks_of s)) (n + length (loops_of s)) rest)

-- nor do calls
mutual
  sites-numbered : (around m n : ℕ) (s : Statement) → sites around (numbered m n s) ≡ sites around s
  sites-numbered around m n (Mark k) = refl
  sites-numbered around m n (Seq parts) = sites-numbered_all (around + 1) m n parts
  sites-numbered around m n (If test a b) =
      ap (λ l. l ++ sites (around + 1) (numbered (m + length (marks_of a)) (n + length (loops_of a)) b)) (sites-numbered (around + 1) m n a)
      ∙ ap (λ l. sites (around + 1) a ++ l) (sites-numbered (around + 1) (m + length (marks_of a)) (n + length (loops_of a)) b)
  sites-numbered around m n (Loop id least most body) = sites-numbered (around + 1) m (n + 1) body
  sites-numbered around m n (Block body) = sites-numbered (around + 1) m n body
  sites-numbered around m n (Set x e) = refl
  sites-numbered around m n (Put e) = refl
  sites-numbered around m n (Get x) = refl
  sites-numbered around m n (Keep array i e) = refl
  sites-numbered around m n (Leave j) = refl
  sites-numbered around m n (Call f values arrays into) = refl
  sites-numbered around m n (Return e) = refl

  sites-numbered_all : (around m n : ℕ) (ss : Statements) → sites_all around (numbered_all m n ss) ≡ sites_all around ss
  sites-numbered_all around m n End = refl
  sites-numbered_all around m n (Then s rest) =
      ap (λ l. l ++ sites_all around (numbered_all (m + length (marks_of s)) (n + length (loops_of s)) rest)) (sites-numbered around m n s)
      ∙ ap (λ l. sites around s ++ l) (sites-numbered_all around (m + length (marks_of s)) (n + length (loops_of s)) rest)

module _ (limit : ℕ) (used now : Used) (ops : now.operations ≡ used.operations) (bytes : now.bytes ≡ used.bytes) where
  -- the same call among renumbered functions
  fits-numbered : (around : ℕ) (s : Site) (m n : ℕ) (fs : List Function) (f : ℕ) → fits_any limit now around s (slice_get (functions_numbered m n fs) f) ≡ fits_any limit used around s (slice_get fs f)
  fits-numbered around s m n [] f = refl
  fits-numbered around s m n (h ∷ fs) zero =
      let same : measured (returns_into s.into) (numbered m n h.body) ≡ measured (returns_into s.into) h.body = measured-numbered (returns_into s.into) m n h.body in
      fits_same limit used now around s h (function_numbered m n h) ops bytes (ap (λ k. k + 1) (nodes-numbered m n h.body)) refl
      (omega (arith, opening_operations s now.next (numbered m n h.body), opening_operations s used.next h.body, ap (λ x. x.operations) same))
      (opening_depth s now.next (numbered m n h.body) ∙ ap (λ x. max (greatest expr_depth s.values) x.depth + 2) same ∙ sym (opening_depth s used.next h.body))
  fits-numbered around s m n (h ∷ fs) (suc f) = fits-numbered around s (m + length (marks_of h.body)) (n + length (loops_of h.body)) fs f

  -- refused calls stay so
  refused-numbered : (all : List Function) (k l : ℕ) (m n : ℕ) (fs : List Function) → All (λ f. All (λ c. may_open limit all used c.around c.site ≡ false) (sites 0 f.body)) fs →
      All (λ f. All (λ c. may_open limit (functions_numbered k l all) now c.around c.site ≡ false) (sites 0 f.body)) (functions_numbered m n fs)
  refused-numbered all k l m n [] h = All-nil (λ g. All (λ c. may_open limit (functions_numbered k l all) now c.around c.site ≡ false) (sites 0 g.body))
  refused-numbered all k l m n (f ∷ fs) h =
      let P : Function → Type 0 = λ g. All (λ c. may_open limit all used c.around c.site ≡ false) (sites 0 g.body) in
      let Q : Function → Type 0 = λ g. All (λ c. may_open limit (functions_numbered k l all) now c.around c.site ≡ false) (sites 0 g.body) in
      All-cons Q (function_numbered m n f) (functions_numbered (m + length (marks_of f.body)) (n + length (loops_of f.body)) fs)
      (subst (All (λ c. may_open limit (functions_numbered k l all) now c.around c.site ≡ false)) (sym (sites-numbered 0 m n f.body))
      (λ i d lt. let c = get_or (sites 0 f.body) i d in fits-numbered c.around c.site k l all c.site.function ∙ All-head P f fs h i d lt))
      (refused-numbered all k l (m + length (marks_of f.body)) (n + length (loops_of f.body)) fs (All-tail P f fs h))

-- in the answered program
pub inlined_left : (limit : ℕ) (p : Program) → IsHigh p → (n : ℕ) → is_open limit (swept limit p n) ≡ false → All (λ f. All (IsLeft limit (inlined limit p n)) (sites 0 f.body)) (inlined limit p n).functions
inlined_left limit p high n settled = by_sweeps n (n == 0) refl settled
  where
    by_sweeps : (n : ℕ) (b : Bool) → (n == 0) ≡ b → is_open limit (swept limit p n) ≡ false →
        All (λ f. All (IsLeft limit (if b then p else renumbered (opened_program limit p n))) (sites 0 f.body)) (if b then p else renumbered (opened_program limit p n)).functions
    by_sweeps n true is settled =
        let none : n ≡ 0 = eqb-true n 0 is in
        none_open limit p.functions (used_by p 0) p.functions (subst (λ k. is_open limit (swept limit p k) ≡ false) none settled)
    by_sweeps n false is settled =
        let m = swept limit p n in
        let made = opened_program limit p n in
        let kept = swept_keeps limit p high n in
        refused-numbered limit m.used (used_by (renumbered made) 0) (operations_in-numbered made ∙ sym kept.operations) (bytes_in-numbered made ∙ sym kept.bytes) m.functions (length m.functions) 0 (length m.functions) 0 m.functions
        (none_open limit m.functions m.used m.functions settled)
