-- What statements make of code that is made from its end.
use Rattle.std.proofs.Common.{◌≡◌, ℕ, suc, ◌+◌, List, [], ◌∷◌, ◌++◌, length, Option, Some, None, refl, sym, ap, ◌∙◌, arith, append_assoc, length-append}
use Rattle.std.specs.Prelude.{slice_index_or}
use Rattle.high_ir.specs.Tree as high
use Rattle.low_ir.specs.Code.{End, Jump, Branch, Return, Block, Loop, Note, Operand}
use Rattle.low_ir.specs.Formed.{only_jump}
use Rattle.lower_definition.specs.Operators.{Code}
use Rattle.lower_definition.specs.Statements.{Piece, Landed, block, joined, landed, landed_by, one_block, piece, pieces, test_code}
use Rattle.lower_definition.specs.Values.{Scope, Coded, Valued, Tested}
use Rattle.lower_statement.specs.Sharing.{returned_value}
use Rattle.lower_statement.specs.Whole.{apart, branched, goal_of, landing, latched, looped, run, run_all, with_first}

abbrev whole : Block ℕ Note → List (Block ℕ Note) → List Loop → ℕ → Piece
whole k bs ls t = record { first = k; new = bs; loops = ls; free = t }

whole_same : (k : Block ℕ Note) (bs cs : List (Block ℕ Note)) (ls ms : List Loop) (t : ℕ) → bs ≡ cs → ls ≡ ms → whole k bs ls t ≡ whole k cs ms t
whole_same k bs cs ls ms t b l = ap (λ x. whole k x ls t) b ∙ ap (λ x. whole k cs x t) l

pub joined_joined : (a b c : Piece) → joined (joined a b) c ≡ joined a (joined b c)
joined_joined a b c = whole_same a.first _ _ _ _ a.free (append_assoc a.new b.new c.new) (append_assoc a.loops b.loops c.loops)

length_behind : {A : Type 0} (xs ys : List A) → length (xs ++ ys) ≡ length ys + length xs
length_behind xs ys = omega (arith, length-append xs ys)

pub run_then : (scope : Scope) (s : high.Statement) (ss : high.Statements) (exits : List ℕ) (p : Piece) → run_all scope (high.Then s ss) exits p ≡ run scope s exits (run_all scope ss exits p)
run_then scope s ss exits p =
    let r = pieces scope ss exits (length p.new) p.free p.first in
    joined_joined (piece scope s exits (length p.new + length r.new) r.free r.first) r p
    ∙ ap (λ n. joined (piece scope s exits n r.free r.first) (joined r p)) (sym (length_behind r.new p.new))

pub run_end : (scope : Scope) (exits : List ℕ) (p : Piece) → run_all scope high.End exits p ≡ p
run_end scope exits p = refl

-- a piece before others, where one lands at it
abbrev before_rest : Landed → Piece → Piece
before_rest l p = whole (only_jump l.goal) (l.new ++ p.new) (l.loops ++ p.loops) l.free

all_behind : {A : Type 0} (xs ys : List A) → 0 + length (xs ++ ys) ≡ length ys + length xs
all_behind xs ys = omega (arith, length-append xs ys)

goal_by : (mark : Option ℕ) (code : Code) (end : End ℕ) (q p : Piece) → (landed_by mark code end 0 (joined q p)).goal ≡ (landed_by mark code end (length p.new) q).goal
goal_by None [] (Jump b) q p = refl
goal_by None [] (Branch c x y taken other) q p = all_behind q.new p.new
goal_by None [] (Return x) q p = all_behind q.new p.new
goal_by None (i ∷ is) end q p = all_behind q.new p.new
goal_by (Some m) code end q p = all_behind q.new p.new

new_by : (mark : Option ℕ) (code : Code) (end : End ℕ) (q p : Piece) → (landed_by mark code end 0 (joined q p)).new ≡ (landed_by mark code end (length p.new) q).new ++ p.new
new_by None [] (Jump b) q p = refl
new_by None [] (Branch c x y taken other) q p = refl
new_by None [] (Return x) q p = refl
new_by None (i ∷ is) end q p = refl
new_by (Some m) code end q p = refl

loops_by : (mark : Option ℕ) (code : Code) (end : End ℕ) (n : ℕ) (q : Piece) → (landed_by mark code end n q).loops ≡ q.loops
loops_by None [] (Jump b) n q = refl
loops_by None [] (Branch c x y taken other) n q = refl
loops_by None [] (Return x) n q = refl
loops_by None (i ∷ is) end n q = refl
loops_by (Some m) code end n q = refl

free_by : (mark : Option ℕ) (code : Code) (end : End ℕ) (n : ℕ) (q : Piece) → (landed_by mark code end n q).free ≡ q.free
free_by None [] (Jump b) n q = refl
free_by None [] (Branch c x y taken other) n q = refl
free_by None [] (Return x) n q = refl
free_by None (i ∷ is) end n q = refl
free_by (Some m) code end n q = refl

landed_loops : (n : ℕ) (q : Piece) → (landed n q).loops ≡ q.loops
landed_loops n q = loops_by q.first.mark q.first.code q.first.end n q

landed_free : (n : ℕ) (q : Piece) → (landed n q).free ≡ q.free
landed_free n q = free_by q.first.mark q.first.code q.first.end n q

goal_joined : (q p : Piece) → goal_of (joined q p) ≡ (landed (length p.new) q).goal
goal_joined q p = goal_by q.first.mark q.first.code q.first.end q p

landing_joined : (q p : Piece) → landing (joined q p) ≡ before_rest (landed (length p.new) q) p
landing_joined q p =
    ap (λ n. whole (only_jump n) (landed 0 (joined q p)).new (q.loops ++ p.loops) q.free) (goal_joined q p)
    ∙ ap (λ x. whole (only_jump (landed (length p.new) q).goal) x (q.loops ++ p.loops) q.free) (new_by q.first.mark q.first.code q.first.end q p)
    ∙ ap (λ x. whole (only_jump (landed (length p.new) q).goal) ((landed (length p.new) q).new ++ p.new) (x ++ p.loops) q.free) (sym (landed_loops (length p.new) q))
    ∙ ap (λ x. whole (only_jump (landed (length p.new) q).goal) ((landed (length p.new) q).new ++ p.new) ((landed (length p.new) q).loops ++ p.loops) x) (sym (landed_free (length p.new) q))

-- a statement before a place where one lands
run_landed : (scope : Scope) (s : high.Statement) (exits : List ℕ) (l : Landed) (p : Piece) (n t : ℕ) → n ≡ length p.new → t ≡ l.free →
    run scope s exits (before_rest l p) ≡ joined (piece scope s exits (n + length l.new) t (only_jump l.goal)) (before_rest l p)
run_landed scope s exits l p n t en et =
    ap (λ m. joined (piece scope s exits m l.free (only_jump l.goal)) (before_rest l p)) (length_behind l.new p.new ∙ ap (λ m. m + length l.new) (sym en))
    ∙ ap (λ u. joined (piece scope s exits (n + length l.new) u (only_jump l.goal)) (before_rest l p)) (sym et)

pub block_runs : (scope : Scope) (s : high.Statement) (exits : List ℕ) (join : ℕ) (p0 p1 p2 : Piece) → join ≡ goal_of p0 → p1 ≡ landing p0 → p2 ≡ run scope s (join ∷ exits) p1 → p2 ≡ run scope (high.Block s) exits p0
block_runs scope s exits join p0 p1 p2 ej e1 e2 =
    let n = length p0.new in
    let k = one_block p0.first p0.free in
    let l = landed n k in
    let goal : join ≡ l.goal = ej ∙ goal_joined k p0 in
    let at : p1 ≡ before_rest l p0 = e1 ∙ landing_joined k p0 in
    let b = piece scope s (l.goal ∷ exits) (n + length l.new) p0.free (only_jump l.goal) in
    e2
    ∙ ap (λ j. run scope s (j ∷ exits) p1) goal
    ∙ ap (run scope s (l.goal ∷ exits)) at
    ∙ run_landed scope s (l.goal ∷ exits) l p0 n p0.free refl (sym (landed_free n k))
    ∙ whole_same b.first _ _ _ _ b.free (sym (append_assoc b.new l.new p0.new)) (ap (λ x. b.loops ++ (x ++ p0.loops)) (landed_loops n k))

pub loop_runs : (scope : Scope) (s : high.Statement) (exits : List ℕ) (id least most latch : ℕ) (p0 p1 p2 p3 : Piece) → latch ≡ length p0.new → p1 ≡ latched p0 → p2 ≡ run scope s exits p1 →
    ((inside behind : List (Block ℕ Note)) → p2.new ≡ inside ++ only_jump 0 ∷ behind → latch ≡ length behind → p3 ≡ looped id least most behind inside p2) →
    p3 ≡ run scope (high.Loop id least most s) exits p0
loop_runs scope s exits id least most latch p0 p1 p2 p3 el e1 e2 e3 =
    let n = length p0.new in
    let b = piece scope s exits (suc n) p0.free (only_jump n) in
    let at : p2 ≡ joined b (latched p0) = e2 ∙ ap (run scope s exits) e1 in
    let header : length (b.new ++ only_jump 0 ∷ p0.new) ≡ suc n + length b.new = length_behind b.new (only_jump 0 ∷ p0.new) in
    let made = λ (h : ℕ). whole (only_jump h) (b.first ∷ (b.new ++ only_jump h ∷ p0.new)) (record { id = id; least = least; most = most; header = h; latch = n } ∷ (b.loops ++ p0.loops)) b.free in
    e3 b.new p0.new (ap (λ q. q.new) at) el
    ∙ ap (looped id least most p0.new b.new) at
    ∙ ap made header
    ∙ ap (λ x. whole (only_jump (suc n + length b.new)) (b.first ∷ x) (record { id = id; least = least; most = most; header = suc n + length b.new; latch = n } ∷ (b.loops ++ p0.loops)) b.free) (sym (append_assoc b.new (only_jump (suc n + length b.new) ∷ []) p0.new))

pub choice_runs : (scope : Scope) (test : high.Expr) (first other : high.Statement) (exits : List ℕ) (join a b : ℕ) (t : Tested) (p0 p1 p2 p3 p4 p5 p6 p7 : Piece) →
    join ≡ goal_of p0 → p1 ≡ landing p0 → p2 ≡ run scope other exits p1 → b ≡ goal_of p2 → p3 ≡ landing p2 → p4 ≡ with_first (only_jump join) p3 → p5 ≡ run scope first exits p4 →
    a ≡ goal_of p5 → p6 ≡ landing p5 → t ≡ test_code scope test p6.free → p7 ≡ branched t a b p6 → p7 ≡ run scope (high.If test first other) exits p0
choice_runs scope test first other exits join a b t p0 p1 p2 p3 p4 p5 p6 p7 ej e1 e2 eb e3 e4 e5 ea e6 et e7 =
    let n = length p0.new in
    let k = one_block p0.first p0.free in
    let j = landed n k in
    let at_join : join ≡ j.goal = ej ∙ goal_joined k p0 in
    let is1 : p1 ≡ before_rest j p0 = e1 ∙ landing_joined k p0 in
    let m = n + length j.new in
    let o = piece scope other exits m p0.free (only_jump j.goal) in
    let is2 : p2 ≡ joined o (before_rest j p0) = e2 ∙ ap (run scope other exits) is1 ∙ run_landed scope other exits j p0 n p0.free refl (sym (landed_free n k)) in
    let behind : length (before_rest j p0).new ≡ m = length_behind j.new p0.new in
    let l = landed m o in
    let at_other : b ≡ l.goal = eb ∙ ap goal_of is2 ∙ goal_joined o (before_rest j p0) ∙ ap (λ i. (landed i o).goal) behind in
    let is3 : p3 ≡ before_rest l (before_rest j p0) = e3 ∙ ap landing is2 ∙ landing_joined o (before_rest j p0) ∙ ap (λ i. before_rest (landed i o) (before_rest j p0)) behind in
    let from = before_rest (record { goal = j.goal; new = l.new; loops = l.loops; free = l.free }) (before_rest j p0) in
    let is4 : p4 ≡ from = e4 ∙ ap (λ g. with_first (only_jump g) p3) at_join ∙ ap (with_first (only_jump j.goal)) is3 in
    let f = piece scope first exits (m + length l.new) l.free (only_jump j.goal) in
    let is5 : p5 ≡ joined f from = e5 ∙ ap (run scope first exits) is4 ∙ run_landed scope first exits (record { goal = j.goal; new = l.new; loops = l.loops; free = l.free }) (before_rest j p0) m l.free (sym behind) refl in
    let behind_both : length from.new ≡ m + length l.new = length_behind l.new (before_rest j p0).new ∙ ap (λ i. i + length l.new) behind in
    let g = landed (m + length l.new) f in
    let at_first : a ≡ g.goal = ea ∙ ap goal_of is5 ∙ goal_joined f from ∙ ap (λ i. (landed i f).goal) behind_both in
    let is6 : p6 ≡ before_rest g from = e6 ∙ ap landing is5 ∙ landing_joined f from ∙ ap (λ i. before_rest (landed i f) from) behind_both in
    let c = test_code scope test g.free in
    let tests : t ≡ c = et ∙ ap (λ q. test_code scope test q.free) is6 in
    let k7 = block c.code (Branch c.condition c.left c.right g.goal l.goal) in
    e7
    ∙ ap (λ x. branched x a b p6) tests
    ∙ ap (λ x. branched c x b p6) at_first
    ∙ ap (λ x. branched c g.goal x p6) at_other
    ∙ ap (branched c g.goal l.goal) is6
    ∙ whole_same k7 _ _ _ _ c.free
    (ap (λ x. g.new ++ x) (sym (append_assoc l.new j.new p0.new)) ∙ sym (append_assoc g.new (l.new ++ j.new) p0.new))
    (ap (λ x. g.loops ++ (l.loops ++ (x ++ p0.loops))) (landed_loops n k) ∙ sym (append_assoc g.loops l.loops p0.loops))

pub leave_runs : (scope : Scope) (exits : List ℕ) (d goal : ℕ) (p0 p1 : Piece) → goal ≡ slice_index_or exits d 0 → p1 ≡ with_first (only_jump goal) p0 → p1 ≡ run scope (high.Leave d) exits p0
leave_runs scope exits d goal p0 p1 eg e1 = e1 ∙ ap (λ g. with_first (only_jump g) p0) eg

pub return_runs : (scope : Scope) (e : high.Expr) (exits : List ℕ) (v : Valued) (c : Coded) (x : Operand ℕ) (p0 p1 : Piece) → v ≡ returned_value scope e p0.free → c ≡ record { code = v.code; free = v.free } → x ≡ v.value → p1 ≡ apart c (Return x) p0 → p1 ≡ run scope (high.Return e) exits p0
return_runs scope e exits v c x p0 p1 ev ec ex e1 =
    e1
    ∙ ap (λ c. apart c (Return x) p0) ec
    ∙ ap (λ y. apart (record { code = v.code; free = v.free }) (Return y) p0) ex
    ∙ ap (λ (w : Valued). apart (record { code = w.code; free = w.free }) (Return w.value) p0) ev
