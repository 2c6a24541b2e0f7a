-- How many registers the code of a statement takes.
use Rattle.std.proofs.Common.{ℕ, suc, ◌+◌, ◌*◌, ◌≤◌, List, ◌∷◌, length, arith, length-append}
use Rattle.high_ir.specs.Size.{operations, operations_all}
use Rattle.high_ir.specs.Standing.{loops_of, loops_of_all}
use Rattle.high_ir.specs.Tree as high
use Rattle.low_ir.specs.Code.{Block, Note}
use Rattle.low_ir.specs.Formed.{only_jump}
use Rattle.lower_definition.specs.Values.{Scope}
use Rattle.lower_definition.specs.Statements.{call_code, get_code, keep_code, kept_value, landed, one_block, piece, pieces, put_code, set_code}
use Rattle.lower_nesting.proofs.Free.{before_free, landed_free, marked_free}
use Rattle.lower_budget.proofs.Statements.{call_cost, get_cost, kept_cost, put_cost, return_cost, set_cost, test_cost}

no_worth : ℕ → ℕ
no_worth f = 0

module _ (scope : Scope) where
  mutual
    pub piece_narrow : (s : high.Statement) (exits : List ℕ) (n t : ℕ) (k : Block ℕ Note) → (piece scope s exits n t k).free + 2 * length (loops_of s) ≤ t + 2 * operations s
    piece_narrow (high.Set x e) exits n t k = let c = set_cost no_worth scope x e t in let b = c.free in let f = before_free n k (set_code scope x e t) in omega (arith, b, f)
    piece_narrow (high.Put e) exits n t k = let c = put_cost no_worth scope e t in let b = c.free in let f = before_free n k (put_code scope e t) in omega (arith, b, f)
    piece_narrow (high.Get x) exits n t k = let c = get_cost no_worth scope x t in let b = c.free in let f = before_free n k (get_code scope x t) in omega (arith, b, f)
    piece_narrow (high.Keep array i e) exits n t k = let c = kept_cost no_worth scope array i e t in let b = c.free in let f = before_free n k (keep_code scope array i (kept_value array.kind e) t) in omega (arith, b, f)
    piece_narrow (high.Mark m) exits n t k = let f = marked_free k.mark m n k t in omega (arith, f)
    piece_narrow (high.Seq parts) exits n t k = let h = pieces_narrow parts exits n t k in omega (arith, h)
    piece_narrow (high.If test first other) exits n t k =
        let join = landed n (one_block k t) in
        let m = n + length join.new in
        let p = piece scope other exits m t (only_jump join.goal) in
        let b = landed m p in
        let m2 = m + length b.new in
        let r = piece scope first exits m2 b.free (only_jump join.goal) in
        let a = landed m2 r in
        let x = piece_narrow other exits m t (only_jump join.goal) in
        let y = piece_narrow first exits m2 b.free (only_jump join.goal) in
        let c = test_cost no_worth scope test a.free in
        let z = c.free in
        let fa = landed_free m2 r in
        let fb = landed_free m p in
        let l = length-append (loops_of first) (loops_of other) in
        omega (arith, x, y, z, fa, fb, l)
    piece_narrow (high.Loop id least most body) exits n t k = let h = piece_narrow body exits (suc n) t (only_jump n) in omega (arith, h)
    piece_narrow (high.Block body) exits n t k =
        let join = landed n (one_block k t) in
        let h = piece_narrow body (join.goal ∷ exits) (n + length join.new) t (only_jump join.goal) in
        omega (arith, h)
    piece_narrow (high.Leave d) exits n t k = omega arith
    piece_narrow (high.Call g values arrays into) exits n t k = let c = call_cost no_worth scope g values arrays into t in let b = c.free in let f = before_free n k (call_code scope g values arrays into t) in omega (arith, b, f)
    piece_narrow (high.Return e) exits n t k = let c = return_cost no_worth scope e t in let b = c.1 in omega (arith, b)

    pub pieces_narrow : (ss : high.Statements) (exits : List ℕ) (n t : ℕ) (k : Block ℕ Note) → (pieces scope ss exits n t k).free + 2 * length (loops_of_all ss) ≤ t + 2 * operations_all ss
    pieces_narrow high.End exits n t k = omega arith
    pieces_narrow (high.Then first rest) exits n t k =
        let r = pieces scope rest exits n t k in
        let a = pieces_narrow rest exits n t k in
        let b = piece_narrow first exits (n + length r.new) r.free r.first in
        let l = length-append (loops_of first) (loops_of_all rest) in
        omega (arith, a, b, l)
