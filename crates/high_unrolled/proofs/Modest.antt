-- What statements become is within the budgets, weighs no more, and calls and leaves as they did.
use Rattle.std.proofs.Common.{◌≡◌, ℕ, ◌+◌, ◌-◌, ◌*◌, ◌<◌, ◌≤◌, ◌==◌, ◌⊎◌, inl, inr, Bool, true, false, not, ◌&&◌, List, [], refl, sym, ap, ◌∙◌, subst, ⊎_elim, arith, All}
use Rattle.std.proofs.Math.Nat.{mul-le-mul_left}
use Rattle.std.proofs.lemmas.Bool.{cases_lt, cond-false, cond-true, ltb-false, ne_eqb}
use Rattle.std.proofs.lemmas.List.Elements.{All-append, All-cons, All-nil, All-weaker}
use Rattle.wcc_base.specs.Budgets.{most_depth}
use Rattle.high_ir.specs.Size.{depth, depth_all, nodes, nodes_all, operations, operations_all}
use Rattle.high_ir.specs.Splitting.{split}
use Rattle.high_ir.specs.Standing.{blocks_needed, blocks_needed_all, callees_of, callees_of_all}
use Rattle.high_ir.specs.Tree.{Statement, Set, Put, Get, Keep, Mark, Seq, If, Loop, Block, Leave, Call, Return, Statements, End, Then}
use Rattle.high_ir.specs.Weight.{most_starts, weight_of, weight_of_all}
use Rattle.high_pass.proofs.Elements.{All-append_back, All-append_front}
use Rattle.high_unrolled.specs.Factor.{Rolled, as_loop, depth_by, ended, first_starts, grouped, growth, has_loop, is_short, is_taken, turned}
use Rattle.high_unrolled.specs.Programs.{busy, busy_all, is_idle}
use Rattle.high_unrolled.specs.Starts.{mark_count}
use Rattle.high_unrolled.specs.Unrolling.{Place, Became, Left, after, at_loop, inside, left_in, spread, spread_all, taken}
use Rattle.high_unrolled.proofs.Copies.{starts_are}
use Rattle.high_unrolled.proofs.Growth.{idle_taken, long_depth, long_work, none_grown, short_work, size_grown, weight_long, weight_short, work_grown}
use Rattle.high_unrolled.proofs.Sizes.{busy_innermost, nodes_few, some_depth, some_nodes, some_work}
use Rattle.high_unrolled.proofs.Taking.{left_for_want, taken_depth, taken_growth, taken_innermost, taken_twice}

-- an innermost loop for which this room is too small, or that would be too deep
abbrev pub IsTight : (k room : ℕ) → Left → Type 0
IsTight k room l = (room < growth k l.rolled) ⊎ (most_depth < l.level + depth_by k l.rolled)

true_is_false : true ≡ false → ⊥
true_is_false e = cc

same_most : (n : ℕ) → n ≤ n
same_most n = omega arith

-- a body weighs no more where the functions that it calls don't
module _ (c d : ℕ → ℕ) (less : (f : ℕ) → d f ≤ c f) where
  mutual
    pub weighs_less : (s : Statement) → weight_of d s ≤ weight_of c s
    weighs_less (Set x e) = same_most (weight_of c (Set x e))
    weighs_less (Put e) = same_most (weight_of c (Put e))
    weighs_less (Get x) = same_most (weight_of c (Get x))
    weighs_less (Keep array i e) = same_most (weight_of c (Keep array i e))
    weighs_less (Mark m) = same_most (weight_of c (Mark m))
    weighs_less (Seq parts) = let h = all_weigh_less parts in omega (arith, h)
    weighs_less (If test first other) = let h = weighs_less first in let k = weighs_less other in omega (arith, h, k)
    weighs_less (Loop id least most body) =
        let h = weighs_less body in
        let le : 3 + weight_of d body ≤ 3 + weight_of c body = omega (arith, h) in
        let m : most_starts most * (3 + weight_of d body) ≤ most_starts most * (3 + weight_of c body) = mul-le-mul_left (most_starts most) le in
        omega (arith, m)
    weighs_less (Block body) = let h = weighs_less body in omega (arith, h)
    weighs_less (Leave e) = same_most (weight_of c (Leave e))
    weighs_less (Call f values arrays into) = let h = less f in omega (arith, h)
    weighs_less (Return e) = same_most (weight_of c (Return e))

    all_weigh_less : (parts : Statements) → weight_of_all d parts ≤ weight_of_all c parts
    all_weigh_less End = same_most 0
    all_weigh_less (Then first rest) = let h = weighs_less first in let k = all_weigh_less rest in omega (arith, h, k)

-- of a piece of code of a measure: its own, and that of what it became
pub record Modest (k level : ℕ) (z : Place) (deep_s deep_t size_s size_t work_s work_t leave_s leave_t : ℕ) (calls_s calls_t : List ℕ) (weigh_s weigh_t : (ℕ → ℕ) → ℕ) (room : ℕ) (left : List Left) : Type 1 where
  pub deep : level + deep_t ≤ most_depth
  pub size : size_t + 3 * room ≤ size_s + 3 * z.room
  pub less : room ≤ z.room
  pub work : 2 ≤ k → work_t + room ≡ work_s + z.room
  pub leaving : leave_t ≤ leave_s
  pub calling : (P : ℕ → Type 0) → All P calls_s → All P calls_t
  pub weighing : (c d : ℕ → ℕ) → ((f : ℕ) → d f ≤ c f) → weigh_t d ≤ weigh_s c
  pub tight : 2 ≤ k → All (IsTight k room) left

abbrev pub IsModest : (k level : ℕ) → Place → Statement → Became Statement → Type 1
IsModest k level z s r =
    Modest k level z (depth s) (depth r.code) (nodes s) (nodes r.code) (busy s) (operations r.code) (blocks_needed s) (blocks_needed r.code) (callees_of s) (callees_of r.code) (λ c. weight_of c s) (λ c. weight_of c r.code) r.room r.left

abbrev pub AreModest : (k level : ℕ) → Place → Statements → Became Statements → Type 1
AreModest k level z a r =
    Modest k level z (depth_all a) (depth_all r.code) (nodes_all a) (nodes_all r.code) (busy_all a) (operations_all r.code) (blocks_needed_all a) (blocks_needed_all r.code) (callees_of_all a) (callees_of_all r.code) (λ c. weight_of_all c a) (λ c. weight_of_all c r.code) r.room r.left

pub tighter : (k room less : ℕ) → less ≤ room → (l : Left) → IsTight k room l → IsTight k less l
tighter k room less le l h = ⊎_elim (λ (want : room < growth k l.rolled). inl (omega (arith, le, want))) (λ (deep : most_depth < l.level + depth_by k l.rolled). inr deep) h

module _ (k : ℕ) where
  -- a statement that stays as it is
  modest_same : (level : ℕ) (z : Place) (s : Statement) → busy s ≡ operations s → level + depth s ≤ most_depth → IsModest k level z s (record { code = s; room = z.room; made = []; entries = []; loops = 0; left = [] })
  modest_same level z s quiet fit = record {
    deep = fit;
    size = same_most (nodes s + 3 * z.room);
    less = same_most z.room;
    work = λ two. ap (λ n. n + z.room) (sym quiet);
    leaving = same_most (blocks_needed s);
    calling = λ P all. all;
    weighing = λ c d le. weighs_less c d le s;
    tight = λ two. All-nil (IsTight k z.room);
  }

  -- an innermost loop by the factor: its code has some starts of the body and some statements around them
  module _ (level : ℕ) (z : Place) (x : Rolled) (id : ℕ) (fit : level + (depth x.body + 1) ≤ most_depth) (takes : is_taken k z.room level x ≡ true) where
    quiet : busy x.body ≡ operations x.body
    quiet = busy_innermost x.body (taken_innermost k z.room level x takes)

    two : 2 ≤ k
    two = taken_twice k z.room level x takes

    idle_work : x.bounds.most ≡ 0 → busy (Loop id x.bounds.least x.bounds.most x.body) ≡ 2
    idle_work e = cond-true {A = ℕ} (is_idle x.bounds.most x.body) 2 (busy x.body + 1) (ap (λ m. (m == 0) && not (has_loop x.body)) e ∙ ap not (taken_innermost k z.room level x takes))

    busy_work : 1 ≤ x.bounds.most → busy (Loop id x.bounds.least x.bounds.most x.body) ≡ operations x.body + 1
    busy_work some = cond-false {A = ℕ} (is_idle x.bounds.most x.body) 2 (busy x.body + 1) (ap (λ t. t && not (has_loop x.body)) (not_zero x.bounds.most some)) ∙ ap (λ n. n + 1) quiet
      where
        not_zero : (m : ℕ) → 1 ≤ m → (m == 0) ≡ false
        not_zero m some = ne_eqb m 0 (λ e. absurd (omega (arith, some, e)))

    fitting : growth k x ≤ z.room
    fitting = taken_growth k z.room level x takes

    modest_ended : is_short k x ≡ true → IsModest k level z (Loop id x.bounds.least x.bounds.most x.body) (taken k true z x)
    modest_ended short =
        let most : ℕ = x.bounds.most in
        let o : ℕ = operations x.body in
        let last : Statements = Then (Mark (z.marks + most * mark_count x.body)) End in
        let h = starts_are most z.marks x.body last in
        let grown : growth k x ≡ 2 + most * o - (o + 1) = ap (λ n. n - (o + 1)) (short_work k x short) in
        let fits' : 2 + most * o - (o + 1) ≤ z.room = subst (λ n. n ≤ z.room) grown fitting in
        record {
          deep = let a = h.deep in let b = some_depth x.body in omega (arith, a, b, fit);
          size = ⊎_elim
              (λ (none : most < 1).
              let e : most ≡ 0 = omega (arith, none) in
              let a = h.size in
              let b : most * nodes x.body ≡ 0 = ap (λ m. m * nodes x.body) e ∙ omega arith in
              let c = some_nodes x.body in
              let d : growth k x ≡ 0 = grown ∙ ap (λ m. 2 + m * o - (o + 1)) e ∙ none_grown o (some_work x.body) in
              omega (arith, a, b, c, d))
              (λ (some : 1 ≤ most).
              let a = h.size in
              let b = size_grown 2 most (nodes x.body) o z.room (nodes_few x.body) some (omega arith) fits' in
              subst (λ g. nodes (ended z.marks x) + 3 * (z.room - g) ≤ nodes x.body + 1 + 3 * z.room) (sym grown) (omega (arith, a, b)))
              (cases_lt most 1);
          less = omega arith;
          work = λ two'. ⊎_elim
              (λ (none : most < 1).
              let e : most ≡ 0 = omega (arith, none) in
              let a = h.work in
              let b : most * o ≡ 0 = ap (λ m. m * o) e ∙ omega arith in
              let d : growth k x ≡ 0 = grown ∙ ap (λ m. 2 + m * o - (o + 1)) e ∙ none_grown o (some_work x.body) in
              let i = idle_work e in
              omega (arith, a, b, d, i))
              (λ (some : 1 ≤ most).
              let a = h.work in
              let b = work_grown 2 most o z.room some (omega arith) fits' in
              let i = busy_work some in
              subst (λ g. operations (ended z.marks x) + (z.room - g) ≡ busy (Loop id x.bounds.least x.bounds.most x.body) + z.room) (sym grown) (omega (arith, a, b, i)))
              (cases_lt most 1);
          leaving = let a = h.leaving in omega (arith, a);
          calling = λ P all. h.calling P all (All-nil P);
          weighing = λ c d le.
              let a = h.weighing d in
              let b = weight_short most (weight_of d x.body) (weight_of c x.body) (weighs_less c d le x.body) in
              omega (arith, a, b);
          tight = λ two'. All-nil (IsTight k (z.room - growth k x));
        }

    modest_turned : is_short k x ≡ false → IsModest k level z (Loop id x.bounds.least x.bounds.most x.body) (taken k false z x)
    modest_turned long =
        let p : ℕ = first_starts k x in
        let o : ℕ = operations x.body in
        let n : ℕ = nodes x.body in
        let m : ℕ = z.marks + p * mark_count x.body in
        let inner : Statement = grouped k m x in
        let rolled : Statement = Loop z.loops (split x.bounds k).least (split x.bounds k).most inner in
        let h = starts_are p z.marks x.body (Then rolled End) in
        let i = starts_are k m x.body End in
        let grown : growth k x ≡ 3 + (p + k) * o - (o + 1) = ap (λ n. n - (o + 1)) (long_work k x long) in
        let fits' : 3 + (p + k) * o - (o + 1) ≤ z.room = subst (λ n. n ≤ z.room) grown fitting in
        let most_some : k ≤ x.bounds.most = ltb-false x.bounds.most k long in
        record {
          deep =
              let a = h.deep in
              let b = i.deep in
              let c = some_depth x.body in
              let d = taken_depth k z.room level x takes in
              let e = long_depth k x long in
              omega (arith, a, b, c, d, e);
          size =
              let a = h.size in
              let b = i.size in
              let c = size_grown 3 (p + k) n o z.room (nodes_few x.body) (omega (arith, two)) (omega arith) fits' in
              let d : (p + k) * n ≡ p * n + k * n = omega arith in
              subst (λ g. nodes (turned k z.marks z.loops x) + 3 * (z.room - g) ≤ n + 1 + 3 * z.room) (sym grown) (omega (arith, a, b, c, d));
          less = omega arith;
          work = λ two'.
              let a = h.work in
              let b = i.work in
              let c = work_grown 3 (p + k) o z.room (omega (arith, two)) (omega arith) fits' in
              let d : (p + k) * o ≡ p * o + k * o = omega arith in
              let e = busy_work (omega (arith, most_some, two)) in
              subst (λ g. operations (turned k z.marks z.loops x) + (z.room - g) ≡ busy (Loop id x.bounds.least x.bounds.most x.body) + z.room) (sym grown) (omega (arith, a, b, c, d, e));
          leaving = let a = h.leaving in let b = i.leaving in omega (arith, a, b);
          calling = λ P all. h.calling P all (All-append P (callees_of inner) [] (i.calling P all (All-nil P)) (All-nil P));
          weighing = λ c d le.
              let a = h.weighing d in
              let b : weight_of_all d (Then rolled End) ≡ 4 + most_starts (split x.bounds k).most * (3 + (1 + (k * weight_of d x.body + 0))) + 0 = ap (λ w. 4 + most_starts (split x.bounds k).most * (3 + (1 + w)) + 0) (i.weighing d) in
              let e = weight_long x.bounds.most k (weight_of d x.body) (weight_of c x.body) two most_some (weighs_less c d le x.body) in
              omega (arith, a, b, e);
          tight = λ two'. All-nil (IsTight k (z.room - growth k x));
        }

    modest_taken : (short : Bool) → is_short k x ≡ short → IsModest k level z (Loop id x.bounds.least x.bounds.most x.body) (taken k short z x)
    modest_taken true e = modest_ended e
    modest_taken false e = modest_turned e

  -- a loop that stays, with what its body became
  modest_kept : (level : ℕ) (z : Place) (x : Rolled) (id : ℕ) (inner : Became Statement) → level + (depth x.body + 1) ≤ most_depth → is_taken k z.room level x ≡ false → IsModest k (level + 1) (inside z) x.body inner →
      IsModest k level z (Loop id x.bounds.least x.bounds.most x.body) (at_loop k false level z x inner)
  modest_kept level z x id inner fit stays h = record {
    deep = let a = h.deep in omega (arith, a);
    size = let a = h.size in omega (arith, a);
    less = h.less;
    work = λ two.
        let a = h.work two in
        let b : busy (Loop id x.bounds.least x.bounds.most x.body) ≡ busy x.body + 1 = cond-false {A = ℕ} (is_idle x.bounds.most x.body) 2 (busy x.body + 1) (busy_one two (is_idle x.bounds.most x.body) refl) in
        omega (arith, a, b);
    leaving = h.leaving;
    calling = h.calling;
    weighing = λ c d le.
        let a = h.weighing c d le in
        let b : 3 + weight_of d inner.code ≤ 3 + weight_of c x.body = omega (arith, a) in
        let m : most_starts x.bounds.most * (3 + weight_of d inner.code) ≤ most_starts x.bounds.most * (3 + weight_of c x.body) = mul-le-mul_left (most_starts x.bounds.most) b in
        omega (arith, m);
    tight = λ two. itself_or_within two (has_loop x.body) refl;
  }
    where
      -- an idle loop doesn't stay
      busy_one : 2 ≤ k → (idle : Bool) → is_idle x.bounds.most x.body ≡ idle → is_idle x.bounds.most x.body ≡ false
      busy_one two false e = e
      busy_one two true e = absurd (true_is_false (sym (idle_taken k x z.room level two fit e) ∙ stays))

      itself_or_within : 2 ≤ k → (outer : Bool) → has_loop x.body ≡ outer → All (IsTight k inner.room) (left_in outer (record { level = level; rolled = x }) inner.left)
      itself_or_within two true e = h.tight two
      itself_or_within two false e =
          All-cons (IsTight k inner.room) (record { level = level; rolled = x }) []
          (tighter k z.room inner.room h.less (record { level = level; rolled = x }) (left_for_want k z.room level x two e stays))
          (All-nil (IsTight k inner.room))

  modest_loop : (takes : Bool) (level : ℕ) (z : Place) (x : Rolled) (id : ℕ) (inner : Became Statement) → level + (depth x.body + 1) ≤ most_depth → is_taken k z.room level x ≡ takes → IsModest k (level + 1) (inside z) x.body inner →
      IsModest k level z (Loop id x.bounds.least x.bounds.most x.body) (at_loop k takes level z x inner)
  modest_loop true level z x id inner fit e h = modest_taken level z x id fit e (is_short k x) refl
  modest_loop false level z x id inner fit e h = modest_kept level z x id inner fit e h

  mutual
    pub modest_of : (level : ℕ) (z : Place) (s : Statement) → level + depth s ≤ most_depth → IsModest k level z s (spread k level z s)
    modest_of level z (Loop id least most body) fit =
        modest_loop (is_taken k z.room level (as_loop id least most body)) level z (as_loop id least most body) id (spread k (level + 1) (inside z) body) fit refl
        (modest_of (level + 1) (inside z) body (omega (arith, fit)))
    modest_of level z (Seq parts) fit =
        let h = all_modest (level + 1) z parts (omega (arith, fit)) in
        record {
          deep = let a = h.deep in omega (arith, a);
          size = let a = h.size in omega (arith, a);
          less = h.less;
          work = λ two. let a = h.work two in omega (arith, a);
          leaving = h.leaving;
          calling = h.calling;
          weighing = λ c d le. let a = h.weighing c d le in omega (arith, a);
          tight = h.tight;
        }
    modest_of level z (If test first other) fit =
        let x = spread k (level + 1) z first in
        let y = spread k (level + 1) (after z x) other in
        let h = modest_of (level + 1) z first (omega (arith, fit)) in
        let i = modest_of (level + 1) (after z x) other (omega (arith, fit)) in
        record {
          deep = let a = h.deep in let b = i.deep in omega (arith, a, b, fit);
          size = let a = h.size in let b = i.size in omega (arith, a, b);
          less = let a = h.less in let b = i.less in omega (arith, a, b);
          work = λ two. let a = h.work two in let b = i.work two in omega (arith, a, b);
          leaving = let a = h.leaving in let b = i.leaving in omega (arith, a, b);
          calling = λ P all. All-append P (callees_of x.code) (callees_of y.code) (h.calling P (All-append_front P (callees_of first) (callees_of other) all)) (i.calling P (All-append_back P (callees_of first) (callees_of other) all));
          weighing = λ c d le. let a = h.weighing c d le in let b = i.weighing c d le in omega (arith, a, b);
          tight = λ two. All-append (IsTight k y.room) x.left y.left (All-weaker (IsTight k x.room) (IsTight k y.room) (tighter k x.room y.room i.less) x.left (h.tight two)) (i.tight two);
        }
    modest_of level z (Block body) fit =
        let h = modest_of (level + 1) z body (omega (arith, fit)) in
        record {
          deep = let a = h.deep in omega (arith, a);
          size = let a = h.size in omega (arith, a);
          less = h.less;
          work = λ two. let a = h.work two in omega (arith, a);
          leaving = let a = h.leaving in omega (arith, a);
          calling = h.calling;
          weighing = λ c d le. let a = h.weighing c d le in omega (arith, a);
          tight = h.tight;
        }
    modest_of level z (Set x e) fit = modest_same level z (Set x e) refl fit
    modest_of level z (Put e) fit = modest_same level z (Put e) refl fit
    modest_of level z (Get x) fit = modest_same level z (Get x) refl fit
    modest_of level z (Keep array i e) fit = modest_same level z (Keep array i e) refl fit
    modest_of level z (Mark m) fit = modest_same level z (Mark m) refl fit
    modest_of level z (Leave d) fit = modest_same level z (Leave d) refl fit
    modest_of level z (Call f values arrays into) fit = modest_same level z (Call f values arrays into) refl fit
    modest_of level z (Return e) fit = modest_same level z (Return e) refl fit

    pub all_modest : (level : ℕ) (z : Place) (parts : Statements) → level + depth_all parts ≤ most_depth → AreModest k level z parts (spread_all k level z parts)
    all_modest level z End fit = record {
      deep = fit;
      size = same_most (0 + 3 * z.room);
      less = same_most z.room;
      work = λ two. refl;
      leaving = same_most 0;
      calling = λ P all. all;
      weighing = λ c d le. same_most 0;
      tight = λ two. All-nil (IsTight k z.room);
    }
    all_modest level z (Then first rest) fit =
        let x = spread k level z first in
        let y = spread_all k level (after z x) rest in
        let h = modest_of level z first (omega (arith, fit)) in
        let i = all_modest level (after z x) rest (omega (arith, fit)) in
        record {
          deep = let a = h.deep in let b = i.deep in omega (arith, a, b);
          size = let a = h.size in let b = i.size in omega (arith, a, b);
          less = let a = h.less in let b = i.less in omega (arith, a, b);
          work = λ two. let a = h.work two in let b = i.work two in omega (arith, a, b);
          leaving = let a = h.leaving in let b = i.leaving in omega (arith, a, b);
          calling = λ P all. All-append P (callees_of x.code) (callees_of_all y.code) (h.calling P (All-append_front P (callees_of first) (callees_of_all rest) all)) (i.calling P (All-append_back P (callees_of first) (callees_of_all rest) all));
          weighing = λ c d le. let a = h.weighing c d le in let b = i.weighing c d le in omega (arith, a, b);
          tight = λ two. All-append (IsTight k y.room) x.left y.left (All-weaker (IsTight k x.room) (IsTight k y.room) (tighter k x.room y.room i.less) x.left (h.tight two)) (i.tight two);
        }
