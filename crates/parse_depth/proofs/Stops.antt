-- Where the newest part is no deeper than what stands beside it, nothing gets deeper; and what is beneath is within the bound too.
use Rattle.std.proofs.Common.{◌≡◌, refl, subst, ℕ, ◌+◌, ◌≤◌, ◌<◌, max, Bool, true, false, arith}
use Rattle.std.specs.Prelude.{nat_le}
use Rattle.std.proofs.lemmas.Bool.Decides.{nat_tests}
use Rattle.parse_begun.specs.declared.begun.Braces as braces
use Rattle.parse_begun.specs.declared.begun.Head as heads
use Rattle.parse_begun.specs.declared.begun.Proto as protos
use Rattle.parse_begun.specs.declared.begun.Stack as stacks
use Rattle.parse_begun.specs.Depths.{braces_depth, scope_depth, head_depth, proto_depth, stack_depth}
use Rattle.parse_depth.specs.Known.{braces_known, scope_known, objects_known, head_known, proto_known, stack_known, items_known, among_known}
use Rattle.parse_depth.proofs.Knowns.{braces_grow, braces_within, scope_within, head_within, proto_within, stack_within}

first_of : (a d : ℕ) → d ≤ a → a ≡ max a d
first_of a d h = omega (arith, h)

pub items_stop : (braces : braces.Braces) (a d : ℕ) → d ≤ a → braces_depth braces a ≤ 256 → braces_depth braces (max a d) ≤ 256
items_stop braces a d h k = subst (λ (n : ℕ). braces_depth braces n ≤ 256) (first_of a d h) k

pub items_go : (braces : braces.Braces) (a : ℕ) → braces_depth braces a ≤ 256 → braces_known braces ≤ 256
items_go braces a h = let e = braces_within braces a in omega (arith, e, h)

pub among_stop : (braces : braces.Braces) (d e : ℕ) → 3 ≤ d → among_known braces d e ≤ 256 → braces_depth braces d ≤ 256
among_stop braces d e h k = by_test (nat_le 3 d) refl (omega (arith, k))
  where
    by_test : (b : Bool) → nat_le 3 d ≡ b → items_known b braces d ≤ 256 → braces_depth braces d ≤ 256
    by_test true e k = k
    by_test false e k = absurd (grind (arith, nat_tests))

-- items no deeper than those before the last
pub before_stop : (braces : braces.Braces) (d e : ℕ) → 1 ≤ e → d ≤ e → among_known braces d e ≤ 256 → braces_depth braces d ≤ 256
before_stop braces d e g h k = by_test (nat_le 1 e) refl (omega (arith, k))
  where
    by_test : (b : Bool) → nat_le 1 e ≡ b → items_known b braces e ≤ 256 → braces_depth braces d ≤ 256
    by_test true is k = let m = braces_grow braces d e h in omega (arith, m, k)
    by_test false is k = absurd (grind (arith, nat_tests))

pub among_go : (braces : braces.Braces) (d e : ℕ) → d < 3 → among_known braces d e ≤ 256 → braces_known braces ≤ 256
among_go braces d e h k = by_test (nat_le 3 d) refl (omega (arith, k))
  where
    by_test : (b : Bool) → nat_le 3 d ≡ b → items_known b braces d ≤ 256 → braces_known braces ≤ 256
    by_test true e k = absurd (grind (arith, nat_tests))
    by_test false e k = k

pub objects_stop : (head : heads.Head) (d : ℕ) → 2 ≤ head.objects.depth → d ≤ head.objects.depth → head_known head ≤ 256 → head_depth head d ≤ 256
objects_stop head d g h k = by_test (nat_le 2 head.objects.depth) refl k
  where
    by_test : (b : Bool) → nat_le 2 head.objects.depth ≡ b → objects_known b head.scope head.objects.depth ≤ 256 → head_depth head d ≤ 256
    by_test true e k = subst (λ (n : ℕ). scope_depth head.scope (n + 1) ≤ 256) (first_of head.objects.depth d h) k
    by_test false e k = absurd (grind (arith, nat_tests))

pub objects_go : (head : heads.Head) → head_known head ≤ 256 → scope_known head.scope ≤ 256
objects_go head k = by_test (nat_le 2 head.objects.depth) k
  where
    by_test : (b : Bool) → objects_known b head.scope head.objects.depth ≤ 256 → scope_known head.scope ≤ 256
    by_test true k = let e = scope_within head.scope (head.objects.depth + 1) in omega (arith, e, k)
    by_test false k = k

pub params_stop : (proto : protos.Proto) (a d : ℕ) → d ≤ a → proto_depth proto a ≤ 256 → proto_depth proto (max a d) ≤ 256
params_stop proto a d h k = subst (λ (n : ℕ). proto_depth proto n ≤ 256) (first_of a d h) k

pub params_go : (proto : protos.Proto) (a : ℕ) → proto_depth proto a ≤ 256 → proto_known proto ≤ 256
params_go proto a h = let e = proto_within proto a in omega (arith, e, h)

pub values_stop : (head : heads.Head) (s a d : ℕ) → d ≤ a → head_depth head (max s a + 1) ≤ 256 → head_depth head (max s (max a d) + 1) ≤ 256
values_stop head s a d h k = subst (λ (n : ℕ). head_depth head (max s n + 1) ≤ 256) (first_of a d h) k

pub values_go : (head : heads.Head) (n : ℕ) → head_depth head n ≤ 256 → head_known head ≤ 256
values_go head n h = let e = head_within head n in omega (arith, e, h)

pub arguments_stop : (under : stacks.Stack) (a d : ℕ) → d ≤ a → stack_depth under (a + 1) ≤ 256 → stack_depth under (max a d + 1) ≤ 256
arguments_stop under a d h k = subst (λ (n : ℕ). stack_depth under (n + 1) ≤ 256) (first_of a d h) k

pub arguments_go : (under : stacks.Stack) (a : ℕ) → stack_depth under (a + 1) ≤ 256 → stack_known under ≤ 256
arguments_go under a h = let e = stack_within under (a + 1) in omega (arith, e, h)
