-- Whether a call fits, by the numbers that the code keeps.
use Rattle.std.proofs.Common.{◌≡◌, ℕ, ◌+◌, ◌-◌, ◌*◌, ◌<◌, ◌≤◌, max, Bool, true, false, length, Option, Some, None, refl, sym, ap, ◌∙◌, arith}
use Rattle.std.specs.Prelude.{nat_le, ◌&&◌}
use Rattle.std.proofs.lemmas.Bool.{le-leb, lt-leb}
use Rattle.wcc_base.specs.Budgets.{most_depth, most_locals, most_operations}
use Rattle.high_ir.specs.Size.{depth, expr_depth, function_nodes, greatest, operations}
use Rattle.high_ir.specs.Tree.{Function}
use Rattle.inliner.specs.declared.measuring.Measure.{Measure}
use Rattle.inliner.specs.declared.used.Used.{Used}
use Rattle.inliner.specs.Budgets.{fits, used_behind, variables}
use Rattle.inliner.specs.Measures.{measured, returns_into, size_into, sizes_of}
use Rattle.inliner.specs.Opening.{Site, call_of, opening}
use Rattle.inliner.proofs.Sizing.{nodes_kept, opening_depth, opening_operations}

and_false : (a b : Bool) → b ≡ false → (a && b) ≡ false
and_false true b e = e
and_false false b e = refl

front_false : (a b : Bool) → a ≡ false → (a && b) ≡ false
front_false a b e = ap (λ x. x && b) e

front_true : (a b : Bool) → a ≡ true → (a && b) ≡ b
front_true a b e = ap (λ x. x && b) e

-- the sizes of a body in the place of a call
pub size_at : (h : Function) (into : Option ℕ) → size_into (sizes_of h) into ≡ measured (returns_into into) h.body
size_at h None = refl
size_at h (Some x) = refl

module _ (limit : ℕ) (used : Used) (around : ℕ) (s : Site) (h : Function) where
  abbrev body : Measure
  body = size_into (sizes_of h) s.into

  abbrev small : Bool
  small = nat_le (function_nodes h) limit

  abbrev few : Bool
  few = nat_le (used.operations + operations (opening s used.next h.body)) (most_operations + operations (call_of s))

  abbrev short : Bool
  short = nat_le (used.bytes + 4 * variables h) most_locals

  abbrev flat : Bool
  flat = nat_le (around + depth (opening s used.next h.body)) most_depth

  counted : operations (opening s used.next h.body) + length s.arrays ≡ operations (call_of s) + 2 + body.operations
  counted = omega (arith, opening_operations s used.next h.body, ap (λ m. m.operations) (size_at h s.into))

  deep : depth (opening s used.next h.body) ≡ max (greatest expr_depth s.values) body.depth + 2
  deep = opening_depth s used.next h.body ∙ ap (λ m. max (greatest expr_depth s.values) m.depth + 2) (sym (size_at h s.into))

  -- a function of more nodes than the limit
  pub too_large : limit ≤ (sizes_of h).whole.nodes → fits limit used around s h ≡ false
  too_large le = front_false small (few && (short && flat)) (lt-leb (function_nodes h) limit (omega (arith, le, nodes_kept h.body)))

  -- more operations than the budget
  pub too_many : most_operations + length s.arrays < used.operations + body.operations + 2 → fits limit used around s h ≡ false
  too_many lt =
      and_false small (few && (short && flat))
      (front_false few (short && flat) (lt-leb (used.operations + operations (opening s used.next h.body)) (most_operations + operations (call_of s)) (omega (arith, lt, counted))))

  -- more bytes than the budget
  pub too_long : most_locals < used.bytes + 4 * variables h → fits limit used around s h ≡ false
  too_long lt = and_false small (few && (short && flat)) (and_false few (short && flat) (front_false short flat (lt-leb (used.bytes + 4 * variables h) most_locals lt)))

  -- what is left is the depth
  pub by_depth : (sizes_of h).whole.nodes < limit → used.operations + body.operations + 2 ≤ most_operations + length s.arrays → used.bytes + 4 * variables h ≤ most_locals → nat_le (around + max (greatest expr_depth s.values) body.depth + 2) most_depth ≡ fits limit used around s h
  by_depth nodes ops bytes =
      let one : small ≡ true = le-leb (function_nodes h) limit (omega (arith, nodes, nodes_kept h.body)) in
      let two : few ≡ true = le-leb (used.operations + operations (opening s used.next h.body)) (most_operations + operations (call_of s)) (omega (arith, ops, counted)) in
      let three : short ≡ true = le-leb (used.bytes + 4 * variables h) most_locals bytes in
      let same : around + max (greatest expr_depth s.values) body.depth + 2 ≡ around + depth (opening s used.next h.body) = omega (arith, deep) in
      ap (λ n. nat_le n most_depth) same
      ∙ sym (front_true small (few && (short && flat)) one ∙ front_true few (short && flat) two ∙ front_true short flat three)

  -- what is used behind the opening
  pub behind_operations : used.operations + body.operations + 2 - length s.arrays ≡ (used_behind used s h).operations
  behind_operations = omega (arith, counted)

  pub behind_made : (next operations bytes : ℕ) → next ≡ used.next + variables h → operations ≡ used.operations + body.operations + 2 - length s.arrays → bytes ≡ used.bytes + 4 * variables h → record { next = next; operations = operations; bytes = bytes } ≡ used_behind used s h
  behind_made next operations bytes first second third =
      let whole : ℕ → ℕ → ℕ → Used = λ x y z. record { next = x; operations = y; bytes = z } in
      ap (λ x. whole x operations bytes) first
      ∙ ap (λ y. whole (used.next + variables h) y bytes) (second ∙ behind_operations)
      ∙ ap (λ z. whole (used.next + variables h) (used_behind used s h).operations z) third
