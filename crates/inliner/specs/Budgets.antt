-- What is used of the budgets of a program, and which calls may be opened with that.
use Rattle.std.specs.Prelude.{ℕ, ◌+◌, ◌-◌, ◌*◌, nat_le, Bool, false, ◌&&◌, List, Option, Some, None, slice_get}
use Rattle.wcc_base.specs.Budgets.{most_depth, most_locals, most_operations}
use Rattle.high_ir.specs.Size.{depth, function_nodes, local_bytes, operations, program_operations}
use Rattle.high_ir.specs.Tree.{Function, Program}
use Rattle.inliner.specs.declared.used.Used.{Used}
use Rattle.inliner.specs.Opening.{Site, call_of, opening}

-- how many variables a function has
abbrev pub variables : Function → ℕ
variables h = h.values + h.locals

-- a function of at most so many nodes, whose body passes no budget in the place of a call that so many statements stand around
abbrev pub fits : (limit : ℕ) → Used → (around : ℕ) → Site → Function → Bool
fits limit used around s h =
    nat_le (function_nodes h) limit
    && (nat_le (used.operations + operations (opening s used.next h.body)) (most_operations + operations (call_of s))
    && (nat_le (used.bytes + 4 * variables h) most_locals
    && nat_le (around + depth (opening s used.next h.body)) most_depth))

-- a call of a function that is not there is never opened
abbrev pub fits_any : (limit : ℕ) → Used → (around : ℕ) → Site → Option Function → Bool
fits_any limit used around s None = false
fits_any limit used around s (Some h) = fits limit used around s h

abbrev pub may_open : (limit : ℕ) → List Function → Used → (around : ℕ) → Site → Bool
may_open limit fs used around s = fits_any limit used around s (slice_get fs s.function)

-- what is used behind an opening: operations in the place of those of the call, and variables
abbrev pub used_behind : Used → Site → Function → Used
used_behind used s h = record {
  next = used.next + variables h;
  operations = used.operations + operations (opening s used.next h.body) - operations (call_of s);
  bytes = used.bytes + 4 * variables h;
}

-- what a program uses, and the next variable of a function
abbrev pub used_by : Program → (next : ℕ) → Used
used_by p next = record { next = next; operations = program_operations p; bytes = local_bytes p }
