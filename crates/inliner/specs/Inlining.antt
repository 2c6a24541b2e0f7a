-- A program with calls opened: function by function, callees first.
use Rattle.std.specs.Prelude.{ℕ, zero, suc, ◌+◌, ◌-◌, ◌==◌, if◌then◌else◌, List, [], ◌∷◌, Option, Some, None, slice_get, slice_set}
use Rattle.std.specs.List.{flat_map, range_with_len}
use Rattle.high_ir.specs.Size.{greatest}
use Rattle.high_ir.specs.Tree.{Function, Program}
use Rattle.high_pass.specs.Listing.{Listing}
use Rattle.high_again.specs.Same.{same_listing}
use Rattle.high_renumber.specs.Numbered.{copies_in, renumbered}
use Rattle.inliner.specs.declared.used.Used.{Used}
use Rattle.inliner.specs.Budgets.{used_by, variables}
use Rattle.inliner.specs.Walking.{Walked, opened}

-- the functions as far as they are done, and what is used of the budgets
pub record Making : Type 0 where
  pub functions : List Function
  pub used : Used

-- what is used at the beginning of a function
abbrev pub used_in : Used → Function → Used
used_in used h = record { next = variables h; operations = used.operations; bytes = used.bytes }

-- a function with another body and more variables
abbrev pub with_body : Function → Walked → Function
with_body h w = record { values = h.values; arrays = h.arrays; locals = w.used.next - h.values; rank = h.rank; body = w.statement }

abbrev pub put_back : Making → ℕ → Function → Walked → Making
put_back m f h w = record { functions = slice_set m.functions f (with_body h w); used = w.used }

module _ (limit : ℕ) where
  abbrev pub after_function : Making → ℕ → Option Function → Making
  after_function m f None = m
  after_function m f (Some h) = put_back m f h (opened limit m.functions 0 h.body (used_in m.used h))

  abbrev pub after : Making → ℕ → Making
  after m f = after_function m f (slice_get m.functions f)

  abbrev pub after_all : Making → List ℕ → Making
  after_all m [] = m
  after_all m (f ∷ fs) = after_all (after m f) fs

-- the numbers of the functions of a rank, counted from a number on
abbrev pub of_rank : (rank from : ℕ) → List Function → List ℕ
of_rank rank from [] = []
of_rank rank from (f ∷ fs) = if f.rank == rank then from ∷ of_rank rank (from + 1) fs else of_rank rank (from + 1) fs

-- all functions, by their ranks: callees come before their callers
abbrev pub by_rank : List Function → List ℕ
by_rank fs = flat_map (λ rank. of_rank rank 0 fs) (range_with_len 0 (suc (greatest (λ f. f.rank) fs)))

abbrev pub begun : Program → Making
begun p = record { functions = p.functions; used = used_by p 0 }

-- all functions are gone through so many times
abbrev pub swept : (limit : ℕ) → Program → (sweeps : ℕ) → Making
swept limit p zero = begun p
swept limit p (suc n) = after_all limit (swept limit p n) (by_rank p.functions)

-- the program with its calls opened, where marks and loops still have the numbers of those that they are copies of
abbrev pub opened_program : (limit : ℕ) → Program → (sweeps : ℕ) → Program
opened_program limit p n = record { functions = (swept limit p n).functions; objects = p.objects; main = p.main; marks = p.marks; loops = p.loops }

-- where no function was gone through, the program stays as it is
abbrev pub inlined : (limit : ℕ) → Program → (sweeps : ℕ) → Program
inlined limit p n = if n == 0 then p else renumbered (opened_program limit p n)

abbrev pub copies_of_inlined : (limit : ℕ) → Program → (sweeps : ℕ) → Listing
copies_of_inlined limit p n = if n == 0 then same_listing p else copies_in (opened_program limit p n)
