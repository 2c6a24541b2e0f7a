-- The loops of a low program are those of the functions that it comes from, and its places keep them.
use Rattle.std.proofs.Common.{◌≡◌, ℕ, List, sym, subst, All}
use Rattle.std.specs.Prelude.{Some, slice_get, slice_index_or}
use Rattle.std.proofs.lemmas.Option.{get_or_from_slice_get, slice_get-get_or, slice_get_within}
use Rattle.high_ir.specs.Standing.{Bounded, loops_in, loops_of}
use Rattle.high_ir.specs.Tree as high
use Rattle.high_pass.proofs.Elements.{All-flat_map_back, All-map_back}
use Rattle.lower_budget.specs.Costs.{bounded}
use Rattle.low_ir.specs.Code.{Function, Loop, Low, Note, Program}
use Rattle.low_ir.specs.Places.{Assignment, placed}
use Rattle.lower_law.specs.Programs.{KeepsProgram}
use Rattle.register_places.proofs.Ways.{of_function}
use Rattle.compile_capacity.specs.Turns.{IsKeepable, HighTurns, LowTurns}

-- what holds of each element holds of one that is there
at : {A : Type 0} (P : A → Type 0) (xs : List A) (k : ℕ) (x : A) → All P xs → slice_get xs k ≡ Some x → P x
at P xs k x all there = subst P (get_or_from_slice_get xs k x x there) (all k x (slice_get_within xs k x there))

module _ (P : Bounded → Type 0) where
  -- of each loop of a low program
  abbrev pub EachLoop : {R K : Type 0} → Program R K → Type 0
  EachLoop {R} {K} q = All (λ (fn : Function R K). All (λ (l : Loop). P (bounded l)) fn.loops) q.functions

  pub lowered_each : (p : high.Program) (q : Low) → KeepsProgram p q → All P (loops_in p.functions) → EachLoop q
  lowered_each p q keeps all k d lt =
      let fn = slice_index_or q.functions k d in
      let from = keeps.functions k fn (slice_get-get_or q.functions k d lt) in
      let each = All-flat_map_back P (λ (f : high.Function). loops_of f.body) p.functions all in
      let own = at (λ (f : high.Function). All P (loops_of f.body)) p.functions from.number from.function each from.there in
      All-map_back P bounded fn.loops (subst (λ ls. All P ls) (sym from.loops) own)

  pub placed_each : (a : Assignment) (q : Low) → EachLoop q → EachLoop (placed a q)
  placed_each a q all k d lt =
      let fn = slice_index_or (placed a q).functions k d in
      let h = of_function a 0 q.functions k fn (slice_get-get_or (placed a q).functions k d lt) in
      subst (λ ls. All (λ (l : Loop). P (bounded l)) ls) h.loops (at (λ (f : Function ℕ Note). All (λ (l : Loop). P (bounded l)) f.loops) q.functions k h.fn all h.there)

pub lowered_kept : (p : high.Program) (q : Low) → KeepsProgram p q → HighTurns p → LowTurns q
lowered_kept p q keeps all = lowered_each IsKeepable p q keeps all

pub placed_kept : (a : Assignment) (q : Low) → LowTurns q → LowTurns (placed a q)
placed_kept a q all = placed_each IsKeepable a q all
