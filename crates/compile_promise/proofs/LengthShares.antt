-- How long the share lines of a source are.
use Rattle.std.proofs.Common.{◌≡◌, ℕ, suc, ◌+◌, ◌*◌, ◌<◌, ◌≤◌, List, [], ◌∷◌, length, map, Option, Some, None, refl, sym, ap, ◌∙◌, arith}
use Rattle.std.specs.Prelude.{slice_get, slice_index_or, sum_by}
use Rattle.std.proofs.lemmas.List.{get_or-map, get_or_past}
use Rattle.std.proofs.lemmas.List.Sums.{sum_by-cons}
use Rattle.std.proofs.lemmas.Option.{get_or_from_slice_get, slice_get_within}
use Rattle.c_tree.specs.declared.expression.NameId.{NameId}
use Rattle.rv_core.specs.Table.{Table}
use Rattle.code_flow_system.specs.Systems.{System}
use Rattle.code_flow_system.specs.declared.cert.Part.{Part}
use Rattle.high_ir.specs.Tree as high
use Rattle.types_seen.proofs.Lists.{slice_get-some}
use Rattle.low_ir.specs.Code.{Block, Function, Low, Note}
use Rattle.low_ir.specs.Formed.{mark_of, opening}
use Rattle.low_ir.specs.Places.{Assignment, place_blocks, place_function, place_functions, placed}
use Rattle.low_ir.specs.Runs.{block_in}
use Rattle.low_ir.specs.Turns.{mark_in}
use Rattle.lower_budget.proofs.Programs.{distinct_less, total, total_at}
use Rattle.lower_law.specs.Functions.{ComesFrom}
use Rattle.lower_law.specs.Programs.{KeepsProgram}
use Rattle.asm_program.specs.Functions.{PlacedFunction, function_in, no_function}
use Rattle.image_frames.specs.Memories.{Placement}
use Rattle.claims_definition.specs.Listed.{CodeRange, Laid, by_address, code_range, code_ranges, functions_of}
use Rattle.claims_image.specs.Images.{laid_of}
use Rattle.claims_lists.specs.Lists.{range_of}
use Rattle.claims_lists.specs.declared.ranges.CodeRange as lists
use Rattle.simulation_marks.proofs.Marks.{all_laid}
use Rattle.simulation_marks.proofs.Sums.{in_numbers, summed, upto}
use Rattle.code_flow_answer.specs.declared.bounded.Kind.{Kind}
use Rattle.code_flow_answer.specs.declared.bounded.Kind.TheVariants.{Greatest, Empty, Wide, Spent}
use Rattle.report_shares.specs.Shares.{with_sum}
use Rattle.report_laws.specs.Room.{name_length, shares_room}
use Rattle.report_text.specs.declared.entries.Share.{Share}
use Rattle.compile_claims.specs.Shares.{name_by, named, share_of}
use Rattle.compile_report_law.specs.Reported.{AreShared}
use Rattle.compile_names.proofs.Lists.{map_got}
use Rattle.compile_promise.proofs.Distinct.{AreApart, apart_distinct}
use Rattle.compile_promise.proofs.Names.{id_length, ids_length}
use Rattle.compile_claim_limits.proofs.Sums.{by_numbers, summed_last}

-- those with sums, or none
shared_few : (k : Kind) (all shares : List Share) → AreShared k all shares → shares_room shares ≤ shares_room all
shared_few Greatest all shares h = let same = ap shares_room h in omega (arith, same)
shared_few Empty all shares h = let none = ap shares_room h in omega (arith, none)
shared_few (Wide pivot) all shares h = let none = ap shares_room h in omega (arith, none)
shared_few (Spent columns pivots) all shares h = let none = ap shares_room h in omega (arith, none)

-- the number that the opening mark of a function is
abbrev number_in : Option ℕ → ℕ
number_in None = 0
number_in (Some m) = m

abbrev origin : Function ℕ Note → ℕ
origin fn = number_in (opening fn)

opens_same : (a : Assignment) (f : ℕ) (fn : Function ℕ Note) → opening (place_function a f fn) ≡ opening fn
opens_same a f fn = of fn.blocks
  where
    of : (bs : List (Block ℕ Note)) → mark_in (slice_get (place_blocks (a.place f) (a.kept f) 0 bs) 0) ≡ mark_in (slice_get bs 0)
    of [] = refl
    of (b ∷ bs) = refl

module _ (names : List (List ℕ)) (functions : List NameId) where
  -- the line of a range, by its function
  abbrev line_room : Option ℕ → ℕ
  line_room function = 64 + name_length (named names functions function)

  abbrev ranges_room : List CodeRange → ℕ
  ranges_room [] = 0
  ranges_room (r ∷ rs) = 64 + (name_length (named names functions r.function) + ranges_room rs)

  ranges_same : (t : Table) (s : System) (parts : List Part) (rs : List lists.CodeRange) → shares_room (map (λ h. with_sum t s parts h) (map (share_of names functions) rs)) ≡ ranges_room (map range_of rs)
  ranges_same t s parts [] = refl
  ranges_same t s parts (r ∷ rs) = ap (λ n. 64 + (name_length (named names functions r.function) + n)) (ranges_same t s parts rs)

  total_length : (ids : List NameId) → total (map (id_length names) ids) ≡ ids_length names ids
  total_length [] = refl
  total_length (id ∷ ids) = ap (λ n. id_length names id + n) (total_length ids)

  -- the name of a function that the list has
  named_at : (n : ℕ) → n < length functions → name_length (named names functions (Some n)) ≡ slice_index_or (map (id_length names) functions) n 0
  named_at n low = of (slice_get-some functions n low)
    where
      of : (id : NameId) × (slice_get functions n ≡ Some id) → name_length (named names functions (Some n)) ≡ slice_index_or (map (id_length names) functions) n 0
      of (id, e) = ap (λ o. name_length (name_by names functions o)) e ∙ sym (get_or-map (id_length names) functions n id 0 low ∙ ap (id_length names) (get_or_from_slice_get functions n id id e))

  module _ (p : high.Program) (q : Low) (keeps : KeepsProgram p q) (many : length functions ≡ length p.functions) where
    -- the functions of the low program open with different numbers
    one_origin : (i j : ℕ) (f g : Function ℕ Note) → slice_get q.functions i ≡ Some f → slice_get q.functions j ≡ Some g → origin f ≡ origin g → i ≡ j
    one_origin i j f g e k same =
        let from = keeps.functions i f e in
        let other = keeps.functions j g k in
        let number : other.number ≡ from.number = sym (ap number_in other.opens) ∙ (sym same ∙ ap number_in from.opens) in
        let there : mark_of q j 0 ≡ Some from.number = ap (λ fn. mark_in (block_in fn 0)) k ∙ (other.opens ∙ ap (λ n. Some n) number) in
        sym ((keeps.is_low.functions i f e).alone from.number j 0 from.opens there).0

    origins_apart : AreApart (map origin q.functions)
    origins_apart i j n e f =
        let x = map_got origin q.functions i n e in
        let y = map_got origin q.functions j n f in
        one_origin i j x.0 y.0 x.1 y.1 (x.2 ∙ sym y.2)

    low_room : (fns : List (Function ℕ Note)) → ((i : ℕ) (fn : Function ℕ Note) → slice_get fns i ≡ Some fn → ComesFrom p q fn)
        → sum_by (λ (fn : Function ℕ Note). line_room (opening fn)) fns ≡ 64 * length fns + total_at (map (id_length names) functions) (map origin fns)
    low_room [] come = omega arith
    low_room (fn ∷ rest) come =
        let from = come 0 fn refl in
        let inside = slice_get_within p.functions from.number from.function from.there in
        let low : from.number < length functions = omega (arith, inside, many) in
        let one : name_length (named names functions (opening fn)) ≡ slice_index_or (map (id_length names) functions) (origin fn) 0 =
        ap (λ o. name_length (named names functions o)) from.opens ∙ named_at from.number low ∙ ap (λ n. slice_index_or (map (id_length names) functions) n 0) (sym (ap number_in from.opens)) in
        let behind = low_room rest (λ i f e. come (suc i) f e) in
        let all = sum_by-cons (λ (f : Function ℕ Note). line_room (opening f)) fn rest in
        omega (arith, one, behind, all)

    placed_room : (a : Assignment) (f : ℕ) (fns : List (Function ℕ Note)) → sum_by (λ (fn : PlacedFunction). line_room (opening fn)) (place_functions a f fns) ≡ sum_by (λ (fn : Function ℕ Note). line_room (opening fn)) fns
    placed_room a f [] = refl
    placed_room a f (fn ∷ fns) =
        let one = ap line_room (opens_same a f fn) in
        let rest = placed_room a (suc f) fns in
        let over = sum_by-cons (λ (x : PlacedFunction). line_room (opening x)) (place_function a f fn) (place_functions a (suc f) fns) in
        let low = sum_by-cons (λ (x : Function ℕ Note). line_room (opening x)) fn fns in
        omega (arith, one, rest, over, low)

    module _ (a : Assignment) (pl : Placement) where
      abbrev own : Laid
      own = laid_of pl (placed a q)

      abbrev room_at : ℕ → ℕ
      room_at f = line_room (opening (function_in (placed a q) f))

      ranges_summed : (fs : List ℕ) → ranges_room (map (code_range own) fs) ≡ summed room_at fs
      ranges_summed [] = refl
      ranges_summed (f ∷ fs) = let rest = ranges_summed fs in omega (arith, rest)

      -- the start code comes last, and has no name
      last_summed : (n : ℕ) → summed room_at (upto 0 (suc n)) ≡ summed room_at (upto 0 n) + room_at n
      last_summed n = let same : 0 + n ≡ n = omega arith in summed_last room_at 0 n ∙ ap (λ k. summed room_at (upto 0 n) + room_at k) same

      pub ranges_few : ranges_room (code_ranges own) ≤ 64 * length q.functions + (ids_length names functions + 65)
      ranges_few =
          let over = (placed a q).functions in
          let each = ranges_summed (by_address own) ∙ in_numbers room_at own.rows (length (functions_of own)) ∙ ap (λ n. summed room_at (upto 0 n)) (all_laid own) ∙ last_summed (length over) in
          let known : summed room_at (upto 0 (length over)) ≡ sum_by (λ (fn : PlacedFunction). line_room (opening fn)) over = by_numbers (λ (fn : PlacedFunction). line_room (opening fn)) no_function over in
          let start : room_at (length over) ≡ 65 = ap (λ (fn : PlacedFunction). line_room (opening fn)) (get_or_past over (length over) no_function (omega arith)) in
          let same = placed_room a 0 q.functions in
          let low = low_room q.functions keeps.functions in
          let less = distinct_less (map (id_length names) functions) (map origin q.functions) (apart_distinct (map origin q.functions) origins_apart) in
          let all = total_length functions in
          omega (arith, each, known, start, same, low, less, all)

      pub shares_few : (t : Table) (s : System) (parts : List Part) (k : Kind) (rs : List lists.CodeRange) (shares : List Share) → AreShared k (map (λ h. with_sum t s parts h) (map (share_of names functions) rs)) shares → map range_of rs ≡ code_ranges own
          → shares_room shares ≤ 64 * length q.functions + (ids_length names functions + 65)
      shares_few t s parts k rs shares shared is =
          let few = shared_few k (map (λ h. with_sum t s parts h) (map (share_of names functions) rs)) shares shared in
          let same = ranges_same t s parts rs ∙ ap ranges_room is in
          let all = ranges_few in
          omega (arith, few, same, all)
