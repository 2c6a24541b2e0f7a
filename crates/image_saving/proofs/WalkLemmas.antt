-- What is found on a walk over code is what the placed code has.
use Rattle.std.proofs.Common.{◌≡◌, ℕ, zero, suc, ◌+◌, Bool, true, false, List, [], ◌∷◌, ◌++◌, map, length, refl, sym, ap, ◌∙◌, if◌then◌else◌}
use Rattle.std.specs.Prelude.{Option, Some, None, option_map, slice_index_or, slice_set}
use Rattle.std.specs.List.{flat_map}
use Rattle.std.specs.Option.{option_to_list}
use Rattle.std.proofs.lemmas.List.{append-nil}
use Rattle.low_ir.specs.declared.places.Place.{Place}
use Rattle.low_ir.specs.declared.places.Place.TheVariants.{Register as InRegister, Slot}
use Rattle.low_ir.specs.Code.{Plain, Set, Operate, Point, Load, Store, Put, Get, Instr, Do, Call, Block, Function, Note, Low}
use Rattle.low_ir.specs.Effects.{dest, is_member}
use Rattle.low_ir.specs.Formed.{written_by, callee}
use Rattle.low_ir.specs.Places.{Assignment, Placing, assignment, Placed, place_plain, place_instr, place_code, place_blocks, place_function, place_functions, placed}
use Rattle.asm_program.specs.Emission.{registers_among, kept_among}
use Rattle.asm_program.specs.Functions.{no_function}
use Rattle.image_frames.specs.Registers.{Table, no_registers, marked, table_of}
use Rattle.image_frames.specs.Needs.{parameters_of, writes_of, block_writes, function_writes, Site, code_sites, blocks_sites, sites_homes, outline_of, outlines_of}
use Rattle.image_frames.proofs.TableLemmas.{marked_append}
use Rattle.image_saving.specs.Tables.{kept_list, places_marked, kept_marked}
use Rattle.image_saving.specs.Walks.{parameters_from, mask_at, passed_marked, result_marked, code_marked, blocks_marked, code_calls, blocks_call, homes_marked, calls_in, outline_in, outlines_from}

pub places-marked : (t : Table) (ps : List Place) → places_marked t ps ≡ marked t (registers_among ps)
places-marked t [] = refl
places-marked t (InRegister q ∷ ps) = places-marked (slice_set t q true) ps
places-marked t (Slot k ∷ ps) = places-marked t ps

kept-marked : (t : Table) (kept : List ℕ) (ps : List Place) → kept_marked t kept ps ≡ marked t (kept_among ps kept)
kept-marked t kept [] = refl
kept-marked t kept (InRegister q ∷ ps) = by (is_member kept q) (kept-marked (slice_set t q true) kept ps) (kept-marked t kept ps)
  where
    by : (b : Bool) → kept_marked (slice_set t q true) kept ps ≡ marked (slice_set t q true) (kept_among ps kept) → kept_marked t kept ps ≡ marked t (kept_among ps kept)
        → kept_marked (if b then slice_set t q true else t) kept ps ≡ marked t (if b then q ∷ kept_among ps kept else kept_among ps kept)
    by true h k = h
    by false h k = k
kept-marked t kept (Slot k ∷ ps) = kept-marked t kept ps

module _ (pls : List Placing) (ps : List (List Place)) (p : Placed) (same : (g : ℕ) → slice_index_or ps g [] ≡ parameters_of p g) where
  abbrev a : Assignment
  a = assignment pls

  module _ (f : ℕ) where
    kept_is : (at : ℕ) → kept_list (mask_at pls f at) ≡ a.kept f at
    unfolding kept_list
    kept_is at = refl

    abbrev result : Option ℕ → List Place
    result o = option_to_list (option_map (a.place f) o)

    result_is : (t : Table) (o : Option ℕ) (qs : List Place) → places_marked (result_marked pls f t o) qs ≡ places_marked t (result o ++ qs)
    result_is t None qs = refl
    result_is t (Some r) qs = refl

    dest_is : (j : Plain ℕ) → dest (place_plain (a.place f) j) ≡ option_map (a.place f) (dest j)
    dest_is (Set d x) = refl
    dest_is (Operate operator d x y) = refl
    dest_is (Point d b) = refl
    dest_is (Load kind d b) = refl
    dest_is (Store kind b x) = refl
    dest_is (Put x) = refl
    dest_is (Get d) = refl

    instr_is : (t : Table) (at : ℕ) (i : Instr ℕ Note) → passed_marked ps (result_marked pls f t (written_by i)) (callee i) ≡ marked t (writes_of p (place_instr (a.place f) (a.kept f) at i))
    instr_is t at (Do j) =
        result_is t (dest j) [] ∙ (places-marked t (result (dest j) ++ []) ∙ ap (λ o. marked t (registers_among (option_to_list o ++ []))) (sym (dest_is j)) ∙ tail (option_to_list (dest (place_plain (a.place f) j))))
      where
        tail : (xs : List Place) → marked t (registers_among (xs ++ [])) ≡ marked t (registers_among xs)
        tail xs = ap (λ ys. marked t (registers_among ys)) (append-nil xs)
    instr_is t at (Call d g args note) =
        result_is t d (slice_index_or ps g []) ∙ (places-marked t (result d ++ slice_index_or ps g []) ∙ ap (λ qs. marked t (registers_among (result d ++ qs))) (same g))

    code_is : (t : Table) (at : ℕ) (is : List (Instr ℕ Note)) → code_marked pls f ps t is ≡ marked t (block_writes p (place_code (a.place f) (a.kept f) at is))
    code_is t at [] = refl
    code_is t at (i ∷ is) =
        ap (λ u. code_marked pls f ps u is) (instr_is t at i)
        ∙ (code_is (marked t (writes_of p (place_instr (a.place f) (a.kept f) at i))) (suc at) is
        ∙ sym (marked_append t (writes_of p (place_instr (a.place f) (a.kept f) at i)) (block_writes p (place_code (a.place f) (a.kept f) (suc at) is))))

    blocks_are : (t : Table) (at : ℕ) (bs : List (Block ℕ Note)) → blocks_marked pls f ps t bs ≡ marked t (flat_map (λ (b : Block Place (List ℕ)). block_writes p b.code) (place_blocks (a.place f) (a.kept f) at bs))
    blocks_are t at [] = refl
    blocks_are t at (b ∷ bs) =
        ap (λ u. blocks_marked pls f ps u bs) (code_is t at b.code)
        ∙ (blocks_are (marked t (block_writes p (place_code (a.place f) (a.kept f) at b.code))) (at + suc (length b.code)) bs
        ∙ sym (marked_append t (block_writes p (place_code (a.place f) (a.kept f) at b.code)) (flat_map (λ (c : Block Place (List ℕ)). block_writes p c.code) (place_blocks (a.place f) (a.kept f) (at + suc (length b.code)) bs))))

    calls_are : (at : ℕ) (is : List (Instr ℕ Note)) → code_calls pls f at is ≡ code_sites (place_code (a.place f) (a.kept f) at is)
    calls_are at [] = refl
    calls_are at (Do j ∷ is) = calls_are (suc at) is
    calls_are at (Call d g args note ∷ is) =
        ap (λ ks. record { callee = g; kept = ks } ∷ code_calls pls f (suc at) is) (kept_is at) ∙ ap (λ ss. record { callee = g; kept = a.kept f at } ∷ ss) (calls_are (suc at) is)

    all_calls : (at : ℕ) (bs : List (Block ℕ Note)) → blocks_call pls f at bs ≡ blocks_sites (place_blocks (a.place f) (a.kept f) at bs)
    all_calls at [] = refl
    all_calls at (b ∷ bs) = ap (λ ss. ss ++ blocks_call pls f (at + suc (length b.code)) bs) (calls_are at b.code) ∙ ap (λ ss. code_sites (place_code (a.place f) (a.kept f) at b.code) ++ ss) (all_calls (at + suc (length b.code)) bs)

    homes_are : (t : Table) (ss : List Site) → homes_marked ps t ss ≡ marked t (sites_homes p ss)
    homes_are t [] = refl
    homes_are t (s ∷ ss) =
        ap (λ qs. homes_marked ps (kept_marked t s.kept qs) ss) (same s.callee)
        ∙ (ap (λ u. homes_marked ps u ss) (kept-marked t s.kept (parameters_of p s.callee))
        ∙ (homes_are (marked t (kept_among (parameters_of p s.callee) s.kept)) ss
        ∙ sym (marked_append t (kept_among (parameters_of p s.callee) s.kept) (sites_homes p ss))))

    outline_is : (fn : Function ℕ Note) → outline_in pls f ps fn ≡ outline_of p (place_function a f fn)
    outline_is fn =
        ap (λ w. record { written = w; passed = places_marked no_registers (map (a.place f) fn.parameters); housed = homes_marked ps (places_marked no_registers (map (a.place f) fn.parameters)) (calls_in pls f fn); sites = calls_in pls f fn }) (blocks_are no_registers 0 fn.blocks)
        ∙ (ap (λ q. record { written = function_writes_table; passed = q; housed = homes_marked ps q (calls_in pls f fn); sites = calls_in pls f fn }) (places-marked no_registers (map (a.place f) fn.parameters))
        ∙ (ap (λ ss. record { written = function_writes_table; passed = parameters; housed = homes_marked ps parameters ss; sites = ss }) (all_calls 0 fn.blocks)
        ∙ ap (λ h. record { written = function_writes_table; passed = parameters; housed = h; sites = sites }) (homes_are parameters sites ∙ sym (marked_append no_registers (registers_among (map (a.place f) fn.parameters)) (sites_homes p sites)))))
      where
        function_writes_table : Table
        function_writes_table = table_of (function_writes p (place_function a f fn))

        parameters : Table
        parameters = table_of (registers_among (map (a.place f) fn.parameters))

        sites : List Site
        sites = blocks_sites (place_function a f fn).blocks

  pub outlines_are : (k : ℕ) (fns : List (Function ℕ Note)) → outlines_from pls ps k fns ≡ map (outline_of p) (place_functions a k fns)
  outlines_are k [] = refl
  outlines_are k (fn ∷ fns) = ap (λ o. o ∷ outlines_from pls ps (suc k) fns) (outline_is k fn) ∙ ap (λ os. outline_of p (place_function a k fn) ∷ os) (outlines_are (suc k) fns)

parameters_are : (a : Assignment) (k : ℕ) (fns : List (Function ℕ Note)) (g : ℕ) → slice_index_or (parameters_from a k fns) g [] ≡ (slice_index_or (place_functions a k fns) g no_function).parameters
parameters_are a k [] g = refl
parameters_are a k (fn ∷ fns) zero = refl
parameters_are a k (fn ∷ fns) (suc g) = parameters_are a (suc k) fns g

pub outlines_found : (pls : List Placing) (low : Low) → outlines_from pls (parameters_from (assignment pls) 0 low.functions) 0 low.functions ≡ outlines_of (placed (assignment pls) low)
outlines_found pls low = outlines_are pls (parameters_from (assignment pls) 0 low.functions) (placed (assignment pls) low) (parameters_are (assignment pls) 0 low.functions) 0 low.functions
