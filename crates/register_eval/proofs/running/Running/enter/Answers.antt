use Rattle.std.proofs.Common.{◌≡◌, ℕ, List, Some, None, ap, drop, length, map, option_map, refl, sym, ◌∙◌}
use Rattle.std.specs.Prelude.{slice_get}
use Rattle.std.proofs.lemmas.Option.{slice_get-map, slice_get_past, slice_get_read}
use Rattle.low_ir.specs.declared.instruction.End.{End}
use Rattle.low_ir.specs.declared.instruction.Instr.{Instr}
use Rattle.low_ir.specs.declared.places.Place.{Place}
use Rattle.low_ir.specs.Effects.{World}
use Rattle.low_ir.specs.Live.{place_of}
use Rattle.low_ir.specs.Places.{File, Placing, place_end, place_in}
use Rattle.low_ir.specs.Runs.{Run, Going}
use Rattle.low_ir.specs.View.{block_of, end_of, instr_of}
use Rattle.register_eval.specs.Laid.{laid_code}
use Rattle.register_eval.specs.Stands.{Stands, running_of}
use Rattle.register_eval.specs.Tables.{table_of}
use Rattle.register_eval.proofs.Placed.{entered, not_entered}
use Rattle.register_eval.proofs.running.Running.enter.Goals as goal

-- a run before the instructions of a block
abbrev at_block : Stands → Placing → List ℕ → End → List Instr → World → Run Place (List ℕ) File
at_block r t masks end is u =
    Going (record { top = record { func = r.top.func; code = laid_code (place_in t) masks (map instr_of is); end = place_end (place_in t) (end_of end); store = r.top.store }; below = r.below; world = u })

pub returns-in-None : goal.returns-in-None
returns-in-None c =
    let n = c.args.number in
    let bs = c.args.function.now.blocks.items in
    let none : slice_get c.deref.result.now n ≡ None = slice_get_past c.deref.result.now n c.in-None.ensures.lookup.3 in
    not_entered (table_of c.args.table) (map block_of bs) n (running_of c.args.self.now)
    (slice_get-map block_of bs n ∙ ap (λ l. option_map block_of (slice_get l n)) (sym c.deref.ensures.value) ∙ ap (option_map block_of) none)

pub returns-in_ok-begin-in-Some : goal.returns-in_ok-begin-in-Some
returns-in_ok-begin-in-Some c =
    let n = c.args.number in
    let t = table_of c.args.table in
    let r = running_of c.args.self.now in
    let bs = c.args.function.now.blocks.items in
    let b = c.in-Some.block.now in
    let got : slice_get c.deref.result.now n ≡ Some b = slice_get_read c.deref.result.now (length c.deref.result.now) n b refl c.in-Some.ensures.lookup.3.0 c.in-Some.ensures.lookup.1 in
    let masks : c.masks_at.result.now ≡ drop (place_of (map block_of bs) n) c.args.table.kept.now = c.masks_at.ensures ∙ ap (λ l. drop (place_of (map block_of l) n) c.args.table.kept.now) c.deref-in-Some.ensures.value in
    entered t (map block_of bs) n r (block_of b) c.masks_at.result.now
    (slice_get-map block_of bs n ∙ ap (λ l. option_map block_of (slice_get l n)) (sym c.deref.ensures.value) ∙ ap (option_map block_of) got)
    masks
    ∙ ap (at_block r t c.masks_at.result.now b.end b.code.items) (sym c.in_ok-begin-in-Some.ensures)
    ∙ ap (λ is. at_block r t c.masks_at.result.now b.end is c.begin.new.self) (sym c.as_slice.ensures.value)
