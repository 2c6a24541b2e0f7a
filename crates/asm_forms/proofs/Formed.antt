-- The chosen forms have room and reach their targets.
use Rattle.std.proofs.Common.{◌≡◌, ℕ, ◌+◌, ◌^◌, ◌<◌, Bool, true, false, List, Result, Ok, Err, IfOk, sym, ap, ◌∙◌, subst, arith, refl, if◌then◌else◌}
use Rattle.asm_items.specs.Placings.{Blocks}
use Rattle.asm_writing.specs.Targets.{starts_in, AreLow}
use Rattle.asm_forms.specs.declared.layouts.Layout.{Layout}
use Rattle.asm_forms.specs.Laid.{HasRoom, IsFormed, IsLaid}
use Rattle.asm_forms.specs.Layouts.{fit, shortened, improved, formed, starts_of}
use Rattle.asm_forms.specs.Regions.{Rows, bases_of, tables_from, functions_size, RoomFrom}
use Rattle.asm_forms.specs.Shorter.{functions_longest, functions_shorter}
use Rattle.asm_forms.specs.Sound.{FunctionsSound}
use Rattle.asm_forms.proofs.RoomLemmas.{bases_room, tables_low}
use Rattle.asm_forms.proofs.SizeLemmas.{functions-longest, functions-shorter, functions_most, functions_sound}
use Rattle.asm_forms.proofs.FitLemmas.{longest_fit}
use Rattle.asm_forms.proofs.LikeLemmas.{formed_like}

-- functions with one longest form have room where one of them has
room_like : (r : Rows) (fs gs : List Blocks) → functions_longest gs ≡ functions_longest fs → HasRoom r fs → HasRoom r gs
room_like r fs gs e h = record {
  flash = subst (λ l. r.flash + functions_size l < 2 ^ 30) (sym e) h.flash;
  scratchpad = subst (λ l. r.scratchpad + functions_size l < 2 ^ 30) (sym e) h.scratchpad;
}

room_shorter : (r : Rows) (fs : List Blocks) → HasRoom r fs → HasRoom r (shortened r fs)
room_shorter r fs = room_like r fs (shortened r fs) (functions-shorter (starts_of r fs) (bases_of r fs) 0 fs)

pub room_longest : (r : Rows) (fs : List Blocks) → HasRoom r fs → HasRoom r (functions_longest fs)
room_longest r fs = room_like r fs (functions_longest fs) (functions-longest fs)

pub room : (r : Rows) (fs : List Blocks) → HasRoom r fs → RoomFrom (bases_of r fs) 0 fs
room r fs h =
    let most = functions_most fs in
    let flash = h.flash in
    let scratchpad = h.scratchpad in
    bases_room r fs (omega arith) (omega arith)

pub low : (r : Rows) (fs : List Blocks) → HasRoom r fs → AreLow (tables_from (bases_of r fs) 0 fs)
low r fs h = tables_low (bases_of r fs) fs (room r fs h)

fits_either : (r : Rows) (fs gs : List Blocks) (b : Bool) → fit r gs ≡ b → fit r fs ≡ true → fit r (if b then gs else fs) ≡ true
fits_either r fs gs true e h = e
fits_either r fs gs false e h = h

improved_fits : (r : Rows) (fs : List Blocks) → fit r fs ≡ true → fit r (improved r fs) ≡ true
improved_fits r fs h = fits_either r fs (shortened r fs) (fit r (shortened r fs)) refl h

either_room : (r : Rows) (fs gs : List Blocks) (b : Bool) → HasRoom r fs → HasRoom r gs → HasRoom r (if b then gs else fs)
either_room r fs gs true h k = k
either_room r fs gs false h k = h

pub improved_room : (r : Rows) (fs : List Blocks) → HasRoom r fs → HasRoom r (improved r fs)
improved_room r fs h = either_room r fs (shortened r fs) (fit r (shortened r fs)) h (room_shorter r fs h)

either_sound : (fs gs : List Blocks) (b : Bool) → FunctionsSound fs → FunctionsSound gs → FunctionsSound (if b then gs else fs)
either_sound fs gs true h k = k
either_sound fs gs false h k = h

pub improved_sound : (r : Rows) (fs : List Blocks) → FunctionsSound fs → FunctionsSound (improved r fs)
improved_sound r fs s = either_sound fs (shortened r fs) (fit r (shortened r fs)) s (functions_sound (starts_of r fs) (bases_of r fs) 0 fs s)

longest_fits : (r : Rows) (fs : List Blocks) → FunctionsSound fs → HasRoom r fs → fit r (functions_longest fs) ≡ true
longest_fits r fs s h =
    let k = room_longest r fs h in
    longest_fit (starts_of r (functions_longest fs)) (bases_of r (functions_longest fs)) 0 fs (low r (functions_longest fs) k) s (room r (functions_longest fs) k)

pub formed_fits : (r : Rows) (fs : List Blocks) → FunctionsSound fs → HasRoom r fs → fit r (formed r fs) ≡ true
formed_fits r fs s h = improved_fits r (improved r (functions_longest fs)) (improved_fits r (functions_longest fs) (longest_fits r fs s h))

either_longest : (fs gs : List Blocks) (b : Bool) → functions_longest gs ≡ functions_longest fs → functions_longest (if b then gs else fs) ≡ functions_longest fs
either_longest fs gs true e = e
either_longest fs gs false e = refl

improved_longest : (r : Rows) (fs : List Blocks) → functions_longest (improved r fs) ≡ functions_longest fs
improved_longest r fs = either_longest fs (shortened r fs) (fit r (shortened r fs)) (functions-shorter (starts_of r fs) (bases_of r fs) 0 fs)

pub formed_longest : (r : Rows) (fs : List Blocks) → functions_longest (formed r fs) ≡ functions_longest fs
formed_longest r fs = improved_longest r (improved r (functions_longest fs)) ∙ improved_longest r (functions_longest fs) ∙ functions-longest fs

pub formed_room : (r : Rows) (fs : List Blocks) → HasRoom r fs → HasRoom r (formed r fs)
formed_room r fs = room_like r fs (formed r fs) (formed_longest r fs)

-- what the parts of a layout say is what its functions say
pub shortened-is : (r : Rows) (fs : List Blocks) (starts : List (List ℕ)) (bases : List ℕ) → starts ≡ tables_from (bases_of r fs) 0 fs → bases ≡ bases_of r fs → functions_shorter (starts_in starts) bases 0 fs ≡ shortened r fs
shortened-is r fs starts bases e b = ap (λ t. functions_shorter (starts_in t) bases 0 fs) e ∙ ap (λ l. functions_shorter (starts_of r fs) l 0 fs) b

pub formed_from : {E : Type 0} (r : Rows) (fs gs : List Blocks) (result : Result Layout E) → gs ≡ improved r (functions_longest fs) → FunctionsSound fs → HasRoom r fs → IfOk result (IsLaid r (improved r gs)) → IfOk result (IsFormed r fs)
formed_from r fs gs (Ok l) e s h k = record {
  laid = subst (λ x. IsLaid r (improved r x) l) e k;
  fits = formed_fits r fs s h;
  like = formed_like r fs;
}
formed_from r fs gs (Err x) e s h k = tt

pub shorter_room : (r : Rows) (fs gs : List Blocks) (starts : List (List ℕ)) (bases : List ℕ) → starts ≡ tables_from (bases_of r fs) 0 fs → bases ≡ bases_of r fs → gs ≡ functions_shorter (starts_in starts) bases 0 fs → HasRoom r fs → HasRoom r gs
shorter_room r fs gs starts bases e b is h = subst (HasRoom r) (sym (is ∙ shortened-is r fs starts bases e b)) (room_shorter r fs h)
