-- The machine registers that calls keep.
use Rattle.std.specs.Prelude.{ℕ, zero, suc, ◌+◌, ◌*◌, ◌%◌, ◌^◌, ◌&&◌, not, nat_le, bit_or, Bool, false, if◌then◌else◌, List, [], ◌∷◌, ◌++◌, length, replicate, Option, Some, None, slice_index_or, slice_set}
use Rattle.low_ir.specs.declared.places.Place.{Place}
use Rattle.low_ir.specs.declared.places.Place.TheVariants.{Register as InRegister, Slot}
use Rattle.low_ir.specs.Code.{Instr, Do, Call, Block, Note}
use Rattle.low_ir.specs.Places.{machine_registers}
use Rattle.register_allocation.specs.declared.order.Lasting.{Lasting}
use Rattle.register_allocation.specs.Briefs.{names}
use Rattle.register_allocation.specs.Scans.{place_at}

-- by machine register, whose interval in it began last; and the intervals that are still to begin, in order
pub record Sweep : Type 0 where
  pub holders : List (Option Lasting)
  pub left : List Lasting

-- a call at the place p whose value goes to d keeps the register of x
abbrev pub keeps : ℕ → Option ℕ → Option Lasting → Bool
keeps p d None = false
keeps p d (Some x) = nat_le p x.last && not (names d x.register)

-- the mask of those below n
unfoldable pub mask_below : ℕ → Option ℕ → List (Option Lasting) → ℕ → ℕ
mask_below p d hs zero = 0
mask_below p d hs (suc n) = if keeps p d (slice_index_or hs n None) then bit_or (mask_below p d hs n) (1 * 2 ^ n % 2 ^ 32) else mask_below p d hs n

-- what begins in a place has it
abbrev pub held_at : Place → Lasting → List (Option Lasting) → List (Option Lasting)
held_at (InRegister q) x hs = slice_set hs q (Some x)
held_at (Slot k) x hs = hs

module _ (places : List Place) where
  abbrev pub held_by : Lasting → List (Option Lasting) → List (Option Lasting)
  held_by x hs = held_at (place_at places x.register) x hs

  -- those that begin at the place p or before have begun
  abbrev pub begun_from : ℕ → List (Option Lasting) → List Lasting → Sweep
  begun_from p hs [] = record { holders = hs; left = [] }
  begun_from p hs (x ∷ xs) = if nat_le x.first p then begun_from p (held_by x hs) xs else record { holders = hs; left = x ∷ xs }

  abbrev pub begun : ℕ → Sweep → Sweep
  begun p w = begun_from p w.holders w.left

  abbrev pub instr_mask : ℕ → Sweep → Instr ℕ Note → ℕ
  instr_mask p w (Do i) = 0
  instr_mask p w (Call d f args note) = mask_below p d (begun p w).holders machine_registers

  abbrev pub instr_swept : ℕ → Sweep → Instr ℕ Note → Sweep
  instr_swept p w (Do i) = w
  instr_swept p w (Call d f args note) = begun p w

  -- a mask for each place of a block
  abbrev pub code_masks : ℕ → Sweep → List (Instr ℕ Note) → List ℕ
  code_masks p w [] = 0 ∷ []
  code_masks p w (i ∷ is) = instr_mask p w i ∷ code_masks (suc p) (instr_swept p w i) is

  abbrev pub code_swept : ℕ → Sweep → List (Instr ℕ Note) → Sweep
  code_swept p w [] = w
  code_swept p w (i ∷ is) = code_swept (suc p) (instr_swept p w i) is

  abbrev pub blocks_masks : ℕ → Sweep → List (Block ℕ Note) → List ℕ
  blocks_masks p w [] = []
  blocks_masks p w (b ∷ bs) = code_masks p w b.code ++ blocks_masks (p + suc (length b.code)) (code_swept p w b.code) bs

-- nothing has begun
abbrev pub unswept : List Lasting → Sweep
unswept ls = record { holders = replicate machine_registers None; left = ls }
