-- A scan over the registers in the order in which their intervals begin.
use Rattle.std.specs.Prelude.{◌≡◌, ◌≢◌, ◌⊎◌, ℕ, suc, ◌+◌, ◌<◌, nat_lt, Bool, true, false, List, length, replicate, Option, Some, None, Contains, slice_index_or, slice_set}
use Rattle.low_ir.specs.declared.places.Place.{Place}
use Rattle.low_ir.specs.declared.places.Place.TheVariants.{Register as InRegister, Slot}
use Rattle.low_ir.specs.Code.{Function, Note}
use Rattle.low_ir.specs.Live.{Has}
use Rattle.low_ir.specs.Places.{machine_registers, result_register}
use Rattle.low_ir.specs.Spacing.{is_inside}
use Rattle.register_allocation.specs.declared.order.Lasting.{Lasting}
use Rattle.register_allocation.specs.declared.choice.Choice.{Choice}
use Rattle.register_allocation.specs.declared.choice.Choice.TheVariants.{Free, Instead, InSlot}
use Rattle.register_allocation.specs.Briefs.{IsBrief}
use Rattle.register_allocation.specs.Spills.{AreDistinct}
use Rattle.register_allocation.specs.Orders.{AreApart, Covers, IsOver}

-- the place of each register so far; by machine register, who got it last; and how many slots there are
pub record Scan : Type 0 where
  pub places : List Place
  pub holders : List (Option Lasting)
  pub slots : ℕ

abbrev pub place_at : List Place → ℕ → Place
place_at places v = slice_index_or places v (Slot v)

abbrev pub holder : Scan → ℕ → Option Lasting
holder s q = slice_index_or s.holders q None

-- a machine register is free for what begins at a place where the interval of its holder ended before
abbrev pub is_over : ℕ → Option Lasting → Bool
is_over p None = true
is_over p (Some x) = nat_lt x.last p

abbrev pub is_free : Scan → ℕ → ℕ → Bool
is_free s p q = is_over p (holder s q)

abbrev pub AllTaken : Scan → ℕ → Type 0
AllTaken s p = (q : ℕ) → q < machine_registers → is_free s p q ≡ false

-- a machine register that can hold a register: the result register only what is brief
abbrev pub CanHold : Function ℕ Note → ℕ → Lasting → Type 0
CanHold fn q x = (q < machine_registers) ⊎ ((q ≡ result_register) × IsBrief fn x)

-- a machine register that is free; or where none is that lasts, one that is taken from its holder, or a slot
abbrev pub IsChoice : Function ℕ Note → Scan → Lasting → Choice → Type 0
IsChoice fn s x (Free q) = CanHold fn q x × (is_free s x.first q ≡ true)
IsChoice fn s x (Instead q) = (q < machine_registers) × AllTaken s x.first
IsChoice fn s x InSlot = AllTaken s x.first

abbrev pub given : ℕ → Lasting → Scan → Scan
given q x s = record { places = slice_set s.places x.register (InRegister q); holders = slice_set s.holders q (Some x); slots = s.slots }

-- with a new slot
abbrev pub spilled : ℕ → Scan → Scan
spilled v s = record { places = slice_set s.places v (Slot s.slots); holders = s.holders; slots = s.slots + 1 }

-- the holder of a machine register gets a slot
abbrev pub evicted_by : ℕ → Option Lasting → Scan → Scan
evicted_by q None s = s
evicted_by q (Some y) s = record { places = slice_set s.places y.register (Slot s.slots); holders = slice_set s.holders q None; slots = s.slots + 1 }

abbrev pub evicted : ℕ → Scan → Scan
evicted q s = evicted_by q (holder s q) s

abbrev pub followed : Choice → Lasting → Scan → Scan
followed (Free q) x s = given q x s
followed (Instead q) x s = given q x (evicted q s)
followed InSlot x s = spilled x.register s

-- no register has a place, which is then any machine register
abbrev pub unplaced : ℕ → Scan
unplaced n = record { places = replicate n (InRegister 0); holders = replicate (suc result_register) None; slots = 0 }

-- registers whose intervals cover p, more than there are machine registers
pub record AreCrowded (all : List Lasting) (p : ℕ) : Type 0 where
  pub registers : List ℕ
  pub many : machine_registers < length registers
  pub distinct : AreDistinct registers
  pub cover : (v : ℕ) → Has v registers → (y : Lasting) × Contains all y × (y.register ≡ v) × Covers y p

abbrev pub place_of : Scan → Lasting → Place
place_of s x = place_at s.places x.register

-- of all these, those that are done have places
pub record Scanned (fn : Function ℕ Note) (n : ℕ) (all done : List Lasting) (s : Scan) : Type 0 where
  pub size : length s.places ≡ n
  pub machine : length s.holders ≡ suc result_register
  pub apart : (x y : Lasting) → Contains done x → Contains done y → x.register ≢ y.register → place_of s x ≡ place_of s y → AreApart x y
  pub brief : (x : Lasting) → Contains done x → place_of s x ≡ InRegister result_register → IsBrief fn x
  -- who has a machine register, or had it before another one that began behind the end of its interval
  pub held : (x : Lasting) (q : ℕ) → Contains done x → place_of s x ≡ InRegister q → (holder s q ≡ Some x) ⊎ IsOver done x
  pub holds : (q : ℕ) (x : Lasting) → holder s q ≡ Some x → Contains done x × (place_of s x ≡ InRegister q)
  pub inside : (x : Lasting) → Contains done x → is_inside s.slots (place_of s x) ≡ true
  pub crowded : (x : Lasting) (k : ℕ) → Contains done x → place_of s x ≡ Slot k → (p : ℕ) × Covers x p × AreCrowded all p
  -- the others have any machine register
  pub others : (v : ℕ) → v < n → ((x : Lasting) → Contains done x → x.register ≢ v) → place_at s.places v ≡ InRegister 0
