-- How many machine instructions a program takes, how many it may execute, and how often it may pass a mark.
use Rattle.std.specs.Prelude.{ℕ, zero, suc, ◌+◌, ◌*◌, ◌==◌, ◌&&◌, Bool, max, nat_lt, nat_le, if◌then◌else◌, List, [], ◌∷◌, length, sum_by, Option, Some, None, slice_get, ◌^◌, ◌-◌, ◌||◌}
use Rattle.low_ir.specs.Code.{Base, Fixed, Through, Plain, Set, Operate, Point, Load, Store, Put, Get, Instr, Do, Call, End, Jump, Branch, Return, Block, Loop, Function, Program}

-- An operand takes at most two instructions to be in a machine register (a load from a frame slot, or a constant), and so does a
-- result to be in its place.

-- the upper part of a displacement that doesn't fit into the 12 bits of an instruction
abbrev pub is_near : ℕ → Bool
is_near n = nat_lt n (2 ^ 11) || nat_le (2 ^ 32 - 2 ^ 11) n

abbrev pub far_room : ℕ → ℕ
far_room n = if is_near n then 0 else 2

abbrev pub offset_room : {R : Type 0} → Option R → ℕ
offset_room None = 0
offset_room (Some r) = 3

-- what leads to an address whose lowest 12 bits are still to be added
abbrev pub address_room : {R : Type 0} → Base R → Option R → ℕ → ℕ
address_room (Fixed o) offset n = 1 + offset_room offset
address_room (Through r claim) offset n = 2 + offset_room offset + far_room n

-- a load or a store of an array without an offset may count more than it takes, so that a copy of a register counts less
abbrev pub access_room : {R : Type 0} → Base R → Option R → ℕ → ℕ
access_room (Fixed o) None n = 5
access_room (Fixed o) (Some r) n = address_room (Fixed o) (Some r) n
access_room (Through r claim) offset n = address_room (Through r claim) offset n

abbrev pub plain_room : {R : Type 0} → Plain R → ℕ
plain_room (Set d x) = 4
plain_room (Operate operator d x y) = 7
plain_room (Point d a) = address_room a.base a.offset a.displacement + 3
plain_room (Load kind d a) = access_room a.base a.offset a.displacement + 3
plain_room (Store kind a x) = access_room a.base a.offset a.displacement + 3
plain_room (Put x) = 4
plain_room (Get d) = 4

-- a call takes ten for each argument: to pass it, and to save and restore a register that it is passed in
abbrev pub instr_room : {R K : Type 0} → Instr R K → ℕ
instr_room (Do i) = plain_room i
instr_room (Call d f args note) = 4 + 10 * length args

-- jumps may be too far for one instruction
abbrev pub end_room : {R : Type 0} → End R → ℕ
end_room (Jump b) = 2
end_room (Branch c x y taken other) = 9
end_room (Return x) = 4

abbrev pub block_room : {R K : Type 0} → Block R K → ℕ
block_room b = sum_by instr_room b.code + end_room b.end

-- what a function takes beside its blocks, to enter and to leave it
abbrev pub frame_room : ℕ
frame_room = 64

abbrev pub function_room : {R K : Type 0} → Function R K → ℕ
function_room fn = frame_room + sum_by block_room fn.blocks

-- the machine instructions of a program
abbrev pub room : {R K : Type 0} → Program R K → ℕ
room p = sum_by function_room p.functions

-- how often the loops may start a block for each call of its function; a header counts at least once
abbrev pub most_starts : Loop → ℕ
most_starts l = max 1 l.most

abbrev pub times : List Loop → ℕ → ℕ
times [] b = 1
times (l ∷ ls) b = (if nat_le l.header b && nat_le b l.latch then most_starts l else 1) * times ls b

-- the sum of what the calls of a block are worth
abbrev pub called : {R K : Type 0} → (ℕ → ℕ) → List (Instr R K) → ℕ
called worth [] = 0
called worth (Do i ∷ is) = called worth is
called worth (Call d f args note ∷ is) = worth f + called worth is

-- blocks from number b on, each as often as it may start
abbrev pub repeated : {R K : Type 0} → (Block R K → ℕ) → List Loop → ℕ → List (Block R K) → ℕ
repeated worth loops b [] = 0
repeated worth loops b (block ∷ blocks) = times loops b * worth block + repeated worth loops (suc b) blocks

abbrev pub repeated_in : {R K : Type 0} → (Block R K → ℕ) → Option (Function R K) → ℕ
repeated_in worth None = 0
repeated_in worth (Some fn) = repeated worth fn.loops 0 fn.blocks

-- the machine instructions that a call of a function may execute, where calls nest at most so deep
abbrev pub weights : {R K : Type 0} → List (Function R K) → ℕ → ℕ → ℕ
weights fs zero f = 0
weights fs (suc n) f = frame_room + repeated_in (λ b. block_room b + called (weights fs n) b.code) (slice_get fs f)

abbrev pub marks_once : Option ℕ → ℕ → ℕ
marks_once None mark = 0
marks_once (Some m) mark = if m == mark then 1 else 0

-- how often a call of a function may pass a mark
abbrev pub reaches : {R K : Type 0} → List (Function R K) → ℕ → ℕ → ℕ → ℕ
reaches fs mark zero f = 0
reaches fs mark (suc n) f = repeated_in (λ b. marks_once b.mark mark + called (reaches fs mark n) b.code) (slice_get fs f)

-- of a whole program; calls go to lower numbers
abbrev pub weight : {R K : Type 0} → Program R K → ℕ
weight p = weights p.functions (suc p.main) p.main

abbrev pub reach : {R K : Type 0} → Program R K → ℕ → ℕ
reach p mark = reaches p.functions mark (suc p.main) p.main
