-- What a move costs: its instruction, an access at the dearest of its claimed regions, and for a load the wait of the instruction behind it.
use Rattle.std.specs.Prelude.{ℕ, ◌+◌, ◌==◌, ◌&&◌, List, [], ◌∷◌, Bool, true, false, Option, Some, None, nat_le, nat_lt, max, if◌then◌else◌}
use Rattle.rv_core.specs.declared.regions.Region.{Region}
use Rattle.rv_core.specs.declared.regions.Region.TheVariants.{Flash, Spm, Ram}
use Rattle.rv_core.specs.Rows.{row_of}
use Rattle.rv_core.specs.Instructions.{Instruction}
use Rattle.rv_core.specs.Regions.{region_of}
use Rattle.rv_core.specs.Table.{Table, access_cost, accesses, wait_of}
use Rattle.rv_core.specs.Machine.{behind, cost_at}
use Rattle.code_flow_system.specs.declared.claims.Within.{Within}
use Rattle.code_flow_system.specs.declared.moves.Move.{Move}
use Rattle.code_flow_system.specs.Systems.{System}

-- an instruction at the address is in the line
abbrev pub lies_within : Within → ℕ → Bool
lies_within w a = nat_le w.first a && nat_lt a w.end

-- the line names the region
abbrev pub names : Within → Region → Bool
names w Flash = w.flash
names w Spm = w.spm
names w Ram = w.ram

-- an access from the address may touch the region: its line names it, or it has no line
abbrev pub may_touch : List Within → ℕ → Region → Bool
may_touch [] a r = true
may_touch (w ∷ ws) a r = if lies_within w a then names w r else may_touch ws a r

abbrev pub access_if : Table → Bool → Region → ℕ
access_if t true r = access_cost t (Some r)
access_if t false r = 0

-- the greatest cost of an access to one of these regions
abbrev pub dearest : Table → (Region → Bool) → ℕ
dearest t may = max (access_if t (may Flash) Flash) (max (access_if t (may Spm) Spm) (access_if t (may Ram) Ram))

abbrev pub access_price : Table → Bool → (Region → Bool) → ℕ
access_price t true may = dearest t may
access_price t false may = 0

-- the instruction at an address, as its moves say
abbrev pub instruction_among : List Move → ℕ → Option Instruction
instruction_among [] a = None
instruction_among (m ∷ ms) a = if m.at == a then Some m.instr else instruction_among ms a

-- the wait of an instruction right behind this one
abbrev pub wait_ahead : Table → Instruction → Option Instruction → ℕ
wait_ahead t i None = 0
wait_ahead t i (Some next) = wait_of t i next

-- the cycles of a move
abbrev pub move_cost : Table → System → Move → ℕ
move_cost t s m =
    cost_at t m.instr (region_of m.at) None (m.number == 1)
    + access_price t (accesses (row_of m.instr.op).class) (may_touch s.claims.regions m.at)
    + wait_ahead t m.instr (instruction_among s.moves (behind m.at))
