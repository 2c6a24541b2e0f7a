-- The machine's run: its states, and what the steps were: the addresses visited with the moves taken, and the places where calls are to return.
use Rattle.std.specs.Prelude.{ℕ, zero, suc, ◌==◌, ◌&&◌, ◌||◌, not, List, [], ◌∷◌, Bool, true, false, Option, Some, None, if◌then◌else◌}
use Rattle.rv_core.specs.declared.row.Effect.{Effect}
use Rattle.rv_core.specs.declared.row.Effect.TheVariants.{AddUpper, Link, LinkRegister}
use Rattle.rv_core.specs.Rows.{row_of}
use Rattle.rv_core.specs.Instructions.{Instruction, is_zero}
use Rattle.rv_core.specs.Table.{Table}
use Rattle.rv_core.specs.Images.{Image}
use Rattle.rv_core.specs.Machine.{Ending, Running, Exited, Trapped, State, start_of, behind, is_taken, access_of, step}
use Rattle.rv_core.specs.Code.{instruction_before}

-- a step that was no trap: its address, the number of its move (1 for a taken branch), and the address that it loaded or stored at
pub record Visit : Type 0 where
  pub at : ℕ
  pub move : ℕ
  pub access : Option ℕ

-- the latest visits and return places first; a return is astray where it goes elsewhere than behind the latest call
pub record Run : Type 0 where
  pub state : State
  pub visits : List Visit
  pub places : List ℕ
  pub astray : Bool

-- an AUIPC into the register that isn't x0
abbrev pub sets_upper_by : Effect → ℕ → ℕ → Bool
sets_upper_by AddUpper rd rs1 = not (rd == 0) && (rd == rs1)
sets_upper_by e rd rs1 = false

abbrev pub sets_upper : Option Instruction → ℕ → Bool
sets_upper None rs1 = false
sets_upper (Some i) rs1 = sets_upper_by (row_of i.op).effect i.rd rs1

-- what an instruction does to the return places
pub data Linkage : Type 0 where
  Stays : Linkage
  Calls : Linkage
  Returns : Linkage

-- a jump that links to x1 is a call
abbrev pub linkage_of_link : ℕ → Linkage
linkage_of_link rd = if rd == 1 then Calls else Stays

-- a jump through x1 that nothing before it resolves, and that links to nothing, is a return
abbrev pub linkage_of_register : Bool → Instruction → Linkage
linkage_of_register resolved i =
    if i.rd == 1 then Calls else (if not resolved && ((i.rd == 0) && ((i.rs1 == 1) && is_zero i.imm)) then Returns else Stays)

abbrev pub linkage_by : Effect → Option Instruction → Instruction → Linkage
linkage_by Link before i = linkage_of_link i.rd
linkage_by LinkRegister before i = linkage_of_register (sets_upper before i.rs1) i
linkage_by e before i = Stays

abbrev pub linkage : State → Instruction → Linkage
linkage s i = linkage_by (row_of i.op).effect (instruction_before s.world.memory s.pc) i

-- the number of the move: 1 for a taken branch
abbrev pub move_of : Bool → ℕ
move_of true = 1
move_of false = 0

abbrev pub visit_of : State → Instruction → Visit
visit_of s i = record { at = s.pc; move = move_of (is_taken i s); access = access_of i s }

-- the return places behind an instruction that stood at this pc
abbrev pub places_after : Linkage → ℕ → List ℕ → List ℕ
places_after Stays pc places = places
places_after Calls pc places = behind pc ∷ places
places_after Returns pc [] = []
places_after Returns pc (p ∷ places) = places

-- whether a return has gone elsewhere, where the machine has come to this address
abbrev pub astray_after : Linkage → ℕ → List ℕ → Bool
astray_after Stays to places = false
astray_after Calls to places = false
astray_after Returns to [] = true
astray_after Returns to (p ∷ places) = not (p == to)

-- the run with a step that performed this instruction
abbrev pub recorded : Option Instruction → State → Run → Run
recorded None after r = record r { state = after }
recorded (Some i) after r =
    record {
      state = after;
      visits = visit_of r.state i ∷ r.visits;
      places = places_after (linkage r.state i) r.state.pc r.places;
      astray = r.astray || astray_after (linkage r.state i) after.pc r.places;
    }

-- a trap is no visit
abbrev pub noted : Ending → State → Run → Run
noted Running after r = recorded after.last after r
noted (Exited v) after r = recorded after.last after r
noted (Trapped k) after r = record r { state = after }

abbrev pub advance_from : Table → Ending → Run → Run
advance_from t Running r = let after = step t r.state in noted after.ending after r
advance_from t (Exited v) r = r
advance_from t (Trapped k) r = r

-- the run, one step further
unfoldable pub advance : Table → Run → Run
advance t r = advance_from t r.state.ending r

abbrev pub advances : Table → ℕ → Run → Run
advances t zero r = r
advances t (suc n) r = advances t n (advance t r)

-- what a run is given: what is loaded, what its steps cost, and what it can read
pub record Setup : Type 0 where
  pub image : Image
  pub costs : Table
  pub input : List ℕ

abbrev pub setup : Image → Table → List ℕ → Setup
setup image costs input = record { image = image; costs = costs; input = input }

abbrev pub run_start : Image → List ℕ → Run
run_start image input = record { state = start_of image input; visits = []; places = []; astray = false }

-- the run after n steps
abbrev pub mrun : Setup → ℕ → Run
mrun s n = advances s.costs n (run_start s.image s.input)
