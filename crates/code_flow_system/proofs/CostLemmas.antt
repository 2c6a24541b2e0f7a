-- What a step costs is at most what its move costs.
use Rattle.std.proofs.Common.{◌≡◌, ◌≢◌, ℕ, ◌+◌, ◌≤◌, arith, refl, sym, ap, ◌∙◌, List, [], ◌∷◌, All, Bool, true, false, Option, Some, None}
use Rattle.std.specs.Prelude.{◌==◌, ◌&&◌, not, if◌then◌else◌}
use Rattle.std.proofs.lemmas.Bool.{and_left}
use Rattle.std.proofs.lemmas.List.Elements.{All-head, All-tail}
use Rattle.rv_core.specs.declared.op.Op.{Op}
use Rattle.rv_core.specs.declared.op.Op.TheVariants.{Lui}
use Rattle.rv_core.specs.declared.regions.Region.{Region}
use Rattle.rv_core.specs.declared.regions.Region.TheVariants.{Flash, Spm, Ram}
use Rattle.rv_core.specs.declared.row.Effect.{Effect}
use Rattle.rv_core.specs.declared.row.Effect.TheVariants.{SetUpper, AddUpper, Link, LinkRegister, BranchIf, Read, Write, WithImmediate, WithRegister, CallEnvironment}
use Rattle.rv_core.specs.Rows.{row_of}
use Rattle.rv_core.specs.Instructions.{Instruction}
use Rattle.rv_core.specs.Regions.{region_of}
use Rattle.rv_core.specs.Table.{Table, access_cost, accesses, loads, wait_of, uses}
use Rattle.rv_core.specs.Machine.{State, cost_at, region_accessed, access_by}
use Rattle.rv_core.specs.Runs.{Visit}
use Rattle.code_flow_system.specs.declared.claims.Within.{Within}
use Rattle.code_flow_system.specs.declared.moves.Move.{Move}
use Rattle.code_flow_system.specs.declared.moves.Way.{Way}
use Rattle.code_flow_system.specs.declared.moves.Way.TheVariants.{Next, Branches, Jumps, Calls, Ends, Strays}
use Rattle.code_flow_system.specs.Moves.{moves_on}
use Rattle.code_flow_system.specs.Systems.{moves_from}
use Rattle.code_flow_system.specs.MoveCosts.{lies_within, names, may_touch, access_if, dearest, access_price, instruction_among, wait_ahead}
use Rattle.code_flow_system.specs.KeptRuns.{names_region, touches_named, KeepsLine}

-- effects and classes

abbrev pub is_read : Effect → Bool
is_read (Read w signed) = true
is_read e = false

abbrev pub is_access : Effect → Bool
is_access (Read w signed) = true
is_access (Write w) = true
is_access e = false

pub loads_by : (op : Op) → loads (row_of op).class ≡ is_read (row_of op).effect
loads_by Lui = refl
loads_by _ = refl

pub accesses_by : (op : Op) → accesses (row_of op).class ≡ is_access (row_of op).effect
accesses_by Lui = refl
accesses_by _ = refl

no_access : (e : Effect) (i : Instruction) (s : State) → is_access e ≡ false → access_by e i s ≡ None
no_access (Read w signed) i s h = cc
no_access (Write w) i s h = cc
no_access SetUpper i s h = refl
no_access AddUpper i s h = refl
no_access Link i s h = refl
no_access LinkRegister i s h = refl
no_access (BranchIf c) i s h = refl
no_access (WithImmediate f) i s h = refl
no_access (WithRegister f) i s h = refl
no_access CallEnvironment i s h = refl

-- accesses

le_dearest : (t : Table) (may : Region → Bool) (r : Region) → may r ≡ true → access_cost t (Some r) ≤ dearest t may
le_dearest t may Flash h = let e = ap (λ b. access_if t b Flash) h in omega arith
le_dearest t may Spm h = let e = ap (λ b. access_if t b Spm) h in omega arith
le_dearest t may Ram h = let e = ap (λ b. access_if t b Ram) h in omega arith

access_within : (t : Table) (b : Bool) (may : Region → Bool) (access : Option ℕ) → (b ≡ false → access ≡ None) → ((a : ℕ) (r : Region) → access ≡ Some a → region_of a ≡ Some r → may r ≡ true) → access_cost t (region_accessed access) ≤ access_price t b may
access_within t b may None none touched = omega arith
access_within t false may (Some a) none touched = absurd (let e = none refl in cc)
access_within t true may (Some a) none touched = at_region (region_of a) refl
  where
    at_region : (o : Option Region) → region_of a ≡ o → access_cost t (region_of a) ≤ dearest t may
    at_region None e = let z = ap (access_cost t) e in omega arith
    at_region (Some r) e = let z = ap (access_cost t) e in let l = le_dearest t may r (touched a r refl e) in omega arith

cost_within : (t : Table) (i : Instruction) (fetch : Option Region) (access : Option Region) (taken : Bool) (price : ℕ) → access_cost t access ≤ price → cost_at t i fetch access taken ≤ cost_at t i fetch None taken + price
cost_within t i None access taken price h = omega arith
cost_within t i (Some fetch) access taken price h = omega arith

-- an access that keeps its lines may touch its region
pub may_touch-kept : (ws : List Within) (v : Visit) (a : ℕ) (r : Region) → All (KeepsLine v) ws → v.access ≡ Some a → region_of a ≡ Some r → may_touch ws v.at r ≡ true
may_touch-kept [] v a r h is in_region = refl
may_touch-kept (w ∷ ws) v a r h is in_region = within (lies_within w v.at) refl (may_touch-kept ws v a r (All-tail (KeepsLine v) w ws h) is in_region)
  where
    named : touches_named w v.access ≡ true → names w r ≡ true
    named h = ap (λ o. names_region w o) (sym in_region) ∙ (ap (touches_named w) (sym is) ∙ h)

    within : (b : Bool) → lies_within w v.at ≡ b → may_touch ws v.at r ≡ true → (if b then names w r else may_touch ws v.at r) ≡ true
    within true e later = named (All-head (KeepsLine v) w ws h e)
    within false e later = later

pub access_paid : (t : Table) (i : Instruction) (s : State) (fetch : Option Region) (taken : Bool) (may : Region → Bool) → ((a : ℕ) (r : Region) → access_by (row_of i.op).effect i s ≡ Some a → region_of a ≡ Some r → may r ≡ true) →
    cost_at t i fetch (region_accessed (access_by (row_of i.op).effect i s)) taken ≤ cost_at t i fetch None taken + access_price t (accesses (row_of i.op).class) may
access_paid t i s fetch taken may touched =
    cost_within t i fetch (region_accessed (access_by (row_of i.op).effect i s)) taken (access_price t (accesses (row_of i.op).class) may)
    (access_within t (accesses (row_of i.op).class) may (access_by (row_of i.op).effect i s) (λ e. no_access (row_of i.op).effect i s (sym (accesses_by i.op) ∙ e)) touched)

-- waits

pub wait_paid : (t : Table) (before i : Instruction) (o : Option Instruction) → (loads (row_of before.op).class ≡ true → o ≡ Some i) → wait_of t before i ≤ wait_ahead t before o
wait_paid t before i o h = by_load (loads (row_of before.op).class) refl
  where
    by_load : (b : Bool) → loads (row_of before.op).class ≡ b → wait_of t before i ≤ wait_ahead t before o
    by_load true e = let same = ap (wait_ahead t before) (h e) in omega arith
    by_load false e = let none : wait_of t before i ≡ 0 = ap (λ (b : Bool). if b then t.stall else 0) (and_left (loads (row_of before.op).class) (not (before.rd == 0) && uses i before.rd) e) in omega arith

-- the instruction that the moves of an address name

abbrev pub first_instr : List Move → Option Instruction
first_instr [] = None
first_instr (m ∷ ms) = Some m.instr

pub instruction_among-from : (ms : List Move) (a : ℕ) → instruction_among ms a ≡ first_instr (moves_from ms a)
instruction_among-from [] a = refl
instruction_among-from (m ∷ ms) a = by_place (m.at == a) (instruction_among-from ms a)
  where
    by_place : (b : Bool) → instruction_among ms a ≡ first_instr (moves_from ms a) → (if b then Some m.instr else instruction_among ms a) ≡ first_instr (if b then m ∷ moves_from ms a else moves_from ms a)
    by_place true later = refl
    by_place false later = later

pub first_instr-moves_on : (w : Way) (a : ℕ) (i : Instruction) → moves_on w a i ≢ [] → first_instr (moves_on w a i) ≡ Some i
first_instr-moves_on Next a i some = refl
first_instr-moves_on (Branches to) a i some = refl
first_instr-moves_on (Jumps to) a i some = refl
first_instr-moves_on (Calls to) a i some = refl
first_instr-moves_on Ends a i some = refl
first_instr-moves_on Strays a i some = absurd (some refl)
