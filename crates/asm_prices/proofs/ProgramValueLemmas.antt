-- What moves cost, and the values of loose flows.
use Rattle.std.proofs.Common.{◌≡◌, ℕ, ◌*◌, ◌^◌, ◌<◌, ◌≤◌, ℤ, pos, ◌*ℤ◌, ◌≤ℤ◌, ◌<ℤ◌, Bool, true, false, List, [], ◌∷◌, Option, Some, None, ap, arith}
use Rattle.std.specs.Prelude.{◌==◌, ◌&&◌, not, max, if◌then◌else◌}
use lib.IntN.{*ℤ-zero, *ℤ_comm}
use Rattle.std.proofs.lemmas.Int.{ints}
use Rattle.frac128.proofs.SignedLemmas.{mul-add, mul-le, mul-lt, mul-mul_swap}
use Rattle.rv_core.specs.declared.costs.Costs.{Costs}
use Rattle.rv_core.specs.declared.regions.Region.{Region}
use Rattle.rv_core.specs.declared.regions.Region.TheVariants.{Flash, Spm, Ram}
use Rattle.rv_core.specs.declared.row.Class.{Class}
use Rattle.rv_core.specs.declared.row.Class.TheVariants.{Plain, Multiply, Divide, Load, Store, Branch, Jump, System as Calls}
use Rattle.rv_core.specs.Rows.{row_of}
use Rattle.rv_core.specs.Instructions.{Instruction}
use Rattle.rv_core.specs.Regions.{region_of}
use Rattle.rv_core.specs.Machine.{behind, cost_at}
use Rattle.rv_core.specs.Table.{Table, table_of, fetch_cost, class_cost, access_cost, accesses, loads, uses}
use Rattle.code_flow_system.specs.declared.moves.Move.{Move}
use Rattle.code_flow_system.specs.Systems.{System}
use Rattle.code_flow_system.specs.Counts.{Amounts, amount, total}
use Rattle.code_flow_system.specs.MoveCosts.{may_touch, access_if, access_price, instruction_among, wait_ahead, move_cost}
use Rattle.code_flow_system.specs.Flows.{price, value}
use Rattle.low_ir.specs.Room.{weight}
use Rattle.asm_prices.specs.Bounds.{MovesCostFew, ValuesBelowWeight}
use Rattle.asm_prices.proofs.CountLemmas.{counts_below_weight}

module _ (c : Costs) where
  fetch_few : (r : Region) → fetch_cost (table_of c) r ≤ 1000
  fetch_few Flash = c.flash.most
  fetch_few Spm = c.spm.most
  fetch_few Ram = omega arith

  class_few : (k : Class) (taken : Bool) → class_cost (table_of c) k taken ≤ 1000
  class_few Plain taken = c.alu_most
  class_few Multiply taken = c.mul_most
  class_few Divide taken = c.div_most
  class_few Load taken = c.load_most
  class_few Store taken = c.store_most
  class_few Branch true = c.taken_most
  class_few Branch false = c.branch_most
  class_few Jump taken = c.jump_most
  class_few Calls taken = c.ecall_most

  access_few : (r : Region) → access_cost (table_of c) (Some r) ≤ 1000
  access_few Flash = c.data_flash_most
  access_few Spm = c.data_spm_most
  access_few Ram = c.data_ram_most

  if_few : (b : Bool) (r : Region) → access_if (table_of c) b r ≤ 1000
  if_few true r = access_few r
  if_few false r = omega arith

  greatest : (a b n : ℕ) → a ≤ n → b ≤ n → max a b ≤ n
  greatest a b n h k = omega arith

  price_few : (b : Bool) (may : Region → Bool) → access_price (table_of c) b may ≤ 1000
  price_few true may = greatest _ _ 1000 (if_few (may Flash) Flash) (greatest _ _ 1000 (if_few (may Spm) Spm) (if_few (may Ram) Ram))
  price_few false may = omega arith

  stall_few : (b : Bool) → (if b then c.stall else 0) ≤ 1000
  stall_few true = c.stall_most
  stall_few false = omega arith

  wait_few : (i : Instruction) (o : Option Instruction) → wait_ahead (table_of c) i o ≤ 1000
  wait_few i None = omega arith
  wait_few i (Some next) = stall_few (loads (row_of i.op).class && (not (i.rd == 0) && uses next i.rd))

  cost_few : (i : Instruction) (o : Option Region) (taken : Bool) → cost_at (table_of c) i o None taken ≤ 2000
  cost_few i None taken = omega arith
  cost_few i (Some r) taken = let f = fetch_few r in let k = class_few (row_of i.op).class taken in omega arith

  pub moves_cost_few : MovesCostFew (table_of c)
  moves_cost_few s k =
      let a = cost_few k.instr (region_of k.at) (k.number == 1) in
      let b = price_few (accesses (row_of k.instr.op).class) (may_touch s.claims.regions k.at) in
      let d = wait_few k.instr (instruction_among s.moves (behind k.at)) in omega arith

value_scaled : (t : Table) (s : System) (n : ℕ) (x : Amounts) (ms : List Move) → ((k : Move) → move_cost t s k ≤ n) → total (price t s) x ms ≤ℤ (pos n *ℤ total (λ k. pos 1) x ms)
value_scaled t s n x [] h = let z = *ℤ-zero (pos n) in omega (arith, ints)
value_scaled t s n x (k ∷ ms) h =
    let r = value_scaled t s n x ms h in
    let c = h k in
    let e = mul-le (x k.at k.number) (pos (move_cost t s k)) (pos n) (omega (arith, ints)) in
    let d = mul-add (pos n) (amount x k *ℤ pos 1) (total (λ k. pos 1) x ms) in
    let q = *ℤ_comm (pos n) (amount x k) in
    let one : (amount x k *ℤ pos 1) ≡ amount x k = omega (arith, ints) in
    let u = ap (λ (z : ℤ). pos n *ℤ z) one in omega (arith, ints)

pub values_below_weight : (t : Table) → MovesCostFew t → ValuesBelowWeight t
values_below_weight t few m p l image claims s h unit x loose = (below, under)
  where
    below : value t s x ≤ℤ (pos unit *ℤ pos (4000 * weight p))
    below =
        let a = value_scaled t s 4000 x s.moves (few s) in
        let b = counts_below_weight m p l image claims s h unit x loose in
        let c = mul-le 4000 (total (λ k. pos 1) x s.moves) (pos unit *ℤ pos (weight p)) b in
        let d = mul-mul_swap (pos 4000) (pos unit) (pos (weight p)) in
        let e : (pos 4000 *ℤ pos (weight p)) ≡ pos (4000 * weight p) = omega (arith, ints) in
        let f = ap (λ (z : ℤ). pos unit *ℤ z) e in omega (arith, ints)

    under : 4000 * weight p < 2 ^ 60 → value t s x <ℤ (pos unit *ℤ pos (2 ^ 60))
    under less =
        let some = loose.positive in
        let a = mul-lt (pos (4000 * weight p)) (pos (2 ^ 60)) (pos unit) (omega (arith, ints)) (omega (arith, ints)) in
        let b = below in
        let c = *ℤ_comm (pos (4000 * weight p)) (pos unit) in
        let d = *ℤ_comm (pos (2 ^ 60)) (pos unit) in omega (arith, ints)
