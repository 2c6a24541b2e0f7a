-- Moves and where they arrive; how a resolved JALR is entered.
use Rattle.std.proofs.Common.{◌≡◌, ◌≢◌, ℕ, zero, suc, ◌+◌, ◌-◌, arith, refl, sym, ap, ◌∙◌, subst, List, [], ◌∷◌, ◌++◌, Contains, Bool, true, false, Option, Some, None, inl, inr}
use Rattle.std.specs.Prelude.{◌==◌, not, nat_le, if◌then◌else◌}
use Rattle.std.specs.Option.{option_to_list}
use Rattle.std.proofs.lemmas.Bool.{and_parts, cases_Bool}
use Rattle.std.proofs.lemmas.Bool.Decides.{nat_tests}
use Rattle.std.proofs.lemmas.List.Elements.{Contains-append_left, Contains-append_right}
use Rattle.rv_core.specs.declared.row.Effect.{Effect}
use Rattle.rv_core.specs.declared.row.Effect.TheVariants.{SetUpper, AddUpper, Link, LinkRegister, BranchIf, Read, Write, WithImmediate, WithRegister, CallEnvironment}
use Rattle.rv_core.specs.Rows.{row_of}
use Rattle.rv_core.specs.Instructions.{Instruction}
use Rattle.rv_core.specs.Runs.{sets_upper_by}
use Rattle.code_flow_system.specs.declared.moves.Move.{Move}
use Rattle.code_flow_system.specs.declared.moves.Way.TheVariants.{Next}
use Rattle.code_flow_system.specs.Moves.{Code, way_by, moves_on, fetch_before, moves_at, moves_by, destinations, destinations_of}
use Rattle.code_flow_system.specs.Reach.{GoesTo, IsReached, resolves_by, resolves, is_resolved, IsCode}
use Rattle.code_flow_system.specs.Systems.{moves_from}

pub in_destinations : (ms : List Move) (m : Move) (d : ℕ) → Contains ms m → Contains (destinations m) d → Contains (destinations_of ms) d
in_destinations [] m d (k, lt, e) h = absurd (omega arith)
in_destinations (n ∷ ms) m d (zero, lt, e) h = Contains-append_left (destinations n) (destinations_of ms) d (subst (λ (x : Move). Contains (destinations x) d) (sym e) h)
in_destinations (n ∷ ms) m d (suc k, lt, e) h = Contains-append_right (destinations n) (destinations_of ms) d (in_destinations ms m d (k, omega arith, e) h)

Contains-later : {X : Type 0} (x y : X) (xs : List X) → Contains xs y → Contains (x ∷ xs) y
Contains-later x y xs (k, lt, e) = (suc k, omega arith, e)

pub from_moves : (ms : List Move) (a : ℕ) (m : Move) → Contains (moves_from ms a) m → Contains ms m
from_moves [] a m h = h
from_moves (n ∷ ms) a m h = by_place (n.at == a) h (from_moves ms a m)
  where
    by_place : (b : Bool) → Contains (if b then n ∷ moves_from ms a else moves_from ms a) m → (Contains (moves_from ms a) m → Contains ms m) → Contains (n ∷ ms) m
    by_place true (zero, lt, e) later = (0, omega arith, e)
    by_place true (suc k, lt, e) later = Contains-later n m ms (later (k, omega arith, e))
    by_place false h later = Contains-later n m ms (later h)

-- where a move goes to
pub to_among : (to back : Option ℕ) (d : ℕ) → to ≡ Some d → Contains (option_to_list to ++ option_to_list back) d
to_among None back d e = cc
to_among (Some x) back d e = let s : x ≡ d = cc in (0, omega arith, s)

pub behind_among : (to back : Option ℕ) (d : ℕ) → back ≡ Some d → Contains (option_to_list to ++ option_to_list back) d
behind_among to None d e = cc
behind_among to (Some x) d e = let s : x ≡ d = cc in Contains-append_right (option_to_list to) (x ∷ []) d (0, omega arith, s)

-- an address has an instruction where it has moves
pub fetched_of : (c : Code) (a : ℕ) → moves_at c a ≢ [] → (i : Instruction) × (c.fetch a ≡ Some i)
fetched_of c a some = by_fetch (c.fetch a) some
  where
    by_fetch : (o : Option Instruction) → moves_by c a o ≢ [] → (i : Instruction) × (o ≡ Some i)
    by_fetch None some = absurd (some refl)
    by_fetch (Some i) some = (i, refl)

-- a register that an AUIPC sets
sets_upper_facts : (e : Effect) (rd rs1 : ℕ) → sets_upper_by e rd rs1 ≡ true → (e ≡ AddUpper) × (rd ≢ 0) × (rd ≡ rs1)
sets_upper_facts AddUpper rd rs1 h =
    let parts = and_parts (not (rd == 0)) (rd == rs1) h in (refl, not_zero rd parts.0, same rd rs1 parts.1)
  where
    not_zero : (n : ℕ) → not (n == 0) ≡ true → n ≢ 0
    not_zero n h e = grind (arith, nat_tests)

    same : (a b : ℕ) → (a == b) ≡ true → a ≡ b
    same a b h = grind (arith, nat_tests)
sets_upper_facts SetUpper rd rs1 h = cc
sets_upper_facts Link rd rs1 h = cc
sets_upper_facts LinkRegister rd rs1 h = cc
sets_upper_facts (BranchIf c) rd rs1 h = cc
sets_upper_facts (Read w signed) rd rs1 h = cc
sets_upper_facts (Write w) rd rs1 h = cc
sets_upper_facts (WithImmediate f) rd rs1 h = cc
sets_upper_facts (WithRegister f) rd rs1 h = cc
sets_upper_facts CallEnvironment rd rs1 h = cc

resolves_by_facts : (e : Effect) (u i : Instruction) → resolves_by e (Some u) i ≡ true → sets_upper_by (row_of u.op).effect u.rd i.rs1 ≡ true
resolves_by_facts LinkRegister u i h = h
resolves_by_facts SetUpper u i h = cc
resolves_by_facts AddUpper u i h = cc
resolves_by_facts Link u i h = cc
resolves_by_facts (BranchIf c) u i h = cc
resolves_by_facts (Read w signed) u i h = cc
resolves_by_facts (Write w) u i h = cc
resolves_by_facts (WithImmediate f) u i h = cc
resolves_by_facts (WithRegister f) u i h = cc
resolves_by_facts CallEnvironment u i h = cc

pub none_resolves : (e : Effect) (i : Instruction) → resolves_by e None i ≡ false
none_resolves LinkRegister i = refl
none_resolves _ i = refl

-- what resolves a JALR is an AUIPC into its register
pub record IsPair (u i : Instruction) : Type 0 where
  pub upper : (row_of u.op).effect ≡ AddUpper
  pub some : u.rd ≢ 0
  pub same : u.rd ≡ i.rs1

pub pair_of : (e : Effect) (u i : Instruction) → resolves_by e (Some u) i ≡ true → IsPair u i
pair_of e u i h = let f = sets_upper_facts (row_of u.op).effect u.rd i.rs1 (resolves_by_facts e u i h) in record { upper = f.0; some = f.1; same = f.2 }

resolved_upper : (u : Instruction) (o : Option Instruction) → resolves (Some u) o ≡ true → (row_of u.op).effect ≡ AddUpper
resolved_upper u None h = cc
resolved_upper u (Some i) h = (pair_of (row_of i.op).effect u i h).upper

-- the instruction before an address that lies 4 behind another
pub fetch_before-next : (c : Code) (a b : ℕ) → a + 4 ≡ b → fetch_before c b ≡ c.fetch a
fetch_before-next c a b e =
    let test : nat_le 4 b ≡ true = at_least a b e in
    let place : b - 4 ≡ a = omega arith in
    ap (λ (x : Bool). if x then c.fetch (b - 4) else None) test ∙ ap c.fetch place
  where
    at_least : (a b : ℕ) → a + 4 ≡ b → nat_le 4 b ≡ true
    at_least a b e = grind (arith, nat_tests)

-- what a reached address goes to isn't resolved, where it isn't an AUIPC
pub not_resolved : (c : Code) (entry a b : ℕ) (i : Instruction) → ((x : ℕ) → IsReached c entry x → IsCode c entry x) → IsReached c entry a → GoesTo c a b → c.fetch a ≡ Some i → (row_of i.op).effect ≢ AddUpper → is_resolved c b ≡ false
not_resolved c entry a b i code reached goes is other = elim (cases_Bool (is_resolved c b)) [
  | inl h ↦
      let r : IsReached c entry b = (suc reached.0, (a, reached.1, goes)) in
      let pair = ((code b r).paired h).alone a reached goes in
      let before : fetch_before c b ≡ Some i = fetch_before-next c a b pair ∙ is in
      absurd (other (resolved_upper i (c.fetch b) (ap (λ o. resolves o (c.fetch b)) (sym before) ∙ h)))
  | inr h ↦ h
]

-- an AUIPC is no call
pub no_call_by_upper : (e : Effect) (exit : Bool) (before : Option Instruction) (a : ℕ) (i : Instruction) (m : Move) (b : ℕ) → Contains (moves_on (way_by e exit before a i) a i) m → m.behind ≡ Some b → e ≢ AddUpper
no_call_by_upper e exit before a i m b h is upper = alone m (subst (λ (f : Effect). Contains (moves_on (way_by f exit before a i) a i) m) upper h) is
  where
    alone : (m : Move) → Contains (moves_on Next a i) m → m.behind ≡ Some b → ⊥
    alone m (zero, lt, e) is = let s = ap (λ (x : Move). x.behind) e in cc
    alone m (suc k, lt, e) is = omega arith
