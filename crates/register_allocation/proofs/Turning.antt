-- What stands for an instruction among the turns of a function.
use Rattle.std.proofs.Common.{◌≡◌, ℕ, zero, suc, ◌+◌, ◌≤◌, true, false, List, [], ◌∷◌, ◌++◌, length, Option, Some, None, refl, sym, ap, ◌∙◌, subst, inl, inr, arith, append_assoc}
use Rattle.std.specs.Prelude.{if◌then◌else◌, slice_get}
use Rattle.std.proofs.lemmas.Bool.{cases_eq, eqb-true}
use Rattle.std.proofs.lemmas.List.{get_or_append_left, get_or-append-add}
use Rattle.low_ir.specs.Code.{Plain, Instr, Do, Call, End, Block, Function, Note}
use Rattle.low_ir.specs.Effects.{dest, is_member, is_served}
use Rattle.low_ir.specs.Live.{CallAt, IsRest, ServedAt, Spot, place_of}
use Rattle.register_allocation.specs.declared.briefs.Turn.{Turn}
use Rattle.register_allocation.specs.declared.briefs.Turn.TheVariants.{Stays, Comes}
use Rattle.register_allocation.specs.declared.order.Lasting.{Lasting}
use Rattle.register_allocation.specs.Briefs.{AreOwn, AreOwnBefore, IsBrief, blocks_turns, code_turns, instr_turn, is_own, names, turn_at}

length-code_turns : (is : List (Instr ℕ Note)) → length (code_turns is) ≡ suc (length is)
length-code_turns [] = refl
length-code_turns (i ∷ is) = ap suc (length-code_turns is)

heads : (i j : Instr ℕ Note) (is js : List (Instr ℕ Note)) → i ∷ is ≡ j ∷ js → i ≡ j
heads i j is js e = cc

nothing_left : (i : Instr ℕ Note) (is : List (Instr ℕ Note)) → [] ≡ i ∷ is → ⊥
nothing_left i is e = cc

code_turn : (code is : List (Instr ℕ Note)) (i : Instr ℕ Note) (k : ℕ) → IsRest code k (i ∷ is) → (k ≤ length code) × (turn_at (code_turns code) k ≡ instr_turn i)
code_turn [] is i zero r = absurd (nothing_left i is r)
code_turn (j ∷ code) is i zero r = (omega arith, ap instr_turn (heads j i code is r))
code_turn [] is i (suc k) r = absurd r
code_turn (j ∷ code) is i (suc k) r = let h = code_turn code is i k r in (let a = h.0 in omega (arith, a), h.1)

block_turn : (bs : List (Block ℕ Note)) (b : ℕ) (x : Block ℕ Note) → slice_get bs b ≡ Some x → (k : ℕ) → k ≤ length x.code → turn_at (blocks_turns bs) (place_of bs b + k) ≡ turn_at (code_turns x.code) k
block_turn [] b x e k few = cc
block_turn (y ∷ bs) zero x e k few =
    let same : y ≡ x = cc in
    let l = length-code_turns y.code in
    let less : k ≤ length y.code = subst (λ (z : Block ℕ Note). k ≤ length z.code) (sym same) few in
    let first : 0 + k ≡ k = omega arith in
    ap (turn_at (code_turns y.code ++ blocks_turns bs)) first
    ∙ (get_or_append_left (code_turns y.code) (blocks_turns bs) Stays k (omega (arith, l, less))
    ∙ ap (λ (z : Block ℕ Note). turn_at (code_turns z.code) k) same)
block_turn (y ∷ bs) (suc b) x e k few =
    let l = length-code_turns y.code in
    let at : suc (length y.code) + place_of bs b + k ≡ length (code_turns y.code) + (place_of bs b + k) = omega (arith, l) in
    ap (turn_at (code_turns y.code ++ blocks_turns bs)) at
    ∙ (get_or-append-add (code_turns y.code) (blocks_turns bs) (place_of bs b + k) Stays
    ∙ block_turn bs b x e k few)

spot_turn : (bs : List (Block ℕ Note)) (p : ℕ) (i : Instr ℕ Note) (is : List (Instr ℕ Note)) (end : End ℕ) → Spot bs p (i ∷ is) end → turn_at (blocks_turns bs) p ≡ instr_turn i
spot_turn bs p i is end spot =
    let c = code_turn spot.block.code is i spot.behind spot.code in
    ap (turn_at (blocks_turns bs)) spot.at ∙ (block_turn bs spot.number spot.block spot.there spot.behind c.0 ∙ c.1)

served_turn : (i : Plain ℕ) (d : Option ℕ) → is_served i ≡ true → dest i ≡ d → instr_turn (Do i) ≡ Comes d
served_turn i d s e = ap (λ b. if b then Comes (dest i) else Stays) s ∙ ap Comes e

named : (d : Option ℕ) (v : ℕ) → names d v ≡ true → d ≡ Some v
named None v e = cc
named (Some r) v e = ap Some (eqb-true r v e)

-- where something comes into the result register in the interval of x, it goes to x
module _ (fn : Function ℕ Note) (x : Lasting) (brief : IsBrief fn x) (p : ℕ) (d : Option ℕ) (first : x.first ≤ p) (last : p ≤ x.last) where
  comes_own : turn_at (blocks_turns fn.blocks) p ≡ Comes d → d ≡ Some x.register
  comes_own e = named d x.register (ap (is_own x.register) (sym e) ∙ brief.own p first last)

  pub call_own : CallAt fn p d → d ≡ Some x.register
  call_own c = comes_own (spot_turn fn.blocks p (Call d c.0 c.1 c.2) c.3 c.4 c.5)

  pub served_own : ServedAt fn p d → d ≡ Some x.register
  served_own c = comes_own (spot_turn fn.blocks p (Do c.0) c.1 c.2 c.5 ∙ served_turn c.0 d c.3 c.4)

-- what comes at the places before one, and there
pub own_next : (turns : List Turn) (x : Lasting) (n : ℕ) → AreOwnBefore turns x n → is_own x.register (turn_at turns n) ≡ true → AreOwnBefore turns x (n + 1)
own_next turns x n before here p from to = elim (cases_eq p n) [
  | inl same ↦ subst (λ q. is_own x.register (turn_at turns q) ≡ true) (sym same) here
  | inr other ↦ before p from (omega (arith, to, other))
]

pub own_to : (turns : List Turn) (x : Lasting) → AreOwnBefore turns x x.last → is_own x.register (turn_at turns x.last) ≡ true → AreOwn turns x
own_to turns x before here p from to = own_next turns x x.last before here p from (omega (arith, to))

pub is_brief_by : (fn : Function ℕ Note) (turns : List Turn) (x : Lasting) → turns ≡ blocks_turns fn.blocks → is_member fn.parameters x.register ≡ false → AreOwn turns x → IsBrief fn x
is_brief_by fn turns x is other own = record { own = subst (λ ts. AreOwn ts x) is own; passed = other }

-- one more block
pub turns_put : (old new : List Turn) (b : Block ℕ Note) (bs all : List (Block ℕ Note)) → new ≡ old ++ code_turns b.code → old ++ blocks_turns (b ∷ bs) ≡ blocks_turns all → new ++ blocks_turns bs ≡ blocks_turns all
turns_put old new b bs all put before = ap (λ ts. ts ++ blocks_turns bs) put ∙ (append_assoc old (code_turns b.code) (blocks_turns bs) ∙ before)
