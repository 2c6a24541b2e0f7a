-- The example keeps to the low form.
use Rattle.std.proofs.Common.{◌≡◌, ◌<◌, ◌≤◌, ℕ, zero, suc, Bool, true, false, List, [], ◌∷◌, length, Some, None, refl, sym, ◌∙◌, subst, ⊎_elim, arith}
use Rattle.std.specs.Prelude.{◌⊎◌, ◌&&◌, All, nat_lt, slice_get, option_to_list}
use Rattle.std.specs.List.{list_all}
use Rattle.std.proofs.lemmas.Bool.{and_parts, ltb-true}
use Rattle.std.proofs.lemmas.List.Elements.{All-nil, All-cons, All-weaker}
use Rattle.std.proofs.lemmas.List.Sums.{AllPass-from_list_all}
use Rattle.low_ir.specs.Code.{Address, Instr, Block, Loop, Function, Note}
use Rattle.low_ir.specs.Formed.{RegistersWithin, UsesRegisters, IsThere, NamesThere, BlockNamesThere, CallsBelow, BlockCallsBelow, HasMarkBelow, LeadsTo, IsIn, IsLoop, IsFunction, IsClaim, IsLow, addresses, callee, end_reads, is_back, mark_of, read_by, written_by}
use Rattle.low_ir.specs.Example.{example, square, squares}

-- what a test of each element says of all
all_of : {X : Type 0} (test : X → Bool) (P : X → Type 0) → ((x : X) → test x ≡ true → P x) → (xs : List X) → list_all test xs ≡ true → All P xs
all_of test P holds xs e = All-weaker (λ x. test x ≡ true) P holds xs (AllPass-from_list_all test xs e)

abbrev are_below : ℕ → List ℕ → Bool
are_below n xs = list_all (λ m. nat_lt m n) xs

below : (n : ℕ) (xs : List ℕ) → are_below n xs ≡ true → All (λ m. m < n) xs
below n xs e = all_of (λ m. nat_lt m n) (λ m. m < n) (λ m t. ltb-true m n t) xs e

-- what each instruction and each end of a block reads and writes is below
abbrev instr_within : ℕ → Instr ℕ Note → Bool
instr_within size i = are_below size (read_by i) && are_below size (option_to_list (written_by i))

abbrev block_within : ℕ → Block ℕ Note → Bool
block_within size b = list_all (instr_within size) b.code && are_below size (end_reads b.end)

uses_registers : (size : ℕ) (bs : List (Block ℕ Note)) → list_all (block_within size) bs ≡ true → All (UsesRegisters size) bs
uses_registers size bs e = all_of (block_within size) (UsesRegisters size) of_block bs e
  where
    of_instr : (i : Instr ℕ Note) → instr_within size i ≡ true → RegistersWithin size i
    of_instr i t =
        let h = and_parts (are_below size (read_by i)) (are_below size (option_to_list (written_by i))) t in
        (below size (read_by i) h.0, below size (option_to_list (written_by i)) h.1)

    of_block : (b : Block ℕ Note) → block_within size b ≡ true → UsesRegisters size b
    of_block b t =
        let h = and_parts (list_all (instr_within size) b.code) (are_below size (end_reads b.end)) t in
        (all_of (instr_within size) (RegistersWithin size) of_instr b.code h.0, below size (end_reads b.end) h.1)

-- instructions without addresses name what is there
abbrev is_empty : List (Address ℕ) → Bool
is_empty [] = true
is_empty (a ∷ rest) = false

abbrev no_address : Instr ℕ Note → Bool
no_address i = is_empty (addresses i)

all_there : (rest : List (Address ℕ)) → is_empty rest ≡ true → All (IsThere example) rest
all_there [] t = All-nil (IsThere example)
all_there (a ∷ rest) t = cc

names_there : (bs : List (Block ℕ Note)) → list_all (λ b. list_all no_address b.code) bs ≡ true → All (BlockNamesThere example) bs
names_there bs e =
    all_of (λ b. list_all no_address b.code) (BlockNamesThere example)
    (λ b t. all_of no_address (NamesThere example) (λ i u. all_there (addresses i) u) b.code t) bs e

abbrev callee_below : ℕ → Instr ℕ Note → Bool
callee_below f i = are_below f (option_to_list (callee i))

calls_below : (f : ℕ) (bs : List (Block ℕ Note)) → list_all (λ b. list_all (callee_below f) b.code) bs ≡ true → All (BlockCallsBelow f) bs
calls_below f bs e =
    all_of (λ b. list_all (callee_below f) b.code) (BlockCallsBelow f)
    (λ b t. all_of (callee_below f) (CallsBelow f) (λ i u. below f (option_to_list (callee i)) u) b.code t) bs e

marks_below : (n : ℕ) (bs : List (Block ℕ Note)) → list_all (λ b. are_below n (option_to_list b.mark)) bs ≡ true → All (HasMarkBelow n) bs
marks_below n bs e = all_of (λ b. are_below n (option_to_list b.mark)) (HasMarkBelow n) (λ b t. below n (option_to_list b.mark) t) bs e

opens_square : (g b : ℕ) → mark_of example g b ≡ Some 0 → (g ≡ 0) × (b ≡ 0)
opens_square zero zero e = (refl, refl)
opens_square zero (suc b) e = cc
opens_square (suc zero) zero e = cc
opens_square (suc zero) (suc zero) e = cc
opens_square (suc zero) (suc (suc zero)) e = cc
opens_square (suc zero) (suc (suc (suc zero))) e = cc
opens_square (suc zero) (suc (suc (suc (suc zero)))) e = cc
opens_square (suc zero) (suc (suc (suc (suc (suc zero))))) e = cc
opens_square (suc zero) (suc (suc (suc (suc (suc (suc b)))))) e = cc
opens_square (suc (suc g)) b e = cc

opens_squares : (g b : ℕ) → mark_of example g b ≡ Some 1 → (g ≡ 1) × (b ≡ 0)
opens_squares zero zero e = cc
opens_squares zero (suc b) e = cc
opens_squares (suc zero) zero e = (refl, refl)
opens_squares (suc zero) (suc zero) e = cc
opens_squares (suc zero) (suc (suc zero)) e = cc
opens_squares (suc zero) (suc (suc (suc zero))) e = cc
opens_squares (suc zero) (suc (suc (suc (suc zero)))) e = cc
opens_squares (suc zero) (suc (suc (suc (suc (suc zero))))) e = cc
opens_squares (suc zero) (suc (suc (suc (suc (suc (suc b)))))) e = cc
opens_squares (suc (suc g)) b e = cc

leads_square : (b n : ℕ) → LeadsTo square b n → ⊥
leads_square zero n e = e
leads_square (suc b) n e = e

some≢none : (m : ℕ) → Some m ≡ None → ⊥
some≢none m e = cc

-- where the blocks of the second function lead
data Leads (b n : ℕ) : Type 0 where
  Later : (lt : b < n) (inside : n < 6) → Leads b n
  Back : (from : b ≡ 4) (to : n ≡ 2) → Leads b n

leads_squares : (b n : ℕ) → LeadsTo squares b n → Leads b n
leads_squares zero n e = let q : 1 ≡ n = e in Later (omega arith) (omega arith)
leads_squares (suc zero) n e = let q : 2 ≡ n = e in Later (omega arith) (omega arith)
leads_squares (suc (suc zero)) n e =
    let either : (5 ≡ n) ⊎ (3 ≡ n) = e in
    ⊎_elim (λ (q : 5 ≡ n). Later (omega arith) (omega arith)) (λ (q : 3 ≡ n). Later (omega arith) (omega arith)) either
leads_squares (suc (suc (suc zero))) n e = let q : 4 ≡ n = e in Later (omega arith) (omega arith)
leads_squares (suc (suc (suc (suc zero)))) n e = let q : 2 ≡ n = e in Back refl (sym q)
leads_squares (suc (suc (suc (suc (suc zero))))) n e = absurd e
leads_squares (suc (suc (suc (suc (suc (suc b)))))) n e = absurd e

abbrev loop : Loop
loop = record { id = 0; least = 4; most = 4; header = 2; latch = 4 }

squares_stays : (b n : ℕ) → Leads b n → n < length squares.blocks
squares_stays b n (Later lt inside) = inside
squares_stays b n (Back from to) = omega arith

squares_forward : (b n : ℕ) → Leads b n → n ≤ b → is_back squares.loops b n ≡ true
squares_forward b n (Later lt inside) le = absurd (omega arith)
squares_forward b n (Back from to) le =
    subst (λ m. is_back squares.loops b m ≡ true) (sym to) (subst (λ c. is_back squares.loops c 2 ≡ true) (sym from) refl)

not_outside : (b : ℕ) → 2 ≤ b → b ≤ 4 → (b < 2) ⊎ (4 < b) → ⊥
not_outside b low high o = ⊎_elim (λ (q : b < 2). omega arith) (λ (q : 4 < b). omega arith) o

-- the blocks from which the second function's loop is entered
squares_entered : (b n : ℕ) → LeadsTo squares b n → IsIn loop n → (b < 2) ⊎ (4 < b) → n ≡ 2
squares_entered zero n e i o = let q : 1 ≡ n = e in let low : 2 ≤ n = i.0 in omega arith
squares_entered (suc zero) n e i o = let q : 2 ≡ n = e in sym q
squares_entered (suc (suc zero)) n e i o = absurd (not_outside 2 (omega arith) (omega arith) o)
squares_entered (suc (suc (suc zero))) n e i o = absurd (not_outside 3 (omega arith) (omega arith) o)
squares_entered (suc (suc (suc (suc zero)))) n e i o = let q : 2 ≡ n = e in sym q
squares_entered (suc (suc (suc (suc (suc zero))))) n e i o = absurd e
squares_entered (suc (suc (suc (suc (suc (suc b)))))) n e i o = absurd e

square_formed : IsFunction example 0 square
square_formed = record {
  opens = some≢none 0;
  alone = λ m g b e1 e2. opens_square g b (e2 ∙ sym e1);
  marks = marks_below 3 square.blocks refl;
  parameters = below 2 (0 ∷ []) refl;
  registers = uses_registers 2 square.blocks refl;
  names = names_there square.blocks refl;
  calls = calls_below 0 square.blocks refl;
  stays = λ b n e. absurd (leads_square b n e);
  forward = λ b n e le. absurd (leads_square b n e);
  loops = All-nil (IsLoop square);
  nested = λ i j d lt inside. absurd (none_before i j lt inside);
}
  where
    none_before : (i j : ℕ) → i < j → j < 0 → ⊥
    none_before i j lt inside = omega arith

squares_formed : IsFunction example 1 squares
squares_formed = record {
  opens = some≢none 1;
  alone = λ m g b e1 e2. opens_squares g b (e2 ∙ sym e1);
  marks = marks_below 3 squares.blocks refl;
  parameters = All-nil (λ r. r < 3);
  registers = uses_registers 3 squares.blocks refl;
  names = names_there squares.blocks refl;
  calls = calls_below 1 squares.blocks refl;
  stays = λ b n e. squares_stays b n (leads_squares b n e);
  forward = λ b n e le. squares_forward b n (leads_squares b n e) le;
  loops = All-cons (IsLoop squares) loop [] (record { header = omega arith; latch = omega arith; back = refl; entered = squares_entered }) (All-nil (IsLoop squares));
  nested = λ i j d lt inside. absurd (none_before i j lt inside);
}
  where
    none_before : (i j : ℕ) → i < j → j < 1 → ⊥
    none_before i j lt inside = omega arith

pub example_is_low : IsLow example
example_is_low = record {
  main = omega arith;
  functions = by_number;
  claims = All-nil (IsClaim example);
}
  where
    by_number : (f : ℕ) (fn : Function ℕ Note) → slice_get example.functions f ≡ Some fn → IsFunction example f fn
    by_number zero fn e = let same : square ≡ fn = cc in subst (IsFunction example 0) same square_formed
    by_number (suc zero) fn e = let same : squares ≡ fn = cc in subst (IsFunction example 1) same squares_formed
    by_number (suc (suc f)) fn e = cc
