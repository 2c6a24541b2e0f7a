-- Lists that are kept last one first.
use Rattle.std.proofs.Common.{◌≡◌, ℕ, ◌+◌, List, [], ◌∷◌, ◌++◌, length, set, true, Option, Some, None, map, refl, sym, ap, ◌∙◌, arith, append_assoc, append-nil}
use Rattle.std.specs.Prelude.{reverse}
use Rattle.std.proofs.lemmas.List.{map-append, map-set, reverse-append, reverse-reverse, length-reverse, length-map, set_at}
use Rattle.low_ir.specs.Code.{End, Jump, Branch, Return, Block, Loop, Note}
use Rattle.low_ir.specs.Formed.{only_jump}
use Rattle.low_ir.specs.View.{block_of, instr_of}
use Rattle.low_ir.specs.declared.instruction.Instr as instrs
use Rattle.low_ir.specs.declared.low.Block as blocks
use Rattle.lower_definition.specs.Operators.{Code}
use Rattle.lower_definition.specs.Statements.{Piece, Landed, before_by, block, joined, landed_at, landed_by, marked_by}
use Rattle.lower_definition.specs.Values.{Coded}
use Rattle.lower_statement.specs.Whole.{apart, closed, goal_of, is_more, landing, looped, marked, preceded, unmarked, with_code, with_first, with_mark}

pub reverse_push : {A : Type 0} (xs : List A) (x : A) → reverse (xs ++ x ∷ []) ≡ x ∷ reverse xs
reverse_push xs x = reverse-append xs (x ∷ [])

pub map_reversed : {A B : Type 0} (f : A → B) (xs : List A) → map f (reverse xs) ≡ reverse (map f xs)
map_reversed f [] = refl
map_reversed f (x ∷ xs) =
    ap (map f) (reverse-append (x ∷ []) xs)
    ∙ map-append f (reverse xs) (x ∷ [])
    ∙ ap (λ l. l ++ f x ∷ []) (map_reversed f xs)
    ∙ sym (reverse-append (f x ∷ []) (map f xs))

pub pushed : {A B : Type 0} (f : A → B) (xs : List A) (x : A) → reverse (map f (xs ++ x ∷ [])) ≡ f x ∷ reverse (map f xs)
pushed f xs x = ap reverse (map-append f xs (x ∷ [])) ∙ reverse_push (map f xs) (f x)

pub prepended : {A B : Type 0} (f : A → B) (xs cs : List A) → reverse (map f (xs ++ reverse cs)) ≡ map f cs ++ reverse (map f xs)
prepended f xs cs =
    ap reverse (map-append f xs (reverse cs))
    ∙ reverse-append (map f xs) (map f (reverse cs))
    ∙ ap (λ l. l ++ reverse (map f xs)) (ap reverse (map_reversed f cs) ∙ reverse-reverse (map f cs))

pub length_kept : {A B : Type 0} (f : A → B) (xs : List A) → length (reverse (map f xs)) ≡ length xs
length_kept f xs = length-reverse (map f xs) ∙ length-map xs f

pub middle_reversed : {A : Type 0} (xs inside behind : List A) (a : A) → reverse xs ≡ inside ++ a ∷ behind → xs ≡ reverse behind ++ a ∷ reverse inside
middle_reversed xs inside behind a e =
    sym (reverse-reverse xs)
    ∙ ap reverse e
    ∙ reverse-append inside (a ∷ behind)
    ∙ ap (λ l. l ++ reverse inside) (reverse-append (a ∷ []) behind)
    ∙ append_assoc (reverse behind) (a ∷ []) (reverse inside)

pub middle_again : {A : Type 0} (xs inside behind : List A) (a : A) → xs ≡ reverse behind ++ a ∷ reverse inside → reverse xs ≡ inside ++ a ∷ behind
middle_again xs inside behind a e =
    ap reverse e
    ∙ reverse-append (reverse behind) (a ∷ reverse inside)
    ∙ ap (λ l. l ++ reverse (reverse behind)) (reverse-append (a ∷ []) (reverse inside))
    ∙ append_assoc (reverse (reverse inside)) (a ∷ []) (reverse (reverse behind))
    ∙ ap (λ l. l ++ a ∷ reverse (reverse behind)) (reverse-reverse inside)
    ∙ ap (λ l. inside ++ a ∷ l) (reverse-reverse behind)

-- a block that is more than a jump is not left out
more_lands : (mark : Option ℕ) (code : Code) (end : End ℕ) (n : ℕ) (p : Piece) → is_more mark code end ≡ true → landed_by mark code end n p ≡ landed_at (n + length p.new) (p.first ∷ p.new) p
more_lands None [] (Jump b) n p e = cc
more_lands None [] (Branch c x y taken other) n p e = refl
more_lands None [] (Return x) n p e = refl
more_lands None (i ∷ is) end n p e = refl
more_lands (Some m) code end n p e = refl

abbrev jumping : ℕ → Piece → Piece
jumping b p = with_first (only_jump b) p

none_before : (n : ℕ) → 0 + n ≡ n
none_before n = omega arith

pub goal_of_more : (p : Piece) → is_more p.first.mark p.first.code p.first.end ≡ true → goal_of p ≡ length p.new
goal_of_more p e = ap (λ l. l.goal) (more_lands p.first.mark p.first.code p.first.end 0 p e) ∙ none_before (length p.new)

pub landing_of_more : (p : Piece) → is_more p.first.mark p.first.code p.first.end ≡ true → landing p ≡ closed p
landing_of_more p e =
    ap (λ (l : Landed). jumping l.goal (record { first = p.first; new = l.new; loops = p.loops; free = p.free })) (more_lands p.first.mark p.first.code p.first.end 0 p e)
    ∙ ap (λ n. jumping n (record { first = p.first; new = p.first ∷ p.new; loops = p.loops; free = p.free })) (none_before (length p.new))

with_same : (k : Block ℕ Note) (p : Piece) → p.first ≡ k → p ≡ with_first k p
with_same k p e = ap (λ x. with_first x p) e

pub goal_of_jump : (p : Piece) (b : ℕ) → p.first ≡ only_jump b → goal_of p ≡ b
goal_of_jump p b e = ap goal_of (with_same (only_jump b) p e)

pub landing_of_jump : (p : Piece) (b : ℕ) → p.first ≡ only_jump b → landing p ≡ p
landing_of_jump p b e = ap landing (with_same (only_jump b) p e) ∙ sym (with_same (only_jump b) p e)

abbrev marked_before : Option ℕ → Coded → Piece → Piece
marked_before mark c p = joined (before_by mark c.code (length p.new) p.first c.free) p

code_before : (mark : Option ℕ) (c : Coded) (p : Piece) → p.first.mark ≡ mark → with_code c (unmarked mark p) ≡ marked_before mark c p
code_before None c p e = ap (λ m. with_first (record { mark = m; code = c.code ++ p.first.code; end = p.first.end }) (record { first = p.first; new = p.new; loops = p.loops; free = c.free })) e
code_before (Some l) c p e = ap (λ x. with_first (block x (Jump (length p.new))) (record { first = p.first; new = p.first ∷ p.new; loops = p.loops; free = c.free })) (append-nil c.code)

pub code_precedes : (c : Coded) (p : Piece) → with_code c (unmarked p.first.mark p) ≡ preceded c p
code_precedes c p = code_before p.first.mark c p refl

mark_before : (mark : Option ℕ) (m : ℕ) (p : Piece) → with_mark m (unmarked mark p) ≡ joined (marked_by mark m (length p.new) p.first p.free) p
mark_before None m p = refl
mark_before (Some l) m p = refl

pub mark_precedes : (m : ℕ) (p : Piece) → with_mark m (unmarked p.first.mark p) ≡ marked m p
mark_precedes m p = mark_before p.first.mark m p

pub code_apart : (c : Coded) (end : End ℕ) (p : Piece) → with_code c (with_first (block [] end) p) ≡ apart c end p
code_apart c end p = ap (λ x. with_first (block x end) (record { first = p.first; new = p.new; loops = p.loops; free = c.free })) (append-nil c.code)

-- the block of a latch gets its header
pub latch_set : (bs : List blocks.Block) (b : blocks.Block) (n : ℕ) (inside behind : List (Block ℕ Note)) (a z : Block ℕ Note) → map block_of bs ≡ behind ++ z ∷ inside → n ≡ length behind → block_of b ≡ a → map block_of (set bs n b) ≡ behind ++ a ∷ inside
latch_set bs b n inside behind a z at number is =
    map-set block_of bs n b
    ∙ ap (λ l. set l n (block_of b)) at
    ∙ set_at behind z inside (block_of b) n (sym number)
    ∙ ap (λ x. behind ++ x ∷ inside) is

abbrev whole : Block ℕ Note → List (Block ℕ Note) → List Loop → ℕ → Piece
whole k bs ls t = record { first = k; new = bs; loops = ls; free = t }

-- a loop is closed, by its parts
pub loop_made : (id least most latch header : ℕ) (p q r : Piece) (inside behind : List (Block ℕ Note)) → header ≡ length p.new → q ≡ closed p → r.first ≡ q.first →
    r.new ≡ p.first ∷ (inside ++ only_jump header ∷ behind) → r.loops ≡ record { id = id; least = least; most = most; header = header; latch = latch } ∷ q.loops → r.free ≡ q.free → latch ≡ length behind →
    r ≡ looped id least most behind inside p
loop_made id least most latch header p q r inside behind eh eq ef en el et eb =
    let n = length p.new in
    let loop : ℕ → ℕ → Loop = λ h b. record { id = id; least = least; most = most; header = h; latch = b } in
    let first : r.first ≡ only_jump n = ef ∙ ap (λ (x : Piece). x.first) eq in
    let new : r.new ≡ p.first ∷ (inside ++ only_jump n ∷ behind) = en ∙ ap (λ h. p.first ∷ (inside ++ only_jump h ∷ behind)) eh in
    let loops : r.loops ≡ loop n (length behind) ∷ p.loops = el ∙ ap (λ (x : Piece). loop header latch ∷ x.loops) eq ∙ ap (λ h. loop h latch ∷ p.loops) eh ∙ ap (λ b. loop n b ∷ p.loops) eb in
    let free : r.free ≡ p.free = et ∙ ap (λ (x : Piece). x.free) eq in
    ap (λ x. whole x r.new r.loops r.free) first
    ∙ ap (λ x. whole (only_jump n) x r.loops r.free) new
    ∙ ap (λ x. whole (only_jump n) (p.first ∷ (inside ++ only_jump n ∷ behind)) x r.free) loops
    ∙ ap (whole (only_jump n) (p.first ∷ (inside ++ only_jump n ∷ behind)) (loop n (length behind) ∷ p.loops)) free

abbrev jump_behind : Code → ℕ → Block ℕ Note
jump_behind code n = record { mark = None; code = code; end = Jump n }

-- the block that begins the code gets its number
pub closed_made : (dest : List instrs.Instr) (bs more : List blocks.Block) (b : blocks.Block) (k : Block ℕ Note) (ls : List Loop) (free number : ℕ) → dest ≡ [] → number ≡ length (reverse (map block_of bs)) → more ≡ bs ++ b ∷ [] → block_of b ≡ k →
    whole (jump_behind (reverse (map instr_of dest)) number) (reverse (map block_of more)) ls free ≡ closed (whole k (reverse (map block_of bs)) ls free)
closed_made dest bs more b k ls free number none at longer is =
    ap (λ (xs : List instrs.Instr). whole (jump_behind (reverse (map instr_of xs)) number) (reverse (map block_of more)) ls free) none
    ∙ ap (λ n. whole (only_jump n) (reverse (map block_of more)) ls free) at
    ∙ ap (λ x. whole (only_jump (length (reverse (map block_of bs)))) x ls free) (ap (λ x. reverse (map block_of x)) longer ∙ pushed block_of bs b ∙ ap (λ x. x ∷ reverse (map block_of bs)) is)
