-- What is noted of one register is what it has in the code.
use Rattle.std.proofs.Common.{◌≡◌, ◌≢◌, inl, inr, ℕ, zero, suc, ◌+◌, ◌<◌, ◌≤◌, Bool, true, false, List, [], ◌∷◌, ◌++◌, length, get_or, set, map, drop, replicate, Option, Some, None, refl, sym, ap, ◌∙◌, subst, arith, append_assoc}
use Rattle.std.specs.Prelude.{◌==◌, if◌then◌else◌, slice_index_or}
use Rattle.std.proofs.lemmas.Bool.Decides.{eqb_tells}
use Rattle.std.proofs.lemmas.List.{append-nil, drop_more, get_or-map, length-map, map-set}
use Rattle.low_ir.specs.declared.instruction.Operand.{Operand as Operand'}
use Rattle.low_ir.specs.Code.{Operand, Register, Constant, Instr, End, Block, Function, Note}
use Rattle.low_ir.specs.Formed.{registers_in, read_by, written_by, end_reads}
use Rattle.low_ir.specs.View.{operand_of}
use Rattle.register_live_ranges.specs.declared.accesses.Access.{Access}
use Rattle.register_live_ranges.specs.Accesses.{access_at, blocks_accesses, blocks_noted, code_accesses, code_noted, instr_noted, reads_among, reads_noted, write_among, write_noted}
use Rattle.register_live_ranges.specs.Found.{accesses_of}
use Rattle.register_live_ranges.specs.Rows.{with_item}

-- reads of further operands
pub reads_append : (rows : List (List Access)) (a : Access) (xs ys : List (Operand ℕ)) → reads_noted (reads_noted rows a (registers_in xs)) a (registers_in ys) ≡ reads_noted rows a (registers_in (xs ++ ys))
reads_append rows a [] ys = refl
reads_append rows a (Register r ∷ xs) ys = reads_append (with_item rows r a) a xs ys
reads_append rows a (Constant w ∷ xs) ys = reads_append rows a xs ys

pub reads_more : (rows : List (List Access)) (a : Access) (x : Operand ℕ) (ys : List (Operand ℕ)) → reads_noted (reads_noted rows a (registers_in (x ∷ []))) a (registers_in ys) ≡ reads_noted rows a (registers_in (x ∷ ys))
reads_more rows a x ys = reads_append rows a (x ∷ []) ys

pub reads_two : (rows : List (List Access)) (a : Access) (x y : Operand ℕ) → reads_noted (reads_noted rows a (registers_in (x ∷ []))) a (registers_in (y ∷ [])) ≡ reads_noted rows a (registers_in (x ∷ y ∷ []))
reads_two rows a x y = reads_append rows a (x ∷ []) (y ∷ [])

pub argument_more : (rows new : List (List Access)) (a : Access) (xs : List Operand') (i : ℕ) (x : Operand') → i < length xs → x ≡ get_or xs i x → new ≡ reads_noted rows a (registers_in (operand_of x ∷ []))
    → reads_noted new a (registers_in (map operand_of (drop (i + 1) xs))) ≡ reads_noted rows a (registers_in (map operand_of (drop i xs)))
argument_more rows new a xs i x lt is made =
    ap (λ r. reads_noted r a (registers_in (map operand_of (drop (i + 1) xs)))) made
    ∙ reads_more rows a (operand_of x) (map operand_of (drop (i + 1) xs))
    ∙ ap (λ (y : Operand'). reads_noted rows a (registers_in (operand_of y ∷ map operand_of (drop (i + 1) xs)))) is
    ∙ sym (ap (λ l. reads_noted rows a (registers_in (map operand_of l))) (drop_more xs i x lt))

-- a list of these is replaced, as a view has it
pub with_set : {X : Type 0} (rows : List (List X)) (k : ℕ) (x : X) → k < length rows → set rows k (get_or rows k [] ++ x ∷ []) ≡ with_item rows k x
with_set [] k x h = absurd (omega (arith, h))
with_set (l ∷ ls) zero x h = refl
with_set (l ∷ ls) (suc k) x h = ap (λ m. l ∷ m) (with_set ls k x (omega (arith, h)))

pub with_past : {X : Type 0} (rows : List (List X)) (k : ℕ) (x : X) → length rows ≤ k → rows ≡ with_item rows k x
with_past [] k x h = refl
with_past (l ∷ ls) zero x h = absurd (omega (arith, h))
with_past (l ∷ ls) (suc k) x h = ap (λ m. l ∷ m) (with_past ls k x (omega (arith, h)))

pub view_set : {A X : Type 0} (view : A → List X) (xs : List A) (k : ℕ) (x new : A) (y : X) → k < length xs → x ≡ get_or xs k x → view new ≡ view x ++ y ∷ [] → map view (set xs k new) ≡ with_item (map view xs) k y
view_set view xs k x new y lt is made =
    let inside : k < length (map view xs) = subst (λ n. k < n) (sym (length-map xs view)) lt in
    map-set view xs k new
    ∙ ap (set (map view xs) k) (made ∙ ap (λ l. l ++ y ∷ []) (ap view is ∙ sym (get_or-map view xs k x [] lt)))
    ∙ with_set (map view xs) k y inside

-- the list of one number
abbrev pub row : {X : Type 0} → List (List X) → ℕ → List X
row rows v = slice_index_or rows v []

with_same : {X : Type 0} (rows : List (List X)) (k : ℕ) (x : X) → k < length rows → row (with_item rows k x) k ≡ row rows k ++ x ∷ []
with_same [] k x h = absurd (omega (arith, h))
with_same (l ∷ ls) zero x h = refl
with_same (l ∷ ls) (suc k) x h = with_same ls k x (omega (arith, h))

with_other : {X : Type 0} (rows : List (List X)) (k v : ℕ) (x : X) → k ≢ v → row (with_item rows k x) v ≡ row rows v
with_other [] k v x d = refl
with_other (l ∷ ls) zero zero x d = absurd (d refl)
with_other (l ∷ ls) zero (suc v) x d = refl
with_other (l ∷ ls) (suc k) zero x d = refl
with_other (l ∷ ls) (suc k) (suc v) x d = with_other ls k v x (λ e. d (ap suc e))

pub length-with : {X : Type 0} (rows : List (List X)) (k : ℕ) (x : X) → length (with_item rows k x) ≡ length rows
length-with [] k x = refl
length-with (l ∷ ls) zero x = refl
length-with (l ∷ ls) (suc k) x = ap suc (length-with ls k x)

module _ (v : ℕ) where
  item_row : (rows : List (List Access)) (r : ℕ) (a : Access) (rest : List Access) → v < length rows → row (with_item rows r a) v ++ rest ≡ row rows v ++ (if r == v then a ∷ rest else rest)
  item_row rows r a rest h = elim (eqb_tells r v) [
    | inl t ↦
        subst (λ (u : ℕ). row (with_item rows u a) v ++ rest ≡ row rows v ++ a ∷ rest) (sym t.1) (ap (λ l. l ++ rest) (with_same rows v a h) ∙ append_assoc (row rows v) (a ∷ []) rest)
        ∙ ap (λ (b : Bool). row rows v ++ (if b then a ∷ rest else rest)) (sym t.0)
    | inr t ↦ ap (λ l. l ++ rest) (with_other rows r v a t.1) ∙ ap (λ (b : Bool). row rows v ++ (if b then a ∷ rest else rest)) (sym t.0)
  ]

  long : (rows : List (List Access)) (r : ℕ) (a : Access) → v < length rows → v < length (with_item rows r a)
  long rows r a h = let e = length-with rows r a in omega (arith, e, h)

  reads_long : (rows : List (List Access)) (a : Access) (rs : List ℕ) → v < length rows → v < length (reads_noted rows a rs)
  reads_long rows a [] h = h
  reads_long rows a (r ∷ rs) h = reads_long (with_item rows r a) a rs (long rows r a h)

  reads_row : (rows : List (List Access)) (a : Access) (rs : List ℕ) (rest : List Access) → v < length rows → row (reads_noted rows a rs) v ++ rest ≡ row rows v ++ reads_among v a rs rest
  reads_row rows a [] rest h = refl
  reads_row rows a (r ∷ rs) rest h = reads_row (with_item rows r a) a rs rest (long rows r a h) ∙ item_row_by
    where
      item_row_by : row (with_item rows r a) v ++ reads_among v a rs rest ≡ row rows v ++ reads_among v a (r ∷ rs) rest
      item_row_by = item_row rows r a (reads_among v a rs rest) h

  write_long : (rows : List (List Access)) (a : Access) (d : Option ℕ) → v < length rows → v < length (write_noted rows a d)
  write_long rows a None h = h
  write_long rows a (Some r) h = long rows r a h

  write_row : (rows : List (List Access)) (a : Access) (d : Option ℕ) (rest : List Access) → v < length rows → row (write_noted rows a d) v ++ rest ≡ row rows v ++ write_among v a d rest
  write_row rows a None rest h = refl
  write_row rows a (Some r) rest h = item_row rows r a rest h

  instr_long : (rows : List (List Access)) (b s p : ℕ) (i : Instr ℕ Note) → v < length rows → v < length (instr_noted rows b s p i)
  instr_long rows b s p i h = write_long (reads_noted rows (access_at b s p false) (read_by i)) (access_at b s p true) (written_by i) (reads_long rows (access_at b s p false) (read_by i) h)

  instr_row : (rows : List (List Access)) (b s p : ℕ) (i : Instr ℕ Note) (rest : List Access) → v < length rows
      → row (instr_noted rows b s p i) v ++ rest ≡ row rows v ++ reads_among v (access_at b s p false) (read_by i) (write_among v (access_at b s p true) (written_by i) rest)
  instr_row rows b s p i rest h =
      write_row (reads_noted rows (access_at b s p false) (read_by i)) (access_at b s p true) (written_by i) rest (reads_long rows (access_at b s p false) (read_by i) h)
      ∙ reads_row rows (access_at b s p false) (read_by i) (write_among v (access_at b s p true) (written_by i) rest) h

  code_long : (rows : List (List Access)) (b s p : ℕ) (is : List (Instr ℕ Note)) (end : End ℕ) → v < length rows → v < length (code_noted rows b s p is end)
  code_long rows b s p [] end h = reads_long rows (access_at b s p false) (end_reads end) h
  code_long rows b s p (i ∷ is) end h = code_long (instr_noted rows b s p i) b s (suc p) is end (instr_long rows b s p i h)

  code_row : (rows : List (List Access)) (b s p : ℕ) (is : List (Instr ℕ Note)) (end : End ℕ) (rest : List Access) → v < length rows → row (code_noted rows b s p is end) v ++ rest ≡ row rows v ++ code_accesses v b s p is end rest
  code_row rows b s p [] end rest h = reads_row rows (access_at b s p false) (end_reads end) rest h
  code_row rows b s p (i ∷ is) end rest h =
      code_row (instr_noted rows b s p i) b s (suc p) is end rest (instr_long rows b s p i h)
      ∙ instr_row rows b s p i (code_accesses v b s (suc p) is end rest) h

  blocks_row : (rows : List (List Access)) (b s : ℕ) (bs : List (Block ℕ Note)) → v < length rows → row (blocks_noted rows b s bs) v ≡ row rows v ++ blocks_accesses v b s bs
  blocks_row rows b s [] h = sym (append-nil (row rows v))
  blocks_row rows b s (x ∷ xs) h =
      blocks_row (code_noted rows b s s x.code x.end) (suc b) (s + suc (length x.code)) xs (code_long rows b s s x.code x.end h)
      ∙ code_row rows b s s x.code x.end (blocks_accesses v (suc b) (s + suc (length x.code)) xs) h

none_row : (n v : ℕ) → row (replicate {A = List Access} n []) v ≡ []
none_row zero v = refl
none_row (suc n) zero = refl
none_row (suc n) (suc v) = none_row n v

length-none : (n : ℕ) → length (replicate {A = List Access} n []) ≡ n
length-none zero = refl
length-none (suc n) = ap suc (length-none n)

pub accesses_row : (fn : Function ℕ Note) (v : ℕ) → v < fn.size → row (accesses_of fn) v ≡ blocks_accesses v 0 0 fn.blocks
accesses_row fn v h =
    let size = length-none fn.size in
    blocks_row v (replicate fn.size []) 0 0 fn.blocks (omega (arith, size, h)) ∙ ap (λ l. l ++ blocks_accesses v 0 0 fn.blocks) (none_row fn.size v)
