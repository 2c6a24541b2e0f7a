-- What arrays hold at first stands in the bytes of their row.
use Rattle.std.proofs.Common.{◌≡◌, ◌⊎◌, inl, inr, ℕ, zero, suc, ◌+◌, ◌-◌, ◌*◌, ◌%◌, ◌^◌, ◌<◌, ◌≤◌, Bool, true, false, List, [], ◌∷◌, ◌++◌, length, take, replicate, refl, sym, ap, ◌∙◌, subst, arith, if◌then◌else◌}
use Rattle.std.specs.Prelude.{Some, ◌==◌, slice_get, slice_index, slice_index_or}
use Rattle.std.proofs.lemmas.List.{length-append, length-take, length-replicate, length-set, append_assoc, get_or-append-add, get_or_append_left, get_or-replicate, get_or_past}
use Rattle.std.proofs.lemmas.Bool.{cases_lt}
use Rattle.rv_core.specs.Arithmetic.{byte_count}
use Rattle.std.proofs.lemmas.Option.{same_Some, none-some}
use Rattle.rv_core.specs.declared.row.Width.{Width}
use Rattle.rv_core.specs.declared.row.Width.TheVariants.{Byte, Half, Word as Whole}
use Rattle.rv_core.specs.Memory.{number_at}
use Rattle.wcc_base.specs.Sizes.{rounded}
use Rattle.low_ir.specs.Arrays.{bytes_of, array_size}
use Rattle.low_ir.specs.declared.object.Kind.{Kind}
use Rattle.low_ir.specs.declared.object.Kind.TheVariants.{Unsigned8, Signed8, Unsigned16, Signed16, Word}
use Rattle.low_ir.specs.Kinds.{kind_bytes, width_of}
use Rattle.low_ir.specs.Code.{Object}
use Rattle.image_segments.specs.Rows.{Spot, spot_of, spots, moved, addresses, row_room}
use Rattle.image_segments.specs.RowLaws.{AreRows}
use Rattle.image_segments.proofs.RowLemmas.{gain_by, advanced}
use Rattle.image_segments.specs.Contents.{element_bytes, elements_bytes, object_bytes, row_bytes}

element_length : (kind : Kind) (v : ℕ) → length (element_bytes kind v) ≡ kind_bytes kind
element_length Unsigned8 v = refl
element_length Signed8 v = refl
element_length Unsigned16 v = refl
element_length Signed16 v = refl
element_length Word v = refl

elements_length : (kind : Kind) (vs : List ℕ) → length (elements_bytes kind vs) ≡ kind_bytes kind * length vs
elements_length kind [] = omega arith
elements_length kind (v ∷ vs) =
    let one = element_length kind v in
    let rest = elements_length kind vs in
    length-append (element_bytes kind v) (elements_bytes kind vs) ∙ (ap (λ n. n + length (elements_bytes kind vs)) one ∙ (ap (λ n. kind_bytes kind + n) rest ∙ step (kind_bytes kind) (length vs)))
  where
    step : (k n : ℕ) → k + k * n ≡ k * suc n
    step k n = omega arith

pub rounded_up : (n : ℕ) → n ≤ rounded n
rounded_up n = omega arith

taken_few : (n : ℕ) (vs : List ℕ) → length (take n vs) ≤ n
taken_few n vs = let h = length-take n vs in omega arith

times_few : (kind : Kind) (n m : ℕ) → n ≤ m → kind_bytes kind * n ≤ kind_bytes kind * m
times_few Unsigned8 n m h = omega arith
times_few Signed8 n m h = omega arith
times_few Unsigned16 n m h = omega arith
times_few Signed16 n m h = omega arith
times_few Word n m h = omega arith

pub object_length : (x : Object) → length (object_bytes x) ≡ array_size x
object_length x =
    let given = elements_length x.kind (take x.size x.values) in
    let few = times_few x.kind (length (take x.size x.values)) x.size (taken_few x.size x.values) in
    let up = rounded_up (bytes_of x) in
    let all = length-append (elements_bytes x.kind (take x.size x.values)) (replicate (array_size x - length (elements_bytes x.kind (take x.size x.values))) 0) in
    let zeros = length-replicate {A = ℕ} (array_size x - length (elements_bytes x.kind (take x.size x.values))) 0 in
    all ∙ omega arith

-- what comes behind some bytes stands that much later
later : (w : Width) (xs ys : List ℕ) (n : ℕ) → number_at w (xs ++ ys) (length xs + n) ≡ number_at w ys n
unfolding number_at
later Byte xs ys n = get_or-append-add xs ys n 0
later Half xs ys n =
    let a = get_or-append-add xs ys n 0 in
    let b = get_or-append-add xs ys (n + 1) 0 in
    let e1 : length xs + n + 1 ≡ length xs + (n + 1) = omega arith in
    let c = ap (slice_index (xs ++ ys)) e1 ∙ b in
    ap (λ v. v + 2 ^ 8 * slice_index (xs ++ ys) (length xs + n + 1)) a ∙ ap (λ v. slice_index ys n + 2 ^ 8 * v) c
later Whole xs ys n =
    let a = get_or-append-add xs ys n 0 in
    let e1 : length xs + n + 1 ≡ length xs + (n + 1) = omega arith in
    let e2 : length xs + n + 2 ≡ length xs + (n + 2) = omega arith in
    let e3 : length xs + n + 3 ≡ length xs + (n + 3) = omega arith in
    let b = ap (slice_index (xs ++ ys)) e1 ∙ get_or-append-add xs ys (n + 1) 0 in
    let c = ap (slice_index (xs ++ ys)) e2 ∙ get_or-append-add xs ys (n + 2) 0 in
    let d = ap (slice_index (xs ++ ys)) e3 ∙ get_or-append-add xs ys (n + 3) 0 in
    ap (λ v. v + 2 ^ 8 * slice_index (xs ++ ys) (length xs + n + 1) + 2 ^ 16 * slice_index (xs ++ ys) (length xs + n + 2) + 2 ^ 24 * slice_index (xs ++ ys) (length xs + n + 3)) a
    ∙ ap (λ v. slice_index ys n + 2 ^ 8 * v + 2 ^ 16 * slice_index (xs ++ ys) (length xs + n + 2) + 2 ^ 24 * slice_index (xs ++ ys) (length xs + n + 3)) b
    ∙ ap (λ v. slice_index ys n + 2 ^ 8 * slice_index ys (n + 1) + 2 ^ 16 * v + 2 ^ 24 * slice_index (xs ++ ys) (length xs + n + 3)) c
    ∙ ap (λ v. slice_index ys n + 2 ^ 8 * slice_index ys (n + 1) + 2 ^ 16 * slice_index ys (n + 2) + 2 ^ 24 * v) d

number_first : (kind : Kind) (v : ℕ) (zs : List ℕ) → number_at (width_of kind) (element_bytes kind v ++ zs) 0 ≡ v % 2 ^ (8 * kind_bytes kind)
unfolding number_at
number_first Unsigned8 v zs = omega arith
number_first Signed8 v zs = omega arith
number_first Unsigned16 v zs = omega arith
number_first Signed16 v zs = omega arith
number_first Word v zs = omega arith

-- each element is where its place is
number_of : (kind : Kind) (vs zs : List ℕ) (i : ℕ) → i < length vs → number_at (width_of kind) (elements_bytes kind vs ++ zs) (kind_bytes kind * i) ≡ slice_index vs i % 2 ^ (8 * kind_bytes kind)
number_of kind [] zs i h = absurd (omega arith)
number_of kind (v ∷ vs) zs zero h =
    ap (λ bs. number_at (width_of kind) bs (kind_bytes kind * 0)) (append_assoc (element_bytes kind v) (elements_bytes kind vs) zs)
    ∙ ap (number_at (width_of kind) (element_bytes kind v ++ (elements_bytes kind vs ++ zs))) (none (kind_bytes kind)) ∙ number_first kind v (elements_bytes kind vs ++ zs)
  where
    none : (k : ℕ) → k * 0 ≡ 0
    none k = omega arith
number_of kind (v ∷ vs) zs (suc i) h =
    ap (λ bs. number_at (width_of kind) bs (kind_bytes kind * suc i)) (append_assoc (element_bytes kind v) (elements_bytes kind vs) zs)
    ∙ (ap (number_at (width_of kind) (element_bytes kind v ++ (elements_bytes kind vs ++ zs))) (on (kind_bytes kind) i ∙ ap (λ k. k + kind_bytes kind * i) (sym (element_length kind v)))
    ∙ (later (width_of kind) (element_bytes kind v) (elements_bytes kind vs ++ zs) (kind_bytes kind * i) ∙ number_of kind vs zs i (omega arith)))
  where
    on : (k j : ℕ) → k * suc j ≡ k + k * j
    on k j = omega arith

zero_at : (n : ℕ) (zs : List ℕ) (k : ℕ) → k < n → slice_index (replicate n 0 ++ zs) k ≡ 0
zero_at n zs k h = get_or_append_left (replicate n 0) zs 0 k (subst (λ m. k < m) (sym (length-replicate {A = ℕ} n 0)) h) ∙ get_or-replicate n k 0 0 h

zeros_number : (w : Width) (n : ℕ) (zs : List ℕ) (k : ℕ) → k + byte_count w ≤ n → number_at w (replicate n 0 ++ zs) k ≡ 0
unfolding number_at
zeros_number Byte n zs k h = zero_at n zs k (omega arith)
zeros_number Half n zs k h =
    let a = zero_at n zs k (omega arith) in
    let b = zero_at n zs (k + 1) (omega arith) in
    omega arith
zeros_number Whole n zs k h =
    let a = zero_at n zs k (omega arith) in
    let b = zero_at n zs (k + 1) (omega arith) in
    let c = zero_at n zs (k + 2) (omega arith) in
    let d = zero_at n zs (k + 3) (omega arith) in
    omega arith

nothing : (k : ℕ) → 0 % 2 ^ k ≡ 0
nothing k = omega arith

past : (kind : Kind) (n m : ℕ) → n ≤ m → kind_bytes kind * m ≡ kind_bytes kind * n + kind_bytes kind * (m - n)
past Unsigned8 n m l = omega arith
past Signed8 n m l = omega arith
past Unsigned16 n m l = omega arith
past Signed16 n m l = omega arith
past Word n m l = omega arith

within : (kind : Kind) (n m s r : ℕ) → n ≤ m → m < s → kind_bytes kind * s ≤ r → kind_bytes kind * (m - n) + kind_bytes kind ≤ r - kind_bytes kind * n
within Unsigned8 n m s r a b c = omega arith
within Signed8 n m s r a b c = omega arith
within Unsigned16 n m s r a b c = omega arith
within Signed16 n m s r a b c = omega arith
within Word n m s r a b c = omega arith

-- element i of an array: the value that is given, or 0
pub object_number : (x : Object) (zs : List ℕ) (i : ℕ) → i < x.size → number_at (width_of x.kind) (object_bytes x ++ zs) (kind_bytes x.kind * i) ≡ slice_index (take x.size x.values) i % 2 ^ (8 * kind_bytes x.kind)
object_number x zs i h = ap (λ bs. number_at (width_of x.kind) bs (kind_bytes x.kind * i)) (append_assoc given zeros zs) ∙ by (cases_lt i (length vs))
  where
    vs : List ℕ
    vs = take x.size x.values

    given : List ℕ
    given = elements_bytes x.kind vs

    zeros : List ℕ
    zeros = replicate (array_size x - length given) 0

    by : (i < length vs) ⊎ (length vs ≤ i) → number_at (width_of x.kind) (given ++ (zeros ++ zs)) (kind_bytes x.kind * i) ≡ slice_index vs i % 2 ^ (8 * kind_bytes x.kind)
    by (inl l) = number_of x.kind vs (zeros ++ zs) i l
    by (inr l) =
        let count = elements_length x.kind vs in
        let up = rounded_up (bytes_of x) in
        let on = past x.kind (length vs) i l ∙ ap (λ n. n + kind_bytes x.kind * (i - length vs)) (sym count) in
        let room = within x.kind (length vs) i x.size (array_size x) l h up in
        let fits = subst (λ n. kind_bytes x.kind * (i - length vs) + kind_bytes x.kind ≤ array_size x - n) (sym count) room in
        let past_all = get_or_past vs i 0 l in
        ap (number_at (width_of x.kind) (given ++ (zeros ++ zs))) on
        ∙ (later (width_of x.kind) given (zeros ++ zs) (kind_bytes x.kind * (i - length vs))
        ∙ (zeros_number (width_of x.kind) (array_size x - length given) zs (kind_bytes x.kind * (i - length vs)) fits
        ∙ (sym (nothing (8 * kind_bytes x.kind)) ∙ ap (λ v. v % 2 ^ (8 * kind_bytes x.kind)) (sym past_all))))

-- the bytes of an array stand in those of its row, as far behind their beginning as the array lies behind that of the row
pub record Stands (next : List ℕ) (placed : List Bool) (r k : ℕ) (xs : List Object) (o : ℕ) (x : Object) : Type 0 where
  pub before : List ℕ
  pub after : List ℕ
  pub there : row_bytes placed r k xs ≡ before ++ (object_bytes x ++ after)
  pub at : slice_index next r + length before ≡ slice_index (addresses next (spots placed k xs)) o

row_by : (b c : Bool) (x : Object) (rest : List ℕ) → b ≡ c → (if b then object_bytes x ++ rest else rest) ≡ (if c then object_bytes x ++ rest else rest)
row_by b c x rest e = ap (λ d. if d then object_bytes x ++ rest else rest) e

-- one more array comes before it
stands_more : (next : List ℕ) (placed : List Bool) (r k : ℕ) (y : Object) (xs : List Object) (o : ℕ) (x : Object) → (spot_of (slice_index_or placed k false) y).row < length next
    → Stands (moved next (spot_of (slice_index_or placed k false) y)) placed r (suc k) xs o x → Stands next placed r k (y ∷ xs) (suc o) x
stands_more next placed r k y xs o x within h = by (s.row == r) refl
  where
    s : Spot
    s = spot_of (slice_index_or placed k false) y

    add : (a b c : ℕ) → a + (b + c) ≡ a + b + c
    add a b c = omega arith

    same : (a : ℕ) → a ≡ a + 0
    same a = omega arith

    by : (b : Bool) → (s.row == r) ≡ b → Stands next placed r k (y ∷ xs) (suc o) x
    by true t =
        let on = advanced next s r within ∙ ap (λ g. slice_index next r + g) (gain_by s r true t) in
        let long = length-append (object_bytes y) h.before in
        let size = object_length y in
        let rest = h.at in
        record {
          before = object_bytes y ++ h.before;
          after = h.after;
          there = row_by (s.row == r) true y (row_bytes placed r (suc k) xs) t ∙ (ap (λ bs. object_bytes y ++ bs) h.there ∙ sym (append_assoc (object_bytes y) h.before (object_bytes x ++ h.after)));
          at = ap (λ n. slice_index next r + n) (long ∙ ap (λ n. n + length h.before) size) ∙ (add (slice_index next r) (array_size y) (length h.before) ∙ (ap (λ n. n + length h.before) (sym on) ∙ rest));
        }
    by false t =
        let on = advanced next s r within ∙ ap (λ g. slice_index next r + g) (gain_by s r false t) in
        record {
          before = h.before;
          after = h.after;
          there = row_by (s.row == r) false y (row_bytes placed r (suc k) xs) t ∙ h.there;
          at = ap (λ n. n + length h.before) (same (slice_index next r) ∙ sym on) ∙ h.at;
        }

pub stands : (next : List ℕ) (placed : List Bool) (r k : ℕ) (xs : List Object) (o : ℕ) (x : Object) → AreRows (length next) (spots placed k xs) → slice_get xs o ≡ Some x → (spot_of (slice_index_or placed (k + o) false) x).row ≡ r → Stands next placed r k xs o x
stands next placed r k [] o x rows e at = absurd (none-some x e)
stands next placed r k (y ∷ xs) zero x rows e at =
    let same = same_Some y x e in
    let here : spot_of (slice_index_or placed k false) x ≡ spot_of (slice_index_or placed (k + 0) false) x = ap (λ n. spot_of (slice_index_or placed n false) x) (omega arith) in
    let row : (spot_of (slice_index_or placed k false) y).row ≡ r = ap (λ (z : Object). (spot_of (slice_index_or placed k false) z).row) same ∙ (ap (λ (s : Spot). s.row) here ∙ at) in
    record {
      before = [];
      after = row_bytes placed r (suc k) xs;
      there = row_by ((spot_of (slice_index_or placed k false) y).row == r) true y (row_bytes placed r (suc k) xs) (grind (arith, row)) ∙ ap (λ z. object_bytes z ++ row_bytes placed r (suc k) xs) same;
      at = ap (λ n. n + 0) (ap (slice_index next) (sym row)) ∙ omega arith;
    }
stands next placed r k (y ∷ xs) (suc o) x rows e at =
    let s = spot_of (slice_index_or placed k false) y in
    stands_more next placed r k y xs o x rows.0
    (stands (moved next s) placed r (suc k) xs o x (subst (λ n. AreRows n (spots placed (suc k) xs)) (sym (length-set next s.row (slice_index next s.row + s.room))) rows.1) e
    (ap (λ n. (spot_of (slice_index_or placed n false) x).row) (on k o) ∙ at))
  where
    on : (n m : ℕ) → suc n + m ≡ n + suc m
    on n m = omega arith

-- a row has the bytes of its room
pub row_length : (placed : List Bool) (r k : ℕ) (xs : List Object) → length (row_bytes placed r k xs) ≡ row_room r (spots placed k xs)
row_length placed r k [] = refl
row_length placed r k (x ∷ xs) = by ((spot_of (slice_index_or placed k false) x).row == r) (row_length placed r (suc k) xs)
  where
    by : (b : Bool) → length (row_bytes placed r (suc k) xs) ≡ row_room r (spots placed (suc k) xs) → length (if b then object_bytes x ++ row_bytes placed r (suc k) xs else row_bytes placed r (suc k) xs) ≡ (if b then array_size x else 0) + row_room r (spots placed (suc k) xs)
    by true h = length-append (object_bytes x) (row_bytes placed r (suc k) xs) ∙ (ap (λ n. n + length (row_bytes placed r (suc k) xs)) (object_length x) ∙ ap (λ n. array_size x + n) h)
    by false h = h ∙ omega arith

pub element_stands : (next : List ℕ) (placed : List Bool) (xs : List Object) (o : ℕ) (x : Object) (zs : List ℕ) (i : ℕ) → AreRows (length next) (spots placed 0 xs) → slice_get xs o ≡ Some x → i < x.size
    → number_at (width_of x.kind) (row_bytes placed (spot_of (slice_index_or placed o false) x).row 0 xs ++ zs) (slice_index (addresses next (spots placed 0 xs)) o - slice_index next (spot_of (slice_index_or placed o false) x).row + kind_bytes x.kind * i)
    ≡ slice_index (take x.size x.values) i % 2 ^ (8 * kind_bytes x.kind)
element_stands next placed xs o x zs i rows e less =
    ap (λ bs. number_at w (bs ++ zs) at) s.there
    ∙ (ap (λ bs. number_at w bs at) (append_assoc s.before (object_bytes x ++ s.after) zs ∙ ap (λ bs. s.before ++ bs) (append_assoc (object_bytes x) s.after zs))
    ∙ (ap (number_at w (s.before ++ (object_bytes x ++ (s.after ++ zs)))) (ap (λ n. n + kind_bytes x.kind * i) behind)
    ∙ (later w s.before (object_bytes x ++ (s.after ++ zs)) (kind_bytes x.kind * i) ∙ object_number x (s.after ++ zs) i less)))
  where
    w : Width
    w = width_of x.kind

    r : ℕ
    r = (spot_of (slice_index_or placed o false) x).row

    own : (n : ℕ) → 0 + n ≡ n
    own n = omega arith

    s : Stands next placed r 0 xs o x
    s = stands next placed r 0 xs o x rows e (ap (λ n. (spot_of (slice_index_or placed n false) x).row) (own o))

    at : ℕ
    at = slice_index (addresses next (spots placed 0 xs)) o - slice_index next r + kind_bytes x.kind * i

    behind : slice_index (addresses next (spots placed 0 xs)) o - slice_index next r ≡ length s.before
    behind = let h = s.at in omega (arith, h)
