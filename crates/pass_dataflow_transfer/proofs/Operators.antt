-- Operators, modulo 2^32.
use Rattle.std.proofs.Common.{◌≡◌, ◌<◌, ℕ, ◌+◌, ◌*◌, Some, refl, sym, ap, ◌∙◌, arith}
use Rattle.std.specs.Prelude.{◌-◌, ◌%◌, ◌^◌}
use Rattle.std.proofs.Math.Nat.{add-mul-mod_self_right, mod-lt, mod-mod}
use Rattle.rv_core.specs.declared.row.Alu.{Alu}
use Rattle.rv_core.specs.declared.row.Alu.TheVariants.{Sum, Difference, Product, ShiftLeft}
use Rattle.rv_core.specs.Arithmetic.{alu_value}
use Rattle.wcc_base.specs.Words.{left_shift_word}
use Rattle.low_ir.specs.declared.run.Value.TheVariants.{Word}
use Rattle.low_ir.specs.Code.{Operand, Constant, Register}
use Rattle.low_ir.specs.Runs.{Bank, operand_value, virtual}
use Rattle.pass_dataflow_facts.specs.declared.forms.Form.{Form}
use Rattle.pass_dataflow_facts.specs.Facts.{number_in}
use Rattle.pass_dataflow_facts.specs.Forms.{Numbers, Same, form_value}
use Rattle.pass_dataflow_facts.proofs.Modulo.{same_multiple, same_numbers, same_sum}
use Rattle.pass_dataflow_transfer.specs.Learning.{Counts, Gives, GivesHere, HoldsSmall, IsAlways, StepsBy}

abbrev word : ℕ
word = 2 ^ 32

pub sums : (m n : ℕ) → Same (alu_value Sum m n) (m + n)
unfolding alu_value
sums m n = mod-mod (m + n) word

pub products : (m n : ℕ) → Same (alu_value Product m n) (m * n)
unfolding alu_value
products m n = mod-mod (m * n) word

pub differences : (m n : ℕ) → Same (alu_value Difference m n) (m + (2 ^ 32 - n))
unfolding alu_value
differences m n = mod-mod (m + (2 ^ 32 - n)) word

pub shifts : (m n : ℕ) → Same (alu_value ShiftLeft m n) (m * left_shift_word 1 n)
unfolding alu_value
shifts m n =
    let p = 2 ^ (n % 32) in
    let one : 1 * p ≡ p = omega arith in
    mod-mod (m * p) word ∙ same_multiple m p (1 * p) (same_numbers p (1 * p) (sym one)) ∙ same_multiple m (1 * p) (1 * p % word) (sym (mod-mod (1 * p) word))

-- a constant operand
pub constant_value : (s : Bank) (w n : ℕ) → operand_value virtual s (Constant w) ≡ Some (Word n) → n ≡ w % 2 ^ 32
constant_value s w n e = cc

pub word_less : (s : Bank) (w n : ℕ) → operand_value virtual s (Constant w) ≡ Some (Word n) → n < 2 ^ 32
word_less s w n e = let is = constant_value s w n e in let low : w % 2 ^ 32 < 2 ^ 32 = omega arith in omega (arith, is, low)

-- a word is the same as what was found for it
pub same_word : (s : Bank) (w n : ℕ) → operand_value virtual s (Constant w) ≡ Some (Word n) → Same n w
same_word s w n e = same_numbers _ _ (constant_value s w n e) ∙ mod-mod w word

-- numbers with their operands' forms
pub sum_gives : (a b f : Form) (y : Operand ℕ) → ((v : Numbers) → Same (form_value v f) (form_value v a + 1 * form_value v b)) → Gives Sum a b y f
sum_gives a b f y is s m n l r e =
    let v = number_in s in
    let one : form_value v a + form_value v b ≡ form_value v a + 1 * form_value v b = omega arith in
    sums m n ∙ same_sum m (form_value v a) n (form_value v b) l r ∙ same_numbers _ _ one ∙ sym (is v)

scaled : (m n x k : ℕ) → Same m x → Same n k → Same (m * n) (0 + k * x)
scaled m n x k e f =
    let turned : m * k ≡ k * m = omega arith in
    let last : k * x ≡ 0 + k * x = omega arith in
    same_multiple m n k f ∙ same_numbers _ _ turned ∙ same_multiple k m x e ∙ same_numbers _ _ last

pub right_product : (a b f none : Form) (y : Operand ℕ) → ((v : Numbers) → form_value v b ≡ b.constant) → ((v : Numbers) → form_value v none ≡ 0) → ((v : Numbers) → Same (form_value v f) (form_value v none + b.constant * form_value v a)) → Gives Product a b y f
right_product a b f none y constant none_is is s m n l r e =
    let v = number_in s in
    products m n
    ∙ scaled m n (form_value v a) b.constant l (r ∙ same_numbers _ _ (constant v))
    ∙ same_numbers _ _ (ap (λ x. x + b.constant * form_value v a) (sym (none_is v)))
    ∙ sym (is v)

pub left_product : (a b f none : Form) (y : Operand ℕ) → ((v : Numbers) → form_value v a ≡ a.constant) → ((v : Numbers) → form_value v none ≡ 0) → ((v : Numbers) → Same (form_value v f) (form_value v none + a.constant * form_value v b)) → Gives Product a b y f
left_product a b f none y constant none_is is s m n l r e =
    let v = number_in s in
    let turned : m * n ≡ n * m = omega arith in
    products m n
    ∙ same_numbers _ _ turned
    ∙ scaled n m (form_value v b) a.constant r (l ∙ same_numbers _ _ (constant v))
    ∙ same_numbers _ _ (ap (λ x. x + a.constant * form_value v b) (sym (none_is v)))
    ∙ sym (is v)

pub shift_gives : (a b f none : Form) (w k : ℕ) → ((v : Numbers) → form_value v none ≡ 0) → k ≡ left_shift_word 1 (w % 2 ^ 32) → ((v : Numbers) → Same (form_value v f) (form_value v none + k * form_value v a)) → Gives ShiftLeft a b (Constant w) f
shift_gives a b f none w k none_is by is s m n l r e =
    let v = number_in s in
    let power : left_shift_word 1 n ≡ k = ap (left_shift_word 1) (constant_value s w n e) ∙ sym by in
    shifts m n
    ∙ scaled m (left_shift_word 1 n) (form_value v a) k l (same_numbers _ _ power)
    ∙ same_numbers _ _ (ap (λ x. x + k * form_value v a) (sym (none_is v)))
    ∙ sym (is v)

-- less a word is more by its opposite
less : (n w back : ℕ) → n < 2 ^ 32 → Same n w → Same (back + w) 0 → Same (2 ^ 32 - n) back
less n w back low e none =
    let k = 2 ^ 32 - n in
    let zero : k ≡ k + 0 = omega arith in
    let turned : k + (back + n) ≡ back + 2 ^ 32 = omega (arith, low) in
    let last : back + 0 ≡ back = omega arith in
    same_numbers k (k + 0) zero
    ∙ same_sum k k 0 (back + n) refl (sym none ∙ same_sum back back w n refl (sym e))
    ∙ same_numbers _ _ turned
    ∙ same_sum back back (2 ^ 32) 0 refl refl
    ∙ same_numbers _ _ last

-- what operators give is below 2^32
some : 0 < 2 ^ 32
some = omega arith

pub sums_small : (m n : ℕ) → alu_value Sum m n < 2 ^ 32
unfolding alu_value
sums_small m n = mod-lt (m + n) some

pub products_small : (m n : ℕ) → alu_value Product m n < 2 ^ 32
unfolding alu_value
products_small m n = mod-lt (m * n) some

pub differences_small : (m n : ℕ) → alu_value Difference m n < 2 ^ 32
unfolding alu_value
differences_small m n = mod-lt (m + (2 ^ 32 - n)) some

pub shifts_small : (m n : ℕ) → alu_value ShiftLeft m n < 2 ^ 32
unfolding alu_value
shifts_small m n = mod-lt (m * 2 ^ (n % 32)) some

-- a word below 2^32 taken off
pub small_difference : (a b f : Form) (x y : Operand ℕ) (s : Bank) → Counts x a s → Counts y b s → HoldsSmall y s → ((v : Numbers) → Same (form_value v f) (form_value v a + 4294967295 * form_value v b)) → GivesHere Difference x y f s
small_difference a b f x y s left right small is m n l r =
    let v = number_in s in
    let low : n < 2 ^ 32 = small n r in
    let k = 2 ^ 32 - n in
    let whole : k + n * 2 ^ 32 ≡ 4294967295 * n + 1 * 2 ^ 32 = omega (arith, low) in
    differences m n
    ∙ same_sum m (form_value v a) k (4294967295 * form_value v b) (left (Word m) l)
    (sym (add-mul-mod_self_right k n (2 ^ 32)) ∙ same_numbers _ _ whole ∙ add-mul-mod_self_right (4294967295 * n) 1 (2 ^ 32) ∙ same_multiple 4294967295 n (form_value v b) (right (Word n) r))
    ∙ sym (is v)

-- what is given of two forms, is where these are the operands'
pub gives_here : (op : Alu) (a b f : Form) (x y : Operand ℕ) (s : Bank) → Counts x a s → Counts y b s → Gives op a b y f → GivesHere op x y f s
gives_here op a b f x y s left right says m n l r = says s m n (left (Word m) l) (right (Word n) r) r

-- steps
pub sum_steps : (d c : ℕ) (y : Operand ℕ) (s : Bank) → IsAlways y c s → StepsBy Sum d (Register d) y c s
sum_steps d c y s is m n l r = record { was = m; is = l; more = sums m n ∙ same_sum m m n c refl (is (Word n) r); small = sums_small m n }

pub sum_steps_turned : (d c : ℕ) (x : Operand ℕ) (s : Bank) → IsAlways x c s → StepsBy Sum d x (Register d) c s
sum_steps_turned d c x s is m n l r =
    let turned : m + n ≡ n + m = omega arith in
    record { was = n; is = r; more = sums m n ∙ same_numbers _ _ turned ∙ same_sum n n m c refl (is (Word m) l); small = sums_small m n }

pub difference_steps : (d w back : ℕ) (s : Bank) → Same (back + w) 0 → StepsBy Difference d (Register d) (Constant w) back s
difference_steps d w back s none m n l r = record { was = m; is = l; more = differences m n ∙ same_sum m m (2 ^ 32 - n) back refl (less n w back (word_less s w n r) (same_word s w n r) none); small = differences_small m n }
