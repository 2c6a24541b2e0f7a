-- Lists as they are gone through.
use Rattle.std.proofs.Common.{◌≡◌, ◌<◌, ◌≤◌, ℕ, ◌+◌, List, [], length, map, sym, ap, ◌∙◌, ⊎_elim, arith}
use Rattle.std.specs.Prelude.{slice_get, slice_index_or, Vec}
use Rattle.std.specs.Global.{Global}
use Rattle.std.proofs.lemmas.Bool.{cases_lt}
use Rattle.std.proofs.lemmas.List.{get_or-map, get_or_past, length-map}
use Rattle.low_ir.specs.Code.{Function, Low, Note}
use Rattle.low_ir.specs.declared.low.Function as functions
use Rattle.pass_register_promotion_law.specs.Paying.{ArePaid}
use Rattle.pass_register_promotion_law.specs.Promoting.{Resident, promoted_function, promoted_functions, residents_at}
use Rattle.pass_register_promotion_law.proofs.Tables.{function_promoted}
use Rattle.pass_register_promotion.specs.declared.residents.Resident as residents
use Rattle.pass_register_promotion.specs.Checking.{ArePaidBeside}
use Rattle.pass_register_promotion.specs.Residents.{of_function, resident_of}

-- each function is paid for
pub all_paid : (hss : List (List Resident)) (q : Low) (new : List (Function ℕ Note)) → new ≡ promoted_functions hss 0 q.functions → ArePaidBeside new q.functions → ArePaid q hss
all_paid hss q new same beside f fn e = beside f fn (promoted_function (residents_at hss f) fn) e (ap (λ gs. slice_get gs f) same ∙ function_promoted hss q f fn e)

pub few_step : (rs : List (Vec residents.Resident Global)) (i : ℕ) (x : Vec residents.Resident Global) → i < length rs → x ≡ slice_index_or rs i x → length x.items ≤ 8 → ((f : ℕ) → f < i → length (residents_at (map of_function rs) f) ≤ 8) → (f : ℕ) → f < i + 1 → length (residents_at (map of_function rs) f) ≤ 8
few_step rs i x lt is few h f less =
    ⊎_elim
    (λ (low : f < i). h f low)
    (λ (high : i ≤ f).
    let same : f ≡ i = omega (arith, less, high) in
    let own : residents_at (map of_function rs) i ≡ of_function x = get_or-map of_function rs i x [] lt ∙ ap of_function (sym is) in
    let count = length-map x.items resident_of in
    let size : length (residents_at (map of_function rs) f) ≡ length x.items = ap (λ n. length (residents_at (map of_function rs) n)) same ∙ ap length own ∙ count in
    omega (arith, few, size))
    (cases_lt f i)

pub few_done : (rs : List (Vec residents.Resident Global)) (i : ℕ) → length rs ≤ i → ((f : ℕ) → f < i → length (residents_at (map of_function rs) f) ≤ 8) → (f : ℕ) → length (residents_at (map of_function rs) f) ≤ 8
few_done rs i past h f =
    ⊎_elim
    (λ (low : f < i). h f low)
    (λ (high : i ≤ f).
    let count = length-map rs of_function in
    let none : residents_at (map of_function rs) f ≡ [] = get_or_past (map of_function rs) f [] (omega (arith, past, high, count)) in
    let size : length (residents_at (map of_function rs) f) ≡ 0 = ap length none in
    omega (arith, size))
    (cases_lt f i)
