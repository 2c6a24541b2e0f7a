-- The responses of the tasks so far.
use Rattle.std.proofs.Common.{◌≡◌, ◌≢◌, ℕ, ◌+◌, ◌<◌, ◌≤◌, ◌↔◌, arith, refl, sym, ap, ◌∙◌, subst, inl, inr, List, [], ◌∷◌, ◌++◌, length, get_or, true, false, eqb}
use Rattle.std.proofs.lemmas.Bool.{cases_eq, eqb-true, eq-eqb, false≢true}
use Rattle.std.proofs.lemmas.List.{get_or_append_left, get_or_push, length_push}
use Rattle.response_analysis.specs.declared.task.Task.{Task}
use Rattle.response_analysis.specs.Tasks.{period_of}
use Rattle.response_analysis.specs.Equation.{workload, IsResponse, IsLeastResponse, IsLate, IsFirstLate, AreResponses, AreLeastResponses}

pub record AreFound (tasks : List Task) (n : ℕ) (found : List ℕ) : Type 0 where
  pub long : length found ≡ n
  pub each : (k : ℕ) → k < n → IsLeastResponse tasks k (get_or found k 0)

pub found_begins : (tasks : List Task) (found : List ℕ) → found ≡ [] → AreFound tasks 0 found
found_begins tasks found none = record { long = ap length none; each = λ k less. absurd (omega (arith, less)) }

pub found_more : (tasks : List Task) (n least : ℕ) (found : List ℕ) → AreFound tasks n found → IsLeastResponse tasks n least → AreFound tasks (n + 1) (found ++ least ∷ [])
found_more tasks n least found f is = record { long = length_push found least ∙ ap (λ m. m + 1) f.long; each = each }
  where
    each : (k : ℕ) → k < n + 1 → IsLeastResponse tasks k (get_or (found ++ least ∷ []) k 0)
    each k less = elim (cases_eq k n) [
      | inl here ↦ subst (λ m. IsLeastResponse tasks m (get_or (found ++ least ∷ []) m 0)) (sym here) (subst (λ r. IsLeastResponse tasks n r) (sym (get_or_push found least 0 n f.long)) is)
      | inr other ↦
          let long = f.long in
          let lower : k < n = omega (arith, less, other) in
          subst (λ r. IsLeastResponse tasks k r) (sym (get_or_append_left found (least ∷ []) 0 k (omega (arith, long, lower)))) (f.each k lower)
    ]

pub found_all : (tasks : List Task) (n : ℕ) (found : List ℕ) → AreFound tasks n found → n ≤ length tasks → length tasks ≤ n → AreLeastResponses tasks found
found_all tasks n found f low high = record { long = (let long = f.long in omega (arith, long, low, high)); each = λ i there. f.each i (omega (arith, there, high)) }

pub found_late : (tasks : List Task) (n : ℕ) (found : List ℕ) → AreFound tasks n found → n < length tasks → IsLate tasks n → IsFirstLate tasks n
found_late tasks n found f there late = record { there = there; late = late; before = λ k less. (get_or found k 0, (f.each k less).fixed) }

-- ---- the test of one response, and of all

pub over_period : (tasks : List Task) (i response : ℕ) → period_of tasks i < response → (false ≡ true) ↔ IsResponse tasks i response
over_period tasks i response over = (λ e. absurd (false≢true e), λ is. (let short = is.within in absurd (omega (arith, short, over))))

by_workload : (tasks : List Task) (i response load : ℕ) → load ≡ workload tasks i response → response ≤ period_of tasks i → (eqb load response ≡ true) ↔ IsResponse tasks i response
by_workload tasks i response load is short =
    (λ e. record { solves = sym (eqb-true load response e) ∙ is; within = short }, λ r. eq-eqb load response (is ∙ sym r.solves))

pub by_number : (tasks : List Task) (i response load number : ℕ) → load ≡ workload tasks i response → number ≡ response → response ≤ period_of tasks i → (eqb load number ≡ true) ↔ IsResponse tasks i response
by_number tasks i response load number is same short = subst (λ n. (eqb load n ≡ true) ↔ IsResponse tasks i response) (sym same) (by_workload tasks i response load is short)

pub unlike_long : (tasks : List Task) (responses : List ℕ) → (length responses ≡ length tasks → ⊥) → (false ≡ true) ↔ AreResponses tasks responses
unlike_long tasks responses unlike = (λ e. absurd (false≢true e), λ are. absurd (unlike are.long))

pub unlike_at : (tasks : List Task) (responses : List ℕ) (i : ℕ) → i < length tasks → (IsResponse tasks i (get_or responses i 0) → ⊥) → (false ≡ true) ↔ AreResponses tasks responses
unlike_at tasks responses i there unlike = (λ e. absurd (false≢true e), λ are. absurd (unlike (are.each i there)))

pub like_all : (tasks : List Task) (responses : List ℕ) (n : ℕ) → length responses ≡ length tasks → ((k : ℕ) → k < n → IsResponse tasks k (get_or responses k 0)) → length tasks ≤ n → (true ≡ true) ↔ AreResponses tasks responses
like_all tasks responses n long each high = (λ e. record { long = long; each = λ i there. each i (omega (arith, there, high)) }, λ are. refl)
