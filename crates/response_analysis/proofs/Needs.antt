-- What the jobs that pass a test have left: laws over lists of jobs, and over one that is served.
use Rattle.std.proofs.Common.{◌≡◌, ℕ, ◌+◌, ◌-◌, ◌<◌, ◌≤◌, ◌⊎◌, arith, refl, sym, ap, ◌∙◌, inl, inr, List, [], ◌∷◌, Bool, true, false, true≢false}
use Rattle.std.specs.Prelude.{◌==◌, ◌&&◌, if◌then◌else◌}
use Rattle.std.proofs.lemmas.Bool.{cases_lt, and_parts, and_from, eq-eqb, eqb-true, false≢true}
use Rattle.response_analysis.specs.Schedule.{Job, is_same, lessened, served, need_of}

-- ---- one job

-- the same job has the same task, release and need
pub record AreAlike (j k : Job) : Type 0 where
  pub task : j.task ≡ k.task
  pub release : j.release ≡ k.release
  pub need : j.need ≡ k.need

pub alike : (j k : Job) → is_same j k ≡ true → AreAlike j k
alike j k e =
    let a = and_parts (j.task == k.task) ((j.release == k.release) && (j.need == k.need)) e in
    let b = and_parts (j.release == k.release) (j.need == k.need) a.1 in
    record { task = eqb-true j.task k.task a.0; release = eqb-true j.release k.release b.0; need = eqb-true j.need k.need b.1 }

pub same_self : (j : Job) → is_same j j ≡ true
same_self j =
    and_from (j.task == j.task) ((j.release == j.release) && (j.need == j.need)) (eq-eqb j.task j.task refl)
    (and_from (j.release == j.release) (j.need == j.need) (eq-eqb j.release j.release refl) (eq-eqb j.need j.need refl))

-- a test tells them not apart
pub moved : (test : ℕ → ℕ → Bool) (j k : Job) → AreAlike j k → (b : Bool) → test j.task j.release ≡ b → test k.task k.release ≡ b
moved test j k a b e = sym (ap (λ r. test k.task r) a.release) ∙ sym (ap (λ t. test t j.release) a.task) ∙ e

-- the job stands among them
abbrev pub Among : Job → List Job → Type 0
Among k [] = ⊥
Among k (j ∷ js) = (is_same k j ≡ true) ⊎ Among k js

-- ---- sums of two lists

less_by : (p : Bool) (n x y : ℕ) → x ≤ y → (if p then n - 1 else 0) + x ≤ (if p then n else 0) + y
less_by true n x y h = omega (arith, h)
less_by false n x y h = omega (arith, h)

same_by : (p : Bool) (n x y : ℕ) → x ≤ y → (if p then n else 0) + x ≤ (if p then n else 0) + y
same_by true n x y h = omega (arith, h)
same_by false n x y h = omega (arith, h)

one_by : (p : Bool) (n x : ℕ) → (if p then n else 0) + x ≤ ((if p then n - 1 else 0) + x) + 1
one_by true n x = omega arith
one_by false n x = omega arith

then_by : (p : Bool) (n x y : ℕ) → x ≤ y + 1 → (if p then n else 0) + x ≤ ((if p then n else 0) + y) + 1
then_by true n x y h = omega (arith, h)
then_by false n x y h = omega (arith, h)

falls_by : (p : Bool) (n x : ℕ) → p ≡ true → 0 < n → ((if p then n - 1 else 0) + x) + 1 ≤ (if p then n else 0) + x
falls_by true n x e h = omega (arith, h)
falls_by false n x e h = absurd (false≢true e)

later_by : (p : Bool) (n x y : ℕ) → x + 1 ≤ y → ((if p then n else 0) + x) + 1 ≤ (if p then n else 0) + y
later_by true n x y h = omega (arith, h)
later_by false n x y h = omega (arith, h)

more_by : (p q : Bool) (n x y : ℕ) → (p ≡ true → q ≡ true) → x ≤ y → (if p then n else 0) + x ≤ (if q then n else 0) + y
more_by false q n x y h le = omega (arith, le)
more_by true true n x y h le = omega (arith, le)
more_by true false n x y h le = absurd (false≢true (h refl))

covers_by : (p q u : Bool) (n x y z : ℕ) → (p ≡ true → (q ≡ true) ⊎ (u ≡ true)) → x ≤ y + z → (if p then n else 0) + x ≤ ((if q then n else 0) + y) + ((if u then n else 0) + z)
covers_by false q u n x y z h le = omega (arith, le)
covers_by true true u n x y z h le = omega (arith, le)
covers_by true false true n x y z h le = omega (arith, le)
covers_by true false false n x y z h le = elim (h refl) [ inl e ↦ absurd (false≢true e) | inr e ↦ absurd (false≢true e) ]

none_by : (p : Bool) (n x : ℕ) → p ≡ false → x ≡ 0 → (if p then n else 0) + x ≡ 0
none_by false n x e h = omega (arith, h)
none_by true n x e h = absurd (true≢false e)

here_by : (p : Bool) (n x : ℕ) → p ≡ true → n ≤ (if p then n else 0) + x
here_by true n x e = omega arith
here_by false n x e = absurd (false≢true e)

behind_by : (p : Bool) (n m x : ℕ) → m ≤ x → m ≤ (if p then n else 0) + x
behind_by true n m x h = omega (arith, h)
behind_by false n m x h = omega (arith, h)

-- ---- tests

-- a test that fails everywhere picks nothing
pub need_none : (test : ℕ → ℕ → Bool) → ((t r : ℕ) → test t r ≡ false) → (js : List Job) → need_of test js ≡ 0
need_none test fails [] = refl
need_none test fails (j ∷ js) = none_by (test j.task j.release) j.need (need_of test js) (fails j.task j.release) (need_none test fails js)

-- a weaker test picks more
pub need_more : (test other : ℕ → ℕ → Bool) → ((t r : ℕ) → test t r ≡ true → other t r ≡ true) → (js : List Job) → need_of test js ≤ need_of other js
need_more test other weaker [] = omega arith
need_more test other weaker (j ∷ js) =
    more_by (test j.task j.release) (other j.task j.release) j.need (need_of test js) (need_of other js) (weaker j.task j.release) (need_more test other weaker js)

-- two tests that cover a third
pub need_covered : (test one two : ℕ → ℕ → Bool) → ((t r : ℕ) → test t r ≡ true → (one t r ≡ true) ⊎ (two t r ≡ true)) → (js : List Job) → need_of test js ≤ need_of one js + need_of two js
need_covered test one two covers [] = omega arith
need_covered test one two covers (j ∷ js) =
    covers_by (test j.task j.release) (one j.task j.release) (two j.task j.release) j.need (need_of test js) (need_of one js) (need_of two js) (covers j.task j.release) (need_covered test one two covers js)

-- a job that passes counts
pub need_among : (test : ℕ → ℕ → Bool) (k : Job) (js : List Job) → Among k js → test k.task k.release ≡ true → k.need ≤ need_of test js
need_among test k [] among passes = absurd among
need_among test k (j ∷ js) (inl same) passes =
    let a = alike k j same in
    let need = a.need in
    let here = here_by (test j.task j.release) j.need (need_of test js) (moved test k j a true passes) in
    omega (arith, need, here)
need_among test k (j ∷ js) (inr later) passes =
    behind_by (test j.task j.release) j.need k.need (need_of test js) (need_among test k js later passes)

-- where there is need, a job has it
pub record HasNeed (test : ℕ → ℕ → Bool) (js : List Job) : Type 0 where
  pub job : Job
  pub among : Among job js
  pub passes : test job.task job.release ≡ true
  pub needs : 0 < job.need

pub some_need : (test : ℕ → ℕ → Bool) (js : List Job) → 0 < need_of test js → HasNeed test js
some_need test [] h = absurd (omega (arith, h))
some_need test (j ∷ js) h = by (test j.task j.release) refl h (some_need test js)
  where
    behind : HasNeed test js → HasNeed test (j ∷ js)
    behind s = record { job = s.job; among = inr s.among; passes = s.passes; needs = s.needs }

    by : (b : Bool) → test j.task j.release ≡ b → 0 < (if b then j.need else 0) + need_of test js → (0 < need_of test js → HasNeed test js) → HasNeed test (j ∷ js)
    by false e h later = behind (later (omega (arith, h)))
    by true e h later = elim (cases_lt 0 j.need) [
      | inl needs ↦ record { job = j; among = inl (same_self j); passes = e; needs = needs }
      | inr nothing ↦ behind (later (omega (arith, h, nothing)))
    ]

-- ---- one job is served

-- nobody's need grows
pub served_less : (test : ℕ → ℕ → Bool) (k : Job) (js : List Job) → need_of test (served k js) ≤ need_of test js
served_less test k [] = omega arith
served_less test k (j ∷ js) = by (is_same k j) (served_less test k js)
  where
    by : (b : Bool) → need_of test (served k js) ≤ need_of test js → need_of test (if b then lessened j ∷ js else j ∷ served k js) ≤ need_of test (j ∷ js)
    by true h = less_by (test j.task j.release) j.need (need_of test js) (need_of test js) (omega arith)
    by false h = same_by (test j.task j.release) j.need (need_of test (served k js)) (need_of test js) h

-- and falls by one at most
pub served_one : (test : ℕ → ℕ → Bool) (k : Job) (js : List Job) → need_of test js ≤ need_of test (served k js) + 1
served_one test k [] = omega arith
served_one test k (j ∷ js) = by (is_same k j) (served_one test k js)
  where
    by : (b : Bool) → need_of test js ≤ need_of test (served k js) + 1 → need_of test (j ∷ js) ≤ need_of test (if b then lessened j ∷ js else j ∷ served k js) + 1
    by true h = one_by (test j.task j.release) j.need (need_of test js)
    by false h = then_by (test j.task j.release) j.need (need_of test js) (need_of test (served k js)) h

-- by one exactly where the job that is served passes
pub served_falls : (test : ℕ → ℕ → Bool) (k : Job) (js : List Job) → Among k js → test k.task k.release ≡ true → 0 < k.need → need_of test (served k js) + 1 ≤ need_of test js
served_falls test k [] among passes needs = absurd among
served_falls test k (j ∷ js) among passes needs = by (is_same k j) refl among (λ later. served_falls test k js later passes needs)
  where
    by : (b : Bool) → is_same k j ≡ b → (b ≡ true) ⊎ Among k js → (Among k js → need_of test (served k js) + 1 ≤ need_of test js) → need_of test (if b then lessened j ∷ js else j ∷ served k js) + 1 ≤ need_of test (j ∷ js)
    by true e how later =
        let a = alike k j e in
        let need = a.need in
        falls_by (test j.task j.release) j.need (need_of test js) (moved test k j a true passes) (omega (arith, need, needs))
    by false e (inl same) later = absurd (false≢true same)
    by false e (inr among) later = later_by (test j.task j.release) j.need (need_of test (served k js)) (need_of test js) (later among)

-- and not at all where it doesn't
pub served_other : (test : ℕ → ℕ → Bool) (k : Job) (js : List Job) → test k.task k.release ≡ false → need_of test js ≤ need_of test (served k js)
served_other test k [] fails = omega arith
served_other test k (j ∷ js) fails = by (is_same k j) refl (served_other test k js fails)
  where
    spares : (p : Bool) (n x : ℕ) → p ≡ false → (if p then n else 0) + x ≤ (if p then n - 1 else 0) + x
    spares false n x e = omega arith
    spares true n x e = absurd (true≢false e)

    by : (b : Bool) → is_same k j ≡ b → need_of test js ≤ need_of test (served k js) → need_of test (j ∷ js) ≤ need_of test (if b then lessened j ∷ js else j ∷ served k js)
    by true e h =
        spares (test j.task j.release) j.need (need_of test js) (moved test k j (alike k j e) false fails)
    by false e h = same_by (test j.task j.release) j.need (need_of test js) (need_of test (served k js)) h
