-- The job that is chosen: it is ready, and none that is ready goes before it.
use Rattle.std.proofs.Common.{◌≡◌, ℕ, ◌<◌, ◌≤◌, arith, refl, inl, inr, List, [], ◌∷◌, Option, Some, None, Bool, true, false, true≢false}
use Rattle.std.specs.Prelude.{nat_lt, nat_le, ◌==◌, ◌&&◌, if◌then◌else◌}
use Rattle.std.proofs.lemmas.Bool.{ltb-true, ltb-false, leb-true, eqb-true, eqb-false, lt-ltb, le-leb, and_parts, and_from, and_cases, or_cases, or_parts, false≢true}
use Rattle.response_analysis.specs.Schedule.{Job, is_ready, goes_before, first_of, chosen, is_same}
use Rattle.response_analysis.proofs.Needs.{AreAlike, alike, same_self, Among}

-- the job has no greater place than the other
pub record IsNoLater (j k : Job) : Type 0 where
  pub tasks : j.task ≤ k.task
  pub releases : j.task ≡ k.task → j.release ≤ k.release

before : (j k : Job) → goes_before j k ≡ true → IsNoLater j k
before j k e = elim (or_cases (nat_lt j.task k.task) ((j.task == k.task) && nat_lt j.release k.release) e) [
  | inl less ↦ let lt = ltb-true j.task k.task less in record { tasks = omega (arith, lt); releases = λ same. absurd (omega (arith, lt, same)) }
  | inr both ↦
      let parts = and_parts (j.task == k.task) (nat_lt j.release k.release) both in
      let same = eqb-true j.task k.task parts.0 in
      let lt = ltb-true j.release k.release parts.1 in
      record { tasks = omega (arith, same); releases = λ e. omega (arith, lt) }
]

not_before : (j k : Job) → goes_before j k ≡ false → IsNoLater k j
not_before j k e =
    let parts = or_parts (nat_lt j.task k.task) ((j.task == k.task) && nat_lt j.release k.release) e in
    let le = ltb-false j.task k.task parts.0 in
    record {
      tasks = omega (arith, le);
      releases = λ same. elim (and_cases (j.task == k.task) (nat_lt j.release k.release) parts.1) [
        | inl unlike ↦ absurd (eqb-false j.task k.task unlike (omega (arith, same)))
        | inr later ↦ ltb-false j.release k.release later
      ];
    }

no_later : (j k l : Job) → IsNoLater j k → IsNoLater k l → IsNoLater j l
no_later j k l a b =
    let x = a.tasks in let y = b.tasks in
    record { tasks = omega (arith, x, y); releases = λ same. (let p = a.releases (omega (arith, x, y, same)) in let q = b.releases (omega (arith, x, y, same)) in omega (arith, p, q)) }

-- a job that is ready in that cycle
pub record IsReady (n : ℕ) (j : Job) : Type 0 where
  pub released : j.release ≤ n
  pub needs : 0 < j.need

ready : (n : ℕ) (j : Job) → is_ready n j ≡ true → IsReady n j
ready n j e =
    let parts = and_parts (nat_le j.release n) (nat_lt 0 j.need) e in
    record { released = leb-true j.release n parts.0; needs = ltb-true 0 j.need parts.1 }

ready_from : (n : ℕ) (j : Job) → IsReady n j → is_ready n j ≡ true
ready_from n j r = and_from (nat_le j.release n) (nat_lt 0 j.need) (le-leb j.release n r.released) (lt-ltb 0 j.need r.needs)

like_ready : (n : ℕ) (j k : Job) → AreAlike j k → IsReady n j → IsReady n k
like_ready n j k a r =
    let release = a.release in let need = a.need in let x = r.released in let y = r.needs in
    record { released = omega (arith, release, x); needs = omega (arith, need, y) }

like_later : (k j l : Job) → AreAlike l j → IsNoLater k j → IsNoLater k l
like_later k j l a n =
    let task = a.task in let release = a.release in let x = n.tasks in
    record { tasks = omega (arith, task, x); releases = λ same. (let y = n.releases (omega (arith, task, same)) in omega (arith, release, y)) }

no_later_self : (j : Job) → IsNoLater j j
no_later_self j = record { tasks = omega arith; releases = λ same. omega arith }

-- it is ready and stands among them, and none of them that is ready goes before it
pub record IsFirst (n : ℕ) (js : List Job) (k : Job) : Type 0 where
  pub among : Among k js
  pub ready : IsReady n k
  pub first : (j : Job) → Among j js → IsReady n j → IsNoLater k j

-- what is chosen is first, or none is ready
abbrev pub IsChoice : ℕ → List Job → Option Job → Type 0
IsChoice n js None = (j : Job) → Among j js → IsReady n j → ⊥
IsChoice n js (Some k) = IsFirst n js k

pub chooses : (n : ℕ) (js : List Job) → IsChoice n js (chosen n js)
chooses n [] = λ j among r. absurd among
chooses n (j ∷ js) = by_ready (is_ready n j) refl (chosen n js) (chooses n js)
  where
    alone : is_ready n j ≡ true → ((l : Job) → Among l js → IsReady n l → ⊥) → IsFirst n (j ∷ js) j
    alone e none = record { among = inl (same_self j); ready = ready n j e; first = first }
      where
        first : (l : Job) → Among l (j ∷ js) → IsReady n l → IsNoLater j l
        first l (inl same) r = like_later j j l (alike l j same) (no_later_self j)
        first l (inr later) r = absurd (none l later r)

    by_order : (b : Bool) (k : Job) → is_ready n j ≡ true → goes_before k j ≡ b → IsFirst n js k → IsFirst n (j ∷ js) (if b then k else j)
    by_order true k e order f = record { among = inr f.among; ready = f.ready; first = first }
      where
        first : (l : Job) → Among l (j ∷ js) → IsReady n l → IsNoLater k l
        first l (inl same) r = like_later k j l (alike l j same) (before k j order)
        first l (inr later) r = f.first l later r
    by_order false k e order f = record { among = inl (same_self j); ready = ready n j e; first = first }
      where
        first : (l : Job) → Among l (j ∷ js) → IsReady n l → IsNoLater j l
        first l (inl same) r = like_later j j l (alike l j same) (no_later_self j)
        first l (inr later) r = no_later j k l (not_before k j order) (f.first l later r)

    without : is_ready n j ≡ false → (l : Job) → is_same l j ≡ true → IsReady n l → ⊥
    without e l same r = unready (is_ready n j) e (ready_from n j (like_ready n l j (alike l j same) r))
      where
        unready : (b : Bool) → b ≡ false → b ≡ true → ⊥
        unready true e f = true≢false e
        unready false e f = false≢true f

    by_ready : (b : Bool) → is_ready n j ≡ b → (o : Option Job) → IsChoice n js o → IsChoice n (j ∷ js) (if b then Some (first_of j o) else o)
    by_ready true e None none = alone e none
    by_ready true e (Some k) f = by_order (goes_before k j) k e refl f
    by_ready false e None none = λ l among r. elim among [ inl same ↦ without e l same r | inr later ↦ none l later r ]
    by_ready false e (Some k) f = record { among = inr f.among; ready = f.ready; first = first }
      where
        first : (l : Job) → Among l (j ∷ js) → IsReady n l → IsNoLater k l
        first l (inl same) r = absurd (without e l same r)
        first l (inr later) r = f.first l later r
