-- Steps of runs over virtual registers, and code that only computes.
use Rattle.std.proofs.Common.{◌≡◌, ℕ, zero, suc, ◌+◌, Bool, true, false, List, [], ◌∷◌, ◌++◌, length, Option, Some, None, refl, sym, ap, ◌∙◌, arith, append_assoc}
use Rattle.std.specs.Prelude.{◌%◌, ◌^◌, slice_index_or}
use Rattle.std.proofs.lemmas.Option.{same_Some}
use Rattle.rv_core.specs.Arithmetic.{alu_value}
use Rattle.low_ir.specs.Code.{Address, Plain, Set, Operate, Point, Load, Store, Put, Get, Instr, Do, Call, Low, Note, Base, Fixed, Through}
use Rattle.low_ir.specs.declared.run.Value.{Value}
use Rattle.low_ir.specs.declared.run.Value.TheVariants.{Word, Pointer}
use Rattle.low_ir.specs.Effects.{World, Did, there, only_if, with_next, with_one, nothing_more, word, pointer, from_base, by_offset, resolved, effect, effect_of, reads, dest, gives, loaded, is_member}
use Rattle.low_ir.specs.Runs.{Run, Going, Bank, virtual, values, write_to, goes_on, finish, at_code, step, run}
use Rattle.lower_definition.specs.Operators.{Code}
use Rattle.lower_values.specs.Computing.{after_instr, computed}
use Rattle.lower_program.specs.Following.{Goer, After}

module _ (q : Low) where
  pub now : (r : Goer) (P : Goer → Type 0) → P r → After q (Going r) P
  now r P h = record { steps = 0; state = r; is = refl; holds = h }

  run_add : (n m : ℕ) (z : Run ℕ Note Bank) → run virtual q (n + m) z ≡ run virtual q m (run virtual q n z)
  run_add zero m z = let e : 0 + m ≡ m = omega arith in ap (λ k. run virtual q k z) e
  run_add (suc n) m z = let e : suc n + m ≡ suc (n + m) = omega arith in ap (λ k. run virtual q k z) e ∙ run_add n m (step virtual q z)

  pub and_then : (z : Run ℕ Note Bank) (P Q : Goer → Type 0) → After q z P → ((r : Goer) → P r → After q (Going r) Q) → After q z Q
  and_then z P Q a go =
      let b = go a.state a.holds in
      record { steps = a.steps + b.steps; state = b.state; is = run_add a.steps b.steps z ∙ ap (run virtual q b.steps) a.is ∙ b.is; holds = b.holds }

  pub after_map : (z : Run ℕ Note Bank) (P Q : Goer → Type 0) → After q z P → ((r : Goer) → P r → Q r) → After q z Q
  after_map z P Q a go = record { steps = a.steps; state = a.state; is = a.is; holds = go a.state a.holds }

  pub steps_to : (n : ℕ) (z y : Run ℕ Note Bank) (P : Goer → Type 0) → run virtual q n z ≡ y → After q y P → After q z P
  steps_to n z y P e a = record { steps = n + a.steps; state = a.state; is = run_add n a.steps z ∙ ap (run virtual q a.steps) e ∙ a.is; holds = a.holds }

  pub step_to : (z y : Run ℕ Note Bank) (P : Goer → Type 0) → step virtual q z ≡ y → After q y P → After q z P
  step_to z y P e a = steps_to 1 z y P e a

-- what leaves the world as it is
abbrev Keeps : World → Option Did → Type 0
Keeps u None = Unit {0}
Keeps u (Some d) = d.world ≡ u

keeps_next : (u : World) (xs : List Value) (go : Value → List Value → Option Did) → ((x : Value) (rest : List Value) → Keeps u (go x rest)) → Keeps u (with_next xs go)
keeps_next u [] go h = tt
keeps_next u (x ∷ xs) go h = h x xs

keeps_nothing : (u : World) (xs : List Value) (d : Option Did) → Keeps u d → Keeps u (nothing_more xs d)
keeps_nothing u [] d h = h
keeps_nothing u (x ∷ xs) d h = tt

keeps_one : (u : World) (xs : List Value) (go : Value → Option Did) → ((x : Value) → Keeps u (go x)) → Keeps u (with_one xs go)
keeps_one u xs go h = keeps_next u xs (λ x rest. nothing_more rest (go x)) (λ x rest. keeps_nothing u rest (go x) (h x))

keeps_word : (u : World) (x : Value) (go : ℕ → Option Did) → ((w : ℕ) → Keeps u (go w)) → Keeps u (word x go)
keeps_word u (Word w) go h = h w
keeps_word u (Pointer o n) go h = tt

keeps_pointer : (u : World) (x : Value) (go : ℕ → ℕ → Option Did) → ((o n : ℕ) → Keeps u (go o n)) → Keeps u (pointer x go)
keeps_pointer u (Word w) go h = tt
keeps_pointer u (Pointer o n) go h = h o n

keeps_if : (u : World) (b : Bool) (d : Option Did) → Keeps u d → Keeps u (only_if b d)
keeps_if u false d h = tt
keeps_if u true d h = h

keeps_there : {A : Type 0} (u : World) (o : Option A) (go : A → Option Did) → ((x : A) → Keeps u (go x)) → Keeps u (there o go)
keeps_there u None go h = tt
keeps_there u (Some x) go h = h x

keeps_offset : (u : World) (offset : Option ℕ) (xs : List Value) (go : ℕ → Option Did) → ((n : ℕ) → Keeps u (go n)) → Keeps u (by_offset offset xs go)
keeps_offset u None xs go h = keeps_nothing u xs (go 0) (h 0)
keeps_offset u (Some r) xs go h = keeps_one u xs (λ x. word x go) (λ x. keeps_word u x go h)

keeps_base : (u : World) (claims : List (List ℕ)) (b : Base ℕ) (xs : List Value) (go : ℕ → ℕ → List Value → Option Did) → ((o n : ℕ) (rest : List Value) → Keeps u (go o n rest)) → Keeps u (from_base claims b xs go)
keeps_base u claims (Fixed o) xs go h = h o 0 xs
keeps_base u claims (Through r c) xs go h =
    let pick : ℕ → ℕ → List Value → Option Did = λ o n rest. only_if (is_member (slice_index_or claims c []) o) (go o n rest) in
    keeps_next u xs (λ x rest. pointer x (λ o n. pick o n rest))
    (λ x rest. keeps_pointer u x (λ o n. pick o n rest) (λ o n. keeps_if u (is_member (slice_index_or claims c []) o) (go o n rest) (h o n rest)))

keeps_resolved : (u : World) (claims : List (List ℕ)) (a : Address ℕ) (xs : List Value) (go : ℕ → ℕ → Option Did) → ((o n : ℕ) → Keeps u (go o n)) → Keeps u (resolved claims a xs go)
keeps_resolved u claims a xs go h =
    keeps_base u claims a.base xs (λ o n rest. by_offset a.offset rest (λ w. go o ((n + w + a.displacement) % 2 ^ 32)))
    (λ o n rest. keeps_offset u a.offset rest (λ w. go o ((n + w + a.displacement) % 2 ^ 32)) (λ w. h o ((n + w + a.displacement) % 2 ^ 32)))

-- a step by code, from what it computes
finish_is : (r : Goer) (is : List (Instr ℕ Note)) (d : Option ℕ) (o : Option Did) (s1 : Bank) → Keeps r.world o → there o (λ e. write_to virtual r.top.store d e.value) ≡ Some s1 → finish virtual r is d o ≡ Going (record r { top = record r.top { code = is; store = s1 }; world = r.world })
finish_is r is d None s1 k e = cc
finish_is r is d (Some f) s1 k e = ap (λ w. goes_on r is w (write_to virtual r.top.store d f.value)) k ∙ ap (goes_on r is r.world) e

instr_steps : (claims : List (List ℕ)) (r : Goer) (is : List (Instr ℕ Note)) (i : Plain ℕ) (s1 : Bank) → after_instr claims r.world i r.top.store ≡ Some s1 → finish virtual r is (dest i) (effect_of claims i (values virtual r.top.store (reads i)) r.world) ≡ Going (record r { top = record r.top { code = is; store = s1 }; world = r.world })
instr_steps claims r is (Set d x) s1 e =
    let u = r.world in
    let os = values virtual r.top.store (reads (Set d x)) in
    finish_is r is (Some d) (effect_of claims (Set d x) os u) s1
    (keeps_there u os (λ xs. effect claims (Set d x) xs u) (λ xs. keeps_one u xs (gives u) (λ v. refl))) e
instr_steps claims r is (Operate operator d x y) s1 e =
    let u = r.world in
    let os = values virtual r.top.store (reads (Operate operator d x y)) in
    let go : ℕ → ℕ → Option Did = λ m n. gives u (Word (alu_value operator m n)) in
    finish_is r is (Some d) (effect_of claims (Operate operator d x y) os u) s1
    (keeps_there u os (λ xs. effect claims (Operate operator d x y) xs u)
    (λ xs. keeps_next u xs (λ p rest. with_one rest (λ z. word p (λ m. word z (λ n. go m n))))
    (λ p rest. keeps_one u rest (λ z. word p (λ m. word z (λ n. go m n))) (λ z. keeps_word u p (λ m. word z (λ n. go m n)) (λ m. keeps_word u z (λ n. go m n) (λ n. refl)))))) e
instr_steps claims r is (Point d a) s1 e =
    let u = r.world in
    let os = values virtual r.top.store (reads (Point d a)) in
    finish_is r is (Some d) (effect_of claims (Point d a) os u) s1
    (keeps_there u os (λ xs. effect claims (Point d a) xs u) (λ xs. keeps_resolved u claims a xs (λ o n. gives u (Pointer o n)) (λ o n. refl))) e
instr_steps claims r is (Load kind d a) s1 e =
    let u = r.world in
    let os = values virtual r.top.store (reads (Load kind d a)) in
    finish_is r is (Some d) (effect_of claims (Load kind d a) os u) s1
    (keeps_there u os (λ xs. effect claims (Load kind d a) xs u)
    (λ xs. keeps_resolved u claims a xs (λ o n. there (loaded u.objects kind o n) (λ w. gives u (Word w))) (λ o n. keeps_there u (loaded u.objects kind o n) (λ w. gives u (Word w)) (λ w. refl)))) e
instr_steps claims r is (Store kind a x) s1 e = cc
instr_steps claims r is (Put x) s1 e = cc
instr_steps claims r is (Get d) s1 e = cc

-- what was there where something follows
record Was (o : Option Bank) (go : Bank → Option Bank) (s : Bank) : Type 0 where
  value : Bank
  is : o ≡ Some value
  then_is : go value ≡ Some s

was : (o : Option Bank) (go : Bank → Option Bank) (s : Bank) → there o go ≡ Some s → Was o go s
was None go s e = cc
was (Some x) go s e = record { value = x; is = refl; then_is = e }

-- where a run is behind code that computes
abbrev pub behind : Goer → Code → Bank → Goer
behind r rest s = record r { top = record r.top { code = rest; store = s }; world = r.world }

pub computed_runs : (q : Low) (code rest : Code) (r : Goer) (s : Bank) → r.top.code ≡ code ++ rest → computed q.claims r.world code r.top.store ≡ Some s → run virtual q (length code) (Going r) ≡ Going (behind r rest s)
computed_runs q [] rest r s e f = ap (λ c. Going (behind r c r.top.store)) e ∙ ap (λ z. Going (behind r rest z)) (same_Some r.top.store s f)
computed_runs q (Call into g args note ∷ is) rest r s e f = cc
computed_runs q (Do i ∷ is) rest r s e f =
    let a = was (after_instr q.claims r.world i r.top.store) (computed q.claims r.world is) s f in
    let r1 = behind r (is ++ rest) a.value in
    ap (λ c. run virtual q (length is) (at_code virtual q r c)) e
    ∙ ap (run virtual q (length is)) (instr_steps q.claims r (is ++ rest) i a.value a.is)
    ∙ computed_runs q is rest r1 s refl a.then_is

pub three : (a b c d : Code) → (a ++ (b ++ c)) ++ d ≡ (a ++ b) ++ (c ++ d)
three a b c d = ap (λ x. x ++ d) (sym (append_assoc a b c)) ∙ append_assoc (a ++ b) c d
