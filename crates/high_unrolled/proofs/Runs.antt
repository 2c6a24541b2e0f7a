-- What statements become does what they do.
use Rattle.std.proofs.Common.{◌≡◌, ℕ, zero, suc, ◌+◌, ◌*◌, ◌≤◌, Bool, true, false, List, [], ◌∷◌, map, Option, Some, None, refl, sym, subst, arith, All}
use Rattle.high_code.proofs.Joined.{run_all-alone, then_do-Goes, then_do-then_do}
use Rattle.high_ir.specs.Meaning.{Outcome, Goes, Bad, State, Calls, Labels, then_do, turns, with_value, choose, after_call, pass, run, run_all, value_of, values_of, objects_of}
use Rattle.high_ir.specs.Runs.{frame, only_good, takes}
use Rattle.high_ir.specs.Splitting.{split}
use Rattle.high_ir.specs.Standing.{marks_of, marks_of_all}
use Rattle.high_ir.specs.Tree.{Statement, Set, Put, Get, Keep, Mark, Seq, If, Loop, Block, Leave, Call, Return, Statements, End, Then, Function}
use Rattle.high_pass.proofs.Elements.{All-append_back, All-append_front}
use Rattle.high_unrolled.specs.Serving.{CallsServe, FunctionStands, Serves, ServesLabel}
use Rattle.high_unrolled.proofs.ServingOrders.{serves_block, serves_call, serves_choose, serves_given, serves_good, serves_pass, serves_same, serves_then, serves_through, serves_turns, serves_value}
use Rattle.high_unrolled.specs.declared.made.Made.{Made}
use Rattle.high_unrolled.specs.declared.made.Made.TheVariants.{CopyOf, Behind}
use Rattle.high_unrolled.specs.Factor.{Rolled, as_loop, ended, first_starts, grouped, is_short, is_taken, turned}
use Rattle.high_unrolled.specs.Programs.{with_body}
use Rattle.high_unrolled.specs.Starts.{mark_count, remarked, remarked_all, repeated, starts}
use Rattle.high_unrolled.specs.Unrolling.{Place, Became, after, at_loop, inside, spread, spread_all, taken}
use Rattle.high_unrolled.proofs.Numbered.{Numbered, copies_back, copies_front, numbered_back, numbered_behind, numbered_front}
use Rattle.high_unrolled.proofs.Rolling.{by_factor_serves, only_starts, times}
use Rattle.high_unrolled.proofs.Taking.{taken_factor}

-- the label that a new mark has
abbrev pub made_label : Made → Option ℕ
made_label (CopyOf y) = Some y
made_label (Behind l) = None

abbrev pub IsLabelled : Labels → Made → ℕ → Type 0
IsLabelled m x k = ServesLabel (made_label x) (m k)

module _ (m : Labels) (c d : Calls) (calls : CallsServe c d) (passed : List ℕ) where
  mutual
    remarked_serves : (a : ℕ) (s : Statement) → Numbered (IsLabelled m) a (map CopyOf (marks_of s)) → (st : State) → Serves (run Some c passed s st) (run m d passed (remarked a s) st)
    remarked_serves a (Mark k) h st = serves_pass (Some k) (m a) st h.0
    remarked_serves a (Seq parts) h st = all_serve a parts h st
    remarked_serves a (If test first other) h st =
        serves_value (value_of passed st.variables st.world test)
        (λ v. choose v (run Some c passed first st) (run Some c passed other st))
        (λ v. choose v (run m d passed (remarked a first) st) (run m d passed (remarked (a + mark_count first) other) st))
        (λ v. serves_choose v (run Some c passed first st) (run Some c passed other st) (run m d passed (remarked a first) st) (run m d passed (remarked (a + mark_count first) other) st)
        (remarked_serves a first (copies_front (IsLabelled m) a (marks_of first) (marks_of other) h) st)
        (remarked_serves (a + mark_count first) other (copies_back (IsLabelled m) a (marks_of first) (marks_of other) h) st))
    remarked_serves a (Loop id least most body) h st = serves_turns most least (run Some c passed body) (run m d passed (remarked a body)) (λ u. remarked_serves a body h u) st
    remarked_serves a (Block body) h st = serves_block (run Some c passed body st) (run m d passed (remarked a body) st) (remarked_serves a body h st)
    remarked_serves a (Call f values arrays into) h st =
        serves_value (values_of passed st.variables st.world values)
        (λ vs. with_value (objects_of passed arrays) (λ ns. after_call st.variables into (c f vs ns st.world st.trace)))
        (λ vs. with_value (objects_of passed arrays) (λ ns. after_call st.variables into (d f vs ns st.world st.trace)))
        (λ vs. serves_value (objects_of passed arrays) (λ ns. after_call st.variables into (c f vs ns st.world st.trace)) (λ ns. after_call st.variables into (d f vs ns st.world st.trace))
        (λ ns. serves_call st.variables into (c f vs ns st.world st.trace) (d f vs ns st.world st.trace) (calls.by f vs ns st.world st.trace)))
    remarked_serves a (Set x e) h st = serves_same (run m d passed (Set x e) st)
    remarked_serves a (Put e) h st = serves_same (run m d passed (Put e) st)
    remarked_serves a (Get x) h st = serves_same (run m d passed (Get x) st)
    remarked_serves a (Keep array i e) h st = serves_same (run m d passed (Keep array i e) st)
    remarked_serves a (Leave depth) h st = refl
    remarked_serves a (Return e) h st = serves_same (run m d passed (Return e) st)

    all_serve : (a : ℕ) (parts : Statements) → Numbered (IsLabelled m) a (map CopyOf (marks_of_all parts)) → (st : State) → Serves (run_all Some c passed parts st) (run_all m d passed (remarked_all a parts) st)
    all_serve a End h st = refl
    all_serve a (Then first rest) h st =
        serves_then (run Some c passed first st) (run m d passed (remarked a first) st) (run_all Some c passed rest) (run_all m d passed (remarked_all (a + mark_count first) rest))
        (remarked_serves a first (copies_front (IsLabelled m) a (marks_of first) (marks_of_all rest) h) st)
        (λ u. all_serve (a + mark_count first) rest (copies_back (IsLabelled m) a (marks_of first) (marks_of_all rest) h) u)

  -- so many starts, and then what other statements serve for
  starts_serve : (n a : ℕ) (body : Statement) (next : State → Outcome) (behind : Statements) → Numbered (IsLabelled m) a (map CopyOf (repeated n (marks_of body))) → ((st : State) → Serves (next st) (run_all m d passed behind st)) →
      (st : State) → Serves (then_do (times n (run Some c passed body) st) next) (run_all m d passed (starts n a body behind) st)
  starts_serve zero a body next behind h goes st = goes st
  starts_serve (suc n) a body next behind h goes st =
      subst (λ o. Serves o (run_all m d passed (starts (suc n) a body behind) st)) (sym (then_do-then_do (run Some c passed body st) (times n (run Some c passed body)) next))
      (serves_then (run Some c passed body st) (run m d passed (remarked a body) st) (λ u. then_do (times n (run Some c passed body) u) next) (run_all m d passed (starts n (a + mark_count body) body behind))
      (remarked_serves a body (copies_front (IsLabelled m) a (marks_of body) (repeated n (marks_of body)) h) st)
      (λ u. starts_serve n (a + mark_count body) body next behind (copies_back (IsLabelled m) a (marks_of body) (repeated n (marks_of body)) h) goes u))

  ended_serves : (a : ℕ) (x : Rolled) → Numbered (IsLabelled m) a (map CopyOf (repeated x.bounds.most (marks_of x.body))) → (st : State) → Serves (turns x.bounds.most x.bounds.least (run Some c passed x.body) st) (run m d passed (ended a x) st)
  ended_serves a x h st =
      serves_through (turns x.bounds.most x.bounds.least (run Some c passed x.body) st) (then_do (times x.bounds.most (run Some c passed x.body) st) (λ u. Bad)) (run m d passed (ended a x) st)
      (only_starts (run Some c passed x.body) x.bounds.most x.bounds.least (λ u. Bad) st)
      (starts_serve x.bounds.most a x.body (λ u. Bad) (Then (Mark (a + x.bounds.most * mark_count x.body)) End) h (λ u. tt) st)

  grouped_serves : (k a : ℕ) (x : Rolled) → Numbered (IsLabelled m) a (map CopyOf (repeated k (marks_of x.body))) → (st : State) → Serves (times k (run Some c passed x.body) st) (run m d passed (grouped k a x) st)
  grouped_serves k a x h st =
      subst (λ o. Serves o (run m d passed (grouped k a x) st)) (then_do-Goes (times k (run Some c passed x.body) st))
      (starts_serve k a x.body Goes End h (λ u. refl) st)

  turned_serves : (k a number : ℕ) (x : Rolled) → 1 ≤ k → Numbered (IsLabelled m) a (map CopyOf (repeated (first_starts k x) (marks_of x.body))) → Numbered (IsLabelled m) (a + first_starts k x * mark_count x.body) (map CopyOf (repeated k (marks_of x.body))) →
      (st : State) → Serves (turns x.bounds.most x.bounds.least (run Some c passed x.body) st) (run m d passed (turned k a number x) st)
  turned_serves k a number x one front back st =
      let inner : Statement = grouped k (a + first_starts k x * mark_count x.body) x in
      let rolled : Statement = Loop number (split x.bounds k).least (split x.bounds k).most inner in
      serves_through (turns x.bounds.most x.bounds.least (run Some c passed x.body) st)
      (then_do (times (first_starts k x) (run Some c passed x.body) st) (turns (split x.bounds k).most (split x.bounds k).least (times k (run Some c passed x.body))))
      (run m d passed (turned k a number x) st)
      (by_factor_serves (run Some c passed x.body) x.bounds k one st)
      (starts_serve (first_starts k x) a x.body (turns (split x.bounds k).most (split x.bounds k).least (times k (run Some c passed x.body))) (Then rolled End) front
      (λ u. subst (Serves (turns (split x.bounds k).most (split x.bounds k).least (times k (run Some c passed x.body)) u)) (sym (run_all-alone m d passed rolled u))
      (serves_turns (split x.bounds k).most (split x.bounds k).least (times k (run Some c passed x.body)) (run m d passed inner) (λ v. grouped_serves k (a + first_starts k x * mark_count x.body) x back v) u)) st)

  module _ (k : ℕ) where
    taken_serves : (short : Bool) (z : Place) (x : Rolled) → 1 ≤ k → Numbered (IsLabelled m) z.marks (taken k short z x).made → (st : State) → Serves (turns x.bounds.most x.bounds.least (run Some c passed x.body) st) (run m d passed (taken k short z x).code st)
    taken_serves true z x one h st = ended_serves z.marks x (numbered_front (IsLabelled m) z.marks (map CopyOf (repeated x.bounds.most (marks_of x.body))) (Behind x.id ∷ []) h) st
    taken_serves false z x one h st =
        turned_serves k z.marks z.loops x one
        (numbered_front (IsLabelled m) z.marks (map CopyOf (repeated (first_starts k x) (marks_of x.body))) (map CopyOf (repeated k (marks_of x.body))) h)
        (numbered_behind (IsLabelled m) z.marks (first_starts k x) (marks_of x.body) (map CopyOf (repeated k (marks_of x.body))) h) st

    loop_serves : (takes : Bool) → (takes ≡ true → 1 ≤ k) → (level : ℕ) (z : Place) (x : Rolled) (inner : Became Statement) →
        (Numbered (IsLabelled m) z.marks inner.made → (u : State) → Serves (run Some c passed x.body u) (run m d passed inner.code u)) →
        Numbered (IsLabelled m) z.marks (at_loop k takes level z x inner).made → (st : State) → Serves (turns x.bounds.most x.bounds.least (run Some c passed x.body) st) (run m d passed (at_loop k takes level z x inner).code st)
    loop_serves true one level z x inner ih h st = taken_serves (is_short k x) z x (one refl) h st
    loop_serves false one level z x inner ih h st = serves_turns x.bounds.most x.bounds.least (run Some c passed x.body) (run m d passed inner.code) (ih h) st

    mutual
      pub spread_serves : (level : ℕ) (z : Place) (s : Statement) → All (λ y. m y ≡ Some y) (marks_of s) → Numbered (IsLabelled m) z.marks (spread k level z s).made → (st : State) → Serves (run Some c passed s st) (run m d passed (spread k level z s).code st)
      spread_serves level z (Loop id least most body) own h st =
          loop_serves (is_taken k z.room level (as_loop id least most body)) (taken_factor k z.room level (as_loop id least most body)) level z (as_loop id least most body) (spread k (level + 1) (inside z) body)
          (λ numbered u. spread_serves (level + 1) (inside z) body own numbered u) h st
      spread_serves level z (Seq parts) own h st = spread_all_serve (level + 1) z parts own h st
      spread_serves level z (If test first other) own h st =
          let x = spread k (level + 1) z first in
          let y = spread k (level + 1) (after z x) other in
          serves_value (value_of passed st.variables st.world test)
          (λ v. choose v (run Some c passed first st) (run Some c passed other st))
          (λ v. choose v (run m d passed x.code st) (run m d passed y.code st))
          (λ v. serves_choose v (run Some c passed first st) (run Some c passed other st) (run m d passed x.code st) (run m d passed y.code st)
          (spread_serves (level + 1) z first (All-append_front (λ n. m n ≡ Some n) (marks_of first) (marks_of other) own) (numbered_front (IsLabelled m) z.marks x.made y.made h) st)
          (spread_serves (level + 1) (after z x) other (All-append_back (λ n. m n ≡ Some n) (marks_of first) (marks_of other) own) (numbered_back (IsLabelled m) z.marks x.made y.made h) st))
      spread_serves level z (Block body) own h st = serves_block (run Some c passed body st) (run m d passed (spread k (level + 1) z body).code st) (spread_serves (level + 1) z body own h st)
      spread_serves level z (Mark n) own h st =
          let label : m n ≡ Some n = own 0 0 (omega arith) in
          serves_pass (Some n) (m n) st label
      spread_serves level z (Call f values arrays into) own h st = remarked_serves z.marks (Call f values arrays into) tt st
      spread_serves level z (Set x e) own h st = serves_same (run m d passed (Set x e) st)
      spread_serves level z (Put e) own h st = serves_same (run m d passed (Put e) st)
      spread_serves level z (Get x) own h st = serves_same (run m d passed (Get x) st)
      spread_serves level z (Keep array i e) own h st = serves_same (run m d passed (Keep array i e) st)
      spread_serves level z (Leave depth) own h st = refl
      spread_serves level z (Return e) own h st = serves_same (run m d passed (Return e) st)

      pub spread_all_serve : (level : ℕ) (z : Place) (parts : Statements) → All (λ y. m y ≡ Some y) (marks_of_all parts) → Numbered (IsLabelled m) z.marks (spread_all k level z parts).made → (st : State) → Serves (run_all Some c passed parts st) (run_all m d passed (spread_all k level z parts).code st)
      spread_all_serve level z End own h st = refl
      spread_all_serve level z (Then first rest) own h st =
          let x = spread k level z first in
          let y = spread_all k level (after z x) rest in
          serves_then (run Some c passed first st) (run m d passed x.code st) (run_all Some c passed rest) (run_all m d passed y.code)
          (spread_serves level z first (All-append_front (λ n. m n ≡ Some n) (marks_of first) (marks_of_all rest) own) (numbered_front (IsLabelled m) z.marks x.made y.made h) st)
          (λ u. spread_all_serve level (after z x) rest (All-append_back (λ n. m n ≡ Some n) (marks_of first) (marks_of_all rest) own) (numbered_back (IsLabelled m) z.marks x.made y.made h) u)

-- a function whose body is such a statement
pub function_stands : (m : Labels) (k f : ℕ) (z : Place) (h : Function) → m f ≡ Some f → All (λ y. m y ≡ Some y) (marks_of h.body) → Numbered (IsLabelled m) z.marks (spread k 0 z h.body).made →
    FunctionStands m f (Some h) (Some (with_body h (spread k 0 z h.body).code))
function_stands m k f z h label own numbered = record {
  by = λ c d calls values arrays w t.
      let st : State = record { variables = frame h values; world = w; trace = t } in
      let a = then_do (pass (Some f) st) (run Some c arrays h.body) in
      let b = then_do (pass (m f) st) (run m d arrays (spread k 0 z h.body).code) in
      serves_given (only_good (takes h values arrays) a) (only_good (takes h values arrays) b)
      (serves_good (takes h values arrays) a b
      (serves_then (pass (Some f) st) (pass (m f) st) (run Some c arrays h.body) (run m d arrays (spread k 0 z h.body).code)
      (serves_pass (Some f) (m f) st label)
      (λ u. spread_serves m c d calls arrays k 0 z h.body own numbered u)));
}
