-- What joined pieces of code do.
use Rattle.std.proofs.Common.{◌≡◌, ℕ, List, Bool, true, false, refl, sym, ap, ◌∙◌}
use Rattle.std.specs.Prelude.{◌||◌}
use Rattle.high_ir.specs.Tree.{Statement, Statements, End, Then}
use Rattle.high_ir.specs.Meaning.{State, Outcome, Goes, Leaves, Returns, Bad, Calls, Labels, then_do, run, run_all}
use Rattle.high_code.specs.Code.{joined, alone, assigns, assigns_any, AllWithin}

-- one step after another, grouped otherwise
pub then_do-then_do : (o : Outcome) (f g : State → Outcome) → then_do (then_do o f) g ≡ then_do o (λ st. then_do (f st) g)
then_do-then_do (Goes st) f g = refl
then_do-then_do (Leaves d st) f g = refl
then_do-then_do (Returns v w t) f g = refl
then_do-then_do Bad f g = refl

pub then_do-same : (o : Outcome) (f g : State → Outcome) → ((st : State) → f st ≡ g st) → then_do o f ≡ then_do o g
then_do-same (Goes st) f g same = same st
then_do-same (Leaves d st) f g same = refl
then_do-same (Returns v w t) f g same = refl
then_do-same Bad f g same = refl

pub then_do-Goes : (o : Outcome) → then_do o Goes ≡ o
then_do-Goes (Goes st) = refl
then_do-Goes (Leaves d st) = refl
then_do-Goes (Returns v w t) = refl
then_do-Goes Bad = refl

module _ (label : Labels) (call : Calls) (passed : List ℕ) where
  pub run_all-joined : (a b : Statements) (st : State) → run_all label call passed (joined a b) st ≡ then_do (run_all label call passed a st) (run_all label call passed b)
  run_all-joined End b st = refl
  run_all-joined (Then first rest) b st =
      then_do-same (run label call passed first st) (run_all label call passed (joined rest b)) (λ st1. then_do (run_all label call passed rest st1) (run_all label call passed b)) (run_all-joined rest b)
      ∙ sym (then_do-then_do (run label call passed first st) (run_all label call passed rest) (run_all label call passed b))

  pub run_all-alone : (s : Statement) (st : State) → run_all label call passed (alone s) st ≡ run label call passed s st
  run_all-alone s st = then_do-Goes (run label call passed s st)

pub AllWithin-joined : (n : ℕ) (a b : Statements) → AllWithin n (joined a b) → AllWithin n a × AllWithin n b
AllWithin-joined n End b h = (tt, h)
AllWithin-joined n (Then first rest) b h = let r = AllWithin-joined n rest b h.1 in ((h.0, r.0), r.1)

or_assoc : (a b c : Bool) → ((a || b) || c) ≡ (a || (b || c))
or_assoc true b c = refl
or_assoc false b c = refl

pub assigns_any-joined : (x : ℕ) (a b : Statements) → assigns_any x (joined a b) ≡ (assigns_any x a || assigns_any x b)
assigns_any-joined x End b = refl
assigns_any-joined x (Then first rest) b = ap (λ t. assigns x first || t) (assigns_any-joined x rest b) ∙ sym (or_assoc (assigns x first) (assigns_any x rest) (assigns_any x b))
