-- Rows of parts as the walk meets them, each seen behind those before it.
use Rattle.std.proofs.Common.{◌≡◌, refl, ap, ◌∙◌, sym, ℕ, ◌+◌, ◌<◌, ◌≤◌, List, [], ◌∷◌, ◌++◌, length, get_or, drop, Option, Some, None, append_assoc, append-nil}
use Rattle.std.proofs.lemmas.List.{drop_all}
use Rattle.c_tree.specs.Tree.{Row, Nothing, Then}
use Rattle.c_tree.specs.View.{row_of}
use Rattle.types_rules.specs.Scope.{Around, after_row, or_else}
use Rattle.types_rules.specs.Sights.{Node, first_fault, row_nodes}
use Rattle.types_rules.specs.Typing.{typed_row}
use Rattle.types_rules.specs.declared.fault.Fault.{Fault}
use Rattle.types_expression.proofs.Arguments.{drop_item}
use Rattle.types_expression.proofs.Choice.{or_else-assoc}
use Rattle.types_expression.proofs.FirstFault.{first_fault-append}

-- how parts are walked: what the code's part is, what one leaves visible, and its nodes
pub record Walk (A B : Type 0) : Type 0 where
  pub view : A → B
  pub step : B → Around → Around
  pub nodes : B → Around → List Node

abbrev pub after_each : {A B : Type 0} → Walk A B → List A → Around → Around
after_each w [] a = a
after_each w (x ∷ xs) a = after_each w xs (w.step (w.view x) a)

abbrev pub fault_each : {A B : Type 0} → Walk A B → List A → Around → Option Fault
fault_each w [] a = None
fault_each w (x ∷ xs) a = or_else (first_fault (w.nodes (w.view x) a)) (fault_each w xs (w.step (w.view x) a))

abbrev pub typed_each : {A B T : Type 0} → Walk A B → (B → Around → List T → List T) → List A → Around → List T → List T
typed_each w make [] a rest = rest
typed_each w make (x ∷ xs) a rest = make (w.view x) a (typed_each w make xs (w.step (w.view x) a) rest)

or_else-none : {A : Type 0} (o : Option A) → or_else o None ≡ o
or_else-none (Some x) = refl
or_else-none None = refl

after_row-each : {A B : Type 0} (w : Walk A B) (front : Row B) (xs : List A) (a : Around) → after_row w.step (row_of w.view front xs) a ≡ after_each w xs (after_row w.step front a)
after_row-each w front [] a = refl
after_row-each w front (x ∷ xs) a = after_row-each w (Then front (w.view x)) xs a

row_fault-each : {A B : Type 0} (w : Walk A B) (front : Row B) (xs : List A) (a : Around) → first_fault (row_nodes w.step w.nodes (row_of w.view front xs) a) ≡ or_else (first_fault (row_nodes w.step w.nodes front a)) (fault_each w xs (after_row w.step front a))
row_fault-each w front [] a = sym (or_else-none (first_fault (row_nodes w.step w.nodes front a)))
row_fault-each w front (x ∷ xs) a =
    let now = after_row w.step front a in
    row_fault-each w (Then front (w.view x)) xs a
    ∙ ap (λ o. or_else o (fault_each w xs (w.step (w.view x) now))) (first_fault-append (row_nodes w.step w.nodes front a) (w.nodes (w.view x) now))
    ∙ or_else-assoc (first_fault (row_nodes w.step w.nodes front a)) (first_fault (w.nodes (w.view x) now)) (fault_each w xs (w.step (w.view x) now))

typed_row-each : {A B T : Type 0} (w : Walk A B) (make : B → Around → List T → List T) (front : Row B) (xs : List A) (a : Around) (rest : List T) → typed_row w.step make (row_of w.view front xs) a rest ≡ typed_row w.step make front a (typed_each w make xs (after_row w.step front a) rest)
typed_row-each w make front [] a rest = refl
typed_row-each w make front (x ∷ xs) a rest = typed_row-each w make (Then front (w.view x)) xs a rest

-- a walk behind the parts before i
pub record SoFar {A B : Type 0} (w : Walk A B) (given : List A) (a : Around) (i : ℕ) (now : Around) (fault : Option Fault) : Type 0 where
  pub after_is : after_each w given a ≡ after_each w (drop i given) now
  pub fault_is : fault_each w given a ≡ or_else fault (fault_each w (drop i given) now)

-- what was made of the parts before i
pub record Made {A B T : Type 0} (w : Walk A B) (make : B → Around → List T → List T) (given : List A) (a : Around) (i : ℕ) (now : Around) (made : List T) : Type 0 where
  pub typed_is : typed_each w make given a [] ≡ made ++ typed_each w make (drop i given) now []

pub one_more : {A B : Type 0} (w : Walk A B) (given : List A) (a : Around) (i : ℕ) (x : A) (now next : Around) (fault fault_now : Option Fault)
    → i < length given → x ≡ get_or given i x → SoFar w given a i now fault → next ≡ w.step (w.view x) now → fault_now ≡ first_fault (w.nodes (w.view x) now)
    → SoFar w given a (i + 1) next (or_else fault fault_now)
one_more w given a i x now next fault fault_now h is s n f =
    let split = drop_item given i x h is in
    let rest = drop (i + 1) given in
    record {
      after_is = s.after_is ∙ ap (λ xs. after_each w xs now) split ∙ ap (after_each w rest) (sym n);
      fault_is = s.fault_is ∙ ap (λ xs. or_else fault (fault_each w xs now)) split
          ∙ ap (λ o. or_else fault (or_else o (fault_each w rest (w.step (w.view x) now)))) (sym f)
          ∙ ap (λ b. or_else fault (or_else fault_now (fault_each w rest b))) (sym n)
          ∙ sym (or_else-assoc fault fault_now (fault_each w rest next));
    }

pub made_more : {A B T : Type 0} (w : Walk A B) (make : B → Around → List T → List T) (given : List A) (a : Around) (i : ℕ) (x : A) (now next : Around) (made many : List T)
    → i < length given → x ≡ get_or given i x → Made w make given a i now made → next ≡ w.step (w.view x) now → ((rest : List T) → make (w.view x) now rest ≡ many ++ rest)
    → Made w make given a (i + 1) next (made ++ many)
made_more w make given a i x now next made many h is m n e =
    let split = drop_item given i x h is in
    let rest = drop (i + 1) given in
    record {
      typed_is = m.typed_is ∙ ap (λ xs. made ++ typed_each w make xs now []) split
          ∙ ap (λ ts. made ++ ts) (e (typed_each w make rest (w.step (w.view x) now) []))
          ∙ ap (λ b. made ++ (many ++ typed_each w make rest b [])) (sym n)
          ∙ sym (append_assoc made many (typed_each w make rest next []));
    }

pub all_after : {A B : Type 0} (w : Walk A B) (given : List A) (a : Around) (i : ℕ) (now : Around) (fault : Option Fault) → length given ≤ i → SoFar w given a i now fault → now ≡ after_row w.step (row_of w.view Nothing given) a
all_after w given a i now fault all s = sym (after_row-each w Nothing given a ∙ s.after_is ∙ ap (λ xs. after_each w xs now) (drop_all i given all))

pub all_faults : {A B : Type 0} (w : Walk A B) (given : List A) (a : Around) (i : ℕ) (now : Around) (fault : Option Fault) → length given ≤ i → SoFar w given a i now fault → fault ≡ first_fault (row_nodes w.step w.nodes (row_of w.view Nothing given) a)
all_faults w given a i now fault all s =
    sym (row_fault-each w Nothing given a ∙ s.fault_is ∙ ap (λ xs. or_else fault (fault_each w xs now)) (drop_all i given all) ∙ or_else-none fault)

pub all_made : {A B T : Type 0} (w : Walk A B) (make : B → Around → List T → List T) (given : List A) (a : Around) (i : ℕ) (now : Around) (made : List T) → length given ≤ i → Made w make given a i now made → made ≡ typed_row w.step make (row_of w.view Nothing given) a []
all_made w make given a i now made all m =
    sym (typed_row-each w make Nothing given a [] ∙ m.typed_is ∙ ap (λ xs. made ++ typed_each w make xs now []) (drop_all i given all) ∙ append-nil made)
