-- What is known where a function of a unit is defined.
use Rattle.std.proofs.Common.{◌≡◌, ⊎_elim, refl, ap, ◌∙◌, sym, subst, ℕ, ◌+◌, ◌≤◌, List, [], ◌∷◌, ◌++◌, drop, length, Some, arith, append-nil, append_assoc}
use Rattle.std.specs.Prelude.{slice_get}
use Rattle.std.specs.List.{All}
use Rattle.std.proofs.lemmas.List.{length-map}
use Rattle.std.proofs.lemmas.List.Elements.{All-append, All-cons, All-head, All-nil, All-tail}
use Rattle.c_tree.specs.Tree.{Row, Nothing, Then, External, Restriction, Declaring, Function}
use Rattle.types_tree.specs.Tree as typed
use Rattle.types_tree.specs.Tree.{function_name}
use Rattle.types_tree.specs.declared.variable.Variable.{Variable}
use Rattle.types_rules.specs.Scope.{Around, Outline, left, started}
use Rattle.types_rules.specs.Typing.{typed_function}
use Rattle.plan_definition.specs.Layouts.{first_of, firsts_of}
use Rattle.types_seen.specs.Growing.{Grows}
use Rattle.types_seen.proofs.Growing.{external_grows, grows_same, grows_then, inside_items}
use Rattle.types_seen.specs.Fronts.{Definition, IsFront, begun_by, behind, ended_by, external_by, function_by, functions_of}
use Rattle.plan_served.proofs.Homes.{AtLeast, AtMost}
use Rattle.types_seen.specs.Units.{IsUnit}
use Rattle.types_seen.proofs.Known.{named}
use Rattle.types_seen.proofs.Lists.{extended, slice_get-behind}
use Rattle.types_seen.proofs.Fronts.{begun_block, front_faultless, front_grows, front_less, functions_then}

pub firsts_of-append : (xs ys : List typed.Function) → firsts_of (xs ++ ys) ≡ firsts_of xs ++ firsts_of ys
firsts_of-append [] ys = refl
firsts_of-append (x ∷ xs) ys = ap (λ l. first_of x ∷ l) (firsts_of-append xs ys)

all_weaken : (P Q : ℕ → Type 0) → ((x : ℕ) → P x → Q x) → (xs : List ℕ) → All P xs → All Q xs
all_weaken P Q f [] h = All-nil Q
all_weaken P Q f (x ∷ xs) h = All-cons Q x xs (f x (All-head P x xs h)) (all_weaken P Q f xs (All-tail P x xs h))

-- functions begin no earlier than those before them
pub record IsContinued (outline : Outline) (items p : Row (External ℕ)) : Type 0 where
  pub later : List typed.Function
  pub functions_are : functions_of items (started outline) ≡ functions_of p (started outline) ++ later
  pub firsts_are : AtLeast (length (behind outline p).variables) (firsts_of later)

last_first : (n : ℕ) (x : External ℕ) (a : Around) → n ≤ length a.variables → AtLeast n (firsts_of (typed_function x a []))
last_first n (Restriction pragma) a le = All-nil (λ x. n ≤ x)
last_first n (Declaring d) a le = All-nil (λ x. n ≤ x)
last_first n (Function specifiers name name_at params body body_at at) a le = All-cons (λ x. n ≤ x) (length a.variables) [] le (All-nil (λ x. n ≤ x))

pub continued : (outline : Outline) (items p : Row (External ℕ)) → IsFront p items → IsContinued outline items p
continued outline Nothing p is = subst (IsContinued outline Nothing) (sym is) (record { later = []; functions_are = refl; firsts_are = All-nil (λ x. 0 ≤ x) })
continued outline (Then front last) p is =
    let now = behind outline front in
    ⊎_elim
    (λ (e : p ≡ Then front last). subst (IsContinued outline (Then front last)) (sym e)
    (record { later = []; functions_are = sym (append-nil (functions_of (Then front last) (started outline))); firsts_are = All-nil (λ x. length (behind outline (Then front last)).variables ≤ x) }))
    (λ (m : IsFront p front).
    let c = continued outline front p m in
    let n = length (behind outline p).variables in
    let made = typed_function last now [] in
    record {
      later = c.later ++ made;
      functions_are =
          functions_then front last (started outline)
          ∙ ap (λ l. l ++ made) c.functions_are
          ∙ append_assoc (functions_of p (started outline)) c.later made;
      firsts_are = subst (AtLeast n) (sym (firsts_of-append c.later made)) (All-append (λ x. n ≤ x) (firsts_of c.later) (firsts_of made) c.firsts_are (last_first n last now (front_grows outline front p m).more));
    })
    is

last_before : (n : ℕ) (x : External ℕ) (a : Around) → length a.variables ≤ n → AtMost n (firsts_of (typed_function x a []))
last_before n (Restriction pragma) a le = All-nil (λ x. x ≤ n)
last_before n (Declaring d) a le = All-nil (λ x. x ≤ n)
last_before n (Function specifiers name name_at params body body_at at) a le = All-cons (λ x. x ≤ n) (length a.variables) [] le (All-nil (λ x. x ≤ n))

earlier : (outline : Outline) (p : Row (External ℕ)) → AtMost (length (behind outline p).variables) (firsts_of (functions_of p (started outline)))
earlier outline Nothing = All-nil (λ x. x ≤ 0)
earlier outline (Then front last) =
    let now = behind outline front in
    let n = length (behind outline (Then front last)).variables in
    let more = (external_grows last now).more in
    subst (λ l. AtMost n (firsts_of l)) (sym (functions_then front last (started outline)))
    (subst (AtMost n) (sym (firsts_of-append (functions_of front (started outline)) (typed_function last now [])))
    (All-append (λ x. x ≤ n) (firsts_of (functions_of front (started outline))) (firsts_of (typed_function last now []))
    (all_weaken (λ x. x ≤ length now.variables) (λ x. x ≤ n) (λ x le. omega (arith, le, more)) (firsts_of (functions_of front (started outline))) (earlier outline front))
    (last_before n last now more)))

-- the functions and objects of a unit around one function's
pub record IsAmong (outline : Outline) (items front : Row (External ℕ)) (d : Definition) : Type 0 where
  pub later : List typed.Function
  pub functions_are : functions_of items (started outline) ≡ functions_of front (started outline) ++ function_by d (behind outline front) ∷ later
  pub at_most : AtMost (length (behind outline front).variables) (firsts_of (functions_of front (started outline)))
  pub at_least : AtLeast (length (ended_by d (behind outline front)).variables) (firsts_of later)
  pub own : List Variable
  pub after : List Variable
  pub ended_is : (ended_by d (behind outline front)).variables ≡ (behind outline front).variables ++ own
  pub variables_are : (behind outline items).variables ≡ (behind outline front).variables ++ (own ++ after)
  pub grows : Grows (ended_by d (behind outline front)) (behind outline items)
  pub begun : Grows (begun_by d (behind outline front)) (ended_by d (behind outline front))

pub among : (outline : Outline) (items front : Row (External ℕ)) (d : Definition) → IsFront (Then front (external_by d)) items → IsAmong outline items front d
among outline items front d is =
    let now = behind outline front in
    let all = behind outline items in
    let ended = ended_by d now in
    let whole = Then front (external_by d) in
    let c = continued outline items whole is in
    let function = function_by d now in
    let g1 : Grows now (left ended) = external_grows (external_by d) now in
    let g2 : Grows ended all = grows_then ended (left ended) all (grows_same ended (left ended) refl refl refl) (front_grows outline items whole is) in
    let own = drop (length now.variables) ended.variables in
    let after = drop (length ended.variables) all.variables in
    let ended_is : ended.variables ≡ now.variables ++ own = extended now.variables ended.variables g1.variables_are in
    record {
      later = c.later;
      functions_are =
          c.functions_are
          ∙ ap (λ l. l ++ c.later) (functions_then front (external_by d) (started outline))
          ∙ append_assoc (functions_of front (started outline)) (function ∷ []) c.later;
      at_most = earlier outline front;
      at_least = c.firsts_are;
      own = own;
      after = after;
      ended_is = ended_is;
      variables_are = extended ended.variables all.variables g2.variables_are ∙ ap (λ l. l ++ after) ended_is ∙ append_assoc now.variables own after;
      grows = g2;
      begun = (inside_items d.body (begun_by d now) (begun_block d now)).grows;
    }

-- the function of a definition, by the number that stands for it
pub function_at : (outline : Outline) (items : Row (External ℕ)) (program : typed.Program) → IsUnit outline items program → (front : Row (External ℕ)) (d : Definition) → IsFront (Then front (external_by d)) items → slice_get program.functions (length (behind outline front).defined) ≡ Some (function_by d (behind outline front))
function_at outline items program unit front d part =
    let a = among outline items front d part in
    let now = behind outline front in
    let before = functions_of front (started outline) in
    let n = named outline front (front_faultless outline items front (front_less front (external_by d) items part) unit.faultless) in
    let many : length now.defined ≡ length before + 0 = let e = ap length (n.defined ∙ sym n.names) in let m = length-map before function_name in omega (arith, e, m) in
    ap (λ l. slice_get l (length now.defined)) (unit.functions_are ∙ a.functions_are)
    ∙ ap (slice_get (before ++ function_by d now ∷ a.later)) many
    ∙ slice_get-behind before (function_by d now ∷ a.later) 0
