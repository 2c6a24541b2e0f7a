-- A unit that has a typed tree has a main, and each function that is called is one of its own.
use Rattle.std.proofs.Common.{◌≡◌, refl, sym, ℕ, ◌+◌, ◌<◌, ◌≤◌, List, [], ◌∷◌, ◌++◌, length, Some, None, Bool, true, false, ◌||◌, nat_eq, if◌then◌else◌, arith, length-append}
use Rattle.std.specs.List.{All, list_any}
use Rattle.std.proofs.lemmas.List.Elements.{All-cons, All-head, All-nil, All-tail}
use Rattle.std.proofs.lemmas.Bool.{false≢true}
use Rattle.std.proofs.lemmas.Option.{none-some}
use Rattle.c_tree.specs.Size.{size_unit}
use Rattle.c_tree.specs.Tree.{Row, Nothing, Then, External, Restriction, Declaring, Function, Whole}
use Rattle.types_tree.specs.Tree as typed
use Rattle.types_calls.specs.Calls.{CallsDefined, function_calls}
use Rattle.types_rules.specs.Limits.{broken, limits_before, limits_behind, tally_unit, variables_of}
use Rattle.types_rules.specs.Scope.{Around, after_row, started, with_number}
use Rattle.types_rules.specs.Sights.{after_external, definitions, externals_nodes, fault_at, first_fault, has_main, outline_of, unit_nodes, unit_rule}
use Rattle.types_rules.specs.Typed.{fault_behind, fault_of, typed_of}
use Rattle.types_rules.specs.Typing.{typed_function, typed_row}
use Rattle.types_rules.specs.declared.fault.Rule.TheVariants as rules
use Rattle.types_seen.proofs.CallsBelow.{Below, functions_below, safe}
use Rattle.types_seen.proofs.Rules.{no_rule, none_first, none_second}
use Rattle.types_seen.proofs.Units.{not_broken}

is_found : (b : Bool) → (if b then None else Some rules.Main) ≡ None → b ≡ true
is_found true h = refl
is_found false h = absurd (none-some rules.Main (sym h))

pub passes_main : (names : List (List ℕ)) (items : Row (External ℕ)) (at : ℕ) → fault_of names (Whole items at) ≡ None → has_main (outline_of names (Whole items at)).main items ≡ true
passes_main names items at h =
    let unit = Whole items at in
    let outline = outline_of names unit in
    let first = first_fault (unit_nodes outline unit) in
    let own = fault_at (unit_rule unit outline) at in
    let behind = none_second (limits_before (size_unit unit).nodes (tally_unit unit)) (fault_behind outline unit) h in
    let rule = not_broken first (none_first (broken first) (limits_behind (variables_of outline unit)) behind) in
    is_found (has_main outline.main items) (no_rule (unit_rule unit outline) at (none_first own (first_fault (externals_nodes items (started outline))) rule))

with_number-some : (ns : List ℕ) (n : ℕ) → 0 < length (with_number ns n)
with_number-some [] n = omega arith
with_number-some (m ∷ ns) n = of (list_any (nat_eq n) (m ∷ ns))
  where
    of : (b : Bool) → 0 < length (if b then m ∷ ns else (m ∷ ns) ++ n ∷ [])
    of true = omega arith
    of false = omega arith

with_number-few : (ns : List ℕ) (n : ℕ) → length (with_number ns n) ≤ length ns + 1
with_number-few ns n = of (list_any (nat_eq n) ns)
  where
    of : (b : Bool) → length (if b then ns else ns ++ n ∷ []) ≤ length ns + 1
    of true = omega arith
    of false = let h = length-append ns (n ∷ []) in omega (arith, h)

or-left : (b : Bool) → (b || false) ≡ true → b ≡ true
or-left true h = refl
or-left false h = h

pub some_definition : (main : ℕ) (items : Row (External ℕ)) → has_main main items ≡ true → 0 < length (definitions items)
some_definition main Nothing h = absurd (false≢true h)
some_definition main (Then front (Restriction pragma)) h = some_definition main front (or-left (has_main main front) h)
some_definition main (Then front (Declaring d)) h = some_definition main front (or-left (has_main main front) h)
some_definition main (Then front (Function specifiers name name_at params body body_at at)) h = with_number-some (definitions front) name

pub as_many : (items : Row (External ℕ)) (a : Around) (rest : List typed.Function) → length (definitions items) + length rest ≤ length (typed_row after_external typed_function items a rest)
as_many Nothing a rest = omega arith
as_many (Then front (Restriction pragma)) a rest = as_many front a rest
as_many (Then front (Declaring d)) a rest = as_many front a rest
as_many (Then front (Function specifiers name name_at params body body_at at)) a rest =
    let made = typed_function (Function specifiers name name_at params body body_at at) (after_row after_external front a) rest in
    let few = with_number-few (definitions front) name in
    let more = as_many front a made in
    omega (arith, few, more)

all_weaken : {X : Type 0} (P Q : X → Type 0) → ((x : X) → P x → Q x) → (xs : List X) → All P xs → All Q xs
all_weaken P Q f [] h = All-nil Q
all_weaken P Q f (x ∷ xs) h = All-cons Q x xs (f x (All-head P x xs h)) (all_weaken P Q f xs (All-tail P x xs h))

wider : (n m : ℕ) (numbers : List ℕ) → n ≤ m → Below n numbers → Below m numbers
wider n m numbers h b = all_weaken (λ number. number < n) (λ number. number < m) (λ number l. omega (arith, h, l)) numbers b

pub calls_defined : (names : List (List ℕ)) (items : Row (External ℕ)) (at : ℕ) → fault_of names (Whole items at) ≡ None → CallsDefined (typed_of names (Whole items at))
calls_defined names items at h =
    let outline = outline_of names (Whole items at) in
    let some = some_definition outline.main items (passes_main names items at h) in
    let n = length outline.definitions in
    let functions = (typed_of names (Whole items at)).functions in
    let below = functions_below n items (started outline) [] (safe outline some) (All-nil (λ f. Below n (function_calls f))) in
    let many : n + 0 ≤ length functions = as_many items (started outline) [] in
    all_weaken (λ f. Below n (function_calls f)) (λ f. Below (length functions) (function_calls f)) (λ f b. wider n (length functions) (function_calls f) (omega (arith, many)) b) functions below
