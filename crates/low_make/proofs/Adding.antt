-- One function of a program after another.
use Rattle.std.proofs.Common.{◌≡◌, ℕ, ◌+◌, ◌<◌, List, [], ◌∷◌, ◌++◌, length, get_or, map, Some, None, sym, ap, ◌∙◌, subst, append_assoc, length-append}
use Rattle.std.specs.List.{flat_map}
use Rattle.std.specs.Prelude.{option_map, slice_get, slice_index_or}
use Rattle.std.proofs.lemmas.List.{append-nil, get_or-map, length-map, map-append}
use Rattle.std.proofs.lemmas.Option.{slice_get-map}
use Rattle.high_ir.specs.declared.high.Function as functions
use Rattle.high_ir.specs.Runs.{rank_or}
use Rattle.high_ir.specs.Tree as high
use Rattle.high_ir.specs.View as views
use Rattle.low_ir.specs.declared.low.Function as lows
use Rattle.low_ir.specs.Code.{Function, Note}
use Rattle.low_ir.specs.View as low
use Rattle.lower_definition.specs.Calls.{Passed, claims_among, numbered}
use Rattle.lower_definition.specs.Programs.{lowered_function, lowered_functions, lowered_in, scope_of}
use Rattle.lower_definition.specs.Values.{Scope}

pub rank_at : (fs : List functions.Function) (f : ℕ) (h : functions.Function) → f < length fs → h ≡ get_or fs f h → rank_or (map views.function_of fs) f 0 ≡ h.rank
rank_at fs f h lt read =
    get_or-map (λ g. g.rank) (map views.function_of fs) f (views.function_of h) 0 (subst (λ n. f < n) (sym (length-map fs views.function_of)) lt)
    ∙ ap (λ g. g.rank) (get_or-map views.function_of fs f h (views.function_of h) lt)
    ∙ ap (λ g. g.rank) (sym read)

pub functions_more : (p : high.Program) (passed : Passed) (n m f : ℕ) (before now : List (Function ℕ Note)) (rest : List ℕ) →
    now ≡ before ++ lowered_in p passed n f (slice_get p.functions f) → m ≡ n + length (claims_among (slice_index_or passed f [])) →
    now ++ lowered_functions p passed m rest ≡ before ++ lowered_functions p passed n (f ∷ rest)
functions_more p passed n m f before now rest made number =
    let one = lowered_in p passed n f (slice_get p.functions f) in
    ap (λ l. l ++ lowered_functions p passed m rest) made
    ∙ append_assoc before one (lowered_functions p passed m rest)
    ∙ ap (λ k. before ++ (one ++ lowered_functions p passed k rest)) number

pub claims_more : (among : ℕ → List (List ℕ)) (f : ℕ) (before now : List (List ℕ)) (rest : List ℕ) → now ≡ before ++ among f → now ++ flat_map among rest ≡ before ++ flat_map among (f ∷ rest)
claims_more among f before now rest made = ap (λ l. l ++ flat_map among rest) made ∙ append_assoc before (among f) (flat_map among rest)

-- a function that isn't there
pub none_added : (p : high.Program) (passed : Passed) (n f : ℕ) (fs : List functions.Function) (before : List (Function ℕ Note)) → p.functions ≡ map views.function_of fs → slice_get fs f ≡ None → before ≡ before ++ lowered_in p passed n f (slice_get p.functions f)
none_added p passed n f fs before has none =
    sym (ap (λ hs. before ++ lowered_in p passed n f (slice_get hs f)) has
    ∙ ap (λ o. before ++ lowered_in p passed n f o) (slice_get-map views.function_of fs f ∙ ap (option_map views.function_of) none)
    ∙ append-nil before)

-- a function that is there
pub one_added : (p : high.Program) (passed : Passed) (n f : ℕ) (fs : List functions.Function) (h : functions.Function) (made : lows.Function) (gs now : List lows.Function) (scope : Scope) →
    p.functions ≡ map views.function_of fs → slice_get fs f ≡ Some h → scope ≡ scope_of p passed (views.function_of h) (numbered n (slice_index_or passed f [])) →
    low.function_of made ≡ lowered_function scope f (views.function_of h) → now ≡ gs ++ made ∷ [] → map low.function_of now ≡ map low.function_of gs ++ lowered_in p passed n f (slice_get p.functions f)
one_added p passed n f fs h made gs now scope has got same is pushed =
    let before = map low.function_of gs in
    ap (map low.function_of) pushed
    ∙ map-append low.function_of gs (made ∷ [])
    ∙ ap (λ g. before ++ g ∷ []) (is ∙ ap (λ s. lowered_function s f (views.function_of h)) same)
    ∙ sym (ap (λ hs. before ++ lowered_in p passed n f (slice_get hs f)) has
    ∙ ap (λ o. before ++ lowered_in p passed n f o) (slice_get-map views.function_of fs f ∙ ap (option_map views.function_of) got))

pub count_more : {A B : Type 0} (view : A → B) (xs ys : List A) (zs : List B) → map view ys ≡ map view xs ++ zs → length ys ≡ length xs + length zs
count_more view xs ys zs e = sym (length-map ys view) ∙ ap length e ∙ length-append (map view xs) zs ∙ ap (λ n. n + length zs) (length-map xs view)
