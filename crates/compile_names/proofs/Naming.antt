-- No two functions of a source have one name.
use Rattle.std.proofs.Common.{◌≡◌, ℕ, zero, suc, ◌+◌, ⊎_elim, Bool, true, false, List, [], ◌∷◌, ◌++◌, length, map, Some, None, refl, sym, ap, ◌∙◌, subst, arith, nat_eq, All}
use Rattle.std.specs.Prelude.{◌||◌, if◌then◌else◌, slice_get}
use Rattle.std.specs.List.{list_any}
use Rattle.std.proofs.lemmas.Bool.{eq-eqb, false≢true}
use Rattle.std.proofs.lemmas.List.Elements.{All-append, All-cons, All-nil}
use Rattle.std.proofs.lemmas.Option.{none-some, same_Some}
use Rattle.c_tree.specs.Formed.{EachOf}
use Rattle.c_tree.specs.Holding.{HoldsExternal, HoldsUnit}
use Rattle.c_tree.specs.Named.{named_unit}
use Rattle.c_tree.specs.Names.{name_of, names_among}
use Rattle.c_tree.specs.Size.{size_unit}
use Rattle.c_tree.specs.Spelling.{mark_said, spell_unit}
use Rattle.c_tree.specs.Tree.{Row, Nothing, Then, External, Restriction, Declaring, Function, TranslationUnit, Whole}
use Rattle.c_tree.specs.declared.expression.NameId.{NameId}
use Rattle.c_lexer.specs.Cut.{HasTokens}
use Rattle.facts_definitions.specs.FlowFacts.{name_id}
use Rattle.types_tree.specs.Tree.{function_name}
use Rattle.facts_definitions.specs.declared.facts.Facts.{Facts}
use Rattle.facts_sources.specs.Sources.{IsSource, derived_for}
use Rattle.types_rules.specs.Limits.{broken, limits_before, limits_behind, tally_unit, variables_of}
use Rattle.types_rules.specs.Scope.{started, with_number}
use Rattle.types_rules.specs.Sights.{SeenUnit, definitions, externals_nodes, first_fault, outline_of, unit_nodes}
use Rattle.types_tree.specs.Tree.{Program}
use Rattle.types_rules.specs.Typed.{fault_behind, fault_of, typed_of}
use Rattle.types_seen.proofs.Rules.{none_first, none_second, parts_keep}
use Rattle.types_seen.proofs.Lists.{slice_get-cases, slice_get-one}
use Rattle.types_seen.proofs.Units.{not_broken}
use Rattle.plan_formed.proofs.Facts.{says}
use Rattle.types_seen.proofs.Known.{named}
use Rattle.facts_laws.proofs.Cutting.{list_tokens}
use Rattle.facts_laws.proofs.Naming.{HasName, IsPragma, named_each}
use Rattle.facts_laws.proofs.Numbering.{AreOnce, number_of, once_all, once_none, within_names}
use Rattle.compile_names.proofs.Lists.{all_got, map_got}

-- no number stands there twice
abbrev AreApart : List ℕ → Type 0
AreApart ns = (i j n : ℕ) → slice_get ns i ≡ Some n → slice_get ns j ≡ Some n → i ≡ j

any_there : (ns : List ℕ) (n i : ℕ) → slice_get ns i ≡ Some n → list_any (nat_eq n) ns ≡ true
any_there [] n i e = absurd (none-some n e)
any_there (m ∷ ns) n zero e = ap (λ b. b || list_any (nat_eq n) ns) (eq-eqb n m (sym (same_Some m n e)))
any_there (m ∷ ns) n (suc i) e = of (nat_eq n m) (any_there ns n i e)
  where
    of : (b : Bool) → list_any (nat_eq n) ns ≡ true → (b || list_any (nat_eq n) ns) ≡ true
    of true h = refl
    of false h = h

push_apart : (ns : List ℕ) (n : ℕ) → AreApart ns → list_any (nat_eq n) ns ≡ false → AreApart (ns ++ n ∷ [])
push_apart ns n apart none i j m e f = ⊎_elim
    (λ (h : slice_get ns i ≡ Some m). ⊎_elim
    (λ (k : slice_get ns j ≡ Some m). apart i j m h k)
    (λ (k : (b : ℕ) × (j ≡ length ns + b) × (slice_get (n ∷ []) b ≡ Some m)). absurd (new m i h (slice_get-one n k.0 m k.2).1))
    (slice_get-cases ns (n ∷ []) j m f))
    (λ (h : (a : ℕ) × (i ≡ length ns + a) × (slice_get (n ∷ []) a ≡ Some m)).
    let first = slice_get-one n h.0 m h.2 in
    ⊎_elim
    (λ (k : slice_get ns j ≡ Some m). absurd (new m j k first.1))
    (λ (k : (b : ℕ) × (j ≡ length ns + b) × (slice_get (n ∷ []) b ≡ Some m)).
    let second = slice_get-one n k.0 m k.2 in
    last h.0 k.0 h.1 k.1 first.0 second.0)
    (slice_get-cases ns (n ∷ []) j m f))
    (slice_get-cases ns (n ∷ []) i m e)
  where
    new : (m i : ℕ) → slice_get ns i ≡ Some m → n ≡ m → ⊥
    new m i h same = false≢true (sym none ∙ any_there ns n i (h ∙ ap Some (sym same)))

    last : (a b : ℕ) → i ≡ length ns + a → j ≡ length ns + b → a ≡ 0 → b ≡ 0 → i ≡ j
    last a b e f z y = omega (arith, e, f, z, y)

with_apart : (ns : List ℕ) (n : ℕ) → AreApart ns → AreApart (with_number ns n)
with_apart ns n apart = of (list_any (nat_eq n) ns) refl
  where
    of : (b : Bool) → list_any (nat_eq n) ns ≡ b → AreApart (if b then ns else ns ++ n ∷ [])
    of true e = apart
    of false e = push_apart ns n apart e

definitions_apart : (items : Row (External ℕ)) → AreApart (definitions items)
definitions_apart Nothing = λ i j n e f. absurd (none-some n e)
definitions_apart (Then front (Restriction pragma)) = definitions_apart front
definitions_apart (Then front (Declaring declaration)) = definitions_apart front
definitions_apart (Then front (Function specifiers name name_at params body body_at at)) = with_apart (definitions front) name (definitions_apart front)

-- each has a name
with_named : (P : ℕ → Type 0) (ns : List ℕ) (n : ℕ) → All P ns → P n → All P (with_number ns n)
with_named P ns n all own = of (list_any (nat_eq n) ns)
  where
    of : (b : Bool) → All P (if b then ns else ns ++ n ∷ [])
    of true = all
    of false = All-append P ns (n ∷ []) all (All-cons P n [] own (All-nil P))

definitions_named : (names : List (List ℕ)) (items : Row (External ℕ)) → EachOf (HoldsExternal (HasName names) IsPragma) items → All (HasName names) (definitions items)
definitions_named names Nothing h = All-nil (HasName names)
definitions_named names (Then front (Restriction pragma)) h = definitions_named names front h.0
definitions_named names (Then front (Declaring declaration)) h = definitions_named names front h.0
definitions_named names (Then front (Function specifiers name name_at params body body_at at)) h =
    with_named (HasName names) (definitions front) name (definitions_named names front h.0) h.1.0

-- the names of the functions of a program, which are those of its definitions
record HasNumbers (names : List (List ℕ)) (ns : List ℕ) : Type 0 where
  apart : AreApart ns
  each : All (HasName names) ns

defined_numbers : (names : List (List ℕ)) (program : Program) (unit : TranslationUnit ℕ) → HoldsUnit (HasName names) IsPragma unit → fault_of names unit ≡ None → program ≡ typed_of names unit → HasNumbers names (map function_name program.functions)
defined_numbers names program (Whole items at) held passes is =
    let unit = Whole items at in
    let outline = outline_of names unit in
    let first = first_fault (unit_nodes outline unit) in
    let behind = none_second (limits_before (size_unit unit).nodes (tally_unit unit)) (fault_behind outline unit) passes in
    let faultless = parts_keep (SeenUnit unit outline) (externals_nodes items (started outline)) (not_broken first (none_first (broken first) (limits_behind (variables_of outline unit)) behind)) in
    let same : map function_name program.functions ≡ definitions items = ap (λ (p : Program). map function_name p.functions) is ∙ (named outline items faultless).names in
    subst (HasNumbers names) (sym same) (record { apart = definitions_apart items; each = definitions_named names items held })

module _ (source : List ℕ) (names : List (List ℕ)) (program : Program) (facts : Facts) (is : IsSource source names program facts) where
  abbrev numbers : List ℕ
  numbers = map function_name program.functions

  has_numbers : HasNumbers names numbers
  has_numbers =
      let p = is.has_program in
      let u = p.has in
      let are = list_tokens u.tokens.source u.tokens.list (subst (λ s. HasTokens s u.tokens.list) (sym u.of_source) u.has) in
      defined_numbers names program p.unit (named_each u.tokens names p.unit are u.tree.1) p.passes p.program_is

  -- one name has one number
  once : AreOnce names
  once =
      let u = is.has_program.has in
      subst AreOnce (sym u.in_order) (once_all [] (names_among (map mark_said (spell_unit (named_unit (name_of names) is.has_program.unit)))) once_none)

  same_number : (n k : ℕ) → HasName names n → HasName names k → name_of names n ≡ name_of names k → n ≡ k
  same_number n k h g e = sym (once n (within_names names n h)) ∙ ap (number_of names) e ∙ once k (within_names names k g)

  functions_are : facts.functions ≡ map name_id numbers
  functions_are = ap (λ (f : Facts). f.functions) (says program names is.has_facts.ranks (derived_for is.derive program) facts is.has_facts.facts_are).facts_are

  -- the number of a function's name
  record IsNumber (i : ℕ) (id : NameId) : Type 0 where
    number : ℕ
    there : slice_get numbers i ≡ Some number
    same : id.0 ≡ number

  number_at : (i : ℕ) (id : NameId) → slice_get facts.functions i ≡ Some id → IsNumber i id
  number_at i id e =
      let n = map_got name_id numbers i id (sym (ap (λ l. slice_get l i) functions_are) ∙ e) in
      record { number = n.0; there = n.1; same = ap (λ (x : NameId). x.0) (sym n.2) }

  pub functions_apart : (i j : ℕ) (x y : NameId) → slice_get facts.functions i ≡ Some x → slice_get facts.functions j ≡ Some y → name_of names x.0 ≡ name_of names y.0 → i ≡ j
  functions_apart i j x y e f same =
      let a = number_at i x e in
      let b = number_at j y f in
      let have = has_numbers in
      let named_a : HasName names a.number = all_got (HasName names) numbers i a.number have.each a.there in
      let named_b : HasName names b.number = all_got (HasName names) numbers j b.number have.each b.there in
      let equal : a.number ≡ b.number = same_number a.number b.number named_a named_b (ap (name_of names) (sym a.same) ∙ same ∙ ap (name_of names) b.same) in
      have.apart i j b.number (a.there ∙ ap Some equal) b.there
