-- Each block lists its exits where those of all functions are listed.
use Rattle.std.proofs.Common.{◌≡◌, ◌⊎◌, inl, inr, ⊎_elim, ℕ, zero, suc, ◌+◌, ◌<◌, ◌≤◌, ◌==◌, Bool, true, false, ◌||◌, List, [], ◌∷◌, ◌++◌, length, refl, ap, ◌∙◌, subst, arith, if◌then◌else◌}
use Rattle.std.specs.Prelude.{slice_index, slice_index_or}
use Rattle.std.proofs.lemmas.Bool.Decides.{nat_tests}
use Rattle.code_flow_system.specs.Claims.{is_listed}
use Rattle.code_flow_system.specs.Moves.{Code}
use Rattle.asm_items.specs.declared.item.Item.{Item}
use Rattle.asm_items.specs.Items.{size, total}
use Rattle.asm_items.specs.Placings.{Blocks, start_of, starts_from, blocks_size}
use Rattle.asm_items.specs.Standing.{is_exit, ListsExits}
use Rattle.asm_items.proofs.MoveLemmas.{size_some}
use Rattle.asm_forms.specs.Laid.{HasRoom}
use Rattle.asm_forms.specs.Layouts.{formed}
use Rattle.asm_forms.specs.Regions.{Rows, bases_of, functions_size}
use Rattle.asm_forms.specs.Shorter.{functions_longest}
use Rattle.asm_forms.proofs.Formed.{formed_longest}
use Rattle.asm_forms.proofs.SizeLemmas.{functions_most}
use Rattle.asm_placed.specs.Exits.{items_exits, blocks_exits, functions_exits, exits_of}
use Rattle.asm_graphs.specs.Promised.{blocks_in, block_in}
use Rattle.asm_placed.specs.Written.{RowsApart, placing_of}
use Rattle.asm_placed.proofs.Spread.{all_apart, two_apart}

listed-append : (xs ys : List ℕ) (a : ℕ) → is_listed (xs ++ ys) a ≡ (is_listed xs a || is_listed ys a)
listed-append [] ys a = refl
listed-append (x ∷ xs) ys a = ap (λ b. (x == a) || b) (listed-append xs ys a) ∙ either (x == a) (is_listed xs a) (is_listed ys a)
  where
    either : (p q s : Bool) → (p || (q || s)) ≡ ((p || q) || s)
    either true q s = refl
    either false q s = refl

-- an address is not among those of a list
abbrev Outside : ℕ → ℕ → ℕ → Type 0
Outside a n e = (e < a) ⊎ (a + n ≤ e)

nothing_or : (b c : Bool) → b ≡ false → (b || c) ≡ c
nothing_or b c h = ap (λ x. x || c) h

or_nothing : (b c : Bool) → c ≡ false → (b || c) ≡ b
or_nothing true c h = refl
or_nothing false c h = h

item_outside : (a e : ℕ) (rest : List ℕ) (b : Bool) → (a ≡ e → ⊥) → is_listed rest e ≡ false → is_listed (if b then a ∷ rest else rest) e ≡ false
item_outside a e rest true other h = let no : (a == e) ≡ false = grind (arith, nat_tests) in nothing_or (a == e) (is_listed rest e) no ∙ h
item_outside a e rest false other h = h

items_outside : (a : ℕ) (xs : List Item) (e : ℕ) → Outside a (total xs) e → is_listed (items_exits a xs) e ≡ false
items_outside a [] e h = refl
items_outside a (x ∷ xs) e h =
    let some = size_some x in
    item_outside a e (items_exits (a + size x) xs) (is_exit x) (λ same. ⊎_elim (λ (k : e < a). omega arith) (λ (k : a + total (x ∷ xs) ≤ e). omega arith) h)
    (items_outside (a + size x) xs e (⊎_elim (λ (k : e < a). inl (omega arith)) (λ (k : a + total (x ∷ xs) ≤ e). inr (omega arith)) h))

blocks_outside : (a : ℕ) (bs : Blocks) (e : ℕ) → Outside a (blocks_size bs) e → is_listed (blocks_exits a bs) e ≡ false
blocks_outside a [] e h = refl
blocks_outside a (xs ∷ bs) e h =
    listed-append (items_exits a xs) (blocks_exits (a + total xs) bs) e
    ∙ nothing_or (is_listed (items_exits a xs) e) (is_listed (blocks_exits (a + total xs) bs) e) (items_outside a xs e (⊎_elim (λ (k : e < a). inl k) (λ (k : a + blocks_size (xs ∷ bs) ≤ e). inr (omega arith)) h))
    ∙ blocks_outside (a + total xs) bs e (⊎_elim (λ (k : e < a). inl (omega arith)) (λ (k : a + blocks_size (xs ∷ bs) ≤ e). inr (omega arith)) h)

-- a list agrees with the exits of what stands between two addresses
abbrev Agrees : List ℕ → ℕ → ℕ → List ℕ → Type 0
Agrees all a n own = (e : ℕ) → a ≤ e → e < a + n → is_listed all e ≡ is_listed own e

first_is : (a : ℕ) (rest : List ℕ) (b : Bool) → is_listed rest a ≡ false → is_listed (if b then a ∷ rest else rest) a ≡ b
first_is a rest true h = let same : (a == a) ≡ true = grind (arith, nat_tests) in ap (λ t. t || is_listed rest a) same
first_is a rest false h = h

later_is : (a e : ℕ) (rest : List ℕ) (b : Bool) → (a ≡ e → ⊥) → is_listed (if b then a ∷ rest else rest) e ≡ is_listed rest e
later_is a e rest true other = let no : (a == e) ≡ false = grind (arith, nat_tests) in nothing_or (a == e) (is_listed rest e) no
later_is a e rest false other = refl

items_list : (c : Code) (all : List ℕ) (a : ℕ) (xs : List Item) → ((e : ℕ) → c.exit e ≡ is_listed all e) → Agrees all a (total xs) (items_exits a xs) → ListsExits c a xs
items_list c all a [] h k = tt
items_list c all a (x ∷ xs) h k =
    let some = size_some x in
    let rest = items_exits (a + size x) xs in (
      h a ∙ k a (omega arith) (omega arith) ∙ first_is a rest (is_exit x) (items_outside (a + size x) xs a (inl (omega arith))),
      items_list c all (a + size x) xs h (λ e from to. k e (omega arith) (omega arith) ∙ later_is a e rest (is_exit x) (λ same. omega arith)),
    )

blocks_list : (c : Code) (all : List ℕ) (a : ℕ) (bs : Blocks) (b : ℕ) → ((e : ℕ) → c.exit e ≡ is_listed all e) → Agrees all a (blocks_size bs) (blocks_exits a bs) → b < length bs → ListsExits c (slice_index (starts_from a bs) b) (slice_index_or bs b [])
blocks_list c all a [] b h k less = absurd (omega arith)
blocks_list c all a (xs ∷ bs) zero h k less =
    items_list c all a xs h (λ e from to.
    k e from (omega arith) ∙ listed-append (items_exits a xs) (blocks_exits (a + total xs) bs) e
    ∙ or_nothing (is_listed (items_exits a xs) e) (is_listed (blocks_exits (a + total xs) bs) e) (blocks_outside (a + total xs) bs e (inl (omega arith))))
blocks_list c all a (xs ∷ bs) (suc b) h k less =
    blocks_list c all (a + total xs) bs b h
    (λ e from to.
    k e (omega arith) (omega arith) ∙ listed-append (items_exits a xs) (blocks_exits (a + total xs) bs) e
    ∙ nothing_or (is_listed (items_exits a xs) e) (is_listed (blocks_exits (a + total xs) bs) e) (items_outside a xs e (inr (omega arith))))
    (omega arith)

-- an address within one function is outside all others
functions_outside : (bases : List ℕ) (k : ℕ) (fs : List Blocks) (e : ℕ) → ((j : ℕ) → j < length fs → Outside (slice_index bases (k + j)) (blocks_size (slice_index_or fs j [])) e) → is_listed (functions_exits bases k fs) e ≡ false
functions_outside bases k [] e h = refl
functions_outside bases k (bs ∷ fs) e h =
    let z : k + 0 ≡ k = omega arith in
    listed-append (blocks_exits (slice_index bases k) bs) (functions_exits bases (suc k) fs) e
    ∙ nothing_or (is_listed (blocks_exits (slice_index bases k) bs) e) (is_listed (functions_exits bases (suc k) fs) e)
    (blocks_outside (slice_index bases k) bs e (subst (λ n. Outside (slice_index bases n) (blocks_size bs) e) z (h 0 (omega arith))))
    ∙ functions_outside bases (suc k) fs e (λ j less. let n : k + suc j ≡ suc k + j = omega arith in subst (λ m. Outside (slice_index bases m) (blocks_size (slice_index_or fs j [])) e) n (h (suc j) (omega arith)))

functions_agree : (bases : List ℕ) (k : ℕ) (fs : List Blocks) (f e : ℕ) → f < length fs → ((j : ℕ) → j < length fs → (j ≡ f → ⊥) → Outside (slice_index bases (k + j)) (blocks_size (slice_index_or fs j [])) e)
    → is_listed (functions_exits bases k fs) e ≡ is_listed (blocks_exits (slice_index bases (k + f)) (slice_index_or fs f [])) e
functions_agree bases k [] f e less h = absurd (omega arith)
functions_agree bases k (bs ∷ fs) zero e less h =
    let z : k ≡ k + 0 = omega arith in
    listed-append (blocks_exits (slice_index bases k) bs) (functions_exits bases (suc k) fs) e
    ∙ or_nothing (is_listed (blocks_exits (slice_index bases k) bs) e) (is_listed (functions_exits bases (suc k) fs) e)
    (functions_outside bases (suc k) fs e (λ j there. let n : k + suc j ≡ suc k + j = omega arith in subst (λ m. Outside (slice_index bases m) (blocks_size (slice_index_or fs j [])) e) n (h (suc j) (omega arith) (λ same. omega arith))))
    ∙ ap (λ n. is_listed (blocks_exits (slice_index bases n) bs) e) z
functions_agree bases k (bs ∷ fs) (suc f) e less h =
    let z : k + 0 ≡ k = omega arith in
    let s : suc k + f ≡ k + suc f = omega arith in
    listed-append (blocks_exits (slice_index bases k) bs) (functions_exits bases (suc k) fs) e
    ∙ nothing_or (is_listed (blocks_exits (slice_index bases k) bs) e) (is_listed (functions_exits bases (suc k) fs) e)
    (blocks_outside (slice_index bases k) bs e (subst (λ n. Outside (slice_index bases n) (blocks_size bs) e) z (h 0 (omega arith) (λ same. omega arith))))
    ∙ functions_agree bases (suc k) fs f e (omega arith)
    (λ j there other. let n : k + suc j ≡ suc k + j = omega arith in subst (λ m. Outside (slice_index bases m) (blocks_size (slice_index_or fs j [])) e) n (h (suc j) (omega arith) (λ same. other (omega arith))))
    ∙ ap (λ n. is_listed (blocks_exits (slice_index bases n) (slice_index_or fs f [])) e) s

less_or : (m n : ℕ) → (m ≡ n → ⊥) → (m < n) ⊎ (n < m)
less_or m n h = grind (arith, nat_tests)

pub exits_listed : (r : Rows) (fs : List Blocks) (c : Code) → HasRoom r fs → RowsApart r fs → ((a : ℕ) → c.exit a ≡ is_listed (exits_of r (formed r fs)) a) → (f b : ℕ) → f < length (formed r fs) → b < length (blocks_in (formed r fs) f)
    → ListsExits c (start_of (placing_of r (formed r fs)) f b) (block_in (formed r fs) f b)
exits_listed r fs c room rows listed f b h k =
    let gs = formed r fs in
    let bases = bases_of r gs in
    let most : functions_size gs ≤ functions_size (functions_longest fs) = subst (λ l. functions_size gs ≤ functions_size l) (formed_longest r fs) (functions_most gs) in
    let between = rows.apart in
    let all = all_apart r.placed bases [] 0 r.flash r.scratchpad gs refl refl (omega arith) in
    blocks_list c (exits_of r gs) (slice_index bases f) (blocks_in gs f) b listed
    (λ e from to.
    let z : 0 + f ≡ f = omega arith in
    functions_agree bases 0 gs f e h
    (λ j there other.
    let y : j ≡ 0 + j = omega arith in
    subst (λ n. Outside (slice_index bases n) (blocks_size (blocks_in gs j)) e) y
    (⊎_elim
    (λ (less : j < f). ⊎_elim (λ (x : slice_index bases j + blocks_size (blocks_in gs j) ≤ slice_index bases f). inr (omega arith)) (λ (x : slice_index bases f + blocks_size (blocks_in gs f) ≤ slice_index bases j). inl (omega arith)) (two_apart r.placed bases gs j f less h all))
    (λ (less : f < j). ⊎_elim (λ (x : slice_index bases f + blocks_size (blocks_in gs f) ≤ slice_index bases j). inl (omega arith)) (λ (x : slice_index bases j + blocks_size (blocks_in gs j) ≤ slice_index bases f). inr (omega arith)) (two_apart r.placed bases gs f j less there all))
    (less_or j f other)))
    ∙ ap (λ n. is_listed (blocks_exits (slice_index bases n) (blocks_in gs f)) e) z)
    k
