-- The rows of a table after a pivot, one by one.
use Rattle.std.proofs.Common.{◌≡◌, ◌≢◌, ℕ, zero, suc, ◌+◌, ◌<◌, arith, refl, sym, ap, ◌∙◌, subst, List, [], ◌∷◌, length, inl, inr, ◌⊎◌, Bool, true, false, cond, Option, Some, None, get_or-set_other}
use Rattle.std.specs.Prelude.{◌==◌, not, slice_index_or, slice_set}
use Rattle.std.proofs.lemmas.Grind.{get_or-set_at}
use Rattle.std.proofs.lemmas.Bool.Decides.{eqb_tells}
use Rattle.simplex_tables.specs.Rows.{Row, turned, turns_wide}
use Rattle.simplex_tables.specs.declared.table.Table.{Table}
use Rattle.simplex_tables.specs.Choices.{is_among, in_first}
use Rattle.simplex_tables.specs.Pivots.{next_row, cons_of, next_rows, table_of, pivoted}
use Rattle.simplex_laws.specs.Tables.{row_at, own_at}

pub some_same : {X : Type 0} {u v : X} → Some u ≡ Some v → u ≡ v
some_same e = cc

pub equal_of : (a b : ℕ) → (a == b) ≡ true → a ≡ b
equal_of a b h = elim (eqb_tells a b) [ inl k ↦ k.1 | inr k ↦ differ (a == b) h k.0 ]
  where
    differ : (t : Bool) → t ≡ true → t ≡ false → a ≡ b
    differ true e f = cc
    differ false e f = cc

pub unlike : (a b : ℕ) → (a == b) ≡ false → a ≢ b
unlike a b h e = elim (eqb_tells a b) [ inl k ↦ differ (a == b) k.0 h | inr k ↦ k.1 e ]
  where
    differ : (t : Bool) → t ≡ true → t ≡ false → ⊥
    differ true e f = cc
    differ false e f = cc

-- a row is kept, or turned
kept : (t : ℕ) (ss r x : Row) (k : Bool) → next_row t ss k r ≡ Some x → ((k ≡ true) × (x ≡ r)) ⊎ ((k ≡ false) × (x ≡ turned t ss r))
kept t ss r x true e = inl (refl, sym (some_same e))
kept t ss r x false e = inr (refl, by_test (turns_wide t ss r) e)
  where
    by_test : (w : Bool) → cond w None (Some (turned t ss r)) ≡ Some x → x ≡ turned t ss r
    by_test true e = cc
    by_test false e = sym (some_same e)

pub record ConsSome (o : Option Row) (p : Option (List Row)) (ys : List Row) : Type 0 where
  pub head : Row
  pub tail : List Row
  pub head_is : o ≡ Some head
  pub tail_is : p ≡ Some tail
  pub all_is : ys ≡ head ∷ tail

cons_some : (o : Option Row) (p : Option (List Row)) (ys : List Row) → cons_of o p ≡ Some ys → ConsSome o p ys
cons_some None p ys e = cc
cons_some (Some x) None ys e = cc
cons_some (Some x) (Some xs) ys e = record { head = x; tail = xs; head_is = refl; tail_is = refl; all_is = sym (some_same e) }

-- the row of number i, the first being that of number n
abbrev pub AtRow : ℕ → ℕ → Row → ℕ → List Row → List Row → ℕ → Type 0
AtRow t s ss n rs ys i = ((n + i ≡ s) × (slice_index_or ys i [] ≡ slice_index_or rs i [])) ⊎ ((n + i ≢ s) × (slice_index_or ys i [] ≡ turned t ss (slice_index_or rs i [])))

pub rows_long : (t s : ℕ) (ss : Row) (n : ℕ) (rs ys : List Row) → next_rows t ss s n rs ≡ Some ys → length ys ≡ length rs
rows_long t s ss n [] ys e = ap length (sym (some_same e))
rows_long t s ss n (r ∷ rs) ys e =
    let c = cons_some (next_row t ss (n == s) r) (next_rows t ss s (n + 1) rs) ys e in
    ap length c.all_is ∙ ap suc (rows_long t s ss (n + 1) rs c.tail c.tail_is)

pub rows_at : (t s : ℕ) (ss : Row) (n : ℕ) (rs ys : List Row) → next_rows t ss s n rs ≡ Some ys → (i : ℕ) → i < length rs → AtRow t s ss n rs ys i
rows_at t s ss n [] ys e i lt = absurd (omega (arith, lt))
rows_at t s ss n (r ∷ rs) ys e zero lt =
    let c = cons_some (next_row t ss (n == s) r) (next_rows t ss s (n + 1) rs) ys e in
    subst (λ zs. AtRow t s ss n (r ∷ rs) zs 0) (sym c.all_is) (elim (kept t ss r c.head (n == s) c.head_is) [
      | inl k ↦ inl ((let q = equal_of n s k.0 in omega (arith, q)), k.1)
      | inr k ↦ inr ((λ q. unlike n s k.0 (omega (arith, q))), k.1)
    ])
rows_at t s ss n (r ∷ rs) ys e (suc i) lt =
    let c = cons_some (next_row t ss (n == s) r) (next_rows t ss s (n + 1) rs) ys e in
    subst (λ zs. AtRow t s ss n (r ∷ rs) zs (suc i)) (sym c.all_is) (elim (rows_at t s ss (n + 1) rs c.tail c.tail_is i (omega (arith, lt))) [
      | inl k ↦ inl ((let q = k.0 in omega (arith, q)), k.1)
      | inr k ↦ inr ((λ q. k.0 (omega (arith, q))), k.1)
    ])

-- the parts of a table after a pivot
pub record Turned (t s : ℕ) (b c : Table) : Type 0 where
  pub owns : c.owns ≡ slice_set b.owns s t
  pub rows : next_rows t (row_at b s) s 0 b.rows ≡ Some c.rows
  pub one : in_first c ≡ true → c.one ≡ turned t (row_at b s) b.one
  pub one_kept : in_first c ≡ false → c.one ≡ b.one
  pub two : c.two ≡ turned t (row_at b s) b.two

pub turned_by : (t s : ℕ) (b c : Table) → pivoted t s b ≡ Some c → Turned t s b c
turned_by t s b c e = by_rows (next_rows t (row_at b s) s 0 b.rows) refl (next_row t (row_at b s) (not (is_among 0 (slice_set b.owns s t))) b.one) refl (next_row t (row_at b s) false b.two) refl e
  where
    first_kept : (k : Bool) (x : Row) → next_row t (row_at b s) (not k) b.one ≡ Some x → k ≡ true → x ≡ turned t (row_at b s) b.one
    first_kept true x e q = elim (kept t (row_at b s) b.one x false e) [ inl k ↦ cc | inr k ↦ k.1 ]
    first_kept false x e q = cc

    second_kept : (k : Bool) (x : Row) → next_row t (row_at b s) (not k) b.one ≡ Some x → k ≡ false → x ≡ b.one
    second_kept true x e q = cc
    second_kept false x e q = elim (kept t (row_at b s) b.one x true e) [ inl k ↦ k.1 | inr k ↦ cc ]

    by_rows : (rs : Option (List Row)) → next_rows t (row_at b s) s 0 b.rows ≡ rs → (o : Option Row) → next_row t (row_at b s) (not (is_among 0 (slice_set b.owns s t))) b.one ≡ o → (u : Option Row) → next_row t (row_at b s) false b.two ≡ u →
        table_of (slice_set b.owns s t) rs o u ≡ Some c → Turned t s b c
    by_rows None p o q u r e = cc
    by_rows (Some rs) p None q u r e = cc
    by_rows (Some rs) p (Some x) q None r e = cc
    by_rows (Some rs) p (Some x) q (Some y) r e =
        let same = some_same e in
        let owns : slice_set b.owns s t ≡ c.owns = ap (λ (d : Table). d.owns) same in record {
          owns = sym owns;
          rows = p ∙ ap Some (ap (λ (d : Table). d.rows) same);
          one = λ f. sym (ap (λ (d : Table). d.one) same) ∙ first_kept (is_among 0 (slice_set b.owns s t)) x q (ap (is_among 0) owns ∙ f);
          one_kept = λ f. sym (ap (λ (d : Table). d.one) same) ∙ second_kept (is_among 0 (slice_set b.owns s t)) x q (ap (is_among 0) owns ∙ f);
          two = sym (ap (λ (d : Table). d.two) same) ∙ elim (kept t (row_at b s) b.two y false r) [ inl k ↦ cc | inr k ↦ k.1 ];
        }

-- the variables that rows are solved for
pub own_here : (t s : ℕ) (b c : Table) → Turned t s b c → s < length b.owns → own_at c s ≡ t
own_here t s b c h lt = ap (λ os. slice_index_or os s 0) h.owns ∙ get_or-set_at b.owns s s t 0 refl lt

pub own_else : (t s : ℕ) (b c : Table) → Turned t s b c → (i : ℕ) → i ≢ s → own_at c i ≡ own_at b i
own_else t s b c h i d = ap (λ os. slice_index_or os i 0) h.owns ∙ get_or-set_other b.owns s i t 0 d
