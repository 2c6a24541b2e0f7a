-- Shares of ranges that ascend.
use Rattle.std.proofs.Common.{◌≡◌, ℕ, zero, suc, ◌+◌, ◌^◌, ◌<◌, ◌≤◌, pos, Bool, true, false, List, [], ◌∷◌, length, map, Option, Some, None, refl, ap, ◌∙◌, subst, All, arith, ⊎_elim, inl, inr, ◌⊎◌}
use Rattle.std.specs.Prelude.{◌==◌, ◌&&◌, Contains, MatchOption, if◌then◌else◌, is_some, nat_le, nat_lt, slice_get, slice_index_or}
use Rattle.std.proofs.lemmas.Bool.Decides.{nat_tests}
use Rattle.std.proofs.lemmas.Int.{ints}
use Rattle.std.proofs.lemmas.List.Elements.{All-cons, All-contains, All-head, All-nil, All-tail, All-weaker}
use Rattle.std.proofs.lemmas.Option.{none-some, same_Some}
use Rattle.rv_core.specs.Table.{Table}
use Rattle.code_flow_system.specs.Certificates.{IsSmall}
use Rattle.code_flow_system.specs.Systems.{System}
use Rattle.code_flow_system.specs.declared.cert.Part.{Part}
use Rattle.c_tree.specs.Names.{name_of}
use Rattle.c_tree.specs.declared.expression.NameId.{NameId}
use Rattle.claims_definition.specs.ClaimLaws.{RangesAscend}
use Rattle.claims_definition.specs.Listed.{CodeRange}
use Rattle.claims_lists.specs.Lists.{range_of}
use Rattle.claims_lists.specs.declared.ranges.CodeRange as ranges
use Rattle.compile_claims.specs.Shares.{name_by, named, share_of}
use Rattle.report_shares.specs.Shares.{begins, holders, share_sum, with_sum}
use Rattle.report_text.specs.Forms.{IsShare, SharesAscend}
use Rattle.report_text.specs.declared.entries.Share.{Share}
use Rattle.report_words.specs.Words.{is_name}
use Rattle.compile_names.specs.Laws.{IsNamed}
use Rattle.compile_report_law.proofs.Names.{formed_name}

one_of : {A : Type 0} (y x : A) (xs : List A) → Contains (y ∷ xs) x → (y ≡ x) ⊎ Contains xs x
one_of y x xs h = of h.0 h.1 h.2
  where
    of : (k : ℕ) → k < length (y ∷ xs) → slice_index_or (y ∷ xs) k x ≡ x → (y ≡ x) ⊎ Contains xs x
    of zero lt e = inl e
    of (suc k) lt e = inr (k, omega (arith, lt), e)

at_place : {A : Type 0} (P : A → Type 0) (xs : List A) (k : ℕ) (x : A) → All P xs → slice_get xs k ≡ Some x → P x
at_place P [] k x all e = absurd (none-some x e)
at_place P (y ∷ ys) zero x all e = subst P (same_Some y x e) (All-head P y ys all)
at_place P (y ∷ ys) (suc k) x all e = at_place P ys k x (All-tail P y ys all) e

-- ranges behind an address
ranges_behind : (a : ℕ) (rs : List CodeRange) → RangesAscend a rs → All (λ (r : CodeRange). a ≤ r.first) rs
ranges_behind a [] h = All-nil (λ (r : CodeRange). a ≤ r.first)
ranges_behind a (r ∷ rs) h =
    let le = h.0 in
    let some = h.1.0 in
    All-cons (λ (r : CodeRange). a ≤ r.first) r rs le (All-weaker (λ (x : CodeRange). r.end ≤ x.first) (λ (x : CodeRange). a ≤ x.first) (λ x k. omega (arith, le, some, k)) rs (ranges_behind r.end rs h.1.1))

-- tests of addresses

inside : (first end a : ℕ) → first ≤ a → a < end → (nat_le first a && nat_lt a end) ≡ true
inside first end a h g = grind (arith, nat_tests)

before : (first end a : ℕ) → a < first → (nat_le first a && nat_lt a end) ≡ false
before first end a h = grind (arith, nat_tests)

after : (first end a : ℕ) → end ≤ a → (nat_le first a && nat_lt a end) ≡ false
after first end a h = grind (arith, nat_tests)

same_test : (a b : ℕ) → a ≡ b → (a == b) ≡ true
same_test a b e = grind (arith, nat_tests)

both : (a b : Bool) → a ≡ true → b ≡ true → (a && b) ≡ true
both true b e f = f
both false b e f = cc

module _ (names : List (List ℕ)) (functions : List NameId) (t : Table) (s : System) (parts : List Part) where
  -- the share of a range, with its part
  abbrev pub made : ranges.CodeRange → Share
  made r = with_sum t s parts (share_of names functions r)

  abbrev pub shares : List ranges.CodeRange → List Share
  shares rs = map (λ h. with_sum t s parts h) (map (share_of names functions) rs)

  shares_behind : (a : ℕ) (rs : List ranges.CodeRange) → RangesAscend a (map range_of rs) → All (λ (h : Share). a ≤ h.first) (shares rs)
  shares_behind a [] h = All-nil (λ (h : Share). a ≤ h.first)
  shares_behind a (r ∷ rs) h =
      let le = h.0 in
      let some = h.1.0 in
      All-cons (λ (x : Share). a ≤ x.first) (made r) (shares rs) le (All-weaker (λ (x : Share). r.end ≤ x.first) (λ (x : Share). a ≤ x.first) (λ x k. omega (arith, le, some, k)) (shares rs) (shares_behind r.end rs h.1.1))

  pub shares_ascend : (a : ℕ) (rs : List ranges.CodeRange) → RangesAscend a (map range_of rs) → SharesAscend (shares rs)
  shares_ascend a [] h = tt
  shares_ascend a (r ∷ rs) h = (shares_behind r.end rs h.1.1, shares_ascend r.end rs h.1.1)

  -- each is one of a report

  has_name : All (IsNamed names) functions → (f : Option ℕ) → MatchOption (named names functions f) (Unit {0}) (λ name. is_name name ≡ true)
  has_name all None = tt
  has_name all (Some f) = of (slice_get functions f) refl
    where
      of : (o : Option NameId) → slice_get functions f ≡ o → MatchOption (name_by names functions o) (Unit {0}) (λ name. is_name name ≡ true)
      of None e = tt
      of (Some id) e = formed_name (name_of names id.0) (at_place (IsNamed names) functions f id all e)

  small : (n : ℕ) → n < 2 ^ 120 → IsSmall (pos n)
  small n lt = lt

  pub each_share : (a : ℕ) (rs : List ranges.CodeRange) → RangesAscend a (map range_of rs) → All (IsNamed names) functions → ((h : Share) → share_sum t s parts h < 2 ^ 120) → All IsShare (shares rs)
  each_share a [] h all few = All-nil IsShare
  each_share a (r ∷ rs) h all few =
      let own = share_of names functions r in
      All-cons IsShare (made r) (shares rs)
      (record { name = has_name all r.function; filled = h.1.0; least = omega (arith, ints); small = small (share_sum t s parts own) (few own) })
      (each_share r.end rs h.1.1 all few)

  -- each part is its sum
  pub each_sum : (rs : List ranges.CodeRange) → All (λ (h : Share). h.part ≡ pos (share_sum t s parts h)) (shares rs)
  each_sum [] = All-nil (λ (h : Share). h.part ≡ pos (share_sum t s parts h))
  each_sum (r ∷ rs) = All-cons (λ (h : Share). h.part ≡ pos (share_sum t s parts h)) (made r) (shares rs) refl (each_sum rs)

  -- an address of a range lies in one share

  none_hold : (a b : ℕ) (rs : List ranges.CodeRange) → RangesAscend b (map range_of rs) → a < b → holders (shares rs) a ≡ 0
  none_hold a b [] h lt = refl
  none_hold a b (r ∷ rs) h lt =
      let le = h.0 in
      let some = h.1.0 in
      let other = before r.first r.end a (omega (arith, le, lt)) in
      let rest = none_hold a r.end rs h.1.1 (omega (arith, le, some, lt)) in
      ap (λ (x : Bool). (if x then 1 else 0) + holders (shares rs) a) other ∙ omega (arith, rest)

  pub one_holds : (a b : ℕ) (rs : List ranges.CodeRange) (c : CodeRange) → RangesAscend b (map range_of rs) → Contains (map range_of rs) c → c.first ≤ a → a < c.end → holders (shares rs) a ≡ 1
  one_holds a b [] c h has from to = absurd (omega (arith, has.1))
  one_holds a b (r ∷ rs) c h has from to = ⊎_elim here (λ (more : Contains (map range_of rs) c). later more (one_holds a r.end rs c h.1.1 more from to)) (one_of (range_of r) c (map range_of rs) has)
    where
      here : range_of r ≡ c → holders (shares (r ∷ rs)) a ≡ 1
      here e =
          let first : r.first ≡ c.first = ap (λ (x : CodeRange). x.first) e in
          let end : r.end ≡ c.end = ap (λ (x : CodeRange). x.end) e in
          let rest = none_hold a r.end rs h.1.1 (omega (arith, end, to)) in
          ap (λ (x : Bool). (if x then 1 else 0) + holders (shares rs) a) (inside r.first r.end a (omega (arith, first, from)) (omega (arith, end, to))) ∙ omega (arith, rest)

      later : Contains (map range_of rs) c → holders (shares rs) a ≡ 1 → holders (shares (r ∷ rs)) a ≡ 1
      later more rest =
          let le = All-contains (λ (x : CodeRange). r.end ≤ x.first) (map range_of rs) c (ranges_behind r.end (map range_of rs) h.1.1) more in
          ap (λ (x : Bool). (if x then 1 else 0) + holders (shares rs) a) (after r.first r.end a (omega (arith, le, from))) ∙ omega (arith, rest)

  -- a range with a name begins one

  pub begun_at : (rs : List ranges.CodeRange) (c : CodeRange) (a : ℕ) → Contains (map range_of rs) c → c.first ≡ a → is_some (named names functions c.function) ≡ true → begins (shares rs) a ≡ true
  begun_at [] c a has first some = absurd (omega (arith, has.1))
  begun_at (r ∷ rs) c a has first some =
      ⊎_elim here (λ (more : Contains (map range_of rs) c). passed ((r.first == a) && is_some (named names functions r.function)) (begins (shares rs) a) (begun_at rs c a more first some)) (one_of (range_of r) c (map range_of rs) has)
    where
      found : (x y : Bool) → x ≡ true → (if x then true else y) ≡ true
      found true y e = refl
      found false y e = cc

      passed : (x y : Bool) → y ≡ true → (if x then true else y) ≡ true
      passed true y e = refl
      passed false y e = e

      here : range_of r ≡ c → begins (shares (r ∷ rs)) a ≡ true
      here e =
          let at : r.first ≡ a = ap (λ (x : CodeRange). x.first) e ∙ first in
          let has_one : is_some (named names functions r.function) ≡ true = ap (λ (x : CodeRange). is_some (named names functions x.function)) e ∙ some in
          found ((r.first == a) && is_some (named names functions r.function)) (begins (shares rs) a) (both (r.first == a) (is_some (named names functions r.function)) (same_test r.first a at) has_one)
