-- How the columns of a search grow, and what it answers.
use Rattle.std.proofs.Common.{◌≡◌, ◌≢◌, ℕ, zero, suc, ◌+◌, ◌-◌, ◌≤◌, ◌<◌, pos, ◌≤ℤ◌, arith, refl, sym, ap, ◌∙◌, subst, List, [], ◌∷◌, ◌++◌, length, take, All, Bool, true, false, cond, inl, inr, ◌⊎◌, Option, Some, None, length-append}
use Rattle.std.specs.Prelude.{nat_lt, slice_index_or, IfSome}
use Rattle.std.proofs.lemmas.Int.{ints}
use Rattle.std.proofs.lemmas.Bool.Decides.{nat_tests}
use Rattle.std.proofs.lemmas.List.Elements.{All-cons, All-nil, All-append}
use Rattle.rv_core.specs.Table.{Table}
use Rattle.wcc_base.specs.declared.compare.Compare.{Compare}
use Rattle.code_flow_system.specs.declared.cert.Cert.{Cert}
use Rattle.code_flow_system.specs.declared.cert.Mark.TheVariants as marks
use Rattle.code_flow_system.specs.declared.shapes.LoopShape.{LoopShape}
use Rattle.code_flow_system.specs.declared.shapes.Span.{Span}
use Rattle.code_flow_system.specs.Systems.{System}
use Rattle.code_flow_answer.specs.declared.bounded.Column.{Column}
use Rattle.code_flow_answer.specs.declared.bounded.Kind.{Kind}
use Rattle.code_flow_answer.specs.declared.bounded.Kind.TheVariants as kinds
use Rattle.simplex_rounds.specs.declared.pricing.Multipliers.{Multipliers}
use Rattle.simplex_tables.specs.declared.running.Ending.{Ending}
use Rattle.simplex_tables.specs.declared.running.Ended.{Ended}
use Rattle.simplex_tables.specs.declared.running.Ending.TheVariants.{NoPivots}
use Rattle.simplex_tables.specs.Runs.{most_pivots}
use Rattle.simplex_rounds.specs.Rounds.{IsColumnOf, round_over}
use Rattle.simplex_laws.specs.RoundLaws.{column_at, no_column}
use Rattle.path_fact_kinds.specs.Columns.{IsBest, ops_of, column_of}
use Rattle.path_fact_columns.specs.Adding.{AreAsked, no_multipliers, flow_of}
use Rattle.path_enum.specs.declared.asking.Answered.{Answered}
use Rattle.path_fact_kinds.specs.Searched.{made_before, round_at, last_round, Follows, AreSearched}
use Rattle.path_fact_kinds.specs.Causes.{EndsWide}
use Rattle.path_fact_kinds.specs.Kinds.{IsBoundAlone, HasKind, HasColumns, IsFound}
use Rattle.path_enum.specs.Marks.{lesser, least_of, found}
use Rattle.path_enum.specs.declared.searching.State.{State}
use Rattle.path_enum.specs.declared.searching.Turn.{Turn}
use Rattle.path_enum.specs.declared.searching.Turn.TheVariants.{Ends, Goes}
use Rattle.path_enum.specs.States.{IsGoing, IsGrown, IsWithAnother, IsTurn}
use Rattle.path_enum.specs.Steps.{IsAccepted, IsBound, IsBegun, IsNext, IsNoLess, IsState}
use Rattle.path_enum.specs.Least.{IsLeastOf, IsEnded}
use Rattle.path_enum.proofs.LeastLemmas.{least_first, all_no_less, own_no_less}
use Rattle.path_enum.proofs.RoundLemmas.{round_made}

-- ---- lists with one more at the end

take_all : {X : Type 0} (xs : List X) (k : ℕ) → length xs ≤ k → take k xs ≡ xs
take_all [] zero h = refl
take_all [] (suc k) h = refl
take_all (x ∷ xs) zero h = absurd (omega (arith, h))
take_all (x ∷ xs) (suc k) h = ap (λ ys. x ∷ ys) (take_all xs k (omega (arith, h)))

take_none : {X : Type 0} (xs : List X) → take 0 xs ≡ []
take_none [] = refl
take_none (x ∷ xs) = refl

take_left : {X : Type 0} (xs : List X) (y : X) (k : ℕ) → k ≤ length xs → take k (xs ++ y ∷ []) ≡ take k xs
take_left xs y zero h = take_none (xs ++ y ∷ []) ∙ sym (take_none xs)
take_left [] y (suc k) h = absurd (omega (arith, h))
take_left (x ∷ xs) y (suc k) h = ap (λ ys. x ∷ ys) (take_left xs y k (omega (arith, h)))

index_left : {X : Type 0} (xs : List X) (y d : X) (i : ℕ) → i < length xs → slice_index_or (xs ++ y ∷ []) i d ≡ slice_index_or xs i d
index_left [] y d i h = absurd (omega (arith, h))
index_left (x ∷ xs) y d zero h = refl
index_left (x ∷ xs) y d (suc i) h = index_left xs y d i (omega (arith, h))

index_end : {X : Type 0} (xs : List X) (y d : X) → slice_index_or (xs ++ y ∷ []) (length xs) d ≡ y
index_end [] y d = refl
index_end (x ∷ xs) y d = index_end xs y d

one-long : {X : Type 0} (xs : List X) (y : X) → length (xs ++ y ∷ []) ≡ length xs + 1
one-long xs y = length-append xs (y ∷ [])

-- before the end, or there
below_end : (i n : ℕ) → i < n + 1 → (i < n) ⊎ (i ≡ n)
below_end i n h = by_test (nat_lt i n) refl
  where
    by_test : (t : Bool) → nat_lt i n ≡ t → (i < n) ⊎ (i ≡ n)
    by_test true e = inl (grind (arith, nat_tests))
    by_test false e = inr (let g : n ≤ i = grind (arith, nat_tests) in omega (arith, g, h))

-- ---- rounds

module _ (os : List Compare) (cs : List Column) (c : Column) where
  made_same : (r : ℕ) → r ≤ length cs → made_before os (cs ++ c ∷ []) r ≡ made_before os cs r
  made_same zero h = refl
  made_same (suc r) h =
      ap (λ m. (round_over os m (take (r + 1) (cs ++ c ∷ []))).made) (made_same r (omega (arith, h)))
      ∙ ap (λ (xs : List Column). (round_over os (made_before os cs r) xs).made) (take_left cs c (r + 1) (omega (arith, h)))

  round_same : (r : ℕ) → r + 1 ≤ length cs → round_at os (cs ++ c ∷ []) r ≡ round_at os cs r
  round_same r h =
      ap (λ m. round_over os m (take (r + 1) (cs ++ c ∷ []))) (made_same r (omega (arith, h)))
      ∙ ap (λ (xs : List Column). round_over os (made_before os cs r) xs) (take_left cs c (r + 1) h)

-- the round over all columns
pub last_is : (os : List Compare) (cs : List Column) (made : ℕ) → 0 < length cs → made ≡ made_before os cs (length cs - 1) → round_over os made cs ≡ last_round os cs
last_is os cs made some e =
    ap (λ m. round_over os m cs) e ∙ ap (λ (xs : List Column). round_over os (made_before os cs (length cs - 1)) xs) (sym (take_all cs ((length cs - 1) + 1) (omega (arith, some))))

made_last : (os : List Compare) (cs : List Column) → 0 < length cs → made_before os cs (length cs) ≡ (last_round os cs).made
made_last os cs some = ap (λ n. made_before os cs n) (less (length cs) some)
  where
    less : (n : ℕ) → 0 < n → n ≡ suc (n - 1)
    less n h = omega (arith, h)

module _ (t : Table) (s : System) (ls : List LoopShape) (ps : List Span) where
  abbrev os : List Compare
  os = ops_of s.claims.facts

  -- ---- the first column

  one_of : {X : Type 0} (P : X → Type 0) (x : X) → P x → All P (x ∷ [])
  one_of P x h = All-cons P x [] h (All-nil P)

  pub began : (a : Answered) (c : Cert) → IsBegun t s ls ps a → a.cert ≡ Some c → IsState t s ls ps (a.column ∷ []) (a.multipliers ∷ []) c 0
  began a c h e =
      let b = h.bound in
      let same : b.0 ≡ c = some_same (sym b.1 ∙ e) in record {
        searched = record { some = omega arith; first = h.best; later = λ r lt. absurd (omega (arith, lt)) };
        few = omega arith;
        each = one_of (IsColumnOf (length s.claims.facts)) a.column h.each;
        answers = record {
          long = refl;
          asked = one_of (AreAsked t s ls ps) a.multipliers h.asked;
          columns = first_column;
        };
        pivots = refl;
        most = omega arith;
        accepted = subst (IsAccepted t s) same b.2.accepted;
        alone = subst (IsBoundAlone s (a.column ∷ [])) same (record { mark = b.2.mark; entry = b.2.entry; cycles = b.3 });
        none_less = one_of (IsNoLess t s ls ps c) a.multipliers (subst (λ (d : Cert). IsNoLess t s ls ps d a.multipliers) same b.4);
      }
    where
      some_same : {x y : Cert} → Some x ≡ Some y → x ≡ y
      some_same e = cc

      first_column : (i : ℕ) → i < 1 → column_at (a.column ∷ []) i ≡ column_of t s (flow_of t s ls ps (a.multipliers ∷ []) i)
      first_column zero lt = h.column
      first_column (suc i) lt = absurd (omega (arith, lt))

  -- ---- one more column

  module _ (facts : s.claims.facts ≢ []) (cs : List Column) (ys : List Multipliers) (least : Cert) (made : ℕ) (state : IsState t s ls ps cs ys least made) where
    -- the bound that is kept
    lesser_alone : (c : Cert) → IsBound t s c → IsAccepted t s (lesser least c) × IsBoundAlone s cs (lesser least c)
    lesser_alone c b = by_test (nat_lt c.cycles least.cycles) refl
      where
        by_test : (q : Bool) → nat_lt c.cycles least.cycles ≡ q → IsAccepted t s (cond q c least) × IsBoundAlone s cs (cond q c least)
        by_test true e =
            let k = state.alone.cycles in
            let lt : c.cycles < least.cycles = grind (arith, nat_tests) in
            (b.accepted, record { mark = b.mark; entry = b.entry; cycles = (let p : pos c.cycles ≤ℤ pos least.cycles = omega (arith, ints, lt) in omega (arith, ints)) })
        by_test false e = (state.accepted, state.alone)

    pub least_alone : (o : Option Cert) → IfSome o (IsBound t s) → IsAccepted t s (least_of least o) × IsBoundAlone s cs (least_of least o)
    least_alone None h = (state.accepted, state.alone)
    least_alone (Some c) h = lesser_alone c h

    less_asked : (o : Option Cert) → All (IsNoLess t s ls ps (least_of least o)) ys
    less_asked o = all_no_less t s ls ps least (least_of least o) ys (least_first least o) state.none_less

    least_is : (zs : List Multipliers) → All (IsNoLess t s ls ps least) zs → (o : Option Cert) → IsLeastOf t s ls ps cs (least_of least o)
    least_is zs none o = record { asked = ys; tried = zs; answers = state.answers; none_asked = less_asked o; none_tried = all_no_less t s ls ps least (least_of least o) zs (least_first least o) none }

    module _ (a : Answered) (e : Ending) (next : IsNext t s ls ps cs e a) (ends : (last_round os cs).ending ≡ e) (room : length cs < 200) (most : (last_round os cs).made ≤ most_pivots) where
      abbrev cs' : List Column
      cs' = cs ++ a.column ∷ []

      abbrev ys' : List Multipliers
      ys' = ys ++ a.multipliers ∷ []

      some : 0 < length cs
      some = state.searched.some

      later : (r : ℕ) → r + 1 < length cs' → Follows t s (r + 1) (round_at os cs' r).ending (column_at cs' (r + 1))
      later r lt = by_place (below_end (r + 1) (length cs) (let n = one-long cs a.column in omega (arith, n, lt)))
        where
          by_place : (r + 1 < length cs) ⊎ (r + 1 ≡ length cs) → Follows t s (r + 1) (round_at os cs' r).ending (column_at cs' (r + 1))
          by_place (inl h) =
              subst (λ (g : Ended). Follows t s (r + 1) g.ending (column_at cs' (r + 1))) (sym (round_same os cs a.column r (omega (arith, h))))
              (subst (λ (c : Column). Follows t s (r + 1) (round_at os cs r).ending c) (sym (index_left cs a.column no_column (r + 1) h)) (state.searched.later r h))
          by_place (inr h) =
              let k : r ≡ length cs - 1 = omega (arith, h) in
              subst (λ (g : Ended). Follows t s (r + 1) g.ending (column_at cs' (r + 1))) (sym (round_same os cs a.column r (omega (arith, h))))
              (subst (λ (f : Ending). Follows t s (r + 1) f (column_at cs' (r + 1))) (sym (ap (λ n. (round_at os cs n).ending) k ∙ ends))
              (subst (λ n. Follows t s n e (column_at cs' n)) (sym h)
              (subst (λ (c : Column). Follows t s (length cs) e c) (sym (index_end cs a.column no_column)) next.follows)))

      columns : (i : ℕ) → i < length cs' → column_at cs' i ≡ column_of t s (flow_of t s ls ps ys' i)
      columns i lt = by_place (below_end i (length cs) (let n = one-long cs a.column in omega (arith, n, lt)))
        where
          by_place : (i < length cs) ⊎ (i ≡ length cs) → column_at cs' i ≡ column_of t s (flow_of t s ls ps ys' i)
          by_place (inl h) =
              index_left cs a.column no_column i h
              ∙ (state.answers.columns i h
              ∙ ap (λ (y : Multipliers). column_of t s (flow_of t s ls ps (y ∷ []) 0)) (sym (index_left ys a.multipliers no_multipliers i (let n = state.answers.long in omega (arith, n, h)))))
          by_place (inr h) =
              ap (λ n. column_at cs' n) h
              ∙ (index_end cs a.column no_column
              ∙ (next.column
              ∙ ap (λ (y : Multipliers). column_of t s (flow_of t s ls ps (y ∷ []) 0)) (sym (ap (λ n. slice_index_or ys' n no_multipliers) (h ∙ sym state.answers.long) ∙ index_end ys a.multipliers no_multipliers))))

      grown_searched : AreSearched t s cs'
      grown_searched = record {
        some = (let n = one-long cs a.column in omega (arith, n));
        first = subst (IsBest t s 1 []) (sym (index_left cs a.column no_column 0 some)) state.searched.first;
        later = later;
      }

      pub grown : IsState t s ls ps cs' ys' (least_of least a.cert) (last_round os cs).made
      grown =
          let l = least_alone a.cert next.bound in record {
            searched = grown_searched;
            few = (let n = one-long cs a.column in omega (arith, n, room));
            each = All-append (IsColumnOf (length s.claims.facts)) cs (a.column ∷ []) state.each (one_of (IsColumnOf (length s.claims.facts)) a.column next.each);
            answers = record {
              long = one-long ys a.multipliers ∙ (ap (λ n. n + 1) state.answers.long ∙ sym (one-long cs a.column));
              asked = All-append (AreAsked t s ls ps) ys (a.multipliers ∷ []) state.answers.asked (one_of (AreAsked t s ls ps) a.multipliers next.asked);
              columns = columns;
            };
            most = most;
            pivots = sym (ap (λ n. made_before os cs' (n - 1)) (one-long cs a.column) ∙ (ap (λ n. made_before os cs' n) (before (length cs)) ∙ (made_same os cs a.column (length cs) (omega arith) ∙ made_last os cs some)));
            accepted = l.0;
            alone = record { mark = l.1.mark; entry = l.1.entry; cycles = subst (λ (c : Column). pos (least_of least a.cert).cycles ≤ℤ c.value) (sym (index_left cs a.column no_column 0 some)) l.1.cycles };
            none_less = All-append (IsNoLess t s ls ps (least_of least a.cert)) ys (a.multipliers ∷ []) (less_asked a.cert) (one_of (IsNoLess t s ls ps (least_of least a.cert)) a.multipliers (own_no_less t s ls ps least a.cert a.multipliers next.cert));
          }
        where
          before : (n : ℕ) → (n + 1) - 1 ≡ n
          before n = omega arith

    -- ---- answers

    filled : HasColumns t s cs
    filled = record {
      few = state.few;
      none = λ e. absurd (facts e);
      searched = λ h. state.searched;
      each = state.each;
    }

    found_is : (c : Cert) (k : Kind) → IsAccepted t s c → HasKind t s cs c k → IsFound t s (found c k cs)
    found_is c k a h = record { form = a.form; accepted = a.accepts; kind = h; columns = filled }

    -- ---- the end of the round over the columns

    module _ (zs : List Multipliers) (none_tried : All (IsNoLess t s ls ps least) zs) (r : Ended) (round : r ≡ round_over os made cs) where
      last : r ≡ last_round os cs
      last = round ∙ last_is os cs made state.searched.some state.pivots

      pub turn_wide : (o : Option Cert) → EndsWide s cs r.ending → IfSome o (IsBound t s) → IsEnded t s ls ps (found (least_of least o) (kinds.Wide r.made) cs)
      turn_wide o ends bound =
          let l = least_alone o bound in (
            found_is (least_of least o) (kinds.Wide r.made) l.0 (
              l.1,
              record {
                facts = facts;
                searched = state.searched;
                number = ap (λ (x : Ended). x.made) last;
                ends = subst (λ (x : Ended). EndsWide s cs x.ending) last ends;
              },
            ),
            least_is zs none_tried o,
          )

      pub turn_spent : r.ending ≡ NoPivots → IsEnded t s ls ps (found least (kinds.Spent (length cs) r.made) cs)
      turn_spent none = (
        found_is least (kinds.Spent (length cs) r.made) state.accepted (
          state.alone,
          record {
            facts = facts;
            searched = state.searched;
            listed = refl;
            made = ap (λ (x : Ended). x.made) last;
            limit = inr (ap (λ (x : Ended). x.made) round ∙ round_made os made cs state.most (ap (λ (x : Ended). x.ending) (sym round) ∙ none));
          },
        ),
        least_is zs none_tried None,
      )

      pub turn_empty : (c : Cert) → IsAccepted t s c → c.mark ≡ marks.Empty → IsEnded t s ls ps (found c kinds.Empty cs)
      turn_empty c a m = (found_is c kinds.Empty a m, tt)

      pub turn_greatest : (c : Cert) → IsAccepted t s c → c.mark ≡ marks.Greatest → IsEnded t s ls ps (found c kinds.Greatest cs)
      turn_greatest c a m = (found_is c kinds.Greatest a m, tt)

      -- with all columns there
      pub turn_full : (a : Answered) → IsNext t s ls ps cs r.ending a → length cs ≡ 200 → IsEnded t s ls ps (found (least_of least a.cert) (kinds.Spent (length cs) r.made) cs)
      turn_full a next full =
          let l = least_alone a.cert next.bound in (
            found_is (least_of least a.cert) (kinds.Spent (length cs) r.made) l.0 (
              l.1,
              record {
                facts = facts;
                searched = state.searched;
                listed = refl;
                made = ap (λ (x : Ended). x.made) last;
                limit = inl (full, (a.column, subst (λ (x : Ended). Follows t s (length cs) x.ending a.column) last next.follows));
              },
            ),
            least_is zs none_tried a.cert,
          )

      pub turn_grown : (a : Answered) → IsNext t s ls ps cs r.ending a → length cs ≢ 200 → r.made ≤ most_pivots → IsState t s ls ps (cs ++ a.column ∷ []) (ys ++ a.multipliers ∷ []) (least_of least a.cert) r.made
      turn_grown a next room most =
          let few = state.few in
          let e = ap (λ (x : Ended). x.made) last in
          subst (IsState t s ls ps (cs ++ a.column ∷ []) (ys ++ a.multipliers ∷ []) (least_of least a.cert)) (sym e)
          (grown a r.ending next (ap (λ (x : Ended). x.ending) (sym last)) (omega (arith, few, room)) (subst (λ n. n ≤ most_pivots) e most))

  -- ---- states

  pub began_state : (a : Answered) (g : State) (zs : List Multipliers) → IsBegun t s ls ps a → All (λ y. IfSome a.cert (λ c. IsNoLess t s ls ps c y)) zs → g.columns.items ≡ a.column ∷ [] → g.asked.items ≡ a.multipliers ∷ [] → a.cert ≡ Some g.least → g.made ≡ 0 → g.tried.items ≡ zs → IsGoing t s ls ps g
  began_state a g zs h none columns asked least count tried = (
    subst (λ (xs : List Column). IsState t s ls ps xs g.asked.items g.least g.made) (sym columns)
        (subst (λ (us : List Multipliers). IsState t s ls ps (a.column ∷ []) us g.least g.made) (sym asked)
        (subst (λ n. IsState t s ls ps (a.column ∷ []) (a.multipliers ∷ []) g.least n) (sym count) (began a g.least h least))),
    subst (All (IsNoLess t s ls ps g.least)) (sym tried) (subst (λ (o : Option Cert). All (λ y. IfSome o (λ c. IsNoLess t s ls ps c y)) zs) least none),
  )

  module _ (facts : s.claims.facts ≢ []) (g : State) (going : IsGoing t s ls ps g) (r : Ended) (round : r ≡ round_over os g.made g.columns.items) (a : Answered) (next : IsNext t s ls ps g.columns.items r.ending a) (most : r.made ≤ most_pivots) where
    grown_state : (h : State) → length g.columns.items ≢ 200 → IsGrown g a r.made h → IsGoing t s ls ps h
    grown_state h room is = (
      subst (λ (xs : List Column). IsState t s ls ps xs h.asked.items h.least h.made) (sym is.columns)
          (subst (λ (us : List Multipliers). IsState t s ls ps (g.columns.items ++ a.column ∷ []) us h.least h.made) (sym is.asked)
          (subst (λ (c : Cert). IsState t s ls ps (g.columns.items ++ a.column ∷ []) (g.asked.items ++ a.multipliers ∷ []) c h.made) (sym is.least)
          (subst (λ n. IsState t s ls ps (g.columns.items ++ a.column ∷ []) (g.asked.items ++ a.multipliers ∷ []) (least_of g.least a.cert) n) (sym is.made)
          (turn_grown facts g.columns.items g.asked.items g.least g.made going.0 g.tried.items going.1 r round a next room most)))),
      subst (All (IsNoLess t s ls ps h.least)) (sym is.tried) (subst (λ (c : Cert). All (IsNoLess t s ls ps c) g.tried.items) (sym is.least) (all_no_less t s ls ps g.least (least_of g.least a.cert) g.tried.items (least_first g.least a.cert) going.1)),
    )

    pub turn_another : (turn : Turn) → IsWithAnother g a r.made turn → IsTurn t s ls ps g turn
    turn_another (Ends b) h = subst (IsEnded t s ls ps) (sym h.1) (turn_full facts g.columns.items g.asked.items g.least g.made going.0 g.tried.items going.1 r round a next h.0)
    turn_another (Goes x) h = (grown_state x h.0 h.1, (let l = ap length h.1.columns in let n = one-long g.columns.items a.column in omega (arith, l, n)))
