-- The objects of a block are unwritten when it is entered, for which there is no code.
use Rattle.std.proofs.Common.{◌≡◌, ◌⊎◌, ⊎_elim, ℕ, ◌<◌, ◌≤◌, Bool, true, false, List, [], ◌∷◌, length, replicate, Option, Some, None, refl, sym, ap, ◌∙◌, subst, arith}
use Rattle.std.specs.Prelude.{◌==◌, slice_get, slice_index_or, slice_set, unwrap_or}
use Rattle.std.proofs.lemmas.Bool.{cases_eq, cases_lt, eqb-true, false≢true, or_cases, or_left}
use Rattle.std.proofs.lemmas.List.{get_or-replicate, get_or-set_same, get_or-set_other, get_or_past, length-replicate, set_past}
use Rattle.std.proofs.lemmas.Option.{none-some, get_or_from_slice_get, unwrap_or-slice_get}
use Rattle.meaning_semantics.specs.State as source
use Rattle.meaning_semantics.specs.Statements.{begun, entered, unwritten_all}
use Rattle.types_tree.specs.Tree.{Object, Declared, Declaration, Objects, Prototype, Items, NoItem, WithDeclaration, WithStatement, WithRestriction, WithLabel}
use Rattle.facts_definitions.specs.declared.facts.Bounds.{Bounds}
use Rattle.high_ir.specs.declared.object.Kind.{Kind}
use Rattle.meaning_semantics.specs.declared.outcome.Flow.{Flow}
use Rattle.meaning_semantics.specs.declared.outcome.Flow.TheVariants.{Onward, Break, Continue, Return}
use Rattle.high_ir.specs.Tree.{Statements}
use Rattle.high_ir.specs.Meaning.{State, Outcome, Goes, Leaves}
use Rattle.plan_definition.specs.Statements.{Exits}
use Rattle.plan_runs.specs.ExpressionFits.{Function, Signatures}
use Rattle.plan_runs.specs.Cells.{Cells, cell, size}
use Rattle.plan_runs.specs.Meets.{Layout, Untouched}
use Rattle.plan_runs.specs.Claims.{Setting, IsSetting, MeetsIn, Reached}
use Rattle.plan_runs.proofs.Cells.{slice_get-set_other}
use Rattle.plan_runs.proofs.Holding.{reached_same, reached_then}
use Rattle.plan_runs.specs.StatementFits.{IsDeclared, FitObjects, FitDeclaration, FitItems, among, block_declares, declares, with_live}
use Rattle.plan_runs.specs.Flows.{in_scope, Comes, Does}

-- the objects where one holds nothing any more
abbrev pub cleared : Cells → (object : ℕ) → Cells
cleared objects object = slice_set objects object (replicate (size objects object) None)

-- an element that was not written
abbrev no_word : Option ℕ
no_word = None

nothing_there : (n i w : ℕ) → slice_index_or (replicate n None) i None ≡ Some w → ⊥
nothing_there n i w holds = none-some w (sym (all_none (cases_lt i n)) ∙ holds)
  where
    all_none : (i < n) ⊎ (n ≤ i) → slice_index_or (replicate n no_word) i no_word ≡ no_word
    all_none = ⊎_elim (λ (lt : i < n). get_or-replicate n i no_word no_word lt) (λ (past : n ≤ i). get_or_past (replicate n no_word) i no_word (subst (λ m. m ≤ i) (sym (length-replicate n no_word)) past))

row_cleared : (objects : Cells) (o : ℕ) → o < length objects → slice_index_or (cleared objects o) o [] ≡ replicate (size objects o) None
row_cleared objects o lt = get_or-set_same objects o (replicate (size objects o) None) [] lt

cleared_past : (objects : Cells) (o : ℕ) → length objects ≤ o → cleared objects o ≡ objects
cleared_past objects o past = set_past objects o (replicate (size objects o) None) past

-- a word that is there was there before
cell_cleared : (objects : Cells) (o p i w : ℕ) → cell (cleared objects o) p i ≡ Some w → cell objects p i ≡ Some w
cell_cleared objects o p i w holds = ⊎_elim at_object (λ (other : p ≡ o → ⊥). sym (ap (λ row. slice_index_or row i None) (get_or-set_other objects o p (replicate (size objects o) None) [] other)) ∙ holds) (cases_eq p o)
  where
    at_object : p ≡ o → cell objects p i ≡ Some w
    at_object same = ⊎_elim
        (λ (lt : o < length objects).
        let gone : slice_index_or (replicate (size objects o) None) i None ≡ Some w = sym (ap (λ row. slice_index_or row i None) (row_cleared objects o lt)) ∙ ap (λ q. cell (cleared objects o) q i) (sym same) ∙ holds in
        absurd (nothing_there (size objects o) i w gone))
        (λ (past : length objects ≤ o). ap (λ cells. cell cells p i) (sym (cleared_past objects o past)) ∙ holds)
        (cases_lt o (length objects))

size-cleared : (objects : Cells) (o p : ℕ) → size (cleared objects o) p ≡ size objects p
size-cleared objects o p = ⊎_elim
    (λ (same : p ≡ o).
    ap (size (cleared objects o)) same
    ∙ ⊎_elim (λ (lt : o < length objects). ap length (row_cleared objects o lt) ∙ length-replicate (size objects o) None) (λ (past : length objects ≤ o). ap (λ cells. size cells o) (cleared_past objects o past)) (cases_lt o (length objects))
    ∙ ap (size objects) (sym same))
    (λ (other : p ≡ o → ⊥). ap length (get_or-set_other objects o p (replicate (size objects o) None) [] other))
    (cases_eq p o)

-- unwriting clears, or does nothing where nothing is
unwritten_cases : (C : source.State → Type 0) (o : ℕ) (st : source.State) → (slice_get st.objects o ≡ None → C st) → C (source.with_objects st (cleared st.objects o)) → C (source.unwritten o st)
unwritten_cases C o st same cleared_one = of (slice_get st.objects o) refl
  where
    of : (row : Option (List (Option ℕ))) → slice_get st.objects o ≡ row → C (source.unwritten_in row o st)
    of None e = same e
    of (Some row) e =
        subst (λ r. C (source.with_objects st (slice_set st.objects o (replicate (length r) None)))) (get_or_from_slice_get st.objects o row [] e) cleared_one

least : (n : ℕ) → 0 ≤ n
least n = omega arith

-- what was unwritten has no word
cleared_none : (objects : Cells) (o i w : ℕ) → cell (cleared objects o) o i ≡ Some w → ⊥
cleared_none objects o i w holds = ⊎_elim
    (λ (lt : o < length objects). nothing_there (size objects o) i w (sym (ap (λ row. slice_index_or row i None) (row_cleared objects o lt)) ∙ holds))
    (λ (past : length objects ≤ o). none_past (cell_cleared objects o o i w holds) (get_or_past objects o [] past))
    (cases_lt o (length objects))
  where
    none_past : cell objects o i ≡ Some w → slice_index_or objects o [] ≡ [] → ⊥
    none_past is empty = none-some w (sym (get_or_past {X = Option ℕ} [] i None (least i)) ∙ ap (λ row. slice_index_or row i None) (sym empty) ∙ is)

unwritten_before : (o p i w : ℕ) (st : source.State) → cell (source.unwritten o st).objects p i ≡ Some w → cell st.objects p i ≡ Some w
unwritten_before o p i w st = unwritten_cases (λ st1. cell st1.objects p i ≡ Some w → cell st.objects p i ≡ Some w) o st (λ e is. is) (λ is. cell_cleared st.objects o p i w is)

unwritten_none : (o i w : ℕ) (st : source.State) → cell (source.unwritten o st).objects o i ≡ Some w → ⊥
unwritten_none o i w st = unwritten_cases (λ st1. cell st1.objects o i ≡ Some w → ⊥) o st
    (λ e is. none-some w (sym (nowhere e) ∙ is)) (λ is. cleared_none st.objects o i w is)
  where
    nowhere : slice_get st.objects o ≡ None → cell st.objects o i ≡ None
    nowhere e = ap (λ row. slice_index_or row i None) (sym (unwrap_or-slice_get st.objects o []) ∙ ap (λ r. unwrap_or r []) e) ∙ get_or_past {X = Option ℕ} [] i None (least i)

all_before : (objects : List Object) (p i w : ℕ) (st : source.State) → cell (unwritten_all objects st).objects p i ≡ Some w → cell st.objects p i ≡ Some w
all_before [] p i w st is = is
all_before (Declared object shape initial at ∷ rest) p i w st is = unwritten_before object p i w st (all_before rest p i w (source.unwritten object st) is)

all_none : (objects : List Object) (p i w : ℕ) (st : source.State) → among objects p ≡ true → cell (unwritten_all objects st).objects p i ≡ Some w → ⊥
all_none [] p i w st there is = false≢true there
all_none (Declared object shape initial at ∷ rest) p i w st there is = ⊎_elim
    (λ (here : (object == p) ≡ true).
    let same : object ≡ p = eqb-true object p here in
    unwritten_none object i w st (ap (λ q. cell (source.unwritten object st).objects q i) same ∙ all_before rest p i w (source.unwritten object st) is))
    (λ (later : among rest p ≡ true). all_none rest p i w (source.unwritten object st) later is)
    (or_cases (object == p) (among rest p) there)

begun_before : (declaration : Declaration) (p i w : ℕ) (st : source.State) → cell (begun declaration st).objects p i ≡ Some w → cell st.objects p i ≡ Some w
begun_before (Objects specifiers objects at) p i w st is = all_before objects p i w st is
begun_before (Prototype specifiers name params at) p i w st is = is

pub begun_none : (declaration : Declaration) (p i w : ℕ) (st : source.State) → declares declaration p ≡ true → cell (begun declaration st).objects p i ≡ Some w → ⊥
begun_none (Objects specifiers objects at) p i w st there is = all_none objects p i w st there is
begun_none (Prototype specifiers name params at) p i w st there is = false≢true there

entered_before : (items : Items) (p i w : ℕ) (st : source.State) → cell (entered items st).objects p i ≡ Some w → cell st.objects p i ≡ Some w
entered_before NoItem p i w st is = is
entered_before (WithDeclaration declaration rest) p i w st is = begun_before declaration p i w st (entered_before rest p i w (begun declaration st) is)
entered_before (WithStatement statement rest) p i w st is = entered_before rest p i w st is
entered_before (WithRestriction pragma rest) p i w st is = entered_before rest p i w st is
entered_before (WithLabel label rest) p i w st is = entered_before rest p i w st is

entered_none : (items : Items) (p i w : ℕ) (st : source.State) → block_declares items p ≡ true → cell (entered items st).objects p i ≡ Some w → ⊥
entered_none NoItem p i w st there is = false≢true there
entered_none (WithDeclaration declaration rest) p i w st there is = ⊎_elim
    (λ (here : declares declaration p ≡ true). begun_none declaration p i w st here (entered_before rest p i w (begun declaration st) is))
    (λ (later : block_declares rest p ≡ true). entered_none rest p i w (begun declaration st) later is)
    (or_cases (declares declaration p) (block_declares rest p) there)
entered_none (WithStatement statement rest) p i w st there is = entered_none rest p i w st there is
entered_none (WithRestriction pragma rest) p i w st there is = entered_none rest p i w st there is
entered_none (WithLabel label rest) p i w st there is = entered_none rest p i w st there is

module _ (s : Setting) (ok : IsSetting s) (result : Kind) (bounds : List Bounds) (k : ℕ) (hs : State) where
  cleared_meets : (o : ℕ) (st : source.State) → MeetsIn s st hs → MeetsIn s (source.with_objects st (cleared st.objects o)) hs
  cleared_meets o st m = record {
    world = record {
      input = m.world.input;
      output = m.world.output;
      counts = m.world.counts;
      marks_are = m.world.marks_are;
      memory = λ p n a lives base.
          let h = m.world.memory p n a lives base in
          record {
            contents = h.contents;
            there = h.there;
            kind_is = h.kind_is;
            writable = h.writable;
            size_is = h.size_is ∙ sym (size-cleared st.objects o p);
            words = λ i w holds. h.words i w (cell_cleared st.objects o p i w holds);
          };
      sizes_are = λ p n a lives base. size-cleared st.objects o p ∙ m.world.sizes_are p n a lives base;
      ranged = λ p i w plain holds. m.world.ranged p i w plain (cell_cleared st.objects o p i w holds);
    };
    frame = record {
      words = λ p x w lives own holds. m.frame.words p x w lives own (cell_cleared st.objects o p 0 w holds);
      passes = λ p j q a lives base own holds. m.frame.passes p j q a lives base own (cell_cleared st.objects o p 0 q holds);
    };
    room_is = m.room_is;
  }

  below_itself : (n : ℕ) → n < n → ⊥
  below_itself n lt = omega (arith, lt)

  cleared_untouched : (o : ℕ) (st : source.State) → s.layout.owner o ≡ s.function.number → Untouched s.layout (s.layout.rank s.function.number) st.objects (cleared st.objects o)
  cleared_untouched o st owner_is = record {
    by = λ p own above.
        slice_get-set_other st.objects o p (replicate (size st.objects o) None)
        (λ same. below_itself (s.layout.rank s.function.number)
        (subst (λ f. s.layout.rank s.function.number < s.layout.rank f) owner_is (subst (λ q. s.layout.rank s.function.number < s.layout.rank (s.layout.owner q)) same above)));
  }

  unwritten_reached : (o : ℕ) (st : source.State) → s.layout.owner o ≡ s.function.number → MeetsIn s st hs → Reached s k st hs (source.unwritten o st) hs
  unwritten_reached o st owner_is m = unwritten_cases (λ st1. Reached s k st hs st1 hs) o st (λ e. reached_same s ok k st hs m)
      (record { meets = cleared_meets o st m; keeps = λ j from below. refl; untouched = cleared_untouched o st owner_is })

  -- at a place where more objects may live
  module _ (more : ℕ → Bool) where
    objects_reached : (objects : List Object) (st : source.State) → FitObjects s.layout s.signatures result bounds (with_live s.function more) objects → MeetsIn s st hs → Reached s k st hs (unwritten_all objects st) hs
    objects_reached [] st fit m = reached_same s ok k st hs m
    objects_reached (Declared object shape initial at ∷ rest) st fit m =
        let r = unwritten_reached object st fit.0.0 m in
        reached_then s ok k st hs (source.unwritten object st) hs (unwritten_all rest (source.unwritten object st)) hs r (objects_reached rest (source.unwritten object st) fit.2 r.meets)

    begun_reached : (declaration : Declaration) (st : source.State) → FitDeclaration s.layout s.signatures result bounds (with_live s.function more) declaration → MeetsIn s st hs → Reached s k st hs (begun declaration st) hs
    begun_reached (Objects specifiers objects at) st fit m = objects_reached objects st fit m
    begun_reached (Prototype specifiers name params at) st fit m = reached_same s ok k st hs m

    entered_reached : (items : Items) (st : source.State) → FitItems s.layout s.signatures result bounds (with_live s.function more) items → MeetsIn s st hs → Reached s k st hs (entered items st) hs
    entered_reached NoItem st fit m = reached_same s ok k st hs m
    entered_reached (WithDeclaration declaration rest) st fit m =
        let r = begun_reached declaration st fit.0 m in
        reached_then s ok k st hs (begun declaration st) hs (entered rest (begun declaration st)) hs r (entered_reached rest (begun declaration st) fit.1 r.meets)
    entered_reached (WithStatement statement rest) st fit m = entered_reached rest st fit.1 m
    entered_reached (WithRestriction pragma rest) st fit m = entered_reached rest st fit m
    entered_reached (WithLabel label rest) st fit m = entered_reached rest st fit m

    -- the objects that live more hold nothing
    meets_in : (st : source.State) → MeetsIn s st hs → ((o w : ℕ) → more o ≡ true → cell st.objects o 0 ≡ Some w → ⊥) → MeetsIn (in_scope s more) st hs
    meets_in st m none = record {
      world = m.world;
      frame = record {
        words = λ o x w lives live holds. ⊎_elim (λ (old : s.function.live o ≡ true). m.frame.words o x w lives old holds) (λ (new : more o ≡ true). absurd (none o w new holds)) (or_cases (s.function.live o) (more o) live);
        passes = λ o j q a lives base live holds. ⊎_elim (λ (old : s.function.live o ≡ true). m.frame.passes o j q a lives base old holds) (λ (new : more o ≡ true). absurd (none o q new holds)) (or_cases (s.function.live o) (more o) live);
      };
      room_is = m.room_is;
    }

    reached_in : (st : source.State) → ((o w : ℕ) → more o ≡ true → cell st.objects o 0 ≡ Some w → ⊥) → (st0 : source.State) → Reached s k st0 hs st hs → Reached (in_scope s more) k st0 hs st hs
    reached_in st none st0 r = record { meets = meets_in st r.meets none; keeps = r.keeps; untouched = r.untouched }

  -- a block is entered
  pub block_entered : (items : Items) (st : source.State) → FitItems s.layout s.signatures result bounds (with_live s.function (block_declares items)) items → MeetsIn s st hs → Reached (in_scope s (block_declares items)) k st hs (entered items st) hs
  block_entered items st fit m = reached_in (block_declares items) (entered items st) (λ o w there is. entered_none items o 0 w st there is) st (entered_reached (block_declares items) items st fit m)

  -- the head of a `for` declares
  pub declaration_begun : (declaration : Declaration) (st : source.State) → FitDeclaration s.layout s.signatures result bounds (with_live s.function (declares declaration)) declaration → MeetsIn s st hs → Reached (in_scope s (declares declaration)) k st hs (begun declaration st) hs
  declaration_begun declaration st fit m = reached_in (declares declaration) (begun declaration st) (λ o w there is. begun_none declaration o 0 w st there is) st (begun_reached (declares declaration) declaration st fit m)

  -- where no more live
  pub nothing_more : (st : source.State) → MeetsIn s st hs → MeetsIn (in_scope s (λ o. false)) st hs
  nothing_more st m = meets_in (λ o. false) st m (λ o w there is. false≢true there)

-- objects that are declared may live
module _ (s : Setting) (ok : IsSetting s) (more : ℕ → Bool) (declared : (o : ℕ) → more o ≡ true → IsDeclared s.layout s.function o) where
  pub scope_ok : IsSetting (in_scope s more)
  scope_ok = record {
    calls = ok.calls;
    falls = ok.falls;
    placed = ok.placed;
    below = λ o x lives live. ⊎_elim (λ (old : s.function.live o ≡ true). ok.below o x lives old) (λ (new : more o ≡ true). (declared o new).1 x lives) (or_cases (s.function.live o) (more o) live);
    owned = λ o live. ⊎_elim (λ (old : s.function.live o ≡ true). ok.owned o old) (λ (new : more o ≡ true). (declared o new).0) (or_cases (s.function.live o) (more o) live);
  }

-- what holds where more live holds where fewer do
module _ (s : Setting) (more : ℕ → Bool) (result : Kind) (exits : Exits) (k : ℕ) (code : Statements) (st : source.State) (hs : State) where
  meets_out : (st1 : source.State) (h : State) → MeetsIn (in_scope s more) st1 h → MeetsIn s st1 h
  meets_out st1 h m = record {
    world = m.world;
    frame = record {
      words = λ o x w lives live holds. m.frame.words o x w lives (or_left (s.function.live o) (more o) live) holds;
      passes = λ o j q a lives base live holds. m.frame.passes o j q a lives base (or_left (s.function.live o) (more o) live) holds;
    };
    room_is = m.room_is;
  }

  comes_out : (st1 : source.State) (way : State → Outcome) → Comes (in_scope s more) result code k st hs st1 way → Comes s result code k st hs st1 way
  comes_out st1 way c = record { behind = c.behind; runs = c.runs; reached = record { meets = meets_out st1 c.behind c.reached.meets; keeps = c.reached.keeps; untouched = c.reached.untouched } }

  pub does_out : (o : source.Outcome Flow) → Does (in_scope s more) result exits code k st hs o → Does s result exits code k st hs o
  does_out (source.Stopped stop) d = tt
  does_out (source.Fine Onward st1) d = comes_out st1 Goes d
  does_out (source.Fine Break st1) d = comes_out st1 (Leaves exits.out) d
  does_out (source.Fine Continue st1) d = comes_out st1 (Leaves exits.next) d
  does_out (source.Fine (Return value) st1) d = record { world = d.world; trace = d.trace; runs = d.runs; meets = d.meets; untouched = d.untouched; range_is = d.range_is }

-- the objects that are declared are those of the function
module _ (layout : Layout) (signatures : Signatures) (result : Kind) (bounds : List Bounds) (f : Function) (more : ℕ → Bool) where
  among_declared : (objects : List Object) → FitObjects layout signatures result bounds (with_live f more) objects → (o : ℕ) → among objects o ≡ true → IsDeclared layout f o
  among_declared [] fit o there = absurd (false≢true there)
  among_declared (Declared object shape initial at ∷ rest) fit o there = ⊎_elim
      (λ (here : (object == o) ≡ true). subst (IsDeclared layout f) (eqb-true object o here) fit.0)
      (λ (later : among rest o ≡ true). among_declared rest fit.2 o later)
      (or_cases (object == o) (among rest o) there)

  pub declares_own : (declaration : Declaration) → FitDeclaration layout signatures result bounds (with_live f more) declaration → (o : ℕ) → declares declaration o ≡ true → IsDeclared layout f o
  declares_own (Objects specifiers objects at) fit o there = among_declared objects fit o there
  declares_own (Prototype specifiers name params at) fit o there = absurd (false≢true there)

  pub block_own : (items : Items) → FitItems layout signatures result bounds (with_live f more) items → (o : ℕ) → block_declares items o ≡ true → IsDeclared layout f o
  block_own NoItem fit o there = absurd (false≢true there)
  block_own (WithDeclaration declaration rest) fit o there = ⊎_elim
      (λ (here : declares declaration o ≡ true). declares_own declaration fit.0 o here)
      (λ (later : block_declares rest o ≡ true). block_own rest fit.1 o later)
      (or_cases (declares declaration o) (block_declares rest o) there)
  block_own (WithStatement statement rest) fit o there = block_own rest fit.1 o there
  block_own (WithRestriction pragma rest) fit o there = block_own rest fit o there
  block_own (WithLabel label rest) fit o there = block_own rest fit o there
