-- What the code of expressions does, wherever they have a value.
use Rattle.std.specs.Prelude.{◌≡◌, ℕ, ◌<◌, ◌≤◌, Bool, true, List, [], ◌∷◌, Option, Some, None, slice_index_or}
use Rattle.meaning_semantics.specs.State as source
use Rattle.meaning_semantics.specs.Runs.{or_zero}
use Rattle.meaning_semantics.specs.Values as values
use Rattle.meaning_semantics.specs.declared.outcome.Found.{Found}
use Rattle.types_tree.specs.Tree.{Place, Expr, Exprs}
use Rattle.high_ir.specs.declared.object.Kind.{Kind}
use Rattle.high_ir.specs.Tree as high
use Rattle.high_ir.specs.Meaning.{State, World, Outcome, Goes, Leaves, Given, Calls, choose, object_number, objects_of, value_of, values_of, run_all}
use Rattle.high_ir.specs.Words.{converted}
use Rattle.high_code.specs.Code.{AllWithin}
use Rattle.plan_definition.specs.declared.home.Home.TheVariants.{Frame}
use Rattle.plan_definition.specs.declared.purpose.Purpose.{Purpose}
use Rattle.plan_definition.specs.declared.purpose.Purpose.TheVariants.{Value, Effect, Unless, When}
use Rattle.plan_definition.specs.Homes.{Target, InFrame, InMemory}
use Rattle.plan_definition.specs.Values.{Valued, Aimed, Passing, aimed, made, passing}
use Rattle.plan_runs.specs.Meets.{Layout, IsLayout, home, kind_at, IsArray, MeetsWorld, Meets, Untouched}
use Rattle.plan_runs.specs.ExpressionFits.{Formal, OfWord, OfArray, Signatures, Function, place_constant, place_kind, range_of}

-- a run of a function: where objects live, the arrays that were passed, the size of its frame, and what calls do
pub record Setting : Type 0 where
  pub layout : Layout
  pub signatures : Signatures
  pub function : Function
  pub passed : List ℕ
  pub room : ℕ
  pub call : values.Calls
  pub high_call : Calls

-- the arguments of a call, as values and arrays
abbrev pub Handed : Layout → List Formal → (words vs ns : List ℕ) → Type 0
Handed layout [] [] vs ns = (vs ≡ []) × (ns ≡ [])
Handed layout [] (w ∷ words) vs ns = ⊥
Handed layout (formal ∷ formals) [] vs ns = ⊥
Handed layout (OfWord kind ∷ formals) (w ∷ words) vs ns = (rest : List ℕ) × (vs ≡ w ∷ rest) × (converted kind w ≡ w) × Handed layout formals words rest ns
Handed layout (OfArray kind constant ∷ formals) (w ∷ words) vs ns = (n : ℕ) × (rest : List ℕ) × (ns ≡ n ∷ rest) × IsArray layout w kind constant (Some n) × Handed layout formals words vs rest

-- what a call leaves
pub record Answers (layout : Layout) (rank : ℕ) (range : Kind) (st : source.State) (result : Option ℕ) (st1 : source.State) (o : Option Given) : Type 0 where
  pub given : Given
  pub runs : o ≡ Some given
  pub value : given.value ≡ or_zero result
  pub meets : MeetsWorld layout st1 given.world given.trace
  pub untouched : Untouched layout rank st.objects st1.objects
  pub range_is : converted range given.value ≡ given.value

abbrev pub GivesBack : Layout → (rank : ℕ) → (range : Kind) → (st : source.State) → source.Outcome (Option ℕ) → Option Given → Type 0
GivesBack layout rank range st (source.Stopped stop) o = Unit {0}
GivesBack layout rank range st (source.Fine result st1) o = Answers layout rank range st result st1 o

-- calls of functions of a lower rank do what they mean
pub record CallsMeet (layout : Layout) (signatures : Signatures) (rank : ℕ) (call : values.Calls) (high_call : Calls) : Type 0 where
  pub by : (g at : ℕ) (words vs ns : List ℕ) (st : source.State) (w : World) (trace : List ℕ) → layout.rank g < rank → Handed layout (signatures.parameters g) words vs ns → MeetsWorld layout st w trace →
      GivesBack layout (layout.rank g) (signatures.results g) st (call g words at st) (high_call g vs ns w trace)

-- its callees are of a lower rank, and its temporaries are none of its variables
pub record IsSetting (s : Setting) : Type 0 where
  pub calls : CallsMeet s.layout s.signatures (s.layout.rank s.function.number) s.call s.high_call
  pub falls : (g : ℕ) → s.function.callable g ≡ true → s.layout.rank g < s.layout.rank s.function.number
  pub placed : IsLayout s.layout
  pub below : (o x : ℕ) → home s.layout o ≡ Frame x → s.function.live o ≡ true → x < s.function.variables
  pub owned : (o : ℕ) → s.function.live o ≡ true → s.layout.owner o ≡ s.function.number

module _ (s : Setting) where
  abbrev pub MeetsIn : source.State → State → Type 0
  MeetsIn st hs = Meets s.layout s.function.live s.passed s.room st hs

  -- what code has come to; the temporaries below k have kept their values
  pub record Reached (k : ℕ) (st : source.State) (hs : State) (st1 : source.State) (hs1 : State) : Type 0 where
    pub meets : MeetsIn st1 hs1
    pub keeps : (j : ℕ) → s.function.variables ≤ j → j < k → slice_index_or hs1.variables j None ≡ slice_index_or hs.variables j None
    pub untouched : Untouched s.layout (s.layout.rank s.function.number) st.objects st1.objects

  -- code has run to its end, and come to what meets a state of the source
  pub record Went (code : high.Statements) (k : ℕ) (st : source.State) (hs : State) (st1 : source.State) (Has : State → Type 0) : Type 0 where
    pub behind : State
    pub runs : run_all Some s.high_call s.passed code hs ≡ Goes behind
    pub reached : Reached k st hs st1 behind
    pub has : Has behind

  abbrev pub HasValue : high.Expr → ℕ → State → Type 0
  HasValue e v h = value_of s.passed h.variables h.world e ≡ Some v

  -- how code ends that is for a purpose
  abbrev pub way : Purpose → (v : ℕ) → State → Outcome
  way Value v h = Goes h
  way Effect v h = Goes h
  way (Unless depth) v h = choose v (Goes h) (Leaves depth h)
  way (When depth) v h = choose v (Leaves depth h) (Goes h)

  abbrev pub ValueFor : Purpose → high.Expr → ℕ → State → Type 0
  ValueFor Value e v h = HasValue e v h
  ValueFor Effect e v h = Unit {0}
  ValueFor (Unless depth) e v h = Unit {0}
  ValueFor (When depth) e v h = Unit {0}

  pub record Ends (purpose : Purpose) (p : Valued) (k : ℕ) (st : source.State) (hs : State) (range : Kind) (v : ℕ) (st1 : source.State) : Type 0 where
    pub behind : State
    pub runs : run_all Some s.high_call s.passed p.code hs ≡ way purpose v behind
    pub reached : Reached k st hs st1 behind
    pub value : ValueFor purpose p.value v behind
    pub range_is : converted range v ≡ v

  abbrev pub Gives : Purpose → Valued → (k : ℕ) → source.State → State → (range : Kind) → source.Outcome ℕ → Type 0
  Gives purpose p k st hs range (source.Stopped stop) = Unit {0}
  Gives purpose p k st hs range (source.Fine v st1) = Ends purpose p k st hs range v st1

  -- an expression, for each purpose
  pub record Simulates (e : Expr) : Type 0 where
    pub by : (used : Bool) (purpose : Purpose) (k : ℕ) → s.function.variables ≤ k → (st : source.State) (hs : State) → MeetsIn st hs → AllWithin s.room (made s.layout.homes purpose e k).code →
        Gives purpose (made s.layout.homes purpose e k) k st hs (range_of s.layout s.signatures e) (values.value s.layout.variables s.call e used st)

  -- a target where an element was found, of a constant only where the place is one
  abbrev pub Points : Target → (kind : Kind) → (constant : Bool) → Found → State → Type 0
  Points (InFrame x) kind constant found h =
      (home s.layout found.object ≡ Frame x) × (s.function.live found.object ≡ true) × (x < s.function.variables) × (found.index ≡ 0) × (kind_at s.layout found.object ≡ kind)
  Points (InMemory array index) kind constant found h =
      IsArray s.layout found.object array.kind constant (object_number s.passed array.base) × HasValue index found.index h × (array.kind ≡ kind)

  abbrev pub Finds : Aimed → (k : ℕ) → source.State → State → (kind : Kind) → (constant : Bool) → source.Outcome Found → Type 0
  Finds p k st hs kind constant (source.Stopped stop) = Unit {0}
  Finds p k st hs kind constant (source.Fine found st1) = Went p.code k st hs st1 (Points p.target kind constant found)

  pub record Aims (place : Place) : Type 0 where
    pub by : (k : ℕ) → s.function.variables ≤ k → (st : source.State) (hs : State) → MeetsIn st hs → AllWithin s.room (aimed s.layout.homes place k).code →
        Finds (aimed s.layout.homes place k) k st hs (place_kind s.layout place) (place_constant s.layout place) (values.find s.layout.variables s.call place st)

  -- the values and arrays that are passed on
  pub record PassedOn (formals : List Formal) (p : Passing) (words : List ℕ) (h : State) : Type 0 where
    pub vs : List ℕ
    pub ns : List ℕ
    pub values_are : values_of s.passed h.variables h.world p.values ≡ Some vs
    pub arrays_are : objects_of s.passed p.arrays ≡ Some ns
    pub handed : Handed s.layout formals words vs ns

  abbrev pub Passes : (formals : List Formal) → Passing → (k : ℕ) → source.State → State → source.Outcome (List ℕ) → Type 0
  Passes formals p k st hs (source.Stopped stop) = Unit {0}
  Passes formals p k st hs (source.Fine words st1) = Went p.code k st hs st1 (PassedOn formals p words)

  pub record HandsOver (es : Exprs) (formals : List Formal) : Type 0 where
    pub by : (k : ℕ) → s.function.variables ≤ k → (st : source.State) (hs : State) → MeetsIn st hs → AllWithin s.room (passing s.layout.homes es k).code →
        Passes formals (passing s.layout.homes es k) k st hs (values.values s.layout.variables s.call es st)
