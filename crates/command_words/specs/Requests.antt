-- What a command line can ask: files by their names, options as they are given.
use Rattle.std.specs.Prelude.{ℕ, ◌||◌, Bool, false, List, [], ◌∷◌, Option, Some, None, unwrap_or}
use Rattle.std.specs.List.{list_any}
use Rattle.std.specs.Str.{bytes_eq}

-- the bytes of a name
abbrev pub Name : Type 0
Name = List ℕ

pub record CompileRequest : Type 0 where
  pub source : Name
  pub image : Name
  pub report : Name
  pub spm : Option ℕ
  pub unroll : Option ℕ
  pub inline : Option ℕ
  pub table : Option Name
  pub derive : Bool

pub record CheckRequest : Type 0 where
  pub image : Name
  pub report : Name
  pub table : Option Name

pub record RunRequest : Type 0 where
  pub image : Name
  pub input : Name
  pub output : Name
  pub limit : Option ℕ
  pub table : Option Name

pub record EvalRequest : Type 0 where
  pub source : Name
  pub input : Name
  pub output : Name
  pub derive : Bool

pub record ReportRequest : Type 0 where
  pub report : Name

pub record MakeRequest : Type 0 where
  pub number : ℕ
  pub source : Name
  pub image : Name
  pub report : Name

pub record RespondRequest : Type 0 where
  pub tasks : Name
  pub table : Option Name

pub data Request : Type 0 where
  Compile : (asked : CompileRequest) → Request
  Check : (asked : CheckRequest) → Request
  Run : (asked : RunRequest) → Request
  Eval : (asked : EvalRequest) → Request
  Report : (asked : ReportRequest) → Request
  Make : (asked : MakeRequest) → Request
  Respond : (asked : RespondRequest) → Request

-- the numbers that hold without their options: no byte of the scratchpad, each loop's body once, no function at its call, 10^9 cycles
abbrev pub scratchpad_of : CompileRequest → ℕ
scratchpad_of r = unwrap_or r.spm 0

abbrev pub factor_of : CompileRequest → ℕ
factor_of r = unwrap_or r.unroll 1

abbrev pub size_of : CompileRequest → ℕ
size_of r = unwrap_or r.inline 0

abbrev pub limit_of : RunRequest → ℕ
limit_of r = unwrap_or r.limit 1000000000

-- the names, and that of a table where there is one
abbrev pub with_table : Option Name → List Name → List Name
with_table (Some table) names = table ∷ names
with_table None names = names

-- the files that a request names
abbrev pub files_of : Request → List Name
files_of (Compile r) = with_table r.table (r.source ∷ r.image ∷ r.report ∷ [])
files_of (Check r) = with_table r.table (r.image ∷ r.report ∷ [])
files_of (Run r) = with_table r.table (r.image ∷ r.input ∷ r.output ∷ [])
files_of (Eval r) = r.source ∷ r.input ∷ r.output ∷ []
files_of (Report r) = r.report ∷ []
files_of (Make r) = r.source ∷ r.image ∷ r.report ∷ []
files_of (Respond r) = with_table r.table (r.tasks ∷ [])

-- two of the names are equal
abbrev pub has_twins : List Name → Bool
has_twins [] = false
has_twins (n ∷ ns) = list_any (λ o. bytes_eq n o) ns || has_twins ns
