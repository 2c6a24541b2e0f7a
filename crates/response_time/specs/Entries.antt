-- The tasks of a list: what each line says.
use Rattle.std.specs.Prelude.{◌≡◌, ℕ, ◌<◌, ◌≤◌, ◌^◌, ◌&&◌, ◌||◌, List, [], ◌∷◌, length, take, map, slice_index_or, All, Bool, true, false, nat_le, codes, bytes_eq}
use Rattle.std.specs.Fmt.{decimal}
use Rattle.report_words.specs.Words.{Word, Line, is_name}
use Rattle.response_time.specs.declared.entry.Entry.{Entry}

-- visible bytes of ASCII
abbrev pub are_visible : List ℕ → Bool
are_visible [] = true
are_visible (b ∷ bs) = (nat_le 33 b && nat_le b 126) && are_visible bs

-- the name of a file
abbrev pub is_file : Word → Bool
is_file [] = false
is_file (b ∷ bs) = are_visible (b ∷ bs)

-- the line of a task: its words
abbrev pub task_line : Entry → Line
task_line e = codes "task" ∷ e.name ∷ decimal e.period ∷ e.image ∷ e.report ∷ []

pub record IsEntry (e : Entry) : Type 0 where
  pub named : is_name e.name ≡ true
  pub positive : 0 < e.period
  pub short : e.period ≤ 10 ^ 12
  pub image_named : is_file e.image ≡ true
  pub report_named : is_file e.report ≡ true

abbrev pub names_of : List Entry → List Word
names_of es = map (λ (e : Entry). e.name) es

abbrev pub is_among : List Word → Word → Bool
is_among [] name = false
is_among (n ∷ ns) name = bytes_eq n name || is_among ns name

-- no name stands among those before it
abbrev pub AreDistinct : List Word → Type 0
AreDistinct names = (k : ℕ) → k < length names → is_among (take k names) (slice_index_or names k []) ≡ false

pub record AreEntries (es : List Entry) : Type 0 where
  pub each : All IsEntry es
  pub distinct : AreDistinct (names_of es)
