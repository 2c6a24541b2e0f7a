-- The commands, as definitions for `clap`.
use Rattle.std.specs.Prelude.{List, [], ◌∷◌, codes}
use Rattle.clap.specs.Words.{App, Rule, Text}
use Rattle.clap.specs.Simple.{new_shape}
use Rattle.command_words.specs.Arguments.{file_rule, placed_number_rule, option_rule, number_rule, flag_rule}

-- a command with these arguments and nothing else
abbrev pub command_with : Text → List Rule → App
command_with name rules = record { top = record (new_shape name) { rules = rules }; subs = [] }

-- `compile SOURCE IMAGE REPORT [--spm N] [--unroll K] [--inline N] [--table FILE] [--derive]`
abbrev pub compile_command : App
compile_command = command_with (codes "compile")
    (file_rule (codes "SOURCE") ∷ file_rule (codes "IMAGE") ∷ file_rule (codes "REPORT")
    ∷ number_rule (codes "spm") 0 65536 ∷ number_rule (codes "unroll") 1 64 ∷ number_rule (codes "inline") 0 10000
    ∷ option_rule (codes "table") ∷ flag_rule (codes "derive") ∷ [])

-- `check IMAGE REPORT [--table FILE]`
abbrev pub check_command : App
check_command = command_with (codes "check")
    (file_rule (codes "IMAGE") ∷ file_rule (codes "REPORT") ∷ option_rule (codes "table") ∷ [])

-- `run IMAGE INPUT OUTPUT [--limit N] [--table FILE]`: the limit is at most 2^62
abbrev pub run_command : App
run_command = command_with (codes "run")
    (file_rule (codes "IMAGE") ∷ file_rule (codes "INPUT") ∷ file_rule (codes "OUTPUT")
    ∷ number_rule (codes "limit") 0 4611686018427387904 ∷ option_rule (codes "table") ∷ [])

-- `eval SOURCE INPUT OUTPUT [--derive]`
abbrev pub eval_command : App
eval_command = command_with (codes "eval")
    (file_rule (codes "SOURCE") ∷ file_rule (codes "INPUT") ∷ file_rule (codes "OUTPUT") ∷ flag_rule (codes "derive") ∷ [])

-- `report REPORT`
abbrev pub report_command : App
report_command = command_with (codes "report") (file_rule (codes "REPORT") ∷ [])

-- `make N SOURCE IMAGE REPORT`
abbrev pub make_command : App
make_command = command_with (codes "make")
    (placed_number_rule (codes "N") 1 100 ∷ file_rule (codes "SOURCE") ∷ file_rule (codes "IMAGE") ∷ file_rule (codes "REPORT") ∷ [])

-- `respond TASKS [--table FILE]`
abbrev pub respond_command : App
respond_command = command_with (codes "respond") (file_rule (codes "TASKS") ∷ option_rule (codes "table") ∷ [])
