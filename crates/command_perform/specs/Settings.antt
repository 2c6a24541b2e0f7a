-- With what a source is compiled.
use Rattle.std.specs.Prelude.{◌≡◌, ℕ, Bool, false}
use Rattle.rv_core.specs.Table.{Table, default_table, table_of}
use Rattle.promise_compiler.specs.declared.built.Options.{Options}
use Rattle.command_words.specs.Requests.{CompileRequest, factor_of, scratchpad_of, size_of}

-- what the words say of a compilation: its costs, whether bounds are derived, and the numbers of `--spm`, `--inline` and `--unroll`
pub record Settings : Type 0 where
  pub costs : Table
  pub derive : Bool
  pub spm : ℕ
  pub inline : ℕ
  pub unroll : ℕ

abbrev pub settings_of : CompileRequest → Table → Settings
settings_of asked costs = record { costs = costs; derive = asked.derive; spm = scratchpad_of asked; inline = size_of asked; unroll = factor_of asked }

-- those of `make`, which takes no options
abbrev pub plain_settings : Settings
plain_settings = record { costs = default_table; derive = false; spm = 0; inline = 0; unroll = 1 }

-- these are the compiler's options
pub record AreOptions (settings : Settings) (options : Options) : Type 0 where
  pub costs_are : table_of options.costs ≡ settings.costs
  pub derive_is : options.derive ≡ settings.derive
  pub spm_is : options.spm ≡ settings.spm
  pub inline_is : options.inline ≡ settings.inline
  pub unroll_is : options.unroll ≡ settings.unroll
