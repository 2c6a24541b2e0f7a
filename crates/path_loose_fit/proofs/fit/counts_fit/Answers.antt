use Rattle.std.proofs.Common.{◌≡◌, ◌^◌, true}
use Rattle.std.proofs.lemmas.Result.{IfOk-weaker}
use Rattle.rv_core.specs.Table.{table_of}
use Rattle.path_ranges.specs.Limits.{LooseCountsAreFew, LooseValuesUnder}
use Rattle.path_loose_fit.proofs.FitLemmas.{counts_few}
use Rattle.path_loose_fit.proofs.fit.counts_fit.Goals as goal

pub returns : goal.returns
returns c =
    IfOk-weaker c.values_under.result (λ fits. fits ≡ true → LooseValuesUnder (2 ^ 49) (table_of c.one_each-costs.result) c.args.system.now) (λ fits. fits ≡ true → LooseCountsAreFew c.args.system.now)
    (λ fits few yes_it. counts_few (table_of c.one_each-costs.result) c.args.system.now c.loose_counts_are_below.ensures (record { flash = c.one_each-costs.result.flash.least; spm = c.one_each-costs.result.spm.least }) c.is_system.ensures (few yes_it)) c.values_under.ensures
