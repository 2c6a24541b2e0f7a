use Rattle.std.proofs.Common.{sym, refl}
use Rattle.command_words.proofs.Getters.{first_of-read}
use Rattle.clap.specs.Words.{found_of}
use Rattle.command_words.proofs.values.option.Goals as goal

pub returns : goal.returns
returns c = sym (first_of-read (found_of c.args.matches.now) c.args.id.now c.get_str.result _ c.get_str.ensures refl)
