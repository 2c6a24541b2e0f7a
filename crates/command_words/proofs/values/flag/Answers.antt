use Rattle.std.proofs.Common.{ap, option_map}
use Rattle.clap.specs.Words.{found_of}
use Rattle.command_words.proofs.Getters.{first_of-read}
use Rattle.command_words.proofs.values.flag.Goals as goal

pub returns-in-Some : goal.returns-in-Some
returns-in-Some c = rw (first_of-read (found_of c.args.matches.now) c.args.id.now c.get_str.result _ c.get_str.ensures (ap (option_map (λ s. s.now)) c.in-Some.is)) c.eq.ensures

pub returns-in-None : goal.returns-in-None
returns-in-None c = rw (first_of-read (found_of c.args.matches.now) c.args.id.now c.get_str.result _ c.get_str.ensures (ap (option_map (λ s. s.now)) c.in-None.is))
