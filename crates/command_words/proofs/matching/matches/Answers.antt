use Rattle.std.proofs.Common.{◌∙◌, map, string_bytes}
use Rattle.clap.specs.Words.{app_of, fault_of, is_simple}
use Rattle.clap.specs.Simple.{built}
use Rattle.clap.specs.Faults.{is_free_app}
use Rattle.command_words.proofs.Accepted.{has_cause, left_of, no_cause}
use Rattle.command_words.proofs.matching.matches.Goals as goal

pub returns-in-Ok : goal.returns-in-Ok
returns-in-Ok c =
    let app = app_of c.args.command in
    let words = map string_bytes c.args.words.now in
    record {
      accepted = no_cause (fault_of app words) (c.in-Ok.ensures.kinds c.requires);
      rows = (c.in-Ok.ensures.matches (left_of (is_simple app) (is_free_app (built app)) c.requires)).0;
      parsed = c.in-Ok.ensures.parsed;
    }

pub returns : goal.returns
returns c =
    let words = map string_bytes c.args.words.now in
    has_cause (fault_of (app_of c.args.command) words) c.in-Err.error (λ h. c.in_default.not-OutOfMemory (c.kind.ensures ∙ h)) (c.in-Err.ensures.kinds c.requires)
