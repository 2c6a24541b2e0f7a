-- A command with arguments, added in turn.
use Rattle.std.proofs.Common.{◌≡◌, ◌∙◌, List, [], ◌∷◌, ◌++◌, sym, ap, append_assoc, append-nil}
use Rattle.clap.specs.Words.{App, Rule, Text, new_app, with_rule}
use Rattle.command_words.specs.Commands.{command_with}

abbrev pub with_rules : App → List Rule → App
with_rules a [] = a
with_rules a (r ∷ rs) = with_rules (with_rule a r) rs

added : (name : Text) (front rs : List Rule) → with_rules (command_with name front) rs ≡ command_with name (front ++ rs)
added name front [] = ap (command_with name) (sym (append-nil front))
added name front (r ∷ rs) = added name (front ++ r ∷ []) rs ∙ ap (command_with name) (append_assoc front (r ∷ []) rs)

pub defined : (name : Text) (rs : List Rule) → with_rules (new_app name) rs ≡ command_with name rs
defined name rs = added name [] rs
