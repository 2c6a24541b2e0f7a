use Rattle.compile_promise.proofs.Sources.{source_shows}
use Rattle.compile_promise.proofs.laws.sources_show.Goals as goal

pub returns : goal.returns
returns c = λ source names facts p made q pl ps s t cert carries compiled input bytes output value counts means. source_shows source names facts p made q pl ps s t cert carries compiled input bytes output value counts means
