use Rattle.compile_promise.proofs.Shown.{image_shows}
use Rattle.compile_promise.proofs.laws.images_show.Goals as goal

pub returns : goal.returns
returns c = λ old p made q pl ps s t cert carries compiled input bytes shown is. image_shows old made shown p q pl ps s t cert compiled input bytes is carries
