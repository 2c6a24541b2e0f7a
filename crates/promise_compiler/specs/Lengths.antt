-- How long the texts of an image and a report are, so that both can be checked.
use Rattle.std.specs.Prelude.{ℕ, ◌<◌, List, length}

pub record AreShort (image_text report_text : List ℕ) : Type 0 where
  pub image : length image_text < 8388608
  pub report : length report_text < 500000000
