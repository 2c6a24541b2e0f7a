-- What has begun and is too deep.
use Rattle.std.proofs.Common.{ℕ, ◌<◌, ◌≤◌, false, IsTrue, arith}

pub deeper : (n : ℕ) → (n ≤ 256 → IsTrue false) → 256 < n
deeper n h = grind (arith, h)
