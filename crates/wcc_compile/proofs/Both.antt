-- Two clauses of a last call as one.
use Rattle.std.specs.Prelude.{Result, Ok, Err, IfOk}

pub both : {T E : Type 0} (r : Result T E) (P Q R : T → Type 0) → ((x : T) → P x → Q x → R x) → IfOk r P → IfOk r Q → IfOk r R
both (Ok x) P Q R f p q = f x p q
both (Err y) P Q R f p q = tt
