-- What is so of a result, by whether it is an error.
use Rattle.std.proofs.Common.{Ok, Err}
use Rattle.std.specs.Prelude.{Result, OnOk, OnErr, IfErr}

module _ {T E : Type 0} where
  pub both_ok : (r : Result T E) (P Q R : Type 0) → (P → Q → R) → OnOk r P → OnOk r Q → OnOk r R
  both_ok (Ok x) P Q R f p q = f p q
  both_ok (Err e) P Q R f p q = tt

  pub either_way : (r : Result T E) (P : Type 0) → OnOk r P → OnErr r P → P
  either_way (Ok x) P p q = p
  either_way (Err e) P p q = q

  pub on_err_any : (r : Result T E) (P : Type 0) → P → OnErr r P
  on_err_any (Ok x) P p = tt
  on_err_any (Err e) P p = p

  -- what follows of an error
  pub marks_where : (r : Result T E) (P : E → Type 0) (Q : Type 0) → ((e : E) → P e → Q) → IfErr r P → OnErr r Q
  marks_where (Ok x) P Q f p = tt
  marks_where (Err e) P Q f p = f e p
