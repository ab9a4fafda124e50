-- What an answer says of its value.
use Rattle.std.proofs.Common.{◌≡◌, subst}
use Rattle.std.specs.Prelude.{Result, Ok, Err, IfOk, IfErr}

pub at_ok : {A E : Type 0} (P : A → Type 0) (o : Result A E) (x : A) → o ≡ Ok x → IfOk o P → P x
at_ok {A = A} {E = E} P o x e h = subst (λ (r : Result A E). IfOk r P) e h

pub at_err : {A E : Type 0} (P : E → Type 0) (o : Result A E) (x : E) → o ≡ Err x → IfErr o P → P x
at_err {A = A} {E = E} P o x e h = subst (λ (r : Result A E). IfErr r P) e h

pub ok_map : {A E : Type 0} (P Q : A → Type 0) (o : Result A E) → ((x : A) → P x → Q x) → IfOk o P → IfOk o Q
ok_map P Q (Ok x) f h = f x h
ok_map P Q (Err x) f h = tt

pub err_map : {A E : Type 0} (P Q : E → Type 0) (o : Result A E) → ((x : E) → P x → Q x) → IfErr o P → IfErr o Q
err_map P Q (Ok x) f h = tt
err_map P Q (Err x) f h = f x h

-- what holds of each value holds of an answer's
pub ok_each : {A E : Type 0} (Q : A → Type 0) (o : Result A E) → ((x : A) → Q x) → IfOk o Q
ok_each Q (Ok x) f = f x
ok_each Q (Err x) f = tt
